-- Restrictions as they are kept: what a place among them tells, and that edits keep them so.
use Rattle.std.proofs.Common.{◌≡◌, ◌≤◌, ◌<◌, ◌+◌, ℕ, suc, List, [], ◌∷◌, ◌++◌, true, Some, None, Err, length, get_or, map, take, drop, refl, sym, ap, ◌∙◌, arith, inl, inr}
use Rattle.std.proofs.lemmas.Bool.{cases_Bool}
use Rattle.std.proofs.lemmas.List.{get_or_default, length-map, length-take-le, length_push}
use Rattle.std.proofs.lemmas.List.Edits.{length-insert, length-remove}
use Rattle.std.proofs.lemmas.List.Quantifiers.{position-Some}
use Rattle.std.specs.List.{find, insert, position, remove}
use Rattle.std.specs.Option.{option_map}
use Rattle.std.specs.Str.{bytes_eq}
use Rattle.unit_rules.specs.declared.Zone.{Zone}
use Rattle.restrictions.specs.declared.force.EditFault.TheVariants.{Present}
use Rattle.restrictions.specs.Force.{AreDistinct, has_id, most_in_force, put_in, without, zone_of}
use Rattle.restrictions.specs.Seats.{IsInOrder, IsKept, Seat, closed_up, id_at, moved_up, place_of, seat_at, seats_of}
use Rattle.restrictions.proofs.FindFacts.{about, find-none_append, find-none_before, find-position, find-position_none, position-end, position-none, position-past, position-without}
use Rattle.restrictions.proofs.ForceFacts.{AreDistinct-back, AreDistinct-push, AreDistinct-skip, put_in-present, without-one, zone_of-none}
use Rattle.restrictions.proofs.PlaceFacts.{seats_of-at, seats_of-closed_up, seats_of-put, seats_of-remove}
use Rattle.restrictions.proofs.SeatFacts.{IsInOrder-moved_up, IsInOrder-none, IsInOrder-remove, bytes_eq-same, not_found, place_of-at, place_of-gone, place_of-moved_up, place_of-new, place_of-other, place_of-stays, same_from_bytes_eq}

-- nothing in force is kept so
pub IsKept-none : (pair_room place_room : ℕ) → IsKept [] 0 [] pair_room place_room
IsKept-none pair_room place_room = record {
  force = record { distinct = tt; few = omega arith };
  order = IsInOrder-none;
  stands = λ id. refl;
  pairs_fit = omega arith;
  places_fit = omega arith;
}

-- where no seat has an ID, it isn't in force
pub zone_of-free : {pairs : List (List ℕ × Zone)} {spare : ℕ} {places : List ℕ} {a b : ℕ} (id : List ℕ) → IsKept pairs spare places a b → place_of id (seats_of pairs places) ≡ None → zone_of id pairs ≡ None
zone_of-free {pairs = pairs} id kept free = zone_of-none id pairs (find-position_none (has_id id) pairs (sym (kept.stands id) ∙ free))

-- where one has, its place is that of the restriction
pub record IsSeated (pairs : List (List ℕ × Zone)) (id : List ℕ) (place : ℕ) : Type 0 where
  pub within : place < length pairs
  pub has : (d : List ℕ × Zone) → has_id id (get_or pairs place d) ≡ true
  pub zone : (d : List ℕ × Zone) → zone_of id pairs ≡ Some (get_or pairs place d).1
  pub before : find (has_id id) (take place pairs) ≡ None

seated_at : (pairs : List (List ℕ × Zone)) (id : List ℕ) (place : ℕ) → position (has_id id) pairs ≡ Some place → IsSeated pairs id place
seated_at pairs id place at =
    let none : Zone = record { from = 0; to = 0; kmh = 0 } in
    record {
      within = (position-Some (has_id id) pairs place ([], none) at).0;
      has = λ d. (position-Some (has_id id) pairs place d at).1;
      zone = λ d. ap (option_map (λ (p : List ℕ × Zone). p.1)) (find-position (has_id id) pairs place d at);
      before = find-none_before (has_id id) pairs place at;
    }

-- so each place that is kept is one of the list
said_at : {pairs : List (List ℕ × Zone)} {spare : ℕ} {places : List ℕ} {a b : ℕ} (n place : ℕ) → IsKept pairs spare places a b → n < length places → place ≡ get_or places n place → position (has_id (id_at pairs place)) pairs ≡ Some place
said_at {pairs = pairs} {places = places} n place kept l is =
    let seats = seats_of pairs places in
    let long = length-map places (seat_at pairs) in
    let seat = seats_of-at pairs places n (seat_at pairs place) place l ∙ ap (seat_at pairs) (sym is) in
    let at = place_of-at seats n (seat_at pairs place) kept.order (omega arith) in
    sym (kept.stands (id_at pairs place)) ∙ rw seat at at

pub within : {pairs : List (List ℕ × Zone)} {spare : ℕ} {places : List ℕ} {a b : ℕ} (n d : ℕ) → IsKept pairs spare places a b → n < length places → get_or places n d < length pairs
within {pairs = pairs} {places = places} n d kept l =
    let none : Zone = record { from = 0; to = 0; kmh = 0 } in
    let place = get_or places n d in
    (position-Some (has_id (id_at pairs place)) pairs place ([], none) (said_at n place kept l (get_or_default places n d place l))).0

pub seated : {pairs : List (List ℕ × Zone)} {spare : ℕ} {places : List ℕ} {a b : ℕ} (n place : ℕ) (id : List ℕ) → IsKept pairs spare places a b → n < length places → place ≡ get_or places n place
    → id_at pairs (get_or places n place) ≡ id → IsSeated pairs id place
seated {pairs = pairs} {places = places} n place id kept l is has =
    let same : id_at pairs place ≡ id = ap (id_at pairs) is ∙ has in
    let said = said_at n place kept l is in
    seated_at pairs id place (rw same at said)

-- and a `put` of an ID that has one is refused
pub put_in-seated : {pairs : List (List ℕ × Zone)} {spare : ℕ} {places : List ℕ} {a b : ℕ} (n : ℕ) (id : List ℕ) (zone : Zone) → IsKept pairs spare places a b → n < length places → ((d : ℕ) → id_at pairs (get_or places n d) ≡ id)
    → put_in id zone pairs ≡ Err Present
put_in-seated {pairs = pairs} {places = places} n id zone kept l has =
    let place = get_or places n 0 in
    let is = seated n place id kept l (get_or_default places n 0 place l) (has place) in
    put_in-present id zone (get_or pairs place (id, zone)).1 pairs (is.zone (id, zone))

-- a `put` keeps them so
put_places : (pairs : List (List ℕ × Zone)) (seats : List Seat) (n : ℕ) (id : List ℕ) (zone : Zone) (place : ℕ) (q : List ℕ) → ((i : List ℕ) → place_of i seats ≡ position (has_id i) pairs) → place_of id seats ≡ None → place ≡ length pairs
    → place_of q (insert seats n (record { id = id; place = place })) ≡ position (has_id q) (pairs ++ (id, zone) ∷ [])
put_places pairs seats n id zone place q places free at = elim (cases_Bool (bytes_eq id q)) [
  | inl same ↦
      let is = same_from_bytes_eq id q same in
      let none = find-position_none (has_id id) pairs (sym (places id) ∙ free) in
      rw (← is) (place_of-new seats (record { id = id; place = place }) n free ∙ ap Some at ∙ sym (position-end (has_id id) pairs (id, zone) none (bytes_eq-same id)))
  | inr other ↦ place_of-other seats (record { id = id; place = place }) n q other ∙ places q ∙ sym (position-past (has_id q) pairs (id, zone) other)
]

pub IsKept-put : {pairs : List (List ℕ × Zone)} {spare : ℕ} {places : List ℕ} {a b : ℕ} (n : ℕ) (id : List ℕ) (zone : Zone) (place new_spare new_a new_b : ℕ) → IsKept pairs spare places a b → n ≤ length places
    → place_of id (seats_of pairs places) ≡ None → ((p : ℕ) → IsInOrder (insert (seats_of pairs places) n (record { id = id; place = p }))) → place ≡ length pairs → length pairs < most_in_force
    → length pairs + 1 + new_spare ≤ new_a → length places + 1 + new_spare ≤ new_b → IsKept (pairs ++ (id, zone) ∷ []) new_spare (insert places n place) new_a new_b
IsKept-put {pairs = pairs} {places = places} n id zone place new_spare new_a new_b kept l free order at few pairs_fit places_fit =
    let longer = length_push pairs (id, zone) in
    let more = length-insert places n place l in
    let seats = seats_of-put pairs id zone places n place (λ k d m. within k d kept m) at in
    record {
      force = record { distinct = AreDistinct-push pairs id zone (zone_of-free id kept free) kept.force.distinct; few = omega arith };
      order = rw seats (order place);
      stands = λ q. rw seats (put_places pairs (seats_of pairs places) n id zone place q kept.stands free at);
      pairs_fit = omega arith;
      places_fit = omega arith;
    }

-- what is left of a list where one restriction goes
pub remove-without : (pairs : List (List ℕ × Zone)) (id : List ℕ) (place : ℕ) (d : List ℕ × Zone) → AreDistinct pairs → IsSeated pairs id place → remove pairs place ≡ without id pairs
remove-without pairs id place d distinct is =
    let p = get_or pairs place d in
    let split = about pairs place d is.within in
    let same = same_from_bytes_eq p.0 id (is.has d) in
    let behind = AreDistinct-back (take place pairs) p (drop (suc place) pairs) (rw split at distinct) in
    sym (ap (without id) split ∙ without-one id (take place pairs) p (drop (suc place) pairs) is.before (is.has d) (rw same at behind))

-- a `take` keeps them so
take_places : (pairs : List (List ℕ × Zone)) (seats : List Seat) (n : ℕ) (seat : Seat) (id : List ℕ) (d : List ℕ × Zone) (q : List ℕ) → ((i : List ℕ) → place_of i seats ≡ position (has_id i) pairs) → IsInOrder seats
    → AreDistinct pairs → n < length seats → (get_or seats n seat).id ≡ id → IsSeated pairs id seat.place
    → place_of q (map (moved_up seat.place) (remove seats n)) ≡ position (has_id q) (remove pairs seat.place)
take_places pairs seats n seat id d q places order distinct l has is =
    let left = seat.place in
    let p = get_or pairs left d in
    let split = about pairs left d is.within in
    let same = same_from_bytes_eq p.0 id (is.has d) in
    let moved = place_of-moved_up left (remove seats n) q in
    elim (cases_Bool (bytes_eq id q)) [
      | inl e ↦
          let gone : place_of id (remove seats n) ≡ None = rw has at (place_of-gone seats n seat order l) in
          let behind = AreDistinct-back (take left pairs) p (drop (suc left) pairs) (rw split at distinct) in
          let none = position-none (has_id id) (remove pairs left) (find-none_append (has_id id) (take left pairs) (drop (suc left) pairs) is.before (rw same at behind)) in
          rw (← same_from_bytes_eq id q e) (place_of-moved_up left (remove seats n) id ∙ ap (option_map (closed_up left)) gone ∙ sym none)
      | inr e ↦
          let stays = place_of-stays seats n seat q l (ap (λ i. bytes_eq i q) has ∙ e) in
          let long = length-take-le left pairs (omega (arith, is.within)) in
          let without_it = position-without (has_id q) left (take left pairs) p (drop (suc left) pairs) (ap (λ i. bytes_eq i q) same ∙ e) (sym long) in
          moved ∙ ap (option_map (closed_up left)) (stays ∙ places q ∙ ap (position (has_id q)) split) ∙ sym without_it
    ]

pub IsKept-take : {pairs : List (List ℕ × Zone)} {spare : ℕ} {places : List ℕ} {a b : ℕ} (n place : ℕ) (id : List ℕ) (d : List ℕ × Zone) → IsKept pairs spare places a b → n < length places → place ≡ get_or places n place
    → id_at pairs (get_or places n place) ≡ id → IsSeated pairs id place → IsKept (remove pairs place) (spare + 1) (map (closed_up place) (remove places n)) a b
IsKept-take {pairs = pairs} {places = places} n place id d kept l at has is =
    let seats = seats_of pairs places in
    let seat = seat_at pairs place in
    let long = length-map places (seat_at pairs) in
    let here = seats_of-at pairs places n seat place l ∙ ap (seat_at pairs) (sym at) in
    let same : id_at pairs place ≡ id = ap (id_at pairs) at ∙ has in
    let taken : (get_or seats n seat).id ≡ id = rw here same in
    let gone : place_of (id_at pairs place) (remove seats n) ≡ None = rw here at (place_of-gone seats n seat kept.order (omega arith)) in
    let left = seats_of-remove pairs places n in
    let none = not_found (λ (s : Seat). s.place) (find (λ (s : Seat). bytes_eq s.id (id_at pairs place)) (remove seats n)) gone in
    let moved : seats_of (remove pairs place) (map (closed_up place) (remove places n)) ≡ map (moved_up place) (remove seats n) = seats_of-closed_up pairs place (remove places n) is.within (rw left none) ∙ ap (map (moved_up place)) left in
    let split = about pairs place d is.within in
    let shorter = length-remove pairs place is.within in
    let fewer = length-remove places n l in
    let as_many = length-map (remove places n) (closed_up place) in
    let few = kept.force.few in
    let pairs_fit = kept.pairs_fit in
    let places_fit = kept.places_fit in
    record {
      force = record { distinct = AreDistinct-skip (take place pairs) (get_or pairs place d) (drop (suc place) pairs) (rw split at kept.force.distinct); few = omega arith };
      order = rw moved (IsInOrder-moved_up place (remove seats n) (IsInOrder-remove seats n seat (omega arith) kept.order));
      stands = λ q. rw moved (take_places pairs seats n seat id d q kept.stands kept.order kept.force.distinct (omega arith) taken is);
      pairs_fit = omega arith;
      places_fit = omega arith;
    }
