-- Places as the seats that they stand for: what halving finds among them, and how they follow the list of those in force.
use Rattle.std.proofs.Common.{◌≡◌, ◌<◌, ◌+◌, ◌-◌, ℕ, suc, List, [], ◌∷◌, ◌++◌, false, None, Result, Ok, Err, IfOk, length, get_or, map, refl, sym, ap, ◌∙◌, arith, inl, inr}
use Rattle.std.proofs.lemmas.Bool.{cases_lt, le-ltb, lt-ltb, true≢false}
use Rattle.std.proofs.lemmas.List.{drop-map, get_or-map, get_or_append_left, get_or_push, length-map, map-append, take-map}
use Rattle.std.proofs.lemmas.List.Edits.{get_or-remove_above, get_or-remove_below}
use Rattle.std.specs.List.{HoldsAt, find, insert, remove}
use Rattle.std.specs.List.Sorted.{IsBinarySearchResult, IsSearchInRange}
use Rattle.std.specs.Str.{bytes_eq}
use Rattle.unit_rules.specs.declared.Zone.{Zone}
use Rattle.restrictions.specs.Seats.{Seat, closed_up, id_at, moved_up, seat_at, seats_of}
use Rattle.restrictions.proofs.FindFacts.{find-none_head, find-none_tail}
use Rattle.restrictions.proofs.SeatFacts.{bytes_eq-same, order, same_from_equal}

-- the seat of a place
pub seats_of-at : (pairs : List (List ℕ × Zone)) (places : List ℕ) (k : ℕ) (d : Seat) (e : ℕ) → k < length places → get_or (seats_of pairs places) k d ≡ seat_at pairs (get_or places k e)
seats_of-at pairs places k d e l = get_or-map (seat_at pairs) places k e d l

-- what halving finds: a place with the ID
pub found_place : (pairs : List (List ℕ × Zone)) (places : List ℕ) (id : List ℕ) (r : Result ℕ ℕ) → IsBinarySearchResult (λ p. order (id_at pairs p) id) places r → IfOk r (HoldsAt (λ p. id_at pairs p ≡ id) places)
found_place pairs places id (Ok k) h = λ d. same_from_equal (id_at pairs (get_or places k d)) id (h d)
found_place pairs places id (Err k) h = tt

-- what it finds among the places it finds among their seats
pub halved_seats : (pairs : List (List ℕ × Zone)) (places : List ℕ) (id : List ℕ) (r : Result ℕ ℕ) → IsSearchInRange r (length places) → IsBinarySearchResult (λ p. order (id_at pairs p) id) places r
    → IsBinarySearchResult (λ s. order s.id id) (seats_of pairs places) r
halved_seats pairs places id (Ok k) l h = λ d. rw (seats_of-at pairs places k d d.place l) (h d.place)
halved_seats pairs places id (Err k) l h = λ rises.
    let long = length-map places (seat_at pairs) in
    let parted = h (λ i j d le m.
    let d_seat = seat_at pairs d in
    let risen = rises i j d_seat le (omega arith) in
    rw (seats_of-at pairs places i d_seat d (omega arith), seats_of-at pairs places j d_seat d m) at risen) in (
      λ j d low m. rw (seats_of-at pairs places j d d.place (omega arith)) (parted.0 j d.place low m),
      λ j d low m. rw (seats_of-at pairs places j d d.place (omega arith)) (parted.1 j d.place low (omega arith)),
    )

pub in_range : (pairs : List (List ℕ × Zone)) (places : List ℕ) (r : Result ℕ ℕ) → IsSearchInRange r (length places) → IsSearchInRange r (length (seats_of pairs places))
in_range pairs places r l = rw (length-map places (seat_at pairs)) l

-- a seat for each place more or less
pub seats_of-insert : (pairs : List (List ℕ × Zone)) (places : List ℕ) (n place : ℕ) → seats_of pairs (insert places n place) ≡ insert (seats_of pairs places) n (seat_at pairs place)
seats_of-insert pairs places n place = rw (map-append, take-map, drop-map) refl

pub seats_of-remove : (pairs : List (List ℕ × Zone)) (places : List ℕ) (n : ℕ) → seats_of pairs (remove places n) ≡ remove (seats_of pairs places) n
seats_of-remove pairs places n = rw (map-append, take-map, drop-map) refl

-- one more restriction behind the others changes no seat
pub seats_of-push : (pairs : List (List ℕ × Zone)) (p : List ℕ × Zone) (places : List ℕ) → ((k d : ℕ) → k < length places → get_or places k d < length pairs) → seats_of (pairs ++ p ∷ []) places ≡ seats_of pairs places
seats_of-push pairs p [] within = refl
seats_of-push pairs p (place ∷ places) within =
    let here : id_at (pairs ++ p ∷ []) place ≡ id_at pairs place = ap (λ (q : List ℕ × Zone). q.0) (get_or_append_left pairs (p ∷ []) _ place (within 0 0 (omega arith))) in
    rw here (ap (λ (seats : List Seat). seat_at pairs place ∷ seats) (seats_of-push pairs p places (λ k d l. within (suc k) d (omega arith))))

pub seats_of-put : (pairs : List (List ℕ × Zone)) (id : List ℕ) (zone : Zone) (places : List ℕ) (n place : ℕ) → ((k d : ℕ) → k < length places → get_or places k d < length pairs) → place ≡ length pairs
    → seats_of (pairs ++ (id, zone) ∷ []) (insert places n place) ≡ insert (seats_of pairs places) n (record { id = id; place = place })
seats_of-put pairs id zone places n place within at =
    let new : id_at (pairs ++ (id, zone) ∷ []) place ≡ id = ap (λ (q : List ℕ × Zone). q.0) (get_or_push pairs (id, zone) _ place (sym at)) in
    let seat : Seat = record { id = id; place = place } in
    let stays = seats_of-push pairs (id, zone) places within in
    seats_of-insert (pairs ++ (id, zone) ∷ []) places n place ∙ rw (new, stays) refl

-- where a restriction goes, the others keep their IDs at the places that close up
id_at-closed_up : (pairs : List (List ℕ × Zone)) (left place : ℕ) → left < length pairs → bytes_eq (id_at pairs place) (id_at pairs left) ≡ false → id_at (remove pairs left) (closed_up left place) ≡ id_at pairs place
id_at-closed_up pairs left place l other = elim (cases_lt left place) [
  | inl above ↦
      let back : place - 1 + 1 ≡ place = omega arith in
      let moved = get_or-remove_above pairs left ([], record { from = 0; to = 0; kmh = 0 }) (place - 1) (omega arith) l in
      rw (lt-ltb left place above) (ap (λ (q : List ℕ × Zone). q.0) moved ∙ ap (id_at pairs) back)
  | inr not_above ↦ elim (cases_lt place left) [
    | inl below ↦ rw (le-ltb left place not_above) (ap (λ (q : List ℕ × Zone). q.0) (get_or-remove_below pairs left _ place below l))
    | inr not_below ↦
        let same : place ≡ left = omega arith in
        absurd (true≢false (sym (bytes_eq-same (id_at pairs left)) ∙ ap (λ p. bytes_eq (id_at pairs p) (id_at pairs left)) (sym same) ∙ other))
  ]
]

pub seats_of-closed_up : (pairs : List (List ℕ × Zone)) (left : ℕ) (places : List ℕ) → left < length pairs → find (λ s. bytes_eq s.id (id_at pairs left)) (seats_of pairs places) ≡ None
    → seats_of (remove pairs left) (map (closed_up left) places) ≡ map (moved_up left) (seats_of pairs places)
seats_of-closed_up pairs left [] l none = refl
seats_of-closed_up pairs left (place ∷ places) l none =
    let test = λ (s : Seat). bytes_eq s.id (id_at pairs left) in
    let other = find-none_head test (seat_at pairs place) (seats_of pairs places) none in
    let rest = seats_of-closed_up pairs left places l (find-none_tail test (seat_at pairs place) (seats_of pairs places) none) in
    rw (id_at-closed_up pairs left place l other) (ap (λ (seats : List Seat). moved_up left (seat_at pairs place) ∷ seats) rest)
