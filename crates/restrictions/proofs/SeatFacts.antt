-- Seats in the order of their IDs: which of them an ID has, and how one more or less keeps the order.
use Rattle.std.proofs.Common.{◌≡◌, ◌≤◌, ◌<◌, ◌+◌, ℕ, suc, List, [], ◌∷◌, ◌++◌, true, false, Option, Some, None, Result, Ok, Err, IfErr, Ordering, length, get_or, map, take, drop, refl, sym, ap, ◌∙◌, arith, inl, inr}
use Rattle.std.proofs.lemmas.Bool.{cases_Bool, cases_lt, false_from_ne_true, true≢false}
use Rattle.std.proofs.lemmas.Cmp.{nat_list_cmp_total}
use Rattle.std.proofs.lemmas.List.{get_or-drop, get_or-map, get_or-take, get_or_default, length-drop, length-map, length-take-le, map-append, take-append-drop}
use Rattle.std.proofs.lemmas.List.Sorted.{searchable_from_sorted}
use Rattle.std.proofs.lemmas.Map.Keys.{Less-from_sorted}
use Rattle.std.proofs.lemmas.Map.Text.{is_eq-slice_cmp}
use Rattle.std.proofs.lemmas.Slice.Eq.{bytes_eq-Decides}
use Rattle.std.specs.Cmp.Lexicographic.{slice_cmp}
use Rattle.std.specs.List.{AllByRecursion, find, insert, remove}
use Rattle.std.specs.List.Sorted.{IsBinarySearchResult, IsNonDecreasingBy, IsPartitionPoint, IsSearchInRange, IsSortedBy, IsStrictlySortedBy}
use Rattle.std.specs.Option.{option_map}
use Rattle.std.specs.Ordering.{is_eq, is_lt, nat_cmp, ordering_index}
use Rattle.std.specs.declared.cmp.Ordering.TheVariants.{Equal, Greater, Less}
use Rattle.std.specs.Str.{bytes_eq}
use Rattle.restrictions.specs.Seats.{IsInOrder, Seat, closed_up, moved_up, place_of}
use Rattle.restrictions.proofs.FindFacts.{about, find-at, find-none, find-none_append, find-none_front, find-skip}

-- the order of IDs, by their bytes
abbrev pub order : List ℕ → List ℕ → Ordering
order = slice_cmp nat_cmp

-- equal bytes
pub bytes_eq-same : (a : List ℕ) → bytes_eq a a ≡ true
bytes_eq-same a = (bytes_eq-Decides a a).1 refl

pub same_from_bytes_eq : (a b : List ℕ) → bytes_eq a b ≡ true → a ≡ b
same_from_bytes_eq a b e = (bytes_eq-Decides a b).0 e

pub bytes_eq-back : (a b : List ℕ) → bytes_eq a b ≡ false → bytes_eq b a ≡ false
bytes_eq-back a b e = false_from_ne_true (bytes_eq b a) (λ h. true≢false (sym ((bytes_eq-Decides a b).1 (sym (same_from_bytes_eq b a h))) ∙ e))

-- bytes before or behind others are no equal ones
apart : (a b : List ℕ) (o : Ordering) → order a b ≡ o → is_eq o ≡ false → bytes_eq a b ≡ false
apart a b o e h = sym (is_eq-slice_cmp a b) ∙ ap is_eq e ∙ h

pub apart-less : (a b : List ℕ) → order a b ≡ Less → bytes_eq a b ≡ false
apart-less a b e = apart a b Less e refl

pub apart-greater : (a b : List ℕ) → order a b ≡ Greater → bytes_eq a b ≡ false
apart-greater a b e = apart a b Greater e refl

pub same_from_equal : (a b : List ℕ) → order a b ≡ Equal → a ≡ b
same_from_equal a b e = same_from_bytes_eq a b (sym (is_eq-slice_cmp a b) ∙ ap is_eq e)

pub less_from_greater : (a b : List ℕ) → order a b ≡ Greater → order b a ≡ Less
less_from_greater a b e = let flipped = nat_list_cmp_total.antisymm b a in rw e at flipped

pub greater_from_less : (a b : List ℕ) → order a b ≡ Less → order b a ≡ Greater
greater_from_less a b e = let flipped = nat_list_cmp_total.antisymm b a in rw e at flipped

-- keys keep their order where one goes
all_without : (P : List ℕ → Type 0) (front : List (List ℕ)) (x : List ℕ) (back : List (List ℕ)) → AllByRecursion P (front ++ x ∷ back) → AllByRecursion P (front ++ back)
all_without P [] x back h = h.1
all_without P (y ∷ front) x back h = (h.0, all_without P front x back h.1)

pub sorted-without : (front : List (List ℕ)) (x : List ℕ) (back : List (List ℕ)) → IsStrictlySortedBy order (front ++ x ∷ back) → IsStrictlySortedBy order (front ++ back)
unfolding IsStrictlySortedBy
sorted-without [] x back h = h.1
sorted-without (y ∷ front) x back h = (all_without (λ k. order y k ≡ Less) front x back h.0, sorted-without front x back h.1)

-- and where one comes between those below it and those above
all_with : (P : List ℕ → Type 0) (front : List (List ℕ)) (x : List ℕ) (back : List (List ℕ)) → P x → AllByRecursion P (front ++ back) → AllByRecursion P (front ++ x ∷ back)
all_with P [] x back p h = (p, h)
all_with P (y ∷ front) x back p h = (h.0, all_with P front x back p h.1)

pub sorted-with : (front : List (List ℕ)) (x : List ℕ) (back : List (List ℕ)) → AllByRecursion (λ k. order k x ≡ Less) front → AllByRecursion (λ k. order x k ≡ Less) back
    → IsStrictlySortedBy order (front ++ back) → IsStrictlySortedBy order (front ++ x ∷ back)
unfolding IsStrictlySortedBy
sorted-with [] x back below above h = (above, h)
sorted-with (y ∷ front) x back below above h = (all_with (λ k. order y k ≡ Less) front x back below.0 h.0, sorted-with front x back below.1 above h.1)

-- seats in order can be searched by halving
not_less : (a b : List ℕ) → order a b ≡ Less → is_lt (order b a) ≡ false
not_less a b e = ap is_lt (greater_from_less a b e)

sorted_by_id : (seats : List Seat) → IsInOrder seats → IsSortedBy (λ a b. is_lt (order a.id b.id)) seats
sorted_by_id seats h k d low l =
    let keys = map (λ (s : Seat). s.id) seats in
    let long = length-map seats (λ (s : Seat). s.id) in
    let less = Less-from_sorted order keys k (k + 1) d.id h (omega arith) (omega arith) in
    let here = get_or-map (λ (s : Seat). s.id) seats k d d.id (omega arith) in
    let next = get_or-map (λ (s : Seat). s.id) seats (k + 1) d d.id (omega arith) in
    not_less (get_or seats k d).id (get_or seats (k + 1) d).id (rw (here, next) at less)

pub searchable : (seats : List Seat) (id : List ℕ) → IsInOrder seats → IsNonDecreasingBy (λ s. ordering_index (order s.id id)) seats
searchable seats id h = searchable_from_sorted nat_list_cmp_total (λ (s : Seat). s.id) seats id (sorted_by_id seats h)

-- all IDs of some seats have P where each has
all_ids : (P : List ℕ → Type 0) (seats : List Seat) → ((k : ℕ) (d : Seat) → k < length seats → P (get_or seats k d).id) → AllByRecursion P (map (λ s. s.id) seats)
all_ids P [] h = tt
all_ids P (s ∷ seats) h = (h 0 s (omega arith), all_ids P seats (λ k d l. h (suc k) d (omega arith)))

-- no seat has an ID where all before a place are below it and all from there on above
pub place_of-free : (seats : List Seat) (id : List ℕ) (n : ℕ) → IsPartitionPoint (λ s. order s.id id ≡ Less) (λ s. order s.id id ≡ Greater) seats n → place_of id seats ≡ None
place_of-free seats id n parted =
    ap (option_map (λ (s : Seat). s.place)) (find-none (λ s. bytes_eq s.id id) seats (λ k d l. elim (cases_lt k n) [
      | inl below ↦ apart-less (get_or seats k d).id id (parted.0 k d (omega arith) below)
      | inr above ↦ apart-greater (get_or seats k d).id id (parted.1 k d above l)
    ]))

-- and there a seat for it keeps the order
pub IsInOrder-insert : (seats : List Seat) (seat : Seat) (n : ℕ) → n ≤ length seats → IsPartitionPoint (λ s. order s.id seat.id ≡ Less) (λ s. order s.id seat.id ≡ Greater) seats n → IsInOrder seats → IsInOrder (insert seats n seat)
IsInOrder-insert seats seat n l parted h =
    let id_of = λ (s : Seat). s.id in
    let front = length-take-le n seats l in
    let back = length-drop n seats in
    let below = all_ids (λ k. order k seat.id ≡ Less) (take n seats) (λ k d m. let at : k < n = omega arith in rw get_or-take (parted.0 k d (omega arith) at)) in
    let above = all_ids (λ k. order seat.id k ≡ Less) (drop n seats) (λ k d m. rw get_or-drop (less_from_greater (get_or seats (n + k) d).id seat.id (parted.1 (n + k) d (omega arith) (omega arith)))) in
    let whole : map id_of (take n seats) ++ map id_of (drop n seats) ≡ map id_of seats = sym (map-append id_of (take n seats) (drop n seats)) ∙ ap (map id_of) (take-append-drop n seats) in
    rw map-append (sorted-with (map id_of (take n seats)) seat.id (map id_of (drop n seats)) below above (rw whole h))

pub IsInOrder-remove : (seats : List Seat) (n : ℕ) (d : Seat) → n < length seats → IsInOrder seats → IsInOrder (remove seats n)
IsInOrder-remove seats n d l h =
    let id_of = λ (s : Seat). s.id in
    let whole : map id_of seats ≡ map id_of (take n seats) ++ (get_or seats n d).id ∷ map id_of (drop (suc n) seats) = ap (map id_of) (about seats n d l) ∙ map-append id_of (take n seats) _ in
    rw map-append (sorted-without (map id_of (take n seats)) (get_or seats n d).id (map id_of (drop (suc n) seats)) (rw whole at h))

-- the seats before another have other IDs, and so have those behind it
less_between : (seats : List Seat) (j k : ℕ) (d : Seat) → IsInOrder seats → j < k → k < length seats → order (get_or seats j d).id (get_or seats k d).id ≡ Less
less_between seats j k d h l m =
    let long = length-map seats (λ (s : Seat). s.id) in
    let less = Less-from_sorted order (map (λ (s : Seat). s.id) seats) j k d.id h l (omega arith) in
    rw (get_or-map (λ (s : Seat). s.id) seats j d d.id (omega arith), get_or-map (λ (s : Seat). s.id) seats k d d.id m) at less

none_before : (seats : List Seat) (n : ℕ) (d : Seat) → IsInOrder seats → n < length seats → find (λ s. bytes_eq s.id (get_or seats n d).id) (take n seats) ≡ None
none_before seats n d h l = find-none (λ s. bytes_eq s.id (get_or seats n d).id) (take n seats) (λ k e m.
    let front = length-take-le n seats (omega arith) in
    let at : k < n = omega arith in
    let same = get_or_default seats k e d (omega arith) in
    ap (λ (s : Seat). bytes_eq s.id (get_or seats n d).id) (get_or-take n seats k e at ∙ same) ∙ apart-less (get_or seats k d).id (get_or seats n d).id (less_between seats k n d h at l))

none_behind : (seats : List Seat) (n : ℕ) (d : Seat) → IsInOrder seats → n < length seats → find (λ s. bytes_eq s.id (get_or seats n d).id) (drop (suc n) seats) ≡ None
none_behind seats n d h l = find-none (λ s. bytes_eq s.id (get_or seats n d).id) (drop (suc n) seats) (λ k e m.
    let back = length-drop (suc n) seats in
    let same = get_or_default seats (suc n + k) e d (omega arith) in
    ap (λ (s : Seat). bytes_eq s.id (get_or seats n d).id) (get_or-drop (suc n) seats k e ∙ same) ∙ apart-greater (get_or seats (suc n + k) d).id (get_or seats n d).id (greater_from_less (get_or seats n d).id (get_or seats (suc n + k) d).id (less_between seats n (suc n + k) d h (omega arith) (omega arith))))

-- a seat says where its ID stands
pub place_of-at : (seats : List Seat) (n : ℕ) (d : Seat) → IsInOrder seats → n < length seats → place_of (get_or seats n d).id seats ≡ Some (get_or seats n d).place
place_of-at seats n d h l =
    let t = λ (s : Seat). bytes_eq s.id (get_or seats n d).id in
    ap (option_map (λ (s : Seat). s.place)) (ap (find t) (about seats n d l) ∙ find-at t (take n seats) (get_or seats n d) (drop (suc n) seats) (none_before seats n d h l) (bytes_eq-same (get_or seats n d).id))

-- once it went, none says so, and the others say what they said
pub place_of-gone : (seats : List Seat) (n : ℕ) (d : Seat) → IsInOrder seats → n < length seats → place_of (get_or seats n d).id (remove seats n) ≡ None
place_of-gone seats n d h l =
    ap (option_map (λ (s : Seat). s.place)) (find-none_append _ (take n seats) (drop (suc n) seats) (none_before seats n d h l) (none_behind seats n d h l))

pub place_of-stays : (seats : List Seat) (n : ℕ) (d : Seat) (id : List ℕ) → n < length seats → bytes_eq (get_or seats n d).id id ≡ false → place_of id (remove seats n) ≡ place_of id seats
place_of-stays seats n d id l e =
    let t = λ (s : Seat). bytes_eq s.id id in
    ap (option_map (λ (s : Seat). s.place)) (sym (ap (find t) (about seats n d l) ∙ find-skip t (take n seats) (get_or seats n d) (drop (suc n) seats) e))

-- a new seat says where its ID stands, and the others say what they said
pub not_found : {X Y : Type 0} (f : X → Y) (o : Option X) → option_map f o ≡ None → o ≡ None
not_found f None h = refl
not_found f (Some x) h = cc

pub place_of-new : (seats : List Seat) (seat : Seat) (n : ℕ) → place_of seat.id seats ≡ None → place_of seat.id (insert seats n seat) ≡ Some seat.place
place_of-new seats seat n h =
    let t = λ (s : Seat). bytes_eq s.id seat.id in
    let free = ap (find t) (take-append-drop n seats) ∙ not_found (λ (s : Seat). s.place) (find t seats) h in
    ap (option_map (λ (s : Seat). s.place)) (find-at t (take n seats) seat (drop n seats) (find-none_front t (take n seats) (drop n seats) free) (bytes_eq-same seat.id))

pub place_of-other : (seats : List Seat) (seat : Seat) (n : ℕ) (id : List ℕ) → bytes_eq seat.id id ≡ false → place_of id (insert seats n seat) ≡ place_of id seats
place_of-other seats seat n id e =
    let t = λ (s : Seat). bytes_eq s.id id in
    ap (option_map (λ (s : Seat). s.place)) (find-skip t (take n seats) seat (drop n seats) e ∙ ap (find t) (take-append-drop n seats))

-- as places close up, so do those that the seats say
pub place_of-moved_up : (left : ℕ) (seats : List Seat) (id : List ℕ) → place_of id (map (moved_up left) seats) ≡ option_map (closed_up left) (place_of id seats)
place_of-moved_up left [] id = refl
place_of-moved_up left (s ∷ seats) id = elim (cases_Bool (bytes_eq s.id id)) [
  | inl e ↦ rw e refl
  | inr e ↦ rw e (place_of-moved_up left seats id)
]

ids-moved_up : (left : ℕ) (seats : List Seat) → map (λ (s : Seat). s.id) (map (moved_up left) seats) ≡ map (λ (s : Seat). s.id) seats
ids-moved_up left [] = refl
ids-moved_up left (s ∷ seats) = ap (λ (ids : List (List ℕ)). s.id ∷ ids) (ids-moved_up left seats)

pub IsInOrder-moved_up : (left : ℕ) (seats : List Seat) → IsInOrder seats → IsInOrder (map (moved_up left) seats)
IsInOrder-moved_up left seats h = rw (ids-moved_up left seats) h

-- no seats are in order
pub IsInOrder-none : IsInOrder []
unfolding IsStrictlySortedBy
IsInOrder-none = tt

-- where halving finds no seat of an ID, there is none, and one for it may be put in
pub free_at : (seats : List Seat) (id : List ℕ) (r : Result ℕ ℕ) → IsInOrder seats → IsBinarySearchResult (λ s. order s.id id) seats r → IfErr r (λ _. place_of id seats ≡ None)
free_at seats id (Ok k) o h = tt
free_at seats id (Err k) o h = place_of-free seats id k (h (searchable seats id o))

pub room_at : (seats : List Seat) (id : List ℕ) (r : Result ℕ ℕ) → IsInOrder seats → IsSearchInRange r (length seats) → IsBinarySearchResult (λ s. order s.id id) seats r
    → IfErr r (λ k. (place : ℕ) → IsInOrder (insert seats k (record { id = id; place = place })))
room_at seats id (Ok k) o l h = tt
room_at seats id (Err k) o l h = λ place. IsInOrder-insert seats (record { id = id; place = place }) k l (h (searchable seats id o)) o
