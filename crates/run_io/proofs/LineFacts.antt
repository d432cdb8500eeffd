-- Lines of numbers, piece by piece.
use Rattle.std.proofs.Common.{◌≡◌, ◌+◌, ◌<◌, ◌≤◌, ℕ, ℤ, pos, zero, suc, add-one, List, [], ◌∷◌, ◌++◌, length, take, get_or, map, codes, false, true, refl, sym, ◌∙◌, append_assoc, arith}
use Rattle.std.proofs.lemmas.List.{map-append}
use Rattle.std.proofs.lemmas.Grind.{common_steps}
use Rattle.std.proofs.lemmas.Bool.Decides.{nat_tests}
use Rattle.std.specs.Prelude.{◌==◌}
use Rattle.std.specs.Fmt.{signed_decimal}
use Rattle.std.specs.List.{join_with_byte}
use Rattle.run_io.specs.Texts.{lines_below, lines_from, numbers_text, piece, spaced}
use Rattle.run_io.proofs.TextFacts.{lines_below-from}

spaced-suc : (place : ℕ) (text : List ℕ) → spaced (suc place) text ≡ codes " " ++ text
spaced-suc place text =
    let later : (suc place == 0) ≡ false = grind (arith, nat_tests) in
    rw later refl

-- one more text behind those before it
join_with_byte-push : (xs : List (List ℕ)) (y : List ℕ) → join_with_byte 32 (xs ++ y ∷ []) ≡ join_with_byte 32 xs ++ spaced (length xs) y
join_with_byte-push [] y = refl
join_with_byte-push (x ∷ []) y = rw (spaced-suc 0 y) refl
join_with_byte-push (x ∷ z ∷ xs) y =
    let more = join_with_byte-push (z ∷ xs) y in
    rw (more, spaced-suc (length xs) y, spaced-suc (suc (length xs)) y) (sym (append_assoc x (32 ∷ join_with_byte 32 (z ∷ xs)) (codes " " ++ y)))

-- the piece of a number
pub piece-number : (numbers : List ℤ) (place : ℕ) → place < length numbers → piece numbers place ≡ spaced place (signed_decimal (get_or numbers place (pos 0)))
piece-number numbers place less =
    let other : (place == length numbers) ≡ false = grind (arith, nat_tests) in
    rw other refl

-- and the last one
pub piece-end : (numbers : List ℤ) → piece numbers (length numbers) ≡ codes "\n"
piece-end numbers =
    let last : (length numbers == length numbers) ≡ true = grind (arith, nat_tests) in
    rw last refl

take-next : (numbers : List ℤ) (n : ℕ) → n < length numbers → take (suc n) numbers ≡ take n numbers ++ get_or numbers n (pos 0) ∷ []
take-next numbers n less =
    let more : take (n + 1) numbers ≡ take n numbers ++ get_or numbers n (pos 0) ∷ [] = grind (arith, common_steps) in
    rw add-one at more

-- the first pieces are the first numbers
pieces-joined : (numbers : List ℤ) (n : ℕ) → n ≤ length numbers → lines_below (piece numbers) n ≡ join_with_byte 32 (map signed_decimal (take n numbers))
pieces-joined numbers zero h = refl
pieces-joined numbers (suc n) h =
    let first = pieces-joined numbers n (omega (arith, h)) in
    let more = take-next numbers n (omega (arith, h)) in
    let count : length (map signed_decimal (take n numbers)) ≡ n = grind (arith, common_steps) in
    rw (
      first,
      piece-number numbers n (omega (arith, h)),
      more,
      map-append signed_decimal (take n numbers) (get_or numbers n (pos 0) ∷ []),
      join_with_byte-push (map signed_decimal (take n numbers)) (signed_decimal (get_or numbers n (pos 0))),
      count,
    ) refl

-- all pieces are the line
pub pieces-all : (numbers : List ℤ) → lines_below (piece numbers) (length numbers + 1) ≡ numbers_text numbers
pieces-all numbers =
    let all : take (length numbers) numbers ≡ numbers = grind (arith, common_steps) in
    let first = rw all at (pieces-joined numbers (length numbers) (omega arith)) in
    rw (add-one, first, piece-end numbers) refl

pub pieces-from : (numbers : List ℤ) → lines_from (piece numbers) 0 (length numbers + 1) ≡ numbers_text numbers
pieces-from numbers =
    let same : 0 + (length numbers + 1) ≡ length numbers + 1 = omega arith in
    sym (rw same at (lines_below-from (piece numbers) 0 (length numbers + 1))) ∙ pieces-all numbers
