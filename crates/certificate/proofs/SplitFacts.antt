-- Texts that are cut at each of a byte.
use Rattle.std.proofs.Common.{◌≡◌, ◌<◌, ◌+◌, ℕ, Bool, List, [], ◌∷◌, Some, None, length, take, drop, refl, sym, ◌∙◌, arith, inl, inr}
use Rattle.std.specs.Prelude.{position}
use Rattle.std.specs.List.{position_from, position_or_len, slice_split}
use Rattle.std.proofs.lemmas.Bool.{cases_Bool}
use Rattle.std.proofs.lemmas.Iterator.Adapters.{position_from-zero}
use Rattle.std.proofs.lemmas.List.Quantifiers.{position-Some}
use Rattle.std.proofs.lemmas.List.Splits.{slice_split-cons_no, slice_split_first}
use Rattle.std.proofs.lemmas.List.Sums.{position_or_len_is}

split-none_from : (p : ℕ → Bool) (i : ℕ) (xs : List ℕ) → position_from p i xs ≡ None → slice_split p xs ≡ xs ∷ []
split-none_from p i [] e = refl
split-none_from p i (x ∷ xs) e = elim (cases_Bool (p x)) [
  | inl at ↦ let found = rw at at e in cc found
  | inr other ↦
      let rest = split-none_from p (i + 1) xs (rw other at e) in
      rw (slice_split-cons_no p x xs other, rest) refl
]

-- a text without that byte is the one part
pub split-none : (p : ℕ → Bool) (xs : List ℕ) → position p xs ≡ None → slice_split p xs ≡ xs ∷ []
split-none p xs e = split-none_from p 0 xs (sym (position_from-zero p xs) ∙ e)

-- and one with it has the part before the first, and those behind it
pub split-some : (p : ℕ → Bool) (xs : List ℕ) (at : ℕ) → position p xs ≡ Some at → (at < length xs) × (slice_split p xs ≡ take at xs ∷ slice_split p (drop (at + 1) xs))
split-some p xs at e =
    let found = position-Some p xs at 0 e in
    let is : at ≡ position_or_len p xs = sym (position_or_len_is p xs at 0 (omega (arith, found.0)) found.2 (λ _. found.1)) in
    (found.0, rw (← is) at (slice_split_first p xs 0 (rw is at found.0)))
