-- What a reader gives, in one piece after another.
use Rattle.std.proofs.Common.{◌≡◌, ◌<◌, ◌+◌, ◌-◌, ℕ, List, ◌++◌, length, take, min, inl, inr, sym, ap, ◌∙◌, arith, take_all}
use Rattle.std.proofs.lemmas.Bool.{cases_lt}
use Rattle.std.proofs.lemmas.List.{length-take, take-take}
use Rattle.std.proofs.Math.Seq.{take-append-add}

-- a front of a front is the shorter one
pub take_shorter : (m n : ℕ) (piece : List ℕ) → take m (take n piece) ≡ take (min n m) piece
take_shorter m n piece =
    elim (cases_lt m n) [
      | inl less ↦ let same : min n m ≡ m = omega (arith, less) in rw same (take-take m n piece (omega (arith, less)))
      | inr more ↦ let same : min n m ≡ n = omega (arith, more) in rw same (take_all m (take n piece) (omega (arith, more, length-take n piece)))
    ]

-- a front that has room takes the front of the next piece
pub front_grown : (most count : ℕ) (gone front piece : List ℕ) → front ≡ take most gone → length front < most
    → front ++ take (min count (most - length front)) piece ≡ take most (gone ++ take count piece)
front_grown most count gone front piece e room =
    let short : length gone < most = omega (arith, room, ap length e, length-take most gone) in
    let all : front ≡ gone = e ∙ take_all most gone (omega (arith, short)) in
    let place : length gone + (most - length gone) ≡ most = omega (arith, short) in
    let ahead : take (length gone + (most - length gone)) (gone ++ take count piece) ≡ gone ++ take (most - length gone) (take count piece)
    = take-append-add gone (take count piece) (most - length gone) in
    rw (all, ← take_shorter (most - length gone) count piece) (sym (rw place at ahead))
