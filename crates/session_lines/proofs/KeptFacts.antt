-- A line of which the first bytes are kept.
use Rattle.std.proofs.Common.{◌≡◌, ◌≤◌, ◌+◌, ◌-◌, ℕ, List, ◌++◌, length, take, min, sym, ap, ◌∙◌, arith, inl, inr, length-take}
use Rattle.std.proofs.lemmas.Bool.{cases_lt}
use Rattle.std.proofs.lemmas.List.{take-append-le, take_all, take_at}
use Rattle.std.proofs.lemmas.Slice.{take-put_mid}
use borrow.Rule.Slice.PartMut.{put_mid}
use Rattle.std.proofs.Math.Seq.{take-append-add}
use Rattle.std.proofs.lemmas.Grind.{common_steps}

-- what is kept of a longer beginning is told by what was kept
pub keeps_more : (most : ℕ) (begun more : List ℕ) → take most (take most begun ++ more) ≡ take most (begun ++ more)
keeps_more most begun more =
    elim (cases_lt most (length begun)) [
      | inl long ↦
          let full : length (take most begun) ≡ most = omega (arith, length-take most begun) in
          take_at (take most begun) more most full ∙ sym (take-append-le most begun more (omega arith))
      | inr short ↦ ap (λ (t : List ℕ). take most (t ++ more)) (take_all most begun short)
    ]

-- and the bytes of a part of them, copied behind what was kept, are kept
pub extended : (most : ℕ) (bytes kept more copied : List ℕ) (len count : ℕ) → length bytes ≡ most → len ≤ length bytes → take len bytes ≡ kept → count ≡ min (length more) (most - len)
    → copied ≡ take count more → take (len + count) (put_mid len (len + count - len) bytes copied) ≡ take most (kept ++ more)
extended most bytes kept more copied len count size room is least same =
    let short : length kept ≡ len = sym (ap length is) ∙ omega (arith, length-take len bytes) in
    let all : length copied ≡ count = ap length same ∙ omega (arith, length-take count more) in
    let front : take most (kept ++ more) ≡ kept ++ take (most - len) more =
    ap (λ (k : ℕ). take k (kept ++ more)) (let e : most ≡ length kept + (most - len) = omega arith in e) ∙ take-append-add kept more (most - len) in
    let fits : take (most - len) more ≡ take count more = grind (arith, common_steps) in
    take-put_mid len (len + count - len) bytes copied (len + count) (omega arith) (omega arith) ∙ ap (λ (t : List ℕ). t ++ copied) is ∙ ap (λ (t : List ℕ). kept ++ t) (same ∙ sym fits) ∙ sym front
