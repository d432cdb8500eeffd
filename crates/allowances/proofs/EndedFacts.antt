-- Allowances that have ended at a point.
use Rattle.std.proofs.Common.{◌≡◌, ℕ, ◌+◌, ◌*◌, ◌<◌, ◌≤◌, List, length, get_or, take, All, arith, refl, length-take-le}
use Rattle.std.proofs.lemmas.List.Elements.{All-more, All-weaker}
use Rattle.std.proofs.lemmas.List.Sums.{sum_by-le, sum_by_more}
use Rattle.allowances.specs.declared.allowance.Allowance.{Allowance}
use Rattle.allowances.specs.Allowances.{most_added}
use Rattle.allowances.specs.Progress.{HaveEnded, amount_in}

-- one more has ended
pub HaveEnded-more : (allowances : List Allowance) (point count sum : ℕ) (next d : Allowance) → next ≡ get_or allowances count d → count < length allowances
    → next.section.to ≤ point → HaveEnded allowances point count sum → HaveEnded allowances point (count + 1) (sum + next.amount)
HaveEnded-more allowances point count sum next d is within ends ended =
    let at : (get_or allowances count d).section.to ≤ point = rw (← is) ends in
    let more = sum_by_more amount_in allowances count d within in
    let amount : sum + next.amount ≡ sum + (get_or allowances count d).amount = rw is refl in
    record {
      some = omega arith;
      past = All-more (λ a. a.section.to ≤ point) allowances count d within ended.past at;
      added = let added = ended.added in omega arith;
    }

-- those that have ended have at each later point
pub HaveEnded-later : (allowances : List Allowance) (point later count sum : ℕ) → point ≤ later → HaveEnded allowances point count sum → HaveEnded allowances later count sum
HaveEnded-later allowances point later count sum on ended = record {
  some = ended.some;
  past = All-weaker (λ a. a.section.to ≤ point) (λ a. a.section.to ≤ later) (λ a h. omega arith) (take count allowances) ended.past;
  added = ended.added;
}

amounts-small : (allowances : List Allowance) → All (λ a. amount_in a ≤ most_added) allowances
amounts-small allowances = λ k d h. let a = get_or allowances k d in a.small

-- and what they add is small
pub HaveEnded-small : (allowances : List Allowance) (point count sum : ℕ) → HaveEnded allowances point count sum → sum ≤ count * most_added
HaveEnded-small allowances point count sum ended =
    let added = ended.added in
    let some = ended.some in
    let few = length-take-le count allowances some in
    let small = sum_by-le amount_in most_added (take count allowances) (amounts-small (take count allowances)) in
    let most : length (take count allowances) * most_added ≡ count * most_added = rw few refl in
    omega (arith, small, most)
