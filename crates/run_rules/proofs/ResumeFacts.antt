-- A walk on that begins again inside a line, where the caps before `from` and past `to` are those of an older walk.
use Rattle.std.proofs.Common.{◌≡◌, ℕ, ◌+◌, ◌<◌, ◌≤◌, List, slice_index, inl, inr, arith, sym}
use Rattle.std.proofs.lemmas.Bool.{cases_lt}
use Rattle.run_rules.specs.Runs.{StepRule}
use Rattle.run_rules.specs.Walks.{AgreeOutside, EndsAt}
use Rattle.run_rules.proofs.DrivingFacts.{IsBlockedAfter-same, IsDriven, IsNextNumber-same}

-- past the change, from a number on that is as before, all numbers are as before
pub EndsAt-resumed : (rule : StepRule) (b c d e : List ℕ) (from to n i : ℕ) → AgreeOutside b c from to → EndsAt rule b d n → to < i → i < n → IsDriven rule c e (i + 1)
    → ((j : ℕ) → i ≤ j → slice_index e j ≡ slice_index d j) → EndsAt rule c e n
EndsAt-resumed rule b c d e from to n i agree ends past known driven same = record {
  some = ends.some;
  on_line = let long = agree.same_points in let on = ends.on_line in omega arith;
  first = driven.first;
  each = λ j l. elim (cases_lt j i) [
    | inl h ↦ driven.each j (omega arith)
    | inr h ↦ IsNextNumber-same rule b c d e j (slice_index d (j + 1)) (slice_index e (j + 1)) (agree.agrees (j + 1) (inr (omega arith))) (sym (same j h)) (sym (same (j + 1) (omega arith))) (ends.each j l)
  ];
  blocked = λ j last h. IsBlockedAfter-same rule b c d e j (agree.agrees (j + 1) (inr (omega arith))) (sym (same j (omega arith))) (ends.blocked j last (let long = agree.same_points in omega arith));
}
