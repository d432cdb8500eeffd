-- A braking list as a walk back writes it.
use Rattle.std.proofs.Common.{ℕ, ◌+◌, ◌≤◌, List, set, arith, inl, inr, sym, ◌∙◌, get_or-set_other, length-set}
use Rattle.limit_profile.specs.Profile.{Profile, cap, caps}
use Rattle.limit_profile.proofs.CapFacts.{cap-le, length-caps, slice_index-caps}
use Rattle.run_rules.specs.Runs.{IsBrakingList, StepRule}
use Rattle.run_rules.specs.Speeds.{squared}
use Rattle.run_rules.specs.Walks.{AgreeOutside, IsOwnBrakingList}
use Rattle.run_rules.proofs.BrakingFacts.{keeps_braking_list}

-- where a list may differ from before past point p alone, up to `to`, it may differ at p too once a number is written there
pub AgreeOutside-set : (b c : List ℕ) (p to u : ℕ) → AgreeOutside b c (p + 1) to → p ≤ to → AgreeOutside b (set c p u) p to
AgreeOutside-set b c p to u agree on = record {
  same_points = agree.same_points ∙ sym (length-set c p u);
  agrees = λ i outside. elim outside [
    | inl l ↦ agree.agrees i (inl (omega arith)) ∙ sym (get_or-set_other c p i u 0 (omega arith))
    | inr l ↦ agree.agrees i (inr l) ∙ sym (get_or-set_other c p i u 0 (omega arith))
  ];
}

-- a braking list under the caps of limits is its own braking list, and none of its numbers is past their top speed
pub IsOwnBrakingList-caps : (rule : StepRule) (limits : Profile) (c : List ℕ) → IsBrakingList rule (caps limits) c → IsOwnBrakingList rule limits.length (squared limits.top) c
IsOwnBrakingList-caps rule limits c list =
    let long = length-caps limits in
    let same = list.keeps.same_points in
    record {
      points = same ∙ long;
      small = λ i l.
          let capped = list.keeps.capped i (omega arith) in
          let at_i = slice_index-caps limits i (omega arith) in
          let most : cap limits i ≤ squared limits.top = cap-le limits i in
          omega (arith, capped, at_i, most);
      list = record { keeps = keeps_braking_list rule (caps limits) c c 0 list list.keeps; greatest = λ q keeps i l. keeps.capped i l };
    }
