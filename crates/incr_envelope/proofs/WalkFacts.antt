-- What stands of a run where the caps changed.
use Rattle.std.proofs.Common.{◌≡◌, ◌++◌, ℕ, ◌<◌, ◌≤◌, List, length, slice_index, take, drop, ◌⊎◌, arith}
use Rattle.std.proofs.lemmas.Grind.{common_steps}
use Rattle.limit_profile.proofs.CapFacts.{cap-le, length-caps, slice_index-caps}
use Rattle.limit_profile.specs.Profile.{Profile, caps}
use Rattle.run_rules.proofs.BrakingFacts.{points_by_braking_list}
use Rattle.run_rules.proofs.SpeedFacts.{squared-500, squared-mono}
use Rattle.run_rules.specs.Runs.{StepRule}
use Rattle.run_rules.specs.Walks.{IsGreatestAt, IsGreatestNumber}
use Rattle.unit_rules.specs.Limits.{greatest_speed, greatest_squared_speed}
use Rattle.incr_envelope.specs.Runs.{WasFastest}
use Rattle.incr_envelope.specs.declared.run.Run.{Run}

-- the greatest number at a point hangs on the cap there alone
IsGreatestNumber-caps : (rule : StepRule) (x y c : List ℕ) (i u : ℕ) → length x ≡ length y → slice_index x i ≡ slice_index y i → IsGreatestNumber rule x c i u → IsGreatestNumber rule y c i u
IsGreatestNumber-caps rule x y c i u long same n = record {
  capped = omega (arith, same, n.capped);
  braked = λ l. n.braked (omega (arith, long, l));
  greatest = λ v under brakes. n.greatest v (omega (arith, same, under)) (λ l. brakes (omega (arith, long, l)));
}

-- where the caps are as before, so are the greatest numbers
pub IsGreatestAt-before : (rule : StepRule) (cells top : ℕ) (x : List ℕ) (from to : ℕ) (r : Run) → WasFastest rule cells top x from to r
    → (i : ℕ) → (i < from) ⊎ (to < i) → i < length x → IsGreatestAt rule x r.brakes.items i
IsGreatestAt-before rule cells top x from to r was i outside l =
    let long = was.agree.same_points in
    IsGreatestNumber-caps rule was.older x r.brakes.items i (slice_index r.brakes.items i) long (was.agree.agrees i outside)
    (points_by_braking_list rule was.older r.brakes.items was.fastest.brakes i (omega (arith, long, l)))

-- a list that was written whole over another
pub take-written : (items new : List ℕ) (n : ℕ) → length items ≡ n → length new ≡ n → take n (new ++ drop (length new) items) ≡ new
take-written items new n a b = grind (arith, common_steps, a, b)

-- caps of a rule and limits of one top speed are small, and so are the braking numbers under them
pub caps-small : (limits : Profile) → limits.top ≤ greatest_speed → (i : ℕ) → i < length (caps limits) → slice_index (caps limits) i ≤ greatest_squared_speed
caps-small limits fast i l =
    let long = length-caps limits in
    let on : i ≤ limits.length = omega (arith, l, long) in
    let capped = cap-le limits i in
    let at_i = slice_index-caps limits i on in
    let most = rw squared-500 at (squared-mono limits.top 500 fast) in
    omega (arith, capped, at_i, most)
