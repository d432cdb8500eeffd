use Rattle.std.proofs.Common.{◌≡◌, ◌-◌, ◌++◌, ◌∷◌, [], SFits, refl, arith, ◌∙◌}
use Rattle.std.specs.Int.{w64}
use Rattle.std.proofs.lemmas.Int.{ints, to_z-of_z}
use Rattle.std.proofs.lemmas.List.Elements.{All-nil, All-push}
use Rattle.std.proofs.lemmas.List.FromFn.{map-range_with_len_more}
use Rattle.run_rules.specs.StepRules.{IsPull}
use Rattle.train_mean.specs.Gradients.{gradients_under, pull_of}
use Rattle.train_mean.proofs.WindowFacts.{AreSlopes-line, IsMean-under, IsSumUnder, IsSumUnder-moved, SFits-passes}
use Rattle.train_mean.proofs.pulls.Goals as goal

pub loop-cell-init : goal.loop-cell-init
loop-cell-init c =
    let slopes = AreSlopes-line c.args.line.now c.length-length.ensures.kept in
    let none : 0 - c.args.train ≡ 0 = omega arith in
    let first = c.pull.ensures.small in
    let first_fits : SFits w64 c.pull.result = omega (arith, ints, first.least, first.most) in
    record {
      head_tells = λ k h. rw c.slopes.ensures.slopes refl;
      head_slopes = rw c.slopes.ensures.slopes slopes;
      head_passes = record { steady = λ k h l. absurd (omega arith); least = omega (arith, ints); most = omega (arith, ints) };
      tail_tells = λ k h. rw c.slopes.ensures.slopes refl;
      tail_slopes = rw c.slopes.ensures.slopes slopes;
      tail_passes = record { steady = λ k h l. absurd (omega arith); least = omega (arith, ints); most = omega (arith, ints) };
      sum = rw none refl;
      pulls = c.in-Ok.ensures.items;
      pulled = simp to_z-of_z c.pull.ensures.pull;
      small = rw c.in-Ok.ensures.items (All-nil IsPull);
    }

pub moved_sum-sum-requires-clause-least : goal.moved_sum-sum-requires-clause-least
moved_sum-sum-requires-clause-least c =
    let slopes = AreSlopes-line c.args.line.now c.length-length.ensures.kept in
    let mean = IsMean-under c.args.line.now.slopes c.args.train (c.loop-cell.cell - c.args.train) c.loop-cell.cell slopes (omega arith) in
    let least = mean.least in
    rw c.loop-cell.invariant.sum (omega (arith, ints, least, c.requires.train_most))

pub moved_sum-sum-requires-clause-most : goal.moved_sum-sum-requires-clause-most
moved_sum-sum-requires-clause-most c =
    let slopes = AreSlopes-line c.args.line.now c.length-length.ensures.kept in
    let mean = IsMean-under c.args.line.now.slopes c.args.train (c.loop-cell.cell - c.args.train) c.loop-cell.cell slopes (omega arith) in
    let most = mean.most in
    rw c.loop-cell.invariant.sum (omega (arith, ints, most, c.requires.train_most))

-- the sum that the code makes is that of the gradients under the train
summed : (c : goal.After-divisor-in-loop-cell-1) → IsSumUnder c.args.line.now.slopes c.args.train c.loop-cell.cell c.moved_sum-sum.result
summed c =
    let head = c.move_head-head.ensures.passes in
    let tail = c.move_tail-tail.ensures.passes in
    IsSumUnder-moved c.args.line.now.slopes c.loop-cell.head.slopes.now c.move_head-head.result.slopes.now c.move_tail-tail.result.slopes.now c.args.train c.loop-cell.cell _
    c.move_head-head.result.tenths c.move_tail-tail.result.tenths c.moved_sum-sum.result (AreSlopes-line c.args.line.now c.length-length.ensures.kept) c.requires.train_most
    (SFits-passes _ _ _ _ head) (SFits-passes _ _ _ _ tail) c.moved_sum-sum.ensures.sum c.loop-cell.invariant.sum c.loop-cell.invariant.head_tells c.move_head-head.ensures.tells
    (λ k h. c.move_tail-tail.ensures.tells k h ∙ c.loop-cell.invariant.tail_tells k h)
    (head.steady c.loop-cell.cell (omega arith) c.move_head-head.ensures.ahead) (tail.steady c.loop-cell.cell (omega arith) c.move_tail-tail.ensures.ahead)

pub pulled-under-requires-clause-least : goal.pulled-under-requires-clause-least
pulled-under-requires-clause-least c = let under = summed c in under.mean.least

pub pulled-under-requires-clause-most : goal.pulled-under-requires-clause-most
pulled-under-requires-clause-most c = let under = summed c in under.mean.most

pub loop-cell-preserved : goal.loop-cell-preserved
loop-cell-preserved c =
    let head = c.move_head-head.ensures.passes in
    let tail = c.move_tail-tail.ensures.passes in
    let under = IsSumUnder-moved c.args.line.now.slopes c.loop-cell.head.slopes.now c.move_head-head.result.slopes.now c.move_tail-tail.result.slopes.now c.args.train c.loop-cell.cell _
    c.move_head-head.result.tenths c.move_tail-tail.result.tenths c.moved_sum-sum.result (AreSlopes-line c.args.line.now c.length-length.ensures.kept) c.requires.train_most
    (SFits-passes _ _ _ _ head) (SFits-passes _ _ _ _ tail) c.moved_sum-sum.ensures.sum c.loop-cell.invariant.sum c.loop-cell.invariant.head_tells c.move_head-head.ensures.tells
    (λ k h. c.move_tail-tail.ensures.tells k h ∙ c.loop-cell.invariant.tail_tells k h)
    (head.steady c.loop-cell.cell (omega arith) c.move_head-head.ensures.ahead) (tail.steady c.loop-cell.cell (omega arith) c.move_tail-tail.ensures.ahead) in
    let more = map-range_with_len_more (λ cell. pull_of c.args.mass c.args.train (gradients_under c.args.line.now.slopes c.args.train cell)) 0 c.loop-cell.cell c.loop-cell.cell (omega arith) in
    let value = rw under.value at c.pulled-under.ensures.pull in
    let small = c.pulled-under.ensures.small in
    let fits : SFits w64 c.pulled-under.result.pull = omega (arith, ints, small.least, small.most) in
    let items : c.push.new.self.items ≡ c.loop-cell.pulls.items ++ c.pulled-under.result.pull ∷ [] = simp to_z-of_z at c.in-Ok-push.ensures.items in
    record {
      head_tells = λ k h. c.move_head-head.ensures.tells k (omega arith) ∙ c.loop-cell.invariant.head_tells k (omega arith);
      head_slopes = c.move_head-head.ensures.slopes;
      head_passes = record { steady = λ k h l. head.steady k (omega arith) l; least = head.least; most = head.most };
      tail_tells = λ k h. c.move_tail-tail.ensures.tells k (omega arith) ∙ c.loop-cell.invariant.tail_tells k (omega arith);
      tail_slopes = c.move_tail-tail.ensures.slopes;
      tail_passes = record { steady = λ k h l. tail.steady k (omega arith) l; least = tail.least; most = tail.most };
      sum = under.value;
      pulled = rw c.pulled-under.ensures.sum c.pulled-under.ensures.pull;
      pulls = rw (items, more, value, c.loop-cell.invariant.pulls) refl;
      small = rw items (All-push IsPull c.loop-cell.pulls.items c.pulled-under.result.pull c.loop-cell.invariant.small c.pulled-under.ensures.small);
    }
