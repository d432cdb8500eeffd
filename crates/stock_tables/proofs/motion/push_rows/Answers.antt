use Rattle.std.proofs.Common.{◌≡◌, ◌<◌, ℕ, ℤ, length, arith, pos, length-set, to_z, of_z, SFits, w64, ◌∙◌, ap, rules}
use Rattle.std.proofs.lemmas.Int.{to_z-of_z}
use Rattle.std.proofs.lemmas.List.{get_or_read}
use Rattle.std.proofs.lemmas.List.FromFn.{fill_by_all}
use Rattle.run_rules.specs.Grids.{row}
use Rattle.stock_tables.specs.Motion.{net_push, resistance_at}
use Rattle.stock_tables.proofs.RowFacts.{row-set_later, row-set_same}
use Rattle.stock_tables.proofs.motion.push_rows.Goals as goal

pub loop-k-preserved : goal.loop-k-preserved
loop-k-preserved c =
    let i = c.loop-k.invariant in
    let k = c.loop-k.k in
    let efforts = c.args.efforts.items in
    let long = i.long in
    let within : k < length c.loop-k.rows.items = omega arith in
    let fits : SFits w64 c.net_push.result = search rules in
    let read_fits : SFits w64 c.index.result.now = search rules in
    let read : to_z w64 (of_z w64 c.index.result.now) ≡ row efforts k =
    to_z-of_z w64 c.index.result.now read_fits ∙ get_or_read c.loop-k.rows.items k c.index.result.now within c.index.ensures (pos 0) ∙ i.left k (omega arith) in
    let pushed : to_z w64 (of_z w64 c.net_push.result) ≡ net_push (row efforts k) (resistance_at c.args.resistance k) =
    to_z-of_z w64 c.net_push.result fits ∙ c.net_push.ensures ∙ ap (λ (z : ℤ). net_push z c.resistance_at.result) read
    ∙ ap (λ (n : ℕ). net_push (row efforts k) n) c.resistance_at.ensures.value in
    record {
      long = length-set c.loop-k.rows.items k (to_z w64 (of_z w64 c.net_push.result)) ∙ i.long;
      done = row-set_same (λ j. net_push (row efforts j) (resistance_at c.args.resistance j)) c.loop-k.rows.items k _ within i.done pushed;
      left = λ j h. row-set_later c.loop-k.rows.items k j (to_z w64 (of_z w64 c.net_push.result)) h ∙ i.left j (omega arith);
    }

pub returns : goal.returns
returns c =
    fill_by_all (λ k. net_push (row c.args.efforts.items k) (resistance_at c.args.resistance k)) c.loop-k.rows.items (length c.args.efforts.items) (pos 0) c.loop-k.invariant.long
    (λ j h. c.loop-k.invariant.done j (omega arith))
