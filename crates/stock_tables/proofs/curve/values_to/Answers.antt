use Rattle.std.proofs.Common.{◌≡◌, SFits, w64, sym, ◌∙◌, arith, rules, to_z, of_z}
use Rattle.std.proofs.lemmas.Int.{to_z-of_z}
use Rattle.std.proofs.lemmas.List.FromFn.{map-range_with_len_more}
use Rattle.stock_tables.proofs.CurveFacts.{IsPassed-later, last-slow, curve_value-passed}
use Rattle.stock_tables.specs.Curve.{curve_value}
use Rattle.stock_tables.proofs.curve.values_to.Goals as goal

pub overflow_add-kmh-end : goal.overflow_add-kmh-end
overflow_add-kmh-end c = let l = last-slow c.args.rows.now c.requires.curve in omega (arith, c.requires.top)

pub loop-kmh-preserved : goal.loop-kmh-preserved
loop-kmh-preserved c =
    let rows = c.args.rows.now in
    let kmh = c.loop-kmh.kmh in
    let p = c.place_of-place.ensures.place in
    let fits : SFits w64 c.value_on.result = search rules in
    let value : to_z w64 (of_z w64 c.value_on.result) ≡ curve_value rows kmh =
    to_z-of_z w64 c.value_on.result fits ∙ c.value_on.ensures ∙ sym (curve_value-passed rows c.place_of-place.result kmh p c.place_of-place.ensures.next) in
    record {
      values = rw (c.in_ok-push.ensures.items, c.loop-kmh.invariant.values, value) (sym (map-range_with_len_more (curve_value rows) 0 kmh kmh (omega arith)));
      place = IsPassed-later rows c.place_of-place.result kmh _ p (omega arith);
    }
