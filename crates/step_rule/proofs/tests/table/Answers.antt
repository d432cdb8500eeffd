use Rattle.std.proofs.Common.{◌≡◌, SFits, of_z, refl, replicate, rules, set, to_z, w64}
use Rattle.std.proofs.lemmas.Int.{to_z-of_z}
use Rattle.table_laws.proofs.ToyFacts.{IsTable-toy, toy_rows}
use Rattle.step_rule.proofs.tests.table.Goals as goal

pub new-requires : goal.new-requires
new-requires g c =
    let a = c.requires in
    let first_fits : SFits w64 c.args.first = c.ranges.first in
    let items : c.in_ok-rows.rows.items ≡ replicate 61 c.args.rest = search rules in
    let made : set c.in_ok-rows.rows.items 0 (to_z w64 (of_z w64 c.args.first)) ≡ toy_rows c.args.first c.args.rest = rw items (simp to_z-of_z refl) in
    IsTable-toy (set c.in_ok-rows.rows.items 0 (to_z w64 (of_z w64 c.args.first))) c.args.first c.args.rest made a.first_least a.first_most a.rest_least a.rest_most
