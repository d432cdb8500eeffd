use Rattle.std.proofs.Common.{◌≡◌, ℤ, List, arith, ap, ◌∙◌, inr}
use Rattle.table_laws.specs.declared.Law.TheVariants.{Drop}
use Rattle.stock_tables.specs.Motion.{push_rows}
use Rattle.stock_tables.specs.Rules.{effort_key}
use Rattle.stock_tables.specs.StockFile.{lawful_table}
use Rattle.stock_tables.proofs.MotionFacts.{IsTable-push, IsTableTo-push, push_rows-made}
use Rattle.stock_tables.proofs.ValueFacts.{IsValue-row, length-values, top-slow}
use Rattle.stock_tables.proofs.stock.push_of.Goals as goal

pub push_rows-requires-clause-few : goal.push_rows-requires-clause-few
push_rows-requires-clause-few c =
    let long = length-values c.args.top c.args.effort.now _ c.in_ok-efforts.ensures.value in
    let slow = top-slow c.args.top c.args.effort.now c.requires.effort in
    omega arith

pub push_rows-requires-clause-least : goal.push_rows-requires-clause-least
push_rows-requires-clause-least c = λ k h.
    (IsValue-row 0 c.args.top c.args.effort.now c.in_ok-efforts.efforts.items c.in_ok-efforts.ensures.value c.requires.effort (λ i d l. omega arith) k h).least

pub push_rows-requires-clause-most : goal.push_rows-requires-clause-most
push_rows-requires-clause-most c = λ k h.
    (IsValue-row 0 c.args.top c.args.effort.now c.in_ok-efforts.efforts.items c.in_ok-efforts.ensures.value c.requires.effort (λ i d l. omega arith) k h).most

pub lawful_table-requires : goal.lawful_table-requires
lawful_table-requires c =
    let made = push_rows-made c.args.top c.args.effort.now c.args.resistance _ _ c.in_ok-efforts.ensures.value c.push_rows.ensures in
    rw made (IsTable-push c.args.top c.args.effort.now c.args.resistance c.requires.some c.requires.effort c.requires.resistance)

-- the table is read as that of the effort less the resistance at each whole km/h
table-is : (c : goal.After-lawful_table) → c.lawful_table.result ≡ lawful_table effort_key (Drop c.args.moved_mass) (push_rows c.args.top c.args.effort.now c.args.resistance)
table-is c =
    let made = push_rows-made c.args.top c.args.effort.now c.args.resistance _ _ c.in_ok-efforts.ensures.value c.push_rows.ensures in
    c.lawful_table.ensures.value ∙ ap (λ (q : List ℤ). lawful_table effort_key (Drop c.args.moved_mass) q) made

pub returns-clause-value : goal.returns-clause-value
returns-clause-value c = inr (table-is c)

pub returns-clause-kept : goal.returns-clause-kept
returns-clause-kept c = IsTableTo-push c.args.top (Drop c.args.moved_mass) c.args.effort.now c.args.resistance c.lawful_table.result (table-is c) c.lawful_table.ensures.kept
