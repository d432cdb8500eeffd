use Rattle.std.proofs.Common.{◌≡◌, ℤ, List, arith, ap, ◌∙◌, inr}
use Rattle.std.proofs.lemmas.Int.{ints}
use Rattle.table_laws.specs.declared.Law.TheVariants.{Climb}
use Rattle.stock_tables.specs.Motion.{brake_rows}
use Rattle.stock_tables.specs.Rules.{brake_key}
use Rattle.stock_tables.specs.StockFile.{lawful_table}
use Rattle.stock_tables.proofs.MotionFacts.{IsStrong-brake, IsTable-brake, IsTableTo-brake, brake_rows-made}
use Rattle.stock_tables.proofs.ValueFacts.{IsValue-row}
use Rattle.stock_tables.proofs.stock.brake_of.Goals as goal

pub brake_rows-requires-clause-least : goal.brake_rows-requires-clause-least
brake_rows-requires-clause-least c = λ k h.
    let least = (IsValue-row 50 c.args.top c.args.rates.now c.in_ok-rates.rates.items c.in_ok-rates.ensures.value c.requires.rates c.requires.strong k h).least in
    omega (arith, ints)

pub brake_rows-requires-clause-most : goal.brake_rows-requires-clause-most
brake_rows-requires-clause-most c = λ k h.
    (IsValue-row 50 c.args.top c.args.rates.now c.in_ok-rates.rates.items c.in_ok-rates.ensures.value c.requires.rates c.requires.strong k h).most

pub lawful_table-requires : goal.lawful_table-requires
lawful_table-requires c =
    let made = brake_rows-made c.args.top c.args.rates.now _ _ c.in_ok-rates.ensures.value c.brake_rows.ensures in
    rw made (IsTable-brake c.args.top c.args.rates.now c.requires.some c.requires.rates c.requires.strong)

-- the table is read as that of the rates at each whole km/h
table-is : (c : goal.After-lawful_table) → c.lawful_table.result ≡ lawful_table brake_key Climb (brake_rows c.args.top c.args.rates.now)
table-is c =
    let made = brake_rows-made c.args.top c.args.rates.now _ _ c.in_ok-rates.ensures.value c.brake_rows.ensures in
    c.lawful_table.ensures.value ∙ ap (λ (q : List ℤ). lawful_table brake_key Climb q) made

pub returns-clause-value : goal.returns-clause-value
returns-clause-value c = inr (table-is c)

pub returns-clause-kept : goal.returns-clause-kept
returns-clause-kept c = IsTableTo-brake c.args.top Climb c.args.rates.now c.lawful_table.result (table-is c) c.lawful_table.ensures.kept

pub returns-clause-strong : goal.returns-clause-strong
returns-clause-strong c = IsStrong-brake c.args.top Climb c.args.rates.now c.lawful_table.result (table-is c) c.requires.rates c.requires.strong
