-- What a stock file says: its document, the values of its keys, and the tables of push and braking under their laws.
use Rattle.std.specs.Prelude.{ℕ, not, if◌then◌else◌, List, codes, Option, Some, None, Result, Ok, Err, ℤ}
use Rattle.std.specs.List.{find, range_with_len}
use Rattle.std.specs.Option.{ok_or}
use Rattle.std.specs.Str.{is_utf8}
use Rattle.unit_rules.specs.Limits.{greatest_speed, longest_train}
use Rattle.toml.specs.Data.{Members, get_member}
use Rattle.toml.specs.Parse.{parse_document}
use Rattle.run_rules.specs.Grids.{top_of}
use Rattle.table_laws.specs.Laws.{BandTable, keeps_law_at}
use Rattle.table_laws.specs.declared.Law.{Law}
use Rattle.table_laws.specs.declared.Law.TheVariants.{Drop, Climb}
use Rattle.stock_tables.specs.declared.StockFault.{StockFault}
use Rattle.stock_tables.specs.declared.StockFault.TheVariants as fault
use Rattle.stock_tables.specs.declared.document.KeyFault.{KeyFault}
use Rattle.stock_tables.specs.declared.document.KeyFault.TheVariants as key_fault
use Rattle.stock_tables.specs.declared.keys.Keys.{Keys}
use Rattle.stock_tables.specs.Key.{key_number, key_resistance, key_rows}
use Rattle.stock_tables.specs.Motion.{brake_rows, moved_mass, push_rows}
use Rattle.stock_tables.specs.Rules.{brake_key, effort_key, length_key, mass_key, resistance_key, rotating_key, top_key}
use Rattle.stock_tables.specs.Steps.{◌>>=◌}
use Rattle.stock_tables.specs.Stock.{StockView}

-- the document of a file: of bytes that are UTF-8 and a TOML text
abbrev pub document_of : List ℕ → Result Members StockFault
document_of bytes = ok_or (if is_utf8 bytes then parse_document bytes else None) fault.NotToml

-- the answer of a file to that of its key with that number
abbrev pub at_key : {A : Type 0} → ℕ → Result A KeyFault → Result A StockFault
at_key number (Ok value) = Ok value
at_key number (Err (key_fault.Rule rule)) = Err (fault.Key number rule)
at_key number (Err key_fault.Memory) = Err fault.Memory

-- the values of the keys, or the first one that breaks a rule
abbrev pub keys_of : Members → Result Keys StockFault
keys_of document = do
  mass ← at_key mass_key (key_number 1000 20000000 (get_member (codes "mass") document))
  rotating ← at_key rotating_key (key_number 0 300 (get_member (codes "rotating") document))
  length ← at_key length_key (key_number 1 longest_train (get_member (codes "length") document))
  top ← at_key top_key (key_number 1 greatest_speed (get_member (codes "top") document))
  effort ← at_key effort_key (key_rows 0 3000000 top (get_member (codes "effort") document))
  resistance ← at_key resistance_key (key_resistance (get_member (codes "resistance") document))
  brake ← at_key brake_key (key_rows 50 3000 top (get_member (codes "brake") document))
  Ok (record { mass = mass; rotating = rotating; length = length; top = top; effort = effort; resistance = resistance; brake = brake })

-- the table of the key with that number, or the least speed from which its values break the law
abbrev pub table_by : ℕ → BandTable → Option ℕ → Result BandTable StockFault
table_by number table None = Ok table
table_by number table (Some k) = Err (fault.Law number k)

abbrev pub lawful_table : ℕ → Law → List ℤ → Result BandTable StockFault
lawful_table number law rows =
    table_by number (record { rows = rows; law = law })
    (find (λ k. not (keeps_law_at law rows k)) (range_with_len 0 (top_of rows)))

-- the stock that the values of the keys describe
abbrev pub stock_of : Keys → Result StockView StockFault
stock_of keys = do
  push ← lawful_table effort_key (Drop (moved_mass keys.mass keys.rotating)) (push_rows keys.top keys.effort keys.resistance)
  brake ← lawful_table brake_key Climb (brake_rows keys.top keys.brake)
  Ok (record {
    mass = keys.mass;
    moved_mass = moved_mass keys.mass keys.rotating;
    length = keys.length;
    top = keys.top;
    push = push;
    brake = brake;
  })

-- what a file reads as: its stock, or its first fault
abbrev pub read_as_stock : List ℕ → Result StockView StockFault
read_as_stock bytes = do
  document ← document_of bytes
  keys ← keys_of document
  stock_of keys
