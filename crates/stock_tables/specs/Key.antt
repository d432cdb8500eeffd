-- What a key of a stock file holds, or the least rule that it breaks.
use Rattle.std.specs.Prelude.{ℕ, if◌then◌else◌, List, [], ◌∷◌, Option, Some, None, option_map, option_and_then, Result, Ok, Err, ℤ}
use Rattle.std.specs.Option.{ok_or, option_zip}
use Rattle.unit_rules.specs.Limits.{greatest_speed}
use Rattle.unit_rules.specs.Numeral.{within}
use Rattle.toml.specs.Data.{Data, Items, no_items, item, as_integer, as_array}
use Rattle.stock_tables.specs.declared.curve.Row.{Row}
use Rattle.stock_tables.specs.declared.document.KeyFault.{KeyFault}
use Rattle.stock_tables.specs.declared.motion.Resistance.{Resistance}
use Rattle.stock_tables.specs.declared.document.KeyFault.TheVariants.{Rule}
use Rattle.stock_tables.specs.Curve.{are_in_order}
use Rattle.stock_tables.specs.Rules.{missing, out_of_order, out_of_range, wrong_shape}
use Rattle.stock_tables.specs.Steps.{◌>>=◌}

-- what `f` gives of each element, where it gives something of all
abbrev pub each : {X Y : Type 0} → (X → Option Y) → List X → Option (List Y)
each f [] = Some []
each f (x ∷ xs) = option_and_then (λ y. option_map (λ ys. y ∷ ys) (each f xs)) (f x)

abbrev pub list_of : Items → List Data
list_of no_items = []
list_of (item d ds) = d ∷ list_of ds

-- the elements of an array
abbrev pub elements : Data → Option (List Data)
elements d = option_map list_of (as_array d)

-- two integers
abbrev pub pair_in : List Data → Option (ℤ × ℤ)
pair_in (a ∷ b ∷ []) = option_zip (as_integer a) (as_integer b)
pair_in _ = None

abbrev pub pair_of : Data → Option (ℤ × ℤ)
pair_of d = option_and_then pair_in (elements d)

-- the integer from low to high that a key holds
abbrev pub key_number : ℕ → ℕ → Option Data → Result ℕ KeyFault
key_number low high key = do
  value ← ok_or key (Rule missing)
  number ← ok_or (as_integer value) (Rule wrong_shape)
  ok_or (within low high number) (Rule out_of_range)

-- a row of a pair, where its speed is up to 500 km/h and its value from low to high
abbrev pub row_in : ℕ → ℕ → ℤ × ℤ → Option Row
row_in low high pair = option_map (λ r. record { kmh = r.0; value = r.1 }) (option_zip (within 0 greatest_speed pair.0) (within low high pair.1))

-- the rows that a key holds, whose values are from low to high and whose last speed is the top speed
abbrev pub key_rows : ℕ → ℕ → ℕ → Option Data → Result (List Row) KeyFault
key_rows low high top key = do
  value ← ok_or key (Rule missing)
  pairs ← ok_or (option_and_then (each pair_of) (elements value)) (Rule wrong_shape)
  rows ← ok_or (each (row_in low high) pairs) (Rule out_of_range)
  if are_in_order top rows then Ok rows else Err (Rule out_of_order)

-- three integers
abbrev pub three_in : List Data → Option (ℤ × (ℤ × ℤ))
three_in (a ∷ b ∷ c ∷ []) = option_zip (as_integer a) (option_zip (as_integer b) (as_integer c))
three_in _ = None

-- the resistance of three numbers, where each is in its range
abbrev pub resistance_from : ℤ × (ℤ × ℤ) → Option Resistance
resistance_from three =
    option_map (λ r. record { constant = r.0; linear = r.1.0; quadratic = r.1.1 })
    (option_zip (within 0 1000000 three.0) (option_zip (within 0 10000000 three.1.0) (within 0 1000000 three.1.1)))

-- the resistance that a key holds
abbrev pub key_resistance : Option Data → Result Resistance KeyFault
key_resistance key = do
  value ← ok_or key (Rule missing)
  three ← ok_or (option_and_then three_in (elements value)) (Rule wrong_shape)
  ok_or (resistance_from three) (Rule out_of_range)
