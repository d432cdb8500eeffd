-- The texts that are printed, each a function of its values.
use Rattle.std.specs.Prelude.{ℕ, zero, suc, ◌+◌, List, [], ◌∷◌, ◌++◌, codes, length, slice_index, pos}
use Rattle.std.specs.Fmt.{decimal}
use Rattle.run_io.specs.Texts.{lines_below, numbers_text}
use Rattle.run_rules.specs.Grids.{row}
use Rattle.stock_tables.specs.Stock.{StockView}
use Rattle.unit_rules.specs.declared.Reach.{Reach}
use Rattle.unit_rules.specs.declared.Reach.TheVariants.{Whole, Stalled}

-- a point and its number
abbrev pub point_line : ℕ → ℕ → List ℕ
point_line point number = numbers_text (pos point ∷ pos number ∷ [])

-- a line for each number of a list by point
abbrev pub list_text : List ℕ → List ℕ
list_text numbers = lines_below (λ i. point_line i (slice_index numbers i)) (length numbers)

-- the moved mass, the mass, the length and the top speed of a train
abbrev pub train_line : StockView → List ℕ
train_line stock = numbers_text (pos stock.moved_mass ∷ pos stock.mass ∷ pos stock.length ∷ pos stock.top ∷ [])

-- a whole km/h, with the push and the braking there
abbrev pub speed_line : StockView → ℕ → List ℕ
speed_line stock kmh = numbers_text (pos kmh ∷ row stock.push.rows kmh ∷ row stock.brake.rows kmh ∷ [])

-- the lines of the tables of a train: first its numbers, and then each whole km/h
abbrev pub bands_line : StockView → ℕ → List ℕ
bands_line stock zero = train_line stock
bands_line stock (suc kmh) = speed_line stock kmh

-- the tables of a train, up to its top speed
abbrev pub bands_text : StockView → List ℕ
bands_text stock = train_line stock ++ lines_below (speed_line stock) (stock.top + 1)

-- how far a train gets: over the whole line, or not to a point
abbrev pub reach_text : Reach → List ℕ
reach_text Whole = codes "whole\n"
reach_text (Stalled k) = codes "stalled " ++ decimal k ++ codes "\n"

-- that a certificate which says so is right
abbrev pub valid_text : Reach → List ℕ
valid_text reach = codes "valid " ++ reach_text reach

-- how far a train gets: its squared speeds over the whole line, or the point that it doesn't get to
abbrev pub envelope_text : List ℕ → Reach → List ℕ
envelope_text speeds Whole = list_text speeds
envelope_text speeds (Stalled k) = reach_text (Stalled k)
