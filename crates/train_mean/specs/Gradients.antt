-- Gradients, in tenths of a per mille, and the pull that they make on a train.
use Rattle.std.specs.Prelude.{ℕ, zero, suc, ◌+◌, ◌-◌, ◌*◌, ◌&&◌, nat_le, nat_lt, if◌then◌else◌, List, [], ◌∷◌, map, ℤ, pos, ◌+ℤ◌, ◌*ℤ◌}
use Rattle.std.specs.List.{range_with_len}
use Rattle.unit_rules.specs.Quotients.{ceil_div}
use Rattle.line_tables.specs.declared.line.Slope.{Slope}

-- the gradient at a cell: that of the slope in which it lies, and level where there is none
abbrev pub gradient_at : List Slope → ℕ → ℤ
gradient_at [] cell = pos 0
gradient_at (s ∷ rest) cell = if nat_le s.from cell && nat_lt cell s.to then s.tenths else gradient_at rest cell

-- the sum of the values at so many cells from a cell on
abbrev pub sum_from : (ℕ → ℤ) → ℕ → ℕ → ℤ
sum_from value cell zero = pos 0
sum_from value cell (suc count) = sum_from value cell count +ℤ value (cell + count)

-- the last cell under a train whose head is in a cell, or the first of the line
abbrev pub tail_cell : ℕ → ℕ → ℕ
tail_cell train cell = cell + 1 - train

-- the sum of the gradients of the cells under the train
abbrev pub gradients_under : List Slope → ℕ → ℕ → ℤ
gradients_under slopes train cell = sum_from (gradient_at slopes) (tail_cell train cell) (cell + 1 - tail_cell train cell)

-- the pull of a sum of gradients: 158922/625 is 259200·9.81/10000, per kg and tenth of a per mille
abbrev pub pull_of : ℕ → ℕ → ℤ → ℤ
pull_of mass train sum = ceil_div ((pos mass *ℤ sum) *ℤ pos 158922) (625 * train)

-- the pull at each cell of a line
abbrev pub pulls_of : List Slope → ℕ → ℕ → ℕ → List ℤ
pulls_of slopes length mass train = map (λ cell. pull_of mass train (gradients_under slopes train cell)) (range_with_len 0 length)
