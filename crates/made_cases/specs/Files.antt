-- The files of a made-up case.
use Rattle.std.specs.Prelude.{ℕ, zero, suc, ◌+◌, ◌*◌, List, [], ◌++◌, codes, pos, ◌-ℤ◌}
use Rattle.std.specs.Fmt.{decimal, signed_decimal}
use Rattle.made_cases.specs.Draws.{draw}

-- so many rows, one after another, by the number of each, counted from 0
unfoldable pub rows : (ℕ → List ℕ) → ℕ → List ℕ
rows row zero = []
rows row (suc count) = rows row count ++ row count

-- the gradient of a kilometre, from -100 to 100 per ten thousand
abbrev pub gradient_row : ℕ → ℕ → List ℕ
gradient_row n j =
    codes "gradient," ++ decimal (1000 * j) ++ codes "," ++ decimal (1000 * (j + 1)) ++ codes ","
    ++ signed_decimal (pos (draw n j 201) -ℤ pos 100) ++ codes "\n"

-- the limit of four kilometres, from 60 to 200 km/h; the gradients are drawn before them
abbrev pub limit_row : ℕ → ℕ → List ℕ
limit_row n j =
    codes "limit," ++ decimal (4000 * j) ++ codes "," ++ decimal (4000 * (j + 1)) ++ codes ","
    ++ decimal (60 + draw n (120 + j) 141) ++ codes "\n"

-- a point every twenty kilometres
abbrev pub points_text : List ℕ
points_text = codes "point,20000,P1\npoint,40000,P2\npoint,60000,P3\npoint,80000,P4\npoint,100000,P5\n"

-- the line file
abbrev pub line_text : ℕ → List ℕ
line_text n = codes "line,Gen,120000\n" ++ rows (gradient_row n) 120 ++ rows (limit_row n) 30 ++ points_text
