-- The commands of a session over a made-up case.
use Rattle.std.specs.Prelude.{ℕ, zero, suc, ◌+◌, ◌%◌, ◌==◌, if◌then◌else◌, List, [], ◌∷◌, ◌++◌, length, get_or, codes}
use Rattle.std.specs.Fmt.{decimal}
use Rattle.made_cases.specs.Draws.{draw}

-- the commands so far: their text, the numbers of those that put a restriction in force, how many of these were taken out
-- again, the first put first, and how many numbers were drawn
pub record Script : Type 0 where
  pub text : List ℕ
  pub puts : List ℕ
  pub taken : ℕ
  pub draws : ℕ

-- the row that puts a restriction in force, which draws three numbers
abbrev pub put_row : ℕ → ℕ → ℕ → List ℕ
put_row n draws j =
    let from = draw n draws 119000 in
    codes "put g" ++ decimal j ++ codes " " ++ decimal from ++ codes " "
    ++ decimal (from + 100 + draw n (draws + 1) 900) ++ codes " "
    ++ decimal (30 + draw n (draws + 2) 90) ++ codes "\n"

-- the row that takes out the one of that number
abbrev pub take_row : ℕ → List ℕ
take_row j = codes "take g" ++ decimal j ++ codes "\n"

abbrev pub put_next : ℕ → ℕ → Script → Script
put_next n j s =
    record { text = s.text ++ put_row n s.draws j; puts = s.puts ++ j ∷ []; taken = s.taken; draws = s.draws + 3 }

abbrev pub take_first : Script → Script
take_first s = record s { text = s.text ++ take_row (get_or s.puts s.taken 0); taken = s.taken + 1 }

abbrev pub ask_time : Script → Script
ask_time s = record s { text = s.text ++ codes "time P3\n" }

-- with the command of number j: each twentieth asks for a time; the others take the restriction that was put first of those
-- in force where 40 are, and put one where there are fewer
abbrev pub with_command : ℕ → ℕ → Script → Script
with_command n j s =
    if j % 20 == 19 then ask_time s
    else if length s.puts == s.taken + 40 then take_first s
    else put_next n j s

-- the script of so many commands; gradients and limits have drawn 150 numbers before
unfoldable pub script : ℕ → ℕ → Script
script n zero = record { text = []; puts = []; taken = 0; draws = 150 }
script n (suc j) = with_command n j (script n j)

abbrev pub command_count : ℕ
command_count = 2000

abbrev pub commands_text : ℕ → List ℕ
commands_text n = (script n command_count).text
