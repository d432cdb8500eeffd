-- What a made-up case is.
use Rattle.std.specs.Prelude.{ℕ, List, codes}
use Rattle.made_cases.specs.Commands.{commands_text}
use Rattle.made_cases.specs.Files.{line_text}
use Rattle.made_cases.specs.declared.Made.{Made}

-- the stock file: a train of 400 t, 400 m and 200 km/h
abbrev pub stock_text : List ℕ
stock_text = codes "mass = 400000\nrotating = 60\nlength = 400\ntop = 200\neffort = [[0, 300000], [67, 300000], [70, 288000], [80, 252000], [90, 224000], [100, 201600], [120, 168000], [140, 144000], [160, 126000], [180, 112000], [200, 100800]]\nresistance = [4000, 30000, 600]\nbrake = [[0, 500], [200, 500]]\n"

-- the plan file: a stop of a minute at each point, and an allowance of 5 % over the whole line
abbrev pub plan_text : List ℕ
plan_text = codes "depart,0\nstop,P1,60\nstop,P2,60\nstop,P3,60\nstop,P4,60\nstop,P5,60\nallow,0,120000,percent,50\n"

-- what contracts see of a case: three files, and the lines of a session
pub record MadeView : Type 0 where
  pub line : List ℕ
  pub stock : List ℕ
  pub plan : List ℕ
  pub commands : List ℕ

abbrev pub seen : Made → MadeView
seen made = record { line = made.line.items; stock = made.stock.items; plan = made.plan.items; commands = made.commands.items }

-- the case of a number
unfoldable pub made_case : ℕ → MadeView
made_case n = record { line = line_text n; stock = stock_text; plan = plan_text; commands = commands_text n }
