-- The forms of a command line, and what each of them asks for.
use Rattle.std.specs.Prelude.{ℕ, Bool, false, true, List, [], ◌∷◌, Option, Some, None, option_and_then}
use Rattle.std.specs.Prelude.{codes, if◌then◌else◌, option_map}
use Rattle.std.specs.Str.{bytes_eq}
use Rattle.unit_rules.specs.Limits.{greatest_speed, longest_train, most_seed}
use Rattle.clap.specs.Words.{App, Row, Text, first_of}
use Rattle.run_words.specs.Commands.{◌taking◌, number_of, option_named, plain_app, positional, rows_in}
use Rattle.run_words.specs.declared.requests.BrakesForm.{BrakesForm}
use Rattle.run_words.specs.declared.requests.CapsForm.{CapsForm}
use Rattle.run_words.specs.declared.requests.CaseForm.{CaseForm}
use Rattle.run_words.specs.declared.requests.CheckForm.{CheckForm}
use Rattle.run_words.specs.declared.requests.EnvelopeForm.{EnvelopeForm}
use Rattle.run_words.specs.declared.requests.GenForm.{GenForm}
use Rattle.run_words.specs.declared.requests.PlanForm.{PlanForm}
use Rattle.run_words.specs.declared.requests.Print.{Print}
use Rattle.run_words.specs.declared.requests.Print.TheVariants as print
use Rattle.run_words.specs.declared.requests.RiseForm.{RiseForm}
use Rattle.run_words.specs.declared.requests.SessionForm.{SessionForm}
use Rattle.run_words.specs.declared.requests.StockForm.{StockForm}
use Rattle.run_words.specs.declared.requests.Request.{Request as Form}
use Rattle.run_words.specs.declared.requests.Request.TheVariants as form

-- the names of the files of a case: a line, a stock and a plan, and edits if there are any
pub record CaseNames : Type 0 where
  pub line : List ℕ
  pub stock : List ℕ
  pub plan : List ℕ
  pub edits : Option (List ℕ)

abbrev pub case_names : List ℕ → List ℕ → List ℕ → Option (List ℕ) → CaseNames
case_names line stock plan edits = record { line = line; stock = stock; plan = plan; edits = edits }

-- a form with the names of its files and its numbers, in the order of the words
pub data Request : Type 0 where
  Caps : List ℕ → ℕ → ℕ → Request
  Stock : List ℕ → Request
  Rise : List ℕ → List ℕ → ℕ → Request
  Brakes : List ℕ → List ℕ → Request
  Envelope : List ℕ → List ℕ → Request
  Plan : CaseNames → Print → Request
  Check : CaseNames → List ℕ → Request
  Session : List ℕ → List ℕ → List ℕ → Request
  Gen : ℕ → Request

infixl 9 ◌>>=◌
abbrev ◌>>=◌ : {A B : Type 0} → Option A → (A → Option B) → Option B
o >>= f = option_and_then f o

-- `caps LINE LENGTH TOP`: a length from 1 to 5000 m, a top speed from 1 to 500 km/h
abbrev pub caps_app : App
caps_app =
    plain_app (codes "caps")
    taking positional (codes "line") taking positional (codes "length") taking positional (codes "top")

abbrev pub caps_in : List Row → Option Request
caps_in rows = do
  line ← first_of (codes "line") rows
  length ← number_of 1 longest_train (codes "length") rows
  top ← number_of 1 greatest_speed (codes "top") rows
  Some (Caps line length top)

-- `stock STOCK`
abbrev pub stock_app : App
stock_app = plain_app (codes "stock") taking positional (codes "stock")

abbrev pub stock_in : List Row → Option Request
stock_in rows = do
  stock ← first_of (codes "stock") rows
  Some (Stock stock)

-- a command of this name for a train on a line: `NAME LINE STOCK`
abbrev pub train_app : Text → App
train_app name = plain_app name taking positional (codes "line") taking positional (codes "stock")

-- `rise LINE STOCK KMH`: a speed from 0 to 500 km/h
abbrev pub rise_app : App
rise_app = train_app (codes "rise") taking positional (codes "kmh")

abbrev pub rise_in : List Row → Option Request
rise_in rows = do
  line ← first_of (codes "line") rows
  stock ← first_of (codes "stock") rows
  kmh ← number_of 0 greatest_speed (codes "kmh") rows
  Some (Rise line stock kmh)

-- `brakes LINE STOCK`
abbrev pub brakes_app : App
brakes_app = train_app (codes "brakes")

abbrev pub brakes_in : List Row → Option Request
brakes_in rows = do
  line ← first_of (codes "line") rows
  stock ← first_of (codes "stock") rows
  Some (Brakes line stock)

-- `envelope LINE STOCK`
abbrev pub envelope_app : App
envelope_app = train_app (codes "envelope")

abbrev pub envelope_in : List Row → Option Request
envelope_in rows = do
  line ← first_of (codes "line") rows
  stock ← first_of (codes "stock") rows
  Some (Envelope line stock)

-- a command of this name for a case: `NAME LINE STOCK PLAN`, and `--edits FILE` where there are edits
abbrev pub case_app : Text → App
case_app name = train_app name taking positional (codes "plan")

abbrev pub case_in : List Row → Option CaseNames
case_in rows = do
  line ← first_of (codes "line") rows
  stock ← first_of (codes "stock") rows
  plan ← first_of (codes "plan") rows
  Some (case_names line stock plan (first_of (codes "edits") rows))

-- what a plan is asked to print, by its word
abbrev pub print_of : Text → Option Print
print_of word =
    if bytes_eq word (codes "envelope") then Some print.Envelope
    else if bytes_eq word (codes "timetable") then Some print.Timetable
    else if bytes_eq word (codes "cert") then Some print.Cert
    else None

-- `plan LINE STOCK PLAN --print envelope|timetable|cert [--edits FILE]`
abbrev pub plan_app : App
plan_app =
    case_app (codes "plan")
    taking option_named true (codes "print") taking option_named false (codes "edits")

abbrev pub plan_in : List Row → Option Request
plan_in rows = do
  names ← case_in rows
  word ← first_of (codes "print") rows
  kind ← print_of word
  Some (Plan names kind)

-- `check LINE STOCK PLAN CERT [--edits FILE]`
abbrev pub check_app : App
check_app =
    case_app (codes "check") taking positional (codes "cert") taking option_named false (codes "edits")

abbrev pub check_in : List Row → Option Request
check_in rows = do
  names ← case_in rows
  cert ← first_of (codes "cert") rows
  Some (Check names cert)

-- `session LINE STOCK PLAN`
abbrev pub session_app : App
session_app = case_app (codes "session")

abbrev pub session_in : List Row → Option Request
session_in rows = do
  line ← first_of (codes "line") rows
  stock ← first_of (codes "stock") rows
  plan ← first_of (codes "plan") rows
  Some (Session line stock plan)

-- `gen N`: a number from 1 to 1,000,000
abbrev pub gen_app : App
gen_app = plain_app (codes "gen") taking positional (codes "number")

abbrev pub gen_in : List Row → Option Request
gen_in rows = do
  number ← number_of 1 most_seed (codes "number") rows
  Some (Gen number)

-- the first of the words is this name
abbrev pub asks : List Text → Text → Bool
asks [] name = false
asks (word ∷ words) name = bytes_eq word name

-- what the words ask for, if they are a form: a form's name, and then what its command line takes,
-- with each number in its range
abbrev pub request_of : List Text → Option Request
request_of words =
    if asks words (codes "caps") then rows_in caps_app words >>= caps_in
    else if asks words (codes "stock") then rows_in stock_app words >>= stock_in
    else if asks words (codes "rise") then rows_in rise_app words >>= rise_in
    else if asks words (codes "brakes") then rows_in brakes_app words >>= brakes_in
    else if asks words (codes "envelope") then rows_in envelope_app words >>= envelope_in
    else if asks words (codes "plan") then rows_in plan_app words >>= plan_in
    else if asks words (codes "check") then rows_in check_app words >>= check_in
    else if asks words (codes "session") then rows_in session_app words >>= session_in
    else if asks words (codes "gen") then rows_in gen_app words >>= gen_in
    else None

-- what each form that was read asks for
abbrev pub caps_view : CapsForm → Request
caps_view f = Caps f.line.now f.train f.top

abbrev pub stock_view : StockForm → Request
stock_view f = Stock f.stock.now

abbrev pub rise_view : RiseForm → Request
rise_view f = Rise f.line.now f.stock.now f.kmh

abbrev pub brakes_view : BrakesForm → Request
brakes_view f = Brakes f.line.now f.stock.now

abbrev pub envelope_view : EnvelopeForm → Request
envelope_view f = Envelope f.line.now f.stock.now

abbrev pub case_view : CaseForm → CaseNames
case_view f = case_names f.line.now f.stock.now f.plan.now (option_map (λ s. s.now) f.edits)

abbrev pub plan_view : PlanForm → Request
plan_view f = Plan (case_view f.case) f.print

abbrev pub check_view : CheckForm → Request
check_view f = Check (case_view f.case) f.cert.now

abbrev pub session_view : SessionForm → Request
session_view f = Session f.line.now f.stock.now f.plan.now

abbrev pub gen_view : GenForm → Request
gen_view f = Gen f.number

-- what a request that was read asks for
abbrev pub view : Form → Request
view (form.Caps f) = caps_view f
view (form.Stock f) = stock_view f
view (form.Rise f) = rise_view f
view (form.Brakes f) = brakes_view f
view (form.Envelope f) = envelope_view f
view (form.Plan f) = plan_view f
view (form.Check f) = check_view f
view (form.Session f) = session_view f
view (form.Gen f) = gen_view f
