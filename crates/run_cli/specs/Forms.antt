-- What each form means.
use Rattle.std.specs.Prelude.{ℕ, List, Option, Some, None}
use Rattle.run_words.specs.Requests.{Request, case_names, request_of}
use Rattle.run_words.specs.Requests.Request.{Caps, Stock, Rise, Brakes, Envelope, Plan, Check, Session, Gen}
use Rattle.run_cli.specs.Brakes.{brakes_meaning}
use Rattle.run_cli.specs.Caps.{caps_meaning}
use Rattle.run_cli.specs.Check.{check_meaning}
use Rattle.run_cli.specs.Envelope.{envelope_meaning}
use Rattle.run_cli.specs.FileForms.{no_form}
use Rattle.run_cli.specs.Gen.{gen_meaning}
use Rattle.run_cli.specs.Meanings.{AnswersOnce, Meaning}
use Rattle.run_cli.specs.Plan.{plan_meaning}
use Rattle.run_cli.specs.Rise.{rise_meaning}
use Rattle.run_cli.specs.Session.{session_meaning}
use Rattle.run_cli.specs.Stock.{stock_meaning}

abbrev pub meaning_of : Option Request → Meaning
meaning_of None = no_form
meaning_of (Some (Caps line train top)) = caps_meaning line train top
meaning_of (Some (Stock stock)) = stock_meaning stock
meaning_of (Some (Rise line stock kmh)) = rise_meaning line stock kmh
meaning_of (Some (Brakes line stock)) = brakes_meaning line stock
meaning_of (Some (Envelope line stock)) = envelope_meaning line stock
meaning_of (Some (Plan names kind)) = plan_meaning kind names
meaning_of (Some (Check names cert)) = check_meaning names cert
meaning_of (Some (Session line stock plan)) = session_meaning (case_names line stock plan None)
meaning_of (Some (Gen number)) = gen_meaning number

-- what the words of a command line mean
abbrev pub meant_by : List (List ℕ) → Meaning
meant_by words = meaning_of (request_of words)

-- no words have two answers over any files and any input
abbrev pub WordsAnswerOnce : Type 0
WordsAnswerOnce = (words : List (List ℕ)) → AnswersOnce (meant_by words)
