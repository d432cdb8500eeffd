-- What holds of each form: it has one answer at most, and it is silent until it is served.
use Rattle.std.proofs.Common.{ℕ, List, [], Option, Some, None}
use Rattle.plan_tables.specs.Plan.{empty_plan}
use Rattle.run_io.specs.Fetches.{Files}
use Rattle.run_words.specs.Requests.{Request, case_names, request_of}
use Rattle.run_words.specs.Requests.Request.{Caps, Stock, Rise, Brakes, Envelope, Plan, Check, Session, Gen}
use Rattle.run_files.specs.Files.{refusal}
use Rattle.run_cli.specs.FileLaws.{alone}
use Rattle.run_cli.specs.Forms.{WordsAnswerOnce, meaning_of, meant_by}
use Rattle.run_cli.specs.Meanings.{IsOnce, IsSilent, Meaning}
use Rattle.run_cli.proofs.OnceFacts.{AnswersBy-once, ByBoth-once, ByCase-once, ByClaim-once, ByLine-once, ByStock-once, Is-once, IsBrakes-once, IsChecked-once, IsEnvelope-once, RepliesTo-once, plan_answer-once}
use Rattle.run_cli.proofs.SessionFacts.{session_silent}
use Rattle.run_cli.proofs.GenFacts.{SumsMade-once, made_alone}
use Rattle.run_cli.specs.Gen.{SumsMade, fault_of_made}
use Rattle.made_cases.specs.Made.{made_case}

record IsLawful (m : Meaning) : Type 0 where
  once : (files : Files) (input : List ℕ) → IsOnce (m.answers files input)
  silent : IsSilent m

form_facts : (request : Option Request) → IsLawful (meaning_of request)
form_facts None = record { once = λ files input. Is-once _ _; silent = (alone _ _ _ _).quiet }
form_facts (Some (Caps line train top)) =
    record { once = λ files input. ByLine-once line files _ (λ table. Is-once _ _); silent = (alone _ _ _ _).quiet }
form_facts (Some (Stock stock)) =
    record { once = λ files input. ByStock-once stock files _ (λ table. Is-once _ _); silent = (alone _ _ _ _).quiet }
form_facts (Some (Rise line stock kmh)) =
    record { once = λ files input. ByBoth-once line stock files _ (λ table train. Is-once _ _); silent = (alone _ _ _ _).quiet }
form_facts (Some (Brakes line stock)) =
    record { once = λ files input. ByBoth-once line stock files _ IsBrakes-once; silent = (alone _ _ _ _).quiet }
form_facts (Some (Envelope line stock)) =
    record { once = λ files input. ByBoth-once line stock files _ (λ table train. IsEnvelope-once table train empty_plan []); silent = (alone _ _ _ _).quiet }
form_facts (Some (Plan names kind)) =
    record { once = λ files input. ByCase-once names files _ (plan_answer-once kind); silent = (alone _ _ _ _).quiet }
form_facts (Some (Check names cert)) =
    record { once = λ files input. ByClaim-once names cert files _ IsChecked-once; silent = (alone _ _ _ _).quiet }
form_facts (Some (Session line stock plan)) =
    record { once = λ files input. ByCase-once (case_names line stock plan None) files _ (RepliesTo-once input); silent = session_silent (case_names line stock plan None) }
form_facts (Some (Gen number)) =
    record { once = λ files input. AnswersBy-once (fault_of_made (made_case number)) (SumsMade (made_case number)) (SumsMade-once (made_case number)); silent = (made_alone (made_case number)).quiet }

pub answers_once : WordsAnswerOnce
answers_once words files input =
    let m = meant_by words in
    AnswersBy-once (refusal files (m.reads (Some files))) (m.answers files input) ((form_facts (request_of words)).once files input)

pub words_silent : (words : List (List ℕ)) → IsSilent (meant_by words)
words_silent words = (form_facts (request_of words)).silent
