-- That the summary of a session over a made-up case is served as it is meant, and that there is one at most.
use Rattle.std.proofs.Common.{◌≡◌, ◌+◌, ◌*◌, ◌⊎◌, ◌∷◌, ℕ, List, [], Option, Some, None, Result, Ok, Err, IfSome, refl, sym, ap, subst, ◌∙◌, inl, inr, arith}
use Rattle.certificate.specs.Texts.{CertView}
use Rattle.line_tables.specs.Line.{LineView}
use Rattle.plan_tables.specs.Plan.{PlanView}
use Rattle.stock_tables.specs.Stock.{StockView}
use Rattle.made_cases.specs.Made.{MadeView}
use Rattle.restrictions.specs.Edits.{lines_of}
use Rattle.run_files.specs.CaseTexts.{IsCaseOf, StopsTexts}
use Rattle.run_files.specs.Files.{fault_of, line_reading, plan_reading, stock_reading, table_of}
use Rattle.run_files.specs.Statuses.{extent_of, status_text}
use Rattle.run_files.specs.Statuses.Extent.{whole}
use Rattle.run_files.specs.declared.status.Status.{Status}
use Rattle.run_files.specs.declared.status.Status.TheVariants.{Done, Memory, WriteFault}
use Rattle.run_io.specs.Fetches.{Files}
use Rattle.run_io.specs.Told.{Rose, Told, Writes, WritesFront}
use Rattle.session_lines.specs.Dialogues.{after, after_line}
use Rattle.session_replies.specs.Asked.{asked}
use Rattle.session_replies.specs.Cases.{CaseView}
use Rattle.session_replies.specs.Replies.{Arrives, answer_to, arrival_at, talk}
use Rattle.session_replies.specs.Summaries.{IsSummary, Tallies, no_tally, summary_text, with_answer}
use Rattle.session_replies.specs.declared.summary.Summary.{Summary}
use Rattle.session_replies.specs.declared.summary.Tally.{Tally}
use Rattle.time_brackets.specs.Sums.{block_cells}
use Rattle.time_brackets.specs.declared.Bracket.{Bracket}
use Rattle.run_cli.specs.Ends.{EndsShort, EndsWhole}
use Rattle.run_cli.specs.Gen.{AnswersMade, IsCaseMade, SumEnds, Sums, SumsMade, fault_of_made, made_meaning}
use Rattle.run_cli.specs.Meanings.{IsFileForm, IsOnce}
use Rattle.run_cli.specs.Serves.{Finishes, Works}
use Rattle.run_cli.proofs.OnceFacts.{Some-same, run_once}
use Rattle.run_cli.proofs.ServeFacts.{IfSome-all, WritesFront-none}

-- the form reads nothing, and is silent until it is served
pub made_alone : (made : MadeView) → IsFileForm (made_meaning made)
made_alone made = record { no_input = refl; quiet = record { silent = λ files left s e. refl; idle = λ told. inl refl } }

-- there is no fault where there is a table
no_fault : {T : Type 0} (r : Result T Status) (t : T) → table_of r ≡ Some t → fault_of r ≡ None
no_fault {T} (Ok table) t e = refl
no_fault {T} (Err s) t e = absurd (cc e)

nothing_there : (made : MadeView) (l : LineView) (s : StockView) (p : PlanView) → IsCaseOf made.line made.stock made.plan l s p → fault_of_made made ≡ None
nothing_there made l s p is =
    rw (no_fault (line_reading.read made.line) l is.is_line, no_fault (stock_reading.read made.stock) s is.is_stock, is.is_line, no_fault ((plan_reading l).read made.plan) p is.is_plan) refl

-- what is in the way of the case's files is told by its own text
pub Works-fault : (made : MadeView) (told : Option Files) (out out' : Told (List ℕ)) (count : ℕ) (status s : Status) → StopsTexts made.line made.stock made.plan status → Finishes status out out' s
    → Works (made_meaning made) told out out' count count s
Works-fault made told out out' count status s stops ends = record { ends = by stops ends; cost = 0; allowed = inl refl; steps = omega arith }
  where
    answer : fault_of_made made ≡ Some status → AnswersMade made status (status_text status)
    answer fault = rw fault (record { status_is = refl; text_is = refl })

    by : StopsTexts made.line made.stock made.plan status → Finishes status out out' s
        → ((s ≡ Memory) × Writes out out' [])
        ⊎ ((s ≡ WriteFault) × Rose out out' × (Writes out out' [] ⊎ IfSome told (λ files. EndsShort (AnswersMade made) out out')))
        ⊎ ((extent_of s ≡ whole) × ((s ≡ Done) ⊎ (fault_of_made made ≡ Some s)) × IfSome told (λ files. EndsWhole (AnswersMade made) s out out'))
    by (inl memory) (inl (is, written)) = inl (is ∙ memory, subst (λ (r : Status). Writes out out' (status_text r)) memory written)
    by (inl memory) (inr (is, front, rose)) = inr (inl (is, rose, inl (WritesFront-none out out' (subst (λ (r : Status). WritesFront out out' (status_text r)) memory front))))
    by (inr (own, fault)) (inl (is, written)) = inr (inr (
      ap extent_of is ∙ own,
      inr (fault ∙ ap (λ (r : Status). Some r) (sym is)),
      IfSome-all told _ (λ files. record { text = status_text status; answer = subst (λ (r : Status). AnswersMade made r (status_text status)) (sym is) (answer fault); written = written }),
    ))
    by (inr (own, fault)) (inr (is, front, rose)) =
        inr (inl (is, rose, inr (IfSome-all told _ (λ files. record { status = status; text = status_text status; answer = answer fault; written = front }))))

-- and a session over the case by its summary
pub Works-summed : (made : MadeView) (told : Option Files) (c : CaseView) (out out' : Told (List ℕ)) (before now : ℕ) (s : Status) → IsCaseMade made c → Sums c (lines_of made.commands) out out' before now s
    → Works (made_meaning made) told out out' before now s
Works-summed made told c out out' before now s is sums = record {
  ends = by sums.ends;
  cost = 35 * (c.line.length + 1) + sums.cost + block_cells;
  allowed = inr (record { case = c; is_case = is; cost = sums.cost; allowed = sums.allowed; within = omega arith });
  steps = omega (arith, sums.within);
}
  where
    none : fault_of_made made ≡ None
    none = nothing_there made c.line c.stock c.plan is.0

    answer : (summary : Summary) → IsSummary c (lines_of made.commands) summary → AnswersMade made Done (summary_text summary)
    answer summary is_summary = rw none (record { case = c; is_case = is; summary = summary; is_summary = is_summary; is = record { status_is = refl; text_is = refl } })

    by : SumEnds c (lines_of made.commands) out out' s
        → ((s ≡ Memory) × Writes out out' [])
        ⊎ ((s ≡ WriteFault) × Rose out out' × (Writes out out' [] ⊎ IfSome told (λ files. EndsShort (AnswersMade made) out out')))
        ⊎ ((extent_of s ≡ whole) × ((s ≡ Done) ⊎ (fault_of_made made ≡ Some s)) × IfSome told (λ files. EndsWhole (AnswersMade made) s out out'))
    by (inl memory) = inl memory
    by (inr (summary, is_summary, inl (is_done, written))) = inr (inr (
      ap extent_of is_done,
      inl is_done,
      IfSome-all told _ (λ files. record { text = summary_text summary; answer = subst (λ (r : Status). AnswersMade made r (summary_text summary)) (sym is_done) (answer summary is_summary); written = written }),
    ))
    by (inr (summary, is_summary, inr (failed, rose, front))) =
        inr (inl (failed, rose, inr (IfSome-all told _ (λ files. record { status = Done; text = summary_text summary; answer = answer summary is_summary; written = front }))))

-- lines make one of a tally
tallies_once : (c : CaseView) (lines : List (List ℕ)) (t u v : Tally) → Tallies c lines t u → Tallies c lines t v → u ≡ v
tallies_once c [] t u v a b = a ∙ sym b
tallies_once c (line ∷ lines) t u v (run, is_run, more) (run', is_run', more') =
    let next = after_line talk c line in
    let same = run_once next run' run is_run' is_run in
    tallies_once next lines (with_answer (answer_to next run (asked c line)) t) u v more
    (subst (λ (r : CertView). Tallies next lines (with_answer (answer_to next r (asked c line)) t) v) same more')

arrives_once : (c : CaseView) (point : ℕ) (a b : Option Bracket) → Arrives c point a → Arrives c point b → a ≡ b
arrives_once c point a b there there' =
    there.is ∙ ap (λ (r : CertView). arrival_at c.plan r.e point) (run_once c there.run there'.run there.is_run there'.is_run) ∙ sym there'.is

summary_once : (c : CaseView) (lines : List (List ℕ)) (s r : Summary) → IsSummary c lines s → IsSummary c lines r → s ≡ r
summary_once c lines s r a b =
    let points = a.points ∙ sym b.points in
    let commands = a.commands ∙ sym b.commands in
    let tally = tallies_once c lines no_tally s.tally r.tally a.tally b.tally in
    let last = arrives_once (after talk c lines) c.line.length s.last r.last a.last b.last in
    λ k. record { points = points k; commands = commands k; tally = tally k; last = last k }

-- the files read as one case
case_once : (made : MadeView) (c d : CaseView) → IsCaseMade made c → IsCaseMade made d → c ≡ d
case_once made c d a b =
    let line = Some-same (table_of (line_reading.read made.line)) c.line d.line a.0.is_line b.0.is_line in
    let stock = Some-same (table_of (stock_reading.read made.stock)) c.stock d.stock a.0.is_stock b.0.is_stock in
    let there = subst (λ (l : LineView). table_of ((plan_reading l).read made.plan) ≡ Some d.plan) (sym line) b.0.is_plan in
    let plan = Some-same (table_of ((plan_reading c.line).read made.plan)) c.plan d.plan a.0.is_plan there in
    let force = a.1 ∙ sym b.1 in
    λ k. record { line = line k; stock = stock k; plan = plan k; force = force k }

pub SumsMade-once : (made : MadeView) → IsOnce (SumsMade made)
SumsMade-once made s r t u a b =
    let lines = lines_of made.commands in
    let same = case_once made b.case a.case b.is_case a.is_case in
    let there = subst (λ (c : CaseView). IsSummary c lines b.summary) same b.is_summary in
    let summary = summary_once a.case lines a.summary b.summary a.is_summary there in
    record { one_status = a.is.status_is ∙ sym b.is.status_is; one_text = a.is.text_is ∙ ap summary_text summary ∙ sym b.is.text_is }
