-- How a session is served, by how it was opened, held and closed.
use Rattle.std.proofs.Common.{◌≡◌, ◌≤◌, ◌<◌, ◌+◌, ◌*◌, ◌⊎◌, ℕ, true, List, [], ◌++◌, length, take, Option, Some, None, Ok, IfSome, IsTrue, refl, sym, ap, subst, ◌∙◌, inl, inr, arith, length-append}
use Rattle.std.proofs.lemmas.Bool.{cases_lt}
use Rattle.std.proofs.lemmas.List.{append-nil, take-append-le}
use Rattle.std.specs.Io.KnownBytes.{Consumes, IsAtEnd}
use Rattle.line_tables.specs.Line.{LineView}
use Rattle.plan_tables.specs.Plan.{PlanView}
use Rattle.restrictions.specs.Edits.{lines_of}
use Rattle.run_io.specs.Fetches.{Files}
use Rattle.run_io.specs.Told.{Rose, Told, Writes, WritesFront}
use Rattle.run_io.proofs.Written.{Writes-nil, Writes-trans, WritesFront-after}
use Rattle.run_words.specs.Requests.{CaseNames, case_names}
use Rattle.session_lines.specs.Dialogues.{Allows, Replies}
use Rattle.session_lines.specs.Lines.{lines_within, whole_lines}
use Rattle.session_lines.specs.Sessions.{EndsBy}
use Rattle.session_lines.specs.declared.Ending.{Ending}
use Rattle.session_lines.specs.declared.Ending.TheVariants as ending
use Rattle.session_lines.proofs.HoldFacts.{lines_within-long, lines_within-short}
use Rattle.session_replies.specs.Cases.{CaseView, case_of}
use Rattle.session_replies.specs.Replies.{talk}
use Rattle.stock_tables.specs.Stock.{StockView}
use Rattle.unit_rules.specs.Limits.{most_bytes}
use Rattle.run_files.specs.Files.{Blames, IsCase, case_files, line_reading, plan_reading, refusal, stock_reading, table_in}
use Rattle.run_files.specs.Loads.{Loads}
use Rattle.run_files.specs.Statuses.Extent.{whole, stopped}
use Rattle.run_files.specs.Statuses.{extent_of, input_number, status_text}
use Rattle.run_files.specs.declared.cases.Case.{Case}
use Rattle.run_files.specs.declared.status.Status.{Status}
use Rattle.run_files.specs.declared.status.Status.TheVariants.{Done, Memory, ReadFault, TooLong, WriteFault}
use Rattle.run_files.proofs.ToldFacts.{IfSome-along, IfSome-both}
use Rattle.run_cli.specs.Ends.{AllQuiet, EndsShort, EndsWhole, outside}
use Rattle.run_cli.specs.FileForms.{ByCase, CaseAnswer}
use Rattle.run_cli.specs.Meanings.{Answers, IsSilent, Meaning}
use Rattle.run_cli.specs.Serves.{Closes, Holds, Serves}
use Rattle.run_cli.specs.Session.{RepliesTo, StandsReplied, session_meaning}
use Rattle.run_cli.proofs.ServeFacts.{Answers-accepted, Consumes-none, EndsBy-whole, IfSome-all, IsQuiet-Rose}

-- the files of a session hold a case, in which nothing is in force
record IsAt (names : CaseNames) (files : Files) (line : LineView) (stock : StockView) (plan : PlanView) : Type 0 where
  is_line : table_in line_reading (files names.line) ≡ Some line
  is_stock : table_in stock_reading (files names.stock) ≡ Some stock
  is_plan : table_in (plan_reading line) (files names.plan) ≡ Some plan

is_at : (l s p : List ℕ) (told : Option Files) (c : Case) → IsCase (case_names l s p None) told c
    → IfSome told (λ files. IsAt (case_names l s p None) files c.line c.stock c.plan)
is_at l s p None c is = tt
is_at l s p (Some files) c is = record { is_line = is.line.same; is_stock = is.stock.same; is_plan = is.plan.same }

by_case : (l s p : List ℕ) (files : Files) (line : LineView) (stock : StockView) (plan : PlanView) (next : CaseAnswer) (status : Status) (t : List ℕ) → IsAt (case_names l s p None) files line stock plan
    → next line stock plan [] status t → ByCase (case_names l s p None) next files status t
by_case l s p files line stock plan next status t at h = (line, at.is_line, (stock, at.is_stock, (plan, at.is_plan, h)))

-- how the talk of a session ended, in the words of the top call: its whole text was written; or it was stopped, and what stands
-- is so far; or a front was written
abbrev TalkEnds : Meaning → Option Files → List ℕ → Told (List ℕ) → Told (List ℕ) → Told (List ℕ) → Told (List ℕ) → Status → Type 0
TalkEnds m told taken input input' out out' s =
    ((extent_of s ≡ whole) × m.may_end s × IfSome told (λ files. IfSome input.holds (λ all. EndsWhole (m.answers files all) s out out')))
    ⊎ ((extent_of s ≡ stopped) × ((s ≡ Memory) ⊎ ((s ≡ ReadFault) × Rose input input'))
    × IfSome told (λ files. (t : List ℕ) × m.so_far files taken input'.holds s t × Writes out out' t))
    ⊎ ((s ≡ WriteFault) × Rose out out' × IfSome told (λ files. IfSome input.holds (λ all. EndsShort (m.answers files all) out out')))

Serves-talked : {T : Type 0} (names : CaseNames) (shelf shelf' : Told Files) (input input' out out' : Told (List ℕ)) (before now : ℕ) (table : T) (taken : List ℕ) (s : Status)
    → Loads (case_files names) shelf shelf' (Ok table) → input.faults ≤ input'.faults → Consumes input.holds input'.holds taken → (s ≡ Done → IsAtEnd input'.holds)
    → (cost : ℕ) → now ≤ before + cost → (session_meaning names).steps shelf.holds taken cost → TalkEnds (session_meaning names) shelf.holds taken input input' out out' s
    → Serves (session_meaning names) (outside shelf input out) (outside shelf' input' out') before now s
Serves-talked {T} names shelf shelf' input input' out out' before now table taken s loads later took at_end cost within allowed ends = by ends
  where
    by : TalkEnds (session_meaning names) shelf.holds taken input input' out out' s → Serves (session_meaning names) (outside shelf input out) (outside shelf' input' out') before now s
    by (inl (is_whole, may, content)) =
        let told = IfSome-both shelf.holds _ _ (λ files. IfSome input.holds (λ all. EndsWhole (Answers (session_meaning names) files all) s out out')) (λ files none c. IfSome-along input.holds _ _ (λ all h. record {
          text = h.text;
          answer = Answers-accepted (session_meaning names) files all s h.text none h.answer;
          written = h.written;
        }) c) loads.loaded content in
        record {
          ends = IfSome-along shelf.holds _ _ (λ files c. IfSome-along input.holds _ _
              (λ all h. EndsBy-whole (session_meaning names) files all (outside shelf input out) (outside shelf' input' out') s is_whole h) c) told;
          causes = rw is_whole (inr may);
          complete = λ quiet. IfSome-along shelf.holds _ _ (λ files c. IfSome-along input.holds _ _ (λ all h. inr h) c) told;
          takes = (later, (taken, took), at_end);
          steps = record { taken = taken; took = took; cost = cost; allowed = allowed; within = within };
        }
    by (inr (inl (is_stopped, why, content))) = record {
      ends = IfSome-along shelf.holds _ _ (λ files h. IfSome-all input.holds _ (λ all. rw is_stopped (record {
        reason = reason files why;
        taken = taken;
        took = took;
        text = h.0;
        stands = h.1;
        written = h.2;
      }))) content;
      causes = rw is_stopped (cause why);
      complete = λ quiet. complete quiet why;
      takes = (later, (taken, took), at_end);
      steps = record { taken = taken; took = took; cost = cost; allowed = allowed; within = within };
    }
      where
        reason : (files : Files) → (s ≡ Memory) ⊎ ((s ≡ ReadFault) × Rose input input')
            → (s ≡ Memory) ⊎ Rose shelf shelf' ⊎ (IsTrue true × Rose input input') ⊎ (refusal files (case_files names) ≡ Some s)
        reason files (inl memory) = inl memory
        reason files (inr (e, rose)) = inr (inr (inl (refl, rose)))

        cause : (s ≡ Memory) ⊎ ((s ≡ ReadFault) × Rose input input') → (s ≡ Memory) ⊎ Blames shelf shelf' (case_files names) s ⊎ (IsTrue true × Rose input input')
        cause (inl memory) = inl memory
        cause (inr (e, rose)) = inr (inr (refl, rose))

        complete : AllQuiet (session_meaning names) (outside shelf input out) (outside shelf' input' out') → (s ≡ Memory) ⊎ ((s ≡ ReadFault) × Rose input input')
            → IfSome shelf.holds (λ files. IfSome input.holds (λ all. (s ≡ Memory) ⊎ EndsWhole (Answers (session_meaning names) files all) s out out'))
        complete quiet (inl memory) = IfSome-all shelf.holds _ (λ files. IfSome-all input.holds _ (λ all. inl memory))
        complete quiet (inr (e, rose)) = absurd (IsQuiet-Rose input input' rose (quiet.input refl))
    by (inr (inr (is, rose, content))) =
        subst (λ (q : Status). (q ≡ Done → IsAtEnd input'.holds) → Serves (session_meaning names) (outside shelf input out) (outside shelf' input' out') before now q) (sym is)
        (λ none. record {
          ends = IfSome-both shelf.holds _ _ _ (λ files accepted c. IfSome-along input.holds _ _ (λ all h. inr (record {
            status = h.status;
            text = h.text;
            answer = Answers-accepted (session_meaning names) files all h.status h.text accepted h.answer;
            written = h.written;
          })) c) loads.loaded content;
          causes = rose;
          complete = λ quiet. absurd (IsQuiet-Rose out out' rose quiet.out);
          takes = (later, (taken, took), none);
          steps = record { taken = taken; took = took; cost = cost; allowed = allowed; within = within };
        }) at_end

-- what is told of an input that was taken from
all_taken : (old new : Option (List ℕ)) (taken : List ℕ) → Consumes old new taken → IsAtEnd new → IfSome old (λ all. all ≡ taken)
all_taken None new taken took end = tt
all_taken (Some all) None taken took end = absurd took
all_taken (Some all) (Some rest) taken took end =
    let same : all ≡ taken ++ rest = took in
    rw (same, end) (append-nil taken)

front_taken : (old new : Option (List ℕ)) (taken : List ℕ) → Consumes old new taken → IfSome old (λ all. (rest : List ℕ) × (all ≡ taken ++ rest))
front_taken None new taken took = tt
front_taken (Some all) None taken took = absurd took
front_taken (Some all) (Some rest) taken took = (rest, took)

-- a front of a text is a front of it and more
front-longer : (a b : Told (List ℕ)) (t more : List ℕ) → WritesFront a b t → WritesFront a b (t ++ more)
front-longer a b t more f =
    let long = length-append t more in
    (f.0, omega (arith, f.1, long), rw (take-append-le f.0 t more f.1) f.2)

-- no lines in no bytes
no_lines : lines_of [] ≡ []
unfolding lines_of
no_lines = refl

-- an input that isn't too long is answered line by line, and of a longer one the lines that end before the limit
answers_all : (l s p : List ℕ) (files : Files) (line : LineView) (stock : StockView) (plan : PlanView) (all t : List ℕ) → IsAt (case_names l s p None) files line stock plan → length all ≤ most_bytes
    → Replies talk (case_of line stock plan []) (lines_of all) t → (session_meaning (case_names l s p None)).answers files all Done t
answers_all l s p files line stock plan all t at short replies =
    by_case l s p files line stock plan (RepliesTo all) Done t at (inl (record { short = short; replies = replies; is_done = refl }))

answers_front : (l s p : List ℕ) (files : Files) (line : LineView) (stock : StockView) (plan : PlanView) (all said : List ℕ) → IsAt (case_names l s p None) files line stock plan → most_bytes < length all
    → Replies talk (case_of line stock plan []) (whole_lines (take most_bytes all)) said
    → (session_meaning (case_names l s p None)).answers files all (TooLong input_number) (said ++ status_text (TooLong input_number))
answers_front l s p files line stock plan all said at long replies =
    by_case l s p files line stock plan (RepliesTo all) (TooLong input_number) (said ++ status_text (TooLong input_number)) at
    (inr (record { long = long; said = said; replies = replies; is = record { status_is = refl; text_is = refl } }))

-- a front of the replies to an input is a front of a text that answers it
answers_short : (l s p : List ℕ) (files : Files) (line : LineView) (stock : StockView) (plan : PlanView) (all t : List ℕ) (out out' : Told (List ℕ)) → IsAt (case_names l s p None) files line stock plan
    → Replies talk (case_of line stock plan []) (lines_within all) t → WritesFront out out' t → EndsShort ((session_meaning (case_names l s p None)).answers files all) out out'
answers_short l s p files line stock plan all t out out' at replies front =
    elim (cases_lt most_bytes (length all)) [
      | inl long ↦ record {
        status = TooLong input_number;
        text = t ++ status_text (TooLong input_number);
        answer = answers_front l s p files line stock plan all t at long (subst (λ (ls : List (List ℕ)). Replies talk (case_of line stock plan []) ls t) (lines_within-long all long) replies);
        written = front-longer out out' t (status_text (TooLong input_number)) front;
      }
      | inr short ↦ record {
        status = Done;
        text = t;
        answer = answers_all l s p files line stock plan all t at short (subst (λ (ls : List (List ℕ)). Replies talk (case_of line stock plan []) ls t) (lines_within-short all short) replies);
        written = front;
      }
    ]

-- so is an input of which too much was taken
long_answer : (l s p : List ℕ) (files : Files) (line : LineView) (stock : StockView) (plan : PlanView) (taken all said : List ℕ) → IsAt (case_names l s p None) files line stock plan
    → (rest : List ℕ) × (all ≡ taken ++ rest) → most_bytes < length taken → Replies talk (case_of line stock plan []) (whole_lines (take most_bytes taken)) said
    → (session_meaning (case_names l s p None)).answers files all (TooLong input_number) (said ++ status_text (TooLong input_number))
long_answer l s p files line stock plan taken all said at (rest, same) long replies =
    let more = length-append taken rest in
    let points = ap length same in
    let front = ap (take most_bytes) same ∙ take-append-le most_bytes taken rest (omega (arith, long)) in
    answers_front l s p files line stock plan all said at (omega (arith, long, points, more))
    (subst (λ (q : List ℕ). Replies talk (case_of line stock plan []) (whole_lines q) said) (sym front) replies)

-- how a session ends, by how it was held and closed
held_ends : (l s p : List ℕ) (told : Option Files) (line : LineView) (stock : StockView) (plan : PlanView) (taken : List ℕ) (input input' out between out' : Told (List ℕ)) (status : Status) (e : Ending)
    → IfSome told (λ files. IsAt (case_names l s p None) files line stock plan) → Consumes input.holds input'.holds taken → out.faults ≤ between.faults
    → EndsBy talk (case_of line stock plan []) taken input input' out between e → Closes e between out' status
    → TalkEnds (session_meaning (case_names l s p None)) told taken input input' out out' status
held_ends l s p told line stock plan taken input input' out between out' status ending.Done at took later (short, end, (t, replies, written)) (is, same) =
    rw (is, same) (inl (
      refl,
      inl refl,
      IfSome-along told _ _ (λ files here. IfSome-along input.holds _ _ (λ all e. record {
        text = t;
        answer = answers_all l s p files line stock plan all t here (rw e short) (rw e replies);
        written = written;
      }) (all_taken input.holds input'.holds taken took end)) at,
    ))
held_ends l s p told line stock plan taken input input' out between out' status ending.TooLong at took later (long, (t, replies, written)) (inl (is, text)) =
    rw is (inl (
      refl,
      inr refl,
      IfSome-along told _ _ (λ files here. IfSome-along input.holds _ _ (λ all e. record {
        text = t ++ status_text (TooLong input_number);
        answer = long_answer l s p files line stock plan taken all t here e long replies;
        written = Writes-trans out between out' t (status_text (TooLong input_number)) written text;
      }) (front_taken input.holds input'.holds taken took)) at,
    ))
held_ends l s p told line stock plan taken input input' out between out' status ending.TooLong at took later (long, (t, replies, written)) (inr (is, front, rose)) =
    rw is (inr (inr (
      refl,
      omega (arith, later, rose),
      IfSome-along told _ _ (λ files here. IfSome-along input.holds _ _ (λ all e. record {
        status = TooLong input_number;
        text = t ++ status_text (TooLong input_number);
        answer = long_answer l s p files line stock plan taken all t here e long replies;
        written = WritesFront-after out between out' t (status_text (TooLong input_number)) [] (t ++ status_text (TooLong input_number)) written front (sym (append-nil _));
      }) (front_taken input.holds input'.holds taken took)) at,
    )))
held_ends l s p told line stock plan taken input input' out between out' status ending.ReadFault at took later (short, rose, (t, replies, written)) (is, same) =
    rw (is, same) (inr (inl (
      refl,
      inr (refl, rose),
      IfSome-along told _ _ (λ files here. (t, inr (by_case l s p files line stock plan (StandsReplied taken input'.holds) ReadFault t here replies), written)) at,
    )))
held_ends l s p told line stock plan taken input input' out between out' status ending.Memory at took later (t, wants, written) (is, same) =
    rw (is, same) (inr (inl (
      refl,
      inl refl,
      IfSome-along told _ _ (λ files here. (t, inr (by_case l s p files line stock plan (StandsReplied taken input'.holds) Memory t here wants), written)) at,
    )))
held_ends l s p told line stock plan taken input input' out between out' status ending.WriteFault at took later (rose, content) (is, same) =
    rw (is, same) (inr (inr (
      refl,
      rose,
      IfSome-along told _ _ (λ files here. IfSome-along input.holds _ _ (λ all h. answers_short l s p files line stock plan all h.0 out between here h.1 h.2) content) at,
    )))

-- a session that is done was read to its end
held_to_end : (c : CaseView) (taken : List ℕ) (input input' out between out' : Told (List ℕ)) (status : Status) (e : Ending) → EndsBy talk c taken input input' out between e → Closes e between out' status
    → status ≡ Done → IsAtEnd input'.holds
held_to_end c taken input input' out between out' status ending.Done ends closes d = ends.1
held_to_end c taken input input' out between out' status ending.TooLong ends (inl (is, text)) d = let no : TooLong input_number ≡ Done = sym is ∙ d in absurd (cc no)
held_to_end c taken input input' out between out' status ending.TooLong ends (inr (is, front, rose)) d = let no : WriteFault ≡ Done = sym is ∙ d in absurd (cc no)
held_to_end c taken input input' out between out' status ending.ReadFault ends (is, same) d = let no : ReadFault ≡ Done = sym is ∙ d in absurd (cc no)
held_to_end c taken input input' out between out' status ending.WriteFault ends (is, same) d = let no : WriteFault ≡ Done = sym is ∙ d in absurd (cc no)
held_to_end c taken input input' out between out' status ending.Memory ends (is, same) d = let no : Memory ≡ Done = sym is ∙ d in absurd (cc no)

-- the steps of its lines are allowed, and those of its opening
steps_allowed : (l s p : List ℕ) (told : Option Files) (line : LineView) (stock : StockView) (plan : PlanView) (taken : List ℕ) (cost : ℕ) → IfSome told (λ files. IsAt (case_names l s p None) files line stock plan)
    → Allows talk (case_of line stock plan []) (lines_of taken) cost → (session_meaning (case_names l s p None)).steps told taken (35 * (line.length + 1) + cost)
steps_allowed l s p told line stock plan taken cost at allowed =
    IfSome-along told _ _ (λ files here. inr (record {
      line = line;
      stock = stock;
      plan = plan;
      is_line = here.is_line;
      is_stock = here.is_stock;
      is_plan = here.is_plan;
      cost = cost;
      allowed = allowed;
      within = omega arith;
    })) at

-- a session whose files were loaded is served as it was held
pub Serves-held : (l s p : List ℕ) (shelf shelf' : Told Files) (input input' out out' : Told (List ℕ)) (before now : ℕ) (c : Case) (status : Status) → Loads (case_files (case_names l s p None)) shelf shelf' (Ok c)
    → IsCase (case_names l s p None) shelf.holds c → Holds (case_of c.line c.stock c.plan []) input input' out out' before now status
    → Serves (session_meaning (case_names l s p None)) (outside shelf input out) (outside shelf' input' out') before now status
Serves-held l s p shelf shelf' input input' out out' before now c status loads is (inl h) =
    let at = is_at l s p shelf.holds c is in
    rw (h.memory, h.same_input, h.same_out)
    (Serves-talked (case_names l s p None) shelf shelf' input input out out before now c [] Memory loads (omega arith) (Consumes-none input.holds) (λ e. absurd (cc e)) (35 * (c.line.length + 1) + 0)
    (omega (arith, h.few)) (steps_allowed l s p shelf.holds c.line c.stock c.plan [] 0 at (rw no_lines refl))
    (inr (inl (refl, inl refl, IfSome-all shelf.holds _ (λ files. ([], inl (refl, refl), Writes-nil out))))))
Serves-held l s p shelf shelf' input input' out out' before now c status loads is (inr h) =
    let at = is_at l s p shelf.holds c is in
    let held = h.held in
    Serves-talked (case_names l s p None) shelf shelf' input input' out out' before now c held.taken status loads held.input_later held.took
    (held_to_end (case_of c.line c.stock c.plan []) held.taken input input' out h.between out' status h.ending held.ends h.closes) (35 * (c.line.length + 1) + held.cost) (omega (arith, h.few, held.within))
    (steps_allowed l s p shelf.holds c.line c.stock c.plan held.taken held.cost at held.allowed)
    (held_ends l s p shelf.holds c.line c.stock c.plan held.taken input input' out h.between out' status h.ending at held.took held.out_later held.ends h.closes)

-- a session has written nothing where it is stopped before its input
pub session_silent : (names : CaseNames) → IsSilent (session_meaning names)
session_silent names = record { silent = λ files left s is. inl (refl, refl); idle = λ told. IfSome-all told _ (λ files. inl refl) }
