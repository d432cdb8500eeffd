-- That lines are summed up one after another.
use Rattle.std.proofs.Common.{◌≡◌, ◌∷◌, ℕ, ◌+◌, ◌≤◌, ◌++◌, List, [], Option, codes, length, append_assoc, arith, refl, subst, sym, ap, ◌∙◌}
use Rattle.session_lines.specs.Dialogues.{Allows, after, after_line}
use Rattle.session_replies.specs.Asked.{Asked, asked, case_after}
use Rattle.session_replies.specs.Asked.Asked.{Certificate, Edit, Refused, Speeds, Time, Timetable}
use Rattle.session_replies.specs.Cases.{CaseView, IsLawfulCase}
use Rattle.session_replies.specs.Replies.{Arrives, ComesTo, MayTake, line_steps, talk}
use Rattle.session_replies.specs.Summaries.{SumsUp, Tallies, all_in, count_line, last_line, no_tally, summary_text, with_answer}
use Rattle.session_replies.specs.TalkLaws.{stays}
use Rattle.session_replies.specs.declared.answers.Answer.{Answer}
use Rattle.session_replies.specs.declared.answers.Answer.TheVariants as answer
use Rattle.session_replies.specs.declared.answers.Change.TheVariants as change
use Rattle.session_replies.specs.declared.summary.Summary.{Summary}
use Rattle.session_replies.specs.declared.summary.Tally.{Tally}
use Rattle.time_brackets.specs.Sums.{block_cells}
use Rattle.time_brackets.specs.declared.Bracket.{Bracket}
use Rattle.unit_rules.specs.declared.Reach.TheVariants.{Stalled, Whole}

-- of all lines of a session some are left, and the others have been counted, in so many steps at most
pub record IsCounted (first : CaseView) (all left : List (List ℕ)) (c : CaseView) (count : ℕ) (tally : Tally) (before now : ℕ) : Type 0 where
  pub law : IsLawfulCase c
  pub tallies : (u : Tally) → Tallies c left tally u → Tallies first all no_tally u
  pub stands : after talk c left ≡ after talk first all
  pub line : c.line ≡ first.line
  pub counted : count + length left ≡ length all
  pub spent : ℕ
  pub within : now ≤ before + spent
  pub allowed : (n : ℕ) → Allows talk c left n → Allows talk first all (spent + n)

same_line : (c : CaseView) (a : Asked) → (case_after c a).line ≡ c.line
same_line c (Edit change zone force) = refl
same_line c (Time point) = refl
same_line c Speeds = refl
same_line c Timetable = refl
same_line c Certificate = refl
same_line c (Refused code) = refl

-- the next line is counted by what it comes to
pub IsCounted-next : (first c c' : CaseView) (all left : List (List ℕ)) (line : List ℕ) (given : Answer) (count : ℕ) (tally : Tally) (before mid now : ℕ)
    → IsCounted first all (line ∷ left) c count tally before mid → ComesTo c c' (asked c line) given mid now → IsCounted first all left c' (count + 1) (with_answer given tally) before now
IsCounted-next first c c' all left line given count tally before mid now k came =
    let steps = line_steps c (asked c line) came.was came.is in
    subst (λ (s : CaseView). IsCounted first all left s (count + 1) (with_answer given tally) before now) (sym came.next) (record {
      law = stays c line k.law;
      tallies = λ u t. k.tallies u (came.is, came.is_run, subst (λ (x : Answer). Tallies (after_line talk c line) left (with_answer x tally) u) came.answer t);
      stands = k.stands;
      line = same_line c (asked c line) ∙ k.line;
      counted = omega (arith, k.counted);
      spent = k.spent + steps;
      within = omega (arith, k.within, came.cost);
      allowed = λ n a.
          let here : MayTake c (asked c line) steps = record { old = came.was; new = came.is; was_run = came.was_run; is_run = came.is_run; is = refl } in
          let sum : k.spent + (steps + n) ≡ k.spent + steps + n = omega arith in
          subst (λ (m : ℕ). Allows talk first all m) sum (k.allowed (steps + n) (steps, here, (n, a, refl)));
    })

-- a line adds one at most, and a stall to a line that it adds
pub counts_one : (given : Answer) (tally : Tally) → all_in (with_answer given tally) ≤ all_in tally + 1
counts_one (answer.Made change.Put reach) tally = omega arith
counts_one (answer.Made change.Take reach) tally = omega arith
counts_one (answer.Time arrival) tally = omega arith
counts_one answer.Speeds tally = omega arith
counts_one answer.Timetable tally = omega arith
counts_one answer.Certificate tally = omega arith
counts_one (answer.Refused code) tally = omega arith

pub fewer_stalls : (given : Answer) (tally : Tally) → tally.stalls ≤ all_in tally → (with_answer given tally).stalls ≤ all_in (with_answer given tally)
fewer_stalls (answer.Made change.Put Whole) tally h = omega (arith, h)
fewer_stalls (answer.Made change.Put (Stalled k)) tally h = omega (arith, h)
fewer_stalls (answer.Made change.Take Whole) tally h = omega (arith, h)
fewer_stalls (answer.Made change.Take (Stalled k)) tally h = omega (arith, h)
fewer_stalls (answer.Time arrival) tally h = omega (arith, h)
fewer_stalls answer.Speeds tally h = h
fewer_stalls answer.Timetable tally h = h
fewer_stalls answer.Certificate tally h = h
fewer_stalls (answer.Refused code) tally h = h

-- where none is left, all are summed up by the arrival at the last point
pub SumsUp-all : (first c : CaseView) (all : List (List ℕ)) (count points : ℕ) (tally : Tally) (last_point : ℕ) (last : Option Bracket) (before mid now : ℕ) → IsCounted first all [] c count tally before mid
    → last_point ≡ c.line.length → points ≡ last_point + 1 → Arrives c last_point last → now ≤ mid + block_cells
    → SumsUp first all (record { points = points; commands = count; tally = tally; last = last }) before now
SumsUp-all first c all count points tally last_point last before mid now k length_is points_are arrives cost =
    let end : last_point ≡ first.line.length = length_is ∙ ap (λ l. l.length) k.line in
    let there = subst (λ (s : CaseView). Arrives s last_point last) k.stands arrives in
    record {
      summary = record {
        points = omega (arith, points_are, end);
        commands = omega (arith, k.counted);
        tally = k.tallies tally refl;
        last = subst (λ (i : ℕ). Arrives (after talk first all) i last) end there;
      };
      cost = k.spent + 0;
      allowed = k.allowed 0 refl;
      within = omega (arith, k.within, cost);
    }

-- seven texts, put together from the last one on
together : (p c u t m s l : List ℕ) → p ++ (c ++ (u ++ (t ++ (m ++ (s ++ l))))) ≡ p ++ c ++ u ++ t ++ m ++ s ++ l
together p c u t m s l =
    sym (append_assoc (p ++ c ++ u ++ t ++ m) s l ∙ append_assoc (p ++ c ++ u ++ t) m (s ++ l) ∙ append_assoc (p ++ c ++ u) t (m ++ (s ++ l)) ∙ append_assoc (p ++ c) u (t ++ (m ++ (s ++ l)))
    ∙ append_assoc p c (u ++ (t ++ (m ++ (s ++ l)))))

-- so is the text of a summary
pub put_together : (s : Summary) (a b c d e f g : List ℕ) → a ≡ last_line s.last → b ≡ count_line (codes "stalls ") s.tally.stalls ++ a → c ≡ count_line (codes "times ") s.tally.times ++ b
    → d ≡ count_line (codes "takes ") s.tally.takes ++ c → e ≡ count_line (codes "puts ") s.tally.puts ++ d → f ≡ count_line (codes "commands ") s.commands ++ e
    → g ≡ count_line (codes "points ") s.points ++ f → g ≡ summary_text s
put_together s a b c d e f g last stalls times takes puts commands points =
    let more = λ (word : List ℕ) (n : ℕ) (x y : List ℕ) (q : x ≡ y). ap (λ (t : List ℕ). count_line word n ++ t) q in
    points ∙ more (codes "points ") s.points _ _ (commands ∙ more (codes "commands ") s.commands _ _ (puts ∙ more (codes "puts ") s.tally.puts _ _ (takes ∙ more (codes "takes ") s.tally.takes _ _
    (times ∙ more (codes "times ") s.tally.times _ _ (stalls ∙ more (codes "stalls ") s.tally.stalls _ _ last)))))
    ∙ together (count_line (codes "points ") s.points) (count_line (codes "commands ") s.commands) (count_line (codes "puts ") s.tally.puts) (count_line (codes "takes ") s.tally.takes)
    (count_line (codes "times ") s.tally.times) (count_line (codes "stalls ") s.tally.stalls) (last_line s.last)
