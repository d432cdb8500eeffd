-- How a form is served, by how its files were loaded and its work ended.
use Rattle.std.proofs.Common.{Bool, true, ◌≡◌, ◌≤◌, ◌+◌, ◌⊎◌, ℕ, List, [], ◌∷◌, take, Option, Some, None, Result, Ok, Err, IfSome, refl, sym, subst, inl, inr, arith, false, ◌∙◌}
use Rattle.std.proofs.lemmas.Grind.{common_steps}
use Rattle.std.specs.Io.KnownBytes.{Consumes}
use Rattle.run_io.specs.Fetches.{Files}
use Rattle.run_io.specs.Told.{IsQuiet, Rose, Told, Writes, WritesFront}
use Rattle.run_files.specs.Files.{Blames, BlamesFile, File, refusal}
use Rattle.run_files.specs.Loads.{IsReason, IsRefused, Loads}
use Rattle.run_files.specs.Statuses.{extent_of, status_text}
use Rattle.run_files.specs.Statuses.Extent.{whole, stopped, cut}
use Rattle.run_files.specs.declared.status.Status.{Status}
use Rattle.run_files.specs.declared.status.Status.TheVariants.{Done, Memory, Usage, ReadFault, WriteFault, Refused, TooLong}
use Rattle.run_files.proofs.ToldFacts.{IfSome-along, IfSome-both}
use Rattle.run_cli.specs.Ends.{AllQuiet, EndsBy, EndsShort, EndsStopped, EndsWhole, Outside, TakesBy, TakesSteps, WhereTold, input_of, outside}
use Rattle.run_cli.specs.FileForms.{no_form}
use Rattle.run_cli.specs.Meanings.{Answers, IsFileForm, IsSilent, Meaning}
use Rattle.run_cli.specs.Serves.{Finishes, IsMeant, Serves, WorkEnds, Works}

-- what holds of all holds of what is told
pub IfSome-all : {A : Type 0} (o : Option A) (P : A → Type 0) → ((a : A) → P a) → IfSome o P
IfSome-all None P f = tt
IfSome-all (Some a) P f = f a

-- nothing is taken
pub Consumes-none : (a : Option (List ℕ)) → Consumes a a []
Consumes-none None = tt
Consumes-none (Some x) = grind (arith, common_steps)

-- a front of nothing is nothing
pub WritesFront-none : (a b : Told (List ℕ)) → WritesFront a b [] → Writes a b []
WritesFront-none a b f =
    let none : take f.0 [] ≡ [] = grind (arith, common_steps) in
    subst (λ (l : List ℕ). Writes a b l) none f.2

-- what holds of the files by what is told holds by the files
pub IfSome-at : {A : Type 0} (o : Option A) (P : Option A → A → Type 0) → IfSome o (λ a. P o a) → IfSome o (λ a. P (Some a) a)
IfSome-at None P h = tt
IfSome-at (Some a) P h = h

-- a quiet count did not rise
pub IsQuiet-Rose : {A : Type 0} (old new : Told A) → Rose old new → IsQuiet old new → ⊥
IsQuiet-Rose old new rose quiet = omega (arith, rose, quiet.room, quiet.same)

-- the input of a form that reads none is told, and has no bytes
WhereTold-files : (m : Meaning) (old : Outside) (P : Files → List ℕ → Type 0) → m.reads_input ≡ false → IfSome old.shelf.holds (λ files. P files []) → WhereTold m old P
WhereTold-files m old P e h = rw e h

-- the input that is told is of no matter
WhereTold-any : (m : Meaning) (old : Outside) (P : Files → List ℕ → Type 0) → IfSome old.shelf.holds (λ files. (input : List ℕ) → P files input) → WhereTold m old P
WhereTold-any m old P h = IfSome-along old.shelf.holds _ _ (λ files f. IfSome-all (input_of m.reads_input old.input.holds) _ f) h

-- nothing is taken of the input
TakesBy-none : (reads : Bool) (input : Told (List ℕ)) (s : Status) → (s ≡ Done → ⊥) → TakesBy reads input input s
TakesBy-none false input s none = refl
TakesBy-none true input s none = (omega arith, ([], Consumes-none input.holds), λ e. absurd (none e))

-- what a form means answers over files none of which is in the way
pub Answers-accepted : (m : Meaning) (files : Files) (input : List ℕ) (s : Status) (t : List ℕ) → refusal files (m.reads (Some files)) ≡ None → m.answers files input s t → Answers m files input s t
Answers-accepted m files input s t e h = rw e h

-- and what is in the way answers by its own text
Answers-refused : (m : Meaning) (files : Files) (input : List ℕ) (s : Status) → refusal files (m.reads (Some files)) ≡ Some s → Answers m files input s (status_text s)
Answers-refused m files input s e = rw e (record { status_is = refl; text_is = refl })

pub EndsBy-whole : (m : Meaning) (files : Files) (input : List ℕ) (old new : Outside) (s : Status) → extent_of s ≡ whole → EndsWhole (Answers m files input) s old.out new.out
    → EndsBy (extent_of s) m files input old new s
EndsBy-whole m files input old new s e h = rw e h

-- want of memory before anything was written
EndsStopped-memory : (m : Meaning) (files : Files) (shelf shelf' : Told Files) (input out out' : Told (List ℕ)) → IsSilent m → Writes out out' []
    → EndsStopped m files (outside shelf input out) (outside shelf' input out') Memory
EndsStopped-memory m files shelf shelf' input out out' form nothing = record {
  reason = inl refl;
  taken = [];
  took = Consumes-none input.holds;
  text = [];
  stands = form.silent files input.holds Memory refl;
  written = nothing;
}

-- no steps
TakesSteps-none : (m : Meaning) (shelf shelf' : Told Files) (input out out' : Told (List ℕ)) (before : ℕ) → IsSilent m → TakesSteps m (outside shelf input out) (outside shelf' input out') before before
TakesSteps-none m shelf shelf' input out out' before form = record { taken = []; took = Consumes-none input.holds; cost = 0; allowed = form.idle shelf.holds; within = omega arith }

-- a form was served whose files were loaded
pub Serves-worked : {T : Type 0} (m : Meaning) (shelf shelf' : Told Files) (input out out' : Told (List ℕ)) (before now : ℕ) (s : Status) (table : T) → IsFileForm m
    → Loads (m.reads shelf.holds) shelf shelf' (Ok table) → Works m shelf.holds out out' before now s → Serves m (outside shelf input out) (outside shelf' input out') before now s
Serves-worked m shelf shelf' input out out' before now s table form loads works = by s works.ends
  where
    accepted : IfSome shelf.holds (λ files. refusal files (m.reads (Some files)) ≡ None)
    accepted = IfSome-at shelf.holds (λ o files. refusal files (m.reads o) ≡ None) loads.loaded

    fronts : Writes out out' [] ⊎ IfSome shelf.holds (λ files. EndsShort (m.answers files []) out out')
        → IfSome shelf.holds (λ files. EndsBy cut m files [] (outside shelf input out) (outside shelf' input out') WriteFault)
    fronts (inl nothing) = IfSome-all shelf.holds _ (λ files. inl nothing)
    fronts (inr short) =
        IfSome-both shelf.holds _ _ _ (λ files none h. inr (record {
          status = h.status;
          text = h.text;
          answer = Answers-accepted m files [] h.status h.text none h.answer;
          written = h.written;
        })) accepted short

    steps : (r : Status) → TakesSteps m (outside shelf input out) (outside shelf' input out') before now
    steps r = record { taken = []; took = Consumes-none input.holds; cost = works.cost; allowed = works.allowed; within = works.steps }

    by : (s : Status) → WorkEnds m shelf.holds out out' s → Serves m (outside shelf input out) (outside shelf' input out') before now s
    by s (inl (is, nothing)) =
        subst (λ (r : Status). Serves m (outside shelf input out) (outside shelf' input out') before now r) (sym is) (record {
          ends = WhereTold-files m (outside shelf input out) (λ files i. EndsBy stopped m files i (outside shelf input out) (outside shelf' input out') Memory) form.no_input
              (IfSome-all shelf.holds _ (λ files. EndsStopped-memory m files shelf shelf' input out out' form.quiet nothing));
          causes = inl refl;
          complete = λ quiet. WhereTold-files m (outside shelf input out) (λ files i. (Memory ≡ Memory) ⊎ EndsWhole (Answers m files i) Memory out out') form.no_input (IfSome-all shelf.holds _ (λ files. inl refl));
          takes = rw form.no_input refl;
          steps = steps s;
        })
    by s (inr (inl (is, rose, short))) =
        subst (λ (r : Status). Serves m (outside shelf input out) (outside shelf' input out') before now r) (sym is) (record {
          ends = WhereTold-files m (outside shelf input out) (λ files i. EndsBy cut m files i (outside shelf input out) (outside shelf' input out') WriteFault) form.no_input
              (fronts short);
          causes = rose;
          complete = λ quiet. absurd (IsQuiet-Rose out out' rose quiet.out);
          takes = rw form.no_input refl;
          steps = steps s;
        })
    by s (inr (inr (is_whole, may_end, text))) = record {
      ends = WhereTold-files m (outside shelf input out) (λ files i. EndsBy (extent_of s) m files i (outside shelf input out) (outside shelf' input out') s) form.no_input
          (IfSome-both shelf.holds _ _ _ (λ files none h. EndsBy-whole m files [] (outside shelf input out) (outside shelf' input out') s is_whole (record {
            text = h.text;
            answer = Answers-accepted m files [] s h.text none h.answer;
            written = h.written;
          })) accepted text);
      causes = rw is_whole (inr may_end);
      complete = λ quiet. WhereTold-files m (outside shelf input out) (λ files i. (s ≡ Memory) ⊎ EndsWhole (Answers m files i) s out out') form.no_input
          (IfSome-both shelf.holds _ _ _ (λ files none h. inr (record {
            text = h.text;
            answer = Answers-accepted m files [] s h.text none h.answer;
            written = h.written;
          })) accepted text);
      takes = rw form.no_input refl;
      steps = steps s;
    }

-- a form that reads nothing at all is served by its work
pub Serves-served : (m : Meaning) (shelf : Told Files) (input out out' : Told (List ℕ)) (before now : ℕ) (s : Status) → IsFileForm m → m.reads shelf.holds ≡ []
    → Works m shelf.holds out out' before now s → Serves m (outside shelf input out) (outside shelf input out') before now s
Serves-served m shelf input out out' before now s form none works =
    let loads : Loads {T = Unit {0}} (m.reads shelf.holds) shelf shelf (Ok (tt {0})) = record {
      same = refl;
      later = omega arith;
      loaded = IfSome-all shelf.holds _ (λ files. rw none refl);
      stopped = tt;
    } in
    Serves-worked {T = Unit {0}} m shelf shelf input out out' before now s (tt {0}) form loads works

-- work over tables ended with its whole text
pub Works-done : (m : Meaning) (told : Option Files) (out out' : Told (List ℕ)) (before now cost : ℕ) (meant s : Status) (text : List ℕ) → s ≡ meant → IsMeant m told meant text → Writes out out' text
    → m.steps told [] cost → now ≤ before + cost → Works m told out out' before now s
Works-done m told out out' before now cost meant s text e is written allowed steps =
    subst (λ (r : Status). Works m told out out' before now r) (sym e) (record {
      ends = inr (inr (is.is_whole, is.may_end, IfSome-along told _ _ (λ files a. record { text = text; answer = a; written = written }) is.answers));
      cost = cost;
      allowed = allowed;
      steps = steps;
    })

-- or by a fault of the sink
pub Works-short : (m : Meaning) (told : Option Files) (out out' : Told (List ℕ)) (before now cost : ℕ) (meant : Status) (text : List ℕ) → IsMeant m told meant text → WritesFront out out' text → Rose out out'
    → m.steps told [] cost → now ≤ before + cost → Works m told out out' before now WriteFault
Works-short m told out out' before now cost meant text is written rose allowed steps = record {
  ends = inr (inl (refl, rose, inr (IfSome-along told _ _ (λ files a. record { status = meant; text = text; answer = a; written = written }) is.answers)));
  cost = cost;
  allowed = allowed;
  steps = steps;
}

-- no file is to blame for a run that is done
Blames-not_done : (old new : Told Files) (reads : List File) (s : Status) → Blames old new reads s → s ≡ Done → ⊥
Blames-not_done old new [] s h d = h
Blames-not_done old new (f ∷ fs) s (inl (inl h)) d = let no : ReadFault ≡ Done = sym h.0 ∙ d in cc no
Blames-not_done old new (f ∷ fs) s (inl (inr (inl (place, (rule, e))))) d = let no : Refused f.number place rule ≡ Done = sym e ∙ d in cc no
Blames-not_done old new (f ∷ fs) s (inl (inr (inr e))) d = let no : TooLong f.number ≡ Done = sym e ∙ d in cc no
Blames-not_done old new (f ∷ fs) s (inr h) d = Blames-not_done old new fs s h d

-- a file is to blame for a fault of reading, or for a status with a text of its own
BlamesFile-kind : (old new : Told Files) (f : File) (s : Status) → BlamesFile old new f s → (s ≡ ReadFault) ⊎ (extent_of s ≡ whole)
BlamesFile-kind old new f s (inl h) = inl h.0
BlamesFile-kind old new f s (inr (inl (place, (rule, e)))) = inr (rw e refl)
BlamesFile-kind old new f s (inr (inr e)) = inr (rw e refl)

Blames-kind : (old new : Told Files) (reads : List File) (s : Status) → Blames old new reads s → (s ≡ ReadFault) ⊎ (extent_of s ≡ whole)
Blames-kind old new [] s h = absurd h
Blames-kind old new (f ∷ fs) s (inl h) = BlamesFile-kind old new f s h
Blames-kind old new (f ∷ fs) s (inr h) = Blames-kind old new fs s h

-- the sink failed at the text of what is in the way
Serves-short : (m : Meaning) (shelf shelf' : Told Files) (input out out' : Told (List ℕ)) (before : ℕ) → IsSilent m
    → IfSome shelf.holds (λ files. (i : List ℕ) → Writes out out' [] ⊎ EndsShort (Answers m files i) out out') → Rose out out'
    → Serves m (outside shelf input out) (outside shelf' input out') before before WriteFault
Serves-short m shelf shelf' input out out' before form short rose = record {
  ends = WhereTold-any m (outside shelf input out) (λ files i. EndsBy cut m files i (outside shelf input out) (outside shelf' input out') WriteFault) short;
  causes = rose;
  complete = λ quiet. absurd (IsQuiet-Rose out out' rose quiet.out);
  takes = TakesBy-none m.reads_input input WriteFault (λ e. cc e);
  steps = TakesSteps-none m shelf shelf' input out out' before form;
}

-- want of memory before anything was written
pub Serves-memory : (m : Meaning) (shelf shelf' : Told Files) (input out out' : Told (List ℕ)) (before : ℕ) → IsSilent m → Writes out out' []
    → Serves m (outside shelf input out) (outside shelf' input out') before before Memory
Serves-memory m shelf shelf' input out out' before form nothing = record {
  ends = WhereTold-any m (outside shelf input out) (λ files i. EndsBy stopped m files i (outside shelf input out) (outside shelf' input out') Memory)
      (IfSome-all shelf.holds _ (λ files i. EndsStopped-memory m files shelf shelf' input out out' form nothing));
  causes = inl refl;
  complete = λ quiet. WhereTold-any m (outside shelf input out) (λ files i. (Memory ≡ Memory) ⊎ EndsWhole (Answers m files i) Memory out out') (IfSome-all shelf.holds _ (λ files i. inl refl));
  takes = TakesBy-none m.reads_input input Memory (λ e. cc e);
  steps = TakesSteps-none m shelf shelf' input out out' before form;
}

-- the shelf failed, or one of the files that a form reads is the first in the way
abbrev IsFirst : Meaning → Told Files → Told Files → Status → Type 0
IsFirst m old new s = ((s ≡ ReadFault) × Rose old new) ⊎ IfSome old.holds (λ files. refusal files (m.reads (Some files)) ≡ Some s)

-- why files were refused, by the files
reason_at : (m : Meaning) (shelf shelf' : Told Files) (s : Status) → IsReason (m.reads shelf.holds) shelf shelf' s → IsFirst m shelf shelf' s
reason_at m shelf shelf' s (inl rose) = inl rose
reason_at m shelf shelf' s (inr first) = inr (IfSome-at shelf.holds (λ o files. refusal files (m.reads o) ≡ Some s) first)

-- a fault of reading before anything was written
Serves-unread : (m : Meaning) (shelf shelf' : Told Files) (input out out' : Told (List ℕ)) (before : ℕ) → IsSilent m → IsRefused (m.reads shelf.holds) shelf shelf' ReadFault → Writes out out' []
    → Serves m (outside shelf input out) (outside shelf' input out') before before ReadFault
Serves-unread m shelf shelf' input out out' before form refused nothing = record {
  ends = WhereTold-any m (outside shelf input out) (λ files i. EndsBy stopped m files i (outside shelf input out) (outside shelf' input out') ReadFault) (ends (reason_at m shelf shelf' ReadFault refused.reason));
  causes = inr (inl refused.blames);
  complete = λ quiet. WhereTold-any m (outside shelf input out) (λ files i. (ReadFault ≡ Memory) ⊎ EndsWhole (Answers m files i) ReadFault out out') (complete quiet (reason_at m shelf shelf' ReadFault refused.reason));
  takes = TakesBy-none m.reads_input input ReadFault (λ e. cc e);
  steps = TakesSteps-none m shelf shelf' input out out' before form;
}
  where
    unread_at : (files : Files) → Rose shelf shelf' ⊎ (refusal files (m.reads (Some files)) ≡ Some ReadFault) → EndsBy stopped m files [] (outside shelf input out) (outside shelf' input out') ReadFault
    unread_at files (inl rose) = record { reason = inr (inl rose); taken = []; took = Consumes-none input.holds; text = []; stands = form.silent files input.holds ReadFault refl; written = nothing }
    unread_at files (inr first) = record { reason = inr (inr (inr first)); taken = []; took = Consumes-none input.holds; text = []; stands = form.silent files input.holds ReadFault refl; written = nothing }

    ends : IsFirst m shelf shelf' ReadFault
        → IfSome shelf.holds (λ files. (i : List ℕ) → EndsBy stopped m files i (outside shelf input out) (outside shelf' input out') ReadFault)
    ends (inl (e, rose)) = IfSome-all shelf.holds _ (λ files i. unread_at files (inl rose))
    ends (inr first) = IfSome-along shelf.holds _ _ (λ files e i. unread_at files (inr e)) first

    complete : AllQuiet m (outside shelf input out) (outside shelf' input out') → IsFirst m shelf shelf' ReadFault
        → IfSome shelf.holds (λ files. (i : List ℕ) → (ReadFault ≡ Memory) ⊎ EndsWhole (Answers m files i) ReadFault out out')
    complete quiet (inl (e, rose)) = absurd (IsQuiet-Rose shelf shelf' rose quiet.shelf)
    complete quiet (inr first) = IfSome-along shelf.holds _ _ (λ files e i. inr (record { text = []; answer = Answers-refused m files i ReadFault e; written = nothing })) first

-- the whole text of what is in the way
Serves-told : (m : Meaning) (shelf shelf' : Told Files) (input out out' : Told (List ℕ)) (before : ℕ) (s : Status) → IsSilent m → extent_of s ≡ whole → (s ≡ Done → ⊥)
    → Blames shelf shelf' (m.reads shelf.holds) s ⊎ m.may_end s → IfSome shelf.holds (λ files. (i : List ℕ) → Answers m files i s (status_text s)) → Writes out out' (status_text s) → Serves m (outside shelf input out) (outside shelf' input out') before before s
Serves-told m shelf shelf' input out out' before s form is_whole not_done cause answer written = record {
  ends = WhereTold-any m (outside shelf input out) (λ files i. EndsBy (extent_of s) m files i (outside shelf input out) (outside shelf' input out') s)
      (IfSome-along shelf.holds _ _ (λ files a i. EndsBy-whole m files i (outside shelf input out) (outside shelf' input out') s is_whole (record { text = status_text s; answer = a i; written = written })) answer);
  causes = rw is_whole cause;
  complete = λ quiet. WhereTold-any m (outside shelf input out) (λ files i. (s ≡ Memory) ⊎ EndsWhole (Answers m files i) s out out')
      (IfSome-along shelf.holds _ _ (λ files a i. inr (record { text = status_text s; answer = a i; written = written })) answer);
  takes = TakesBy-none m.reads_input input s not_done;
  steps = TakesSteps-none m shelf shelf' input out out' before form;
}

-- a form was served whose files were not loaded
pub Serves-refused : {T : Type 0} (m : Meaning) (shelf shelf' : Told Files) (input out out' : Told (List ℕ)) (before : ℕ) (status s : Status) (result : Result T Status) → result ≡ Err status → IsSilent m
    → Loads (m.reads shelf.holds) shelf shelf' result → Finishes status out out' s → Serves m (outside shelf input out) (outside shelf' input out') before before s
Serves-refused {T} m shelf shelf' input out out' before status s result is_err form loads finishes = by (rw is_err at loads.stopped) finishes
  where
    first : IsRefused (m.reads shelf.holds) shelf shelf' status → extent_of status ≡ whole → IfSome shelf.holds (λ files. refusal files (m.reads (Some files)) ≡ Some status)
    first refused is_whole = at (reason_at m shelf shelf' status refused.reason)
      where
        at : IsFirst m shelf shelf' status → IfSome shelf.holds (λ files. refusal files (m.reads (Some files)) ≡ Some status)
        at (inl (e, rose)) = let no : stopped ≡ whole = rw e at is_whole in absurd (cc no)
        at (inr h) = h

    cut_short : IfSome shelf.holds (λ files. (i : List ℕ) → Writes out out' [] ⊎ EndsShort (Answers m files i) out out') → Rose out out' → s ≡ WriteFault
        → Serves m (outside shelf input out) (outside shelf' input out') before before s
    cut_short short rose is =
        subst (λ (r : Status). Serves m (outside shelf input out) (outside shelf' input out') before before r) (sym is) (Serves-short m shelf shelf' input out out' before form short rose)

    kinds : IsRefused (m.reads shelf.holds) shelf shelf' status → (status ≡ ReadFault) ⊎ (extent_of status ≡ whole) → Finishes status out out' s
        → Serves m (outside shelf input out) (outside shelf' input out') before before s
    kinds refused (inl read) (inl (is, text)) =
        subst (λ (r : Status). Serves m (outside shelf input out) (outside shelf' input out') before before r) (sym (is ∙ read))
        (Serves-unread m shelf shelf' input out out' before form (subst (λ (r : Status). IsRefused (m.reads shelf.holds) shelf shelf' r) read refused) (subst (λ (r : Status). Writes out out' (status_text r)) read text))
    kinds refused (inl read) (inr (is, front, rose)) =
        cut_short (IfSome-all shelf.holds _ (λ files i. inl (WritesFront-none out out' (subst (λ (r : Status). WritesFront out out' (status_text r)) read front)))) rose is
    kinds refused (inr is_whole) (inl (is, text)) =
        subst (λ (r : Status). Serves m (outside shelf input out) (outside shelf' input out') before before r) (sym is)
        (Serves-told m shelf shelf' input out out' before status form is_whole (Blames-not_done shelf shelf' (m.reads shelf.holds) status refused.blames) (inl refused.blames)
        (IfSome-along shelf.holds _ _ (λ files e i. Answers-refused m files i status e) (first refused is_whole)) text)
    kinds refused (inr is_whole) (inr (is, front, rose)) =
        cut_short (IfSome-along shelf.holds _ _ (λ files e i. inr (record { status = status; text = status_text status; answer = Answers-refused m files i status e; written = front })) (first refused is_whole)) rose is

    by : (status ≡ Memory) ⊎ IsRefused (m.reads shelf.holds) shelf shelf' status → Finishes status out out' s → Serves m (outside shelf input out) (outside shelf' input out') before before s
    by (inl memory) (inl (is, text)) =
        subst (λ (r : Status). Serves m (outside shelf input out) (outside shelf' input out') before before r) (sym (is ∙ memory))
        (Serves-memory m shelf shelf' input out out' before form (subst (λ (r : Status). Writes out out' (status_text r)) memory text))
    by (inl memory) (inr (is, front, rose)) =
        cut_short (IfSome-all shelf.holds _ (λ files i. inl (WritesFront-none out out' (subst (λ (r : Status). WritesFront out out' (status_text r)) memory front)))) rose is
    by (inr refused) f = kinds refused (Blames-kind shelf shelf' (m.reads shelf.holds) status refused.blames) f

-- words that are no form were refused
pub Serves-usage : (shelf : Told Files) (input out out' : Told (List ℕ)) (before : ℕ) (s : Status) → Finishes Usage out out' s → Serves no_form (outside shelf input out) (outside shelf input out') before before s
Serves-usage shelf input out out' before s (inl (is, text)) =
    let form : IsSilent no_form = record { silent = λ files left s is. refl; idle = λ told. omega arith } in
    subst (λ (r : Status). Serves no_form (outside shelf input out) (outside shelf input out') before before r) (sym is)
    (Serves-told no_form shelf shelf input out out' before Usage form refl (λ e. cc e) (inr refl) (IfSome-all shelf.holds _ (λ files i. record { status_is = refl; text_is = refl })) text)
Serves-usage shelf input out out' before s (inr (is, front, rose)) =
    let form : IsSilent no_form = record { silent = λ files left s is. refl; idle = λ told. omega arith } in
    subst (λ (r : Status). Serves no_form (outside shelf input out) (outside shelf input out') before before r) (sym is)
    (Serves-short no_form shelf shelf input out out' before form
    (IfSome-all shelf.holds _ (λ files i. inr (record { status = Usage; text = status_text Usage; answer = record { status_is = refl; text_is = refl }; written = front }))) rose)
