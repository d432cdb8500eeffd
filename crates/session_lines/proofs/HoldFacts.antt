-- How sessions end.
use Rattle.std.proofs.Common.{◌≡◌, ◌<◌, ◌≤◌, ◌+◌, ◌-◌, ℕ, List, [], ◌++◌, Option, Some, None, length, take, drop, refl, sym, ap, subst, ◌∙◌, arith, inl, inr, append_assoc, length-append, length-take, Ok, Err}
use Rattle.std.specs.Prelude.{IfSome}
use Rattle.std.specs.Io.KnownBytes.{Consumes, IsAtEnd}
use Rattle.std.proofs.KnownBytes.{Consumes-trans}
use Rattle.std.proofs.lemmas.Bool.{cases_lt, le-leb, lt-leb}
use Rattle.std.proofs.lemmas.List.{append-nil, take-append-drop, take-take, take_at}
use Rattle.std.proofs.Math.Seq.{take-append-add}
use Rattle.run_io.specs.Told.{Rose, Told, WritesFront}
use Rattle.restrictions.specs.Edits.{lines_of}
use Rattle.unit_rules.specs.Limits.{most_bytes}
use Rattle.session_lines.specs.Dialogues.{Allows, Dialogue, IsLawful, Replies}
use Rattle.session_lines.specs.Lines.{lines_within, whole_lines}
use Rattle.session_lines.specs.Feeding.{Answers, AnswersBy, ending_of}
use Rattle.session_lines.specs.Sessions.{EndsBy, IsHeld}
use Rattle.session_lines.specs.declared.Stop.{Stop}
use Rattle.session_lines.specs.declared.Stop.TheVariants.{Write, Memory}
use Rattle.session_lines.specs.declared.Ending.TheVariants as ending
use Rattle.session_lines.proofs.AnswerFacts.{allowed-more, front-more, wants-more}
use Rattle.session_lines.proofs.PartFacts.{lines_of-front, whole_lines-front}

pub lines_within-short : (input : List ℕ) → length input ≤ most_bytes → lines_within input ≡ lines_of input
lines_within-short input le = rw (le-leb (length input) most_bytes le) refl

pub lines_within-long : (input : List ℕ) → most_bytes < length input → lines_within input ≡ whole_lines (take most_bytes input)
lines_within-long input lt = rw (lt-leb (length input) most_bytes lt) refl

-- the whole lines of a front that is not too long are a front of the lines that have replies
lines_within-front : (front more : List ℕ) → length front ≤ most_bytes → (later : List (List ℕ)) × (lines_within (front ++ more) ≡ whole_lines front ++ later)
lines_within-front front more le =
    elim (cases_lt most_bytes (length (front ++ more))) [
      | inl long ↦
          let room : ℕ = most_bytes - length front in
          let cut : take most_bytes (front ++ more) ≡ front ++ take room more =
          ap (λ (k : ℕ). take k (front ++ more)) (let e : most_bytes ≡ length front + room = omega (arith, le) in e) ∙ take-append-add front more room in
          let lines = whole_lines-front front (take room more) in
          (lines.0, lines_within-long (front ++ more) long ∙ ap whole_lines cut ∙ lines.1)
      | inr short ↦
          let lines = lines_of-front front more in
          (lines.0, lines_within-short (front ++ more) short ∙ lines.1)
    ]

-- what holds of all that begins with what was taken holds of the input
if_taken : (P : List ℕ → Type 0) (old new : Option (List ℕ)) (taken : List ℕ) → Consumes old new taken → ((left : List ℕ) → P (taken ++ left)) → IfSome old P
if_taken P None new taken takes p = tt
if_taken P (Some all) None taken takes p = absurd takes
if_taken P (Some all) (Some left) taken takes p = subst P (sym takes) (p left)

-- and of all that was taken, where nothing is left
if_all_taken : (P : List ℕ → Type 0) (old new : Option (List ℕ)) (taken : List ℕ) → Consumes old new taken → IsAtEnd new → P taken → IfSome old P
if_all_taken P None new taken takes over p = tt
if_all_taken P (Some all) None taken takes over p = absurd takes
if_all_taken P (Some all) (Some left) taken takes over p = subst P (sym (takes ∙ ap (λ (t : List ℕ). taken ++ t) over ∙ append-nil taken)) p

-- a read that took nothing
pub Consumes-none : (a b c : Option (List ℕ)) (taken : List ℕ) → Consumes a b taken → Consumes b c [] → Consumes a c taken
Consumes-none a b c taken p q = subst (Consumes a c) (append-nil taken) (Consumes-trans a b c taken [] p q)

-- the part of a read that is within the limit, and what is behind it
pub within_read : (taken buf : List ℕ) (fits count : ℕ) → fits ≤ count → taken ++ take count buf ≡ (taken ++ take fits buf) ++ drop fits (take count buf)
within_read taken buf fits count le =
    let read : List ℕ = take count buf in
    let parts : read ≡ take fits buf ++ drop fits read = sym (take-append-drop fits read) ∙ ap (λ (t : List ℕ). t ++ drop fits read) (take-take fits count buf le) in
    ap (λ (t : List ℕ). taken ++ t) parts ∙ sym (append_assoc taken (take fits buf) (drop fits read))

pub read_length : (taken buf : List ℕ) (count : ℕ) → count ≤ length buf → length (taken ++ take count buf) ≡ length taken + count
read_length taken buf count le = omega (arith, length-append taken (take count buf), length-take count buf)

module _ {S A : Type 0} (d : Dialogue S A) (law : S → Type 0) (lawful : IsLawful d law) (s : S) (input input' out out' : Told (List ℕ)) (before now : ℕ) where
  -- all lines were answered
  pub held_done : (taken : List ℕ) → Consumes input.holds input'.holds taken → input.faults ≤ input'.faults → length taken ≤ most_bytes → IsAtEnd input'.holds
      → Answers d s out before (lines_of taken) out' now (Ok tt) → IsHeld d s input input' out out' before now ending.Done
  held_done taken takes later short over a = record {
    taken = taken;
    took = takes;
    input_later = later;
    out_later = a.later;
    cost = a.cost;
    allowed = a.allowed;
    within = a.within;
    ends = (short, over, a.outcome);
  }

  -- the last line was not
  pub held_last : (taken : List ℕ) (stop : Stop) → Consumes input.holds input'.holds taken → input.faults ≤ input'.faults → length taken ≤ most_bytes → IsAtEnd input'.holds
      → Answers d s out before (lines_of taken) out' now (Err stop) → IsHeld d s input input' out out' before now (ending_of stop)
  held_last taken stop takes later short over a = record {
    taken = taken;
    took = takes;
    input_later = later;
    out_later = a.later;
    cost = a.cost;
    allowed = a.allowed;
    within = a.within;
    ends = by stop a.outcome;
  }
    where
      by : (stop : Stop) → AnswersBy d s out before (lines_of taken) out' (Err stop) → EndsBy d s taken input input' out out' (ending_of stop)
      by Write o = (
        o.0,
        if_all_taken (λ all. (t : List ℕ) × Replies d s (lines_within all) t × WritesFront out out' t) input.holds input'.holds taken takes over (rw (lines_within-short taken short) o.1),
      )
      by Memory o = (o.0, inr (over, o.1), o.2)

  -- what was taken has a front whose whole lines were answered
  module _ (taken front rest : List ℕ) (takes : Consumes input.holds input'.holds taken) (later : input.faults ≤ input'.faults) (is : taken ≡ front ++ rest) (short : length front ≤ most_bytes) (lawful_first : law s) where
    all_lines : (more : List (List ℕ)) × (lines_of taken ≡ whole_lines front ++ more)
    all_lines = let lines = lines_of-front front rest in (lines.0, ap lines_of is ∙ lines.1)

    all_costs : (n : ℕ) → Allows d s (whole_lines front) n → (m : ℕ) × Allows d s (lines_of taken) m × (n ≤ m)
    all_costs n a = let costs = allowed-more d law lawful s (whole_lines front) all_lines.0 n lawful_first a in (costs.0, rw all_lines.1 costs.1, costs.2)

    -- and one of them was stopped
    pub held_stop : (stop : Stop) → Answers d s out before (whole_lines front) out' now (Err stop) → IsHeld d s input input' out out' before now (ending_of stop)
    held_stop stop a =
        let costs = all_costs a.cost a.allowed in
        record {
          taken = taken;
          took = takes;
          input_later = later;
          out_later = a.later;
          cost = costs.0;
          allowed = costs.1;
          within = omega (arith, a.within, costs.2);
          ends = by stop a.outcome;
        }
      where
        by : (stop : Stop) → AnswersBy d s out before (whole_lines front) out' (Err stop) → EndsBy d s taken input input' out out' (ending_of stop)
        by Write o = (
          o.0,
          if_taken (λ all. (t : List ℕ) × Replies d s (lines_within all) t × WritesFront out out' t) input.holds input'.holds taken takes (λ left.
              let lines = lines_within-front front (rest ++ left) short in
              let within : lines_within (taken ++ left) ≡ whole_lines front ++ lines.0 = ap (λ (t : List ℕ). lines_within (t ++ left)) is ∙ ap lines_within (append_assoc front rest left) ∙ lines.1 in
              rw within (front-more d law lawful s (whole_lines front) lines.0 out out' lawful_first o.1)),
        )
        by Memory o =
            let lines = whole_lines-front front rest in
            (o.0, inl (rw (is, lines.1) (wants-more d s (whole_lines front) lines.0 o.0 o.1)), o.2)

    -- the input failed behind them
    pub held_read : rest ≡ [] → Rose input input' → Answers d s out before (whole_lines front) out' now (Ok tt) → IsHeld d s input input' out out' before now ending.ReadFault
    held_read none rose a =
        let costs = all_costs a.cost a.allowed in
        let all : taken ≡ front = is ∙ ap (λ (t : List ℕ). front ++ t) none ∙ append-nil front in
        record {
          taken = taken;
          took = takes;
          input_later = later;
          out_later = a.later;
          cost = costs.0;
          allowed = costs.1;
          within = omega (arith, a.within, costs.2);
          ends = rw all (short, rose, a.outcome);
        }

    -- the input goes on past its limit
    pub held_long : length front ≡ most_bytes → 0 < length rest → Answers d s out before (whole_lines front) out' now (Ok tt) → IsHeld d s input input' out out' before now ending.TooLong
    held_long full more a =
        let costs = all_costs a.cost a.allowed in
        let cut : take most_bytes taken ≡ front = ap (take most_bytes) is ∙ take_at front rest most_bytes full in
        record {
          taken = taken;
          took = takes;
          input_later = later;
          out_later = a.later;
          cost = costs.0;
          allowed = costs.1;
          within = omega (arith, a.within, costs.2);
          ends = (rw is (omega (arith, full, more, length-append front rest)), rw cut a.outcome);
        }
