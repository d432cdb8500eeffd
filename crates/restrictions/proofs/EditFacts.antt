-- Files of edits: their lines one after another, and what is in force after each.
use Rattle.std.proofs.Common.{◌≡◌, ◌<◌, ◌+◌, ℕ, List, [], ◌∷◌, ◌++◌, Bool, true, false, cond, ◌==◌, All, Result, Ok, Err, length, map, take, drop, refl, sym, ap, ◌∙◌, arith, inl, inr}
use Rattle.std.proofs.lemmas.Bool.{cases_Bool}
use Rattle.std.proofs.lemmas.Bool.Decides.{nat_tests}
use Rattle.std.proofs.lemmas.List.{take_all}
use Rattle.std.proofs.lemmas.List.Elements.{All-cons, All-head, All-push, All-tail}
use Rattle.std.proofs.lemmas.List.Splits.{length-slice_split, slice_split_first, slice_split_none}
use Rattle.std.proofs.lemmas.List.Sums.{fails_before_first}
use Rattle.std.specs.List.{position_or_len, slice_split}
use Rattle.std.specs.Prelude.{is_some, nat_lt}
use Rattle.std.specs.Result.{result_map_both}
use Rattle.std.specs.Str.Lines.{strip_carriage_return}
use Rattle.unit_rules.specs.Memory.{Gives}
use Rattle.unit_rules.specs.declared.Zone.{Zone}
use Rattle.restrictions.specs.declared.edits.EditsFault.{EditsFault}
use Rattle.restrictions.specs.declared.edits.EditsFault.TheVariants.{Bad, Memory}
use Rattle.restrictions.specs.declared.force.EditFault.{EditFault}
use Rattle.restrictions.specs.declared.force.EditFault.TheVariants.{Full, Present}
use Rattle.restrictions.specs.Edits.{edited, edited_by, ended, is_line_feed, lines_of}
use Rattle.restrictions.specs.Force.{has_id, most_in_force, put_in, without, zone_of, zones_of}
use Rattle.restrictions.proofs.ForceFacts.{zones_of-push}

-- a part with parts behind it ends at an LF
ended-cons : (part : List ℕ) (parts : List (List ℕ)) → 0 < length parts → ended (part ∷ parts) ≡ part ∷ ended parts
ended-cons part [] some = absurd (omega arith)
ended-cons part (next ∷ parts) some = refl

-- a text with an LF has the line before it and the lines behind it
pub lines_of-first : (text : List ℕ) (n : ℕ) → n ≡ position_or_len is_line_feed text → n < length text → lines_of text ≡ strip_carriage_return (take n text) ∷ lines_of (drop (n + 1) text)
unfolding lines_of
lines_of-first text n is within =
    let rest = drop (n + 1) text in
    let some : 0 < length (slice_split is_line_feed rest) = omega (arith, length-slice_split is_line_feed rest) in
    let parts = rw (← is) at (slice_split_first is_line_feed text 0 (rw is at within)) in
    ap (λ (ps : List (List ℕ)). map strip_carriage_return (ended ps)) parts ∙ ap (map strip_carriage_return) (ended-cons (take n text) (slice_split is_line_feed rest) some)

ended-one : (part : List ℕ) → 0 < length part → ended (part ∷ []) ≡ part ∷ []
ended-one part some = let bytes : (length part == 0) ≡ false = grind (arith, nat_tests) in rw bytes refl

-- and a text with none is one line, if it has bytes
pub lines_of-last : (text : List ℕ) (n : ℕ) → n ≡ position_or_len is_line_feed text → n ≡ length text → 0 < length text → lines_of text ≡ strip_carriage_return (take n text) ∷ lines_of []
unfolding lines_of
lines_of-last text n is all some =
    let one = slice_split_none is_line_feed text (λ k d l. fails_before_first is_line_feed text k d (omega arith)) in
    rw (take_all n text (omega arith)) (ap (λ (ps : List (List ℕ)). map strip_carriage_return (ended ps)) one ∙ ap (map strip_carriage_return) (ended-one text some))

-- no bytes are no line
pub lines_of-none : lines_of [] ≡ []
unfolding lines_of
lines_of-none = refl

-- nothing changes over no lines
pub edited_by-none : (metres place : ℕ) (pairs : List (List ℕ × Zone)) → edited_by metres place [] pairs ≡ Ok pairs
unfolding edited_by
edited_by-none metres place pairs = refl

-- a line without a code leads on to the lines behind it
edited_by-more : (metres place : ℕ) (line : List ℕ) (lines : List (List ℕ)) (pairs after : List (List ℕ × Zone)) → edited metres line pairs ≡ Ok after
    → edited_by metres place (line ∷ lines) pairs ≡ edited_by metres (place + 1) lines after
unfolding edited_by
edited_by-more metres place line lines pairs after e = rw e refl

-- and one with a code is the fault
edited_by-bad : (metres place : ℕ) (line : List ℕ) (lines : List (List ℕ)) (pairs : List (List ℕ × Zone)) (code : ℕ) → edited metres line pairs ≡ Err code
    → edited_by metres place (line ∷ lines) pairs ≡ Err (Bad place code)
unfolding edited_by
edited_by-bad metres place line lines pairs code e = rw e refl

-- what an edit gives of a line with a number
abbrev pub GivesEdited : ℕ → Result (List (List ℕ × Zone)) ℕ → Result (List (List ℕ × Zone)) EditsFault → Type 0
GivesEdited place meant result = Gives (Err Memory) (result_map_both (λ p. p) (Bad place) meant) result

pub edited-on : (metres place : ℕ) (line : List ℕ) (lines : List (List ℕ)) (pairs after : List (List ℕ × Zone)) → GivesEdited place (edited metres line pairs) (Ok after)
    → edited_by metres place (line ∷ lines) pairs ≡ edited_by metres (place + 1) lines after
edited-on metres place line lines pairs after given = by (edited metres line pairs) refl given
  where
    by : (meant : Result (List (List ℕ × Zone)) ℕ) → edited metres line pairs ≡ meant → GivesEdited place meant (Ok after) → edited_by metres place (line ∷ lines) pairs ≡ edited_by metres (place + 1) lines after
    by meant e (inl wanting) = cc wanting
    by (Ok made) e (inr same) =
        let is : made ≡ after = cc in
        edited_by-more metres place line lines pairs made e ∙ ap (edited_by metres (place + 1) lines) is
    by (Err code) e (inr same) = cc same

pub edited-stops : (metres place : ℕ) (line : List ℕ) (lines : List (List ℕ)) (pairs : List (List ℕ × Zone)) (fault : EditsFault) → GivesEdited place (edited metres line pairs) (Err fault)
    → Gives (Err Memory) (edited_by metres place (line ∷ lines) pairs) (Err fault)
edited-stops metres place line lines pairs fault given = by (edited metres line pairs) refl given
  where
    by : (meant : Result (List (List ℕ × Zone)) ℕ) → edited metres line pairs ≡ meant → GivesEdited place meant (Err fault) → Gives (Err Memory) (edited_by metres place (line ∷ lines) pairs) (Err fault)
    by meant e (inl wanting) = inl wanting
    by (Ok made) e (inr same) = cc same
    by (Err code) e (inr same) = inr (same ∙ sym (edited_by-bad metres place line lines pairs code e))

-- the zones after a `put` are those before it and that of the `put`
put_in-ok : (id : List ℕ) (zone : Zone) (pairs after : List (List ℕ × Zone)) → put_in id zone pairs ≡ Ok after → after ≡ pairs ++ (id, zone) ∷ []
put_in-ok id zone pairs after made = by (is_some (zone_of id pairs)) (nat_lt (length pairs) most_in_force) made
  where
    by : (present room : Bool) → ◌≡◌ {A = Result (List (List ℕ × Zone)) EditFault} (cond present (Err Present) (cond room (Ok (pairs ++ (id, zone) ∷ [])) (Err Full))) (Ok after) → after ≡ pairs ++ (id, zone) ∷ []
    by true room e = cc e
    by false true e = cc e
    by false false e = cc e

pub All-put : (P : Zone → Type 0) (id : List ℕ) (zone : Zone) (pairs after : List (List ℕ × Zone)) → put_in id zone pairs ≡ Ok after → P zone → All P (zones_of pairs) → All P (zones_of after)
All-put P id zone pairs after made new old = rw (put_in-ok id zone pairs after made, zones_of-push pairs id zone) (All-push P (zones_of pairs) zone old new)

-- and after a `take` some of those before it
pub All-take : (P : Zone → Type 0) (id : List ℕ) (pairs : List (List ℕ × Zone)) → All P (zones_of pairs) → All P (zones_of (without id pairs))
All-take P id [] all = all
All-take P id (p ∷ pairs) all =
    let rest = All-take P id pairs (All-tail P p.1 (zones_of pairs) all) in
    elim (cases_Bool (has_id id p)) [
      | inl at ↦ rw at rest
      | inr other ↦ rw other (All-cons P p.1 (zones_of (without id pairs)) (All-head P p.1 (zones_of pairs) all) rest)
    ]
