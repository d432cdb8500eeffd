-- What keeps a plan in its ranges and orders while its records are read.
use Rattle.std.proofs.Common.{◌≡◌, ◌≤◌, ◌<◌, ℕ, List, [], ◌∷◌, ◌++◌, Bool, true, false, cond, length-append, Option, Some, None, IfSome, arith}
use Rattle.std.specs.Prelude.{option_map, unwrap_or}
use Rattle.std.proofs.lemmas.Bool.Decides.{nat_tests}
use Rattle.std.proofs.lemmas.List.Elements.{All-push}
use Rattle.record_rules.proofs.OrderFacts.{AllPairs-push_last}
use Rattle.plan_tables.specs.declared.plan.Call.{Call}
use Rattle.plan_tables.specs.declared.plan.Section.{Section}
use Rattle.plan_tables.specs.Calls.{ComesBefore, IsCallKind}
use Rattle.plan_tables.specs.Draft.{DraftView, IsDraft, MayCall, MayFollow, is_past}
use Rattle.plan_tables.specs.Sections.{Follows, IsSection, SectionLiesOn}
use Rattle.plan_tables.specs.Plan.{AreCalls, AreSections}

past_last : (o : Option Call) (at : ℕ) → is_past o at ≡ true → IfSome o (λ a. a.at < at)
past_last None at h = tt
past_last (Some a) at h = grind (arith, nat_tests, h)

last_section : (o : Option Section) (from : ℕ) → unwrap_or (option_map (λ s. s.to) o) 0 ≤ from → IfSome o (λ a. a.to ≤ from)
last_section None from h = tt
last_section (Some a) from h = h

-- what comes past a call comes past the calls before it
ComesBefore-along : (a b c : Call) → IsCallKind b.kind → ComesBefore a b → ComesBefore b c → ComesBefore a c
ComesBefore-along a b c kind ab bc = omega (arith, ab, bc)

-- what follows a section follows the sections before it
Follows-along : (a b c : Section) → IsSection b → Follows a b → Follows b c → Follows a c
Follows-along a b c section ab bc = omega (arith, section.rises, ab, bc)

-- one more call
AreCalls-more : (d : DraftView) (c : Call) → AreCalls d.calls → MayCall d c → AreCalls (d.calls ++ c ∷ [])
AreCalls-more d c h may = record {
  few = omega (arith, length-append d.calls (c ∷ []), may.room);
  dwell = All-push (λ x. IsCallKind x.kind) d.calls c h.dwell may.kind;
  rise = AllPairs-push_last ComesBefore (λ x. IsCallKind x.kind) ComesBefore-along d.calls c h.dwell h.rise (past_last _ c.at may.past);
}

-- one more section
AreSections-more : (d : DraftView) (s : Section) → AreSections d.sections → MayFollow d s → AreSections (d.sections ++ s ∷ [])
AreSections-more d s h may = record {
  few = omega (arith, length-append d.sections (s ∷ []), may.room);
  hold = All-push IsSection d.sections s h.hold may.section;
  follow = AllPairs-push_last Follows IsSection Follows-along d.sections s h.hold h.follow (last_section _ s.from may.follows);
}

-- one more call, where it was taken
pub IsDraft-call : (d : DraftView) (c : Call) (calls : List Call) (ok : Bool) → IsDraft d → MayCall d c → calls ≡ cond ok (d.calls ++ c ∷ []) d.calls
    → IsDraft (record { line = d.line; depart = d.depart; enter = d.enter; leave = d.leave; calls = calls; sections = d.sections })
IsDraft-call d c calls false h may e = rw e h
IsDraft-call d c calls true h may e = rw e (record {
  plan = record {
    departs = h.plan.departs;
    enters = h.plan.enters;
    leaves = h.plan.leaves;
    calls = AreCalls-more d c h.plan.calls may;
    sections = h.plan.sections;
  };
  lies = record { calls = All-push (λ x. x.at ≤ d.line.length) d.calls c h.lies.calls may.lies; sections = h.lies.sections };
})

-- one more section, where it was taken
pub IsDraft-section : (d : DraftView) (s : Section) (sections : List Section) (ok : Bool) → IsDraft d → MayFollow d s → sections ≡ cond ok (d.sections ++ s ∷ []) d.sections
    → IsDraft (record { line = d.line; depart = d.depart; enter = d.enter; leave = d.leave; calls = d.calls; sections = sections })
IsDraft-section d s sections false h may e = rw e h
IsDraft-section d s sections true h may e = rw e (record {
  plan = record {
    departs = h.plan.departs;
    enters = h.plan.enters;
    leaves = h.plan.leaves;
    calls = h.plan.calls;
    sections = AreSections-more d s h.plan.sections may;
  };
  lies = record { calls = h.lies.calls; sections = All-push (SectionLiesOn d.line.length) d.sections s h.lies.sections may.lies };
})
