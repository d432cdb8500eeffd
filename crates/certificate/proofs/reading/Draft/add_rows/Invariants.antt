use Rattle.std.proofs.Common.{◌≤◌, length}
use Rattle.certificate.proofs.AheadFacts.{LeadsTo}
use Rattle.certificate.proofs.reading.Draft.add_rows.Given as goal

-- the text has led on to the rows so far
abbrev pub invariant-loop-row : goal.invariant-loop-row
invariant-loop-row l = LeadsTo l.fn.self l.text l.self l.rest

abbrev pub decreases-loop-row : goal.decreases-loop-row
decreases-loop-row l = length l.rest

abbrev pub invariant-loop-more : goal.invariant-loop-more
invariant-loop-more l = record {
  leads : LeadsTo l.fn.self l.text l.self l.rest;
  shorter : length l.rest ≤ length l.initial.rest;
}

abbrev pub decreases-loop-more : goal.decreases-loop-more
decreases-loop-more l = length l.rest
