use Rattle.std.proofs.Common.{◌≡◌, ◌+◌, ◌≤◌, All, length}
use Rattle.unit_rules.specs.Zone.{LiesOn}
use Rattle.restrictions.specs.Edits.{edited_by, lines_of, restrictions_in}
use Rattle.restrictions.specs.Force.{IsForce, zones_of}
use Rattle.restrictions.proofs.edits.read_edits.Given as goal

-- what is made of the lines that are left, from what is in force, is what is made of all
abbrev pub invariant-loop-rest : goal.invariant-loop-rest
invariant-loop-rest l = record {
  left : edited_by l.length (l.place + 1) (lines_of l.rest) l.force.pairs ≡ restrictions_in l.length l.bytes;
  places : l.place + length l.rest ≤ length l.bytes;
  lie : All (LiesOn l.length) (zones_of l.force.pairs);
  force : IsForce l.force;
}

abbrev pub decreases-loop-rest : goal.decreases-loop-rest
decreases-loop-rest l = length l.rest
