use Rattle.std.proofs.Common.{◌≤◌, ◌+◌, length}
use Rattle.restrictions.specs.Edits.{lines_of}
use Rattle.session_replies.proofs.SumFacts.{IsCounted}
use Rattle.session_replies.specs.Summaries.{all_in}
use Rattle.session_replies.proofs.summary.summarize.Given as goal

-- what is left of the commands is still to be counted; no more lines were than bytes
abbrev pub invariant-loop-rest : goal.invariant-loop-rest
invariant-loop-rest g l = record {
  counted : IsCounted l.fn.session (lines_of l.commands) (lines_of l.rest) l.session l.count l.tally l.fn.steps l.steps;
  few : l.count + length l.rest ≤ length l.commands;
  each : all_in l.tally ≤ l.count;
  stalls : l.tally.stalls ≤ all_in l.tally;
}

abbrev pub decreases-loop-rest : goal.decreases-loop-rest
decreases-loop-rest g l = length l.rest
