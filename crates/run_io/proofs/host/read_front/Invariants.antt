use Rattle.std.proofs.Common.{◌≡◌, ◌-◌, ◌≤◌, ℕ, List, length, take}
use Rattle.std.specs.Io.KnownBytes.{Consumes}
use Rattle.run_io.proofs.host.read_front.Given as goal

abbrev pub invariant-loop-buf : goal.invariant-loop-buf
invariant-loop-buf g l = record {
  gone : List ℕ;
  taken : Consumes (g.S.Source.told l.fn.file).holds (g.S.Source.told l.file).holds gone;
  later : (g.S.Source.told l.fn.file).faults ≤ (g.S.Source.told l.file).faults;
  front : l.into.items ≡ take l.most gone;
}

abbrev pub decreases-loop-buf : goal.decreases-loop-buf
decreases-loop-buf g l = l.most - length l.into.items
