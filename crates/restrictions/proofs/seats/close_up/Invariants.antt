use Rattle.std.proofs.Common.{◌≡◌, ◌++◌, drop, map, take}
use Rattle.restrictions.specs.Seats.{closed_up}
use Rattle.restrictions.proofs.seats.close_up.Given as goal

abbrev pub invariant-loop-place : goal.invariant-loop-place
invariant-loop-place l = l.seats ≡ map (closed_up l.left) (take l.place-index l.initial.seats) ++ drop l.place-index l.initial.seats
