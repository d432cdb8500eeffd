use Rattle.std.proofs.Common.{◌≡◌, map}
use Rattle.std.specs.List.{range_with_len}
use Rattle.limit_profile.specs.Levels.{IsLevel}
use Rattle.limit_profile.specs.Profile.{cap}
use Rattle.run_cli.proofs.caps.list_caps.Given as goal

abbrev pub invariant-loop-point : goal.invariant-loop-point
invariant-loop-point l = record {
  listed : l.caps.items ≡ map (cap l.limits) (range_with_len 0 l.point);
  level : IsLevel l.limits l.level;
}
