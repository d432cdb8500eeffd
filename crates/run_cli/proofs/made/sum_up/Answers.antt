use Rattle.std.proofs.Common.{arith, inl, refl}
use Rattle.run_io.proofs.Written.{Writes-nil}
use Rattle.run_cli.proofs.made.sum_up.Goals as goal

pub returns-in_default : goal.returns-in_default
returns-in_default g c = record { ends = inl (refl, Writes-nil (g.K.Sink.told c.args.out.now)); cost = 0; allowed = inl refl; within = omega (arith, c.open_session.ensures.cost) }
