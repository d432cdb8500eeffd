-- What an envelope keeps, and what contracts see of it.
use Rattle.std.specs.Prelude.{◌≡◌, ℕ, ◌≤◌, ◌++◌, take}
use Rattle.limit_profile.specs.Profile.{Profile, caps}
use Rattle.line_tables.specs.Line.{LineView}
use Rattle.stock_tables.specs.Stock.{IsStock, StockView}
use Rattle.plan_tables.specs.Bounds.{bounds_of}
use Rattle.plan_tables.specs.Plan.{PlanView}
use Rattle.step_rule.specs.Motion.{Motion, cells_of, most_of, step_rule_of}
use Rattle.case_rules.specs.Case.{train_motion}
use Rattle.restrictions.specs.Force.{ForceView, IsForce, zones_of}
use Rattle.incr_envelope.specs.Envelope.{EnvelopeView, IsFromScratch}
use Rattle.incr_envelope.specs.Runs.{IsFastest, known_in}
use Rattle.incr_envelope.specs.Zones.{AreSame}
use Rattle.incr_envelope.specs.declared.run.Run.{Run}

-- the fields of an envelope: a line, a plan, a train's mass in kg and its length in metres, how it moves on the line, the limits
-- with the restrictions among them, the restrictions by their IDs, how many more can be put, and the run
pub record Fields : Type 0 where
  pub line : LineView
  pub plan : PlanView
  pub mass : ℕ
  pub train : ℕ
  pub motion : Motion
  pub limits : Profile
  pub force : ForceView
  pub spare : ℕ
  pub run : Run

-- the train of an envelope
abbrev pub stock_in : Fields → StockView
stock_in f = record {
  mass = f.mass;
  moved_mass = f.motion.moved;
  length = f.train;
  top = f.limits.top;
  push = f.motion.push;
  brake = f.motion.brake;
}

-- what contracts see
abbrev pub view_of : Fields → EnvelopeView
view_of f = record {
  line = f.line;
  stock = stock_in f;
  plan = f.plan;
  force = f.force.pairs;
  spare = f.spare;
  brakes = f.run.brakes.items;
  speeds = take (known_in f.line.length f.run) f.run.speeds.items;
  reach = f.run.reach;
  sums = f.run.sums;
}

-- the limits are those of a train on a line by a plan, with the restrictions among them
pub record AreLimits (f : Fields) : Type 0 where
  pub metres : f.limits.length ≡ f.line.length
  pub train : f.limits.train ≡ f.train
  pub bounds : f.limits.bounds ≡ bounds_of f.plan f.line.length
  pub zones : AreSame f.limits.zones (f.line.limits ++ zones_of f.force.pairs)

-- the fields belong together: the run is the fastest one under the limits, so what contracts see is as from scratch
pub record IsKept (f : Fields) : Type 0 where
  pub stock : IsStock (stock_in f)
  pub force : IsForce f.force
  pub motion : f.motion ≡ train_motion f.line (stock_in f)
  pub cells : cells_of f.motion ≡ f.line.length
  pub limits : AreLimits f
  pub force_spare : f.spare ≤ f.force.spare
  pub limits_spare : f.spare ≤ f.limits.spare
  pub fastest : IsFastest (step_rule_of f.motion) (cells_of f.motion) (most_of f.motion) (caps f.limits) f.run
  pub scratch : IsFromScratch (view_of f)
