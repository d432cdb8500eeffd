use Rattle.std.proofs.Common.{◌≡◌, ◌-◌, ◌*◌, arith, leb-true}
use Rattle.std.proofs.lemmas.Bool.{le-leb}
use Rattle.unit_rules.specs.Roots.{root_floor}
use Rattle.unit_rules.proofs.RootFacts.{IsRootFloor-rest, IsRootFloor-root, root_floor-fits, root_floor-rest, root_floor-square}
use Rattle.unit_rules.proofs.roots.is_root_floor.Goals as goal
use Rattle.unit_rules.proofs.roots.is_root_floor.Goals.{then-guess-via-then-guess, then-guess-via-else-guess+then-guess-n}

pub returns-then-guess-clause-root : goal.returns-then-guess-clause-root
returns-then-guess-clause-root c =
    let no_root : c.args.guess ≡ root_floor c.args.n → ⊥ = λ e.
    let fits = root_floor-fits c.args.n c.args.guess (omega arith) e in
    let square = root_floor-square c.args.n c.args.guess e in
    elim c.then-guess.branch [ then-guess-via-then-guess w ↦ omega (arith, w.if-guess.true) | then-guess-via-else-guess+then-guess-n w ↦ omega (arith, w.if-guess-n.true) ] in
    (λ t. grind arith, λ e. absurd (no_root e))

pub returns-clause-root : goal.returns-clause-root
returns-clause-root c = (
  λ t. IsRootFloor-root c.args.n c.args.guess (IsRootFloor-rest c.args.n c.args.guess c.if-guess-n.false (leb-true (c.args.n - c.args.guess * c.args.guess) (2 * c.args.guess) t)),
  λ e. le-leb (c.args.n - c.args.guess * c.args.guess) (2 * c.args.guess) (root_floor-rest c.args.n c.args.guess e),
)
