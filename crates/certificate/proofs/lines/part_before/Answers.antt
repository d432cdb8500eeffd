use Rattle.std.proofs.Common.{◌==◌, sym}
use Rattle.std.proofs.lemmas.List.{take_rest}
use Rattle.certificate.proofs.SplitFacts.{split-none, split-some}
use Rattle.certificate.proofs.lines.part_before.Goals as goal

pub returns-in_err-at-clause-parts : goal.returns-in_err-at-clause-parts
returns-in_err-at-clause-parts c =
    rw c.from_residual.ensures (split-none (λ b. b == c.args.end) c.args.text.now (sym c.in_err-at.ensures))

pub returns-clause-parts : goal.returns-clause-parts
returns-clause-parts c = rw take_rest (split-some (λ b. b == c.args.end) c.args.text.now c.in_ok-at.at (sym c.in_ok-at.ensures)).1
