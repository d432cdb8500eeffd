use Rattle.std.proofs.Common.{[], sym, ◌∙◌}
use Rattle.limit_profile.proofs.CapFacts.{caps-alike}
use Rattle.limit_profile.specs.Profile.{AreAlike, profile_of}
use Rattle.run_cli.proofs.caps.CapsFormForm.make.Goals as goal

pub returns-clause-right : goal.returns-clause-right
returns-clause-right g c =
    let form = c.args.self.now in
    let line = c.args.line in
    let made = profile_of line.length form.train form.top line.limits [] in
    let limits = c.in_ok-limits.limits in
    let alike : AreAlike made limits = rw (c.length.ensures.length, c.limits.ensures.limits) at c.in_ok-limits.ensures in
    c.in_ok-numbers.ensures ∙ sym (caps-alike made limits alike)
