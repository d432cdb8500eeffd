use Rattle.std.proofs.Common.{refl}
use Rattle.std.proofs.lemmas.Bool.{and_parts}
use Rattle.run_words.proofs.command.matches_by.Goals as goal

pub returns-in-Ok : goal.returns-in-Ok
returns-in-Ok c =
    let none = c.in-Ok.ensures.kinds c.requires in
    let rows = c.in-Ok.ensures.matches (and_parts _ _ c.requires).0 in
    rw (none, rows.0) refl
