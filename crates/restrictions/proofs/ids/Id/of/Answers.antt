use Rattle.std.proofs.Common.{sym, ◌∙◌}
use Rattle.restrictions.proofs.PaddedFacts.{padded-of}
use Rattle.restrictions.proofs.ids.Id.of.Goals as goal

pub invariant_of-result : goal.invariant_of-result
invariant_of-result c = padded-of c.copy_from_slice.new.self c.args.text.now c.copy_from_slice.ensures.after (sym c.is_id.ensures ∙ c.if-not-is_id.false)
