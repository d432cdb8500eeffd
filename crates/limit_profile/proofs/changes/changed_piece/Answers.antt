use Rattle.std.proofs.Common.{arith, sym, ◌∙◌}
use Rattle.limit_profile.specs.Changes.{changed}
use Rattle.limit_profile.proofs.PieceFacts.{IsPiece-cut}
use Rattle.limit_profile.proofs.changes.changed_piece.Goals as goal

pub returns-then-binds-clause-piece : goal.returns-then-binds-clause-piece
returns-then-binds-clause-piece c = λ f g come h.
    let until = c.bound_until-until in
    let past = until.ensures.past in
    IsPiece-cut (changed c.args.course c.args.change c.args.zone c.args.zones.now f) g c.args.point until.result c.bound_piece.result c.cut.result (c.bound_piece.ensures.piece f h) (omega arith)
    (λ i a b. come.inside i (until.ensures.same i a b ∙ sym c.binds.ensures ∙ c.if-binds.true)) c.cut.ensures.until c.cut.ensures.most

pub returns-clause-piece : goal.returns-clause-piece
returns-clause-piece c = λ f g come h.
    let until = c.bound_until-until in
    let past = until.ensures.past in
    IsPiece-cut f g c.args.point until.result c.args.held c.cut-2.result h (omega arith)
    (λ i a b. come.outside i (until.ensures.same i a b ∙ sym c.binds.ensures ∙ c.if-binds.false)) c.cut-2.ensures.until c.cut-2.ensures.most
