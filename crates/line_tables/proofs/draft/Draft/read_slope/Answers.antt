use Rattle.std.proofs.Common.{FitsSigned, false, true, w64, rules, sym, ◌∙◌}
use Rattle.std.specs.Option.{is_some}
use Rattle.std.proofs.lemmas.Int.{to_z-of_z}
use Rattle.csv.specs.Records.{fields_of}
use Rattle.line_tables.specs.LineFile.{slopes_end}
use Rattle.line_tables.proofs.RuleFacts.{from_order, gradient_rule-numbers}
use Rattle.line_tables.proofs.draft.Draft.read_slope.Goals as goal

pub returns-then-not-may_climb-clause-rule : goal.returns-then-not-may_climb-clause-rule
returns-then-not-may_climb-clause-rule c =
    let n = c.in-Some-Some-Some in
    let m = c.in-Some-Some-Some-2 in
    let x : FitsSigned w64 n.from = search rules in
    let y : FitsSigned w64 n.to = search rules in
    let z : FitsSigned w64 n.tenths = search rules in
    let position = c.last_position-last.ensures.position in
    gradient_rule-numbers c.args.self.now (fields_of c.args.row.now) n.from n.to n.tenths m.from m.to m.tenths false (sym c.len.ensures ∙ c.if-len-ne4.false) n.ensures n.ensures' n.ensures''
    (rw position at c.last_position-last.ensures.most) (rw (position, to_z-of_z w64 n.from x) at m.ensures.value) (rw (position, to_z-of_z w64 n.to y) at m.ensures'.value) (rw (to_z-of_z w64 n.tenths z) at m.ensures''.value) (sym c.may_climb.ensures ∙ c.if-not-may_climb.true)

pub returns-clause-ok : goal.returns-clause-ok
returns-clause-ok c =
    let n = c.in-Some-Some-Some in
    let m = c.in-Some-Some-Some-2 in
    let x : FitsSigned w64 n.from = search rules in
    let y : FitsSigned w64 n.to = search rules in
    let z : FitsSigned w64 n.tenths = search rules in
    let position = c.last_position-last.ensures.position in
    gradient_rule-numbers c.args.self.now (fields_of c.args.row.now) n.from n.to n.tenths m.from m.to m.tenths true (sym c.len.ensures ∙ c.if-len-ne4.false) n.ensures n.ensures' n.ensures''
    (rw position at c.last_position-last.ensures.most) (rw (position, to_z-of_z w64 n.from x) at m.ensures.value) (rw (position, to_z-of_z w64 n.to y) at m.ensures'.value) (rw (to_z-of_z w64 n.tenths z) at m.ensures''.value) (sym c.may_climb.ensures ∙ c.if-not-may_climb.false)

pub returns-clause-follows : goal.returns-clause-follows
returns-clause-follows c =
    let m = c.in-Some-Some-Some-2 in
    from_order (is_some c.args.self.now.line) m.from m.to (slopes_end c.args.self.now) (sym c.may_climb.ensures ∙ c.if-not-may_climb.false)

pub returns-clause-slope : goal.returns-clause-slope
returns-clause-slope c =
    let n = c.in-Some-Some-Some in
    let m = c.in-Some-Some-Some-2 in
    search rules
