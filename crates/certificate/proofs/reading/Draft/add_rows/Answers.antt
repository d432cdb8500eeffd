use Rattle.std.proofs.Common.{◌≡◌, ◌++◌, arith, refl, sym}
use Rattle.std.proofs.lemmas.Bool.Decides.{Decides-eqb}
use Rattle.std.proofs.lemmas.Slice.Eq.{strip_prefix_is}
use Rattle.certificate.proofs.AheadFacts.{LeadsTo-given}
use Rattle.certificate.proofs.reading.Draft.add_rows.Goals as goal

pub loop-row-init : goal.loop-row-init
loop-row-init c = record { even = sym c.if-has_dash.ensures; reads = refl; shorter = omega arith }

pub loop-more-init : goal.loop-more-init
loop-more-init c =
    let row = c.in-Some.row in
    let says = c.in-Some.ensures in
    let added = LeadsTo-given c.args.self.now c.loop-row.self c.add_row.new.self c.args.text.now c.loop-row.rest.now row.line.now row.rest.now row.c row.e c.loop-row.invariant says.small says.row says.split c.in_ok-add_row.ensures in
    record { leads = added.0; shorter = omega arith }

pub loop-more-preserved : goal.loop-more-preserved
loop-more-preserved c =
    let row = c.in-Some.row in
    let says = c.in-Some.ensures in
    let more = c.in-Some-strip_prefix.more.now in
    let split : c.loop-more.rest.now ≡ row.line.now ++ more = rw c.in-Some-strip_prefix.is at (strip_prefix_is Decides-eqb c.loop-more.rest.now row.line.now c.strip_prefix.result c.strip_prefix.ensures.cases) in
    let added = LeadsTo-given c.args.self.now c.loop-more.self c.add_row-in-Some-strip_prefix.new.self c.args.text.now c.loop-more.rest.now row.line.now more row.c row.e c.loop-more.invariant.leads says.small says.row split c.in_ok-add_row-2.ensures in
    record { leads = added.0; shorter = omega (arith, added.1, c.loop-more.invariant.shorter) }

pub loop-more-smaller : goal.loop-more-smaller
loop-more-smaller c =
    let row = c.in-Some.row in
    let says = c.in-Some.ensures in
    let more = c.in-Some-strip_prefix.more.now in
    let split : c.loop-more.rest.now ≡ row.line.now ++ more = rw c.in-Some-strip_prefix.is at (strip_prefix_is Decides-eqb c.loop-more.rest.now row.line.now c.strip_prefix.result c.strip_prefix.ensures.cases) in
    (LeadsTo-given c.args.self.now c.loop-more.self c.add_row-in-Some-strip_prefix.new.self c.args.text.now c.loop-more.rest.now row.line.now more row.c row.e c.loop-more.invariant.leads says.small says.row split c.in_ok-add_row-2.ensures).1

pub loop-row-smaller : goal.loop-row-smaller
loop-row-smaller c =
    let row = c.in-Some.row in
    let says = c.in-Some.ensures in
    let added = LeadsTo-given c.args.self.now c.loop-row.self c.add_row.new.self c.args.text.now c.loop-row.rest.now row.line.now row.rest.now row.c row.e c.loop-row.invariant says.small says.row says.split c.in_ok-add_row.ensures in
    let more = c.loop-more.invariant.shorter in
    omega (arith, added.1, more)

pub loop-row-preserved : goal.loop-row-preserved
loop-row-preserved c = c.loop-more.invariant.leads

pub returns-clause-reads : goal.returns-clause-reads
returns-clause-reads c = c.loop-row.invariant.reads

pub returns-clause-shorter : goal.returns-clause-shorter
returns-clause-shorter c = c.loop-row.invariant.shorter
