use Rattle.std.proofs.Common.{Some, ap, arith, sym, ◌∙◌, List, ℕ}
use Rattle.unit_rules.specs.declared.Zone.{Zone}
use Rattle.restrictions.proofs.KeptFacts.{seated, zone_of-free}
use Rattle.restrictions.proofs.force.InForce.get.Goals as goal

pub index-requires-in-Ok : goal.index-requires-in-Ok
index-requires-in-Ok c =
    let f = c.self.inside in
    let same = c.deref.ensures.value in
    let as_kept = c.deref-2.ensures.value in
    let is = seated c.in-Ok.seat c.index.result.now c.args.id c.self.invariant (rw same at c.in-Ok.ensures.bound) c.index.ensures (rw (same, as_kept) at (c.in-Ok.ensures.found c.index.result.now)) in
    omega (arith, is.within, f.pairs.ok.0)

pub returns-in-Ok-clause-zone : goal.returns-in-Ok-clause-zone
returns-in-Ok-clause-zone c =
    let f = c.self.inside in
    let same = c.deref.ensures.value in
    let as_kept = c.deref-2.ensures.value in
    let is = seated c.in-Ok.seat c.index.result.now c.args.id c.self.invariant (rw same at c.in-Ok.ensures.bound) c.index.ensures (rw (same, as_kept) at (c.in-Ok.ensures.found c.index.result.now)) in
    let pair = c.index-in-Ok.result.now in
    rw (← c.self.view_is) (ap (λ (p : List ℕ × Zone). Some p.1) c.index-in-Ok.ensures ∙ sym (is.zone pair))

pub returns-in-Err-clause-zone : goal.returns-in-Err-clause-zone
returns-in-Err-clause-zone c =
    let f = c.self.inside in
    let free = rw (c.deref.ensures.value, c.deref-2.ensures.value) at c.in-Err.ensures.free in
    rw (← c.self.view_is) (sym (zone_of-free c.args.id c.self.invariant free))
