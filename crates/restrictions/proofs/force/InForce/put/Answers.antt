use Rattle.std.proofs.Common.{arith, inr, ◌∙◌}
use Rattle.restrictions.proofs.ForceFacts.{put_in-full, put_in-made}
use Rattle.restrictions.proofs.KeptFacts.{IsKept-put, put_in-seated, zone_of-free}
use Rattle.restrictions.proofs.force.InForce.put.Goals as goal

pub returns-in_default-clause-refused : goal.returns-in_default-clause-refused
returns-in_default-clause-refused c =
    let f = c.self.inside in
    let same = c.deref.ensures.value in
    let as_kept = c.deref-2.ensures.value in
    inr (rw (← c.self.view_is) (put_in-seated c.in_default.field-0 c.args.id c.args.zone c.self.invariant (rw same at c.in_default.ensures.bound) (rw (same, as_kept) at c.in_default.ensures.found)))

pub returns-then-len-ge-MOST_IN_FORCE-clause-refused : goal.returns-then-len-ge-MOST_IN_FORCE-clause-refused
returns-then-len-ge-MOST_IN_FORCE-clause-refused c =
    let f = c.self.inside in
    let free = zone_of-free c.args.id c.self.invariant (rw (c.deref.ensures.value, c.deref-2.ensures.value) at c.in-Err.ensures.free) in
    inr (rw (← c.self.view_is) (put_in-full c.args.id c.args.zone f.pairs.items free (omega (arith, f.pairs.ok.0))))

pub invariant_of-self-2 : goal.invariant_of-self-2
invariant_of-self-2 c =
    let f = c.self.inside in
    let same = c.deref.ensures.value in
    let as_kept = c.deref-2.ensures.value in
    let kept = c.self.invariant in
    let pairs_fit = kept.pairs_fit in
    let places_fit = kept.places_fit in
    let pairs_room = c.in-Ok.ensures.ok in
    let seats_room = c.insert.new.self.ok in
    rw (c.push_reserved.ensures.items, c.reserve.ensures.items, c.in-Ok-insert.ensures.items)
    (IsKept-put c.in-Err.seat c.args.id c.args.zone c.len-place.result c.saturating_sub-self-inside.result _ _ kept (rw same at c.in-Err.ensures.room) (rw (same, as_kept) at c.in-Err.ensures.free) (rw (same, as_kept) at c.in-Err.ensures.order)
    (c.len-place.ensures ∙ f.pairs.ok.0) (omega (arith, f.pairs.ok.0)) (omega (arith, f.pairs.ok.0)) (omega (arith, f.seats.ok.0, c.in-Ok-insert.ensures.len, c.in-Ok-insert.ensures.capacity)))

pub returns-clause-put : goal.returns-clause-put
returns-clause-put c =
    let f = c.self.inside in
    let free = zone_of-free c.args.id c.self.invariant (rw (c.deref.ensures.value, c.deref-2.ensures.value) at c.in-Err.ensures.free) in
    rw (← c.self.view_is, c.push_reserved.ensures.items, c.reserve.ensures.items) (put_in-made c.args.id c.args.zone f.pairs.items free (omega (arith, f.pairs.ok.0)))

pub returns-clause-force : goal.returns-clause-force
returns-clause-force c = (invariant_of-self-2 c).force
