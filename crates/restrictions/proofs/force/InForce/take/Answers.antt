use Rattle.std.proofs.Common.{◌+◌, Some, arith, drop, length, refl, sym, ◌∙◌, ap, List, ℕ, map}
use Rattle.std.proofs.lemmas.List.{length-map, take_at}
use Rattle.unit_rules.specs.declared.Zone.{Zone}
use Rattle.restrictions.specs.Force.{ForceView}
use Rattle.restrictions.specs.Seats.{closed_up}
use Rattle.restrictions.proofs.KeptFacts.{IsKept-take, remove-without, seated, zone_of-free}
use Rattle.restrictions.proofs.force.InForce.take.Goals as goal

pub returns-in_default-clause-refused : goal.returns-in_default-clause-refused
returns-in_default-clause-refused c =
    let f = c.self.inside in
    let free = rw (c.deref.ensures.value, c.deref-2.ensures.value) at c.in_default.ensures.free in
    (refl, rw (← c.self.view_is) (zone_of-free c.args.id c.self.invariant free))

pub remove-id-requires : goal.remove-id-requires
remove-id-requires c =
    let f = c.self.inside in
    let same = c.deref.ensures.value in
    let as_kept = c.deref-2.ensures.value in
    let is = seated c.in-Ok.seat c.remove-place.result c.args.id c.self.invariant (rw same at c.in-Ok.ensures.bound) c.remove-place.ensures.value (rw (same, as_kept) at (c.in-Ok.ensures.found c.remove-place.result)) in
    omega (arith, is.within, f.pairs.ok.0)

pub invariant_of-self : goal.invariant_of-self
invariant_of-self c =
    let f = c.self.inside in
    let same = c.deref.ensures.value in
    let as_kept = c.deref-2.ensures.value in
    let left = c.remove-place.result in
    let bound = rw same at c.in-Ok.ensures.bound in
    let found = rw (same, as_kept) at (c.in-Ok.ensures.found left) in
    let is = seated c.in-Ok.seat left c.args.id c.self.invariant bound c.remove-place.ensures.value found in
    let moved = c.close_up.ensures ∙ ap (map (closed_up left)) c.deref_mut.ensures.value in
    let long = ap (λ (seats : List ℕ). length seats) moved ∙ length-map c.remove-place.new.self.items (closed_up left) ∙ sym c.remove-place.new.self.ok.0 in
    let seats = take_at c.close_up.new.seats (drop (length c.close_up.new.seats) c.remove-place.new.self.items) c.remove-place.new.self.len long ∙ moved ∙ ap (map (closed_up left)) c.remove-place.ensures.items in
    rw (c.remove-id.ensures.items, seats, c.remove-id.ensures.capacity, c.remove-place.ensures.capacity)
    (IsKept-take c.in-Ok.seat left c.args.id c.remove-id.result c.self.invariant bound c.remove-place.ensures.value found is)

pub returns-clause-taken : goal.returns-clause-taken
returns-clause-taken c =
    let f = c.self.inside in
    let same = c.deref.ensures.value in
    let as_kept = c.deref-2.ensures.value in
    let is = seated c.in-Ok.seat c.remove-place.result c.args.id c.self.invariant (rw same at c.in-Ok.ensures.bound) c.remove-place.ensures.value (rw (same, as_kept) at (c.in-Ok.ensures.found c.remove-place.result)) in
    let zone = is.zone c.remove-id.result ∙ ap (λ (p : List ℕ × Zone). Some p.1) (sym c.remove-id.ensures.value) in
    let left = c.remove-id.ensures.items ∙ remove-without f.pairs.items c.args.id c.remove-place.result c.remove-id.result c.self.invariant.force.distinct is in
    let view = λ (pairs : List (List ℕ × Zone)). let v : ForceView = record { pairs = pairs; spare = f.spare + 1 } in v in
    rw (← c.self.view_is) (zone, ap view left)

pub returns-clause-force : goal.returns-clause-force
returns-clause-force c = (invariant_of-self c).force
