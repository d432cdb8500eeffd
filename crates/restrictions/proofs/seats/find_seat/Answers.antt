use Rattle.std.proofs.Common.{rules}
use Rattle.std.proofs.lemmas.Fn.{always_returns_same}
use Rattle.std.specs.List.Sorted.{IsBinarySearchResult}
use Rattle.restrictions.specs.Seats.{id_at, seats_of}
use Rattle.restrictions.proofs.PlaceFacts.{found_place, halved_seats, in_range}
use Rattle.restrictions.proofs.SeatFacts.{free_at, order, room_at}
use Rattle.restrictions.proofs.seats.find_seat.Goals as goal

-- each call compares the ID at a place with the one that is looked for
halved : (c : goal.After-binary_search_by) → IsBinarySearchResult (λ p. order (id_at c.args.pairs.now p) c.args.id) c.args.seats.now c.binary_search_by.result
halved c = c.binary_search_by.ensures.position (λ p. order (id_at c.args.pairs.now p) c.args.id) (always_returns_same _ _ _ (λ a r f' called. search rules))

seated : (c : goal.After-binary_search_by) → IsBinarySearchResult (λ s. order s.id c.args.id) (seats_of c.args.pairs.now c.args.seats.now) c.binary_search_by.result
seated c = halved_seats c.args.pairs.now c.args.seats.now c.args.id c.binary_search_by.result c.binary_search_by.ensures.bound (halved c)

pub returns-clause-found : goal.returns-clause-found
returns-clause-found c = found_place c.args.pairs.now c.args.seats.now c.args.id c.binary_search_by.result (halved c)

pub returns-clause-free : goal.returns-clause-free
returns-clause-free c = free_at (seats_of c.args.pairs.now c.args.seats.now) c.args.id c.binary_search_by.result c.requires (seated c)

pub returns-clause-order : goal.returns-clause-order
returns-clause-order c =
    let seats = seats_of c.args.pairs.now c.args.seats.now in
    room_at seats c.args.id c.binary_search_by.result c.requires (in_range c.args.pairs.now c.args.seats.now c.binary_search_by.result c.binary_search_by.ensures.bound) (seated c)
