use Rattle.unit_rules.proofs.DivisorFacts.{IsGuess, guess-at_most, guess-next}
use Rattle.unit_rules.proofs.divisors.Divisor.guess.Goals as goal

-- the product is a guess
guessed : (c : goal.After-upper_half) → IsGuess c.args.n c.self.inside.number c.self.inside.inverse c.upper_half.result
guessed c = record { small = c.ranges.n.fits; divisor = c.self.invariant; half = c.upper_half.ensures }

pub returns-clause-at_most : goal.returns-clause-at_most
returns-clause-at_most c = rw (← c.self.view_is) (guess-at_most _ _ _ _ (guessed c))

pub returns-clause-next : goal.returns-clause-next
returns-clause-next c = rw (← c.self.view_is) (guess-next _ _ _ _ (guessed c))
