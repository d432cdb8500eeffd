-- The first record that breaks a rule.
use Rattle.std.specs.Prelude.{ℕ, ◌+◌, ◌≡◌, List, [], ◌∷◌, ◌++◌, length, Option, Some, None, option_map, Result, Ok, Err, ⊤}
use Rattle.std.specs.Option.{option_or}
use Rattle.record_rules.specs.Records.{Record}
use Rattle.record_rules.specs.declared.Stop.{Stop}
use Rattle.record_rules.specs.declared.Stop.TheVariants as stop
use Rattle.record_rules.specs.declared.RecordFault.{RecordFault}
use Rattle.record_rules.specs.declared.RecordFault.TheVariants as fault

-- rule before r is the least rule that r breaks after the records before it; this is the place, from 1, of the first
-- record of the rest that breaks one, with that rule
unfoldable pub first_fault : (List Record → Record → Option ℕ) → List Record → List Record → Option (ℕ × ℕ)
first_fault rule before [] = None
first_fault rule before (r ∷ rest) =
    option_or (option_map (λ k. (length before + 1, k)) (rule before r)) (first_fault rule (before ++ r ∷ []) rest)

-- why a record is not taken: the least rule that it breaks, or want of memory
abbrev pub StopsBy : Option ℕ → Stop → Type 0
StopsBy broken (stop.Broken rule) = broken ≡ Some rule
StopsBy broken stop.Memory = ⊤

-- a record that breaks no rule is taken, and one that breaks a rule is refused by its least
abbrev pub TakesOne : Option ℕ → Type 0 → Result (Unit {0}) Stop → Type 0
TakesOne broken said (Ok u) = (broken ≡ None) × said
TakesOne broken said (Err stop) = StopsBy broken stop

-- what a record that breaks no rule says is given, and one that breaks a rule is refused by its least
abbrev pub GivesOne : {T : Type 0} → Option ℕ → (T → Type 0) → Result T Stop → Type 0
GivesOne broken said (Ok value) = (broken ≡ None) × said value
GivesOne broken said (Err stop) = StopsBy broken stop

-- a file that has no fault is read to its end, and any other is refused by its fault
abbrev pub ReadsAll : Option (ℕ × ℕ) → Type 0 → Result (Unit {0}) RecordFault → Type 0
ReadsAll broken said (Ok u) = (broken ≡ None) × said
ReadsAll broken said (Err (fault.Broken place rule)) = broken ≡ Some (place, rule)
ReadsAll broken said (Err fault.Memory) = ⊤
