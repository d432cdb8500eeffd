-- The first record that breaks a rule, by the records read so far.
use Rattle.std.proofs.Common.{◌≡◌, ◌+◌, ℕ, List, [], ◌∷◌, ◌++◌, length, Option, Some, None, refl, ap, ◌∙◌, append_assoc}
use Rattle.std.specs.Prelude.{option_map}
use Rattle.std.specs.Option.{option_or}
use Rattle.std.proofs.lemmas.List.{append-nil}
use Rattle.record_rules.specs.Records.{Record}
use Rattle.record_rules.specs.Faults.{first_fault}

-- behind records that break no rule comes the fault of the rest
pub first_fault-append : (rule : List Record → Record → Option ℕ) (before rows more : List Record) → first_fault rule before rows ≡ None
    → first_fault rule before (rows ++ more) ≡ first_fault rule (before ++ rows) more
unfolding first_fault
first_fault-append rule before [] more e = rw (append-nil before) refl
first_fault-append rule before (r ∷ rows) more e =
    by (rule before r) e (first_fault-append rule (before ++ r ∷ []) rows more)
  where
    by : (o : Option ℕ) → option_or (option_map (λ k. (length before + 1, k)) o) (first_fault rule (before ++ r ∷ []) rows) ≡ None
        → (first_fault rule (before ++ r ∷ []) rows ≡ None → first_fault rule (before ++ r ∷ []) (rows ++ more) ≡ first_fault rule ((before ++ r ∷ []) ++ rows) more)
        → option_or (option_map (λ k. (length before + 1, k)) o) (first_fault rule (before ++ r ∷ []) (rows ++ more)) ≡ first_fault rule (before ++ (r ∷ rows)) more
    by None g next = next g ∙ ap (λ (q : List Record). first_fault rule q more) (append_assoc before (r ∷ []) rows)
    by (Some k) g next = cc g

-- a record that breaks a rule is the fault
pub first_fault-broken : (rule : List Record → Record → Option ℕ) (before : List Record) (r : Record) (more : List Record) (k : ℕ) → rule before r ≡ Some k
    → first_fault rule before (r ∷ more) ≡ Some (length before + 1, k)
unfolding first_fault
first_fault-broken rule before r more k e = rw e refl

-- a record that breaks none is no fault
pub first_fault-kept : (rule : List Record → Record → Option ℕ) (before : List Record) (r : Record) → rule before r ≡ None → first_fault rule before (r ∷ []) ≡ None
unfolding first_fault
first_fault-kept rule before r e = rw e refl

-- before the first record there is none
pub first_fault-none : (rule : List Record → Record → Option ℕ) → first_fault rule [] [] ≡ None
unfolding first_fault
first_fault-none rule = refl
