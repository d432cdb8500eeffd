-- What the records of a file say, one record after another.
use Rattle.std.proofs.Common.{◌≡◌, ◌++◌, ℕ, List, [], ◌∷◌, Option, Some, None, refl, sym, ap, subst, ◌∙◌}
use Rattle.std.specs.Prelude.{slice_get, option_to_list, Result}
use Rattle.std.specs.List.{cons_option, filter_map}
use Rattle.std.specs.Option.{option_or}
use Rattle.std.proofs.lemmas.List.Elements.{filter_map-append}
use Rattle.record_rules.specs.Records.{Record}
use Rattle.record_rules.specs.Faults.{TakesOne}
use Rattle.record_rules.specs.declared.Stop.{Stop}

first-append : {X : Type 0} (xs : List X) (o : Option X) → slice_get (xs ++ option_to_list o) 0 ≡ option_or (slice_get xs 0) o
first-append [] None = refl
first-append [] (Some x) = refl
first-append (y ∷ xs) o = refl

cons_option-nil : {X : Type 0} (o : Option X) → cons_option o [] ≡ option_to_list o
cons_option-nil None = refl
cons_option-nil (Some x) = refl

-- what the records of a kind say with one record more
pub filter_map-push : {X Y : Type 0} (h : X → Option Y) (rows : List X) (r : X) → filter_map h (rows ++ r ∷ []) ≡ filter_map h rows ++ option_to_list (h r)
filter_map-push {Y = Y} h rows r = filter_map-append h rows (r ∷ []) ∙ ap (λ (q : List Y). filter_map h rows ++ q) (cons_option-nil (h r))

-- what the first record of a kind says with one record more
pub first-push : {X Y : Type 0} (h : X → Option Y) (rows : List X) (r : X) → slice_get (filter_map h (rows ++ r ∷ [])) 0 ≡ option_or (slice_get (filter_map h rows) 0) (h r)
first-push h rows r = rw (filter_map-push h rows r) (first-append (filter_map h rows) (h r))

-- a record taken behind those that a draft says
pub TakesOne-draft : {D : Type 0} (rule_after : D → Record → Option ℕ) (with_record : D → Record → D) (draft_of : List Record → D)
    → ((rows : List Record) (r : Record) → draft_of (rows ++ r ∷ []) ≡ with_record (draft_of rows) r)
    → (d e : D) (before : List Record) (r : Record) (result : Result (Unit {0}) Stop) → d ≡ draft_of before
    → TakesOne (rule_after d r) (e ≡ with_record d r) result → TakesOne (rule_after (draft_of before) r) (e ≡ draft_of (before ++ r ∷ [])) result
TakesOne-draft {D} rule_after with_record draft_of push d e before r result said taken =
    let more : with_record d r ≡ draft_of (before ++ r ∷ []) = ap (λ (x : D). with_record x r) said ∙ sym (push before r) in
    let kept = subst (λ (x : D). TakesOne (rule_after d r) (e ≡ x) result) more taken in
    subst (λ (x : D). TakesOne (rule_after x r) (e ≡ draft_of (before ++ r ∷ [])) result) said kept
