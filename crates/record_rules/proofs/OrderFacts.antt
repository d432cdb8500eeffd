-- Lists whose elements follow one another.
use Rattle.std.proofs.Common.{◌-◌, List, [], ◌∷◌, ◌++◌, length, get_or, IfSome, All, arith, below_more}
use Rattle.std.specs.Prelude.{AllPairs, slice_get}
use Rattle.std.proofs.lemmas.List.Quantifiers.{all_pairs_push}
use Rattle.std.proofs.lemmas.Option.{slice_get-get_or}

-- what follows the last element follows each
pub AllPairs-push_last : {X : Type 0} (R : X → X → Type 0) (P : X → Type 0) → ((a b c : X) → P b → R a b → R b c → R a c)
    → (xs : List X) (x : X) → All P xs → AllPairs R xs → IfSome (slice_get xs (length xs - 1)) (λ a. R a x) → AllPairs R (xs ++ x ∷ [])
AllPairs-push_last R P along xs x each pairs last = all_pairs_push R xs x pairs (λ k d in'.
    let end = length xs - 1 in
    let some = slice_get-get_or xs end d (omega arith) in
    let at_end : R (get_or xs end d) x = rw some at last in
    below_more (λ j. R (get_or xs j d) x) end (λ j below. along (get_or xs j d) (get_or xs end d) x (each end d (omega arith)) (pairs j end d below (omega arith)) at_end) at_end k (omega arith))
