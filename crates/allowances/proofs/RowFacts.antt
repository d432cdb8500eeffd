-- Rows of calls.
use Rattle.std.proofs.Common.{◌≡◌, ℕ, ◌+◌, List, [], ◌∷◌, ◌++◌, length, take, map, arith, refl, ap, length-take-le}
use Rattle.std.proofs.lemmas.List.{map_push, take_more}
use Rattle.std.specs.List.{enumerate_from}
use Rattle.plan_tables.specs.declared.plan.Call.{Call}
use Rattle.plan_tables.specs.Plan.{PlanView}
use Rattle.allowances.specs.declared.Row.{Row}
use Rattle.allowances.specs.Rows.{call_row}
use Rattle.allowances.proofs.CallFacts.{IsCallAt}

-- one element more, with its index
enumerate_from-push : {X : Type 0} (n m : ℕ) (xs : List X) (y : X) → m ≡ n + length xs → enumerate_from n (xs ++ y ∷ []) ≡ enumerate_from n xs ++ (m, y) ∷ []
enumerate_from-push n m [] y is = let same : m ≡ n = omega arith in rw same refl
enumerate_from-push n m (x ∷ xs) y is = ap (λ rest. (n, x) ∷ rest) (enumerate_from-push (n + 1) m xs y (omega arith))

-- the rows of so many calls, and of one call more
abbrev pub call_rows : PlanView → List ℕ → ℕ → List Row
call_rows plan e count = map (call_row plan e) (enumerate_from 0 (take count plan.calls))

call_rows-more : (plan : PlanView) (e : List ℕ) (k : ℕ) (c : Call) → IsCallAt plan k c → call_rows plan e (k + 1) ≡ call_rows plan e k ++ call_row plan e (k, c) ∷ []
call_rows-more plan e k c here =
    let within = here.within in
    let front = length-take-le k plan.calls (omega arith) in
    let more : take (k + 1) plan.calls ≡ take k plan.calls ++ c ∷ [] = rw (← here.is) at (take_more plan.calls k c within) in
    rw (more, enumerate_from-push 0 k (take k plan.calls) c (omega arith)) (map_push (call_row plan e) (enumerate_from 0 (take k plan.calls)) (k, c))

-- a row is put behind a first row and those of so many calls
pub rows-more : (plan : PlanView) (e : List ℕ) (k : ℕ) (c : Call) (start row : Row) (rows more : List Row) → IsCallAt plan k c → rows ≡ start ∷ call_rows plan e k → row ≡ call_row plan e (k, c)
    → more ≡ rows ++ row ∷ [] → more ≡ start ∷ call_rows plan e (k + 1)
rows-more plan e k c start row rows more here so_far is put = rw (put, so_far, is, call_rows-more plan e k c here) refl
