-- That the rows of a timetable name calls of its plan.
use Rattle.std.proofs.Common.{◌≡◌, ◌∷◌, ℕ, ◌+◌, ◌≤◌, List, [], length, map, All, Option, Some, None, arith, ap}
use Rattle.std.proofs.lemmas.List.Elements.{All-append, All-cons, All-nil}
use Rattle.std.specs.List.{enumerate_from}
use Rattle.allowances.specs.Rows.{call_row, row_at, rows_of}
use Rattle.allowances.specs.declared.RowKind.TheVariants.{End, Start}
use Rattle.plan_tables.specs.Plan.{PlanView}
use Rattle.plan_tables.specs.declared.plan.Call.{Call}
use Rattle.report_text.specs.Timetables.{IsCalled}

-- the number that is there
some_number : Option ℕ → ℕ
some_number None = 0
some_number (Some n) = n

some-same : (n k : ℕ) → Some n ≡ Some k → n ≡ k
unfolding some_number
some-same n k e = ap some_number e

-- the rows of a plan name its own calls
calls-called : (plan : PlanView) (e : List ℕ) (n : ℕ) (xs : List Call) → n + length xs ≤ length plan.calls → All (IsCalled plan) (map (call_row plan e) (enumerate_from n xs))
calls-called plan e n [] h = All-nil (IsCalled plan)
calls-called plan e n (x ∷ xs) h =
    let here : IsCalled plan (call_row plan e (n, x)) = λ k is. let same = some-same n k is in omega (arith, same, h) in
    All-cons (IsCalled plan) (call_row plan e (n, x)) (map (call_row plan e) (enumerate_from (n + 1) xs)) here (calls-called plan e (n + 1) xs (omega arith))

pub rows-called : (plan : PlanView) (metres : ℕ) (e : List ℕ) → All (IsCalled plan) (rows_of plan metres e)
rows-called plan metres e =
    let first = row_at plan e 0 Start 0 None in
    let last = row_at plan e metres End 0 None in
    let calls = map (call_row plan e) (enumerate_from 0 plan.calls) in
    All-append (IsCalled plan) (first ∷ calls) (last ∷ [])
    (All-cons (IsCalled plan) first calls (λ k is. absurd (cc is)) (calls-called plan e 0 plan.calls (omega arith)))
    (All-cons (IsCalled plan) last [] (λ k is. absurd (cc is)) (All-nil (IsCalled plan)))
