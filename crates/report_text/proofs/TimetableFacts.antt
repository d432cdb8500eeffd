-- The lines of a timetable, part by part.
use Rattle.std.proofs.Common.{◌≡◌, ℕ, zero, suc, ◌+◌, ◌*◌, ◌/◌, ◌%◌, List, [], ◌∷◌, ◌++◌, length, sym, ◌∙◌, append_assoc, add-zero, refl, arith}
use Rattle.run_io.specs.Texts.{lines_below, lines_from}
use Rattle.run_io.proofs.TextFacts.{lines_below-from, lines_from-shifted}
use Rattle.allowances.specs.declared.Row.{Row}
use Rattle.plan_tables.specs.Plan.{PlanView}
use Rattle.report_text.specs.Timetables.{arrival_part, departure_part, name_part, part_at, row_line, timetable_text}

-- the parts behind the first row are those of the rows behind it
part_at-behind : (plan : PlanView) (r : Row) (rows : List Row) (k : ℕ) → part_at plan (r ∷ rows) (3 + k) ≡ part_at plan rows (0 + k)
part_at-behind plan r rows k =
    let next : (3 + k) / 3 ≡ suc (k / 3) = omega arith in
    let same : (3 + k) % 3 ≡ k % 3 = omega arith in
    let from : 0 + k ≡ k = omega arith in
    rw (from, next, same) refl

parts_from : (plan : PlanView) (rows : List Row) → lines_from (part_at plan rows) 0 (3 * length rows) ≡ timetable_text plan rows
parts_from plan [] = refl
parts_from plan (r ∷ rows) =
    let many : 3 * length (r ∷ rows) ≡ suc (suc (suc (3 * length rows))) = omega arith in
    let rest = lines_from-shifted (part_at plan (r ∷ rows)) (part_at plan rows) 3 0 (3 * length rows) (part_at-behind plan r rows) in
    let joined : row_line plan r ++ timetable_text plan rows ≡ arrival_part r ++ (departure_part r ++ (name_part plan r ++ timetable_text plan rows))
    = append_assoc (arrival_part r ++ departure_part r) (name_part plan r) (timetable_text plan rows)
    ∙ append_assoc (arrival_part r) (departure_part r) (name_part plan r ++ timetable_text plan rows) in
    rw (many, rest, parts_from plan rows) (sym joined)

pub parts_below : (plan : PlanView) (rows : List Row) → lines_below (part_at plan rows) (3 * length rows) ≡ timetable_text plan rows
parts_below plan rows =
    let same : 0 + 3 * length rows ≡ 3 * length rows = omega arith in
    rw same at (lines_below-from (part_at plan rows) 0 (3 * length rows)) ∙ parts_from plan rows
