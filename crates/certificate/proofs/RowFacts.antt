-- The lines of a certificate by their place are its text.
use Rattle.std.proofs.Common.{◌≡◌, ◌≤◌, ◌+◌, ◌==◌, ℕ, zero, suc, false, List, [], ◌∷◌, ◌++◌, codes, length, refl, sym, ◌∙◌, append_assoc, arith}
use Rattle.std.proofs.lemmas.Bool.Decides.{nat_tests}
use Rattle.std.proofs.lemmas.List.{append-nil}
use Rattle.run_io.specs.Texts.{lines_below, lines_from}
use Rattle.run_io.proofs.TextFacts.{lines_below-from, lines_from-shifted}
use Rattle.unit_rules.specs.declared.Reach.{Reach}
use Rattle.certificate.specs.Rows.{row_at, verdict_text}
use Rattle.certificate.specs.Texts.{cert_text, dashed_row, full_row, rows_text, verdict_line}

same_place : (k n : ℕ) → (suc k == suc n) ≡ (k == n)
same_place k n = grind (arith, nat_tests)

-- the lines behind the first row are those of the rows behind it
row_at-behind : (x : ℕ) (c : List ℕ) (y : ℕ) (e : List ℕ) (verdict : Reach) (k : ℕ) → row_at (x ∷ c) (y ∷ e) verdict (1 + k) ≡ row_at c e verdict (0 + k)
row_at-behind x c y e verdict k =
    let next : 1 + k ≡ suc k = omega arith in
    let from : 0 + k ≡ k = omega arith in
    rw (next, from, same_place k (length c)) refl

row_at-behind_dashed : (x : ℕ) (c : List ℕ) (verdict : Reach) (k : ℕ) → row_at (x ∷ c) [] verdict (1 + k) ≡ row_at c [] verdict (0 + k)
row_at-behind_dashed x c verdict k =
    let next : 1 + k ≡ suc k = omega arith in
    let from : 0 + k ≡ k = omega arith in
    rw (next, from, same_place k (length c)) refl

rows_from : (c e : List ℕ) (verdict : Reach) → length e ≤ length c → lines_from (row_at c e verdict) 0 (length c + 1) ≡ rows_text c e ++ verdict_text verdict
rows_from [] [] verdict short = append-nil (verdict_text verdict)
rows_from [] (y ∷ e) verdict short = absurd (omega arith)
rows_from (x ∷ c) [] verdict short =
    let many : length (x ∷ c) + 1 ≡ suc (length c + 1) = omega arith in
    let first : (0 == suc (length c)) ≡ false = grind (arith, nat_tests) in
    let rest = lines_from-shifted (row_at (x ∷ c) [] verdict) (row_at c [] verdict) 1 0 (length c + 1) (row_at-behind_dashed x c verdict) ∙ rows_from c [] verdict (omega arith) in
    rw (many, first, rest) (sym (append_assoc (dashed_row x ++ codes "\n") (rows_text c []) (verdict_text verdict)))
rows_from (x ∷ c) (y ∷ e) verdict short =
    let many : length (x ∷ c) + 1 ≡ suc (length c + 1) = omega arith in
    let first : (0 == suc (length c)) ≡ false = grind (arith, nat_tests) in
    let rest = lines_from-shifted (row_at (x ∷ c) (y ∷ e) verdict) (row_at c e verdict) 1 0 (length c + 1) (row_at-behind x c y e verdict) ∙ rows_from c e verdict (omega arith) in
    rw (many, first, rest) (sym (append_assoc (full_row x y ++ codes "\n") (rows_text c e) (verdict_text verdict)))

pub rows_below : (c e : List ℕ) (verdict : Reach) → length e ≤ length c → lines_below (row_at c e verdict) (length c + 1) ≡ cert_text c e verdict
unfolding cert_text
rows_below c e verdict short =
    let same : 0 + (length c + 1) ≡ length c + 1 = omega arith in
    rw same at (lines_below-from (row_at c e verdict) 0 (length c + 1)) ∙ rows_from c e verdict short ∙ sym (append_assoc (rows_text c e) (verdict_line verdict) (codes "\n"))
