-- The first speed from which values break their law.
use Rattle.std.proofs.Common.{◌≡◌, ℕ, ◌+◌, ◌<◌, ◌≤◌, zero, suc, Bool, true, false, not, ℤ, List, Option, Some, None, Result, Ok, Err, refl, sym, ◌∙◌, arith, inl, inr}
use Rattle.std.specs.List.{find, range_with_len}
use Rattle.std.proofs.lemmas.Bool.{cases_eq, not_from_false, not_from_true}
use Rattle.run_rules.specs.Grids.{top_of}
use Rattle.table_laws.specs.Laws.{BandTable, IsFirstBreak, KeepsLaw, keeps_law_at}
use Rattle.table_laws.specs.declared.Law.{Law}
use Rattle.stock_tables.specs.StockFile.{table_by, lawful_table}
use Rattle.stock_tables.specs.declared.StockFault.{StockFault}
use Rattle.stock_tables.specs.declared.StockFault.TheVariants as fault

find-none : (p : ℕ → Bool) (a n : ℕ) → ((k : ℕ) → a ≤ k → k < a + n → p k ≡ false) → find p (range_with_len a n) ≡ None
find-none p a zero h = refl
find-none p a (suc n) h = rw (h a (omega arith) (omega arith)) (find-none p (a + 1) n (λ k l m. h k (omega arith) (omega arith)))

find-first : (p : ℕ → Bool) (a n k : ℕ) → a ≤ k → k < a + n → p k ≡ true → ((j : ℕ) → a ≤ j → j < k → p j ≡ false) → find p (range_with_len a n) ≡ Some k
find-first p a zero k l m e h = absurd (omega arith)
find-first p a (suc n) k l m e h =
    elim (cases_eq a k) [
      | inl same ↦ rw (same, e) refl
      | inr ne ↦ rw (h a (omega arith) (omega arith)) (find-first p (a + 1) n k (omega arith) (omega arith) e (λ j u v. h j (omega arith) v))
    ]

pub lawful_table-lawful : (number : ℕ) (law : Law) (rows : List ℤ) → KeepsLaw law rows → lawful_table number law rows ≡ Ok (record { rows = rows; law = law })
lawful_table-lawful number law rows h =
    rw (find-none (λ k. not (keeps_law_at law rows k)) 0 (top_of rows) (λ k l m. not_from_true (keeps_law_at law rows k) (h k (omega arith)))) refl

pub lawful_table-broken : (number : ℕ) (law : Law) (rows : List ℤ) (k : ℕ) → IsFirstBreak law rows k → lawful_table number law rows ≡ Err (fault.Law number k)
lawful_table-broken number law rows k b =
    let below = b.below_top in
    rw (find-first (λ j. not (keeps_law_at law rows j)) 0 (top_of rows) k (omega arith) (omega arith) (not_from_false (keeps_law_at law rows k) b.breaks) (λ j l m. not_from_true (keeps_law_at law rows j) (b.first j m)))
    refl

-- a table that was read is one of the values and the law
pub lawful_table-ok : (number : ℕ) (law : Law) (rows : List ℤ) (result : Result BandTable StockFault) (table : BandTable) → result ≡ lawful_table number law rows → result ≡ Ok table
    → table ≡ record { rows = rows; law = law }
lawful_table-ok number law rows result table e o = by (find (λ k. not (keeps_law_at law rows k)) (range_with_len 0 (top_of rows))) (sym o ∙ e)
  where
    by : (broken : Option ℕ) → Ok table ≡ table_by number (record { rows = rows; law = law }) broken → table ≡ record { rows = rows; law = law }
    by None g = cc
    by (Some k) g = cc
