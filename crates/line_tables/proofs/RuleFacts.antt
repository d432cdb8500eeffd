-- What a `gradient` record gives and breaks, by the numbers of its fields.
use Rattle.std.proofs.Common.{◌≡◌, ◌≤◌, ℕ, List, Bool, true, false, cond, not, ◌&&◌, nat_lt, nat_le, length, Some, None, ℤ, pos, negsuc, neg_ℤ, refl, arith}
use Rattle.std.specs.Option.{is_some}
use Rattle.std.proofs.lemmas.Bool.Decides.{nat_tests}
use Rattle.unit_rules.specs.Numeral.{number_in, signed_within, whole_of, within}
use Rattle.record_rules.specs.Records.{Record, field}
use Rattle.record_rules.specs.Rules.{out_of_order}
use Rattle.line_tables.specs.Draft.{DraftView}
use Rattle.line_tables.specs.LineFile.{gradient_rule, last_position, slopes_end}

-- a number up to the last position is one up to the greatest
pub number_in-wider : (last most : ℕ) (text : List ℕ) (z : ℤ) (n : ℕ) → last ≤ most → Some z ≡ whole_of text → Some n ≡ within 0 last z → Some n ≡ number_in 0 most text
number_in-wider last most text (negsuc m) n fits e f = cc f
number_in-wider last most text (pos m) n fits e f = rw (← e) (by (nat_le 0 m && nat_le m last) refl f)
  where
    by : (b : Bool) → (nat_le 0 m && nat_le m last) ≡ b → Some n ≡ cond b (Some m) None → Some n ≡ within 0 most (pos m)
    by true t g =
        let within_most : (nat_le 0 m && nat_le m most) ≡ true = grind (arith, nat_tests, t) in
        rw within_most g
    by false t g = cc g

-- what may come next begins no earlier than the end before it
pub from_order : (there : Bool) (a b end : ℕ) → (there && (nat_lt a b && not (nat_lt a end))) ≡ true → end ≤ a
from_order there a b end t = grind (arith, nat_tests, t)

-- a `gradient` record whose numbers are in range breaks no rule but that of order
pub gradient_rule-numbers : (d : DraftView) (r : Record) (x y z : ℤ) (a b : ℕ) (t : ℤ) (o : Bool) → length r ≡ 4 → Some x ≡ whole_of (field r 1) → Some y ≡ whole_of (field r 2) → Some z ≡ whole_of (field r 3)
    → last_position d ≤ 500000 → Some a ≡ within 0 (last_position d) x → Some b ≡ within 0 (last_position d) y → Some t ≡ signed_within (neg_ℤ (pos 1000)) (pos 1000) z
    → (is_some d.line && (nat_lt a b && not (nat_lt a (slopes_end d)))) ≡ o → gradient_rule d r ≡ cond (not o) (Some out_of_order) None
gradient_rule-numbers d r x y z a b t o len wx wy wz most ia ib it order =
    let na = number_in-wider (last_position d) 500000 (field r 1) x a most wx ia in
    let nb = number_in-wider (last_position d) 500000 (field r 2) y b most wy ib in
    rw (len, ← na, ← nb, ← wx, ← wy, ← wz, ← ia, ← ib, ← it, order) refl
