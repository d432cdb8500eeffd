-- The rows of a text, one after another.
use Rattle.std.proofs.Common.{◌≡◌, ◌+◌, ◌*◌, ◌∙◌, ℕ, ℤ, List, ◌++◌, codes, pos, ◌-ℤ◌, ap, sym, add-one, append_assoc}
use Rattle.std.proofs.lemmas.List.{append-nil}
use Rattle.std.specs.Fmt.{decimal, signed_decimal}
use Rattle.made_cases.specs.Draws.{draw}
use Rattle.made_cases.specs.Files.{gradient_row, rows}

-- no row yet behind the front of a text
pub rows-begin : (row : ℕ → List ℕ) (front text : List ℕ) → text ≡ front → text ≡ front ++ rows row 0
unfolding rows
rows-begin row front text is = is ∙ sym (append-nil front)

-- one row more
pub rows-more : (row : ℕ → List ℕ) (count : ℕ) (front text longer : List ℕ) → text ≡ front ++ rows row count → longer ≡ text ++ row count → longer ≡ front ++ rows row (count + 1)
unfolding rows
rows-more row count front text longer is more =
    rw add-one (more ∙ ap (λ (t : List ℕ). t ++ row count) is ∙ append_assoc front (rows row count) (row count))

pieces : (a b c d e f g : List ℕ) → a ++ b ++ c ++ d ++ e ++ f ++ g ≡ a ++ (b ++ (c ++ (d ++ (e ++ (f ++ g)))))
pieces a b c d e f g = simp append_assoc

-- the row of a gradient as it is written, piece by piece
pub gradient_row-is : (n j : ℕ) (gradient : ℤ) → gradient ≡ pos (draw n j 201) -ℤ pos 100
    → gradient_row n j ≡ codes "gradient," ++ (decimal (1000 * j) ++ (codes "," ++ (decimal (1000 * (j + 1)) ++ (codes "," ++ (signed_decimal gradient ++ codes "\n")))))
gradient_row-is n j gradient is =
    rw (← is) (pieces (codes "gradient,") (decimal (1000 * j)) (codes ",") (decimal (1000 * (j + 1))) (codes ",") (signed_decimal gradient) (codes "\n"))
