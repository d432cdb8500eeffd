-- Certificates and their text: a row for each point, and then the verdict. 32-bit numbers alone have a text.
use Rattle.std.specs.Prelude.{ℕ, ◌<◌, ◌≤◌, ◌^◌, All, List, [], ◌∷◌, ◌++◌, codes, length}
use Rattle.std.specs.Fmt.{decimal}
use Rattle.unit_rules.specs.declared.Reach.{Reach}
use Rattle.unit_rules.specs.declared.Reach.TheVariants.{Whole, Stalled}

-- the row of a point at which both numbers are known
abbrev pub full_row : ℕ → ℕ → List ℕ
full_row c e = decimal c ++ codes " " ++ decimal e

-- the row of a point past a stall: a dash stands for the number that isn't known
abbrev pub dashed_row : ℕ → List ℕ
dashed_row c = decimal c ++ codes " -"

-- a row, and the line feed that ends it, for each number of c; the number of e stands beside it while there is one
abbrev pub rows_text : List ℕ → List ℕ → List ℕ
rows_text [] e = []
rows_text (x ∷ c) [] = dashed_row x ++ codes "\n" ++ rows_text c []
rows_text (x ∷ c) (y ∷ e) = full_row x y ++ codes "\n" ++ rows_text c e

-- the line of a verdict: the train gets over the whole line, or not to a point
abbrev pub verdict_line : Reach → List ℕ
verdict_line Whole = codes "whole"
verdict_line (Stalled k) = codes "stalled " ++ decimal k

-- the text of a certificate of these three values
unfoldable pub cert_text : List ℕ → List ℕ → Reach → List ℕ
cert_text c e verdict = rows_text c e ++ verdict_line verdict ++ codes "\n"

-- the three values of a certificate
pub record CertView : Type 0 where
  pub c : List ℕ
  pub e : List ℕ
  pub verdict : Reach

-- a number of 32 bits
abbrev pub Fits32 : ℕ → Type 0
Fits32 n = n < 2 ^ 32

-- the point of a verdict is a number of 32 bits
abbrev pub HasPoint : Reach → Type 0
HasPoint Whole = Unit {0}
HasPoint (Stalled k) = Fits32 k

-- the three values are a certificate: all numbers have 32 bits, and e is no longer than c
pub record IsCert (x : CertView) : Type 0 where
  pub shorter : length x.e ≤ length x.c
  pub braking : All Fits32 x.c
  pub speeds : All Fits32 x.e
  pub point : HasPoint x.verdict

-- the text of a certificate
abbrev pub text_of : CertView → List ℕ
text_of x = cert_text x.c x.e x.verdict
