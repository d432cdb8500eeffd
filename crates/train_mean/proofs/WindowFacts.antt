-- The slopes of a line, and the sums of their gradients under a train.
use Rattle.std.proofs.Common.{◌≡◌, ◌≤◌, ◌+◌, ◌-◌, ℕ, suc, List, [], ◌∷◌, length, All, ℤ, pos, neg_ℤ, ◌≤ℤ◌, ◌+ℤ◌, ◌-ℤ◌, true, false, Bool, cond, nat_le, nat_lt, ◌&&◌, ap, ◌∙◌, arith, SFits, to_z, of_z}
use Rattle.std.specs.Prelude.{AllPairs}
use Rattle.std.specs.Int.{w32, w64}
use Rattle.std.proofs.lemmas.Int.{ints, to_z-of_z}
use Rattle.std.proofs.lemmas.List.Elements.{All-head, All-tail}
use Rattle.line_tables.specs.Slope.{Follows, SlopeLiesOn}
use Rattle.line_tables.specs.Line.{IsLine, LineView}
use Rattle.line_tables.specs.declared.line.Slope.{Slope}
use Rattle.train_mean.specs.Gradients.{gradient_at, gradients_under, sum_from, tail_cell}
use Rattle.train_mean.specs.Windows.{AreSlopes, Passes, TellsFrom, gradient_left}
use Rattle.train_mean.proofs.GradientFacts.{sum_from-least, sum_from-most, sum_from-moved}
use Rattle.train_mean.proofs.PullFacts.{IsMean}

AllPairs-head : {X : Type 0} (R : X → X → Type 0) (x : X) (xs : List X) → AllPairs R (x ∷ xs) → All (R x) xs
AllPairs-head R x xs h = λ k d l. h 0 (suc k) d (omega arith) (omega arith)

AllPairs-tail : {X : Type 0} (R : X → X → Type 0) (x : X) (xs : List X) → AllPairs R (x ∷ xs) → AllPairs R xs
AllPairs-tail R x xs h = λ i j d l m. h (suc i) (suc j) d (omega arith) (omega arith)

AreSlopes-from : (length : ℕ) (slopes : List Slope) → All (SlopeLiesOn length) slopes → AllPairs Follows slopes → AreSlopes slopes
AreSlopes-from length [] lie follow = tt
AreSlopes-from length (s ∷ rest) lie follow =
    let here = All-head (SlopeLiesOn length) s rest lie in (
      record { rises = here.rises; least = here.least; most = here.most },
      AllPairs-head Follows s rest follow,
      AreSlopes-from length rest (All-tail (SlopeLiesOn length) s rest lie) (AllPairs-tail Follows s rest follow),
    )

-- the slopes of a line are in their order along it
pub AreSlopes-line : (line : LineView) → IsLine line → AreSlopes line.slopes
AreSlopes-line line h = AreSlopes-from line.length line.slopes h.slopes_lie h.slopes_follow

either_most : (b : Bool) (x y : ℤ) → x ≤ℤ pos 1000 → y ≤ℤ pos 1000 → cond b x y ≤ℤ pos 1000
either_most true x y h k = h
either_most false x y h k = k

either_least : (b : Bool) (x y : ℤ) → neg_ℤ (pos 1000) ≤ℤ x → neg_ℤ (pos 1000) ≤ℤ y → neg_ℤ (pos 1000) ≤ℤ cond b x y
either_least true x y h k = h
either_least false x y h k = k

-- no gradient is above 100 per mille either way
pub gradient_at-most : (slopes : List Slope) → AreSlopes slopes → (cell : ℕ) → gradient_at slopes cell ≤ℤ pos 1000
gradient_at-most [] a cell = omega (arith, ints)
gradient_at-most (s ∷ rest) a cell = either_most (nat_le s.from cell && nat_lt cell s.to) s.tenths (gradient_at rest cell) a.0.most (gradient_at-most rest a.2 cell)

pub gradient_at-least : (slopes : List Slope) → AreSlopes slopes → (cell : ℕ) → neg_ℤ (pos 1000) ≤ℤ gradient_at slopes cell
gradient_at-least [] a cell = omega (arith, ints)
gradient_at-least (s ∷ rest) a cell = either_least (nat_le s.from cell && nat_lt cell s.to) s.tenths (gradient_at rest cell) a.0.least (gradient_at-least rest a.2 cell)

-- the sum of the gradients under a train is of at most 1000 tenths a metre
pub IsMean-under : (slopes : List Slope) (train start cell : ℕ) → AreSlopes slopes → cell ≤ start + train → IsMean train (sum_from (gradient_at slopes) start (cell - start))
IsMean-under slopes train start cell a h =
    let least = sum_from-least (gradient_at slopes) start (cell - start) (gradient_at-least slopes a) in
    let most = sum_from-most (gradient_at slopes) start (cell - start) (gradient_at-most slopes a) in
    record { least = omega (arith, ints, least, h); most = omega (arith, ints, most, h) }

-- the sum as the train moves on, by the gradients that its head and its tail see
pub sum-moved : (slopes head head' tail : List Slope) (train cell : ℕ) (sum entered left : ℤ) → sum ≡ sum_from (gradient_at slopes) (cell - train) (cell - (cell - train))
    → TellsFrom cell slopes head → TellsFrom cell head head' → TellsFrom (cell - train) slopes tail → entered ≡ gradient_at head' cell → left ≡ gradient_left tail train cell
    → (sum +ℤ entered) -ℤ left ≡ gradients_under slopes train cell
sum-moved slopes head head' tail train cell sum entered left e f g h m n =
    let first : entered ≡ gradient_at slopes cell = m ∙ g cell (omega arith) ∙ f cell (omega arith) in
    let second : left ≡ gradient_left slopes train cell = n ∙ ap (λ (z : ℤ). cond (nat_le train cell) z (pos 0)) (h (cell - train) (omega arith)) in
    rw (e, first, second) (sum_from-moved (gradient_at slopes) train cell)

-- a gradient that is passed has at most 32 bits
pub SFits-passes : (gradient : ℕ → ℤ) (cell to : ℕ) (tenths : ℤ) → Passes gradient cell to tenths → SFits w32 tenths
SFits-passes gradient cell to tenths p =
    let least = p.least in
    let most = p.most in
    omega (arith, ints, least, most)

-- a number of 64 bits is the sum of the gradients under the train, of at most 1000 tenths a metre
pub record IsSumUnder (slopes : List Slope) (train cell : ℕ) (sum : ℤ) : Type 0 where
  pub value : to_z w64 (of_z w64 sum) ≡ gradients_under slopes train cell
  pub mean : IsMean train (to_z w64 (of_z w64 sum))

-- such is the sum that the code makes of 32-bit gradients
pub IsSumUnder-moved : (slopes head head' tail : List Slope) (train cell : ℕ) (sum entered left result : ℤ) → AreSlopes slopes → train ≤ 5000
    → SFits w32 entered → SFits w32 left → result ≡ (sum +ℤ to_z w32 (of_z w32 entered)) -ℤ to_z w32 (of_z w32 left)
    → sum ≡ sum_from (gradient_at slopes) (cell - train) (cell - (cell - train))
    → TellsFrom cell slopes head → TellsFrom cell head head' → TellsFrom (cell - train) slopes tail → entered ≡ gradient_at head' cell → left ≡ gradient_left tail train cell
    → IsSumUnder slopes train cell result
IsSumUnder-moved slopes head head' tail train cell sum entered left result a t fe fl r e f g h m n =
    let plain : result ≡ (sum +ℤ entered) -ℤ left = simp to_z-of_z at r in
    let value : result ≡ gradients_under slopes train cell = plain ∙ sum-moved slopes head head' tail train cell sum entered left e f g h m n in
    let mean : IsMean train result = rw value (IsMean-under slopes train (tail_cell train cell) (cell + 1) a (omega arith)) in
    let least = mean.least in
    let most = mean.most in
    let fits : SFits w64 result = omega (arith, ints, least, most, t) in
    record { value = simp to_z-of_z value; mean = simp to_z-of_z mean }
