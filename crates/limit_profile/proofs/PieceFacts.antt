-- Pieces of two functions, met to pieces of the lesser of both.
use Rattle.std.proofs.Common.{◌≡◌, ◌≤◌, ◌<◌, ◌+◌, ◌==◌, ◌⊎◌, inl, inr, ℕ, List, [], ◌∷◌, ◌++◌, Bool, true, false, cond, min, length, drop, get_or, arith, refl, sym, ap, subst, ◌∙◌}
use Rattle.std.proofs.lemmas.Bool.{eqb-true}
use Rattle.std.proofs.lemmas.List.{drop_more}
use Rattle.limit_profile.specs.declared.pieces.Piece.{Piece}
use Rattle.limit_profile.specs.Pieces.{ArePieces, IsPiece}

-- a piece more at the end
pub ArePieces-more : (f : ℕ → ℕ) (from : ℕ) (pieces : List Piece) (to : ℕ) (piece : Piece) → ArePieces f from pieces to → IsPiece f to piece → ArePieces f from (pieces ++ piece ∷ []) piece.until
ArePieces-more f from [] to piece h last = (rw h last, refl)
ArePieces-more f from (p ∷ ps) to piece h last = (h.0, ArePieces-more f p.until ps to piece h.1 last)

-- a piece from a later point on
pub IsPiece-later : (f : ℕ → ℕ) (from later : ℕ) (piece : Piece) → from ≤ later → later ≤ piece.until → IsPiece f from piece → IsPiece f later piece
IsPiece-later f from later piece l m h = record { ordered = m; same = λ i a b. h.same i (omega arith) b }

-- what of a piece lies below a point, as a piece of a function that is the same up to there
pub IsPiece-cut : (f g : ℕ → ℕ) (from until : ℕ) (piece cut : Piece) → IsPiece f from piece → from ≤ until → ((i : ℕ) → from ≤ i → i < until → g i ≡ f i)
    → cut.until ≡ min piece.until until → cut.most ≡ piece.most → IsPiece g from cut
IsPiece-cut f g from until piece cut h l same end most = record {
  ordered = omega (arith, h.ordered);
  same = λ i a b. same i a (omega arith) ∙ h.same i a (omega arith) ∙ sym most;
}

-- the lesser of two functions, as long as both have their pieces
pub IsPiece-lesser : (f g h : ℕ → ℕ) (from : ℕ) (one other piece : Piece) → ((i : ℕ) → h i ≡ min (f i) (g i)) → IsPiece f from one → IsPiece g from other
    → piece.until ≡ min one.until other.until → piece.most ≡ min one.most other.most → IsPiece h from piece
IsPiece-lesser f g h from one other piece is a b until most = record {
  ordered = omega (arith, a.ordered, b.ordered);
  same = λ i l k. rw (is i, a.same i l (omega arith), b.same i l (omega arith), most) refl;
}

-- what is left of pieces from a point on that lies in the first of them
past : ℕ → Piece → List Piece → List Piece
past until p ps = cond (p.until == until) ps (p ∷ ps)

left_by : (f : ℕ → ℕ) (from until to : ℕ) (p : Piece) (ps : List Piece) (b : Bool) → (p.until == until) ≡ b → ArePieces f from (p ∷ ps) to → from ≤ until → until ≤ p.until → ArePieces f until (cond b ps (p ∷ ps)) to
left_by f from until to p ps true e h l m = let same : p.until ≡ until = eqb-true p.until until e in subst (λ k. ArePieces f k ps to) same h.1
left_by f from until to p ps false e h l m = (record { ordered = m; same = λ i a b. h.0.same i (omega arith) b }, h.1)

ArePieces-past : (f : ℕ → ℕ) (from until to : ℕ) (p : Piece) (ps : List Piece) → ArePieces f from (p ∷ ps) to → from ≤ until → until ≤ p.until → ArePieces f until (past until p ps) to
unfolding past
ArePieces-past f from until to p ps h l m = left_by f from until to p ps (p.until == until) refl h l m

-- what is left of a list after none or one of its elements more
dropped_by : (ps : List Piece) (i : ℕ) (d : Piece) (b : Bool) → i < length ps → drop (i + cond b 1 0) ps ≡ cond b (drop (i + 1) ps) (get_or ps i d ∷ drop (i + 1) ps)
dropped_by ps i d true l = refl
dropped_by ps i d false l = let e : i + 0 ≡ i = omega arith in rw e (drop_more ps i d l)

pub one_at_most : (b : Bool) → cond b 1 0 ≤ 1
one_at_most true = omega arith
one_at_most false = omega arith

-- pieces of two functions that are met up to a point, and what is left of them
pub record Meets (f g h : ℕ → ℕ) (xs ys zs : List Piece) (to : ℕ) : Type 0 where
  pub from : ℕ
  pub left : ArePieces f from xs to
  pub right : ArePieces g from ys to
  pub met : ArePieces h 0 zs from

met_more : (f g h : ℕ → ℕ) (xs ys met : List Piece) (x y : Piece) (to : ℕ) → ((i : ℕ) → h i ≡ min (f i) (g i)) → Meets f g h (x ∷ xs) (y ∷ ys) met to
    → Meets f g h (past (min x.until y.until) x xs) (past (min x.until y.until) y ys) (met ++ record { until = min x.until y.until; most = min x.most y.most } ∷ []) to
met_more f g h xs ys met x y to is m =
    let a : m.from ≤ x.until = m.left.0.ordered in
    let b : m.from ≤ y.until = m.right.0.ordered in
    let last : Piece = record { until = min x.until y.until; most = min x.most y.most } in
    record {
      from = min x.until y.until;
      left = ArePieces-past f m.from (min x.until y.until) to x xs m.left (omega arith) (omega arith);
      right = ArePieces-past g m.from (min x.until y.until) to y ys m.right (omega arith) (omega arith);
      met = ArePieces-more h 0 met m.from (record { until = min x.until y.until; most = min x.most y.most }) m.met (record {
        ordered = omega arith;
        same = λ i l k. rw (is i, m.left.0.same i l (omega arith), m.right.0.same i l (omega arith)) refl;
      });
    }

-- one piece more is met, up to the nearer end of the next two
pub Meets-more : (f g h : ℕ → ℕ) (ps qs met : List Piece) (i j : ℕ) (d : Piece) (x y : Piece) (to : ℕ) → ((n : ℕ) → h n ≡ min (f n) (g n)) → i < length ps → j < length qs → x ≡ get_or ps i d → y ≡ get_or qs j d
    → Meets f g h (drop i ps) (drop j qs) met to
    → Meets f g h (drop (i + cond (x.until == min x.until y.until) 1 0) ps) (drop (j + cond (y.until == min x.until y.until) 1 0) qs) (met ++ record { until = min x.until y.until; most = min x.most y.most } ∷ []) to
unfolding past
Meets-more f g h ps qs met i j d x y to is l k e n m =
    let left : drop i ps ≡ x ∷ drop (i + 1) ps = rw e (drop_more ps i d l) in
    let right : drop j qs ≡ y ∷ drop (j + 1) qs = rw n (drop_more qs j d k) in
    let left_on : drop (i + cond (x.until == min x.until y.until) 1 0) ps ≡ cond (x.until == min x.until y.until) (drop (i + 1) ps) (x ∷ drop (i + 1) ps) = dropped_by ps i d (x.until == min x.until y.until) l ∙ ap (λ z. cond (x.until == min x.until y.until) (drop (i + 1) ps) (z ∷ drop (i + 1) ps)) (sym e) in
    let right_on : drop (j + cond (y.until == min x.until y.until) 1 0) qs ≡ cond (y.until == min x.until y.until) (drop (j + 1) qs) (y ∷ drop (j + 1) qs) = dropped_by qs j d (y.until == min x.until y.until) k ∙ ap (λ z. cond (y.until == min x.until y.until) (drop (j + 1) qs) (z ∷ drop (j + 1) qs)) (sym n) in
    rw (left_on, right_on) (met_more f g h (drop (i + 1) ps) (drop (j + 1) qs) met x y to is (rw (left, right) at m))

-- where nothing is left of one of the two, all is met
pub Meets-all : (f g h : ℕ → ℕ) (ps qs met : List Piece) (to : ℕ) → (ps ≡ []) ⊎ (qs ≡ []) → Meets f g h ps qs met to → ArePieces h 0 met to
Meets-all f g h ps qs met to none m = elim none [
  | inl e ↦ let done : m.from ≡ to = rw e at m.left in subst (λ k. ArePieces h 0 met k) done m.met
  | inr e ↦ let done : m.from ≡ to = rw e at m.right in subst (λ k. ArePieces h 0 met k) done m.met
]
