-- Texts of many lines, put line by line in blocks.
use Rattle.std.proofs.Common.{◌≡◌, ◌≤◌, ◌+◌, ◌-◌, ℕ, zero, suc, List, [], ◌++◌, sym, ap, subst, ◌∙◌, append_assoc, refl, arith, add-one, add-zero}
use Rattle.std.proofs.lemmas.List.{append-nil}
use Rattle.std.proofs.Math.Nat.{add-suc}
use Rattle.run_io.specs.Texts.{lines_below, lines_from}
use Rattle.run_io.specs.Told.{Told, Writes, WritesFront}
use Rattle.run_io.proofs.Written.{Writes-trans, WritesFront-after}

-- the lines below a place are a front of all
lines_below-front : (line : ℕ → List ℕ) (i m : ℕ) → (rest : List ℕ) × (lines_below line (i + m) ≡ lines_below line i ++ rest)
lines_below-front line i zero = ([], rw add-zero (sym (append-nil (lines_below line i))))
lines_below-front line i (suc m) =
    let more = lines_below-front line i m in
    (more.0 ++ line (i + m), rw (add-suc i m) (ap (λ (q : List ℕ). q ++ line (i + m)) more.1 ∙ append_assoc (lines_below line i) more.0 (line (i + m))))

-- lines from a place on, behind those below it
pub lines_below-from : (line : ℕ → List ℕ) (i n : ℕ) → lines_below line (i + n) ≡ lines_below line i ++ lines_from line i n
lines_below-from line i zero = rw add-zero (sym (append-nil (lines_below line i)))
lines_below-from line i (suc n) =
    let rest = lines_below-from line (i + 1) n in
    let next : i + 1 + n ≡ i + suc n = omega arith in
    let one : lines_below line (i + 1) ≡ lines_below line i ++ line i = rw add-one refl in
    rw next at rest ∙ ap (λ (q : List ℕ). q ++ lines_from line (i + 1) n) one ∙ append_assoc (lines_below line i) (line i) (lines_from line (i + 1) n)

-- one line more before them
pub lines_from-before : (line : ℕ → List ℕ) (i n m : ℕ) → m ≡ n + 1 → lines_from line i m ≡ line i ++ lines_from line (i + 1) n
lines_from-before line i n m e =
    let next : m ≡ suc n = omega (arith, e) in
    rw next refl

-- a block of lines written behind those before it
pub Writes-lines : (line : ℕ → List ℕ) (i n : ℕ) (a b c : Told (List ℕ)) → Writes a b (lines_below line i) → Writes b c (lines_from line i n) → Writes a c (lines_below line (i + n))
Writes-lines line i n a b c p q =
    subst (λ (t : List ℕ). Writes a c t) (sym (lines_below-from line i n)) (Writes-trans a b c (lines_below line i) (lines_from line i n) p q)

-- where the sink failed in a block of lines, a front of all lines was written
pub WritesFront-lines : (line : ℕ → List ℕ) (i n count : ℕ) (a b c : Told (List ℕ)) → i + n ≤ count → Writes a b (lines_below line i) → WritesFront b c (lines_from line i n)
    → WritesFront a c (lines_below line count)
WritesFront-lines line i n count a b c h p q =
    let front = lines_below-front line (i + n) (count - (i + n)) in
    let all : i + n + (count - (i + n)) ≡ count = omega (arith, h) in
    WritesFront-after a b c (lines_below line i) (lines_from line i n) front.0 (lines_below line count) p q
    (rw all at front.1 ∙ ap (λ (t : List ℕ). t ++ front.0) (lines_below-from line i n))

-- the same lines under other numbers
pub lines_from-shifted : (f g : ℕ → List ℕ) (a b n : ℕ) → ((k : ℕ) → f (a + k) ≡ g (b + k)) → lines_from f a n ≡ lines_from g b n
lines_from-shifted f g a b zero h = refl
lines_from-shifted f g a b (suc n) h =
    let first : f a ≡ g b = rw (add-zero, add-zero) at (h 0) in
    let later : (k : ℕ) → f ((a + 1) + k) ≡ g ((b + 1) + k) = λ k.
    let one : (a + 1) + k ≡ a + (1 + k) = omega arith in
    let two : (b + 1) + k ≡ b + (1 + k) = omega arith in
    rw (one, two) (h (1 + k)) in
    rw (first, lines_from-shifted f g (a + 1) (b + 1) n later) refl
