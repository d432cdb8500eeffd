-- Bytes written, in one piece after another.
use Rattle.std.proofs.Common.{◌≡◌, ◌≤◌, ◌+◌, ◌-◌, ℕ, List, [], ◌++◌, length, take, drop, Option, Some, None, refl, sym, ap, subst, ◌∙◌, append_assoc, arith, length-append, length-drop}
use Rattle.std.proofs.lemmas.List.{append-nil, drop-drop, length-take, take-append-drop, take-append-le}
use Rattle.std.proofs.lemmas.Grind.{common_steps}
use Rattle.std.proofs.Math.Seq.{take-add, take-append-add}
use Rattle.std.specs.Io.KnownBytes.{Appends}
use Rattle.run_io.specs.Told.{Told, Writes, WritesFront}

pub Appends-nil : (a : Option (List ℕ)) → Appends a a []
Appends-nil None = tt
Appends-nil (Some x) = sym (append-nil x)

pub Appends-trans : (a b c : Option (List ℕ)) (bs cs : List ℕ) → Appends a b bs → Appends b c cs → Appends a c (bs ++ cs)
Appends-trans None b c bs cs p q = tt
Appends-trans (Some x) None c bs cs p q = absurd p
Appends-trans (Some x) (Some y) None bs cs p q = absurd q
Appends-trans (Some x) (Some y) (Some z) bs cs p q = q ∙ ap (λ (l : List ℕ). l ++ cs) p ∙ append_assoc x bs cs

pub Writes-nil : (a : Told (List ℕ)) → Writes a a []
Writes-nil a = Appends-nil a.holds

pub Writes-trans : (a b c : Told (List ℕ)) (bs cs : List ℕ) → Writes a b bs → Writes b c cs → Writes a c (bs ++ cs)
Writes-trans a b c bs cs p q = Appends-trans a.holds b.holds c.holds bs cs p q

-- a front of what was left of a piece, behind the front that was written
pub front_more : (piece : List ℕ) (at n : ℕ) → at ≤ length piece → n ≤ length piece - at
    → take at piece ++ take n (take (length piece - at) (drop at piece)) ≡ take (at + n) piece
front_more piece at n h k =
    let e : take n (take (length piece - at) (drop at piece)) ≡ take n (drop at piece) = grind (arith, common_steps) in
    rw (e, take-add at n piece) refl

pub Writes-more : (a b c : Told (List ℕ)) (piece : List ℕ) (at n : ℕ) → at ≤ length piece → n ≤ length piece - at
    → Writes a b (take at piece) → Writes b c (take n (take (length piece - at) (drop at piece))) → Writes a c (take (at + n) piece)
Writes-more a b c piece at n h k p q = subst (λ (l : List ℕ). Writes a c l) (front_more piece at n h k) (Writes-trans a b c (take at piece) (take n (take (length piece - at) (drop at piece))) p q)

-- what a source gives, and what it has left
pub source_front : (bytes buf copied : List ℕ) (at count : ℕ) → at + count ≤ length bytes → copied ≡ take (at + count - at) (drop at bytes)
    → drop at bytes ≡ take count (copied ++ drop count buf) ++ drop (at + count) bytes
source_front bytes buf copied at count h e =
    let back : at + count - at ≡ count = omega arith in
    let same : copied ≡ take count (drop at bytes) = rw back at e in
    let len : length copied ≡ count = rw same (omega (arith, h, length-take count (drop at bytes), length-drop at bytes)) in
    let front : take count (copied ++ drop count buf) ≡ copied = grind (arith, common_steps, len) in
    rw (front, same, ← drop-drop count at bytes) (sym (take-append-drop count (drop at bytes)))

-- a front of what comes next is a front of the whole
pub WritesFront-after : (a b c : Told (List ℕ)) (xs ys rest all : List ℕ) → Writes a b xs → WritesFront b c ys → all ≡ (xs ++ ys) ++ rest → WritesFront a c all
WritesFront-after a b c xs ys rest all p q e =
    let n = q.0 in
    let len = length-append xs ys in
    let len2 = length-append (xs ++ ys) rest in
    let front : take (length xs + n) ((xs ++ ys) ++ rest) ≡ xs ++ take n ys =
    rw (append_assoc xs ys rest, take-append-add xs (ys ++ rest) n, take-append-le n ys rest q.1) refl in
    (length xs + n, rw e (omega (arith, q.1, len, len2)), rw (e, front) (Writes-trans a b c xs (take n ys) p q.2))

-- nothing is a front of anything
pub WritesFront-none : (a : Told (List ℕ)) (xs : List ℕ) → WritesFront a a xs
WritesFront-none a xs = (0, omega arith, Writes-nil a)
