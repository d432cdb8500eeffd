-- The replies to lines, one after another.
use Rattle.std.proofs.Common.{◌≡◌, ◌≤◌, ◌+◌, ◌-◌, ℕ, List, [], ◌∷◌, ◌++◌, length, take, refl, sym, ap, subst, ◌∙◌, ◌==◌, Bool, true, false, cond, arith, inl, inr, append_assoc, length-append, length-take, Result, Ok, Err}
use Rattle.std.specs.Prelude.{slice_index}
use Rattle.std.specs.Str.Lines.{strip_carriage_return}
use Rattle.std.proofs.lemmas.Bool.{cases_lt}
use Rattle.std.proofs.lemmas.List.{append-nil, take-append-le, take_all}
use Rattle.run_io.specs.Told.{Rose, Told, Writes, WritesFront}
use Rattle.run_io.proofs.Written.{Writes-trans, WritesFront-after}
use Rattle.session_lines.specs.Dialogues.{Allows, Dialogue, IsLawful, Replies, WantsMemory, after, after_line}
use Rattle.session_lines.specs.Feeding.{Answers, AnswersBy, kept_bytes}
use Rattle.session_lines.specs.Sessions.{Responds, RespondsBy}
use Rattle.session_lines.specs.declared.Stop.{Stop}
use Rattle.session_lines.specs.declared.Stop.TheVariants.{Write, Memory}

pub WritesFront-more : (old new : Told (List ℕ)) (t u : List ℕ) → WritesFront old new t → WritesFront old new (t ++ u)
WritesFront-more old new t u w = (w.0, omega (arith, w.1, length-append t u), rw (take-append-le w.0 t u w.1) w.2)

-- a count that rose later has risen
pub Rose-after : (old mid new : Told (List ℕ)) → old.faults ≤ mid.faults → Rose mid new → Rose old new
Rose-after old mid new later rose = omega (arith, later, rose)

-- a line loses one byte at most
strip-length : (line : List ℕ) → length line ≤ length (strip_carriage_return line) + 1
strip-length line = by (slice_index line (length line - 1) == 13)
  where
    by : (b : Bool) → length line ≤ length (cond b (take (length line - 1) line) line) + 1
    by true = omega (arith, length-take (length line - 1) line)
    by false = omega arith

module _ {S A : Type 0} (d : Dialogue S A) where
  pub after-append : (s : S) (xs ys : List (List ℕ)) → after d s (xs ++ ys) ≡ after d (after d s xs) ys
  after-append s [] ys = refl
  after-append s (x ∷ xs) ys = after-append (after_line d s x) xs ys

  pub replies-append : (s : S) (xs ys : List (List ℕ)) (t u : List ℕ) → Replies d s xs t → Replies d (after d s xs) ys u → Replies d s (xs ++ ys) (t ++ u)
  replies-append s [] ys t u p q = rw p q
  replies-append s (x ∷ xs) ys t u p q =
      (p.0, p.1, (p.2.0 ++ u, replies-append (after_line d s x) xs ys p.2.0 u p.2.1 q, ap (λ (k : List ℕ). k ++ u) p.2.2 ∙ append_assoc p.0 p.2.0 u))

  pub allows-append : (s : S) (xs ys : List (List ℕ)) (m n : ℕ) → Allows d s xs m → Allows d (after d s xs) ys n → Allows d s (xs ++ ys) (m + n)
  allows-append s [] ys m n p q = subst (Allows d s ys) (let e : n ≡ m + n = omega (arith, p) in e) q
  allows-append s (x ∷ xs) ys m n p q = (p.0, p.1, (p.2.0 + n, allows-append (after_line d s x) xs ys p.2.0 n p.2.1 q, omega (arith, p.2.2)))

  pub replies_one : (s : S) (x t : List ℕ) → d.replies s (d.asked s x) t → Replies d s (x ∷ []) t
  replies_one s x t p = (t, p, ([], refl, sym (append-nil t)))

  pub allows_one : (s : S) (x : List ℕ) (n : ℕ) → d.allows s (d.asked s x) n → Allows d s (x ∷ []) n
  allows_one s x n p = (n, p, (0, refl, omega arith))

  pub wants-more : (s : S) (xs ys : List (List ℕ)) (t : List ℕ) → WantsMemory d s xs t → WantsMemory d s (xs ++ ys) t
  wants-more s xs ys t w = record {
    before = w.before;
    line = w.line;
    later = w.later ++ ys;
    parts = ap (λ (k : List (List ℕ)). k ++ ys) w.parts ∙ append_assoc w.before (w.line ∷ w.later) ys;
    wants = w.wants;
    replies = w.replies;
  }

  module _ (law : S → Type 0) (lawful : IsLawful d law) where
    pub stays-after : (s : S) (xs : List (List ℕ)) → law s → law (after d s xs)
    stays-after s [] p = p
    stays-after s (x ∷ xs) p = stays-after (after_line d s x) xs (lawful.stays s x p)

    pub have_replies : (s : S) (xs : List (List ℕ)) → law s → (t : List ℕ) × Replies d s xs t
    have_replies s [] p = ([], refl)
    have_replies s (x ∷ xs) p =
        let one = lawful.replied s x p in
        let more = have_replies (after_line d s x) xs (lawful.stays s x p) in
        (one.0 ++ more.0, (one.0, one.1, (more.0, more.1, refl)))

    pub have_costs : (s : S) (xs : List (List ℕ)) → law s → (n : ℕ) × Allows d s xs n
    have_costs s [] p = (0, refl)
    have_costs s (x ∷ xs) p =
        let one = lawful.allowed s x p in
        let more = have_costs (after_line d s x) xs (lawful.stays s x p) in
        (one.0 + more.0, (one.0, one.1, (more.0, more.1, refl)))

    -- what was written is a front of the replies to more lines too
    pub front-more : (s : S) (xs ys : List (List ℕ)) (old new : Told (List ℕ)) → law s → ((t : List ℕ) × Replies d s xs t × WritesFront old new t)
        → (t : List ℕ) × Replies d s (xs ++ ys) t × WritesFront old new t
    front-more s xs ys old new p w =
        let more = have_replies (after d s xs) ys (stays-after s xs p) in
        (w.0 ++ more.0, replies-append s xs ys w.0 more.0 w.1 more.1, WritesFront-more old new w.0 more.0 w.2)

    -- as many steps are allowed for more lines
    pub allowed-more : (s : S) (xs ys : List (List ℕ)) (n : ℕ) → law s → Allows d s xs n → (m : ℕ) × Allows d s (xs ++ ys) m × (n ≤ m)
    allowed-more s xs ys n p a =
        let more = have_costs (after d s xs) ys (stays-after s xs p) in
        (n + more.0, allows-append s xs ys n more.0 a more.1, omega arith)

    -- the same came of more lines, where an answer was stopped
    pub answers-more : (s : S) (out : Told (List ℕ)) (before : ℕ) (xs ys : List (List ℕ)) (new : Told (List ℕ)) (now : ℕ) (stop : Stop) → law s
        → Answers d s out before xs new now (Err stop) → Answers d s out before (xs ++ ys) new now (Err stop)
    answers-more s out before xs ys new now stop p a =
        let more = allowed-more s xs ys a.cost p a.allowed in
        record {
          later = a.later;
          cost = more.0;
          allowed = more.1;
          within = omega (arith, a.within, more.2);
          outcome = by stop a.outcome;
        }
      where
        by : (stop : Stop) → AnswersBy d s out before xs new (Err stop) → AnswersBy d s out before (xs ++ ys) new (Err stop)
        by Write o = (o.0, front-more s xs ys out new p o.1)
        by Memory o = (o.0, wants-more s xs ys o.0 o.1, o.2)

    -- a line of which the first bytes are kept asks for the same as they do
    pub asked-kept : (s : S) (line : List ℕ) → d.asked s (strip_carriage_return (take kept_bytes line)) ≡ d.asked s (strip_carriage_return line)
    asked-kept s line =
        elim (cases_lt kept_bytes (length line)) [
          | inl long ↦ lawful.alike s (strip_carriage_return (take kept_bytes line)) (strip_carriage_return line)
              (omega (arith, long, strip-length (take kept_bytes line), length-take kept_bytes line)) (omega (arith, long, strip-length line))
          | inr short ↦ ap (λ (t : List ℕ). d.asked s (strip_carriage_return t)) (take_all kept_bytes line short)
        ]

  -- what was done for a line is done for another that asks for the same
  pub responds-alike : (s s' : S) (a b : List ℕ) (old new : Told (List ℕ)) (before now : ℕ) (result : Result (Unit {0}) Stop) → d.asked s a ≡ d.asked s b
      → Responds d s s' a old new before now result → Responds d s s' b old new before now result
  responds-alike s s' a b old new before now result e r = record {
    later = r.later;
    cost = r.cost;
    allowed = subst (λ (q : A). d.allows s q r.cost) e r.allowed;
    within = r.within;
    outcome = subst (λ (q : A). RespondsBy d s s' q old new result) e r.outcome;
  }

  -- a line more
  pub answers-one : (s s' : S) (out : Told (List ℕ)) (before : ℕ) (lines : List (List ℕ)) (line : List ℕ) (mid new : Told (List ℕ)) (now then : ℕ) (result : Result (Unit {0}) Stop)
      → Answers d s out before lines mid now (Ok tt) → Responds d (after d s lines) s' line mid new now then result → Answers d s out before (lines ++ line ∷ []) new then result
  answers-one s s' out before lines line mid new now then result a r = record {
    later = omega (arith, a.later, r.later);
    cost = a.cost + r.cost;
    allowed = allows-append s lines (line ∷ []) a.cost r.cost a.allowed (allows_one (after d s lines) line r.cost r.allowed);
    within = omega (arith, a.within, r.within);
    outcome = by result r.outcome;
  }
    where
      t : List ℕ
      t = a.outcome.0

      by : (result : Result (Unit {0}) Stop) → RespondsBy d (after d s lines) s' (d.asked (after d s lines) line) mid new result → AnswersBy d s out before (lines ++ line ∷ []) new result
      by (Ok u) o = (
        t ++ o.1.0,
        replies-append s lines (line ∷ []) t o.1.0 a.outcome.1 (replies_one (after d s lines) line o.1.0 o.1.1),
        Writes-trans out mid new t o.1.0 a.outcome.2 o.1.2,
      )
      by (Err Write) o = (
        Rose-after out mid new a.later o.0,
        (
          t ++ o.1.0,
          replies-append s lines (line ∷ []) t o.1.0 a.outcome.1 (replies_one (after d s lines) line o.1.0 o.1.1),
          WritesFront-after out mid new t o.1.0 [] (t ++ o.1.0) a.outcome.2 o.1.2 (sym (append-nil (t ++ o.1.0))),
        ),
      )
      by (Err Memory) o = (
        t,
        record { before = lines; line = line; later = []; parts = refl; wants = o.0; replies = a.outcome.1 },
        subst (λ (k : List ℕ). Writes out new k) (append-nil t) (Writes-trans out mid new t [] a.outcome.2 o.1),
      )
