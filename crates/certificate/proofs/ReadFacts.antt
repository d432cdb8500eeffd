-- What bytes read as, by the rules, is what the reader comes to by going through their lines.
use Rattle.std.proofs.Common.{◌≡◌, ◌<◌, ◌≤◌, ◌+◌, ℕ, zero, suc, Bool, true, false, nat_lt, List, [], length, Some, None, Result, Ok, Err, IfOk, refl, sym, ap, ◌∙◌, arith, inl, inr}
use Rattle.std.specs.List.{find, range_with_len, slice_split}
use Rattle.std.proofs.lemmas.Bool.{cases_eq}
use Rattle.std.proofs.lemmas.Bool.Decides.{nat_tests}
use Rattle.unit_rules.specs.Memory.{Gives}
use Rattle.certificate.specs.declared.reading.CertText.{CertText}
use Rattle.certificate.specs.declared.reading.CertText.TheVariants.{Bad, Memory}
use Rattle.certificate.specs.Lines.{is_line_feed, parts_of}
use Rattle.certificate.specs.Reading.{first_bad, read_as_cert, read_parts}
use Rattle.certificate.specs.Rules.{rule_at}
use Rattle.certificate.specs.Texts.{CertView, IsCert, text_of}
use Rattle.certificate.specs.Walk.{read_lines}
use Rattle.certificate.proofs.RuleFacts.{IsFirstBad, KeepsRules, Tells, walked-tells}
use Rattle.certificate.proofs.WalkFacts.{walked, walked-collected, walked-made, walked-text}

-- the first of n numbers from a on that passes a test
find-first : (test : ℕ → Bool) (n a i : ℕ) → a ≤ i → i < a + n → test i ≡ true → ((k : ℕ) → k < i → test k ≡ false) → find test (range_with_len a n) ≡ Some i
find-first test zero a i low high passes before = absurd (omega arith)
find-first test (suc n) a i low high passes before = elim (cases_eq a i) [
  | inl here ↦ rw (here, passes) refl
  | inr other ↦ rw (before a (omega arith)) (find-first test n (a + 1) i (omega arith) (omega arith) passes before)
]

find-none : (test : ℕ → Bool) (n a : ℕ) → ((k : ℕ) → k < a + n → test k ≡ false) → find test (range_with_len a n) ≡ None
find-none test zero a fails = refl
find-none test (suc n) a fails = rw (fails a (omega arith)) (find-none test n (a + 1) (λ k l. fails k (omega arith)))

no_rule : (rule : ℕ) → rule ≡ 0 → nat_lt 0 rule ≡ false
no_rule rule none = grind (arith, nat_tests)

some_rule : (rule : ℕ) → 1 ≤ rule → nat_lt 0 rule ≡ true
some_rule rule some = grind (arith, nat_tests)

-- which part is the first that breaks a rule
first_bad-none : (parts : List (List ℕ)) → KeepsRules parts → first_bad parts ≡ None
first_bad-none parts keeps = find-none (λ i. nat_lt 0 (rule_at parts i)) (length parts) 0 (λ k l. no_rule (rule_at parts k) (keeps k (omega arith)))

first_bad-some : (parts : List (List ℕ)) (i rule : ℕ) → IsFirstBad parts i rule → first_bad parts ≡ Some i
first_bad-some parts i rule bad =
    let is = bad.broken in
    find-first (λ j. nat_lt 0 (rule_at parts j)) (length parts) 0 i (omega arith) (omega (arith, bad.within)) (some_rule (rule_at parts i) (omega (arith, is, bad.is_rule)))
    (λ k l. no_rule (rule_at parts k) (bad.first k l))

-- so the rules give what the reader comes to
pub read_as_cert-walked : (bytes : List ℕ) → read_as_cert bytes ≡ walked bytes
unfolding read_as_cert
read_as_cert-walked bytes = by (walked bytes) refl (walked-tells bytes)
  where
    by : (result : Result CertView CertText) → walked bytes ≡ result → Tells (parts_of bytes) result → read_parts (parts_of bytes) (first_bad (parts_of bytes)) ≡ result
    by (Ok x) is keeps = rw (first_bad-none (parts_of bytes) keeps) (ap (λ (y : CertView). Ok y) (sym (walked-collected bytes x is)))
    by (Err (Bad place rule)) is bad = rw (first_bad-some (parts_of bytes) bad.0 rule bad.2, bad.1, bad.2.broken) refl
    by (Err Memory) is none = absurd none

pub read_as_cert-begins : (bytes : List ℕ) → read_lines (record { c = []; e = [] }) (slice_split is_line_feed bytes) ≡ read_as_cert bytes
unfolding walked
read_as_cert-begins bytes = sym (read_as_cert-walked bytes)

-- the text of a certificate reads as it
pub read_as_cert-text : (x : CertView) → IsCert x → read_as_cert (text_of x) ≡ Ok x
read_as_cert-text x is = read_as_cert-walked (text_of x) ∙ walked-text x is

-- what reads as a certificate is its text
pub read_as_cert-made : (bytes : List ℕ) (x : CertView) → read_as_cert bytes ≡ Ok x → IsCert x × (bytes ≡ text_of x)
read_as_cert-made bytes x e = walked-made bytes x (sym (read_as_cert-walked bytes) ∙ e)

-- the same of what a call gives, where want of memory is free
Gives-made : (bytes : List ℕ) (x : CertView) → Gives (Err Memory) (read_as_cert bytes) (Ok x) → IsCert x × (bytes ≡ text_of x)
Gives-made bytes x (inl wanting) = cc wanting
Gives-made bytes x (inr same) = read_as_cert-made bytes x (sym same)

pub IfOk-text : (bytes : List ℕ) (result : Result CertView CertText) → Gives (Err Memory) (read_as_cert bytes) result → IfOk result (λ x. bytes ≡ text_of x)
IfOk-text bytes (Ok x) given = (Gives-made bytes x given).1
IfOk-text bytes (Err bad) given = tt

pub IfOk-values : (bytes : List ℕ) (result : Result CertView CertText) → Gives (Err Memory) (read_as_cert bytes) result → IfOk result IsCert
IfOk-values bytes (Ok x) given = (Gives-made bytes x given).0
IfOk-values bytes (Err bad) given = tt

pub Gives-text : (bytes : List ℕ) (result : Result CertView CertText) (x : CertView) → Gives (Err Memory) (read_as_cert bytes) result → IsCert x → bytes ≡ text_of x
    → Gives (Err Memory) (Ok x) result
Gives-text bytes result x given is same = rw (same, read_as_cert-text x is) at given
