-- Under the same caps there is one certificate.
use Rattle.std.proofs.Common.{◌≡◌, ℕ, List, length, slice_index, take, ap, arith, refl, sym, ◌∙◌}
use Rattle.std.proofs.lemmas.List.{ext_get_or, get_or-take, take_all}
use Rattle.unit_rules.specs.declared.Reach.{Reach}
use Rattle.unit_rules.specs.declared.Reach.TheVariants.{Whole, Stalled}
use Rattle.run_rules.specs.Runs.{AtMost, IsBrakingList, IsEnvelopeTo, ReachesAs, StepRule}
use Rattle.run_rules.specs.Walks.{count_of}
use Rattle.run_rules.proofs.RunFacts.{runs_or_stalls, stalls_once}
use Rattle.cert_check.specs.Laws.{CertifiedAreRight, CertifiedOnce, IsCertificateOf}
use Rattle.cert_check.specs.Rules.{IsCertified}
use Rattle.cert_check.proofs.CompleteFacts.{IsRightByPoints-certificate}
use Rattle.cert_check.proofs.RuleFacts.{IsCapped, IsCertified-right, IsRightByPoints-certified}
use Rattle.cert_check.proofs.SoundFacts.{IsCertificateOf-right}

-- lists of which neither is above the other
same_most : (a b : List ℕ) (n : ℕ) → length a ≡ n → length b ≡ n → AtMost a b n → AtMost b a n → a ≡ b
same_most a b n long other most least = ext_get_or 0 a b (long ∙ sym other) (λ i l. let up = most i (omega arith) in let down = least i (omega arith) in omega arith)

pub brakes_once : (rule : StepRule) (x c d : List ℕ) → IsBrakingList rule x c → IsBrakingList rule x d → c ≡ d
brakes_once rule x c d list other = same_most c d (length x) list.keeps.same_points other.keeps.same_points (other.greatest c list.keeps) (list.greatest d other.keeps)

-- the numbers of an envelope are those of a list that keeps the rule so far
at_most_envelope : (rule : StepRule) (x e f : List ℕ) (k : ℕ) → IsEnvelopeTo rule x e k → IsEnvelopeTo rule x f k → AtMost e f k
at_most_envelope rule x e f k one other i l =
    let q = one.starts.0 in
    let at_q : slice_index e i ≡ slice_index q i = ap (λ xs. slice_index xs i) (sym one.starts.1) ∙ get_or-take k q i 0 l in
    let most = other.greatest q one.starts.2 i l in
    omega arith

envelope_once : (rule : StepRule) (x e f : List ℕ) (k : ℕ) → length e ≡ k → length f ≡ k → IsEnvelopeTo rule x (take k e) k → IsEnvelopeTo rule x (take k f) k → e ≡ f
envelope_once rule x e f k long other one two =
    let all = take_all k e (omega arith) in
    let all_other = take_all k f (omega arith) in
    let first : IsEnvelopeTo rule x e k = rw all at one in
    let second : IsEnvelopeTo rule x f k = rw all_other at two in
    same_most e f k long other (at_most_envelope rule x e f k first second) (at_most_envelope rule x f e k second first)

pub reaches_once : (rule : StepRule) (x e f : List ℕ) (verdict other : Reach) → ReachesAs rule x e verdict → length e ≡ count_of (length x) verdict
    → ReachesAs rule x f other → length f ≡ count_of (length x) other → (e ≡ f) × (verdict ≡ other)
reaches_once rule x e f Whole Whole one long two other_long = (same_most e f (length x) long other_long (two.greatest e one.run) (one.greatest f two.run), refl)
reaches_once rule x e f Whole (Stalled k) one long two other_long = absurd (runs_or_stalls rule x e k one.run two.0)
reaches_once rule x e f (Stalled k) Whole one long two other_long = absurd (runs_or_stalls rule x f k two.run one.0)
reaches_once rule x e f (Stalled j) (Stalled k) one long two other_long =
    let same = stalls_once rule x j k one.0 two.0 in
    (envelope_once rule x e f j long (other_long ∙ sym same) one.1 (rw (← same) at two.1), ap (λ n. Stalled n) same)

pub certified_right : (rule : StepRule) (x c e : List ℕ) (verdict : Reach) (top : ℕ) → IsCapped rule x top → IsCertified rule x c e verdict → IsCertificateOf rule x c e verdict
certified_right rule x c e verdict top caps certified = IsCertificateOf-right rule x c e verdict top caps (IsRightByPoints-certified rule x c e verdict top caps certified)

pub right_certified : (rule : StepRule) (x c e : List ℕ) (verdict : Reach) (top : ℕ) → IsCapped rule x top → IsCertificateOf rule x c e verdict → IsCertified rule x c e verdict
right_certified rule x c e verdict top caps cert = IsCertified-right rule x c e verdict (IsRightByPoints-certificate rule x c e verdict top caps cert)

pub certified_are_right : CertifiedAreRight
certified_are_right rule x c e verdict top mono small some =
    let caps : IsCapped rule x top = record { mono = mono; small = small; some = some } in
    (certified_right rule x c e verdict top caps, right_certified rule x c e verdict top caps)

pub certified_once : CertifiedOnce
certified_once rule x c e d f verdict other top mono small some one two =
    let caps : IsCapped rule x top = record { mono = mono; small = small; some = some } in
    let first = certified_right rule x c e verdict top caps one in
    let second = certified_right rule x d f other top caps two in
    let both = reaches_once rule x e f verdict other first.reaches first.long second.reaches second.long in
    (brakes_once rule x c d first.brakes second.brakes, both.0, both.1)
