-- An ID in the front of forty zeros.
use Rattle.std.proofs.Common.{◌≡◌, ◌-◌, ◌≤◌, List, [], ◌∷◌, ◌++◌, ℕ, true, arith, drop, length, length-append, refl, replicate, ap, ◌∙◌}
use Rattle.std.proofs.lemmas.Bool.{and_parts, leb-true}
use Rattle.std.proofs.lemmas.List.{drop-replicate, drop_at, length-replicate, take_at}
use Rattle.restrictions.specs.Ids.{is_id}
use Rattle.restrictions.specs.Padded.{IsPadded}

padded_with : (text zeros : List ℕ) → is_id text ≡ true → length text ≤ 40 → zeros ≡ replicate (40 - length text) 0 → IsPadded (record { room = text ++ zeros; size = length text })
padded_with text zeros spelled short e =
    let long : length zeros ≡ 40 - length text = ap (λ (bs : List ℕ). length bs) e ∙ length-replicate (40 - length text) 0 in
    record {
      whole = omega (arith, length-append text zeros);
      fits = short;
      zeros = drop_at text zeros (length text) refl ∙ e;
      spelled = ap is_id (take_at text zeros (length text) refl) ∙ spelled;
    }

pub padded-of : (front text : List ℕ) → front ≡ text → is_id text ≡ true → IsPadded (record { room = front ++ drop {A = ℕ} (length text) (0 ∷ 0 ∷ 0 ∷ 0 ∷ 0 ∷ 0 ∷ 0 ∷ 0 ∷ 0 ∷ 0 ∷ 0 ∷ 0 ∷ 0 ∷ 0 ∷ 0 ∷ 0 ∷ 0 ∷ 0 ∷ 0 ∷ 0 ∷ 0 ∷ 0 ∷ 0 ∷ 0 ∷ 0 ∷ 0 ∷ 0 ∷ 0 ∷ 0 ∷ 0 ∷ 0 ∷ 0 ∷ 0 ∷ 0 ∷ 0 ∷ 0 ∷ 0 ∷ 0 ∷ 0 ∷ 0 ∷ []); size = length text })
padded-of front text e spelled =
    let short : length text ≤ 40 = leb-true _ _ (and_parts _ _ (and_parts _ _ spelled).0).1 in
    rw e (padded_with text _ spelled short (drop-replicate (length text) 40 0))
