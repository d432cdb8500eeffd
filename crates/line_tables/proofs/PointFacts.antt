-- What points by name say.
use Rattle.std.proofs.Common.{◌≡◌, ◌≢◌, ℕ, List, [], ◌∷◌, ◌++◌, None, IfSome, IfNone, arith, All, Contains, Vec, Global, map, refl, sym, ap, ◌∙◌, inl, inr}
use Rattle.std.specs.Map.{lookup}
use Rattle.std.specs.Str.{bytes_eq}
use Rattle.std.proofs.lemmas.Bool.{cases_Bool}
use Rattle.std.proofs.lemmas.Bool.Decides.{not_from_Decides}
use Rattle.std.proofs.lemmas.Option.{IfSome_then}
use Rattle.std.proofs.lemmas.List.{map_push}
use Rattle.std.proofs.lemmas.List.Elements.{All-cons, All-nil, Contains-append_right, Contains-get_or}
use Rattle.std.proofs.lemmas.Slice.Eq.{bytes_eq-Decides}
use Rattle.indexmap.specs.IndexMap.{IndexMap, insert_entry}
use Rattle.indexmap.proofs.CallerLemmas.{insert_entry-new}
use Rattle.unit_rules.proofs.DigitFacts.{none_along}
use Rattle.line_tables.specs.Points.{find_point, point_view}

-- a look-up in the map finds what the list of its points says
pub find_point-lookup : (name : List ℕ) (es : List (Vec ℕ Global × ℕ)) → lookup (λ k. bytes_eq name k.items) es ≡ find_point name (map point_view es)
find_point-lookup name [] = refl
find_point-lookup name (e ∷ es) =
    elim (cases_Bool (bytes_eq name e.0.items)) [
      | inl same ↦ rw same refl
      | inr other ↦ rw other (find_point-lookup name es)
    ]

-- a new name goes last
pub points-insert : {S : Type 0} (m : IndexMap (Vec ℕ Global) ℕ S) (name : Vec ℕ Global) (at : ℕ) → find_point name.items (map point_view m.entries) ≡ None
    → map point_view (insert_entry (λ x y. bytes_eq x.items y.items) m.entries name at) ≡ map point_view m.entries ++ (name.items, at) ∷ []
points-insert m name at fresh =
    let absent : lookup (λ k. bytes_eq name.items k.items) m.entries ≡ None = find_point-lookup name.items m.entries ∙ fresh in
    ap (map point_view) (insert_entry-new (λ (x y : Vec ℕ Global). bytes_eq x.items y.items) m name at absent) ∙ map_push point_view m.entries (name, at)

-- a point that is found is there
pub find_point-there : (name : List ℕ) (ps : List (List ℕ × ℕ)) → IfSome (find_point name ps) (λ at. Contains ps (name, at))
find_point-there name [] = tt
find_point-there name (p ∷ ps) =
    elim (cases_Bool (bytes_eq name p.0)) [
      | inl same ↦ rw same (let e : name ≡ p.0 = (bytes_eq-Decides name p.0).0 same in rw e (Contains-get_or (p ∷ ps) 0 p (omega arith)))
      | inr other ↦ rw other (IfSome_then (find_point name ps) (find_point-there name ps) (λ at there. Contains-append_right (p ∷ []) ps (name, at) there))
    ]

-- where none is found no point has that name
pub find_point-none : (name : List ℕ) (ps : List (List ℕ × ℕ)) → IfNone (find_point name ps) (All (λ p. p.0 ≢ name) ps)
find_point-none name [] = All-nil (λ p. p.0 ≢ name)
find_point-none name (p ∷ ps) =
    elim (cases_Bool (bytes_eq name p.0)) [
      | inl same ↦ rw same tt
      | inr other ↦ rw other (none_along (find_point name ps) _ _ (find_point-none name ps) (λ all. All-cons (λ q. q.0 ≢ name) p ps (λ e. not_from_Decides (bytes_eq name p.0) (bytes_eq-Decides name p.0) other (sym e)) all))
    ]
