-- What keeps a line in its ranges and orders while its records are read.
use Rattle.std.proofs.Common.{◌≡◌, ◌≤◌, ℕ, List, [], ◌∷◌, ◌++◌, Bool, true, false, cond, Option, Some, None, IsSome, IfSome, refl, sym, ◌∙◌, arith}
use Rattle.std.specs.Prelude.{AllPairs, option_map, unwrap_or}
use Rattle.std.proofs.lemmas.List.Elements.{All-nil, All-push}
use Rattle.std.proofs.lemmas.List.Quantifiers.{all_pairs_push}
use Rattle.unit_rules.specs.declared.Zone.{Zone}
use Rattle.unit_rules.specs.Zone.{LiesOn}
use Rattle.record_rules.proofs.OrderFacts.{AllPairs-push_last}
use Rattle.line_tables.specs.declared.line.Slope.{Slope}
use Rattle.line_tables.specs.Draft.{DraftView, IsDraft, line_with}
use Rattle.line_tables.specs.LineFile.{last_position, slopes_end}
use Rattle.line_tables.specs.Points.{HaveTwoNames, StandsOn, find_point}
use Rattle.line_tables.specs.Slope.{Follows, SlopeLiesOn}
use Rattle.line_tables.specs.Line.{IsLine}
use Rattle.line_tables.proofs.PointFacts.{find_point-none}

some_same : {T : Type 0} (x y : T) → Some x ≡ Some y → x ≡ y
some_same x y e = cc e

AllPairs-nil : {X : Type 0} (R : X → X → Type 0) → AllPairs R []
AllPairs-nil R i j d low high = absurd (omega arith)

-- a line of which no more is said yet
IsLine-bare : (d : DraftView) (name : List ℕ) (n : ℕ) → d.slopes ≡ [] → d.limits ≡ [] → d.points ≡ [] → 2 ≤ n → n ≤ 500000 → IsLine (line_with d (name, n))
IsLine-bare d name n s l p low high = record {
  short = low;
  long = high;
  slopes_lie = rw s (All-nil (SlopeLiesOn n));
  slopes_follow = rw s (AllPairs-nil Follows);
  limits_lie = rw l (All-nil (LiesOn n));
  points_lie = rw p (All-nil (StandsOn n));
  names_differ = rw p (AllPairs-nil HaveTwoNames);
}

-- the first `line` record
pub IsDraft-line : (d : DraftView) (name : List ℕ) (n : ℕ) → IsDraft d → d.line ≡ None → 2 ≤ n → n ≤ 500000
    → IsDraft (record { line = Some (name, n); slopes = d.slopes; limits = d.limits; points = d.points })
IsDraft-line d name n h e low high =
    let bare = IsLine-bare d name n (h.no_slopes e) (h.no_limits e) (h.no_points e) low high in
    record {
      line = λ l g. rw (← some_same (name, n) l g) bare;
      no_slopes = λ g. cc g;
      no_limits = λ g. cc g;
      no_points = λ g. cc g;
    }

-- more of a line that is there
IsDraft-more : (d e : DraftView) → IsDraft d → IsSome d.line → e.line ≡ d.line → ((l : List ℕ × ℕ) → d.line ≡ Some l → IsLine (line_with d l) → IsLine (line_with e l)) → IsDraft e
IsDraft-more d e h s same more =
    record {
      line = λ l g. more l (sym same ∙ g) (h.line l (sym same ∙ g));
      no_slopes = λ g. cc (rw (sym same ∙ g) at s);
      no_limits = λ g. cc (rw (sym same ∙ g) at s);
      no_points = λ g. cc (rw (sym same ∙ g) at s);
    }

last_slope : (o : Option Slope) (from : ℕ) → unwrap_or (option_map (λ s. s.to) o) 0 ≤ from → IfSome o (λ a. a.to ≤ from)
last_slope None from h = tt
last_slope (Some a) from h = h

-- what follows a slope follows the slopes before it
Follows-along : (length_of : ℕ) (a b c : Slope) → SlopeLiesOn length_of b → Follows a b → Follows b c → Follows a c
Follows-along length_of a b c lies ab bc = omega (arith, lies.rises, ab, bc)

-- one more slope
pub IsDraft-slope : (d : DraftView) (s : Slope) (slopes : List Slope) (ok : Bool) → IsDraft d → IsSome d.line → SlopeLiesOn (last_position d) s → slopes_end d ≤ s.from
    → slopes ≡ cond ok (d.slopes ++ s ∷ []) d.slopes → IsDraft (record { line = d.line; slopes = slopes; limits = d.limits; points = d.points })
IsDraft-slope d s slopes false h there lies from e = rw e h
IsDraft-slope d s slopes true h there lies from e = rw e (IsDraft-more d _ h there refl (λ l g t. record {
  short = t.short;
  long = t.long;
  slopes_lie = All-push (SlopeLiesOn l.1) d.slopes s t.slopes_lie (rw g at lies);
  slopes_follow = AllPairs-push_last Follows (SlopeLiesOn l.1) (Follows-along l.1) d.slopes s t.slopes_lie t.slopes_follow (last_slope _ s.from from);
  limits_lie = t.limits_lie;
  points_lie = t.points_lie;
  names_differ = t.names_differ;
}))

-- one more limit
pub IsDraft-limit : (d : DraftView) (z : Zone) (limits : List Zone) (ok : Bool) → IsDraft d → IsSome d.line → LiesOn (last_position d) z
    → limits ≡ cond ok (d.limits ++ z ∷ []) d.limits → IsDraft (record { line = d.line; slopes = d.slopes; limits = limits; points = d.points })
IsDraft-limit d z limits false h there lies e = rw e h
IsDraft-limit d z limits true h there lies e = rw e (IsDraft-more d _ h there refl (λ l g t. record {
  short = t.short;
  long = t.long;
  slopes_lie = t.slopes_lie;
  slopes_follow = t.slopes_follow;
  limits_lie = All-push (LiesOn l.1) d.limits z t.limits_lie (rw g at lies);
  points_lie = t.points_lie;
  names_differ = t.names_differ;
}))

-- one more point
pub IsDraft-point : (d : DraftView) (name : List ℕ) (at : ℕ) (points : List (List ℕ × ℕ)) (ok : Bool) → IsDraft d → IsSome d.line → at ≤ last_position d → find_point name d.points ≡ None
    → points ≡ cond ok (d.points ++ (name, at) ∷ []) d.points → IsDraft (record { line = d.line; slopes = d.slopes; limits = d.limits; points = points })
IsDraft-point d name at points false h there lies fresh e = rw e h
IsDraft-point d name at points true h there lies fresh e = rw e (IsDraft-more d _ h there refl (λ l g t. record {
  short = t.short;
  long = t.long;
  slopes_lie = t.slopes_lie;
  slopes_follow = t.slopes_follow;
  limits_lie = t.limits_lie;
  points_lie = All-push (StandsOn l.1) d.points (name, at) t.points_lie (rw g at lies);
  names_differ = all_pairs_push HaveTwoNames d.points (name, at) t.names_differ (rw fresh at (find_point-none name d.points));
}))
