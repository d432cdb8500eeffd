-- Points of a line by name: each is its name and its position, in the order of the file.
use Rattle.std.specs.Prelude.{ℕ, ◌≤◌, ◌≢◌, if◌then◌else◌, List, [], ◌∷◌, Option, Some, None, Vec}
use Rattle.std.specs.Str.{bytes_eq}
use Rattle.std.specs.declared.alloc.Global.{Global}

-- the position of the first point of that name
abbrev pub find_point : List ℕ → List (List ℕ × ℕ) → Option ℕ
find_point name [] = None
find_point name (p ∷ ps) = if bytes_eq name p.0 then Some p.1 else find_point name ps

-- a name and a position, without where the name lies in memory
abbrev pub point_view : Vec ℕ Global × ℕ → List ℕ × ℕ
point_view e = (e.0.items, e.1)

-- a point lies on a line of that length, in metres
abbrev pub StandsOn : ℕ → List ℕ × ℕ → Type 0
StandsOn length p = p.1 ≤ length

-- two points have two names
abbrev pub HaveTwoNames : List ℕ × ℕ → List ℕ × ℕ → Type 0
HaveTwoNames p q = p.0 ≢ q.0
