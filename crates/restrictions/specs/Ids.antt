-- IDs of restrictions.
use Rattle.std.specs.Prelude.{ℕ, Bool, ◌==◌, ◌&&◌, ◌||◌, nat_lt, nat_le, List, length}
use Rattle.std.specs.Char.{is_ascii_alphanumeric}
use Rattle.std.specs.List.{list_all}

-- a byte that an ID may hold: an ASCII letter, a digit, `.`, `_` or `-`
abbrev pub is_id_byte : ℕ → Bool
is_id_byte b = is_ascii_alphanumeric b || b == 46 || b == 95 || b == 45

-- 1 to 40 such bytes
abbrev pub is_id : List ℕ → Bool
is_id bs = nat_lt 0 (length bs) && nat_le (length bs) 40 && list_all is_id_byte bs
