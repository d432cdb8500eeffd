-- Canonical numerals: `0`, or digits without a zero in front, after a minus where the number is below 0.
use Rattle.std.specs.Prelude.{ℕ, ◌-◌, ◌^◌, Bool, ◌==◌, ◌&&◌, ◌||◌, not, nat_lt, nat_le, if◌then◌else◌, List, drop, slice_index, length, Option, Some, None, option_and_then, ℤ, pos, negsuc, int_le}
use Rattle.std.specs.Str.{all_ascii_digits}
use Rattle.std.specs.Str.Parse.{digits_value}

-- digits without a zero in front
abbrev pub is_plain_numeral : List ℕ → Bool
is_plain_numeral ds = all_ascii_digits ds && nat_lt 0 (length ds) && (not (slice_index ds 0 == 48) || (length ds == 1))

-- the number of that size below 0, where there is one within 64 bits
abbrev pub below_zero : ℕ → Option ℤ
below_zero n = if nat_lt 0 n && nat_le n (2 ^ 63) then Some (negsuc (n - 1)) else None

-- the number of that size from 0 on, where there is one within 64 bits
abbrev pub from_zero : ℕ → Option ℤ
from_zero n = if nat_lt n (2 ^ 63) then Some (pos n) else None

-- the number that the digits stand for
abbrev pub plain_of : List ℕ → Option ℕ
plain_of ds = if is_plain_numeral ds then Some (digits_value 10 ds) else None

-- the number of 64 bits that a text is the numeral of; 45 is the minus
unfoldable pub whole_of : List ℕ → Option ℤ
whole_of text =
    if slice_index text 0 == 45 then option_and_then below_zero (plain_of (drop 1 text))
    else option_and_then from_zero (plain_of text)

-- a number, where it is from low to high
abbrev pub within : ℕ → ℕ → ℤ → Option ℕ
within low high (pos n) = if nat_le low n && nat_le n high then Some n else None
within low high (negsuc n) = None

-- the number from low to high that a text is the numeral of
abbrev pub number_in : ℕ → ℕ → List ℕ → Option ℕ
number_in low high text = option_and_then (within low high) (whole_of text)

-- a signed number, where it is from low to high
abbrev pub signed_within : ℤ → ℤ → ℤ → Option ℤ
signed_within low high z = if int_le low z && int_le z high then Some z else None

-- the signed number from low to high that a text is the numeral of
abbrev pub signed_in : ℤ → ℤ → List ℕ → Option ℤ
signed_in low high text = option_and_then (signed_within low high) (whole_of text)
