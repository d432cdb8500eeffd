-- Bytes that are put before others.
use Rattle.std.proofs.Common.{◌≡◌, ◌≤◌, ◌<◌, ◌+◌, ◌^◌, ℕ, List, length, length-drop, drop, arith, ap}
use Rattle.std.proofs.lemmas.Fmt.{length-decimal-le}
use Rattle.std.specs.Fmt.{decimal}

-- a number of 64 bits has at most 20 digits
pub decimal-short : (n : ℕ) → n < 2 ^ 64 → length (decimal n) ≤ 20
decimal-short n small = length-decimal-le 20 n (omega arith) (omega (arith, small)) small

-- and one of half as many at most 19, which leaves room for a sign
pub decimal-half : (n : ℕ) → n ≤ 2 ^ 63 → length (decimal n) ≤ 19
decimal-half n small = length-decimal-le 19 n (omega arith) (omega (arith, small)) (omega (arith, small))

-- what a short text leaves free before it
pub room-before : (bytes text : List ℕ) (at n : ℕ) → drop at bytes ≡ text → length text + n ≤ length bytes → n ≤ at
room-before bytes text at n e room =
    let long = length-drop at bytes in
    let same : length (drop at bytes) ≡ length text = ap length e in
    omega (arith, long, same, room)
