use Rattle.std.proofs.Common.{◌≡◌, take}
use Rattle.std.specs.Str.Parse.{AllDigits, digits_value}
use Rattle.certificate.proofs.rows.number_ahead.Given as goal

-- the bytes so far are digits, and the number is theirs
abbrev pub invariant-loop-at : goal.invariant-loop-at
invariant-loop-at l = record {
  digits : AllDigits 10 (take l.at l.text);
  value : l.number ≡ digits_value 10 (take l.at l.text);
}
