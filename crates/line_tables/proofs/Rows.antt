-- The rules of line files at small files, computed from the definitions alone.
use Rattle.std.proofs.Common.{◌≡◌, ℕ, Ok, Err, List, [], ◌∷◌, ◌++◌, false, codes, pos, neg_ℤ, refl}
use Rattle.csv.specs.Machine.{next_record}
use Rattle.csv.specs.Reading.{records_from, strip_bom}
use Rattle.std.specs.Str.{chars, is_utf8}
use lib.Utf8.{encode}
use Rattle.unit_rules.specs.Numeral.{whole_of}
use Rattle.record_rules.specs.Faults.{first_fault}
use Rattle.line_tables.specs.LineFile.{read_as_line}
use Rattle.line_tables.specs.declared.LineFault.TheVariants.{Bad, Missing}
use Rattle.line_tables.specs.Names.{is_name}

no_bytes : read_as_line (codes "") ≡ Err Missing
unfolding next_record records_from strip_bom whole_of is_utf8 chars encode first_fault
no_bytes = refl

comment_alone : read_as_line (codes "# only") ≡ Err Missing
unfolding next_record records_from strip_bom whole_of is_utf8 chars encode first_fault
comment_alone = refl

limit_before_line : read_as_line (codes "limit,0,5,50\n") ≡ Err (Bad 1 5)
unfolding next_record records_from strip_bom whole_of is_utf8 chars encode first_fault
limit_before_line = refl

line_too_short : read_as_line (codes "line,A,1\n") ≡ Err (Bad 1 4)
unfolding next_record records_from strip_bom whole_of is_utf8 chars encode first_fault
line_too_short = refl

line_too_long : read_as_line (codes "line,A,500001\n") ≡ Err (Bad 1 4)
unfolding next_record records_from strip_bom whole_of is_utf8 chars encode first_fault
line_too_long = refl

comment_has_number : read_as_line (codes "# x\nline,A,1\n") ≡ Err (Bad 2 4)
unfolding next_record records_from strip_bom whole_of is_utf8 chars encode first_fault
comment_has_number = refl

unknown_kind : read_as_line (codes "line,A,10\nbridge,1\n") ≡ Err (Bad 2 1)
unfolding next_record records_from strip_bom whole_of is_utf8 chars encode first_fault
unknown_kind = refl

point_without_name : read_as_line (codes "line,A,10\npoint,5\n") ≡ Err (Bad 2 2)
unfolding next_record records_from strip_bom whole_of is_utf8 chars encode first_fault
point_without_name = refl

numeral_padded : read_as_line (codes "line,A,10\nlimit,05,9,50\n") ≡ Err (Bad 2 3)
unfolding next_record records_from strip_bom whole_of is_utf8 chars encode first_fault
numeral_padded = refl

limit_past_end : read_as_line (codes "line,A,10\nlimit,5,11,50\n") ≡ Err (Bad 2 4)
unfolding next_record records_from strip_bom whole_of is_utf8 chars encode first_fault
limit_past_end = refl

limit_over_nothing : read_as_line (codes "line,A,10\nlimit,5,5,50\n") ≡ Err (Bad 2 5)
unfolding next_record records_from strip_bom whole_of is_utf8 chars encode first_fault
limit_over_nothing = refl

limit_at_rest : read_as_line (codes "line,A,10\nlimit,0,5,0\n") ≡ Err (Bad 2 4)
unfolding next_record records_from strip_bom whole_of is_utf8 chars encode first_fault
limit_at_rest = refl

gradients_overlap : read_as_line (codes "line,A,10\ngradient,0,5,10\ngradient,4,8,10\n") ≡ Err (Bad 3 5)
unfolding next_record records_from strip_bom whole_of is_utf8 chars encode first_fault
gradients_overlap = refl

name_repeated : read_as_line (codes "line,A,10\npoint,1,P\npoint,2,P\n") ≡ Err (Bad 3 6)
unfolding next_record records_from strip_bom whole_of is_utf8 chars encode first_fault
name_repeated = refl

line_repeated : read_as_line (codes "line,A,10\nline,A,10\n") ≡ Err (Bad 2 6)
unfolding next_record records_from strip_bom whole_of is_utf8 chars encode first_fault
line_repeated = refl

first_record_counts : read_as_line (codes "line,A,10\npoint,x\nbridge,1\n") ≡ Err (Bad 2 2)
unfolding next_record records_from strip_bom whole_of is_utf8 chars encode first_fault
first_record_counts = refl

accepted : read_as_line (codes "line,A,10\nlimit,4,8,50\nlimit,0,6,40\npoint,3,P\npoint,3,Q\n") ≡ Ok (record {
  name = codes "A";
  length = 10;
  slopes = [];
  limits = record { from = 4; to = 8; kmh = 50 } ∷ record { from = 0; to = 6; kmh = 40 } ∷ [];
  points = (codes "P", 3) ∷ (codes "Q", 3) ∷ [];
})
unfolding next_record records_from strip_bom whole_of is_utf8 chars encode first_fault
accepted = refl

hill : read_as_line (codes "line,Hill,1000\ngradient,50,1000,100\n") ≡ Ok (record {
  name = codes "Hill";
  length = 1000;
  slopes = record { from = 50; to = 1000; tenths = pos 100 } ∷ [];
  limits = [];
  points = [];
})
unfolding next_record records_from strip_bom whole_of is_utf8 chars encode first_fault
hill = refl

slopes_meet : read_as_line (codes "line,A,10\ngradient,0,5,1000\ngradient,5,10,-1000\n") ≡ Ok (record {
  name = codes "A";
  length = 10;
  slopes = record { from = 0; to = 5; tenths = pos 1000 } ∷ record { from = 5; to = 10; tenths = neg_ℤ (pos 1000) } ∷ [];
  limits = [];
  points = [];
})
unfolding next_record records_from strip_bom whole_of is_utf8 chars encode first_fault
slopes_meet = refl

too_steep : read_as_line (codes "line,A,10\ngradient,0,5,-1001\n") ≡ Err (Bad 2 4)
unfolding next_record records_from strip_bom whole_of is_utf8 chars encode first_fault
too_steep = refl

position_past_any_line : read_as_line (codes "point,500001,P\n") ≡ Err (Bad 1 4)
unfolding next_record records_from strip_bom whole_of is_utf8 chars encode first_fault
position_past_any_line = refl

point_before_line : read_as_line (codes "point,500000,P\n") ≡ Err (Bad 1 5)
unfolding next_record records_from strip_bom whole_of is_utf8 chars encode first_fault
point_before_line = refl

comma_in_name : is_name (codes "A,B") ≡ false
unfolding is_utf8 chars encode
comma_in_name = refl

-- Mühl in UTF-8
abbrev muehl : List ℕ
muehl = codes "M" ++ 195 ∷ 188 ∷ codes "hl"

names_as_spelled : read_as_line (codes "line,old  Mill,10\npoint,3," ++ muehl ++ codes "\npoint,3,Muhl\npoint,3,muhl\n") ≡ Ok (record {
  name = codes "old  Mill";
  length = 10;
  slopes = [];
  limits = [];
  points = (muehl, 3) ∷ (codes "Muhl", 3) ∷ (codes "muhl", 3) ∷ [];
})
unfolding next_record records_from strip_bom whole_of is_utf8 chars encode first_fault
names_as_spelled = refl
