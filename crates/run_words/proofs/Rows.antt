-- Words that are written out, and what they ask for.
use Rattle.std.proofs.Common.{◌≡◌, [], ◌∷◌, Some, None, codes, refl}
use Rattle.clap.proofs.OnLiterals.{clap_on_literals}
use Rattle.unit_rules.specs.Numeral.{whole_of}
use Rattle.run_words.specs.Requests.{case_names, request_of}
use Rattle.run_words.specs.Requests.Request.{Caps, Stock, Rise, Brakes, Envelope, Plan, Check}
use Rattle.run_words.specs.declared.requests.Print.TheVariants as print

caps_words : request_of (codes "caps" ∷ codes "l" ∷ codes "5000" ∷ codes "500" ∷ [])
    ≡ Some (Caps (codes "l") 5000 500)
unfolding clap_on_literals whole_of
caps_words = refl

stock_words : request_of (codes "stock" ∷ codes "s" ∷ []) ≡ Some (Stock (codes "s"))
unfolding clap_on_literals
stock_words = refl

rise_words : request_of (codes "rise" ∷ codes "l" ∷ codes "s" ∷ codes "0" ∷ [])
    ≡ Some (Rise (codes "l") (codes "s") 0)
unfolding clap_on_literals whole_of
rise_words = refl

brakes_words : request_of (codes "brakes" ∷ codes "l" ∷ codes "s" ∷ [])
    ≡ Some (Brakes (codes "l") (codes "s"))
unfolding clap_on_literals
brakes_words = refl

envelope_words : request_of (codes "envelope" ∷ codes "l" ∷ codes "s" ∷ [])
    ≡ Some (Envelope (codes "l") (codes "s"))
unfolding clap_on_literals
envelope_words = refl

-- a word that begins with a dash stands behind `--`, but for a dash alone
dash_behind_dashes : request_of (codes "brakes" ∷ codes "--" ∷ codes "-l" ∷ codes "s" ∷ [])
    ≡ Some (Brakes (codes "-l") (codes "s"))
unfolding clap_on_literals
dash_behind_dashes = refl

dash_in_front : request_of (codes "brakes" ∷ codes "-l" ∷ codes "s" ∷ []) ≡ None
unfolding clap_on_literals
dash_in_front = refl

dash_alone : request_of (codes "brakes" ∷ codes "-" ∷ codes "s" ∷ []) ≡ Some (Brakes (codes "-") (codes "s"))
unfolding clap_on_literals
dash_alone = refl

no_help : request_of (codes "brakes" ∷ codes "--help" ∷ []) ≡ None
unfolding clap_on_literals
no_help = refl

no_help_alone : request_of (codes "--help" ∷ []) ≡ None
no_help_alone = refl

word_too_many : request_of (codes "envelope" ∷ codes "two.csv" ∷ codes "toy.toml" ∷ codes "none.csv" ∷ [])
    ≡ None
unfolding clap_on_literals
word_too_many = refl

word_too_few : request_of (codes "caps" ∷ codes "l" ∷ codes "50" ∷ []) ≡ None
unfolding clap_on_literals
word_too_few = refl

zero_in_front : request_of (codes "caps" ∷ codes "l" ∷ codes "050" ∷ codes "60" ∷ []) ≡ None
unfolding clap_on_literals whole_of
zero_in_front = refl

space_in_front : request_of (codes "caps" ∷ codes "l" ∷ codes " 50" ∷ codes "60" ∷ []) ≡ None
unfolding clap_on_literals whole_of
space_in_front = refl

space_behind : request_of (codes "caps " ∷ codes "l" ∷ codes "50" ∷ codes "60" ∷ []) ≡ None
space_behind = refl

unknown_command : request_of (codes "brake" ∷ codes "l" ∷ codes "s" ∷ []) ≡ None
unknown_command = refl

no_words : request_of [] ≡ None
no_words = refl

-- an option stands anywhere; its value is the next word, or stands behind `=`
option_in_front : request_of (codes "plan" ∷ codes "--print=timetable" ∷ codes "l" ∷ codes "s" ∷ codes "p" ∷ [])
    ≡ Some (Plan (case_names (codes "l") (codes "s") (codes "p") None) print.Timetable)
unfolding clap_on_literals
option_in_front = refl

option_behind : request_of (codes "plan" ∷ codes "l" ∷ codes "s" ∷ codes "p" ∷ codes "--print" ∷ codes "envelope" ∷ [])
    ≡ Some (Plan (case_names (codes "l") (codes "s") (codes "p") None) print.Envelope)
unfolding clap_on_literals
option_behind = refl

option_twice : request_of (codes "plan" ∷ codes "l" ∷ codes "s" ∷ codes "p"
    ∷ codes "--print" ∷ codes "envelope" ∷ codes "--print" ∷ codes "envelope" ∷ []) ≡ None
unfolding clap_on_literals
option_twice = refl

option_missing : request_of (codes "plan" ∷ codes "l" ∷ codes "s" ∷ codes "p" ∷ []) ≡ None
unfolding clap_on_literals
option_missing = refl

value_missing : request_of (codes "plan" ∷ codes "l" ∷ codes "s" ∷ codes "p" ∷ codes "--print" ∷ []) ≡ None
unfolding clap_on_literals
value_missing = refl

certificate_printed : request_of (codes "plan" ∷ codes "l" ∷ codes "s" ∷ codes "p" ∷ codes "--print=cert" ∷ [])
    ≡ Some (Plan (case_names (codes "l") (codes "s") (codes "p") None) print.Cert)
unfolding clap_on_literals
certificate_printed = refl

other_print : request_of (codes "plan" ∷ codes "l" ∷ codes "s" ∷ codes "p" ∷ codes "--print" ∷ codes "certificate" ∷ []) ≡ None
unfolding clap_on_literals
other_print = refl

other_option : request_of (codes "plan" ∷ codes "l" ∷ codes "s" ∷ codes "p"
    ∷ codes "--print" ∷ codes "envelope" ∷ codes "--edit" ∷ codes "e" ∷ []) ≡ None
unfolding clap_on_literals
other_option = refl

-- a file of edits may be named, once, and anywhere
edits_in_front : request_of (codes "plan" ∷ codes "--edits" ∷ codes "e"
    ∷ codes "l" ∷ codes "s" ∷ codes "p" ∷ codes "--print" ∷ codes "envelope" ∷ [])
    ≡ Some (Plan (case_names (codes "l") (codes "s") (codes "p") (Some (codes "e"))) print.Envelope)
unfolding clap_on_literals
edits_in_front = refl

edits_between : request_of (codes "plan" ∷ codes "l" ∷ codes "--edits=e"
    ∷ codes "s" ∷ codes "--print" ∷ codes "timetable" ∷ codes "p" ∷ [])
    ≡ Some (Plan (case_names (codes "l") (codes "s") (codes "p") (Some (codes "e"))) print.Timetable)
unfolding clap_on_literals
edits_between = refl

edits_behind : request_of (codes "plan" ∷ codes "l" ∷ codes "s" ∷ codes "p"
    ∷ codes "--print" ∷ codes "timetable" ∷ codes "--edits" ∷ codes "envelope" ∷ [])
    ≡ Some (Plan (case_names (codes "l") (codes "s") (codes "p") (Some (codes "envelope"))) print.Timetable)
unfolding clap_on_literals
edits_behind = refl

edits_without_value : request_of (codes "plan" ∷ codes "l" ∷ codes "s" ∷ codes "p"
    ∷ codes "--print" ∷ codes "envelope" ∷ codes "--edits" ∷ []) ≡ None
unfolding clap_on_literals
edits_without_value = refl

-- an empty name is a name
edits_empty : request_of (codes "plan" ∷ codes "l" ∷ codes "s" ∷ codes "p"
    ∷ codes "--print" ∷ codes "envelope" ∷ codes "--edits=" ∷ [])
    ≡ Some (Plan (case_names (codes "l") (codes "s") (codes "p") (Some [])) print.Envelope)
unfolding clap_on_literals
edits_empty = refl

edits_for_print : request_of (codes "plan" ∷ codes "l" ∷ codes "s" ∷ codes "p"
    ∷ codes "--print" ∷ codes "--edits" ∷ codes "envelope" ∷ []) ≡ None
unfolding clap_on_literals
edits_for_print = refl

edits_twice : request_of (codes "plan" ∷ codes "l" ∷ codes "s" ∷ codes "p"
    ∷ codes "--print" ∷ codes "envelope" ∷ codes "--edits" ∷ codes "e" ∷ codes "--edits=e" ∷ []) ≡ None
unfolding clap_on_literals
edits_twice = refl

-- a value that begins with a dash stands behind `=`, but for a dash alone
edits_dash_behind_equals : request_of (codes "plan" ∷ codes "l" ∷ codes "s" ∷ codes "p"
    ∷ codes "--print" ∷ codes "envelope" ∷ codes "--edits=-e" ∷ [])
    ≡ Some (Plan (case_names (codes "l") (codes "s") (codes "p") (Some (codes "-e"))) print.Envelope)
unfolding clap_on_literals
edits_dash_behind_equals = refl

edits_dash_in_front : request_of (codes "plan" ∷ codes "l" ∷ codes "s" ∷ codes "p"
    ∷ codes "--print" ∷ codes "envelope" ∷ codes "--edits" ∷ codes "-e" ∷ []) ≡ None
unfolding clap_on_literals
edits_dash_in_front = refl

edits_dash_alone : request_of (codes "plan" ∷ codes "l" ∷ codes "s" ∷ codes "p"
    ∷ codes "--print" ∷ codes "envelope" ∷ codes "--edits" ∷ codes "-" ∷ [])
    ≡ Some (Plan (case_names (codes "l") (codes "s") (codes "p") (Some (codes "-"))) print.Envelope)
unfolding clap_on_literals
edits_dash_alone = refl

edits_behind_dashes : request_of (codes "plan" ∷ codes "--print" ∷ codes "envelope"
    ∷ codes "l" ∷ codes "s" ∷ codes "p" ∷ codes "--" ∷ codes "--edits" ∷ codes "e" ∷ []) ≡ None
unfolding clap_on_literals
edits_behind_dashes = refl

edits_of_another : request_of (codes "envelope" ∷ codes "l" ∷ codes "s" ∷ codes "--edits" ∷ codes "e" ∷ []) ≡ None
unfolding clap_on_literals
edits_of_another = refl

-- a certificate is checked over the files of a plan, with or without edits
check_words : request_of (codes "check" ∷ codes "l" ∷ codes "s" ∷ codes "p" ∷ codes "c" ∷ [])
    ≡ Some (Check (case_names (codes "l") (codes "s") (codes "p") None) (codes "c"))
unfolding clap_on_literals
check_words = refl

check_under_edits : request_of (codes "check" ∷ codes "--edits" ∷ codes "e" ∷ codes "l" ∷ codes "s" ∷ codes "p" ∷ codes "c" ∷ [])
    ≡ Some (Check (case_names (codes "l") (codes "s") (codes "p") (Some (codes "e"))) (codes "c"))
unfolding clap_on_literals
check_under_edits = refl

check_without_certificate : request_of (codes "check" ∷ codes "l" ∷ codes "s" ∷ codes "p" ∷ []) ≡ None
unfolding clap_on_literals
check_without_certificate = refl

check_prints_nothing : request_of (codes "check" ∷ codes "l" ∷ codes "s" ∷ codes "p" ∷ codes "c" ∷ codes "--print=cert" ∷ []) ≡ None
unfolding clap_on_literals
check_prints_nothing = refl
