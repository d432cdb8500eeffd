-- What the form `caps` means.
use Rattle.std.specs.Prelude.{ℕ, List, [], ◌≡◌, Option}
use Rattle.std.proofs.Common.{ap, arith}
use Rattle.line_tables.specs.Line.{LineView}
use Rattle.report_text.specs.Texts.{list_text}
use Rattle.run_io.specs.Fetches.{Files}
use Rattle.run_rules.specs.Caps.{caps_of}
use Rattle.run_words.specs.declared.requests.CapsForm.{CapsForm}
use Rattle.run_files.specs.Files.{IsRead, line_reading}
use Rattle.run_files.specs.declared.status.Status.TheVariants.{Done}
use Rattle.run_cli.specs.FileForms.{line_form}
use Rattle.run_cli.specs.FileLaws.{is_done, line_meant}
use Rattle.run_cli.specs.Meanings.{Is, Meaning}
use Rattle.run_cli.specs.Serves.{IsMeant}
use Rattle.run_cli.specs.declared.report.ListReport.{ListReport}

-- the caps of a line by its limits and a train's length and top speed alone, a line for each point
abbrev pub caps_text : LineView → ℕ → ℕ → List ℕ
caps_text line train top = list_text (caps_of line.length train top line.limits [])

-- what the form means
abbrev pub caps_meaning : List ℕ → ℕ → ℕ → Meaning
caps_meaning name train top = line_form name (λ line. Is Done (caps_text line train top))

-- the report is what the form means
pub caps_means : (f : CapsForm) (told : Option Files) (line : LineView) (r : ListReport) → IsRead line_reading told f.line.now line
    → r.numbers.items ≡ caps_of line.length f.train f.top line.limits []
    → IsMeant (caps_meaning f.line.now f.train f.top) told Done (list_text r.numbers.items)
caps_means f told line r at is =
    line_meant f.line.now (λ l. Is Done (caps_text l f.train f.top)) told line (list_text r.numbers.items) at
    (is_done (list_text r.numbers.items) (caps_text line f.train f.top) (ap list_text is))

pub caps_allows : (f : CapsForm) (told : Option Files) (line : LineView) → IsRead line_reading told f.line.now line
    → (caps_meaning f.line.now f.train f.top).steps told [] 0
caps_allows f told line at = omega arith
