-- The text that each status has of its own, and the status of each fault of a file.
use Rattle.std.specs.Prelude.{ℕ, ◌==◌, if◌then◌else◌, List, [], ◌++◌, codes}
use Rattle.std.specs.Fmt.{decimal}
use Rattle.certificate.specs.declared.reading.CertText.{CertText}
use Rattle.certificate.specs.declared.reading.CertText.TheVariants as cert
use Rattle.line_tables.specs.declared.LineFault.{LineFault}
use Rattle.line_tables.specs.declared.LineFault.TheVariants as line
use Rattle.plan_tables.specs.declared.PlanFault.{PlanFault}
use Rattle.plan_tables.specs.declared.PlanFault.TheVariants as plan
use Rattle.restrictions.specs.declared.edits.EditsFault.{EditsFault}
use Rattle.restrictions.specs.declared.edits.EditsFault.TheVariants as edits
use Rattle.stock_tables.specs.Rules.{brake_law, effort_key, effort_law}
use Rattle.stock_tables.specs.declared.StockFault.{StockFault}
use Rattle.stock_tables.specs.declared.StockFault.TheVariants as stock
use Rattle.run_files.specs.declared.status.Status.{Status}
use Rattle.run_files.specs.declared.status.Status.TheVariants.{Memory, Usage, ReadFault, WriteFault, Refused, NotValid, TooLong}

-- the text of a refusal; the others have none of their own, as a form that ends by a stall has written its text
abbrev pub status_text : Status → List ℕ
status_text Usage = codes "usage\n"
status_text (Refused file place rule) =
    codes "refused " ++ decimal file ++ codes " " ++ decimal place ++ codes " " ++ decimal rule ++ codes "\n"
status_text (NotValid rule point) = codes "not valid " ++ decimal rule ++ codes " " ++ decimal point ++ codes "\n"
status_text (TooLong file) = codes "too long " ++ decimal file ++ codes "\n"
status_text _ = []

-- the numbers of line, stock, plan, edits and certificate files and of a session's input among the files of all forms
abbrev pub line_number : ℕ
line_number = 1

abbrev pub stock_number : ℕ
stock_number = 2

abbrev pub plan_number : ℕ
plan_number = 3

abbrev pub edits_number : ℕ
edits_number = 4

abbrev pub cert_number : ℕ
cert_number = 5

abbrev pub input_number : ℕ
input_number = 6

-- where the line of a file is missing, place and rule are 0
abbrev pub line_status : LineFault → Status
line_status (line.Bad place rule) = Refused line_number place rule
line_status line.Missing = Refused line_number 0 0
line_status line.Memory = Memory

-- the rule of the law of a table, by its key
abbrev pub law_rule : ℕ → ℕ
law_rule table = if table == effort_key then effort_law else brake_law

-- the places of a stock file are the keys, and for a law the speed from which it is broken
abbrev pub stock_status : StockFault → Status
stock_status stock.NotToml = Refused stock_number 0 0
stock_status (stock.Key key rule) = Refused stock_number key rule
stock_status (stock.Law table k) = Refused stock_number k (law_rule table)
stock_status stock.Memory = Memory

abbrev pub plan_status : PlanFault → Status
plan_status (plan.Bad place rule) = Refused plan_number place rule
plan_status plan.Memory = Memory

-- the places of an edits file are its lines, and the rules are the codes of edits
abbrev pub edits_status : EditsFault → Status
edits_status (edits.Bad place code) = Refused edits_number place code
edits_status edits.Memory = Memory

-- the places of a certificate are its lines
abbrev pub cert_status : CertText → Status
cert_status (cert.Bad place rule) = Refused cert_number place rule
cert_status cert.Memory = Memory

-- what a run has written that ends by a status: its whole text; what stood when a fault of reading or want of memory
-- stopped it; or a front of its text, at a fault of the sink
pub data Extent : Type 0 where
  whole : Extent
  stopped : Extent
  cut : Extent

abbrev pub extent_of : Status → Extent
extent_of ReadFault = stopped
extent_of Memory = stopped
extent_of WriteFault = cut
extent_of _ = whole
