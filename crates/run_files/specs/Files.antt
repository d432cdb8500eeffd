-- The files that a form reads, one after another, and the first of them that is in the way.
use Rattle.std.specs.Prelude.{ℕ, ◌≡◌, ◌⊎◌, List, [], ◌∷◌, ◌++◌, length, nat_lt, if◌then◌else◌, Option, None, Some, Result, Ok, Err, IfSome, All}
use Rattle.std.specs.Option.{option_or}
use Rattle.unit_rules.specs.Limits.{longest_line, most_bytes}
use Rattle.run_io.specs.Fetches.{Files, IsAbsent}
use Rattle.run_io.specs.Told.{Rose, Told}
use Rattle.certificate.specs.Reading.{read_as_cert}
use Rattle.certificate.specs.Texts.{CertView, IsCert}
use Rattle.line_tables.specs.LineFile as line
use Rattle.line_tables.specs.Line.{IsLine, LineView}
use Rattle.plan_tables.specs.PlanFile as plan
use Rattle.plan_tables.specs.Plan.{IsPlan, PlanLiesOn, PlanView}
use Rattle.restrictions.specs.Edits.{restrictions_in}
use Rattle.restrictions.specs.Force.{zones_of}
use Rattle.unit_rules.specs.Zone.{LiesOn}
use Rattle.unit_rules.specs.declared.Zone.{Zone}
use Rattle.run_words.specs.Requests.{CaseNames}
use Rattle.stock_tables.specs.StockFile as stock
use Rattle.stock_tables.specs.Stock.{IsStock, StockView}
use Rattle.run_files.specs.Statuses.{cert_number, cert_status, edits_number, edits_status, line_number, line_status, plan_number, plan_status, stock_number, stock_status}
use Rattle.run_files.specs.declared.cases.Case.{Case}
use Rattle.run_files.specs.declared.cases.Claim.{Claim}
use Rattle.run_files.specs.declared.status.Status.{Status}
use Rattle.run_files.specs.declared.status.Status.TheVariants.{ReadFault, Refused, TooLong}

-- a file that is read: its number among the files of all forms, its name, and the status of the fault that its reader
-- finds in some bytes, if there is one; a reader may know the files that were read before
pub record File : Type 0 where
  pub number : ℕ
  pub name : List ℕ
  pub judge : Files → List ℕ → Option Status

-- what is in the way of a file that may not be there
abbrev pub fault_in : Files → File → Option (List ℕ) → Option Status
fault_in files f None = Some ReadFault
fault_in files f (Some bytes) =
    if nat_lt most_bytes (length bytes) then Some (TooLong f.number) else f.judge files bytes

-- what is in the way of files, in the order in which they are read
abbrev pub refusal : Files → List File → Option Status
refusal files [] = None
refusal files (f ∷ fs) = option_or (fault_in files f (files f.name)) (refusal files fs)

-- a status says that the file of that number was refused or is too long
abbrev pub IsRefusal : ℕ → Status → Type 0
IsRefusal number s = ((place : ℕ) × ((rule : ℕ) × (s ≡ Refused number place rule))) ⊎ (s ≡ TooLong number)

-- a file is to blame for a status: for a fault of reading it is not there, or the shelf failed; and what was refused or
-- too long has its number
abbrev pub BlamesFile : Told Files → Told Files → File → Status → Type 0
BlamesFile old new f s =
    ((s ≡ ReadFault) × (Rose old new ⊎ IsAbsent old.holds f.name)) ⊎ IsRefusal f.number s

-- one of the files is to blame
abbrev pub Blames : Told Files → Told Files → List File → Status → Type 0
Blames old new [] s = ⊥
Blames old new (f ∷ fs) s = BlamesFile old new f s ⊎ Blames old new fs s

-- what bytes read as, with a status for each fault of their reader
abbrev pub with_status : {T E : Type 0} → (E → Status) → Result T E → Result T Status
with_status status (Ok table) = Ok table
with_status status (Err fault) = Err (status fault)

-- the status of the fault that was found
abbrev pub fault_of : {T : Type 0} → Result T Status → Option Status
fault_of (Ok table) = None
fault_of (Err s) = Some s

-- the table that was read
abbrev pub table_of : {T : Type 0} → Result T Status → Option T
table_of (Ok table) = Some table
table_of (Err s) = None

-- a kind of file: its number among the files of all forms, what every table of it keeps, and what bytes read as
pub record Reading (T : Type 0) : Type 1 where
  pub number : ℕ
  pub keeps : T → Type 0
  pub read : List ℕ → Result T Status

-- the table of a file of that kind that may not be there
abbrev pub table_in : {T : Type 0} → Reading T → Option (List ℕ) → Option T
table_in reading None = None
table_in reading (Some bytes) = table_of (reading.read bytes)

-- the file of that kind and name, whose bytes alone say what it reads as
abbrev pub file_read : {T : Type 0} → Reading T → List ℕ → File
file_read reading name =
    record { number = reading.number; name = name; judge = λ files bytes. fault_of (reading.read bytes) }

-- a table keeps what every table of that kind keeps, and is that of the file of that name, where files are told
pub record IsRead {T : Type 0} (reading : Reading T) (told : Option Files) (name : List ℕ) (table : T) : Type 0 where
  pub kept : reading.keeps table
  pub same : IfSome told (λ files. table_in reading (files name) ≡ Some table)

-- line files
abbrev pub line_reading : Reading LineView
line_reading = record {
  number = line_number;
  keeps = IsLine;
  read = λ bytes. with_status line_status (line.read_as_line bytes);
}

abbrev pub line_file : List ℕ → File
line_file = file_read line_reading

-- stock files
abbrev pub stock_reading : Reading StockView
stock_reading = record {
  number = stock_number;
  keeps = IsStock;
  read = λ bytes. with_status stock_status (stock.read_as_stock bytes);
}

abbrev pub stock_file : List ℕ → File
stock_file = file_read stock_reading

-- plan files, which are read for a line
abbrev pub plan_reading : LineView → Reading PlanView
plan_reading line = record {
  number = plan_number;
  keeps = λ p. IsPlan p × PlanLiesOn line.length p;
  read = λ bytes. with_status plan_status (plan.read_as_plan line bytes);
}

-- files of edits, which are read for a line
abbrev pub edits_reading : LineView → Reading (List (List ℕ × Zone))
edits_reading line = record {
  number = edits_number;
  keeps = λ force. All (LiesOn line.length) (zones_of force);
  read = λ bytes. with_status edits_status (restrictions_in line.length bytes);
}

-- certificates
abbrev pub cert_reading : Reading CertView
cert_reading = record {
  number = cert_number;
  keeps = IsCert;
  read = λ bytes. with_status cert_status (read_as_cert bytes);
}

abbrev pub cert_file : List ℕ → File
cert_file = file_read cert_reading

-- the fault of a file that is read for a line which may not be there
abbrev pub fault_for : {T : Type 0} → (LineView → Reading T) → Option LineView → List ℕ → Option Status
fault_for reading None bytes = None
fault_for reading (Some line) bytes = fault_of ((reading line).read bytes)

-- the file of that number and name, which is read for the line of the file of the other name
abbrev pub file_for : {T : Type 0} → ℕ → (LineView → Reading T) → List ℕ → List ℕ → File
file_for number reading line_name name = record {
  number = number;
  name = name;
  judge = λ files bytes. fault_for reading (table_in line_reading (files line_name)) bytes;
}

abbrev pub plan_file : List ℕ → List ℕ → File
plan_file = file_for plan_number plan_reading

-- the file of edits, if there is one
abbrev pub edits_files : List ℕ → Option (List ℕ) → List File
edits_files line_name None = []
edits_files line_name (Some name) = file_for edits_number edits_reading line_name name ∷ []

-- the files of a case, in the order in which they are read
abbrev pub case_files : CaseNames → List File
case_files names =
    line_file names.line ∷ stock_file names.stock ∷ plan_file names.line names.plan ∷ edits_files names.line names.edits

-- and those of a claim: the certificate comes last
abbrev pub claim_files : CaseNames → List ℕ → List File
claim_files names cert_name = case_files names ++ cert_file cert_name ∷ []

-- a line and a stock are those of the files of these names
abbrev pub AreTables : List ℕ → List ℕ → Option Files → LineView × StockView → Type 0
AreTables line_name stock_name told both =
    IsRead line_reading told line_name both.0 × IsRead stock_reading told stock_name both.1

-- the length of a line that may not be there
abbrev pub length_of : Option LineView → ℕ
length_of None = 0
length_of (Some table) = table.length

-- how many cells the line of the file of that name has; where no files are told, as many as any line may have
abbrev pub most_cells : Option Files → List ℕ → ℕ
most_cells None name = longest_line
most_cells (Some files) name = length_of (table_in line_reading (files name))

-- the restrictions are those that the file of edits of that name leaves in force; where there is no such file, none
abbrev pub AreInForce : LineView → Option (List ℕ) → Option Files → List (List ℕ × Zone) → Type 0
AreInForce line None told force = force ≡ []
AreInForce line (Some name) told force = IsRead (edits_reading line) told name force

-- a case is that of the files of these names
pub record IsCase (names : CaseNames) (told : Option Files) (c : Case) : Type 0 where
  pub line : IsRead line_reading told names.line c.line
  pub stock : IsRead stock_reading told names.stock c.stock
  pub plan : IsRead (plan_reading c.line) told names.plan c.plan
  pub force : AreInForce c.line names.edits told c.force.pairs

-- a claim is that of the files of these names
pub record IsClaim (names : CaseNames) (cert_name : List ℕ) (told : Option Files) (c : Claim) : Type 0 where
  pub case : IsCase names told c.case
  pub cert : IsRead cert_reading told cert_name c.cert
