-- That the dialogue of a session is lawful.
use Rattle.std.proofs.Common.{◌≡◌, ◌<◌, ℕ, List, length, refl}
use Rattle.std.proofs.lemmas.Bool.{lt-ltb}
use Rattle.cert_check.proofs.ExistFacts.{certified_exist}
use Rattle.cert_check.proofs.OnceFacts.{certified_right}
use Rattle.certificate.specs.Texts.{CertView}
use Rattle.session_lines.specs.Dialogues.{IsLawful}
use Rattle.restrictions.specs.Commands.{command_of, most_bytes}
use Rattle.run_rules.specs.Speeds.{squared}
use Rattle.session_replies.specs.CaseLaws.{IsRunOf-right, caps-IsCapped}
use Rattle.session_replies.specs.Asked.{Asked, asked, case_after}
use Rattle.session_replies.specs.Asked.Asked.{Edit, Time, Speeds, Timetable, Certificate, Refused}
use Rattle.session_replies.specs.Cases.{CaseView, IsLawfulCase, caps_of, rule_of}
use Rattle.session_replies.specs.Replies.{MayTake, Replies, line_steps, reply_text, talk}
use Rattle.session_replies.specs.Runs.{IsRunOf}

-- a line that is too long is refused as such, whatever else it says
alike : (c : CaseView) (a b : List ℕ) → most_bytes < length a → most_bytes < length b → asked c a ≡ asked c b
unfolding command_of
alike c a b long other = rw (lt-ltb most_bytes (length a) long, lt-ltb most_bytes (length b) other) refl

-- a case is lawful by its line, stock and plan, which no line changes
case_after-lawful : (c : CaseView) (a : Asked) → IsLawfulCase c → IsLawfulCase (case_after c a)
case_after-lawful c (Edit change zone force) law = record { line = law.line; stock = law.stock; plan = law.plan; monotone = law.monotone }
case_after-lawful c (Time point) law = law
case_after-lawful c Speeds law = law
case_after-lawful c Timetable law = law
case_after-lawful c Certificate law = law
case_after-lawful c (Refused code) law = law

pub stays : (c : CaseView) (line : List ℕ) → IsLawfulCase c → IsLawfulCase (case_after c (asked c line))
stays c line law = case_after-lawful c (asked c line) law

-- a lawful case has its run
run-there : (c : CaseView) → IsLawfulCase c → (run : CertView) × IsRunOf c run
run-there c law =
    let rule = rule_of c in
    let x = caps_of c in
    let top = squared c.stock.top in
    let caps = caps-IsCapped c.line c.stock c.plan c.force law.monotone in
    let cert = certified_exist rule x top caps.mono caps.small caps.some in
    let run : CertView = record { c = cert.0; e = cert.1.0; verdict = cert.1.1.0 } in
    let right = certified_right rule x cert.0 cert.1.0 cert.1.1.0 top caps cert.1.1.1 in
    (run, IsRunOf-right c.line c.stock c.plan c.force run law.stock.fast law.line.long law.monotone right)

replied : (c : CaseView) (line : List ℕ) → IsLawfulCase c → (t : List ℕ) × Replies c (asked c line) t
replied c line law =
    let a = asked c line in
    let there = run-there (case_after c a) (stays c line law) in
    (reply_text (case_after c a) there.0 a, record { run = there.0; is_run = there.1; text = refl })

allowed : (c : CaseView) (line : List ℕ) → IsLawfulCase c → (n : ℕ) × MayTake c (asked c line) n
allowed c line law =
    let a = asked c line in
    let was = run-there c law in
    let is = run-there (case_after c a) (stays c line law) in
    (line_steps c a was.0 is.0, record { old = was.0; new = is.0; was_run = was.1; is_run = is.1; is = refl })

pub talk_lawful : IsLawful talk IsLawfulCase
talk_lawful = record { alike = alike; stays = stays; replied = replied; allowed = allowed }
