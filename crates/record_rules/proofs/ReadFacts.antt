-- How far a file is read: what csv's reader has left, and the records before it, which break no rule.
use Rattle.std.proofs.Common.{◌≡◌, ◌≤◌, ◌+◌, ◌-◌, ℕ, List, [], ◌∷◌, ◌++◌, length, Bor, Option, Some, None, Bool, true, false, cond, refl, sym, ap, arith, ◌∙◌, inl, inr, append_assoc, length-append}
use Rattle.csv.specs.Reading.{Reached, Ready, ReadRecord, default_config, is_bom, records_from, source_of, strip_bom, took_first}
use Rattle.csv.specs.declared.reader.Reader.{Reader}
use Rattle.csv.specs.declared.reader.Trim.TheVariants as trim
use Rattle.csv.specs.declared.parser.State.TheVariants as st
use Rattle.csv.proofs.ReadFacts.{rows-end, rows-more}
use Rattle.record_rules.specs.Records.{Record, file_records}
use Rattle.record_rules.specs.Faults.{first_fault}
use Rattle.record_rules.proofs.FaultFacts.{first_fault-append, first_fault-broken, first_fault-kept, first_fault-none}
use Rattle.record_rules.proofs.RecordFacts.{length-reached, records-all, records-reached}

abbrev pub bytes_left : Bor (List ℕ) → Option (List ℕ)
bytes_left s = Some s.now

-- the reader of csv stands behind these records of the text, which break no rule and were taken
pub record Reads (rule : List Record → Record → Option ℕ) (says : List Record → Type 0) (text : List ℕ) (reader : Reader (Bor (List ℕ))) (done : ℕ) : Type 0 where
  pub plain : reader.trim ≡ trim.None
  pub ready : Ready reader
  pub config : reader.config ≡ default_config
  pub left : List ℕ
  pub source : source_of bytes_left reader ≡ Some left
  pub rows : List Record
  pub reached : Reached default_config st.StartRecord (strip_bom text) rows reader.state left
  pub count : length rows ≡ done
  pub said : says rows
  pub clean : first_fault rule [] rows ≡ None

-- before the first record
pub Reads-start : (rule : List Record → Record → Option ℕ) (says : List Record → Type 0) (text : List ℕ) (reader : Reader (Bor (List ℕ)))
    → reader.trim ≡ trim.None → reader.has_headers ≡ false → reader.headers ≡ None → reader.config ≡ default_config
    → source_of bytes_left reader ≡ Some (strip_bom text) → reader.state ≡ st.StartRecord → says [] → Reads rule says text reader 0
unfolding Reached
Reads-start rule says text reader plain named headers config source state said = record {
  plain = plain;
  ready = inr (inr (named, headers));
  config = config;
  left = strip_bom text;
  source = source;
  rows = [];
  reached = (sym state, refl);
  count = refl;
  said = said;
  clean = first_fault-none rule;
}

-- one more record, which breaks no rule
pub Reads-more : (rule : List Record → Record → Option ℕ) (says says' : List Record → Type 0) (text : List ℕ) (a b : Reader (Bor (List ℕ))) (done : ℕ) (r : Record)
    → (h : Reads rule says text a done) → (found : Bool) → found ≡ true → ReadRecord bytes_left a b found r → took_first b ≡ true
    → rule h.rows r ≡ None → says' (h.rows ++ r ∷ []) → Reads rule says' text b (done + 1)
Reads-more rule says says' text a b done r h found e0 read first kept said =
    let m = rows-more bytes_left a b r default_config st.StartRecord (strip_bom text) h.left h.rows h.config h.source h.reached (rw e0 at read) in
    record {
      plain = read.3 ∙ h.plain;
      ready = inl first;
      config = read.2 ∙ h.config;
      left = m.0;
      source = m.1;
      rows = h.rows ++ r ∷ [];
      reached = m.2;
      count = omega (arith, h.count, length-append h.rows (r ∷ []));
      said = said;
      clean = first_fault-append rule [] h.rows (r ∷ []) h.clean ∙ first_fault-kept rule h.rows r kept;
    }

-- no record is left: these are all
pub Reads-end : (rule : List Record → Record → Option ℕ) (says : List Record → Type 0) (text : List ℕ) (a b : Reader (Bor (List ℕ))) (done : ℕ) (r : Record)
    → (h : Reads rule says text a done) → (found : Bool) → found ≡ false → ReadRecord bytes_left a b found r
    → (first_fault rule [] (file_records text) ≡ None) × says (file_records text)
Reads-end rule says text a b done r h found e0 read =
    let e = rows-end bytes_left a b r default_config h.left h.config h.source (rw e0 at read) in
    let all = records-all default_config a.state (strip_bom text) h.left h.rows h.reached e in
    (rw all h.clean, rw all h.said)

-- the next record breaks a rule
pub Reads-broken : (rule : List Record → Record → Option ℕ) (says : List Record → Type 0) (text : List ℕ) (a b : Reader (Bor (List ℕ))) (done : ℕ) (r : Record) (k : ℕ)
    → (h : Reads rule says text a done) → (found : Bool) → found ≡ true → ReadRecord bytes_left a b found r
    → rule h.rows r ≡ Some k → first_fault rule [] (file_records text) ≡ Some (done + 1, k)
Reads-broken rule says text a b done r k h found e0 read broken =
    let m = rows-more bytes_left a b r default_config st.StartRecord (strip_bom text) h.left h.rows h.config h.source h.reached (rw e0 at read) in
    let all = records-reached default_config b.state (strip_bom text) m.0 (h.rows ++ r ∷ []) m.2 in
    let more = records_from default_config (length (strip_bom text) + 1 - length (h.rows ++ r ∷ [])) b.state m.0 in
    rw (all, append_assoc h.rows (r ∷ []) more) (first_fault-append rule [] h.rows (r ∷ more) h.clean ∙ first_fault-broken rule h.rows r more k broken ∙ ap (λ (n : ℕ). Some (n + 1, k)) h.count)

-- a text without its byte order mark is no longer
length-strip_bom : (text : List ℕ) → length (strip_bom text) ≤ length text
unfolding strip_bom
length-strip_bom [] = omega arith
length-strip_bom (a ∷ []) = omega arith
length-strip_bom (a ∷ b ∷ []) = omega arith
length-strip_bom (a ∷ b ∷ c ∷ rest) = by (is_bom a b c)
  where
    by : (mark : Bool) → length (cond mark rest (a ∷ b ∷ c ∷ rest)) ≤ length (a ∷ b ∷ c ∷ rest)
    by true = omega arith
    by false = omega arith

-- each record that was read took a byte at least
pub Reads-few : (rule : List Record → Record → Option ℕ) (says : List Record → Type 0) (text : List ℕ) (reader : Reader (Bor (List ℕ))) (done : ℕ)
    → Reads rule says text reader done → done ≤ length text
Reads-few rule says text reader done h =
    let taken = length-reached default_config st.StartRecord reader.state (strip_bom text) h.left h.rows h.reached refl in
    omega (arith, h.count, taken, length-strip_bom text)
