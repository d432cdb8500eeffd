-- Files that are loaded, and why others are not.
use Rattle.std.proofs.Common.{◌≡◌, ◌⊎◌, ◌≤◌, ◌++◌, Bool, true, false, ℕ, List, [], ◌∷◌, length, Option, Some, None, Result, Ok, Err, IfErr, IfOk, IfSome, All, refl, sym, ap, inl, inr, arith, ◌∙◌}
use Rattle.std.specs.Prelude.{nat_lt, if◌then◌else◌}
use Rattle.std.specs.Option.{option_or}
use Rattle.line_tables.specs.Line.{LineView}
use Rattle.std.proofs.lemmas.List.Elements.{All-nil}
use Rattle.restrictions.specs.Force.{zones_of}
use Rattle.unit_rules.specs.Zone.{LiesOn}
use Rattle.unit_rules.specs.declared.Zone.{Zone}
use Rattle.run_io.specs.Fetches.{Files}
use Rattle.run_io.specs.Told.{Told}
use Rattle.unit_rules.specs.Memory.{Gives}
use Rattle.unit_rules.specs.Limits.{most_bytes}
use Rattle.run_files.specs.Files.{AreInForce, Blames, BlamesFile, File, IsRead, IsRefusal, Reading, edits_files, edits_reading, fault_for, fault_in, fault_of, file_for, file_read, line_reading, plan_file, plan_reading, refusal, table_in, table_of}
use Rattle.run_files.specs.Loads.{Fetched, IsReason, LoadStops, Loads, MayRefuse, edits_read, file_named}
use Rattle.run_files.specs.Statuses.{edits_number, plan_number}
use Rattle.run_files.specs.declared.status.Status.{Status}
use Rattle.run_files.specs.declared.status.Status.TheVariants.{Memory, TooLong}
use Rattle.run_files.proofs.ToldFacts.{IfSome-along, IfSome-both}

-- nothing is in the way of the first files, so what is in the way of the later ones is in the way of all
refusal-later : (files : Files) (a b : List File) → refusal files a ≡ None → refusal files (a ++ b) ≡ refusal files b
refusal-later files [] b e = refl
refusal-later files (f ∷ fs) b e = at (fault_in files f (files f.name)) refl (refusal-later files fs b)
  where
    at : (o : Option Status) → fault_in files f (files f.name) ≡ o → (refusal files fs ≡ None → refusal files (fs ++ b) ≡ refusal files b) → refusal files ((f ∷ fs) ++ b) ≡ refusal files b
    at None is later = rw is (later (rw is at e))
    at (Some s) is later = let absent : Some s ≡ None = rw is at e in absurd (cc absent)

refusal-first : (files : Files) (a b : List File) (s : Status) → refusal files a ≡ Some s → refusal files (a ++ b) ≡ Some s
refusal-first files [] b s e = absurd (cc e)
refusal-first files (f ∷ fs) b s e = at (fault_in files f (files f.name)) refl (refusal-first files fs b s)
  where
    at : (o : Option Status) → fault_in files f (files f.name) ≡ o → (refusal files fs ≡ Some s → refusal files (fs ++ b) ≡ Some s) → refusal files ((f ∷ fs) ++ b) ≡ Some s
    at None is first = rw is (first (rw is at e))
    at (Some r) is first = rw is (rw is at e)

refusal-one : (files : Files) (f : File) (o : Option Status) → fault_in files f (files f.name) ≡ o → refusal files (f ∷ []) ≡ o
refusal-one files f None e = rw e refl
refusal-one files f (Some s) e = rw e refl

Blames-first : (old new : Told Files) (a b : List File) (s : Status) → Blames old new a s → Blames old new (a ++ b) s
Blames-first old new [] b s h = absurd h
Blames-first old new (f ∷ fs) b s (inl h) = inl h
Blames-first old new (f ∷ fs) b s (inr h) = inr (Blames-first old new fs b s h)

Blames-later : (old new : Told Files) (a b : List File) (s : Status) → Blames old new b s → Blames old new (a ++ b) s
Blames-later old new [] b s h = h
Blames-later old new (f ∷ fs) b s h = inr (Blames-later old new fs b s h)

-- over more time
BlamesFile-before : (old mid new : Told Files) (f : File) (s : Status) → mid.holds ≡ old.holds → old.faults ≤ mid.faults → BlamesFile mid new f s → BlamesFile old new f s
BlamesFile-before old mid new f s same later (inl (e, inl rose)) = inl (e, inl (omega (arith, later, rose)))
BlamesFile-before old mid new f s same later (inl (e, inr absent)) = inl (e, inr (rw same at absent))
BlamesFile-before old mid new f s same later (inr h) = inr h

Blames-before : (old mid new : Told Files) (reads : List File) (s : Status) → mid.holds ≡ old.holds → old.faults ≤ mid.faults → Blames mid new reads s → Blames old new reads s
Blames-before old mid new [] s same later h = absurd h
Blames-before old mid new (f ∷ fs) s same later (inl h) = inl (BlamesFile-before old mid new f s same later h)
Blames-before old mid new (f ∷ fs) s same later (inr h) = inr (Blames-before old mid new fs s same later h)

-- where the first files are not loaded, all are not
pub Loads-first : {T U : Type 0} (a b : List File) (old new : Told Files) (s : Status) (result : Result U Status) → result ≡ Err s → Loads {T = T} a old new (Err s) → Loads (a ++ b) old new result
Loads-first a b old new s result e h = rw e (record { same = h.same; later = h.later; loaded = tt; stopped = at h.stopped })
  where
    at : LoadStops a old new s → LoadStops (a ++ b) old new s
    at (inl memory) = inl memory
    at (inr refused) = inr (record { blames = Blames-first old new a b s refused.blames; reason = reason refused.reason })
      where
        reason : IsReason a old new s → IsReason (a ++ b) old new s
        reason (inl rose) = inl rose
        reason (inr first) = inr (IfSome-along old.holds _ _ (λ files k. refusal-first files a b s k) first)

-- nor where those behind them are not
pub Loads-behind : {T U V : Type 0} (a b : List File) (old mid new : Told Files) (s : Status) (table : T) (result : Result V Status) → result ≡ Err s → Loads a old mid (Ok table) → Loads {T = U} b mid new (Err s)
    → Loads (a ++ b) old new result
Loads-behind a b old mid new s table result e h k = rw e (record { same = k.same ∙ h.same; later = omega (arith, h.later, k.later); loaded = tt; stopped = at k.stopped })
  where
    at : LoadStops b mid new s → LoadStops (a ++ b) old new s
    at (inl memory) = inl memory
    at (inr refused) = inr (record { blames = Blames-later old new a b s (Blames-before old mid new b s h.same h.later refused.blames); reason = reason refused.reason })
      where
        reason : IsReason b mid new s → IsReason (a ++ b) old new s
        reason (inl (is, rose)) = inl (is, omega (arith, h.later, rose))
        reason (inr first) = inr (IfSome-both old.holds _ _ _ (λ files none k. refusal-later files a b none ∙ k) h.loaded (rw h.same at first))

-- where the first and those behind them are loaded, all are
pub Loads-all : {T U V : Type 0} (a b : List File) (old mid new : Told Files) (x : T) (y : U) (z : V) → Loads a old mid (Ok x) → Loads b mid new (Ok y) → Loads (a ++ b) old new (Ok z)
Loads-all a b old mid new x y z h k = record {
  same = k.same ∙ h.same;
  later = omega (arith, h.later, k.later);
  loaded = IfSome-both old.holds _ _ _ (λ files none more. refusal-later files a b none ∙ more) h.loaded (rw h.same at k.loaded);
  stopped = tt;
}

-- files that are judged in another way, but alike where files are told, are loaded alike
Loads-judged : {T : Type 0} (reads others : List File) (old new : Told Files) (result : Result T Status) → ((s : Status) → Blames old new reads s → Blames old new others s)
    → IfSome old.holds (λ files. refusal files reads ≡ refusal files others) → Loads reads old new result → Loads others old new result
Loads-judged {T} reads others old new result blames alike h = record { same = h.same; later = h.later; loaded = loaded result h.loaded; stopped = stopped result h.stopped }
  where
    loaded : (r : Result T Status) → IfOk r (λ t. IfSome old.holds (λ files. refusal files reads ≡ None)) → IfOk r (λ t. IfSome old.holds (λ files. refusal files others ≡ None))
    loaded (Ok t) k = IfSome-both old.holds _ _ _ (λ files same none. sym same ∙ none) alike k
    loaded (Err s) k = tt

    reason : (s : Status) → IsReason reads old new s → IsReason others old new s
    reason s (inl rose) = inl rose
    reason s (inr first) = inr (IfSome-both old.holds _ _ _ (λ files same is. sym same ∙ is) alike first)

    stops : (s : Status) → LoadStops reads old new s → LoadStops others old new s
    stops s (inl memory) = inl memory
    stops s (inr refused) = inr (record { blames = blames s refused.blames; reason = reason s refused.reason })

    stopped : (r : Result T Status) → IfErr r (LoadStops reads old new) → IfErr r (LoadStops others old new)
    stopped (Ok t) k = tt
    stopped (Err s) k = stops s k

-- a file that is read for the line of a file has the fault that it has for that line
fault-for : {T : Type 0} (number : ℕ) (reading : LineView → Reading T) (line_name name : List ℕ) (line : LineView) (files : Files) (o : Option (List ℕ)) → (reading line).number ≡ number
    → table_in line_reading (files line_name) ≡ Some line → fault_in files (file_read (reading line) name) o ≡ fault_in files (file_for number reading line_name name) o
fault-for number reading line_name name line files None is at = refl
fault-for number reading line_name name line files (Some bytes) is at =
    let judged : fault_of ((reading line).read bytes) ≡ fault_for reading (table_in line_reading (files line_name)) bytes = rw at refl in
    λ k. if nat_lt most_bytes (length bytes) then Some (TooLong (is k)) else judged k

-- the files of a plan and of edits that were read for the line of a file
orders-alike : (line_name plan_name : List ℕ) (edits_name : Option (List ℕ)) (line : LineView) (files : Files) → table_in line_reading (files line_name) ≡ Some line
    → refusal files (file_read (plan_reading line) plan_name ∷ edits_read line edits_name) ≡ refusal files (plan_file line_name plan_name ∷ edits_files line_name edits_name)
orders-alike line_name plan_name None line files at = λ k. option_or (fault-for plan_number plan_reading line_name plan_name line files (files plan_name) refl at k) None
orders-alike line_name plan_name (Some name) line files at = λ k.
    option_or (fault-for plan_number plan_reading line_name plan_name line files (files plan_name) refl at k) (option_or (fault-for edits_number edits_reading line_name name line files (files name) refl at k) None)

orders-blame : (line_name plan_name : List ℕ) (edits_name : Option (List ℕ)) (line : LineView) (old new : Told Files) (s : Status)
    → Blames old new (file_read (plan_reading line) plan_name ∷ edits_read line edits_name) s → Blames old new (plan_file line_name plan_name ∷ edits_files line_name edits_name) s
orders-blame line_name plan_name None line old new s h = h
orders-blame line_name plan_name (Some name) line old new s h = h

pub Loads-orders : {T : Type 0} (line_name plan_name : List ℕ) (edits_name : Option (List ℕ)) (line : LineView) (old mid new : Told Files) (result : Result T Status) → mid.holds ≡ old.holds
    → IsRead line_reading old.holds line_name line → Loads (file_read (plan_reading line) plan_name ∷ edits_read line edits_name) mid new result
    → Loads (plan_file line_name plan_name ∷ edits_files line_name edits_name) mid new result
Loads-orders line_name plan_name edits_name line old mid new result same at h =
    Loads-judged _ _ mid new result (orders-blame line_name plan_name edits_name line mid new) (rw same (IfSome-along old.holds _ _ (λ files is. orders-alike line_name plan_name edits_name line files is) at.same)) h

-- bytes of a file that are not too many
fault_in-short : (files : Files) (f : File) (bytes : List ℕ) → length bytes ≤ most_bytes → fault_in files f (Some bytes) ≡ f.judge files bytes
fault_in-short files f bytes short = grind (arith, short)

-- what stands in the way of fetching a file stands in the way of reading it
pub Loads-unfetched : {T U : Type 0} (f : File) (old new : Told Files) (s : Status) (result : Result U Status) → result ≡ Err s → Loads {T = T} (file_named f.number f.name ∷ []) old new (Err s)
    → Loads (f ∷ []) old new result
Loads-unfetched f old new s result e h = rw e (record { same = h.same; later = h.later; loaded = tt; stopped = at h.stopped })
  where
    judged : (files : Files) (there : Option (List ℕ)) → files f.name ≡ there → refusal files (file_named f.number f.name ∷ []) ≡ Some s → refusal files (f ∷ []) ≡ Some s
    judged files None is k = rw is (rw is at k)
    judged files (Some bytes) is k = long (nat_lt most_bytes (length bytes)) refl
      where
        long : (b : Bool) → nat_lt most_bytes (length bytes) ≡ b → refusal files (f ∷ []) ≡ Some s
        long true more = rw (is, more) (rw (is, more) at k)
        long false less = let none : None ≡ Some s = rw (is, less) at k in absurd (cc none)

    at : LoadStops (file_named f.number f.name ∷ []) old new s → LoadStops (f ∷ []) old new s
    at (inl memory) = inl memory
    at (inr refused) = inr (record { blames = refused.blames; reason = reason refused.reason })
      where
        reason : IsReason (file_named f.number f.name ∷ []) old new s → IsReason (f ∷ []) old new s
        reason (inl rose) = inl rose
        reason (inr first) = inr (IfSome-along old.holds _ _ (λ files k. judged files (files f.name) refl k) first)

-- what a reader gives for the bytes of a file, or its want of memory, loads the file or says why it is not loaded
pub Loads-read : {T : Type 0} (reading : Reading T) (name bytes : List ℕ) (old new : Told Files) {U : Type 0} (fetched : U) (result : Result T Status)
    → MayRefuse reading.number (reading.read bytes) → Loads (file_named reading.number name ∷ []) old new (Ok fetched) → Fetched old.holds name bytes
    → Gives (Err Memory) (reading.read bytes) result → Loads (file_read reading name ∷ []) old new result
Loads-read {T} reading name bytes old new fetched result refuses h at (inl e) =
    rw e (record { same = h.same; later = h.later; loaded = tt; stopped = inl refl })
Loads-read {T} reading name bytes old new fetched result refuses h at (inr e) = by result e
  where
    judged : (r : Result T Status) → r ≡ reading.read bytes → IfSome old.holds (λ files. refusal files (file_read reading name ∷ []) ≡ fault_of r)
    judged r is = IfSome-along old.holds _ _ (λ files there. refusal-one files (file_read reading name) (fault_of r)
        (rw there (fault_in-short files (file_read reading name) bytes at.short ∙ ap fault_of (sym is)))) at.same

    by : (r : Result T Status) → r ≡ reading.read bytes → Loads (file_read reading name ∷ []) old new r
    by (Ok table) is = record { same = h.same; later = h.later; loaded = judged (Ok table) is; stopped = tt }
    by (Err s) is = record { same = h.same; later = h.later; loaded = tt; stopped = stops (rw (sym is) at refuses) }
      where
        stops : (s ≡ Memory) ⊎ IsRefusal reading.number s → LoadStops (file_read reading name ∷ []) old new s
        stops (inl memory) = inl memory
        stops (inr refusal) = inr (record { blames = inl (inr refusal); reason = inr (judged (Err s) is) })

-- and its table is that of the file
pub IsRead-given : {T : Type 0} (reading : Reading T) (name bytes : List ℕ) (told : Option Files) (result : Result T Status)
    → IfOk result reading.keeps → Fetched told name bytes → Gives (Err Memory) (reading.read bytes) result → IfOk result (IsRead reading told name)
IsRead-given reading name bytes told result kept at (inl e) = rw e tt
IsRead-given {T} reading name bytes told (Ok table) kept at (inr e) = record { kept = kept; same = IfSome-along told _ _ (λ files there. is_table files there) at.same }
  where
    is_table : (files : Files) → files name ≡ Some bytes → table_in reading (files name) ≡ Some table
    is_table files there = rw there (ap table_of (sym e))
IsRead-given reading name bytes told (Err s) kept at (inr e) = tt

-- the zones of restrictions that a file of edits leaves in force lie on its line
pub AreInForce-lie : (line : LineView) (name : Option (List ℕ)) (told : Option Files) (force : List (List ℕ × Zone)) → AreInForce line name told force → All (LiesOn line.length) (zones_of force)
AreInForce-lie line None told force none = rw none (All-nil (LiesOn line.length))
AreInForce-lie line (Some name) told force at = at.kept
