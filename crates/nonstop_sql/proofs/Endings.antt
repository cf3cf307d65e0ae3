-- How the parts of a run end, put together.
use Rattle.std.proofs.Common.{◌≡◌, ◌≢◌, ℕ, ◌+◌, ◌<◌, ◌≤◌, List, [], length, take, drop, Bool, Option, Some, None, Err, IfSome, IsSome, ◌⊎◌, ◌↔◌, inl, inr, refl, ap, sym, ◌∙◌, subst, arith}
use Rattle.std.specs.Io.KnownBytes.{Appends, Keeps}
use Rattle.std.specs.Prelude.{count_by, not, ◌==◌}
use Rattle.std.specs.List.{suffix_len}
use Rattle.std.proofs.lemmas.Bool.{cases_lt}
use Rattle.std.proofs.lemmas.List.{take_all, drop_all, take-take, length-take-le}
use Rattle.outside.specs.Counter.{Rose}
use Rattle.statement_reader.specs.Spells.{FaultOf, Spells, ReadsAs, IsFault, IsRefusal}
use Rattle.statement_words.specs.Words.{words_of}
use Rattle.nonstop_sql.specs.declared.commands.Command.{Command}
use Rattle.nonstop_sql.specs.declared.commands.Command.TheVariants as command
use Rattle.statement_reader.specs.declared.faults.ReadFault.{ReadFault}
use Rattle.statement_reader.specs.declared.faults.ReadFault.TheVariants as reads
use Rattle.statement_draft.specs.declared.faults.Reason.TheVariants.{TooLarge}
use Rattle.statement_reader.specs.declared.faults.ScriptFault.{ScriptFault}
use Rattle.sql_base.specs.declared.scripts.Script.{Script}
use Rattle.run_record.specs.declared.records.RunRecord.{RunRecord}
use Rattle.nonstop_sql.specs.declared.outcome.Outcome.{Outcome}
use Rattle.run_record.specs.Headline.{Headline}
use Rattle.record_text.specs.Summary.{IsSummary}
use Rattle.script_maker.specs.Making.{made}
use Rattle.nonstop_sql.specs.Ends.{Ends, EndsOnBytes, EndsOnSource, IsCut, IsDone, IsRun, IsSaid, KeepsRecord, LeavesCollectors, Makes, OnScript, Outside, ReadsScript, SpellsSuch, SpellsNone, WasRead, Writes, number_of, refusal_of}

abbrev pub bare : ℕ → Outcome
bare status = record { status = status; kept = None; fault = None }

pub Keeps-same : (known : Option (List ℕ)) → Keeps known known
Keeps-same None = tt
Keeps-same (Some bytes) = refl

not_one : (o : Outcome) → (o.status ≡ 0) ⊎ ((o.status ≡ 4) ⊎ (o.status ≡ 5)) → o.status ≡ 1 → ⊥
not_one o (inl e) h = omega (arith, e, h)
not_one o (inr (inl e)) h = omega (arith, e, h)
not_one o (inr (inr e)) h = omega (arith, e, h)

is_five : (o : Outcome) → (o.status ≡ 0) ⊎ ((o.status ≡ 4) ⊎ (o.status ≡ 5)) → o.status ≢ 0 → o.status ≢ 4 → o.status ≡ 5
is_five o (inl e) zero four = absurd (zero e)
is_five o (inr (inl e)) zero four = absurd (four e)
is_five o (inr (inr e)) zero four = e

none_there : {A : Type 0} {o : Option A} → o ≡ None → IsSome o → ⊥
none_there e h = subst (λ f. IsSome f → ⊥) (sym e) (λ k. absurd (cc)) h

-- the command and the outside of its run stay the same throughout
module _ (asked : Command) (out : Outside) where
  -- a status but 0 keeps no record
  no_record : (status : ℕ) → status ≢ 0 → IsSome {T = RunRecord} None ↔ ((status ≡ 0) × KeepsRecord asked)
  no_record status other = ((λ h. absurd (cc)), (λ h. absurd (other h.0)))

  -- the text that was made of the script is written whole
  pub written : (script : Script) (kept : Option RunRecord) (text : List ℕ) (taken taken' : Option (List ℕ)) (faults faults' : ℕ) → Makes asked out script kept text → Appends taken taken' text
      → Writes asked out script taken taken' faults faults' (record { status = 0; kept = kept; fault = None })
  written script kept text taken taken' faults faults' makes appends = record {
    status = inl refl;
    fault = refl;
    kept = ((λ h. (refl, keeps_record asked makes h)), λ h. has_record asked makes h.1);
    failed = λ h. absurd (omega arith);
    unwritten = λ h. absurd (omega arith);
    done = λ h. (text, makes, appends);
    cut = λ h. absurd (omega arith);
  }
    where
      keeps_record : (asked : Command) → Makes asked out script kept text → IsSome kept → KeepsRecord asked
      keeps_record command.Check m h = none_there m.0 h
      keeps_record command.Oracle m h = none_there m.0 h
      keeps_record (command.Steps choices trace) m h = tt
      keeps_record (command.Make number) m h = none_there m.0 h
      keeps_record (command.Trial number) m h = tt

      has_record : (asked : Command) → Makes asked out script kept text → KeepsRecord asked → IsSome kept
      has_record command.Check m h = absurd h
      has_record command.Oracle m h = absurd h
      has_record (command.Steps choices trace) m h = m.0
      has_record (command.Make number) m h = absurd h
      has_record (command.Trial number) m h = m.0

  -- a write failed behind a front of it
  pub broken : (script : Script) (kept : Option RunRecord) (text : List ℕ) (taken taken' : Option (List ℕ)) (faults faults' : ℕ) → Makes asked out script kept text
      → ((count : ℕ) × Appends taken taken' (take count text)) → Rose faults faults' → Writes asked out script taken taken' faults faults' (bare 4)
  broken script kept text taken taken' faults faults' makes appends rose = record {
    status = inr (inl refl);
    fault = refl;
    kept = no_record 4 (λ h. omega (arith, h));
    failed = λ h. rose;
    unwritten = λ h. absurd (omega arith);
    done = λ h. absurd (omega arith);
    cut = λ h. (kept, text, makes, appends);
  }

  -- memory was short while it was made
  pub unmade : (script : Script) (taken taken' : Option (List ℕ)) (faults faults' : ℕ) → Keeps taken taken' → Writes asked out script taken taken' faults faults' (bare 5)
  unmade script taken taken' faults faults' keeps = record {
    status = inr (inr refl);
    fault = refl;
    kept = no_record 5 (λ h. omega (arith, h));
    failed = λ h. absurd (omega arith);
    unwritten = λ h. keeps;
    done = λ h. absurd (omega arith);
    cut = λ h. absurd (omega arith);
  }

  -- something was made of a script that the bytes spell
  pub bytes-made : (bytes : List ℕ) (script : Script) (taken taken' : Option (List ℕ)) (faults faults' : ℕ) (o : Outcome) → Spells bytes script
      → Writes asked out script taken taken' faults faults' o → EndsOnBytes asked out bytes taken taken' faults faults' o
  bytes-made bytes script taken taken' faults faults' o found writes = record {
    status = inr writes.status;
    fault = (λ h. absurd (not_one o writes.status h), λ h. absurd (none_there writes.fault h));
    kept = writes.kept;
    refused = λ h. absurd (not_one o writes.status h);
    refuses = λ none. absurd (none script found);
    failed = writes.failed;
    unwritten = λ zero four. writes.unwritten (is_five o writes.status zero four);
    done = λ h. (script, found, writes.done h);
    cut = λ h. (script, found, writes.cut h);
  }

  -- bytes that spell none were refused
  pub bytes-refused : (bytes : List ℕ) (fault : ScriptFault) (taken taken' : Option (List ℕ)) (faults faults' : ℕ) → SpellsNone bytes → IsFault bytes fault
      → Keeps taken taken' → EndsOnBytes asked out bytes taken taken' faults faults' (record { status = 1; kept = None; fault = Some fault })
  bytes-refused bytes fault taken taken' faults faults' none is keeps = record {
    status = inl refl;
    fault = (λ h. refl, λ h. refl);
    kept = no_record 1 (λ h. omega (arith, h));
    refused = λ h. (none, is);
    refuses = λ h. inl refl;
    failed = λ h. absurd (omega arith);
    unwritten = λ zero four. keeps;
    done = λ h. absurd (omega arith);
    cut = λ h. absurd (omega arith);
  }

  -- memory was short while they were read
  pub bytes-short : (bytes : List ℕ) (taken taken' : Option (List ℕ)) (faults faults' : ℕ) → Keeps taken taken' → EndsOnBytes asked out bytes taken taken' faults faults' (bare 5)
  bytes-short bytes taken taken' faults faults' keeps = record {
    status = inr (inr (inr refl));
    fault = (λ h. absurd (omega arith), λ h. absurd (cc));
    kept = no_record 5 (λ h. omega (arith, h));
    refused = λ h. absurd (omega arith);
    refuses = λ h. inr refl;
    failed = λ h. absurd (omega arith);
    unwritten = λ zero four. keeps;
    done = λ h. absurd (omega arith);
    cut = λ h. absurd (omega arith);
  }

  -- the reader gave no script
  pub reader-refused : (bytes : List ℕ) (error : ReadFault) (taken taken' : Option (List ℕ)) (faults faults' : ℕ) → ((s : Script) → Spells bytes s → ReadsAs (Err error) s)
      → IsRefusal bytes error → Keeps taken taken' → EndsOnBytes asked out bytes taken taken' faults faults' (refusal_of error)
  reader-refused bytes (reads.Script fault) taken taken' faults faults' only refusal keeps = bytes-refused bytes fault taken taken' faults faults' only refusal keeps
  reader-refused bytes reads.NoMemory taken taken' faults faults' only refusal keeps = bytes-short bytes taken taken' faults faults' keeps

-- the most bytes that a script has, and one more
abbrev pub front_of : List ℕ → List ℕ
front_of bytes = take 4194305 bytes

-- where a front is within the limit it is the whole
whole : (bytes : List ℕ) → length bytes ≤ 4194304 → front_of bytes ≡ bytes
whole bytes within = take_all 4194305 bytes (omega arith)

front_within : (bytes : List ℕ) → length (front_of bytes) ≤ 4194304 → length bytes ≤ 4194304
front_within bytes within = by_cases (cases_lt 4194304 (length bytes))
  where
    by_cases : (4194304 < length bytes) ⊎ (length bytes ≤ 4194304) → length bytes ≤ 4194304
    by_cases (inr le) = le
    by_cases (inl lt) = absurd (omega (arith, within, length-take-le 4194305 bytes (omega arith)))

spells-whole : (bytes : List ℕ) (script : Script) → Spells (front_of bytes) script → Spells bytes script
spells-whole bytes script spelled = subst (λ b. Spells b script) (whole bytes (front_within bytes spelled.within)) spelled

spells-front : (bytes : List ℕ) (script : Script) → Spells bytes script → Spells (front_of bytes) script
spells-front bytes script spelled = subst (λ b. Spells b script) (sym (whole bytes spelled.within)) spelled

-- the place behind the bytes before it
abbrev pub fault_behind : List ℕ → ScriptFault
fault_behind before = record { line = 1 + count_by (λ b. b == 10) before; column = 1 + suffix_len (λ b. not (b == 10)) before; reason = TooLarge }

-- a fault of the front is one of the whole
fault-whole : (bytes : List ℕ) (fault : ScriptFault) → IsFault (front_of bytes) fault → IsFault bytes fault
fault-whole bytes fault is = record {
  beyond = λ lt. is.beyond (omega (arith, length-take-le 4194305 bytes (omega arith))) ∙ ap fault_behind (take-take 4194304 4194305 bytes (omega arith));
  within = λ le. subst (λ b. FaultOf b fault (words_of b)) (whole bytes le) (is.within (subst (λ b. length b ≤ 4194304) (sym (whole bytes le)) le));
}

refused-whole : (bytes : List ℕ) (why : Option ScriptFault) → SpellsNone (front_of bytes) × IfSome why (IsFault (front_of bytes)) → SpellsNone bytes × IfSome why (IsFault bytes)
refused-whole bytes None h = ((λ s spelled. h.0 s (spells-front bytes s spelled)), tt)
refused-whole bytes (Some fault) h = ((λ s spelled. h.0 s (spells-front bytes s spelled)), fault-whole bytes fault h.1)

none-front : (bytes : List ℕ) → SpellsNone bytes → SpellsNone (front_of bytes)
none-front bytes none s spelled = none s (spells-whole bytes s spelled)

-- the front of what a source told was read, and something made of it
on_whole : (asked : Command) (out : Outside) (bytes : List ℕ) (left' taken taken' : Option (List ℕ)) (faults faults' : ℕ) (o : Outcome)
    → EndsOnBytes asked out (front_of bytes) taken taken' faults faults' o → left' ≡ Some (drop 4194305 bytes) → EndsOnSource bytes left' o
on_whole asked out bytes left' taken taken' faults faults' o ends rest = record {
  refused = λ h. refused-whole bytes o.fault (ends.refused h);
  refuses = λ none. refused_or_short (ends.refuses (none-front bytes none));
  read_whole = λ h. let within : length bytes ≤ 4194304 = front_within bytes (ends.done h).1.within in rest ∙ ap Some (drop_all 4194305 bytes (omega arith));
  read_on = λ h. rest;
}
  where
    refused_or_short : (o.status ≡ 1) ⊎ (o.status ≡ 5) → (o.status ≡ 1) ⊎ ((o.status ≡ 3) ⊎ (o.status ≡ 5))
    refused_or_short (inl e) = inl e
    refused_or_short (inr e) = inr (inr e)

-- what the source had left, if it told it
on_left : (asked : Command) (out : Outside) (left left' taken taken' : Option (List ℕ)) (bytes : List ℕ) (faults faults' : ℕ) (o : Outcome) → EndsOnBytes asked out bytes taken taken' faults faults' o
    → IfSome left (λ l. bytes ≡ front_of l) → IfSome left (λ l. left' ≡ Some (drop 4194305 l)) → IfSome left (λ l. EndsOnSource l left' o)
on_left asked out None left' taken taken' bytes faults faults' o ends front rest = tt
on_left asked out (Some l) left' taken taken' bytes faults faults' o ends front rest =
    on_whole asked out l left' taken taken' faults faults' o (subst (λ b. EndsOnBytes asked out b taken taken' faults faults' o) front ends) rest

status_of_bytes : (o : Outcome) → (o.status ≡ 1) ⊎ ((o.status ≡ 0) ⊎ ((o.status ≡ 4) ⊎ (o.status ≡ 5))) → (o.status ≤ 5) × (o.status ≢ 2) × (o.status ≢ 3)
status_of_bytes o (inl e) = (omega (arith, e), (λ h. omega (arith, e, h)), (λ h. omega (arith, e, h)))
status_of_bytes o (inr (inl e)) = (omega (arith, e), (λ h. omega (arith, e, h)), (λ h. omega (arith, e, h)))
status_of_bytes o (inr (inr (inl e))) = (omega (arith, e), (λ h. omega (arith, e, h)), (λ h. omega (arith, e, h)))
status_of_bytes o (inr (inr (inr e))) = (omega (arith, e), (λ h. omega (arith, e, h)), (λ h. omega (arith, e, h)))

-- the script that was read is the one that the source's bytes spell
was_read : (left : Option (List ℕ)) (bytes : List ℕ) (P : Script → Type 0) → IfSome left (λ l. bytes ≡ front_of l) → SpellsSuch bytes P → WasRead left P
was_read None bytes P front spelled = (bytes, tt, spelled)
was_read (Some l) bytes P front spelled =
    let within : length (front_of l) ≤ 4194304 = subst (λ b. length b ≤ 4194304) front spelled.1.within in
    (bytes, sym (front ∙ whole l (front_within l within)), spelled)

module _ (asked : Command) (out : Outside) (left left' taken taken' : Option (List ℕ)) (read_faults read_faults' write_faults write_faults' : ℕ) where
  -- a command that reads its script is told so
  reading : (o : Outcome) → number_of asked ≡ None → IfSome left (λ l. EndsOnSource l left' o) → ReadsScript (number_of asked) left left' read_faults read_faults' o
  reading o reads h = subst (λ n. ReadsScript n left left' read_faults read_faults' o) (sym reads) h

  of_read : (P : Script → Type 0) → number_of asked ≡ None → WasRead left P → OnScript (number_of asked) left P
  of_read P reads h = subst (λ n. OnScript n left P) (sym reads) h

  -- the bytes were read, and something was made of them
  pub source-read : number_of asked ≡ None → (bytes : List ℕ) (o : Outcome) → EndsOnBytes asked out bytes taken taken' write_faults write_faults' o → IfSome left (λ l. bytes ≡ front_of l)
      → IfSome left (λ l. left' ≡ Some (drop 4194305 l)) → Ends asked out left left' read_faults read_faults' taken taken' write_faults write_faults' o
  source-read reads bytes o ends front rest = record {
    status = (status_of_bytes o ends.status).0;
    words_stand = (status_of_bytes o ends.status).1;
    fault = ends.fault;
    kept = ends.kept;
    read_failed = λ h. absurd ((status_of_bytes o ends.status).2 h);
    write_failed = ends.failed;
    unwritten = ends.unwritten;
    told = reading o reads (on_left asked out left left' taken taken' bytes write_faults write_faults' o ends front rest);
    done = λ h. of_read (IsDone asked out taken taken' o.kept) reads (was_read left bytes (IsDone asked out taken taken' o.kept) front (ends.done h));
    cut = λ h. of_read (IsCut asked out taken taken') reads (was_read left bytes (IsCut asked out taken taken') front (ends.cut h));
  }

  -- a read failed
  pub source-unread : number_of asked ≡ None → Rose read_faults read_faults' → Keeps taken taken' → Ends asked out left left' read_faults read_faults' taken taken' write_faults write_faults' (bare 3)
  source-unread reads rose keeps = record {
    status = omega arith;
    words_stand = λ h. omega (arith, h);
    fault = (λ h. absurd (omega arith), λ h. absurd (cc));
    kept = no_record asked out 3 (λ h. omega (arith, h));
    read_failed = λ h. rose;
    write_failed = λ h. absurd (omega arith);
    unwritten = λ zero four. keeps;
    told = reading (bare 3) reads (on_told left);
    done = λ h. absurd (omega arith);
    cut = λ h. absurd (omega arith);
  }
    where
      on_told : (left : Option (List ℕ)) → IfSome left (λ l. EndsOnSource l left' (bare 3))
      on_told None = tt
      on_told (Some l) = record {
        refused = λ h. absurd (omega arith);
        refuses = λ none. inr (inl refl);
        read_whole = λ h. absurd (omega arith);
        read_on = λ h. absurd (omega arith);
      }

  -- memory was short while the source was read
  pub source-short : number_of asked ≡ None → Keeps taken taken' → Ends asked out left left' read_faults read_faults' taken taken' write_faults write_faults' (bare 5)
  source-short reads keeps = record {
    status = omega arith;
    words_stand = λ h. omega (arith, h);
    fault = (λ h. absurd (omega arith), λ h. absurd (cc));
    kept = no_record asked out 5 (λ h. omega (arith, h));
    read_failed = λ h. absurd (omega arith);
    write_failed = λ h. absurd (omega arith);
    unwritten = λ zero four. keeps;
    told = reading (bare 5) reads (on_told left);
    done = λ h. absurd (omega arith);
    cut = λ h. absurd (omega arith);
  }
    where
      on_told : (left : Option (List ℕ)) → IfSome left (λ l. EndsOnSource l left' (bare 5))
      on_told None = tt
      on_told (Some l) = record {
        refused = λ h. absurd (omega arith);
        refuses = λ none. inr (inr refl);
        read_whole = λ h. absurd (omega arith);
        read_on = λ h. absurd (omega arith);
      }

-- what was kept of `steps` with status 0 is the record of a run of some script
pub kept-of-run : {choices : List ℕ} {trace : Bool} {out : Outside} {left left' taken taken' : Option (List ℕ)} {reads reads' writes writes' : ℕ} {o : Outcome}
    → Ends (command.Steps choices trace) out left left' reads reads' taken taken' writes writes' o → o.status ≡ 0 → (script : Script) × IfSome o.kept (Headline script)
kept-of-run {choices = choices} {trace = trace} {out = out} {o = o} ended zero =
    let (bytes, told, (script, spells, (text, makes, appends))) = ended.done zero in (script, headlined script text o.kept makes.1)
  where
    headlined : (script : Script) (text : List ℕ) (kept : Option RunRecord) → IfSome kept (λ k. IsRun choices out.wires script k × IsSaid trace out.collectors out.collectors' script k text) → IfSome kept (Headline script)
    headlined script text None h = tt
    headlined script text (Some k) h = h.0.headline

-- and of `trial` the record of a run of the script that is made
pub kept-of-trial : {number : ℕ} {out : Outside} {left left' taken taken' : Option (List ℕ)} {reads reads' writes writes' : ℕ} {o : Outcome}
    → Ends (command.Trial number) out left left' reads reads' taken taken' writes writes' o → o.status ≡ 0 → IfSome o.kept (Headline (made number))
kept-of-trial {number = number} {out = out} {o = o} ended zero =
    let (text, makes, appends) = ended.done zero in headlined text o.kept makes.1
  where
    headlined : (text : List ℕ) (kept : Option RunRecord) → IfSome kept (λ k. IsRun [] out.wires (made number) k × IsSummary (made number) k text) → IfSome kept (Headline (made number))
    headlined text None h = tt
    headlined text (Some k) h = h.0.headline

-- collectors are left as they were at status 1, 2 and 3
pub unseen-alone : {P : Type 0} (asked : Command) (status : ℕ) → status ≢ 2 → (LeavesCollectors asked status → P) → (status ≡ 1) ⊎ ((status ≡ 2) ⊎ (status ≡ 3)) → P
unseen-alone asked status stand leaves (inl e) = leaves (inr (inl e))
unseen-alone asked status stand leaves (inr (inl e)) = absurd (stand e)
unseen-alone asked status stand leaves (inr (inr e)) = leaves (inr (inr e))

-- what was made of a script that is itself made, without reading anything
pub made-alone : (asked : Command) (number : ℕ) (out : Outside) (left taken taken' : Option (List ℕ)) (faults write_faults write_faults' : ℕ) (o : Outcome) → number_of asked ≡ Some number
    → Writes asked out (made number) taken taken' write_faults write_faults' o → Ends asked out left left faults faults taken taken' write_faults write_faults' o
made-alone asked number out left taken taken' faults write_faults write_faults' o makes writes = record {
  status = status_written.0;
  words_stand = status_written.1;
  fault = (λ h. absurd (not_one o writes.status h), λ h. absurd (none_there writes.fault h));
  kept = writes.kept;
  read_failed = λ h. absurd (status_written.2 h);
  write_failed = writes.failed;
  unwritten = λ zero four. writes.unwritten (is_five o writes.status zero four);
  told = subst (λ n. ReadsScript n left left faults faults o) (sym makes) (record { left_as_it_was = refl; faults_as_they_were = refl; reads_on = status_written.2; refuses_nothing = not_one o writes.status });
  done = λ h. subst (λ n. OnScript n left (IsDone asked out taken taken' o.kept)) (sym makes) (writes.done h);
  cut = λ h. subst (λ n. OnScript n left (IsCut asked out taken taken')) (sym makes) (writes.cut h);
}
  where
    status_written : (o.status ≤ 5) × (o.status ≢ 2) × (o.status ≢ 3)
    status_written = status_of_bytes o (inr writes.status)
