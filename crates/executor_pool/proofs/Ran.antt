-- The run of a pool, from what its calls say of each other.
use Rattle.std.proofs.Common.{◌≡◌, ◌<◌, ◌++◌, ℕ, List, [], length, map, Ok, Err, IfOk, Result, refl, sym, ◌∙◌, All}
use Rattle.std.specs.Prelude.{slice_index_or}
use Rattle.std.specs.List.{AllByRecursion, AllZip, flat_map, range_with_len}
use Rattle.sql_base.specs.Scripts.{IsScript}
use Rattle.sql_base.specs.declared.faults.NoMemory.{NoMemory}
use Rattle.sql_base.specs.declared.scripts.Script.{Script}
use Rattle.driver_laws.specs.Carrying.{AllCarried, Telling}
use Rattle.requester_fs.specs.Asking.{Asking}
use Rattle.requester_fs.specs.Beginnings.{AreNew, EachAt}
use Rattle.run_record.specs.Legal.{Legal}
use Rattle.run_record.specs.Openings.{openings}
use Rattle.run_record.specs.declared.records.RunRecord.{RunRecord}
use Rattle.session_grammar.specs.declared.logs.LogEntry.{LogEntry}
use Rattle.turn_lock.specs.Pass.{LockId, new_pass}
use Rattle.executor_pool.specs.Closing.{server_in, session_in}
use Rattle.executor_pool.specs.Dealing.{AreShared, Opened}
use Rattle.executor_pool.specs.Doing.{IsBegun, IsDone, IsJob}
use Rattle.executor_pool.specs.Jobs.{JournalPass}
use Rattle.executor_pool.specs.Returning.{AreBack, IsKept, IsSet, Run}
use Rattle.executor_pool.specs.declared.jobs.Done.{Done}
use Rattle.executor_pool.specs.declared.jobs.Job.{Job}
use Rattle.executor_pool.specs.declared.jobs.Job.TheVariants as job
use Rattle.executor_pool.specs.declared.processes.Crew.{Crew}
use Rattle.executor_pool.specs.declared.processes.Shares.{Shares}
use Rattle.executor_pool.specs.declared.returned.Returned.{Returned}
use Rattle.executor_pool.specs.declared.tokens.Server.{Server}
use Rattle.executor_pool.proofs.Begun.{jobs_back, jobs_ready}

-- what holds of a result, and what follows from it
of_ok : {A E : Type 0} (P R : A → Type 0) → ((a : A) → P a → R a) → (r : Result A E) → IfOk r P → IfOk r R
of_ok P R so (Ok a) h = so a h
of_ok P R so (Err e) h = tt

module _ {Q W : Type 0} (asking : Q → Asking) (single : Q → Type 0) (allows : Q → List LogEntry → Type 0) (tell : W → Telling) (script : Script) (requesters : List Q) (told : List Telling) (crew : Crew) (s : Shares) (journal : LockId)
    (is_script : IsScript script) (new : AreNew asking script requesters) (singles : AllByRecursion single requesters) (sessions : crew.sessions ≡ length script.sessions)
    (shared : (opened : List Opened) × (map (λ (o : Opened). o.opening) opened ≡ openings script) × AreShared crew opened s) (passes : journal.passes ≡ crew.sessions)
    (commits : List JournalPass) (commits_are : commits ≡ map (new_pass journal (tt {0})) (range_with_len 0 crew.sessions))
    (jobs all : List (Job Q W)) (begun : EachAt (IsBegun tell requesters told (map (λ row. row.items) s.tokens.items) commits) jobs) (all_are : all ≡ jobs ++ map (λ (x : Server). job.Server x) s.servers.items) where
  abbrev run : Run Q
  run = record { script = script; requesters = requesters; told = told; crew = crew; opened = shared.0; journal = journal }

  set : IsSet run
  set = record { is_script = is_script; openings_are = shared.1; sessions = sym sessions; made_for = shared.2.made_for; passes = passes }

  -- all jobs have what they need
  pub ran_jobs : All (IsJob asking single s.processes.items journal) all
  ran_jobs = jobs_ready asking single allows tell run s.processes.items set shared.2.processes new singles (map (λ row. row.items) s.tokens.items) commits s.servers.items jobs all shared.2.tokens commits_are shared.2.servers all_are begun

  module _ (ended : List (Result (Done Q) NoMemory)) (r : Returned Q) (many : length jobs ≡ length requesters) (long : length ended ≡ length all)
      (each : (i : ℕ) (j : Job Q W) (e : Result (Done Q) NoMemory) → i < length all → IfOk (slice_index_or ended i e) (IsDone asking single allows tell s.processes.items journal (slice_index_or all i j)))
      (back : (dones : List (Done Q)) × (ended ≡ map Ok dones) × (r.sessions.items ≡ flat_map session_in dones) × (r.servers.items ≡ flat_map server_in dones)) where
    -- all that they were given is back
    pub ran_back : AreBack asking single allows run s.processes.items r
    ran_back =
        jobs_back asking single allows tell run s.processes.items set shared.2.processes new singles (map (λ row. row.items) s.tokens.items) commits s.servers.items jobs all shared.2.tokens commits_are shared.2.servers all_are begun
        ended r (many ∙ new.many ∙ sym sessions) long each back

    pub ran_as : (x : Run Q) × (x.crew ≡ crew) × (x.journal ≡ journal) × AreBack asking single allows x s.processes.items r
    ran_as = (run, refl, refl, ran_back)

    module _ (result : Result RunRecord NoMemory) (kept : IfOk result (λ (k : RunRecord). (x : Run Q) → x.crew ≡ crew → x.journal ≡ journal → AreBack asking single allows x s.processes.items r → IsKept allows x k)) where
      abbrev Keeps : RunRecord → Type 0
      Keeps k = (x : Run Q) → x.crew ≡ crew → x.journal ≡ journal → AreBack asking single allows x s.processes.items r → IsKept allows x k

      pub ran_legal : IfOk result (Legal script)
      ran_legal = of_ok Keeps (Legal script) (λ k keeps. (keeps run refl refl ran_back).legal) result kept

      pub ran_carried : IfOk result (AllCarried told)
      ran_carried = of_ok Keeps (AllCarried told) (λ k keeps. (keeps run refl refl ran_back).carried) result kept

      pub ran_allowed : IfOk result (λ (k : RunRecord). AllZip allows requesters k.logs)
      ran_allowed = of_ok Keeps (λ (k : RunRecord). AllZip allows requesters k.logs) (λ k keeps. (keeps run refl refl ran_back).allowed) result kept

      pub ran_no_acts : IfOk result (λ (k : RunRecord). k.acts ≡ [])
      ran_no_acts = of_ok Keeps (λ (k : RunRecord). k.acts ≡ []) (λ k keeps. (keeps run refl refl ran_back).no_acts) result kept
