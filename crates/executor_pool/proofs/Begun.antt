-- The jobs of a run have what they need as they begin, and what they hand back is what the record of the run is made of.
use Rattle.std.proofs.Common.{◌≡◌, ◌≤◌, ◌<◌, ◌+◌, ℕ, zero, suc, List, [], ◌∷◌, ◌++◌, length, map, replicate, Option, Some, None, Ok, Err, Result, IfOk, true, false, refl, ap, sym, ◌∙◌, subst, append_assoc, arith, All}
use Rattle.std.specs.Prelude.{slice_get, slice_index_or}
use Rattle.std.specs.List.{AllByRecursion, AllZip, flat_map, range_with_len}
use Rattle.std.proofs.lemmas.List.{length-map, length_push}
use Rattle.std.proofs.lemmas.List.Elements.{All-from_recursion}
use Rattle.sql_base.specs.Scripts.{parts_of}
use Rattle.sql_base.specs.declared.faults.NoMemory.{NoMemory}
use Rattle.sql_base.specs.declared.scripts.Script.{Script}
use Rattle.sql_base.proofs.ListFacts.{all-images, all-map, all_at, all_joined, all_places, range-length}
use Rattle.sql_base.proofs.Truths.{some-same}
use Rattle.one_thread.specs.One.{load_rows, loaded}
use Rattle.run_record.specs.Legal.{drawn_in}
use Rattle.run_record.specs.Openings.{openings}
use Rattle.run_record.proofs.OpeningLengths.{openings-length}
use Rattle.driver_laws.specs.Carrying.{Telling}
use Rattle.partition_state.specs.State.{State}
use Rattle.requester_fs.specs.Asking.{Asking}
use Rattle.requester_fs.specs.Beginnings.{AreNew, EachAt, IsLater, IsNew}
use Rattle.session_grammar.specs.Sessions.{Draws, Ends, Next, Sends}
use Rattle.session_grammar.specs.declared.logs.LogEntry.{LogEntry}
use Rattle.turn_lock.specs.Pass.{LockId, new_pass}
use Rattle.executor_pool.specs.Closing.{HasServed, server_in, session_in}
use Rattle.executor_pool.specs.Dealing.{Opened, server_to, servers_at, servers_from, tokens_to}
use Rattle.executor_pool.specs.Doing.{Begins, HasWorked, IsBegun, IsDone, IsJob}
use Rattle.executor_pool.specs.Jobs.{HasHeard, JournalPass, KeepsMail, KeepsPart}
use Rattle.executor_pool.specs.Returning.{AreBack, IsBack, IsSet, Run}
use Rattle.executor_pool.specs.Sessions.{IsSession, IsTold, MayBeLost, StillCommits, next_of, seen}
use Rattle.executor_pool.specs.Tokens.{AreOf, AreSame, IsAt, IsSameServer, Serves}
use Rattle.executor_pool.specs.declared.jobs.Done.{Done}
use Rattle.executor_pool.specs.declared.jobs.Done.TheVariants as done
use Rattle.executor_pool.specs.declared.jobs.Job.{Job}
use Rattle.executor_pool.specs.declared.jobs.Job.TheVariants as job
use Rattle.executor_pool.specs.declared.processes.Crew.{Crew}
use Rattle.executor_pool.specs.declared.processes.DiskProcess.{DiskProcess}
use Rattle.executor_pool.specs.declared.returned.Returned.{Returned}
use Rattle.executor_pool.specs.declared.sessions.SessionJob.{SessionJob}
use Rattle.executor_pool.specs.declared.tokens.Server.{Server}
use Rattle.executor_pool.specs.declared.tokens.Tokens.{Tokens}
use Rattle.executor_pool.proofs.Assembled.{source_at}

-- what holds place by place holds of two lists side by side
pub zip_indexed : {X Y : Type 0} (P : X → Y → Type 0) (xs : List X) (ys : List Y) → length ys ≡ length xs → ((i : ℕ) (x : X) (y : Y) → i < length xs → P (slice_index_or xs i x) (slice_index_or ys i y)) → AllZip P xs ys
zip_indexed P [] [] long each = tt
zip_indexed P [] (y ∷ ys) long each = absurd (omega (arith, long))
zip_indexed P (x ∷ xs) [] long each = absurd (omega (arith, long))
zip_indexed P (x ∷ xs) (y ∷ ys) long each = (each 0 x y (omega arith), zip_indexed P xs ys (omega (arith, long)) (λ i z w lt. each (suc i) z w (omega (arith, lt))))

-- the number at a place of a range
range_at : (a n i x : ℕ) → slice_get (range_with_len a n) i ≡ Some x → x ≡ a + i
range_at a zero i x is = absurd (cc is)
range_at a (suc n) zero x is = let none : a ≡ a + 0 = omega arith in sym (some-same a x is) ∙ none
range_at a (suc n) (suc i) x is = let more : a + 1 + i ≡ a + suc i = omega arith in range_at (a + 1) n i x is ∙ more

-- what was dealt under the number of a place
dealt_at : {X : Type 0} (f : ℕ → X) (n i : ℕ) (x : X) → slice_get (map f (range_with_len 0 n)) i ≡ Some x → x ≡ f i
dealt_at f n i x is =
    let found = source_at f (range_with_len 0 n) i x is in
    let zero_more : 0 + i ≡ i = omega arith in
    sym found.2 ∙ ap f (range_at 0 n i found.0 found.1 ∙ zero_more)

-- nothing is lost yet
fresh_may : (next : Next) → MayBeLost 0 next
fresh_may (Sends part sync request) = (omega arith, λ not_end. omega arith)
fresh_may (Draws name floor) = refl
fresh_may Ends = refl

tokens_of_processes : (at : ℕ) (opened : List Opened) → AllZip AreOf (map (λ (o : Opened). o.process) opened) (map (tokens_to at) opened)
tokens_of_processes at [] = tt
tokens_of_processes at (o ∷ opened) = (record { lock = refl; idle = refl; posts = refl; takes = refl }, tokens_of_processes at opened)

-- the servers serve partitions that are there
there_behind : {X Y : Type 0} (f : X → Y) (front : List X) (x : X) (rest : List X) → slice_get (map f (front ++ x ∷ rest)) (length front) ≡ Some (f x)
there_behind f [] x rest = refl
there_behind f (z ∷ front) x rest = there_behind f front x rest

servers_there : (crew : Crew) (front opened : List Opened) → AllByRecursion (IsAt (map (λ (o : Opened). o.process) (front ++ opened))) (servers_from crew (length front) opened)
servers_there crew front [] = tt
servers_there crew front (o ∷ opened) =
    let processes = map (λ (x : Opened). x.process) (front ++ o ∷ opened) in
    let at : length front + 1 ≡ length (front ++ o ∷ []) = sym (length_push front o) in
    let whole = append_assoc front (o ∷ []) opened in
    let later = subst (λ (os : List Opened). AllByRecursion (IsAt (map (λ (x : Opened). x.process) os)) (servers_from crew (length (front ++ o ∷ [])) opened)) whole (servers_there crew (front ++ o ∷ []) opened) in
    all_joined (IsAt processes) (servers_at crew (length front) o) (servers_from crew (length front + 1) opened)
    (all-images (IsAt processes) (server_to (length front) o) (λ n. (o.process, there_behind (λ (x : Opened). x.process) front o opened, record { lock = refl; idle = refl; takes = refl })) (range_with_len crew.sessions crew.servers))
    (subst (λ n. AllByRecursion (IsAt processes) (servers_from crew n opened)) (sym at) later)

module _ {Q W : Type 0} (asking : Q → Asking) (single : Q → Type 0) (allows : Q → List LogEntry → Type 0) (tell : W → Telling) (run : Run Q) (processes : List DiskProcess) (set : IsSet run) (processes_are : processes ≡ map (λ (o : Opened). o.process) run.opened)
    (new : AreNew asking run.script run.requesters) (singles : AllByRecursion single run.requesters) where
  abbrev rows : List (List Tokens)
  rows = map (λ n. map (tokens_to n) run.opened) (range_with_len 0 run.crew.sessions)

  abbrev commits : List JournalPass
  commits = map (new_pass run.journal (tt {0})) (range_with_len 0 run.crew.sessions)

  abbrev BeginsAt : ℕ → SessionJob Q → W → Type 0
  BeginsAt at s w = Begins tell run.requesters run.told rows commits at s w

  many_processes : length processes ≡ parts_of run.script.tables
  many_processes =
      let loads = length-map (range_with_len 0 (length run.script.tables)) (load_rows run.script.loads) in
      let ranged = range-length (length run.script.tables) 0 in
      ap length processes_are ∙ length-map run.opened (λ (o : Opened). o.process) ∙ sym (length-map run.opened (λ (o : Opened). o.opening)) ∙ ap length set.openings_are
      ∙ openings-length run.script.limits run.script.tables (loaded run.script).records (loads ∙ ranged)

  fresh_part : (at : ℕ) (a : Asking) (part : ℕ) (t : Tokens) → slice_get (map (tokens_to at) run.opened) part ≡ Some t → KeepsPart a part t
  fresh_part at a part t is = let found = source_at (tokens_to at) run.opened part t is in subst (KeepsPart a part) found.2 (record { posted = tt; served = tt })

  -- a session begins with all that it keeps
  pub begun_session : (at : ℕ) (s : SessionJob Q) (w : W) → BeginsAt at s w → IsSession run.script processes run.journal (seen asking s)
  begun_session at s w b =
      let n = new.each at s.requester b.requester in
      let tokens : s.tokens.items ≡ map (tokens_to at) run.opened = dealt_at (λ n. map (tokens_to n) run.opened) run.crew.sessions at s.tokens.items b.tokens in
      let pass : s.commits ≡ new_pass run.journal (tt {0}) at = dealt_at (new_pass run.journal (tt {0})) run.crew.sessions at s.commits b.commits in
      record {
        work = record {
          script_is = n.script_is;
          number_is = n.number_is ∙ sym b.number;
          asking = n.asking;
          heard = subst (AllByRecursion (HasHeard s.number s.tokens.items)) (sym n.log) tt;
          parts = λ part t is. fresh_part at (asking s.requester) part t (ap (λ (ts : List Tokens). slice_get ts part) (sym tokens) ∙ is);
          draws = ap (λ (p : JournalPass). map (λ placed. placed.1) p.mine) pass ∙ ap drawn_in (sym n.log);
        };
        one = n.one;
        of_parts = subst (λ (ds : List DiskProcess). AllZip AreOf ds s.tokens.items) (sym processes_are) (subst (AllZip AreOf (map (λ (o : Opened). o.process) run.opened)) (sym tokens) (tokens_of_processes at run.opened));
        parts = many_processes;
        journal_is = (ap (λ (p : JournalPass). p.lock) pass, ap (λ (p : JournalPass). p.holds) pass);
        losses = λ none. subst (λ (l : ℕ). MayBeLost l (next_of (seen asking s))) (sym b.losses) (fresh_may (next_of (seen asking s)));
        stops = λ stop is. absurd (let none = b.stop in cc);
      }

  begun_job : (at : ℕ) (j : Job Q W) → IsBegun tell run.requesters run.told rows commits at j → IsJob asking single processes run.journal j
  begun_job at (job.Session s w ticket) b = ((run.script, begun_session at s w b), all_at single run.requesters at s.requester singles b.requester)
  begun_job at (job.Server s) b = absurd b

  -- all jobs have what they need
  pub all_jobs : (jobs : List (Job Q W)) → EachAt (IsBegun tell run.requesters run.told rows commits) jobs → AllByRecursion (IsJob asking single processes run.journal) (jobs ++ map (λ (s : Server). job.Server s) (servers_from run.crew 0 run.opened))
  all_jobs jobs begun =
      let P = IsJob asking single processes run.journal in
      all_joined P jobs (map (λ (s : Server). job.Server s) (servers_from run.crew 0 run.opened)) (all_places P jobs (λ at j is. begun_job at j (begun at j is)))
      (all-map P (λ (s : Server). job.Server s) (servers_from run.crew 0 run.opened) (subst (λ (ds : List DiskProcess). AllByRecursion (IsAt ds) (servers_from run.crew 0 run.opened)) (sym processes_are) (servers_there run.crew [] run.opened)))

  abbrev D : Job Q W → Done Q → Type 0
  D = IsDone asking single allows tell processes run.journal

  zip_oks : (js : List (Job Q W)) (ds : List (Done Q)) → AllZip (λ (j : Job Q W) (r : Result (Done Q) NoMemory). IfOk r (D j)) js (map Ok ds) → AllZip D js ds
  zip_oks [] [] h = tt
  zip_oks [] (d ∷ ds) h = absurd h
  zip_oks (j ∷ js) [] h = absurd h
  zip_oks (j ∷ js) (d ∷ ds) h = (h.0, zip_oks js ds h.1)

  abbrev SameServer : Server → Server → Type 0
  SameServer a b = IsSameServer a b × (KeepsMail a → KeepsMail b)

  servers_only : (servers : List Server) (dones : List (Done Q)) → AllZip D (map (λ (s : Server). job.Server s) servers) dones → (flat_map session_in dones ≡ []) × AllZip SameServer servers (flat_map server_in dones)
  servers_only [] [] h = (refl, tt)
  servers_only [] (d ∷ dones) h = absurd h
  servers_only (s ∷ servers) [] h = absurd h
  servers_only (s ∷ servers) (done.Session x ∷ dones) h = absurd h.0
  servers_only (s ∷ servers) (done.Server x ∷ dones) h = let rest = servers_only servers dones h.1 in (rest.0, (h.0, rest.1))

  -- what a session was and has become
  abbrev Worked : ℕ → SessionJob Q → Type 0
  Worked at b = (s : SessionJob Q) × (w : W) × BeginsAt at s w × HasWorked asking single allows processes run.journal (tell w) s b

  record Split (first : ℕ) (jobs : List (Job Q W)) (servers : List Server) (dones : List (Done Q)) : Type 0 where
    pub sessions : (at : ℕ) (b : SessionJob Q) → slice_get (flat_map session_in dones) at ≡ Some b → Worked (first + at) b
    pub many : length (flat_map session_in dones) ≡ length jobs
    pub served : AllZip SameServer servers (flat_map server_in dones)

  split : (first : ℕ) (jobs : List (Job Q W)) (servers : List Server) (dones : List (Done Q)) → ((at : ℕ) (j : Job Q W) → slice_get jobs at ≡ Some j → IsBegun tell run.requesters run.told rows commits (first + at) j)
      → AllZip D (jobs ++ map (λ (s : Server). job.Server s) servers) dones → Split first jobs servers dones
  split first [] servers dones begun h =
      let only = servers_only servers dones h in
      record { sessions = λ at b is. absurd (let none = ap (λ (bs : List (SessionJob Q)). slice_get bs at) (sym only.0) ∙ is in cc none); many = ap length only.0; served = only.1 }
  split first (j ∷ jobs) servers [] begun h = absurd h
  split first (job.Server s ∷ jobs) servers (d ∷ dones) begun h = absurd (begun 0 (job.Server s) refl)
  split first (job.Session s w ticket ∷ jobs) servers (done.Server x ∷ dones) begun h = absurd h.0
  split first (job.Session s w ticket ∷ jobs) servers (done.Session x ∷ dones) begun h =
      let rest = split (first + 1) jobs servers dones (λ at j is. let more : first + suc at ≡ first + 1 + at = omega arith in subst (λ n. IsBegun tell run.requesters run.told rows commits n j) more (begun (suc at) j is)) h.1 in
      record { sessions = at_place rest.sessions; many = ap suc rest.many; served = rest.served }
    where
      here : Worked (first + 0) x
      here = (s, w, begun 0 (job.Session s w ticket) refl, h.0)

      at_place : ((at : ℕ) (b : SessionJob Q) → slice_get (flat_map session_in dones) at ≡ Some b → Worked (first + 1 + at) b) → (at : ℕ) (b : SessionJob Q) → slice_get (x ∷ flat_map session_in dones) at ≡ Some b → Worked (first + at) b
      at_place each zero b is = subst (Worked (first + 0)) (some-same x b is) here
      at_place each (suc at) b is = let more : first + 1 + at ≡ first + suc at = omega arith in subst (λ n. Worked n b) more (each at b is)

  first_told : (t : Telling) → IsTold t t [] []
  first_told t = ([], record { told = refl; losses = refl }, refl)

  is_back : (at : ℕ) (b : SessionJob Q) → Worked at b → IsBack asking single allows run processes at b
  is_back at b k =
      let s = k.0 in
      let w = k.1 in
      let began = k.2 in
      let worked = k.3 in
      let n = new.each at s.requester began.requester in
      let after = worked.goes run.script (begun_session at s w began) in
      let tokens : s.tokens.items ≡ map (tokens_to at) run.opened = dealt_at (λ n. map (tokens_to n) run.opened) run.crew.sessions at s.tokens.items began.tokens in
      let pass : s.commits ≡ new_pass run.journal (tt {0}) at = dealt_at (new_pass run.journal (tt {0})) run.crew.sessions at s.commits began.commits in
      record {
        number = after.1.number ∙ began.number;
        session = after.0;
        tokens = subst (λ (ts : List Tokens). AllZip AreSame ts b.tokens.items) tokens after.1.tokens;
        commits = subst (λ (p : JournalPass). StillCommits p b.commits) pass after.1.commits;
        ended = worked.ended;
        told = λ t is none.
            let same : tell w ≡ t = some-same (tell w) t (sym began.wire ∙ is) in
            let nothing = subst (λ (l : ℕ). IsTold t (tell w) (replicate l true) (asking s.requester).log) (sym began.losses) (subst (λ (x : Telling). IsTold t x [] (asking s.requester).log) (sym same) (subst (IsTold t t []) (sym n.log) (first_told t))) in
            worked.told t nothing none;
        first = s.requester;
        first_is = began.requester;
        later = worked.later;
      }

  keeps_mail : (servers others : List Server) → AllByRecursion KeepsMail servers → AllZip SameServer servers others → AllZip HasServed servers others
  keeps_mail [] [] all h = tt
  keeps_mail [] (o ∷ others) all h = absurd h
  keeps_mail (s ∷ servers) [] all h = absurd h
  keeps_mail (s ∷ servers) (o ∷ others) all h = ((h.0.0, h.0.1 all.0), keeps_mail servers others all.1 h.1)

  fresh_servers : (part : ℕ) (opened : List Opened) → AllByRecursion KeepsMail (servers_from run.crew part opened)
  fresh_servers part [] = tt
  fresh_servers part (o ∷ opened) =
      all_joined KeepsMail (servers_at run.crew part o) (servers_from run.crew (part + 1) opened) (all-images KeepsMail (server_to part o) (λ n. tt) (range_with_len run.crew.sessions run.crew.servers)) (fresh_servers (part + 1) opened)

  -- all that the jobs handed back
  pub all_back : (jobs : List (Job Q W)) (ended : List (Result (Done Q) NoMemory)) (r : Returned Q) → EachAt (IsBegun tell run.requesters run.told rows commits) jobs → length jobs ≡ run.crew.sessions
      → AllZip (λ (j : Job Q W) (e : Result (Done Q) NoMemory). IfOk e (D j)) (jobs ++ map (λ (s : Server). job.Server s) (servers_from run.crew 0 run.opened)) ended
      → ((dones : List (Done Q)) × (ended ≡ map Ok dones) × (r.sessions.items ≡ flat_map session_in dones) × (r.servers.items ≡ flat_map server_in dones)) → AreBack asking single allows run processes r
  all_back jobs ended r begun many zip back =
      let dones = back.0 in
      let both = split 0 jobs (servers_from run.crew 0 run.opened) dones (λ at j is. let none : at ≡ 0 + at = omega arith in subst (λ n. IsBegun tell run.requesters run.told rows commits n j) none (begun at j is))
      (zip_oks (jobs ++ map (λ (s : Server). job.Server s) (servers_from run.crew 0 run.opened)) dones (subst (AllZip (λ (j : Job Q W) (e : Result (Done Q) NoMemory). IfOk e (D j)) (jobs ++ map (λ (s : Server). job.Server s) (servers_from run.crew 0 run.opened))) back.1 zip)) in
      record {
        set = set;
        processes_are = processes_are;
        sessions = λ at b is.
            let none : 0 + at ≡ at = omega arith in
            is_back at b (subst (λ n. Worked n b) none (both.sessions at b (ap (λ (bs : List (SessionJob Q)). slice_get bs at) (sym back.2) ∙ is)));
        many = ap length back.2 ∙ both.many ∙ many;
        requesters = new.many ∙ set.sessions;
        servers = subst (AllZip HasServed (servers_from run.crew 0 run.opened)) (sym back.3) (keeps_mail (servers_from run.crew 0 run.opened) (flat_map server_in dones) (fresh_servers 0 run.opened) both.served);
      }

  -- the same of jobs, tokens and passes as calls hand them on
  module _ (dealt : List (List Tokens)) (passes : List JournalPass) (servers : List Server) (jobs all : List (Job Q W)) (rows_are : dealt ≡ rows) (passes_are : passes ≡ commits) (servers_are : servers ≡ servers_from run.crew 0 run.opened)
      (all_are : all ≡ jobs ++ map (λ (s : Server). job.Server s) servers) (begun : EachAt (IsBegun tell run.requesters run.told dealt passes) jobs) where
    begun_here : EachAt (IsBegun tell run.requesters run.told rows commits) jobs
    begun_here = subst (λ (cs : List JournalPass). EachAt (IsBegun tell run.requesters run.told rows cs) jobs) passes_are (subst (λ (rs : List (List Tokens)). EachAt (IsBegun tell run.requesters run.told rs passes) jobs) rows_are begun)

    whole : all ≡ jobs ++ map (λ (s : Server). job.Server s) (servers_from run.crew 0 run.opened)
    whole = all_are ∙ ap (λ (ss : List Server). jobs ++ map (λ (s : Server). job.Server s) ss) servers_are

    pub jobs_ready : All (IsJob asking single processes run.journal) all
    jobs_ready = All-from_recursion (IsJob asking single processes run.journal) all (subst (AllByRecursion (IsJob asking single processes run.journal)) (sym whole) (all_jobs jobs begun_here))

    pub jobs_back : (ended : List (Result (Done Q) NoMemory)) (r : Returned Q) → length jobs ≡ run.crew.sessions → length ended ≡ length all
        → ((i : ℕ) (j : Job Q W) (e : Result (Done Q) NoMemory) → i < length all → IfOk (slice_index_or ended i e) (D (slice_index_or all i j)))
        → ((dones : List (Done Q)) × (ended ≡ map Ok dones) × (r.sessions.items ≡ flat_map session_in dones) × (r.servers.items ≡ flat_map server_in dones)) → AreBack asking single allows run processes r
    jobs_back ended r many long each back =
        all_back jobs ended r begun_here many
        (subst (λ (js : List (Job Q W)). AllZip (λ (j : Job Q W) (e : Result (Done Q) NoMemory). IfOk e (D j)) js ended) whole (zip_indexed (λ (j : Job Q W) (e : Result (Done Q) NoMemory). IfOk e (D j)) all ended long each)) back
