-- A requester that has taken an answer: what its session keeps, it still keeps.
use Rattle.std.proofs.Common.{◌≡◌, ℕ, zero, List, [], ◌∷◌, ◌++◌, map, Some, None, refl, ap, sym, ◌∙◌, subst, inl, inr, arith, Contains}
use Rattle.std.specs.List.{AllByRecursion}
use Rattle.std.proofs.lemmas.List.{append-nil}
use Rattle.sql_base.specs.declared.lock_names.TxnName.{TxnName}
use Rattle.sql_base.specs.declared.scripts.Script.{Script}
use Rattle.sql_base.proofs.ListFacts.{all-weaker, all_joined, map-push}
use Rattle.commit_journal.specs.declared.Drawn.{Drawn}
use Rattle.dp_messages.specs.declared.requests.Request.{Request}
use Rattle.session_grammar.specs.Sessions.{Draws, Ends, Next, Sends, entries_kept}
use Rattle.session_grammar.specs.UnderWay.{AreAbove, Awaiting, Drawing, Sending, UnderWay}
use Rattle.session_grammar.specs.declared.logs.Answer.{Answer}
use Rattle.session_grammar.specs.declared.logs.Answer.TheVariants.{PathFailed, Reply, Stamp}
use Rattle.session_grammar.specs.declared.logs.LogEntry.{LogEntry}
use Rattle.session_grammar.specs.declared.logs.LogEntry.TheVariants.{Asked, Drew}
use Rattle.requester_fs.specs.Asking.{Asking, HasTaken, IsAsking, IsSame, next_at, places_of}
use Rattle.run_record.specs.Legal.{drawn_in}
use Rattle.record_laws.proofs.Drawing.{drawn-append}
use Rattle.driver_laws.specs.Moves as moves
use Rattle.partition_state.specs.declared.entries.Entry.{Entry}
use Rattle.driver_laws.proofs.Posting.{asks_drawn, asks_taken}
use Rattle.turn_lock.specs.Pass.{LockId}
use Rattle.executor_pool.specs.Jobs.{HasAsked, HasHeard, IsOfSession, IsOwnMessage, JournalPass, KeepsJournal, KeepsPart}
use Rattle.executor_pool.specs.Sessions.{HasDrawn, IsSameSession, IsSession, MayBeLost, Session, StillCommits, next_of}
use Rattle.executor_pool.specs.declared.processes.DiskProcess.{DiskProcess}
use Rattle.executor_pool.specs.declared.sessions.Stop.{Stop}
use Rattle.executor_pool.specs.declared.tokens.Tokens.{Tokens}
use Rattle.executor_pool.proofs.Stepping.{tokens_still}

-- what is sent next is under way
pub sending_in : (sends : List Sending) (part sync : ℕ) (request : Request) → next_at (Awaiting sends) 0 ≡ Sends part sync request → Contains sends (record { part = part; sync = sync; request = request })
sending_in [] part sync request is = absurd (cc is)
sending_in (r ∷ sends) part sync request is =
    let its_part : r.part ≡ part = cc in
    let its_sync : r.sync ≡ sync = cc in
    let its_request : r.request ≡ request = cc in
    (zero, omega arith, (λ i. record { part = its_part i; sync = its_sync i; request = its_request i }))

pub drawing_is : (way : UnderWay) (name : TxnName) (floor : ℕ) → next_at way 0 ≡ Draws name floor → way ≡ Drawing name floor
drawing_is (Awaiting []) name floor is = absurd (cc is)
drawing_is (Awaiting (r ∷ sends)) name floor is = absurd (cc is)
drawing_is (Drawing n f) name floor is = cc

-- what was asked stays asked
pub asked_still : (a b : Asking) (next : Next) (answer : Answer) (losses : ℕ) → IsAsking a → next_at a.way 0 ≡ next → HasTaken a next answer losses b → (part sync : ℕ) (request : Request) → HasAsked a part sync request → HasAsked b part sync request
asked_still a b (Sends p s q) answer losses asking next taken part sync request h =
    let sends = taken.0 in
    let is_in = sending_in sends p s q (subst (λ (way : UnderWay). next_at way 0 ≡ Sends p s q) taken.1 next) in
    asks_taken part sync request a.log b.log sends b.way (record { part = p; sync = s; request = q }) losses answer is_in (subst (AreAbove a.log) taken.1 asking.asks.0) taken.2.put_in taken.2.stay
    (subst (λ (way : UnderWay). moves.HasAsked a.log way part sync request) taken.1 h)
asked_still a b (Draws name floor) (Stamp stamp) losses asking next taken part sync request h =
    asks_drawn part sync request a.log b.log b.way name floor stamp taken.put_in (subst (λ (way : UnderWay). moves.HasAsked a.log way part sync request) (drawing_is a.way name floor next) h)
asked_still a b (Draws name floor) (Reply r) losses asking next taken part sync request h = absurd taken
asked_still a b (Draws name floor) PathFailed losses asking next taken part sync request h = absurd taken
asked_still a b Ends answer losses asking next taken part sync request h = absurd taken

none_lost : (next : Next) → MayBeLost 0 next
none_lost (Sends part sync request) = (omega arith, λ not_end. omega arith)
none_lost (Draws name floor) = refl
none_lost Ends = refl

module _ (script : Script) (processes : List DiskProcess) (journal : LockId) (s : Session) (is : IsSession script processes journal s) (goes : s.stop ≡ None) (losses : ℕ) (b : Asking) (answer : Answer) (same : IsSame s.asking b)
    (taken : HasTaken s.asking (next_of s) answer losses b) (asking : IsAsking b) (one : places_of b.way ≡ 1) (in_order : b.log ≡ s.asking.log ++ entries_kept (next_of s) answer losses)
    (heard : AllByRecursion (HasHeard s.number s.tokens) (entries_kept (next_of s) answer losses)) (commits : JournalPass) (on : StillCommits s.commits commits) (drawn : KeepsJournal b.log commits) where
  abbrev now : Session
  now = record s { asking = b; losses = 0; commits = commits }

  still_asked : (part sync : ℕ) (request : Request) → HasAsked s.asking part sync request → HasAsked b part sync request
  still_asked part sync request h = asked_still s.asking b (next_of s) answer losses is.work.asking refl taken part sync request h

  still_keeps : (part : ℕ) (t : Tokens) → KeepsPart s.asking part t → KeepsPart b part t
  still_keeps part t k =
      record {
        posted = all-weaker (IsOwnMessage s.asking part) (IsOwnMessage b part) (λ m own. (own.0, own.1, own.2, own.3 ∙ sym same.number, still_asked part own.0.sync own.0.request own.4)) t.poster.posted k.posted;
        served = all-weaker (λ placed. IsOfSession s.asking part t.taker.taken placed.1) (λ placed. IsOfSession b part t.taker.taken placed.1) (λ placed o. still_of placed.1 o) t.pass.mine k.served;
      }
    where
      still_of : (e : Entry) → IsOfSession s.asking part t.taker.taken e → IsOfSession b part t.taker.taken e
      still_of e (inl message) = inl message
      still_of e (inr own) = inr (own.0 ∙ sym same.number, still_asked part e.sync e.request own.1)

  not_stopped : (stop : Stop) → s.stop ≡ Some stop → ⊥
  not_stopped stop has = let both : None ≡ Some stop = sym goes ∙ has in absurd (cc both)

  pub answered_goes : IsSession script processes journal now × IsSameSession s now
  answered_goes = (
    record {
      work = record {
        script_is = same.script ∙ is.work.script_is;
        number_is = same.number ∙ is.work.number_is;
        asking = asking;
        heard = subst (AllByRecursion (HasHeard s.number s.tokens)) (sym in_order) (all_joined (HasHeard s.number s.tokens) s.asking.log (entries_kept (next_of s) answer losses) is.work.heard heard);
        parts = λ part t at. still_keeps part t (is.work.parts part t at);
        draws = drawn;
      };
      one = one;
      of_parts = is.of_parts;
      parts = is.parts;
      journal_is = (on.lock ∙ is.journal_is.0, on.idle);
      losses = λ still. none_lost (next_at b.way 0);
      stops = λ stop has. absurd (not_stopped stop has);
    },
    record { number = refl; tokens = tokens_still processes s.tokens is.of_parts; commits = on },
  )

-- what an answer to a request adds to a log draws nothing
pub draws_nothing : (log : List LogEntry) (part sync : ℕ) (request : Request) (losses : ℕ) (answer : Answer) (commits : JournalPass) → KeepsJournal log commits → KeepsJournal (log ++ Asked part sync request losses answer ∷ []) commits
draws_nothing log part sync request losses answer commits k = k ∙ sym (drawn-append log (Asked part sync request losses answer ∷ []) ∙ append-nil (drawn_in log))

-- and a commit draws its stamp
pub draws_one : (log : List LogEntry) (name : TxnName) (floor stamp : ℕ) (before after : JournalPass) → KeepsJournal log before → HasDrawn name floor stamp before after → KeepsJournal (log ++ Drew name floor (Stamp stamp) ∷ []) after
draws_one log name floor stamp before after k h =
    let d : Drawn = record { name = name; floor = floor; stamp = stamp } in
    let mine = ap (map (λ (placed : ℕ × Drawn). placed.1)) h.mine ∙ map-push (λ (placed : ℕ × Drawn). placed.1) before.mine (h.place, d) in
    mine ∙ ap (λ (ds : List Drawn). ds ++ d ∷ []) k ∙ sym (drawn-append log (Drew name floor (Stamp stamp) ∷ []))
