-- The steps of a session's job keep what it keeps.
use Rattle.std.proofs.Common.{◌≡◌, ℕ, List, [], ◌∷◌, Some, false, refl, sym, ◌∙◌, subst, inl, inr, Contains}
use Rattle.std.specs.Prelude.{◌⊎◌, slice_get, slice_set}
use Rattle.std.specs.List.{AllZip}
use Rattle.sql_base.specs.declared.scripts.Script.{Script}
use Rattle.sql_base.proofs.ListFacts.{all-weaker}
use Rattle.partition_state.specs.declared.entries.Entry.{Entry}
use Rattle.session_grammar.specs.declared.logs.Answer.TheVariants.{PathFailed, Reply, Stamp}
use Rattle.session_grammar.specs.declared.logs.LogEntry.{LogEntry}
use Rattle.session_grammar.specs.declared.logs.LogEntry.TheVariants.{Asked, Drew}
use Rattle.requester_fs.specs.Asking.{Asking}
use Rattle.shared_partition.specs.Sharing.{GoesOn, PartitionPass}
use Rattle.turn_lock.specs.Pass.{LockId}
use Rattle.executor_pool.specs.Jobs.{HasHeard, HasSeen, IsStopped, JournalPass, KeepsPart}
use Rattle.executor_pool.specs.Tokens.{AreOf, AreSame, Leaves}
use Rattle.executor_pool.specs.Sessions.{Goes, IsSameSession, IsSession, Session, StillCommits}
use Rattle.executor_pool.specs.declared.processes.DiskProcess.{DiskProcess}
use Rattle.executor_pool.specs.declared.sessions.Stop.{Stop}
use Rattle.executor_pool.specs.declared.sessions.Stop.TheVariants.{Misfit, Passed, Refused}
use Rattle.executor_pool.specs.declared.tokens.Tokens.{Tokens}
use Rattle.turn_lock.proofs.Seats.{IsPrefix-refl}
use Rattle.executor_pool.proofs.Beginnings.{in_prefix, prefix_after}
use Rattle.executor_pool.proofs.Places.{kept_cases, set_cases, zip_set}

-- the same, later, of the same, later
pub on_after : (p q r : PartitionPass) → GoesOn p q → GoesOn q r → GoesOn p r
on_after p q r a b = record { lock = b.lock ∙ a.lock; number = b.number ∙ a.number; root = b.root ∙ a.root; idle = b.idle; seen = prefix_after p.seen q.seen r.seen a.seen b.seen }

same_after : (t u v : Tokens) → AreSame t u → AreSame u v → AreSame t v
same_after t u v a b =
    record {
      pass = on_after t.pass u.pass v.pass a.pass b.pass;
      poster_mail = b.poster_mail ∙ a.poster_mail;
      poster_number = b.poster_number ∙ a.poster_number;
      taker_mail = b.taker_mail ∙ a.taker_mail;
      taker_number = b.taker_number ∙ a.taker_number;
    }

tokens_after : (ts us vs : List Tokens) → AllZip AreSame ts us → AllZip AreSame us vs → AllZip AreSame ts vs
tokens_after [] [] [] a b = tt
tokens_after [] [] (v ∷ vs) a b = absurd b
tokens_after [] (u ∷ us) vs a b = absurd a
tokens_after (t ∷ ts) [] vs a b = absurd a
tokens_after (t ∷ ts) (u ∷ us) [] a b = absurd b
tokens_after (t ∷ ts) (u ∷ us) (v ∷ vs) a b = (same_after t u v a.0 b.0, tokens_after ts us vs a.1 b.1)

commits_after : (p q r : JournalPass) → StillCommits p q → StillCommits q r → StillCommits p r
commits_after p q r a b = record { lock = b.lock ∙ a.lock; number = b.number ∙ a.number; idle = b.idle; seen = prefix_after p.seen q.seen r.seen a.seen b.seen }

session_after : (a b c : Session) → IsSameSession a b → IsSameSession b c → IsSameSession a c
session_after a b c h k = record { number = k.number ∙ h.number; tokens = tokens_after a.tokens b.tokens c.tokens h.tokens k.tokens; commits = commits_after a.commits b.commits c.commits h.commits k.commits }

pub goes_after : (processes : List DiskProcess) (journal : LockId) (a b c : Session) → Goes processes journal a b → Goes processes journal b c → Goes processes journal a c
goes_after processes journal a b c h k script is =
    let first = h script is in
    let second = k script first.0 in
    (second.0, session_after a b c first.1 second.1)

pub commits_still : (p : JournalPass) → p.holds ≡ false → StillCommits p p
commits_still p idle = record { lock = refl; number = refl; idle = idle; seen = IsPrefix-refl p.seen }

pub tokens_still : (ds : List DiskProcess) (ts : List Tokens) → AllZip AreOf ds ts → AllZip AreSame ts ts
tokens_still [] [] h = tt
tokens_still [] (t ∷ ts) h = absurd h
tokens_still (d ∷ ds) [] h = absurd h
tokens_still (d ∷ ds) (t ∷ ts) h = (
  record { pass = record { lock = refl; number = refl; root = refl; idle = h.0.idle; seen = IsPrefix-refl t.pass.seen }; poster_mail = refl; poster_number = refl; taker_mail = refl; taker_number = refl },
  tokens_still ds ts h.1,
)

pub goes_still : (processes : List DiskProcess) (journal : LockId) (a : Session) → Goes processes journal a a
goes_still processes journal a script is = (is, record { number = refl; tokens = tokens_still processes a.tokens is.of_parts; commits = commits_still a.commits is.journal_is.1 })

-- what one call leaves of the tokens to a partition
module _ (script : Script) (processes : List DiskProcess) (journal : LockId) (s : Session) (part : ℕ) (t u : Tokens) (HasDone : Asking → ℕ → Type 0) (is : IsSession script processes journal s)
    (at : slice_get s.tokens part ≡ Some t) (left : Leaves HasDone t u) (done : HasDone s.asking part) where
  abbrev now : List Tokens
  now = slice_set s.tokens part u

  -- what was seen is still seen
  still_seen : (p opener : ℕ) (e : Entry) → HasSeen s.tokens p opener e → HasSeen now p opener e
  still_seen p opener e h = by_place (kept_cases s.tokens part p t u h.0 at h.1)
    where
      by_place : ((h.0 ≡ t) × (slice_get now p ≡ Some u)) ⊎ (slice_get now p ≡ Some h.0) → HasSeen now p opener e
      by_place (inl c) = (u, c.1, in_prefix t.pass.seen u.pass.seen e left.same.pass.seen (subst (λ (v : Tokens). Contains v.pass.seen e) c.0 h.2), h.3)
      by_place (inr there) = (h.0, there, h.2, h.3)

  still_heard : (z : LogEntry) → HasHeard s.number s.tokens z → HasHeard s.number now z
  still_heard (Asked p sync q l (Reply r)) h = (h.0, still_seen p s.number h.0 h.1, h.2, h.3)
  still_heard (Asked p sync q l PathFailed) h = tt
  still_heard (Asked p sync q l (Stamp stamp)) h = absurd h
  still_heard (Drew n f w) h = tt

  still_stopped : (stop : Stop) → IsStopped s.asking s.tokens s.commits stop → IsStopped s.asking now s.commits stop
  still_stopped Misfit h = (h.0, h.1, h.2, still_seen h.0.part s.asking.number h.1 h.3, h.4, h.5)
  still_stopped Passed h = (h.0, h.1, h.2, still_seen h.0.part s.asking.number h.1 h.3, h.4)
  still_stopped Refused h = h

  still_keeps : (p : ℕ) (v : Tokens) → slice_get now p ≡ Some v → KeepsPart s.asking p v
  still_keeps p v there = by_place (set_cases s.tokens part p u v there)
    where
      by_place : ((p ≡ part) × (v ≡ u)) ⊎ (slice_get s.tokens p ≡ Some v) → KeepsPart s.asking p v
      by_place (inl c) =
          let own = left.keeps s.asking part done (is.work.parts part t at) in
          subst (λ (w : Tokens). KeepsPart s.asking p w) (sym c.1) (subst (λ (n : ℕ). KeepsPart s.asking n u) (sym c.0) own)
      by_place (inr before) = is.work.parts p v before

  still_of : (d : DiskProcess) → AreOf d t → AreOf d u
  still_of d h = record { lock = left.same.pass.lock ∙ h.lock; idle = left.same.pass.idle; posts = left.same.poster_mail ∙ h.posts; takes = left.same.taker_mail ∙ h.takes }

  pub tokens_go : IsSession script processes journal (record s { tokens = now }) × IsSameSession s (record s { tokens = now })
  tokens_go = (
    record {
      work = record {
        script_is = is.work.script_is;
        number_is = is.work.number_is;
        asking = is.work.asking;
        heard = all-weaker (HasHeard s.number s.tokens) (HasHeard s.number now) still_heard s.asking.log is.work.heard;
        parts = still_keeps;
        draws = is.work.draws;
      };
      one = is.one;
      of_parts = zip_set AreOf processes s.tokens part t u at still_of is.of_parts;
      parts = is.parts;
      journal_is = is.journal_is;
      losses = is.losses;
      stops = λ stop has. still_stopped stop (is.stops stop has);
    },
    record {
      number = refl;
      tokens = zip_set AreSame s.tokens s.tokens part t u at (λ v same. same_after v t u same left.same) (tokens_still processes s.tokens is.of_parts);
      commits = commits_still s.commits is.journal_is.1;
    },
  )
