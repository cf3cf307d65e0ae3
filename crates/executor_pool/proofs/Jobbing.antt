-- The jobs of the sessions are made, one after the other.
use Rattle.std.proofs.Common.{◌≡◌, ◌+◌, ℕ, List, [], ◌∷◌, ◌++◌, length, Some, None, refl, ap, sym, ◌∙◌, subst, append_assoc, arith}
use Rattle.std.specs.Prelude.{slice_get}
use Rattle.std.proofs.lemmas.List.{append-nil, length_push}
use Rattle.driver_laws.specs.Carrying.{Telling}
use Rattle.requester_fs.specs.Beginnings.{EachAt}
use Rattle.requester_fs.proofs.Lists.{each_more}
use Rattle.executor_pool.specs.Doing.{Begins, IsBegun}
use Rattle.executor_pool.specs.Jobs.{JournalPass}
use Rattle.executor_pool.specs.declared.jobs.Job.{Job}
use Rattle.executor_pool.specs.declared.jobs.Job.TheVariants as job
use Rattle.executor_pool.specs.declared.jobs.Ticket.{Ticket}
use Rattle.executor_pool.specs.declared.sessions.SessionJob.{SessionJob}
use Rattle.executor_pool.specs.declared.tokens.Tokens.{Tokens}

-- what stands behind the first part of a list
behind : {X : Type 0} (front : List X) (x : X) (rest : List X) → slice_get (front ++ x ∷ rest) (length front) ≡ Some x
behind [] x rest = refl
behind (z ∷ front) x rest = behind front x rest

-- a list is made of so many and of those that are left
abbrev pub IsCut : {X : Type 0} → ℕ → List X → List X → Type 0
IsCut {X} n all left = (front : List X) × (all ≡ front ++ left) × (length front ≡ n)

pub cut_at : {X : Type 0} (n : ℕ) (all left rest : List X) (x : X) → IsCut n all left → left ≡ x ∷ rest → (slice_get all n ≡ Some x) × IsCut (n + 1) all rest
cut_at n all left rest x cut is =
    let whole = cut.1 ∙ ap (λ xs. cut.0 ++ xs) is in (
      ap (λ xs. slice_get xs n) whole ∙ ap (slice_get (cut.0 ++ x ∷ rest)) (sym cut.2) ∙ behind cut.0 x rest,
      (cut.0 ++ x ∷ [], whole ∙ sym (append_assoc cut.0 (x ∷ []) rest), length_push cut.0 x ∙ ap (λ m. m + 1) cut.2),
    )

-- so many jobs have been made, of the first requesters, wires, tokens and passes
pub record JobsSoFar {Q W : Type 0} (tell : W → Telling) (requesters : List Q) (told : List Telling) (rows : List (List Tokens)) (commits : List JournalPass) (number : ℕ) (others : List Q) (later_told : List Telling) (later_rows : List (List Tokens))
    (later_commits : List JournalPass) (jobs : List (Job Q W)) : Type 0 where
  pub of_requesters : IsCut number requesters others
  pub of_wires : IsCut number told later_told
  pub of_rows : IsCut number rows later_rows
  pub of_commits : IsCut number commits later_commits
  pub begun : EachAt (IsBegun tell requesters told rows commits) jobs
  pub many : length jobs ≡ number

module _ {Q W : Type 0} (tell : W → Telling) (requesters : List Q) (told : List Telling) (rows : List (List Tokens)) (commits : List JournalPass) where
  pub jobs_start : (others : List Q) (later_told : List Telling) (later_rows : List (List Tokens)) (later_commits : List JournalPass) (jobs : List (Job Q W)) → others ≡ requesters → later_told ≡ told → later_rows ≡ rows → later_commits ≡ commits → jobs ≡ []
      → JobsSoFar tell requesters told rows commits 0 others later_told later_rows later_commits jobs
  jobs_start others later_told later_rows later_commits jobs qs ts rs cs none =
      record {
        of_requesters = ([], sym qs, refl);
        of_wires = ([], sym ts, refl);
        of_rows = ([], sym rs, refl);
        of_commits = ([], sym cs, refl);
        begun = subst (EachAt (IsBegun tell requesters told rows commits)) (sym none) (λ at j is. absurd (cc is));
        many = ap length none;
      }

  -- one job more
  pub jobs_more : (number : ℕ) (others others_then : List Q) (later_told told_then : List Telling) (later_rows rows_then : List (List Tokens)) (later_commits commits_then : List JournalPass) (jobs more : List (Job Q W))
      → JobsSoFar tell requesters told rows commits number others later_told later_rows later_commits jobs → (s : SessionJob Q) (wire : W) (ticket : Ticket) (t : Telling) → others ≡ s.requester ∷ others_then → later_told ≡ t ∷ told_then → tell wire ≡ t
      → later_rows ≡ s.tokens.items ∷ rows_then → later_commits ≡ s.commits ∷ commits_then → s.number ≡ number + 1 → s.losses ≡ 0 → s.stop ≡ None → more ≡ jobs ++ job.Session s wire ticket ∷ []
      → JobsSoFar tell requesters told rows commits (number + 1) others_then told_then rows_then commits_then more
  jobs_more number others others_then later_told told_then later_rows rows_then later_commits commits_then jobs more so_far s wire ticket t of_q of_t same of_row of_pass numbered losses stop pushed =
      let q = cut_at number requesters others others_then s.requester so_far.of_requesters of_q in
      let w = cut_at number told later_told told_then t so_far.of_wires of_t in
      let row = cut_at number rows later_rows rows_then s.tokens.items so_far.of_rows of_row in
      let pass = cut_at number commits later_commits commits_then s.commits so_far.of_commits of_pass in
      let many = so_far.many in
      let here : Begins tell requesters told rows commits number s wire = record {
        number = numbered ∙ omega arith;
        requester = q.0;
        losses = losses;
        stop = stop;
        tokens = row.0;
        commits = pass.0;
        wire = w.0 ∙ ap Some (sym same);
      } in
      record {
        of_requesters = q.1;
        of_wires = w.1;
        of_rows = row.1;
        of_commits = pass.1;
        begun = subst (EachAt (IsBegun tell requesters told rows commits)) (sym pushed) (each_more (IsBegun tell requesters told rows commits) jobs (job.Session s wire ticket) so_far.begun (
            subst (λ (at : ℕ). Begins tell requesters told rows commits at s wire) (sym many) here));
        many = ap length pushed ∙ length_push jobs (job.Session s wire ticket) ∙ ap (λ n. n + 1) many;
      }

  pub jobs_last : (number : ℕ) (others : List Q) (later_told : List Telling) (later_rows : List (List Tokens)) (later_commits : List JournalPass) (jobs : List (Job Q W)) → JobsSoFar tell requesters told rows commits number others later_told later_rows later_commits jobs
      → others ≡ [] → length jobs ≡ length requesters
  jobs_last number others later_told later_rows later_commits jobs so_far none =
      let cut = so_far.of_requesters in
      so_far.many ∙ sym cut.2 ∙ sym (ap length (cut.1 ∙ ap (λ xs. cut.0 ++ xs) none ∙ append-nil cut.0))
