-- The partitions of a run as its jobs share them, and the tokens to them as they are dealt.
use Rattle.std.specs.Prelude.{◌≡◌, ℕ, ◌+◌, List, [], ◌∷◌, ◌++◌, map}
use Rattle.std.specs.List.{AllByRecursion, range_with_len}
use Rattle.partition_core.specs.Kept.{opened_with}
use Rattle.partition_state.specs.State.{State}
use Rattle.mail_queue.specs.Tokens.{PosterToken, TakerToken, new_poster, new_taker}
use Rattle.shared_partition.specs.Sharing.{PartitionPass}
use Rattle.turn_lock.specs.Pass.{new_pass}
use Rattle.executor_pool.specs.declared.processes.DiskProcess.{DiskProcess}
use Rattle.executor_pool.specs.declared.processes.Crew.{Crew}
use Rattle.executor_pool.specs.declared.processes.Shares.{Shares}
use Rattle.executor_pool.specs.declared.tokens.Server.{Server}
use Rattle.executor_pool.specs.declared.tokens.Tokens.{Tokens}

-- a partition that jobs share, and how it opened
pub record Opened : Type 0 where
  pub process : DiskProcess
  pub opening : State

-- the tokens with this number that a session is dealt, and a server
abbrev pub tokens_to : ℕ → Opened → Tokens
tokens_to n o = record { pass = new_pass o.process.partition (opened_with o.opening) n; poster = new_poster o.process.mail n; taker = new_taker o.process.mail n }

abbrev pub server_to : ℕ → Opened → ℕ → Server
server_to part o n = record { part = part; pass = new_pass o.process.partition (opened_with o.opening) n; taker = new_taker o.process.mail n }

-- those of all sessions, counted from 0; the servers have the numbers behind the sessions'
abbrev pub session_tokens : Crew → Opened → List Tokens
session_tokens crew o = map (λ n. tokens_to n o) (range_with_len 0 crew.sessions)

abbrev pub servers_at : Crew → ℕ → Opened → List Server
servers_at crew part o = map (server_to part o) (range_with_len crew.sessions crew.servers)

-- the servers of all partitions, counted from this one
abbrev pub servers_from : Crew → ℕ → List Opened → List Server
servers_from crew part [] = []
servers_from crew part (o ∷ opened) = servers_at crew part o ++ servers_from crew (part + 1) opened

-- its lock and its mail were made for just these
pub record IsMadeFor (crew : Crew) (o : Opened) : Type 0 where
  pub passes : o.process.partition.passes ≡ crew.sessions + crew.servers
  pub posters : o.process.mail.posters ≡ crew.sessions
  pub takers : o.process.mail.takers ≡ crew.sessions + crew.servers

-- these partitions are shared, each session has tokens to each, and each partition has its servers
pub record AreShared (crew : Crew) (opened : List Opened) (s : Shares) : Type 0 where
  pub processes : s.processes.items ≡ map (λ o. o.process) opened
  pub tokens : map (λ row. row.items) s.tokens.items ≡ map (λ n. map (tokens_to n) opened) (range_with_len 0 crew.sessions)
  pub servers : s.servers.items ≡ servers_from crew 0 opened
  pub made_for : AllByRecursion (IsMadeFor crew) opened

-- each list with one more
abbrev pub lengthened : {X : Type 0} → List (List X) → List X → List (List X)
lengthened [] xs = []
lengthened (list ∷ lists) [] = list ∷ lists
lengthened (list ∷ lists) (x ∷ xs) = (list ++ x ∷ []) ∷ lengthened lists xs

-- the tokens of passes, posters and takers side by side, and the servers of passes and takers
abbrev pub bundled : List PartitionPass → List PosterToken → List TakerToken → List Tokens
bundled (pass ∷ passes) (poster ∷ posters) (taker ∷ takers) = record { pass = pass; poster = poster; taker = taker } ∷ bundled passes posters takers
bundled (pass ∷ passes) (poster ∷ posters) [] = []
bundled (pass ∷ passes) [] takers = []
bundled [] posters takers = []

abbrev pub manned : ℕ → List PartitionPass → List TakerToken → List Server
manned part (pass ∷ passes) (taker ∷ takers) = record { part = part; pass = pass; taker = taker } ∷ manned part passes takers
manned part (pass ∷ passes) [] = []
manned part [] takers = []
