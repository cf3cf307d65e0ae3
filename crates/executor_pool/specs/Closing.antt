-- The partitions of a run as its jobs hand them back, and as they are once they aren't shared any more.
use Rattle.std.specs.Prelude.{◌≡◌, ◌≤◌, ℕ, ◌+◌, List, [], ◌∷◌, ◌++◌, map, filter_map, drop, take, slice_get, Contains}
use Rattle.std.specs.List.{AllByRecursion, AllZip, flat_map}
use mathlib.Core.List.{IsPrefix}
use Rattle.partition_core.specs.Kept.{Kept}
use Rattle.turn_lock.specs.Pass.{IsMadeOf}
use Rattle.executor_pool.specs.Dealing.{IsMadeFor, Opened, servers_at, session_tokens}
use Rattle.executor_pool.specs.Jobs.{KeepsMail}
use Rattle.executor_pool.specs.Tokens.{AreSame, IsSameServer}
use Rattle.executor_pool.specs.declared.jobs.Done.{Done}
use Rattle.executor_pool.specs.declared.jobs.Done.TheVariants as done
use Rattle.executor_pool.specs.declared.processes.Crew.{Crew}
use Rattle.executor_pool.specs.declared.processes.DiskProcess.{DiskProcess}
use Rattle.executor_pool.specs.declared.sessions.SessionJob.{SessionJob}
use Rattle.executor_pool.specs.declared.tokens.Server.{Server}
use Rattle.executor_pool.specs.declared.tokens.Tokens.{Tokens}

-- the sessions and the servers among what jobs hand back
abbrev pub session_in : {Q : Type 0} → Done Q → List (SessionJob Q)
session_in (done.Session s) = s ∷ []
session_in (done.Server s) = []

abbrev pub server_in : {Q : Type 0} → Done Q → List Server
server_in (done.Session s) = []
server_in (done.Server s) = s ∷ []

-- the tokens of all sessions to one partition
abbrev pub column : List (List Tokens) → ℕ → List Tokens
column rows part = filter_map (λ row. slice_get row part) rows

-- the same server as it was dealt, which served only what came in its mail
abbrev pub HasServed : Server → Server → Type 0
HasServed before after = IsSameServer before after × KeepsMail after

-- all tokens to a partition are there
pub record IsReady (crew : Crew) (part : ℕ) (o : Opened) (process : DiskProcess) (tokens : List Tokens) (servers : List Server) : Type 0 where
  pub process_is : process ≡ o.process
  pub made_for : IsMadeFor crew o
  pub some : 1 ≤ crew.sessions
  pub tokens_are : AllZip AreSame (session_tokens crew o) tokens
  pub servers_are : AllZip HasServed (servers_at crew part o) servers

-- the partition as it is left: its history is made of just what the passes added, it begins with what each has seen, and what was taken was posted
pub record IsClosed (o : Opened) (tokens : List Tokens) (servers : List Server) (p : Kept) : Type 0 where
  pub opening : p.opening ≡ o.opening
  pub made : IsMadeOf p.history (map (λ t. t.pass) tokens ++ map (λ s. s.pass) servers)
  pub begins : AllByRecursion (λ t. IsPrefix t.pass.seen p.history) tokens
  pub posted : AllByRecursion (Contains (flat_map (λ t. t.poster.posted) tokens)) (flat_map (λ t. t.taker.taken) tokens ++ flat_map (λ s. s.taker.taken) servers)

-- the tokens to all partitions from this one on
abbrev pub AreReady : Crew → ℕ → List Opened → List DiskProcess → List (List Tokens) → List Server → Type 0
AreReady crew part [] [] [] servers = servers ≡ []
AreReady crew part (o ∷ opened) (process ∷ processes) (tokens ∷ columns) servers =
    IsReady crew part o process tokens (take crew.servers servers) × AreReady crew (part + 1) opened processes columns (drop crew.servers servers)
AreReady crew part [] [] (tokens ∷ columns) servers = ⊥
AreReady crew part [] (process ∷ processes) columns servers = ⊥
AreReady crew part (o ∷ opened) [] columns servers = ⊥
AreReady crew part (o ∷ opened) (process ∷ processes) [] servers = ⊥

-- a partition was closed with its own tokens and servers
pub record IsLeft (o : Opened) (tokens : List Tokens) (p : Kept) : Type 0 where
  pub servers : List Server
  pub served : AllByRecursion KeepsMail servers
  pub closed : IsClosed o tokens servers p

-- and so were all of them
abbrev pub AreLeft : List Opened → List (List Tokens) → List Kept → Type 0
AreLeft [] columns [] = Unit {0}
AreLeft (o ∷ opened) (tokens ∷ columns) (p ∷ partitions) = IsLeft o tokens p × AreLeft opened columns partitions
AreLeft (o ∷ opened) [] partitions = ⊥
AreLeft (o ∷ opened) (tokens ∷ columns) [] = ⊥
AreLeft [] columns (p ∷ partitions) = ⊥
