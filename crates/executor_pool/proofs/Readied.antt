-- The tokens that sessions and servers hand back are those that each partition wants.
use Rattle.std.proofs.Common.{◌≡◌, ◌≤◌, ◌+◌, ℕ, zero, suc, List, [], ◌∷◌, ◌++◌, length, map, take, drop, Some, None, refl, ap, sym, ◌∙◌, subst, arith}
use Rattle.std.specs.Prelude.{slice_get}
use Rattle.std.specs.List.{cons_option, AllByRecursion, AllZip, range_with_len}
use Rattle.std.proofs.lemmas.List.{length-map}
use Rattle.sql_base.proofs.ListFacts.{range-length}
use Rattle.sql_base.proofs.Truths.{some-same}
use Rattle.executor_pool.specs.Closing.{AreReady, HasServed, column}
use Rattle.executor_pool.specs.Dealing.{IsMadeFor, Opened, server_to, servers_at, servers_from, session_tokens, tokens_to}
use Rattle.executor_pool.specs.Tokens.{AreSame}
use Rattle.executor_pool.specs.declared.processes.Crew.{Crew}
use Rattle.executor_pool.specs.declared.processes.DiskProcess.{DiskProcess}
use Rattle.executor_pool.specs.declared.tokens.Server.{Server}
use Rattle.executor_pool.specs.declared.tokens.Tokens.{Tokens}
use Rattle.executor_pool.proofs.Joined.{zip_left}

-- two lists side by side, cut behind the first part of one
pub zip_take : {A B : Type 0} (R : A → B → Type 0) (xs more : List A) (ys : List B) → AllZip R (xs ++ more) ys → AllZip R xs (take (length xs) ys)
zip_take R [] more ys h = tt
zip_take R (x ∷ xs) more [] h = absurd h
zip_take R (x ∷ xs) more (y ∷ ys) h = (h.0, zip_take R xs more ys h.1)

pub zip_drop : {A B : Type 0} (R : A → B → Type 0) (xs more : List A) (ys : List B) → AllZip R (xs ++ more) ys → AllZip R more (drop (length xs) ys)
zip_drop R [] more ys h = h
zip_drop R (x ∷ xs) more [] h = absurd h
zip_drop R (x ∷ xs) more (y ∷ ys) h = zip_drop R xs more ys h.1

-- the column of a partition has what goes on from the tokens that were dealt there
pub column_dealt : (opened : List Opened) (part : ℕ) (o : Opened) → slice_get opened part ≡ Some o → (first : ℕ) (rows : List (List Tokens)) → ((at : ℕ) (row : List Tokens) → slice_get rows at ≡ Some row → AllZip AreSame (map (tokens_to (first + at)) opened) row)
    → AllZip AreSame (map (λ n. tokens_to n o) (range_with_len first (length rows))) (column rows part)
column_dealt opened part o is first [] each = tt
column_dealt opened part o is first (row ∷ rows) each =
    let none : first + 0 ≡ first = omega arith in
    let here = subst (λ n. AllZip AreSame (map (tokens_to n) opened) row) none (each 0 row refl) in
    let found = zip_left AreSame (map (tokens_to first) opened) row part (tokens_to first o) here (there opened part is) in
    let rest = column_dealt opened part o is (first + 1) rows (λ at r e. let more : first + suc at ≡ first + 1 + at = omega arith in subst (λ n. AllZip AreSame (map (tokens_to n) opened) r) more (each (suc at) r e)) in
    put (slice_get row part) found.0 found.1 found.2 rest
  where
    there : (os : List Opened) (k : ℕ) → slice_get os k ≡ Some o → slice_get (map (tokens_to first) os) k ≡ Some (tokens_to first o)
    there [] k e = absurd (cc e)
    there (p ∷ os) zero e = (let same : p ≡ o = cc in ap (λ x. Some (tokens_to first x)) same)
    there (p ∷ os) (suc k) e = there os k e

    put : (found : _) (t : Tokens) → found ≡ Some t → AreSame (tokens_to first o) t → AllZip AreSame (map (λ n. tokens_to n o) (range_with_len (first + 1) (length rows))) (column rows part)
        → AllZip AreSame (map (λ n. tokens_to n o) (range_with_len first (length (row ∷ rows)))) (cons_option found (column rows part))
    put None t e same all = absurd (cc e)
    put (Some u) t e same all = (subst (AreSame (tokens_to first o)) (sym (some-same u t e)) same, all)

-- so all of them are ready
pub all_ready : (crew : Crew) (rows : List (List Tokens)) (part : ℕ) (opened : List Opened) (processes : List DiskProcess) (servers : List Server) → 1 ≤ crew.sessions → processes ≡ map (λ (o : Opened). o.process) opened → AllByRecursion (IsMadeFor crew) opened
    → ((i : ℕ) (o : Opened) → slice_get opened i ≡ Some o → AllZip AreSame (session_tokens crew o) (column rows (part + i))) → AllZip HasServed (servers_from crew part opened) servers
    → AreReady crew part opened processes (map (column rows) (range_with_len part (length opened))) servers
all_ready crew rows part [] [] [] some is made each served = refl
all_ready crew rows part [] [] (s ∷ servers) some is made each served = absurd served
all_ready crew rows part [] (d ∷ processes) servers some is made each served = absurd (cc is)
all_ready crew rows part (o ∷ opened) [] servers some is made each served = absurd (cc is)
all_ready crew rows part (o ∷ opened) (d ∷ processes) servers some is made each served =
    let first : d ≡ o.process = cc in
    let behind : processes ≡ map (λ (x : Opened). x.process) opened = cc in
    let none : part + 0 ≡ part = omega arith in
    let many : length (servers_at crew part o) ≡ crew.servers = length-map (range_with_len crew.sessions crew.servers) (server_to part o) ∙ range-length crew.servers crew.sessions in
    let own = subst (λ n. AllZip HasServed (servers_at crew part o) (take n servers)) many (zip_take HasServed (servers_at crew part o) (servers_from crew (part + 1) opened) servers served) in
    let rest = subst (λ n. AllZip HasServed (servers_from crew (part + 1) opened) (drop n servers)) many (zip_drop HasServed (servers_at crew part o) (servers_from crew (part + 1) opened) servers served) in (
      record { process_is = first; made_for = made.0; some = some; tokens_are = subst (λ n. AllZip AreSame (session_tokens crew o) (column rows n)) none (each 0 o refl); servers_are = own },
      all_ready crew rows (part + 1) opened processes (drop crew.servers servers) some behind made.1 (λ i x e. let more : part + suc i ≡ part + 1 + i = omega arith in subst (λ n. AllZip AreSame (session_tokens crew x) (column rows n)) more (each (suc i) x e)) rest,
    )
