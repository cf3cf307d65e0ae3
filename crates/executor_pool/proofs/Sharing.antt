-- The partitions of a run are shared, one after the other.
use Rattle.std.proofs.Common.{◌≡◌, ◌<◌, ◌+◌, ℕ, zero, suc, List, [], ◌∷◌, ◌++◌, length, map, replicate, take, drop, refl, ap, sym, ◌∙◌, subst, append_assoc, arith}
use Rattle.std.specs.Prelude.{slice_get, Some}
use Rattle.std.specs.List.{AllByRecursion, range_with_len}
use Rattle.std.proofs.lemmas.List.{append-nil, length-map, length_push}
use Rattle.sql_base.specs.Scripts.{IsScript}
use Rattle.sql_base.specs.declared.scripts.Limits.{Limits}
use Rattle.sql_base.specs.declared.scripts.Script.{Script}
use Rattle.sql_base.specs.declared.tables.TableDef.{TableDef}
use Rattle.sql_base.specs.declared.values.Value.{Value}
use Rattle.sql_base.proofs.ListFacts.{all-push, all_at, all_joined, all-images, map-push, place-within, range-length}
use Rattle.partition_core.specs.Kept.{Kept, opened_with}
use Rattle.partition_state.specs.State.{State, new_opener, opening}
use Rattle.plans_laws.proofs.SpelledHistories.{opening-spelled}
use Rattle.one_thread.specs.One.{load_rows, loaded}
use Rattle.run_record.specs.Openings.{openings, openings_from, rows_in_part}
use Rattle.run_record.proofs.OpeningLengths.{openings-length}
use Rattle.mail_queue.specs.Tokens.{PosterToken, TakerToken, new_poster, new_taker}
use Rattle.turn_lock.specs.Pass.{new_pass}
use Rattle.shared_partition.specs.Sharing.{PartitionPass}
use Rattle.shared_partition.specs.Spelled.{IsOpening}
use Rattle.executor_pool.specs.Dealing.{AreShared, IsMadeFor, Opened, bundled, lengthened, manned, server_to, servers_at, servers_from, session_tokens, tokens_to}
use Rattle.executor_pool.specs.declared.processes.Crew.{Crew}
use Rattle.executor_pool.specs.declared.processes.DiskProcess.{DiskProcess}
use Rattle.executor_pool.specs.declared.processes.Shares.{Shares}
use Rattle.executor_pool.specs.declared.tokens.Server.{Server}
use Rattle.executor_pool.specs.declared.tokens.Tokens.{Tokens}

-- no opener was served as a partition opens
openers-new : (limits : Limits) (tables : List TableDef) (loads : List (List (List Value))) → AllByRecursion (λ (p : State). p.openers ≡ replicate 8 new_opener) (openings_from limits tables loads)
openers-new limits [] loads = tt
openers-new limits (table ∷ tables) [] = tt
openers-new limits (table ∷ tables) (rows ∷ loads) =
    let open_at : ℕ → State = λ place. opening table place limits (rows_in_part table place rows) in
    let P : State → Type 0 = λ p. p.openers ≡ replicate 8 new_opener in
    all_joined P (map open_at (range_with_len 0 (length table.firsts + 1))) (openings_from limits tables loads) (all-images P open_at (λ place. refl) (range_with_len 0 (length table.firsts + 1)))
    (openers-new limits tables loads)

opening-is : (script : Script) (part : ℕ) (p : State) → IsScript script → slice_get (openings script) part ≡ Some p → IsOpening p
opening-is script part p is there =
    record { spelled = opening-spelled script part p is there; openers = all_at (λ (q : State). q.openers ≡ replicate 8 new_opener) (openings script) part p (openers-new script.limits script.tables _) there }

-- the partitions that are shared so far, and those that are left
pub record SharesSoFar (crew : Crew) (states : List State) (left : List Kept) (part : ℕ) (s : Shares) : Type 0 where
  pub opened : List Opened
  pub split : map (λ (o : Opened). opened_with o.opening) opened ++ left ≡ map opened_with states
  pub many : length opened ≡ part
  pub shared : AreShared crew opened s

pub shares_begin : (crew : Crew) (states : List State) (left : List Kept) (s : Shares) → left ≡ map opened_with states → s.processes.items ≡ [] → map (λ row. row.items) s.tokens.items ≡ map (λ n. []) (range_with_len 0 crew.sessions)
    → s.servers.items ≡ [] → SharesSoFar crew states left 0 s
shares_begin crew states left s is processes tokens servers =
    record { opened = []; split = is; many = refl; shared = record { processes = processes; tokens = tokens; servers = servers; made_for = tt } }

-- the one that is shared next
split_at : (states : List State) (front : List Kept) (k : Kept) (rest : List Kept) → front ++ k ∷ rest ≡ map opened_with states → (p : State) × (slice_get states (length front) ≡ Some p) × (k ≡ opened_with p)
split_at [] [] k rest is = absurd (cc is)
split_at [] (f ∷ front) k rest is = absurd (cc is)
split_at (p ∷ states) [] k rest is = (p, refl, (let first : k ≡ opened_with p = cc in first))
split_at (p ∷ states) (f ∷ front) k rest is = split_at states front k rest (let behind : front ++ k ∷ rest ≡ map opened_with states = cc in behind)

abbrev kept_of : List Opened → List Kept
kept_of opened = map (λ (o : Opened). opened_with o.opening) opened

module _ (crew : Crew) (script : Script) (is : IsScript script) (k : Kept) (rest left : List Kept) (part : ℕ) (s : Shares) (so_far : SharesSoFar crew (openings script) left part s) (front : left ≡ k ∷ rest) where
  next_state : (p : State) × (slice_get (openings script) (length (kept_of so_far.opened)) ≡ Some p) × (k ≡ opened_with p)
  next_state = split_at (openings script) (kept_of so_far.opened) k rest (ap (λ (ks : List Kept). kept_of so_far.opened ++ ks) (sym front) ∙ so_far.split)

  pub next_fresh : k ≡ opened_with k.opening
  next_fresh = next_state.2 ∙ ap opened_with (sym (ap (λ (x : Kept). x.opening) next_state.2))

  pub next_opens : IsOpening k.opening
  next_opens = subst IsOpening (sym (ap (λ (x : Kept). x.opening) next_state.2)) (opening-is script (length (kept_of so_far.opened)) next_state.0 is next_state.1)

  pub next_few : part < 16
  next_few =
      let within = place-within (openings script) (length (kept_of so_far.opened)) next_state.0 next_state.1 in
      let many = so_far.many in
      let opened = length-map so_far.opened (λ (o : Opened). opened_with o.opening) in
      let loads = length-map (range_with_len 0 (length script.tables)) (load_rows script.loads) in
      let ranged = range-length (length script.tables) 0 in
      let all = openings-length script.limits script.tables (loaded script).records (loads ∙ ranged) in
      let few = is.parts in
      omega (arith, within, many, opened, all, few)

  -- and once it is
  pub shares_more : (made : Shares) (o : Opened) → o.opening ≡ k.opening → ((opened : List Opened) → length opened ≡ part → AreShared crew opened s → AreShared crew (opened ++ o ∷ []) made) → SharesSoFar crew (openings script) rest (part + 1) made
  shares_more made o opening_is more =
      let opened = so_far.opened in
      let many = so_far.many in
      let at_end : kept_of (opened ++ o ∷ []) ≡ kept_of opened ++ k ∷ [] = map-push (λ (x : Opened). opened_with x.opening) opened o ∙ ap (λ (x : Kept). kept_of opened ++ x ∷ []) (ap opened_with opening_is ∙ sym next_fresh) in
      record {
        opened = opened ++ o ∷ [];
        split = ap (λ (ks : List Kept). ks ++ rest) at_end ∙ append_assoc (kept_of opened) (k ∷ []) rest ∙ ap (λ (ks : List Kept). kept_of opened ++ ks) (sym front) ∙ so_far.split;
        many = length_push opened o ∙ ap (λ n. n + 1) many;
        shared = more opened many so_far.shared;
      }

-- all are shared
openings_of : (opened : List Opened) (states : List State) → kept_of opened ≡ map opened_with states → map (λ (o : Opened). o.opening) opened ≡ states
openings_of [] [] is = refl
openings_of [] (p ∷ states) is = absurd (cc is)
openings_of (o ∷ opened) [] is = absurd (cc is)
openings_of (o ∷ opened) (p ∷ states) is =
    let first : opened_with o.opening ≡ opened_with p = cc in
    let behind : kept_of opened ≡ map opened_with states = cc in
    let here : o.opening ≡ p = ap (λ (x : Kept). x.opening) first in
    let rest = openings_of opened states behind in
    (λ i. here i ∷ rest i)

pub shares_end : (crew : Crew) (states : List State) (left : List Kept) (part : ℕ) (s : Shares) → SharesSoFar crew states left part s → left ≡ [] → (opened : List Opened) × (map (λ (o : Opened). o.opening) opened ≡ states) × AreShared crew opened s
shares_end crew states left part s so_far none =
    let whole = sym (append-nil (kept_of so_far.opened)) ∙ ap (λ (ks : List Kept). kept_of so_far.opened ++ ks) (sym none) ∙ so_far.split in
    (so_far.opened, openings_of so_far.opened states whole, so_far.shared)

-- one partition more
pub lengthened_maps : {X Y : Type 0} (f : X → List Y) (g : X → Y) (ns : List X) → lengthened (map f ns) (map g ns) ≡ map (λ n. f n ++ g n ∷ []) ns
lengthened_maps f g [] = refl
lengthened_maps f g (n ∷ ns) = ap (λ rest. (f n ++ g n ∷ []) ∷ rest) (lengthened_maps f g ns)

servers_push : (crew : Crew) (part : ℕ) (opened : List Opened) (o : Opened) → servers_from crew part (opened ++ o ∷ []) ≡ servers_from crew part opened ++ servers_at crew (part + length opened) o
servers_push crew part [] o = let same : part ≡ part + 0 = omega arith in append-nil (servers_at crew part o) ∙ ap (λ n. servers_at crew n o) same
servers_push crew part (p ∷ opened) o =
    let same : part + 1 + length opened ≡ part + suc (length opened) = omega arith in
    ap (λ rest. servers_at crew part p ++ rest) (servers_push crew (part + 1) opened o ∙ ap (λ n. servers_from crew (part + 1) opened ++ servers_at crew n o) same)
    ∙ sym (append_assoc (servers_at crew part p) (servers_from crew (part + 1) opened) (servers_at crew (part + length (p ∷ opened)) o))

pub shared_more : (crew : Crew) (opened : List Opened) (part : ℕ) (s made : Shares) (o : Opened) (process : DiskProcess) (own : List Tokens) (rest : List Server) → length opened ≡ part → AreShared crew opened s → IsMadeFor crew o → process ≡ o.process
    → own ≡ session_tokens crew o → rest ≡ servers_at crew part o → made.processes.items ≡ s.processes.items ++ process ∷ [] → map (λ row. row.items) made.tokens.items ≡ lengthened (map (λ row. row.items) s.tokens.items) own
    → made.servers.items ≡ s.servers.items ++ rest → AreShared crew (opened ++ o ∷ []) made
shared_more crew opened part s made o process own rest many are made_for is own_is rest_is processes tokens servers =
    let numbers = range_with_len 0 crew.sessions in
    let at : part ≡ 0 + length opened = omega (arith, many) in
    record {
      processes = processes ∙ (λ i. are.processes i ++ is i ∷ []) ∙ sym (map-push (λ (x : Opened). x.process) opened o);
      tokens = tokens ∙ (λ i. lengthened (are.tokens i) (own_is i)) ∙ lengthened_maps (λ n. map (tokens_to n) opened) (λ n. tokens_to n o) numbers ∙ (λ i. map (λ n. sym (map-push (tokens_to n) opened o) i) numbers);
      servers = servers ∙ (λ i. are.servers i ++ rest_is i) ∙ ap (λ n. servers_from crew 0 opened ++ servers_at crew n o) at ∙ sym (servers_push crew 0 opened o);
      made_for = all-push (IsMadeFor crew) opened o are.made_for made_for;
    }

-- what lists are long that are dealt alike
pub rows_many : (crew : Crew) (opened : List Opened) (s : Shares) → AreShared crew opened s → length s.tokens.items ≡ crew.sessions
rows_many crew opened s are =
    let one = length-map s.tokens.items (λ row. row.items) in
    let two = length-map (range_with_len 0 crew.sessions) (λ n. map (tokens_to n) opened) in
    sym one ∙ ap length are.tokens ∙ two ∙ range-length crew.sessions 0

pub bundled_maps : (o : Opened) (ns : List ℕ) → bundled (map (new_pass o.process.partition (opened_with o.opening)) ns) (map (new_poster o.process.mail) ns) (map (new_taker o.process.mail) ns) ≡ map (λ n. tokens_to n o) ns
bundled_maps o [] = refl
bundled_maps o (n ∷ ns) = ap (λ rest. tokens_to n o ∷ rest) (bundled_maps o ns)

pub manned_maps : (part : ℕ) (o : Opened) (ns : List ℕ) → manned part (map (new_pass o.process.partition (opened_with o.opening)) ns) (map (new_taker o.process.mail) ns) ≡ map (server_to part o) ns
manned_maps part o [] = refl
manned_maps part o (n ∷ ns) = ap (λ rest. server_to part o n ∷ rest) (manned_maps part o ns)

-- numbers are cut
pub take_range : (a n more : ℕ) → take n (range_with_len a (n + more)) ≡ range_with_len a n
take_range a zero more = refl
take_range a (suc n) more = let same : suc n + more ≡ suc (n + more) = omega arith in ap (λ m. take (suc n) (range_with_len a m)) same ∙ ap (λ rest. a ∷ rest) (take_range (a + 1) n more)

pub drop_range : (a n more : ℕ) → drop n (range_with_len a (n + more)) ≡ range_with_len (a + n) more
drop_range a zero more = let none : 0 + more ≡ more = omega arith in let same : a ≡ a + 0 = omega arith in ap (range_with_len a) none ∙ ap (λ b. range_with_len b more) same
drop_range a (suc n) more =
    let same : suc n + more ≡ suc (n + more) = omega arith in
    let at : a + 1 + n ≡ a + suc n = omega arith in
    ap (λ m. drop (suc n) (range_with_len a m)) same ∙ drop_range (a + 1) n more ∙ ap (λ b. range_with_len b more) at

pub take_map : {X Y : Type 0} (f : X → Y) (n : ℕ) (xs : List X) → take n (map f xs) ≡ map f (take n xs)
take_map f zero xs = refl
take_map f (suc n) [] = refl
take_map f (suc n) (x ∷ xs) = ap (λ rest. f x ∷ rest) (take_map f n xs)

pub drop_map : {X Y : Type 0} (f : X → Y) (n : ℕ) (xs : List X) → drop n (map f xs) ≡ map f (drop n xs)
drop_map f zero xs = refl
drop_map f (suc n) [] = refl
drop_map f (suc n) (x ∷ xs) = drop_map f n xs

-- the tokens of a partition's sessions and its servers, of passes and takers that were cut behind the sessions'
module _ (crew : Crew) (o : Opened) (passes own_passes later_passes : List PartitionPass) (takers own_takers later_takers : List TakerToken)
    (passes_are : passes ≡ map (new_pass o.process.partition (opened_with o.opening)) (range_with_len 0 (crew.sessions + crew.servers))) (takers_are : takers ≡ map (new_taker o.process.mail) (range_with_len 0 (crew.sessions + crew.servers))) where
  abbrev pass_at : ℕ → PartitionPass
  pass_at = new_pass o.process.partition (opened_with o.opening)

  abbrev taker_at : ℕ → TakerToken
  taker_at = new_taker o.process.mail

  pub passes_many : length passes ≡ crew.sessions + crew.servers
  passes_many = ap length passes_are ∙ length-map (range_with_len 0 (crew.sessions + crew.servers)) pass_at ∙ range-length (crew.sessions + crew.servers) 0

  pub takers_many : length takers ≡ crew.sessions + crew.servers
  takers_many = ap length takers_are ∙ length-map (range_with_len 0 (crew.sessions + crew.servers)) taker_at ∙ range-length (crew.sessions + crew.servers) 0

  first_of : {Y : Type 0} (f : ℕ → Y) (all own : List Y) → all ≡ map f (range_with_len 0 (crew.sessions + crew.servers)) → own ≡ take crew.sessions all → own ≡ map f (range_with_len 0 crew.sessions)
  first_of f all own are cut = cut ∙ ap (take crew.sessions) are ∙ take_map f crew.sessions (range_with_len 0 (crew.sessions + crew.servers)) ∙ ap (map f) (take_range 0 crew.sessions crew.servers)

  later_of : {Y : Type 0} (f : ℕ → Y) (all later : List Y) → all ≡ map f (range_with_len 0 (crew.sessions + crew.servers)) → later ≡ drop crew.sessions all → later ≡ map f (range_with_len crew.sessions crew.servers)
  later_of f all later are cut =
      let none : 0 + crew.sessions ≡ crew.sessions = omega arith in
      cut ∙ ap (drop crew.sessions) are ∙ drop_map f crew.sessions (range_with_len 0 (crew.sessions + crew.servers)) ∙ ap (map f) (drop_range 0 crew.sessions crew.servers ∙ ap (λ a. range_with_len a crew.servers) none)

  pub first_many : {Y : Type 0} (f : ℕ → Y) (all own : List Y) → all ≡ map f (range_with_len 0 (crew.sessions + crew.servers)) → own ≡ take crew.sessions all → length own ≡ crew.sessions
  first_many f all own are cut = ap length (first_of f all own are cut) ∙ length-map (range_with_len 0 crew.sessions) f ∙ range-length crew.sessions 0

  pub later_many : {Y : Type 0} (f : ℕ → Y) (all later : List Y) → all ≡ map f (range_with_len 0 (crew.sessions + crew.servers)) → later ≡ drop crew.sessions all → length later ≡ crew.servers
  later_many f all later are cut = ap length (later_of f all later are cut) ∙ length-map (range_with_len crew.sessions crew.servers) f ∙ range-length crew.servers crew.sessions

  pub tokens_dealt : (posters : List PosterToken) (tokens : List Tokens) → posters ≡ map (new_poster o.process.mail) (range_with_len 0 crew.sessions) → own_passes ≡ take crew.sessions passes → own_takers ≡ take crew.sessions takers
      → tokens ≡ bundled own_passes posters own_takers → tokens ≡ session_tokens crew o
  tokens_dealt posters tokens posters_are passes_cut takers_cut are =
      are ∙ (λ i. bundled (first_of pass_at passes own_passes passes_are passes_cut i) (posters_are i) (first_of taker_at takers own_takers takers_are takers_cut i)) ∙ bundled_maps o (range_with_len 0 crew.sessions)

  pub servers_dealt : (part : ℕ) (servers : List Server) → later_passes ≡ drop crew.sessions passes → later_takers ≡ drop crew.sessions takers → servers ≡ manned part later_passes later_takers → servers ≡ servers_at crew part o
  servers_dealt part servers passes_cut takers_cut are =
      are ∙ (λ i. manned part (later_of pass_at passes later_passes passes_are passes_cut i) (later_of taker_at takers later_takers takers_are takers_cut i)) ∙ manned_maps part o (range_with_len crew.sessions crew.servers)

-- a list of no length
pub none_left : {X : Type 0} (xs : List X) → length xs ≡ 0 → xs ≡ []
none_left [] h = refl
none_left (x ∷ xs) h = absurd (omega (arith, h))
