-- All partitions are closed, one after the other.
use Rattle.std.proofs.Common.{◌≡◌, ◌≤◌, ◌+◌, ℕ, zero, suc, List, [], ◌∷◌, ◌++◌, length, map, take, drop, refl, ap, sym, ◌∙◌, subst, append_assoc, arith}
use Rattle.std.specs.Prelude.{slice_get}
use Rattle.std.specs.List.{cons_option, AllByRecursion, range_with_len}
use Rattle.std.proofs.lemmas.List.{append-nil, length-map, length_push}
use Rattle.std.proofs.lemmas.List.Elements.{filter_map-append}
use Rattle.partition_core.specs.Kept.{Kept}
use Rattle.sql_base.proofs.ListFacts.{all_right, drop-at, range-length, some-at, zip_length}
use Rattle.executor_pool.specs.Closing.{AreLeft, AreReady, HasServed, IsClosed, IsLeft, IsReady, column}
use Rattle.executor_pool.specs.Dealing.{Opened, lengthened, server_to, servers_at}
use Rattle.executor_pool.specs.Jobs.{KeepsMail}
use Rattle.executor_pool.specs.declared.processes.Crew.{Crew}
use Rattle.executor_pool.specs.declared.processes.DiskProcess.{DiskProcess}
use Rattle.executor_pool.specs.declared.sessions.SessionJob.{SessionJob}
use Rattle.executor_pool.specs.declared.tokens.Server.{Server}
use Rattle.executor_pool.specs.declared.tokens.Tokens.{Tokens}
use Rattle.executor_pool.proofs.Closing.{all_dealt}

-- the partitions that are closed so far, and those that are left, of these and these columns
pub record ClosedSoFar (crew : Crew) (opened : List Opened) (columns : List (List Tokens)) (processes : List DiskProcess) (later : List (List Tokens)) (servers : List Server) (partitions : List Kept) : Type 0 where
  pub done : List Opened
  pub rest : List Opened
  pub split : opened ≡ done ++ rest
  pub earlier : List (List Tokens)
  pub columns_split : columns ≡ earlier ++ later
  pub many : length earlier ≡ length done
  pub ready : AreReady crew (length done) rest processes later servers
  pub left : AreLeft done earlier partitions

pub closed_start : (crew : Crew) (opened : List Opened) (columns : List (List Tokens)) (processes ps : List DiskProcess) (later : List (List Tokens)) (servers : List Server) (partitions : List Kept) → ps ≡ processes → later ≡ columns → partitions ≡ []
    → AreReady crew 0 opened processes columns servers → ClosedSoFar crew opened columns ps later servers partitions
closed_start crew opened columns processes ps later servers partitions same same_columns none ready =
    record {
      done = [];
      rest = opened;
      split = refl;
      earlier = [];
      columns_split = sym same_columns;
      many = refl;
      ready = subst (λ (xs : List DiskProcess). AreReady crew 0 opened xs later servers) (sym same) (subst (λ (cs : List (List Tokens)). AreReady crew 0 opened processes cs servers) (sym same_columns) ready);
      left = subst (AreLeft [] []) (sym none) tt;
    }

left_push : (done : List Opened) (earlier : List (List Tokens)) (partitions : List Kept) (o : Opened) (tokens : List Tokens) (k : Kept) → AreLeft done earlier partitions → length earlier ≡ length done → IsLeft o tokens k → AreLeft (done ++ o ∷ []) (earlier ++ tokens ∷ []) (partitions ++ k ∷ [])
left_push [] [] [] o tokens k left many one = (one, tt)
left_push [] (c ∷ earlier) partitions o tokens k left many one = absurd (omega (arith, many))
left_push [] [] (x ∷ partitions) o tokens k left many one = absurd left
left_push (d ∷ done) [] partitions o tokens k left many one = absurd left
left_push (d ∷ done) (c ∷ earlier) [] o tokens k left many one = absurd left
left_push (d ∷ done) (c ∷ earlier) (x ∷ partitions) o tokens k left many one = (left.0, left_push done earlier partitions o tokens k left.1 (omega (arith, many)) one)

-- the one that is closed next
pub record Next (crew : Crew) (part : ℕ) (rest : List Opened) (later : List (List Tokens)) (servers : List Server) (process : DiskProcess) (processes : List DiskProcess) : Type 0 where
  pub o : Opened
  pub others : List Opened
  pub rest_is : rest ≡ o ∷ others
  pub tokens : List Tokens
  pub more : List (List Tokens)
  pub later_is : later ≡ tokens ∷ more
  pub ready : IsReady crew part o process tokens (take crew.servers servers)
  pub ready_later : AreReady crew (part + 1) others processes more (drop crew.servers servers)

next_in : (crew : Crew) (part : ℕ) (rest : List Opened) (all : List DiskProcess) (later : List (List Tokens)) (servers : List Server) (process : DiskProcess) (processes : List DiskProcess) → AreReady crew part rest all later servers → all ≡ process ∷ processes
    → Next crew part rest later servers process processes
next_in crew part rest [] later servers process processes ready front = absurd (cc front)
next_in crew part [] (d ∷ ds) later servers process processes ready front = absurd ready
next_in crew part (o ∷ others) (d ∷ ds) [] servers process processes ready front = absurd ready
next_in crew part (o ∷ others) (d ∷ ds) (tokens ∷ more) servers process processes ready front =
    let first : d ≡ process = cc in
    let behind : ds ≡ processes = cc in
    record {
      o = o;
      others = others;
      rest_is = refl;
      tokens = tokens;
      more = more;
      later_is = refl;
      ready = subst (λ (x : DiskProcess). IsReady crew part o x tokens (take crew.servers servers)) first ready.0;
      ready_later = subst (λ (xs : List DiskProcess). AreReady crew (part + 1) others xs more (drop crew.servers servers)) behind ready.1;
    }

-- what is taken whole is there
taken_whole : {X : Type 0} (n : ℕ) (xs : List X) → length (take n xs) ≡ n → n ≤ length xs
taken_whole zero xs h = omega arith
taken_whole (suc n) [] h = absurd (omega (arith, h))
taken_whole (suc n) (x ∷ xs) h = let rest = taken_whole n xs (omega (arith, h)) in omega (arith, rest)

module _ (crew : Crew) (opened : List Opened) (columns : List (List Tokens)) (all : List DiskProcess) (later : List (List Tokens)) (servers : List Server) (partitions : List Kept) (process : DiskProcess) (processes : List DiskProcess)
    (so_far : ClosedSoFar crew opened columns all later servers partitions) (front : all ≡ process ∷ processes) where
  pub next_one : Next crew (length so_far.done) so_far.rest later servers process processes
  next_one = next_in crew (length so_far.done) so_far.rest all later servers process processes so_far.ready front

  pub some_later : (tokens : List Tokens) × (more : List (List Tokens)) × (later ≡ tokens ∷ more)
  some_later = (next_one.tokens, next_one.more, next_one.later_is)

  pub servers_there : crew.servers ≤ length servers
  servers_there =
      let dealt = length-map (range_with_len crew.sessions crew.servers) (server_to (length so_far.done) next_one.o) in
      let ranged = range-length crew.servers crew.sessions in
      let zipped = zip_length HasServed (servers_at crew (length so_far.done) next_one.o) (take crew.servers servers) next_one.ready.servers_are in
      taken_whole crew.servers servers (omega (arith, dealt, ranged, zipped))

  pub ready_next : (tokens : List Tokens) (more : List (List Tokens)) (own : List Server) → later ≡ tokens ∷ more → own ≡ take crew.servers servers → IsReady crew (length so_far.done) next_one.o process tokens own
  ready_next tokens more own is own_is =
      let same : next_one.tokens ∷ next_one.more ≡ tokens ∷ more = sym next_one.later_is ∙ is in
      let tokens_same : next_one.tokens ≡ tokens = cc in
      subst (λ (ts : List Tokens). IsReady crew (length so_far.done) next_one.o process ts own) tokens_same (subst (IsReady crew (length so_far.done) next_one.o process next_one.tokens) (sym own_is) next_one.ready)

  pub closed_more : (tokens : List Tokens) (more : List (List Tokens)) (own : List Server) (rest : List Server) (k : Kept) (then : List Kept) → later ≡ tokens ∷ more → own ≡ take crew.servers servers → rest ≡ drop crew.servers servers → then ≡ partitions ++ k ∷ []
      → ((part : ℕ) (o : Opened) → IsReady crew part o process tokens own → IsClosed o tokens own k) → ClosedSoFar crew opened columns processes more rest then
  closed_more tokens more own rest k then is own_is rest_is pushed closes =
      let n = next_one in
      let same : n.tokens ∷ n.more ≡ tokens ∷ more = sym n.later_is ∙ is in
      let tokens_same : n.tokens ≡ tokens = cc in
      let more_same : n.more ≡ more = cc in
      let ready : IsReady crew (length so_far.done) n.o process tokens own = subst (λ (ts : List Tokens). IsReady crew (length so_far.done) n.o process ts own) tokens_same (subst (IsReady crew (length so_far.done) n.o process n.tokens) (sym own_is) n.ready) in
      let closed = closes (length so_far.done) n.o ready in
      let served = all_dealt (server_to (length so_far.done) n.o) HasServed KeepsMail (λ a b h. h.1) (range_with_len crew.sessions crew.servers) own ready.servers_are in
      let at : length so_far.done + 1 ≡ length (so_far.done ++ n.o ∷ []) = sym (length_push so_far.done n.o) in
      record {
        done = so_far.done ++ n.o ∷ [];
        rest = n.others;
        split = so_far.split ∙ ap (λ (os : List Opened). so_far.done ++ os) n.rest_is ∙ sym (append_assoc so_far.done (n.o ∷ []) n.others);
        earlier = so_far.earlier ++ tokens ∷ [];
        columns_split = so_far.columns_split ∙ ap (λ (cs : List (List Tokens)). so_far.earlier ++ cs) is ∙ sym (append_assoc so_far.earlier (tokens ∷ []) more);
        many = length_push so_far.earlier tokens ∙ ap (λ n. n + 1) so_far.many ∙ at;
        ready = subst (λ (i : ℕ). AreReady crew i n.others processes more rest) at (subst (λ (cs : List (List Tokens)). AreReady crew (length so_far.done + 1) n.others processes cs rest) more_same (
            subst (AreReady crew (length so_far.done + 1) n.others processes n.more) (sym rest_is) n.ready_later));
        left = subst (AreLeft (so_far.done ++ n.o ∷ []) (so_far.earlier ++ tokens ∷ [])) (sym pushed) (left_push so_far.done so_far.earlier partitions n.o tokens k so_far.left so_far.many (record { servers = own; served = served; closed = closed }));
      }

none_ready : (crew : Crew) (part : ℕ) (rest : List Opened) (all : List DiskProcess) (later : List (List Tokens)) (servers : List Server) → AreReady crew part rest all later servers → all ≡ [] → (rest ≡ []) × (later ≡ [])
none_ready crew part [] [] [] servers ready none = (refl, refl)
none_ready crew part [] [] (c ∷ later) servers ready none = absurd ready
none_ready crew part (o ∷ rest) [] later servers ready none = absurd ready
none_ready crew part rest (d ∷ all) later servers ready none = absurd (cc none)

pub closed_last : (crew : Crew) (opened : List Opened) (columns : List (List Tokens)) (all : List DiskProcess) (later : List (List Tokens)) (servers : List Server) (partitions : List Kept) → ClosedSoFar crew opened columns all later servers partitions → all ≡ []
    → AreLeft opened columns partitions
closed_last crew opened columns all later servers partitions so_far none =
    let nothing = none_ready crew (length so_far.done) so_far.rest all later servers so_far.ready none in
    let opened_is : opened ≡ so_far.done = so_far.split ∙ ap (λ (os : List Opened). so_far.done ++ os) nothing.0 ∙ append-nil so_far.done in
    let columns_are : columns ≡ so_far.earlier = so_far.columns_split ∙ ap (λ (cs : List (List Tokens)). so_far.earlier ++ cs) nothing.1 ∙ append-nil so_far.earlier in
    subst (λ (os : List Opened). AreLeft os columns partitions) (sym opened_is) (subst (λ (cs : List (List Tokens)). AreLeft so_far.done cs partitions) (sym columns_are) so_far.left)

-- columns with one session more
pub columns_more : (rows : List (List Tokens)) (row : List Tokens) (a n : ℕ) → length row ≡ a + n → lengthened (map (column rows) (range_with_len a n)) (drop a row) ≡ map (column (rows ++ row ∷ [])) (range_with_len a n)
columns_more rows row a zero long = refl
columns_more rows row a (suc n) long =
    let found = some-at row a (omega (arith, long)) in
    let here : column (rows ++ row ∷ []) a ≡ column rows a ++ found.0 ∷ [] = filter_map-append (λ (r : List Tokens). slice_get r a) rows (row ∷ []) ∙ ap (λ o. column rows a ++ cons_option o []) found.1 in
    ap (lengthened (map (column rows) (range_with_len a (suc n)))) (drop-at row a found.0 found.1) ∙ (λ i. sym here i ∷ columns_more rows row (a + 1) n (omega (arith, long)) i)

pub session_long : {Q : Type 0} (parts : ℕ) (all front left rest : List (SessionJob Q)) (s : SessionJob Q) → AllByRecursion (λ (x : SessionJob Q). length x.tokens.items ≡ parts) all → all ≡ front ++ left → left ≡ s ∷ rest → length s.tokens.items ≡ parts
session_long parts all front left rest s each whole is =
    let P = λ (x : SessionJob _). length x.tokens.items ≡ parts in
    (all_right P front (s ∷ rest) (subst (AllByRecursion P) (whole ∙ ap (λ xs. front ++ xs) is) each)).0
