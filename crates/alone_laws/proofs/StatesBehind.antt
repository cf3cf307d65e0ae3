-- All partitions behind some entries of the log.
use Rattle.std.proofs.Common.{◌≡◌, ◌+◌, ℕ, zero, suc, List, [], ◌∷◌, ◌++◌, length, filter, take, Some, refl, ap, sym, ◌∙◌, subst, arith}
use Rattle.std.specs.Prelude.{slice_get}
use Rattle.std.specs.List.{AllByRecursion}
use Rattle.std.proofs.lemmas.List.Elements.{filter-append}
use Rattle.sql_base.specs.Scripts.{parts_of}
use Rattle.sql_base.specs.declared.lock_names.TxnName.{TxnName}
use Rattle.sql_base.specs.declared.scripts.Script.{Script}
use Rattle.sql_base.specs.declared.tables.TableDef.{TableDef}
use Rattle.dp_messages.specs.declared.requests.Ask.TheVariants as ask
use Rattle.key_sequenced.specs.Cells.{Keyed, records}
use Rattle.partition_state.specs.State.{State}
use Rattle.partition_state.specs.Step.{step}
use Rattle.partition_laws.proofs.RowLaws.{fixed-step}
use Rattle.serial_laws.proofs.Keeps.{sound-step}
use Rattle.session_grammar.specs.Rows.{is_for}
use Rattle.session_grammar.specs.declared.logs.Answer.TheVariants.{Reply, PathFailed, Stamp}
use Rattle.session_grammar.specs.declared.logs.LogEntry.{LogEntry}
use Rattle.session_grammar.specs.declared.logs.LogEntry.TheVariants.{Asked, Drew}
use Rattle.record_laws.proofs.Attempts.{IsWork}
use Rattle.alone_laws.specs.Scaffold.Served.{Lively, Replies, served_by}
use Rattle.alone_laws.specs.Scaffold.States.{AllLively, AllReply, AreOpen, IsOpen, behind, views}
use Rattle.alone_laws.proofs.HistoriesFollow.{replies-back, replies-front, served-append}
use Rattle.alone_laws.proofs.OneLive.{lively-step}
use Rattle.serial_passes.proofs.KeyCommits.{open_ask}
use Rattle.sql_base.proofs.ListFacts.{all-filter}

-- one list of entries behind another
pub behind_twice : (i : ℕ) (qs : List State) (xs ys : List LogEntry) → behind i (behind i qs xs) ys ≡ behind i qs (xs ++ ys)
behind_twice i [] xs ys = refl
behind_twice i (q ∷ qs) xs ys =
    let head : served_by (served_by q (filter (is_for i) xs)) (filter (is_for i) ys) ≡ served_by q (filter (is_for i) (xs ++ ys)) =
    sym (served-append q (filter (is_for i) xs) (filter (is_for i) ys)) ∙ ap (served_by q) (sym (filter-append (is_for i) xs ys)) in
    let tail = behind_twice (suc i) qs xs ys in
    λ k. head k ∷ tail k

pub behind_length : (i : ℕ) (qs : List State) (es : List LogEntry) → length (behind i qs es) ≡ length qs
behind_length i [] es = refl
behind_length i (q ∷ qs) es = ap suc (behind_length (suc i) qs es)

-- a partition behind the entries was one before them
pub record CameFrom (i : ℕ) (qs : List State) (es : List LogEntry) (k : ℕ) (after : State) : Type 0 where
  pub before : State
  pub there : slice_get qs k ≡ Some before
  pub same : after ≡ served_by before (filter (is_for (i + k)) es)

pub came_from : (i : ℕ) (qs : List State) (es : List LogEntry) (k : ℕ) (after : State) → slice_get (behind i qs es) k ≡ Some after → CameFrom i qs es k after
came_from i [] es k after at = absurd (cc)
came_from i (q ∷ qs) es zero after at =
    let one : served_by q (filter (is_for i) es) ≡ after = cc in
    record { before = q; there = refl; same = sym one ∙ ap (λ n. served_by q (filter (is_for n) es)) (let e : i ≡ i + 0 = omega arith in e) }
came_from i (q ∷ qs) es (suc k) after at =
    let c = came_from (suc i) qs es k after at in
    record { before = c.before; there = c.there; same = c.same ∙ ap (λ n. served_by c.before (filter (is_for n) es)) (let e : suc i + k ≡ i + suc k = omega arith in e) }

-- a partition of the script stays one
pub open_served : (script : Script) (table : TableDef) (j : ℕ) (es : List LogEntry) (q : State) → IsOpen script table j q → IsOpen script table j (served_by q es)
open_served script table j [] q o = o
open_served script table j (Asked part sync request losses (Reply r) ∷ es) q o =
    let fixed = fixed-step q 1 sync request in
    open_served script table j es (step q 1 sync request).state
    (record { sound = sound-step q 1 sync request (omega arith, omega arith) o.sound; table_is = fixed.table ∙ o.table_is; limits_is = fixed.limits ∙ o.limits_is; place_is = fixed.place ∙ o.place_is })
open_served script table j (Asked part sync request losses PathFailed ∷ es) q o = open_served script table j es q o
open_served script table j (Asked part sync request losses (Stamp stamp) ∷ es) q o = open_served script table j es q o
open_served script table j (Drew name floor answer ∷ es) q o = open_served script table j es q o

pub open_behind : (script : Script) (qs : List State) (es : List LogEntry) → AreOpen script qs → AreOpen script (behind 0 qs es)
open_behind script qs es o = record {
  enough = let long = behind_length 0 qs es in let more = o.enough in omega arith;
  few = let long = behind_length 0 qs es in let more = o.few in omega arith;
  here = λ place j table q at less there. let k : ℕ = parts_of (take place script.tables) + j in
      let c = came_from 0 qs es k q there in
      subst (IsOpen script table j) (sym c.same) (open_served script table j (filter (is_for (0 + k)) es) c.before (o.here place j table c.before at less c.there));
}

-- replies to the first entries, and then to those behind
pub reply_front : (qs : List State) (xs ys : List LogEntry) → AllReply qs (xs ++ ys) → AllReply qs xs
reply_front qs xs ys all k q there = replies-front q (filter (is_for k) xs) (filter (is_for k) ys) (subst (Replies q) (filter-append (is_for k) xs ys) (all k q there))

pub reply_behind : (qs : List State) (xs ys : List LogEntry) → AllReply qs (xs ++ ys) → AllReply (behind 0 qs xs) ys
reply_behind qs xs ys all k q there =
    let c = came_from 0 qs xs k q there in
    let zero_k : 0 + k ≡ k = omega arith in
    let same : q ≡ served_by c.before (filter (is_for k) xs) = c.same ∙ ap (λ n. served_by c.before (filter (is_for n) xs)) zero_k in
    subst (λ s. Replies s (filter (is_for k) ys)) (sym same)
    (replies-back c.before (filter (is_for k) xs) (filter (is_for k) ys) (subst (Replies c.before) (filter-append (is_for k) xs ys) (all k c.before c.there)))

pub lively_served : (t : TxnName) (ordinal : ℕ) → t ≡ record { session = 1; ordinal = ordinal } → (base : List Keyed) (top : ℕ) (es : List LogEntry) (q : State) → AllByRecursion (IsWork ordinal) es → Lively t base top q → Lively t base top (served_by q es)
lively_served t ordinal own base top [] q work l = l
lively_served t ordinal own base top (Asked part sync request losses (Reply r) ∷ es) q work l =
    let mine : t ≡ record { session = 1; ordinal = request.ordinal } = own ∙ (λ i. record { session = 1; ordinal = sym work.0.0 i }) in
    lively_served t ordinal own base top es (step q 1 sync request).state work.1 (lively-step t base top q sync request mine (open_ask request.ask work.0.1) l)
lively_served t ordinal own base top (Asked part sync request losses PathFailed ∷ es) q work l = lively_served t ordinal own base top es q work.1 l
lively_served t ordinal own base top (Asked part sync request losses (Stamp stamp) ∷ es) q work l = lively_served t ordinal own base top es q work.1 l
lively_served t ordinal own base top (Drew name floor answer ∷ es) q work l = absurd work.0

pub lively_behind : (t : TxnName) (ordinal : ℕ) → t ≡ record { session = 1; ordinal = ordinal } → (bases : ℕ → List Keyed) (top : ℕ) (qs : List State) (es : List LogEntry) → AllByRecursion (IsWork ordinal) es → AllLively t bases top qs
    → AllLively t bases top (behind 0 qs es)
lively_behind t ordinal own bases top qs es work all k q there =
    let c = came_from 0 qs es k q there in
    subst (Lively t (bases k) top) (sym c.same) (lively_served t ordinal own (bases k) top (filter (is_for (0 + k)) es) c.before (all-filter (IsWork ordinal) (is_for (0 + k)) es work) (all k c.before c.there))

-- partitions whose records are the same behind two lists
pub views_alike : (xs ys : List LogEntry) (qs : List State) (i : ℕ)
    → ((k : ℕ) (q : State) → slice_get qs k ≡ Some q → records (served_by q (filter (is_for (i + k)) xs)).cells ≡ records (served_by q (filter (is_for (i + k)) ys)).cells) → views (behind i qs xs) ≡ views (behind i qs ys)
views_alike xs ys [] i same = refl
views_alike xs ys (q ∷ qs) i same =
    let head : records (served_by q (filter (is_for i) xs)).cells ≡ records (served_by q (filter (is_for i) ys)).cells =
    subst (λ n. records (served_by q (filter (is_for n) xs)).cells ≡ records (served_by q (filter (is_for n) ys)).cells) (let e : i + 0 ≡ i = omega arith in e) (same 0 q refl) in
    let tail = views_alike xs ys qs (suc i)
    (λ k x at. subst (λ n. records (served_by x (filter (is_for n) xs)).cells ≡ records (served_by x (filter (is_for n) ys)).cells) (let e : i + suc k ≡ suc i + k = omega arith in e) (same (suc k) x at)) in
    λ k. head k ∷ tail k

pub behind_nothing : (i : ℕ) (qs : List State) → behind i qs [] ≡ qs
behind_nothing i [] = refl
behind_nothing i (q ∷ qs) = ap (λ rest. q ∷ rest) (behind_nothing (suc i) qs)
