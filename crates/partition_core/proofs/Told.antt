-- What the walk of a quantum comes to is what the definition says.
use Rattle.std.specs.Prelude.{nat_le, nat_lt}
use Rattle.sql_base.specs.Locks.{first_conflict}
use Rattle.std.proofs.lemmas.Bool.{false≢true}
use Rattle.sql_base.specs.OnRows.{first_failing}
use Rattle.sql_base.specs.Rows.{key_of, key_width}
use Rattle.sql_base.specs.declared.faults.Fault.{Fault}
use Rattle.sql_base.specs.declared.lock_names.Mode.TheVariants.{X}
use Rattle.sql_base.specs.declared.values.Value.{Value}
use Rattle.sql_base.specs.declared.lock_names.Mode.{Mode}
use Rattle.std.proofs.lemmas.Bool.Decides.{nat_tests}
use Rattle.sql_base.specs.declared.key_ranges.KeyRange.{KeyRange}
use Rattle.sql_base.specs.declared.key_ranges.Start.TheVariants.{At}
use Rattle.std.proofs.Common.{◌≡◌, ◌<◌, ◌≤◌, ◌&&◌, ℕ, List, [], length, Bool, true, false, is_some, cond, Option, Some, None, refl, ap, sym, ◌∙◌, subst, arith}
use Rattle.sql_base.specs.Keys.{key_eq}
use Rattle.sql_base.specs.declared.faults.Cause.{Cause}
use Rattle.sql_base.specs.declared.lock_names.Access.{Access}
use Rattle.sql_base.specs.declared.lock_names.Access.TheVariants.{Browse, Stable, Repeatable}
use Rattle.sql_base.specs.declared.lock_names.Lock.{Lock}
use Rattle.sql_base.specs.declared.lock_names.TxnName.{TxnName}
use Rattle.key_sequenced.specs.Cells.{AreCells}
use Rattle.subset_blocks.specs.Blocks.{free_number, most_blocks}
use Rattle.subset_blocks.specs.declared.Block.{Block}
use Rattle.subset_blocks.specs.declared.Numbered.{Numbered}
use Rattle.quantum_core.specs.Quantum.{Handled, quantum}
use Rattle.quantum_core.specs.declared.replies.QuantumReply.{QuantumReply}
use Rattle.quantum_core.specs.declared.replies.QuantumReply.TheVariants as answers
use Rattle.quantum_core.specs.declared.works.SetWork.{SetWork}
use Rattle.quantum_runner.specs.Scaffold.Plans.{IsWalk, granted_by, left_with, rewritten_by}
use Rattle.quantum_runner.specs.Scaffold.Works.{IsWork}
use Rattle.quantum_runner.specs.declared.planned.Planned.{Planned}
use Rattle.quantum_runner.specs.declared.planned.Walk.{Walk}
use Rattle.quantum_runner.proofs.Changing.{quantum-left}
use Rattle.dp_messages.specs.declared.replies.Reply.{Reply}
use Rattle.dp_messages.specs.declared.replies.Reply.TheVariants.{BadCode, BadShape, DuplicateKey, Locked, TooManySubsets, WrongKey}
use Rattle.partition_state.specs.State.{State, with_live}
use Rattle.partition_state.specs.Step.{Answered, after_first, after_next, against_granule, as_row, begin_with, begins, first_quantum, goes_on, insert_against, insert_beside, insert_checked, insert_row, is_key_here, kept_key, lock_against, lock_granule, read_key, refused, with_granule, with_handled}
use Rattle.partition_core.specs.Scaffold.Changes.{IsFitting, after, granule_wanted, locks_with, tells}
use Rattle.partition_core.specs.Scaffold.Contents.{Parts}
use Rattle.partition_core.specs.Scaffold.Firsts.{first_by, first_change, first_reply, key_by, key_change, key_reply, next_by, next_change, next_reply}
use Rattle.partition_core.specs.declared.changes.Change.{Change}
use Rattle.partition_core.specs.declared.changes.Change.TheVariants.{Begins}
use Rattle.partition_core.specs.declared.changes.Judgement.{Judgement}

-- an answer by its reply and what it changes
abbrev pub by : State → TxnName → Reply → Change → Answered
by p t reply change = record { reply = reply; state = after p t change }

pub told-by : (p : State) (t : TxnName) (j : Judgement) (reply : Reply) (change : Change) → j.reply ≡ reply → j.change ≡ change → tells p t j ≡ by p t reply change
told-by p t j reply change r c = ap (λ x. by p t x j.change) r ∙ ap (by p t reply) c

abbrev handled : State → List Planned → QuantumReply → Handled
handled p plans reply = left_with reply (rewritten_by plans p.cells) (granted_by plans p.locks)

granule-locked : (p : State) (block : Block SetWork) (granule : List ℕ) (plans : List Planned) (reply : QuantumReply) (access : Access)
    → with_granule (with_handled (with_live p block.holder) (handled p plans reply)) block granule access
    ≡ record (with_live p block.holder) { cells = rewritten_by plans p.cells; locks = locks_with (granule_wanted block granule access) (granted_by plans p.locks) }
granule-locked p block granule plans reply Browse = refl
granule-locked p block granule plans reply Stable = refl
granule-locked p block granule plans reply Repeatable = refl

pub first-told : (p : State) (block : Block SetWork) (granule : List ℕ) (plans : List Planned) (reply : QuantumReply)
    → after_first (with_live p block.holder) block granule (handled p plans reply) reply ≡ by p block.holder (first_reply (free_number p.blocks) reply) (first_by (free_number p.blocks) block granule plans reply)
first-told p block granule plans (answers.Ended rows changed) =
    ap (λ (s : State). record { reply = first_reply (free_number p.blocks) (answers.Ended rows changed); state = s }) (granule-locked p block granule plans (answers.Ended rows changed) block.access)
first-told p block granule plans (answers.Redrive last cause rows changed) =
    ap (λ (s : State). record { reply = first_reply (free_number p.blocks) (answers.Redrive last cause rows changed); state = record s { blocks = (after p block.holder (first_by (free_number p.blocks) block granule plans (answers.Redrive last cause rows changed))).blocks } })
    (granule-locked p block granule plans (answers.Redrive last cause rows changed) block.access)
first-told p block granule plans (answers.Locked lock) = refl
first-told p block granule plans (answers.Failed key fault) = refl

pub against-live : (p : State) (t : TxnName) (block : Block SetWork) (granule : List ℕ) (access : Access) → against_granule (with_live p t) block granule access ≡ against_granule p block granule access
against-live p t block granule Browse = refl
against-live p t block granule Stable = refl
against-live p t block granule Repeatable = refl

-- a lock stands against the granule
pub barred-told : (p : State) (block : Block SetWork) (granule : List ℕ) (lock : Lock) → against_granule p block granule block.access ≡ Some lock
    → by p block.holder (Locked lock) (Begins [] None None) ≡ first_quantum (with_live p block.holder) block granule (against_granule (with_live p block.holder) block granule block.access)
barred-told p block granule lock bars = sym (ap (first_quantum (with_live p block.holder) block granule) (against-live p block.holder block granule block.access ∙ bars))

-- the first quantum is walked
pub walked-told : (p : State) (block : Block SetWork) (granule : List ℕ) (walk : Walk) → AreCells p.cells → IsWalk p.limits p.table p.cells p.locks block walk → against_granule p block granule block.access ≡ None
    → by p block.holder (first_reply (free_number p.blocks) walk.reply) (first_change (free_number p.blocks) block granule walk) ≡ first_quantum (with_live p block.holder) block granule (against_granule (with_live p block.holder) block granule block.access)
walked-told p block granule walk rise is free =
    let q = with_live p block.holder in
    sym (ap (first_quantum q block granule) (against-live p block.holder block granule block.access ∙ free)
    ∙ ap (λ (h : Handled). after_first q block granule h h.reply) (sym (quantum-left p.limits p.table p.cells p.locks block walk rise is))
    ∙ first-told p block granule walk.plans walk.reply)

-- a further quantum is walked
next-by : (p : State) (t : TxnName) (b : Numbered SetWork) (plans : List Planned) (reply : QuantumReply) → after_next p b (handled p plans reply) reply ≡ by p t (next_reply b.number reply) (next_by b.number plans reply)
next-by p t b plans (answers.Ended rows changed) = refl
next-by p t b plans (answers.Redrive last cause rows changed) = refl
next-by p t b plans (answers.Locked lock) = refl
next-by p t b plans (answers.Failed key fault) = refl

pub next-told : (p : State) (t : TxnName) (b : Numbered SetWork) (walk : Walk) → AreCells p.cells → IsWalk p.limits p.table p.cells p.locks b.block walk
    → by p t (next_reply b.number walk.reply) (next_change b.number walk) ≡ after_next p b (quantum p.limits p.table p.cells p.locks b.block) (quantum p.limits p.table p.cells p.locks b.block).reply
next-told p t b walk rise is =
    sym (ap (λ (h : Handled). after_next p b h h.reply) (sym (quantum-left p.limits p.table p.cells p.locks b.block walk rise is)) ∙ next-by p t b walk.plans walk.reply)

-- the quantum of one key doesn't go on
abbrev pub Ends : QuantumReply → Type 0
Ends reply = (last : List ℕ) (cause : Cause) (rows : List (List ℕ)) (changed : ℕ) → reply ≡ answers.Redrive last cause rows changed → ⊥

pub key-reply : (n : ℕ) (reply : QuantumReply) → Ends reply → key_reply reply ≡ as_row (first_reply n reply)
key-reply n (answers.Ended rows changed) ends = refl
key-reply n (answers.Redrive last cause rows changed) ends = absurd (ends last cause rows changed refl)
key-reply n (answers.Locked lock) ends = refl
key-reply n (answers.Failed key fault) ends = refl

pub key-changed : (n : ℕ) (block : Block SetWork) (granule : List ℕ) (plans : List Planned) (reply : QuantumReply) → Ends reply → key_by (granule_wanted block granule block.access) plans reply ≡ first_by n block granule plans reply
key-changed n block granule plans (answers.Ended rows changed) ends = refl
key-changed n block granule plans (answers.Redrive last cause rows changed) ends = absurd (ends last cause rows changed refl)
key-changed n block granule plans (answers.Locked lock) ends = refl
key-changed n block granule plans (answers.Failed key fault) ends = refl

-- what changes fits
pub first-fits : (q : Parts) (n : ℕ) (block : Block SetWork) (granule : List ℕ) (plans : List Planned) (reply : QuantumReply) → length plans ≤ 1000 → IsWork q.table block.work → IsFitting q (first_by n block granule plans reply)
first-fits q n block granule plans (answers.Ended rows changed) few work = record { few = few; opened = tt }
first-fits q n block granule plans (answers.Redrive last cause rows changed) few work = record { few = few; opened = work }
first-fits q n block granule plans (answers.Locked lock) few work = record { few = omega arith; opened = tt }
first-fits q n block granule plans (answers.Failed key fault) few work = record { few = omega arith; opened = tt }

pub next-fits : (q : Parts) (n : ℕ) (plans : List Planned) (reply : QuantumReply) → length plans ≤ 1000 → IsFitting q (next_by n plans reply)
next-fits q n plans (answers.Ended rows changed) few = record { few = few; opened = tt }
next-fits q n plans (answers.Redrive last cause rows changed) few = record { few = few; opened = tt }
next-fits q n plans (answers.Locked lock) few = record { few = omega arith; opened = tt }
next-fits q n plans (answers.Failed key fault) few = record { few = omega arith; opened = tt }

-- a block at its beginning, in a partition with room for one more
abbrev pub first_block : TxnName → Access → SetWork → KeyRange → Block SetWork
first_block t access work range = record { holder = t; start = At range.low; high = range.high; access = access; work = work }

abbrev pub BlockIs : TxnName → Access → KeyRange → SetWork → Block SetWork → Type 0
BlockIs t access range work block = block ≡ record { holder = t; start = At range.low; high = range.high; access = access; work = work }

abbrev FirstTold : State → List ℕ → Judgement → Block SetWork → Type 0
FirstTold p granule j block = tells p block.holder j ≡ first_quantum (with_live p block.holder) block granule (against_granule (with_live p block.holder) block granule block.access)

few-blocks : (n : ℕ) → n < most_blocks → nat_le most_blocks n ≡ false
few-blocks n h = grind (arith, nat_tests)

pub begins-told : (p : State) (t : TxnName) (access : Access) (granule : List ℕ) (range : KeyRange) (work : SetWork) (block : Block SetWork) (j : Judgement) → BlockIs t access range work block → length p.blocks < most_blocks → FirstTold p granule j block
    → tells p t j ≡ begin_with p t access granule range (Some work)
begins-told p t access granule range work block j is few told =
    let begun : tells p t j ≡ begins p t access granule range work = subst (FirstTold p granule j) is told in
    begun ∙ sym (ap (λ b. cond b (refused p TooManySubsets) (begins p t access granule range work)) (few-blocks (length p.blocks) few))

-- the record of one key
abbrev pub as_row_of : Answered → Answered
as_row_of a = record a { reply = as_row a.reply }

pub key-told : (p : State) (t : TxnName) (access : Access) (key : List ℕ) (work : SetWork) (block : Block SetWork) (j : Judgement) → BlockIs t access (record { low = key; high = key }) work block
    → tells p block.holder j ≡ as_row_of (first_quantum (with_live p block.holder) block key (against_granule (with_live p block.holder) block key block.access))
    → tells p t j ≡ read_key p t access key true (Some work)
key-told p t access key work block j is told =
    subst (λ (b : Block SetWork). tells p b.holder j ≡ as_row_of (first_quantum (with_live p b.holder) b key (against_granule (with_live p b.holder) b key b.access))) is told

-- a lock on a granule
pub granule-told : (p : State) (t : TxnName) (prefix : List ℕ) (mode : Mode) (o : Option Lock) → nat_lt (key_width p.table) (length prefix) ≡ false → first_conflict p.locks t prefix mode ≡ o → lock_against (with_live p t) t prefix mode o ≡ lock_granule p t prefix mode
granule-told p t prefix mode o short e =
    let taken : lock_against (with_live p t) t prefix mode (first_conflict p.locks t prefix mode) ≡ lock_granule p t prefix mode = rw short refl in
    ap (lock_against (with_live p t) t prefix mode) (sym e) ∙ taken

-- a range that lies here
pub shaped-low : (a b c d : Bool) → a ≡ false → false ≡ (a && b && c && d)
shaped-low true b c d h = absurd (false≢true (sym h))
shaped-low false b c d h = refl

pub shaped-high : (a b c d : Bool) → a ≡ true → b ≡ false → false ≡ (a && b && c && d)
shaped-high true true c d h k = absurd (false≢true (sym k))
shaped-high true false c d h k = refl
shaped-high false b c d h k = absurd (false≢true h)

pub shaped-both : (a b c d : Bool) → a ≡ true → b ≡ true → (c && d) ≡ (a && b && c && d)
shaped-both true true c d h k = refl
shaped-both true false c d h k = absurd (false≢true k)
shaped-both false b c d h k = absurd (false≢true h)

-- an insert
pub insert-away : (p : State) (t : TxnName) (row : List Value) (key : List ℕ) → key ≡ key_of p.table row → is_key_here p key ≡ false → refused p BadShape ≡ insert_row p t (Some row)
insert-away p t row key same away =
    let there : is_key_here p (key_of p.table row) ≡ false = ap (is_key_here p) (sym same) ∙ away in
    sym (ap (λ b. cond b (insert_against (with_live p t) t (key_of p.table row) row (first_conflict p.locks t (key_of p.table row) X)) (refused p BadShape)) there)

pub insert-here : (p : State) (t : TxnName) (row : List Value) (key : List ℕ) (o : Option Lock) → key ≡ key_of p.table row → is_key_here p key ≡ true → first_conflict p.locks t key X ≡ o → insert_against (with_live p t) t key row o ≡ insert_row p t (Some row)
insert-here p t row key o same here found =
    let there : is_key_here p (key_of p.table row) ≡ true = ap (is_key_here p) (sym same) ∙ here in
    ap (insert_against (with_live p t) t key row) (sym found)
    ∙ ap (λ k. insert_against (with_live p t) t k row (first_conflict p.locks t k X)) same
    ∙ sym (ap (λ b. cond b (insert_against (with_live p t) t (key_of p.table row) row (first_conflict p.locks t (key_of p.table row) X)) (refused p BadShape)) there)

pub beside-some : (q : State) (t : TxnName) (key : List ℕ) (row : List Value) (o : Option (List Value)) → is_some o ≡ true → refused q (DuplicateKey key) ≡ insert_beside q t key row o
beside-some q t key row None h = absurd (false≢true h)
beside-some q t key row (Some standing) h = refl

pub beside-none : (q : State) (t : TxnName) (key : List ℕ) (row : List Value) (o : Option (List Value)) (f : Option Fault) → is_some o ≡ false → f ≡ first_failing q.table.checks row → insert_checked q t key row f ≡ insert_beside q t key row o
beside-none q t key row None f h e = ap (insert_checked q t key row) e
beside-none q t key row (Some standing) f h e = absurd (false≢true (sym h))

-- a key that doesn't suit
pub key-unsuited : (p : State) (t : TxnName) (access : Access) (key : List ℕ) (suits : Bool) (work : Option SetWork) → suits ≡ false → refused p BadShape ≡ read_key p t access key suits work
key-unsuited p t access key true work h = absurd (false≢true (sym h))
key-unsuited p t access key false None h = refl
key-unsuited p t access key false (Some work) h = refl

-- a subset that is found goes on at its key
pub goes-told : (p : State) (last : List ℕ) (b : Numbered SetWork) (o : Option (Numbered SetWork)) → o ≡ Some b → key_eq (kept_key b.block.start) last ≡ true
    → after_next p b (quantum p.limits p.table p.cells p.locks b.block) (quantum p.limits p.table p.cells p.locks b.block).reply ≡ goes_on p last o
goes-told p last b o found right =
    sym (ap (goes_on p last) found
    ∙ ap (λ v. cond v (after_next p b (quantum p.limits p.table p.cells p.locks b.block) (quantum p.limits p.table p.cells p.locks b.block).reply) (refused p (WrongKey (kept_key b.block.start)))) right)

pub key-bad : (p : State) (t : TxnName) (access : Access) (key : List ℕ) (suits : Bool) (work : Option SetWork) → suits ≡ true → work ≡ None → refused p BadCode ≡ read_key p t access key suits work
key-bad p t access key suits work h e = sym (ap (λ s. read_key p t access key s work) h ∙ ap (read_key p t access key true) e)

pub key-good : (p : State) (t : TxnName) (access : Access) (key : List ℕ) (suits : Bool) (w : Option SetWork) (work : SetWork) → suits ≡ true → w ≡ Some work → read_key p t access key true (Some work) ≡ read_key p t access key suits w
key-good p t access key suits w work h e = sym (ap (λ s. read_key p t access key s w) h ∙ ap (read_key p t access key true) e)

pub key-barred : (p : State) (block : Block SetWork) (key : List ℕ) (lock : Lock) → against_granule p block key block.access ≡ Some lock
    → by p block.holder (Locked lock) (Begins [] None None) ≡ as_row_of (first_quantum (with_live p block.holder) block key (against_granule (with_live p block.holder) block key block.access))
key-barred p block key lock bars = ap as_row_of (barred-told p block key lock bars)

pub key-walked : (p : State) (block : Block SetWork) (key : List ℕ) (walk : Walk) → AreCells p.cells → IsWalk p.limits p.table p.cells p.locks block walk → against_granule p block key block.access ≡ None → Ends walk.reply
    → by p block.holder (key_reply walk.reply) (key_change (granule_wanted block key block.access) walk) ≡ as_row_of (first_quantum (with_live p block.holder) block key (against_granule (with_live p block.holder) block key block.access))
key-walked p block key walk rise is free ends =
    let n = free_number p.blocks in
    ap (λ r. by p block.holder r (key_change (granule_wanted block key block.access) walk)) (key-reply n walk.reply ends)
    ∙ ap (by p block.holder (as_row (first_reply n walk.reply))) (key-changed n block key walk.plans walk.reply ends)
    ∙ ap as_row_of (walked-told p block key walk rise is free)

pub key-fits : (q : Parts) (lock : Option Lock) (plans : List Planned) (reply : QuantumReply) → length plans ≤ 1000 → IsFitting q (key_by lock plans reply)
key-fits q lock plans (answers.Ended rows changed) few = record { few = few; opened = tt }
key-fits q lock plans (answers.Redrive last cause rows changed) few = record { few = omega arith; opened = tt }
key-fits q lock plans (answers.Locked bar) few = record { few = omega arith; opened = tt }
key-fits q lock plans (answers.Failed key fault) few = record { few = omega arith; opened = tt }
