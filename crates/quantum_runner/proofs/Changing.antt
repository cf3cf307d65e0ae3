-- The changes made one after the other leave what the quantum leaves.
use Rattle.std.proofs.Common.{◌≡◌, ℕ, zero, suc, List, [], ◌∷◌, Bool, true, false, cond, Option, Some, None, map, take, filter, refl, ap, sym, ◌∙◌}
use Rattle.std.specs.Option.{option_map}
use Rattle.std.specs.List.{AllByRecursion, cons_option}
use Rattle.std.specs.Cmp.Lexicographic.{slice_cmp}
use Rattle.std.specs.Ordering.{is_eq, nat_cmp, ordering_reverse}
use Rattle.std.proofs.lemmas.Cmp.{nat_list_cmp_total}
use Rattle.sql_base.specs.Keys.{key_eq, key_lt}
use Rattle.sql_base.specs.Locks.{granted}
use Rattle.sql_base.specs.declared.lock_names.Lock.{Lock}
use Rattle.sql_base.specs.declared.lock_names.TxnName.{TxnName}
use Rattle.sql_base.specs.declared.tables.TableDef.{TableDef}
use Rattle.sql_base.specs.declared.values.Value.{Value}
use Rattle.key_sequenced.specs.Cells.{AreCells, rewritten}
use Rattle.key_sequenced.specs.Files.{rewritten_at}
use Rattle.key_sequenced.specs.declared.Cell.{Cell}
use Rattle.key_sequenced.proofs.Laying.{rewritten-by_key}
use Rattle.key_sequenced.proofs.Rising.{rise-rewritten}
use Rattle.subset_blocks.specs.declared.Block.{Block}
use Rattle.quantum_core.specs.Quantum.{cell_after, cells_after, change_at, change_of, is_change, locks_after, quantum, visits}
use Rattle.quantum_core.specs.Verdicts.{Judged, is_candidate, judged}
use Rattle.quantum_core.specs.declared.verdicts.Effect.TheVariants.{Gives, Becomes, Goes}
use Rattle.quantum_core.specs.declared.verdicts.Verdict.{Verdict}
use Rattle.quantum_core.specs.declared.verdicts.Verdict.TheVariants.{Blocked, Faulty, PassedOver, Selected}
use Rattle.quantum_core.specs.declared.works.SetWork.{SetWork}
use Rattle.quantum_core.proofs.Walking.{as_judged}
use Rattle.quantum_core.proofs.Windows.{Ascends, Ascends-filter, Ascends-from_rise}
use Rattle.quantum_runner.specs.Scaffold.Plans.{IsWalk, granted_by, handled_by, left_with, plan_of, plans_of, rewritten_by, x_on}
use Rattle.quantum_runner.specs.declared.planned.Walk.{Walk}
use Rattle.quantum_core.specs.declared.replies.QuantumReply.{QuantumReply}
use Rattle.sql_base.specs.declared.scripts.Limits.{Limits}
use Rattle.sql_base.proofs.Orderings.{equal-is, key_eq-swapped, key_gt-differs}
use Rattle.sql_base.proofs.ListFacts.{all-take}

-- each key is below those behind it
abbrev pub KeysClimb : List Judged → Type 0
KeysClimb [] = Unit {0}
KeysClimb (j ∷ js) = AllByRecursion (λ k. key_lt j.key k.key ≡ true) js × KeysClimb js

all-judged : (table : TableDef) (locks : List Lock) (block : Block SetWork) (key : List ℕ) (cells : List Cell) → AllByRecursion (λ cell. key_lt key cell.key ≡ true) cells → AllByRecursion (λ k. key_lt key k.key ≡ true) (map (as_judged table locks block) cells)
all-judged table locks block key [] h = tt
all-judged table locks block key (cell ∷ cells) h = (h.0, all-judged table locks block key cells h.1)

climb-judged : (table : TableDef) (locks : List Lock) (block : Block SetWork) (cells : List Cell) → Ascends cells → KeysClimb (map (as_judged table locks block) cells)
climb-judged table locks block [] h = tt
climb-judged table locks block (cell ∷ cells) h = (all-judged table locks block cell.key cells h.0, climb-judged table locks block cells h.1)

climb-take : (n : ℕ) (js : List Judged) → KeysClimb js → KeysClimb (take n js)
climb-take zero js h = tt
climb-take (suc n) [] h = tt
climb-take (suc n) (j ∷ js) h = (all-take (λ k. key_lt j.key k.key ≡ true) n js h.0, climb-take n js h.1)

climb-handled : (table : TableDef) (locks : List Lock) (block : Block SetWork) (cells : List Cell) (n : ℕ) → AreCells cells → KeysClimb (take n (judged table locks block cells))
climb-handled table locks block cells n h =
    climb-take n (judged table locks block cells) (climb-judged table locks block (filter (is_candidate block) cells) (Ascends-filter (is_candidate block) cells (Ascends-from_rise cells h)))

-- keys that compare as equal compare alike with others
eq-alike : (a b c : List ℕ) → key_eq a b ≡ true → key_eq c a ≡ key_eq c b
eq-alike a b c h =
    let same = equal-is (slice_cmp nat_cmp a b) h in
    ap is_eq (nat_list_cmp_total.antisymm c a) ∙ ap (λ o. is_eq (ordering_reverse o)) (nat_list_cmp_total.congr a b c same) ∙ sym (ap is_eq (nat_list_cmp_total.antisymm c b))

-- nothing behind a candidate changes its record
no-change : (key : List ℕ) (j : Judged) (js : List Judged) → key_eq j.key key ≡ true → AllByRecursion (λ k. key_lt j.key k.key ≡ true) js → change_at key js ≡ None
no-change key j [] e h = refl
no-change key j (k ∷ js) e h =
    let differs : key_eq k.key key ≡ false = sym (eq-alike j.key key k.key e) ∙ key_gt-differs k.key j.key h.0 in
    rw differs (no-change key j js e h.1)

map-same : (f g : Cell → Cell) (cells : List Cell) → ((c : Cell) → f c ≡ g c) → map f cells ≡ map g cells
map-same f g [] h = refl
map-same f g (c ∷ cells) h = ap (λ x. x ∷ map f cells) (h c) ∙ ap (λ cs. g c ∷ cs) (map-same f g cells h)

map-twice : (f g : Cell → Cell) (cells : List Cell) → map f (map g cells) ≡ map (λ c. f (g c)) cells
map-twice f g [] = refl
map-twice f g (c ∷ cells) = ap (λ cs. f (g c) ∷ cs) (map-twice f g cells)

map-none : (cells : List Cell) → cells ≡ map (λ c. c) cells
map-none [] = refl
map-none (c ∷ cells) = ap (λ cs. c ∷ cs) (map-none cells)

abbrev after : TxnName → List Judged → Cell → Cell
after t js c = cell_after t (change_at c.key js) c

abbrev changed_at : TxnName → List ℕ → Option (List Value) → Cell → Cell
changed_at t key now c = cond (key_eq c.key key) (rewritten t now c) c

-- the first is passed over
passed-over : (t : TxnName) (j : Judged) (js : List Judged) (c : Cell) → change_of j.verdict ≡ None → AllByRecursion (λ k. key_lt j.key k.key ≡ true) js → after t js c ≡ after t (j ∷ js) c
passed-over t j js c none h = at (key_eq j.key c.key) refl
  where
    at : (b : Bool) → key_eq j.key c.key ≡ b → cell_after t (change_at c.key js) c ≡ cell_after t (cond b (change_of j.verdict) (change_at c.key js)) c
    at true e = ap (λ o. cell_after t o c) (no-change c.key j js e h ∙ sym none)
    at false e = refl

-- the first is changed
first-changed : (t : TxnName) (j : Judged) (js : List Judged) (now : Option (List Value)) (c : Cell) → change_of j.verdict ≡ Some now → AllByRecursion (λ k. key_lt j.key k.key ≡ true) js → after t js (changed_at t j.key now c) ≡ after t (j ∷ js) c
first-changed t j js now c some h = at (key_eq j.key c.key) refl
  where
    at : (b : Bool) → key_eq j.key c.key ≡ b → after t js (changed_at t j.key now c) ≡ cell_after t (cond b (change_of j.verdict) (change_at c.key js)) c
    at true e =
        let same : key_eq c.key j.key ≡ true = key_eq-swapped c.key j.key ∙ e in
        ap (λ b. after t js (cond b (rewritten t now c) c)) same ∙ ap (λ o. cell_after t o (rewritten t now c)) (no-change c.key j js e h) ∙ ap (λ o. cell_after t o c) (sym some)
    at false e =
        let other : key_eq c.key j.key ≡ false = key_eq-swapped c.key j.key ∙ e in
        ap (λ b. after t js (cond b (rewritten t now c) c)) other

pub rewritten-handled : (t : TxnName) (js : List Judged) (cells : List Cell) → KeysClimb js → AreCells cells → rewritten_by (plans_of t js) cells ≡ cells_after t js cells
rewritten-handled t [] cells climb rise = map-none cells
rewritten-handled t (j ∷ js) cells climb rise = at (change_of j.verdict) refl (rewritten-handled t js) climb
  where
    at : (o : Option (Option (List Value))) → change_of j.verdict ≡ o → ((cells : List Cell) → KeysClimb js → AreCells cells → rewritten_by (plans_of t js) cells ≡ cells_after t js cells) → KeysClimb (j ∷ js)
        → rewritten_by (cons_option (option_map (λ now. record { lock = x_on t j.key; now = now }) o) (plans_of t js)) cells ≡ cells_after t (j ∷ js) cells
    at None e rest climb = rest cells climb.1 rise ∙ map-same (after t js) (after t (j ∷ js)) cells (λ c. passed-over t j js c e climb.0)
    at (Some now) e rest climb =
        rest (rewritten_at t j.key now cells) climb.1 (rise-rewritten t j.key now cells rise) ∙ ap (map (after t js)) (rewritten-by_key t j.key now cells rise)
        ∙ map-twice (after t js) (changed_at t j.key now) cells ∙ map-same (λ c. after t js (changed_at t j.key now c)) (after t (j ∷ js)) cells (λ c. first-changed t j js now c e climb.0)

pub granted-handled : (t : TxnName) (js : List Judged) (locks : List Lock) → granted_by (plans_of t js) locks ≡ locks_after t js locks
granted-handled t [] locks = refl
granted-handled t (j ∷ js) locks = at j.verdict (granted-handled t js)
  where
    at : (v : Verdict) → ((locks : List Lock) → granted_by (plans_of t js) locks ≡ locks_after t js locks) → granted_by (cons_option (plan_of t j.key v) (plans_of t js)) locks ≡ locks_after t js (cond (is_change v) (granted (x_on t j.key) locks) locks)
    at (Blocked lock) rest = rest locks
    at (Faulty fault) rest = rest locks
    at PassedOver rest = rest locks
    at (Selected (Gives row)) rest = rest locks
    at (Selected (Becomes row)) rest = rest (granted (x_on t j.key) locks)
    at (Selected Goes) rest = rest (granted (x_on t j.key) locks)

-- the changes of a quantum, in its store
pub cells-handled : (table : TableDef) (locks : List Lock) (block : Block SetWork) (cells : List Cell) (n : ℕ) → AreCells cells
    → let js = take n (judged table locks block cells) in rewritten_by (plans_of block.holder js) cells ≡ cells_after block.holder js cells
cells-handled table locks block cells n h =
    rewritten-handled block.holder (take n (judged table locks block cells)) cells (climb-handled table locks block cells n h) h

-- the changes of a walk leave what the quantum leaves
pub quantum-left : (limits : Limits) (table : TableDef) (cells : List Cell) (locks : List Lock) (block : Block SetWork) (walk : Walk) → AreCells cells → IsWalk limits table cells locks block walk
    → left_with walk.reply (rewritten_by walk.plans cells) (granted_by walk.plans locks) ≡ quantum limits table cells locks block
quantum-left limits table cells locks block walk rise w =
    let handled = handled_by limits table cells locks block in
    let n = visits limits (judged table locks block cells) in
    ap (λ (reply : QuantumReply). left_with reply (rewritten_by walk.plans cells) (granted_by walk.plans locks)) w.reply
    ∙ ap (λ cs. left_with (quantum limits table cells locks block).reply cs (granted_by walk.plans locks)) (ap (λ plans. rewritten_by plans cells) w.plans ∙ cells-handled table locks block cells n rise)
    ∙ ap (λ ls. left_with (quantum limits table cells locks block).reply (cells_after block.holder handled cells) ls) (ap (λ plans. granted_by plans locks) w.plans ∙ granted-handled block.holder handled locks)
