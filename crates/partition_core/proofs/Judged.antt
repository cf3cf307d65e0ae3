-- The checks before the kinds.
use Rattle.std.proofs.Common.{◌≡◌, ◌<◌, ◌≤◌, ◌-◌, ℕ, zero, suc, List, [], ◌∷◌, length, get_or, Option, None, Result, Ok, Err, true, false, refl, ap, sym, ◌∙◌, arith}
use Rattle.std.specs.Prelude.{nat_le, IfOk, slice_get, unwrap_or}
use Rattle.sql_base.specs.declared.lock_names.TxnName.{TxnName}
use Rattle.sql_base.specs.declared.faults.NoMemory.{NoMemory}
use Rattle.dp_messages.specs.declared.requests.Ask.{Ask}
use Rattle.dp_messages.specs.declared.replies.Reply.TheVariants.{AfterEnd}
use Rattle.partition_state.specs.State.{State, opener_of, floor_of}
use Rattle.partition_state.specs.Step.{answered, refused, unless_other, unless_prepared, other_live}
use Rattle.partition_state.specs.declared.lives.Live.{Live}
use Rattle.partition_core.specs.Scaffold.Contents.{Parts, state_of}
use Rattle.partition_core.specs.Scaffold.Changes.{tells}
use Rattle.partition_core.specs.declared.changes.Judgement.{Judgement}
use Rattle.partition_core.proofs.Seats.{ended-seen}
use Rattle.sql_base.proofs.Truths.{lt-not_le, le-is_true}

read-or : (xs : List ℕ) (i d : ℕ) → i < length xs → unwrap_or (slice_get xs i) 0 ≡ get_or xs i d
read-or [] i d lt = absurd (omega arith)
read-or (x ∷ xs) zero d lt = refl
read-or (x ∷ xs) (suc i) d lt = read-or xs i d (omega arith)

-- the last ended ordinal of an opener
pub ended-kept : (q : Parts) (t : TxnName) (d : ℕ) → length q.seats ≡ length q.ended → t.session - 1 < length q.ended → (opener_of (state_of q) t.session).ended ≡ get_or q.ended (t.session - 1) d
ended-kept q t d same within = ended-seen q.history q.seats q.ended (t.session - 1) same ∙ read-or q.ended (t.session - 1) d within

-- the attempt is lt-not_le the last that ended
pub not_ended : (q : Parts) (t : TxnName) (d : ℕ) → length q.seats ≡ length q.ended → t.session - 1 < length q.ended → get_or q.ended (t.session - 1) d < t.ordinal → nat_le t.ordinal (opener_of (state_of q) t.session).ended ≡ false
not_ended q t d same within h = ap (nat_le t.ordinal) (ended-kept q t d same within) ∙ lt-not_le t.ordinal (get_or q.ended (t.session - 1) d) h

-- or it isn't
pub judged-ended : (q : Parts) (t : TxnName) (ask : Ask) (d : ℕ) → length q.seats ≡ length q.ended → t.session - 1 < length q.ended → t.ordinal ≤ get_or q.ended (t.session - 1) d → refused (state_of q) (AfterEnd (get_or q.ended (t.session - 1) d)) ≡ answered (state_of q) t ask
judged-ended q t ask d same within h =
    let ended = ended-kept q t d same within in
    let old : nat_le t.ordinal (opener_of (state_of q) t.session).ended ≡ true = ap (nat_le t.ordinal) ended ∙ le-is_true t.ordinal (get_or q.ended (t.session - 1) d) h in
    let told : refused (state_of q) (AfterEnd (opener_of (state_of q) t.session).ended) ≡ answered (state_of q) t ask = rw old refl in
    ap (λ n. refused (state_of q) (AfterEnd n)) (sym ended) ∙ told

pub judged-other : (p : State) (t : TxnName) (ask : Ask) (o : Option Live) → nat_le t.ordinal (opener_of p t.session).ended ≡ false → o ≡ other_live p t → unless_other p t ask o ≡ answered p t ask
judged-other p t ask o new e =
    let taken : unless_other p t ask (other_live p t) ≡ answered p t ask = rw new refl in
    ap (unless_other p t ask) e ∙ taken

pub judged-floor : (p : State) (t : TxnName) (ask : Ask) (floor : Option ℕ) → nat_le t.ordinal (opener_of p t.session).ended ≡ false → None ≡ other_live p t → floor ≡ floor_of p t → unless_prepared p t ask floor ≡ answered p t ask
judged-floor p t ask floor new alone e = ap (unless_prepared p t ask) e ∙ judged-other p t ask None new alone

-- what a call judged is the answer
pub answered-if : (p : State) (t : TxnName) (ask : Ask) (floor : Option ℕ) (r : Result Judgement NoMemory) → nat_le t.ordinal (opener_of p t.session).ended ≡ false → None ≡ other_live p t → floor ≡ floor_of p t → IfOk r (λ j. tells p t j ≡ unless_prepared p t ask floor) → IfOk r (λ j. tells p t j ≡ answered p t ask)
answered-if p t ask floor (Ok j) new alone e told = told ∙ judged-floor p t ask floor new alone e
answered-if p t ask floor (Err want) new alone e told = told
