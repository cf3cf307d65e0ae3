-- A partition whose parts can be spelled stays so at each request.
use Rattle.std.proofs.Common.{◌≡◌, ◌-◌, ◌&&◌, ℕ, List, [], ◌∷◌, Bool, true, false, cond, map, max, filter, not, Option, Some, None, refl, ap, sym, ◌∙◌, subst, arith}
use Rattle.std.specs.Prelude.{◌==◌, filter_map, slice_set}
use Rattle.std.specs.List.{AllByRecursion}
use Rattle.std.proofs.lemmas.Bool.{and_parts, cond_both}
use Rattle.sql_base.specs.Locks.{granted, released, same_txn}
use Rattle.sql_base.specs.Scripts.{AreLimits, Lies}
use Rattle.sql_base.specs.Tables.{IsTable}
use Rattle.sql_base.specs.declared.key_ranges.Start.TheVariants.{After}
use Rattle.sql_base.specs.declared.lock_names.Access.{Access}
use Rattle.sql_base.specs.declared.lock_names.Access.TheVariants.{Browse, Stable, Repeatable}
use Rattle.sql_base.specs.declared.lock_names.Lock.{Lock}
use Rattle.sql_base.specs.declared.lock_names.TxnName.{TxnName}
use Rattle.sql_base.specs.declared.values.Value.{Value}
use Rattle.key_sequenced.specs.Cells.{ending, settled_cell}
use Rattle.key_sequenced.specs.declared.Cell.{Cell}
use Rattle.subset_blocks.specs.Blocks.{advanced, closed, find_block, free_number, gone_on, opened}
use Rattle.subset_blocks.specs.declared.Block.{Block}
use Rattle.subset_blocks.specs.declared.Numbered.{Numbered}
use Rattle.quantum_core.specs.Quantum.{is_change, locks_after, visits}
use Rattle.quantum_core.specs.Verdicts.{Judged, judged}
use Rattle.quantum_core.specs.declared.replies.QuantumReply.TheVariants as answers
use Rattle.quantum_core.specs.declared.works.SetWork.{SetWork}
use Rattle.dp_messages.specs.Spelling.{HasEight, HasFour, IsAsk, IsEnvelope, IsLock, IsReply, IsShort}
use Rattle.dp_messages.specs.declared.replies.Reply.{Reply}
use Rattle.dp_messages.specs.declared.replies.Reply.TheVariants as reply
use Rattle.dp_messages.specs.declared.requests.Ask.{Ask}
use Rattle.dp_messages.specs.declared.requests.Ask.TheVariants as ask
use Rattle.dp_messages.specs.declared.requests.Envelope.{Envelope}
use Rattle.partition_state.specs.State.{Opener, State, opener_of, with_live}
use Rattle.partition_state.specs.Step.{answered, kept_key, mode_of, noted, prepared, step, with_granule}
use Rattle.partition_state.specs.declared.lives.Live.{Live}
use Rattle.partition_laws.specs.Moves.{Move, Stays, Enters, Starts, Opens, Closes, Advances, Inserts, Locks, Prepares, Commits, Undoes, IsMoveOf, Moved, after, after_quantum, by, granule_of, handled_by, x_lock}
use Rattle.partition_laws.proofs.CellMoves.{all-inserted, cell_key, keys-after}
use Rattle.partition_laws.proofs.KeepingMoves.{handled_in}
use Rattle.sql_base.proofs.ListSearches.{all-filter_map, all-passing, find-some}
use Rattle.partition_laws.proofs.LiveMoves.{new_live, prepared-name}
use Rattle.partition_laws.proofs.Moving.{moved}
use Rattle.partition_laws.proofs.Names.{all-granted}
use Rattle.partition_laws.proofs.RowLaws.{fixed-step}
use Rattle.partition_laws.proofs.Singles.{read_key-ends}
use Rattle.partition_laws.proofs.Stepped.{replied-new, stepped}
use Rattle.partition_laws.proofs.Steps.{Keeps-step}
use Rattle.plans_laws.specs.Spelled.{PartsSpelled, RepliesSpelled, Spelled, StepsSpelled}
use Rattle.plans_laws.proofs.Quanta.{IsJudged, IsQuantumReply, judged-spelled, quantum-spelled}
use Rattle.plans_laws.proofs.Replying.{IsOnce, answer-spelled, key-short, opener-spelled}
use Rattle.sql_base.proofs.ListFacts.{all-map, all-push, all-take, all-weaker, all-set}
use Rattle.sql_base.proofs.Truths.{some-same}
use Rattle.sql_base.proofs.RowFacts.{same_txn-is}

-- keys of cells
abbrev ShortKey : Cell → Type 0
ShortKey cell = IsShort cell.key

keys-all : (P : List ℕ → Type 0) (cells : List Cell) → AllByRecursion (λ (cell : Cell). P cell.key) cells → AllByRecursion P (map cell_key cells)
keys-all P [] h = tt
keys-all P (cell ∷ cells) h = (h.0, keys-all P cells h.1)

all-keys : (P : List ℕ → Type 0) (cells : List Cell) → AllByRecursion P (map cell_key cells) → AllByRecursion (λ (cell : Cell). P cell.key) cells
all-keys P [] h = tt
all-keys P (cell ∷ cells) h = (h.0, all-keys P cells h.1)

-- the X locks of a quantum
locks-spelled : (t : TxnName) (js : List Judged) (locks : List Lock) → HasFour t.session → HasFour t.ordinal → AllByRecursion IsJudged js → AllByRecursion IsLock locks → AllByRecursion IsLock (locks_after t js locks)
locks-spelled t [] locks session ordinal all h = h
locks-spelled t (j ∷ js) locks session ordinal all h =
    locks-spelled t js (cond (is_change j.verdict) (granted (x_lock t j.key) locks) locks) session ordinal all.1
    (cond_both (is_change j.verdict) (granted (x_lock t j.key) locks) locks (AllByRecursion IsLock) (λ _. all-granted IsLock (x_lock t j.key) locks (session, ordinal, all.0.0) h) (λ _. h))

-- an end leaves cells with keys that they had
end-key : (t : TxnName) (kept : Cell → Option (List Value)) (cell cell' : Cell) (o : Option TxnName) → ShortKey cell → ending t kept cell o ≡ Some cell' → ShortKey cell'
end-key t kept cell cell' None h e = subst ShortKey (some-same cell cell' e) h
end-key t kept cell cell' (Some u) h e = at (same_txn u t) (kept cell) e
  where
    at : (b : Bool) (row : Option (List Value)) → cond b (settled_cell cell.key row) (Some cell) ≡ Some cell' → ShortKey cell'
    at true None e = absurd (cc)
    at true (Some row) e = subst ShortKey (some-same (record { key = cell.key; now = Some row; was = None; writer = None }) cell' e) h
    at false row e = subst ShortKey (some-same cell cell' e) h

keys-ended : (t : TxnName) (kept : Cell → Option (List Value)) (cells : List Cell) → AllByRecursion ShortKey cells → AllByRecursion ShortKey (filter_map (λ cell. ending t kept cell cell.writer) cells)
keys-ended t kept cells h = all-filter_map ShortKey ShortKey (λ cell. ending t kept cell cell.writer) cells (λ cell cell' short e. end-key t kept cell cell' cell.writer short e) h

granule-short : (a : Ask) → IsAsk a → IsShort (granule_of a)
granule-short (ask.BeginRead access granule range filter columns) is = is.0
granule-short (ask.BeginUpdate access granule range filter sets) is = is.0
granule-short (ask.BeginDelete access granule range filter) is = is.0
granule-short (ask.ReadKey access key filter columns) is = is.0
granule-short (ask.Continue subset last) is = omega arith
granule-short (ask.Insert row) is = omega arith
granule-short (ask.LockGranule prefix mode) is = omega arith
granule-short ask.Prepare is = omega arith
granule-short (ask.EndCommit stamp) is = omega arith
granule-short ask.EndUndo is = omega arith

-- a transaction that can be spelled
record IsNamed (t : TxnName) : Type 0 where
  lies : Lies 1 8 t.session
  ordinal : HasFour t.ordinal

four-session : (t : TxnName) → IsNamed t → HasFour t.session
four-session t n = let high = n.lies.1 in omega (arith, high)

module _ (p : State) (h : Spelled p) (t : TxnName) (named : IsNamed t) where
  abbrev Block' : Type 0
  Block' = Numbered SetWork

  abbrev ShortStart : Block' → Type 0
  ShortStart b = IsShort (kept_key b.block.start)

  abbrev FourLive : Live → Type 0
  FourLive l = HasFour l.name.ordinal

  live-spelled : PartsSpelled (with_live p t)
  live-spelled = record {
    keys = h.parts.keys;
    locks = h.parts.locks;
    starts = h.parts.starts;
    lives = cond_both _ p.lives _ (AllByRecursion FourLive) (λ _. h.parts.lives) (λ _. all-push FourLive p.lives (new_live t) h.parts.lives named.ordinal);
    ended = h.parts.ended;
    high = h.parts.high;
  }

  -- one quantum of a block
  handled-judged : (block : Block SetWork) → AllByRecursion IsJudged (handled_in p block)
  handled-judged block =
      let js = judged p.table p.locks block p.cells in
      all-take IsJudged (visits p.limits js) js (judged-spelled p.table h.table p.locks h.parts.locks block p.cells h.parts.keys)

  quantum-parts : (q : State) (block : Block SetWork) → PartsSpelled q → q.cells ≡ p.cells → q.locks ≡ p.locks → block.holder ≡ t → PartsSpelled (record q { cells = (handled_by p block).cells; locks = (handled_by p block).locks })
  quantum-parts q block parts cells locks own = record {
    keys = all-keys IsShort (handled_by p block).cells (subst (AllByRecursion IsShort) (sym (keys-after block.holder (handled_in p block) p.cells)) (keys-all IsShort p.cells h.parts.keys));
    locks = locks-spelled block.holder (handled_in p block) p.locks (subst (λ (u : TxnName). HasFour u.session) (sym own) (four-session t named)) (subst (λ (u : TxnName). HasFour u.ordinal) (sym own) named.ordinal) (handled-judged block) h.parts.locks;
    starts = parts.starts;
    lives = parts.lives;
    ended = parts.ended;
    high = parts.high;
  }

  granule-parts : (q : State) (block : Block SetWork) (granule : List ℕ) (access : Access) → block.holder ≡ t → IsShort granule → PartsSpelled q → PartsSpelled (with_granule q block granule access)
  granule-parts q block granule Browse own short parts = parts
  granule-parts q block granule Stable own short parts = parts
  granule-parts q block granule Repeatable own short parts = record {
    keys = parts.keys;
    locks = all-granted IsLock (record { holder = block.holder; prefix = granule; mode = mode_of block.work.doing }) q.locks
        (subst (λ (u : TxnName). HasFour u.session) (sym own) (four-session t named), subst (λ (u : TxnName). HasFour u.ordinal) (sym own) named.ordinal, short) parts.locks;
    starts = parts.starts;
    lives = parts.lives;
    ended = parts.ended;
    high = parts.high;
  }

  with_blocks : (q : State) (blocks : List Block') → AllByRecursion ShortStart blocks → PartsSpelled q → PartsSpelled (record q { blocks = blocks })
  with_blocks q blocks starts parts = record { keys = parts.keys; locks = parts.locks; starts = starts; lives = parts.lives; ended = parts.ended; high = parts.high }

  begun-parts : (block : Block SetWork) (granule : List ℕ) (a : Ask) → IsAsk a → block.holder ≡ t → granule ≡ granule_of a → PartsSpelled (with_granule (after_quantum (with_live p t) block) block granule block.access)
  begun-parts block granule a is own same =
      granule-parts (after_quantum (with_live p t) block) block granule block.access own (subst IsShort (sym same) (granule-short a is)) (quantum-parts (with_live p t) block live-spelled refl refl own)

  -- the last key of a redrive
  last-short : (block : Block SetWork) (last : List ℕ) (cause : _) (rows : List (List ℕ)) (changed : ℕ) → (handled_by p block).reply ≡ answers.Redrive last cause rows changed → IsShort last
  last-short block last cause rows changed e =
      let spelled : IsQuantumReply (answers.Redrive last cause rows changed) = subst IsQuantumReply e (quantum-spelled p.limits p.table p.cells p.locks block h.limits h.table h.parts.keys h.parts.locks) in
      spelled.0

  holder-of : (subset : ℕ) (b : Block') → find_block subset t p.blocks ≡ Some b → b.block.holder ≡ t
  holder-of subset b e =
      let found = (find-some ShortStart (λ (b : Block'). (b.number == subset) && same_txn b.block.holder t) p.blocks b e h.parts.starts).0 in
      same_txn-is b.block.holder t (and_parts (b.number == subset) (same_txn b.block.holder t) found).1

  advanced-starts : (n : ℕ) (last : List ℕ) (blocks : List Block') → IsShort last → AllByRecursion ShortStart blocks → AllByRecursion ShortStart (advanced n last blocks)
  advanced-starts n last blocks short starts =
      all-map ShortStart (gone_on n last) blocks
      (all-weaker ShortStart (λ (b : Block'). ShortStart (gone_on n last b)) (λ b s. cond_both (b.number == n) (record b { block = record b.block { start = After last } }) b ShortStart (λ _. short) (λ _. s)) blocks starts)

  ended-parts : (kept : Cell → Option (List Value)) (high : ℕ) → HasEight high
      → PartsSpelled (record p {
        cells = filter_map (λ cell. ending t kept cell cell.writer) p.cells;
        locks = released t p.locks;
        blocks = filter (λ (b : Block'). not (same_txn b.block.holder t)) p.blocks;
        lives = filter (λ (l : Live). not (same_txn l.name t)) p.lives;
        openers = slice_set p.openers (t.session - 1) (record (opener_of p t.session) { ended = t.ordinal });
        high = high;
      })
  ended-parts kept high eight = record {
    keys = keys-ended t kept p.cells h.parts.keys;
    locks = all-passing IsLock IsLock (λ lock. not (same_txn lock.holder t)) p.locks (λ lock _ l. l) h.parts.locks;
    starts = all-passing ShortStart ShortStart (λ (b : Block'). not (same_txn b.block.holder t)) p.blocks (λ b _ s. s) h.parts.starts;
    lives = all-passing FourLive FourLive (λ (l : Live). not (same_txn l.name t)) p.lives (λ l _ f. f) h.parts.lives;
    ended = all-set (λ (o : Opener). HasFour o.ended) p.openers (t.session - 1) (record (opener_of p t.session) { ended = t.ordinal }) named.ordinal h.parts.ended;
    high = eight;
  }

  parts-after : (a : Ask) (reply : Reply) (move : Move) → IsAsk a → IsMoveOf p t a reply move → PartsSpelled (after p t move)
  parts-after a reply Stays is f = h.parts
  parts-after a reply Enters is f = live-spelled
  parts-after a reply (Starts block granule) is f = begun-parts block granule a is f.2.1 f.2.2
  parts-after a reply (Opens block granule last) is f =
      with_blocks (with_granule (after_quantum (with_live p t) block) block granule block.access) (opened (record block { start = After last }) p.blocks)
      (all-push ShortStart p.blocks (record { number = free_number p.blocks; block = record block { start = After last } }) h.parts.starts (last-short block last f.0 f.1 f.2 f.4))
      (begun-parts block granule a is f.3.1 f.3.2)
  parts-after a reply (Closes b) is f =
      with_blocks (after_quantum p b.block) (closed b.number p.blocks) (all-passing ShortStart ShortStart (λ (c : Block'). not (c.number == b.number)) p.blocks (λ c _ s. s) h.parts.starts)
      (quantum-parts p b.block h.parts refl refl (holder-of f.2.0 b f.2.3))
  parts-after a reply (Advances b last) is f =
      with_blocks (after_quantum p b.block) (advanced b.number last p.blocks) (advanced-starts b.number last p.blocks (last-short b.block last f.0 f.1 f.2 f.4) h.parts.starts)
      (quantum-parts p b.block h.parts refl refl (holder-of f.3.0 b f.3.3))
  parts-after a reply (Inserts key row) is f =
      let short = key-short p key h f.0.4 in
      let live = live-spelled in
      record {
        keys = all-inserted ShortKey t key row p.cells short (λ cell same s. s) h.parts.keys;
        locks = all-granted IsLock (x_lock t key) p.locks (four-session t named, named.ordinal, short) h.parts.locks;
        starts = live.starts;
        lives = live.lives;
        ended = live.ended;
        high = live.high;
      }
  parts-after a reply (Locks lock) is f =
      let live = live-spelled in
      let short : IsShort lock.prefix = subst IsAsk f.0 is in
      record {
        keys = live.keys;
        locks = all-granted IsLock lock p.locks (subst (λ (u : TxnName). HasFour u.session) (sym f.1) (four-session t named), subst (λ (u : TxnName). HasFour u.ordinal) (sym f.1) named.ordinal, short) h.parts.locks;
        starts = live.starts;
        lives = live.lives;
        ended = live.ended;
        high = live.high;
      }
  parts-after a reply Prepares is f = record {
    keys = h.parts.keys;
    locks = h.parts.locks;
    starts = h.parts.starts;
    lives = all-map FourLive (prepared t p.high) p.lives (all-weaker FourLive (λ (l : Live). FourLive (prepared t p.high l)) (λ l four. subst (λ (u : TxnName). HasFour u.ordinal) (sym (prepared-name t p.high l)) four) p.lives h.parts.lives);
    ended = h.parts.ended;
    high = h.parts.high;
  }
  parts-after a reply (Commits stamp) is f =
      let eight : HasEight stamp = subst IsAsk f.1 is in
      let high = h.parts.high in
      ended-parts (λ c. c.now) (max p.high stamp) (omega (arith, eight, high))
  parts-after a reply Undoes is f = ended-parts (λ c. c.was) p.high h.parts.high

  parts-answered : (a : Ask) → IsAsk a → PartsSpelled (answered p t a).state
  parts-answered a is = let m : Moved p t a (answered p t a) = moved p t a in subst PartsSpelled (sym m.state) (parts-after a (answered p t a).reply m.move is m.fits)

noted-parts : (q : State) (opener sync : ℕ) (reply : Reply) → PartsSpelled q → HasFour (opener_of q opener).ended → PartsSpelled (noted q opener sync reply)
noted-parts q opener sync reply parts four = record {
  keys = parts.keys;
  locks = parts.locks;
  starts = parts.starts;
  lives = parts.lives;
  ended = all-set (λ (o : Opener). HasFour o.ended) q.openers (opener - 1) (record (opener_of q opener) { last = sync; starved = false; kept = Some reply }) four parts.ended;
  high = parts.high;
}

envelope-named : (e : Envelope) → IsEnvelope e → IsNamed (by e.opener e.request)
envelope-named e is = record { lies = is.opener; ordinal = is.ordinal.1 }

pub steps_spelled : StepsSpelled
steps_spelled p e h is =
    let fixed = fixed-step p e.opener e.sync e.request in
    record {
      table = subst IsTable (sym fixed.table) h.table;
      limits = subst AreLimits (sym fixed.limits) h.limits;
      keeps = Keeps-step p e.opener e.sync e.request is.opener h.keeps;
      parts = stepped PartsSpelled p e.opener e.sync e.request h.parts
          (λ reply. let parts = parts-answered p h (by e.opener e.request) (envelope-named e is) e.request.ask is.ask in
          noted-parts (answered p (by e.opener e.request) e.request.ask).state e.opener e.sync reply parts (opener-spelled (answered p (by e.opener e.request) e.request.ask).state e.opener parts));
    }

-- a request for one key isn't redriven
once-asked : (p : State) (e : Envelope) (r : Reply) → Spelled p → (step p e.opener e.sync e.request).reply ≡ Some r → (a : Ask) → e.request.ask ≡ a → IsOnce a r
once-asked p e r h told (ask.ReadKey access key filter columns) asks = λ n last cause rows changed is.
    let request : e.request ≡ record { ordinal = e.request.ordinal; ask = ask.ReadKey access key filter columns } = ap (λ (a : Ask). record { ordinal = e.request.ordinal; ask = a }) asks in
    let redriven : (step p e.opener e.sync (record { ordinal = e.request.ordinal; ask = ask.ReadKey access key filter columns })).reply ≡ Some (reply.Redrive n last cause rows changed) =
    ap (λ q. (step p e.opener e.sync q).reply) (sym request) ∙ told ∙ ap Some is in
    read_key-ends p e.opener e.sync e.request.ordinal access key filter columns n last cause rows changed h.keeps redriven
once-asked p e r h told other asks = tt

pub replies_spelled : RepliesSpelled
replies_spelled p e r h is told =
    let new = replied-new p e.opener e.sync e.request r told in
    subst IsReply new.replied (answer-spelled p h (by e.opener e.request) e.request.ask is.ask (subst (IsOnce e.request.ask) (sym new.replied) (once-asked p e r h told e.request.ask refl)))
