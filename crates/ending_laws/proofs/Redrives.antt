-- A redrive comes with a key of the partition, behind that of its Continue.
use Rattle.std.proofs.Common.{◌≡◌, ◌&&◌, ℕ, List, [], ◌∷◌, take, drop, true, not, Option, Some, None, refl, sym, subst}
use Rattle.std.specs.List.{AllByRecursion}
use Rattle.std.proofs.lemmas.Bool.{and_parts}
use Rattle.sql_base.specs.Keys.{is_from, key_le, key_lt}
use Rattle.sql_base.specs.declared.faults.Cause.{Cause}
use Rattle.sql_base.specs.declared.key_ranges.Start.{Start}
use Rattle.sql_base.specs.declared.lock_names.TxnName.{TxnName}
use Rattle.key_sequenced.specs.declared.Cell.{Cell}
use Rattle.subset_blocks.specs.declared.Block.{Block}
use Rattle.quantum_core.specs.Quantum.{answer, last_key, stopped, visits}
use Rattle.quantum_core.specs.Verdicts.{Judged, candidates, is_candidate, is_hidden, judged, verdict}
use Rattle.quantum_core.specs.declared.replies.QuantumReply.TheVariants as answers
use Rattle.quantum_core.specs.declared.works.SetWork.{SetWork}
use Rattle.dp_messages.specs.declared.replies.Reply.TheVariants as reply
use Rattle.dp_messages.specs.declared.requests.Ask.{Ask}
use Rattle.dp_messages.specs.declared.requests.Ask.TheVariants.{Continue}
use Rattle.dp_messages.specs.declared.requests.Request.{Request}
use Rattle.partition_state.specs.State.{State}
use Rattle.partition_state.specs.Step.{step}
use Rattle.partition_laws.specs.Keeping.{Keeps}
use Rattle.partition_laws.specs.Moves.{by, handled_by}
use Rattle.partition_laws.specs.Outcomes.{Begun, Found, Origin}
use Rattle.partition_laws.proofs.BlocksOwn.{redriven}
use Rattle.sql_base.proofs.ListSearches.{all-passing}
use Rattle.ending_laws.proofs.CellKeys.{KeysAre}
use Rattle.sql_base.proofs.ListFacts.{all-map, all-take}
use Rattle.partition_laws.proofs.Singles.{refusal-no_redrive}

-- the key is behind that after which the request goes on
abbrev pub IsOnward : Ask → List ℕ → Type 0
IsOnward (Continue subset kept) key = key_lt kept key ≡ true
IsOnward other key = Unit {0}

module _ (P : List ℕ → Type 0) where
  module _ (p : State) (block : Block SetWork) (h : KeysAre P p) where
    -- a key of the partition, from the start of the block on
    abbrev IsReached : List ℕ → Type 0
    IsReached key = P key × (is_from block.start key ≡ true)

    abbrev IsJudgedSo : Judged → Type 0
    IsJudgedSo j = IsReached j.key

    judged-reached : AllByRecursion IsJudgedSo (judged p.table p.locks block p.cells)
    judged-reached =
        let judge : Cell → Judged = λ cell. record { key = cell.key; verdict = verdict p.table p.locks block cell } in
        all-map IsJudgedSo judge (candidates block p.cells)
        (all-passing (λ (cell : Cell). P cell.key) (λ (cell : Cell). IsJudgedSo (judge cell)) (is_candidate block) p.cells
        (λ cell passes has. (has, (and_parts (is_from block.start cell.key) (key_le cell.key block.high && not (is_hidden block cell cell.now)) passes).0)) h)

    last-reached : (handled : List Judged) (last : List ℕ) → AllByRecursion IsJudgedSo handled → last_key handled ≡ Some last → IsReached last
    last-reached [] last all e = absurd (cc e)
    last-reached (j ∷ []) last all e = let same : j.key ≡ last = cc e in subst IsReached same all.0
    last-reached (j ∷ k ∷ handled) last all e = last-reached (k ∷ handled) last all.1 e

    module _ (last : List ℕ) (cause : Cause) (rows : List (List ℕ)) (changed : ℕ) where
      stopped-reached : (handled : List Judged) (next : Judged) (o : Option (List ℕ)) → AllByRecursion IsJudgedSo handled → last_key handled ≡ o
          → stopped p.limits handled next o ≡ answers.Redrive last cause rows changed → IsReached last
      stopped-reached handled next (Some key) all e told = let same : key ≡ last = cc told in subst IsReached same (last-reached handled key all e)
      stopped-reached handled next None all e told = absurd (refusal-no_redrive next.key next.verdict last cause rows changed told)

      answer-reached : (handled rest : List Judged) → AllByRecursion IsJudgedSo handled → answer p.limits handled rest ≡ answers.Redrive last cause rows changed → IsReached last
      answer-reached handled [] all told = absurd (cc told)
      answer-reached handled (next ∷ rest) all told = stopped-reached handled next (last_key handled) all refl told

      pub quantum-reached : (handled_by p block).reply ≡ answers.Redrive last cause rows changed → P last × (is_from block.start last ≡ true)
      quantum-reached told =
          let js = judged p.table p.locks block p.cells in
          answer-reached (take (visits p.limits js) js) (drop (visits p.limits js) js) (all-take IsJudgedSo (visits p.limits js) js judged-reached) told

  origin-onward : (p : State) (t : TxnName) (ask : Ask) (n : ℕ) (block : Block SetWork) (last : List ℕ) → Origin p t ask n block → is_from block.start last ≡ true → IsOnward ask last
  origin-onward p t (Continue subset key) n block last (Begun e none) from = absurd (cc e)
  origin-onward p t (Continue subset key) n block last (Found kept asks found start) from =
      let same : key ≡ kept = cc asks in
      let behind : key_lt kept last ≡ true = subst (λ (s : Start). is_from s last ≡ true) start from in
      subst (λ (k : List ℕ). key_lt k last ≡ true) (sym same) behind
  origin-onward p t other n block last o from = tt

  pub redrive-onward : (p : State) (opener sync : ℕ) (request : Request) (n : ℕ) (last : List ℕ) (cause : Cause) (rows : List (List ℕ)) (changed : ℕ) → Keeps p → KeysAre P p
      → (step p opener sync request).reply ≡ Some (reply.Redrive n last cause rows changed) → P last × IsOnward request.ask last
  redrive-onward p opener sync request n last cause rows changed k h told =
      let r = redriven p opener sync request n last cause rows changed k told in
      let reached = quantum-reached p r.block h last cause rows changed r.handled in
      (reached.0, origin-onward p (by opener request) request.ask n r.block last r.origin reached.1)
