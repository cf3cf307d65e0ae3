-- A row, a subset's list and a single request lead on to where their ends lead.
use Rattle.std.proofs.Common.{◌≡◌, ℕ, zero, suc, List, [], ◌∷◌, ◌++◌, Option, Some, None, Bool, true, false, refl, ap, sym, ◌∙◌, subst}
use Rattle.std.specs.Prelude.{IsSome}
use Rattle.sql_base.specs.declared.outcomes.Abort.{Abort}
use Rattle.sql_base.specs.declared.outcomes.Abort.TheVariants.{LockedOut, PathLost, Faulted, Duplicate}
use Rattle.sql_base.specs.declared.statements.Statement.{Statement}
use Rattle.dp_messages.specs.declared.replies.Reply.TheVariants as reply
use Rattle.dp_messages.specs.declared.requests.Ask.{Ask}
use Rattle.dp_messages.specs.declared.requests.Ask.TheVariants.{Continue}
use Rattle.session_grammar.specs.declared.logs.Answer.{Answer}
use Rattle.session_grammar.specs.declared.logs.Answer.TheVariants.{Reply, PathFailed, Stamp}
use Rattle.session_grammar.specs.declared.logs.LogEntry.{LogEntry}
use Rattle.session_grammar.specs.Follows.{AfterRow, AreExchanges, IsList, IsSingle, joined}
use Rattle.session_grammar.specs.Plans.{Asker}
use Rattle.session_grammar.specs.declared.plans.Sent.{Sent}
use Rattle.session_grammar.specs.Rows.{IsAsked, IsExchange, failure, is_locked}
use Rattle.session_laws.specs.Scaffold.Machine.{Asks, At, Place, Trying, after_ask, asking, see, undone, went_on}
use Rattle.session_laws.specs.Scaffold.Leading.{Leads}
use Rattle.session_laws.proofs.Leading.{Leads-append, asked_does, walk, walk-append}

abbrev pub is_lock : Abort → Bool
is_lock LockedOut = true
is_lock abort = false

-- the list of a request: of a subset, or a single one
abbrev pub ListBy : Asker → ℕ → Bool → Sent → List LogEntry → Option Abort → Type 0
ListBy r ordinal true = IsList r ordinal
ListBy r ordinal false = IsSingle r ordinal

module _ (r : Asker) (t : Trying) (sents : List Sent) (statements : List Statement) where
  abbrev pub asks : List ℕ → Bool → ℕ → Ask → ℕ → Place
  asks seen subset part ask n = At t seen (Asks subset part ask n sents statements)

  abbrev led : List ℕ → Bool → ℕ → Ask → ℕ → Answer → Place
  led seen subset part ask n answer = after_ask r t seen subset part ask n sents statements answer

  -- where the end of a request's list leads
  abbrev pub list_out : List ℕ → Bool → Option Abort → Place
  list_out seen subset None = went_on r t seen subset sents statements
  list_out seen subset (Some abort) = undone r t seen (is_lock abort)

  one_leads : (seen : List ℕ) (subset : Bool) (part : ℕ) (ask : Ask) (n : ℕ) (answer : Answer) (e : LogEntry) → IsAsked part (asking t.ordinal ask) answer e
      → Leads r (asks seen subset part ask n) (e ∷ []) (led (walk seen (e ∷ [])) subset part ask n answer)
  one_leads seen subset part ask n answer e h =
      let d = asked_does part (asking t.ordinal ask) answer e h in
      (d.0, ap (λ a. led (see part seen) subset part ask n a) d.1 ∙ ap (λ s. led s subset part ask n answer) (sym (d.2 seen)))

  -- a row leads where its last answer leads, with so many repeats left
  row_leads : (seen : List ℕ) (subset : Bool) (part : ℕ) (ask : Ask) (n : ℕ) (row : List LogEntry) (answer : Answer) → IsExchange n part (asking t.ordinal ask) row answer
      → (k : ℕ) × (is_locked answer ≡ true → k ≡ 0) × Leads r (asks seen subset part ask n) row (led (walk seen row) subset part ask k answer)
  row_leads seen subset part ask n [] answer h = absurd h
  row_leads seen subset part ask n (e ∷ []) answer h = (n, h.1, one_leads seen subset part ask n answer e h.0)
  row_leads seen subset part ask zero (e ∷ f ∷ es) answer h = absurd h
  row_leads seen subset part ask (suc n) (e ∷ f ∷ es) answer h =
      let first = one_leads seen subset part ask (suc n) (Reply (reply.Locked h.0.0)) e h.0.1 in
      let rest = row_leads (walk seen (e ∷ [])) subset part ask n (f ∷ es) answer h.1 in
      let leads = Leads-append r (e ∷ []) (f ∷ es) (asks seen subset part ask (suc n)) (asks (walk seen (e ∷ [])) subset part ask n) (led (walk (walk seen (e ∷ [])) (f ∷ es)) subset part ask rest.0 answer) first rest.2 in
      (rest.0, rest.1, subst (λ s. Leads r (asks seen subset part ask (suc n)) (e ∷ f ∷ es) (led s subset part ask rest.0 answer)) (sym (walk-append seen (e ∷ []) (f ∷ es))) leads)

  same_out : (seen : List ℕ) (a b : Abort) → Some a ≡ Some b → undone r t seen (is_lock a) ≡ undone r t seen (is_lock b)
  same_out seen a b h = let same : a ≡ b = cc h in ap (λ x. undone r t seen (is_lock x)) same

  -- where the last answer of a row ends its list
  failed_out : (seen : List ℕ) (subset : Bool) (part : ℕ) (ask : Ask) (k : ℕ) (answer : Answer) (abort : Abort) → (is_locked answer ≡ true → k ≡ 0) → failure answer ≡ Some abort
      → led seen subset part ask k answer ≡ undone r t seen (is_lock abort)
  failed_out seen subset part ask zero (Reply (reply.Locked lock)) abort zero_is h = same_out seen LockedOut abort h
  failed_out seen subset part ask (suc k) (Reply (reply.Locked lock)) abort zero_is h = let no_more = zero_is refl in absurd (cc no_more)
  failed_out seen subset part ask k (Reply (reply.Failed key fault)) abort zero_is h = same_out seen (Faulted key fault) abort h
  failed_out seen subset part ask k (Reply (reply.DuplicateKey key)) abort zero_is h = same_out seen (Duplicate key) abort h
  failed_out seen subset part ask k PathFailed abort zero_is h = same_out seen PathLost abort h
  failed_out seen subset part ask k (Stamp stamp) abort zero_is h = absurd (cc h)
  failed_out seen subset part ask k (Reply other) abort zero_is h = absurd (cc h)

  pub single_out : (seen : List ℕ) (part : ℕ) (ask : Ask) (k : ℕ) (answer : Answer) → (is_locked answer ≡ true → k ≡ 0)
      → led seen false part ask k answer ≡ list_out seen false (failure answer)
  single_out seen part ask zero (Reply (reply.Locked lock)) zero_is = refl
  single_out seen part ask (suc k) (Reply (reply.Locked lock)) zero_is = let no_more = zero_is refl in absurd (cc no_more)
  single_out seen part ask k (Reply other) zero_is = refl
  single_out seen part ask k PathFailed zero_is = refl
  single_out seen part ask k (Stamp stamp) zero_is = refl

  single_leads : (seen : List ℕ) (sent : Sent) (list : List LogEntry) (end : Option Abort) → IsSingle r t.ordinal sent list end
      → Leads r (asks seen false sent.part sent.ask r.limits.patience) list (list_out (walk seen list) false end)
  single_leads seen sent list end h =
      let row = row_leads seen false sent.part sent.ask r.limits.patience list h.0 h.1 in
      let out : led (walk seen list) false sent.part sent.ask row.0 h.0 ≡ list_out (walk seen list) false end =
      single_out (walk seen list) sent.part sent.ask row.0 h.0 row.1 ∙ ap (list_out (walk seen list) false) (sym h.2) in
      subst (Leads r (asks seen false sent.part sent.ask r.limits.patience) list) out row.2

  -- behind the row of a subset come the rows of its Continue, or the list ends
  rows_behind : (seen : List ℕ) (part : ℕ) (ask : Ask) (k : ℕ) (answer : Answer) (rows : List (List LogEntry)) (end : Option Abort) → (is_locked answer ≡ true → k ≡ 0)
      → AfterRow answer (λ subset last. AreExchanges r t.ordinal part (Continue subset last) rows end) rows end
      → ((subset : ℕ) (last : List ℕ) → AreExchanges r t.ordinal part (Continue subset last) rows end
      → Leads r (asks seen true part (Continue subset last) r.limits.patience) (joined rows) (list_out (walk seen (joined rows)) true end))
      → Leads r (led seen true part ask k answer) (joined rows) (list_out (walk seen (joined rows)) true end)
  rows_behind seen part ask k (Reply (reply.Redrive subset last cause out changed)) rows end zero_is h more = more subset last h
  rows_behind seen part ask k (Reply (reply.Ended out changed)) rows end zero_is h more =
      subst (λ (rs : List (List LogEntry)). Leads r (led seen true part ask k (Reply (reply.Ended out changed))) (joined rs) (list_out (walk seen (joined rs)) true end)) (sym h.0)
      (ap (list_out seen true) (sym h.1))
  rows_behind seen part ask k answer rows end zero_is h more =
      subst (λ (rs : List (List LogEntry)). Leads r (led seen true part ask k answer) (joined rs) (list_out (walk seen (joined rs)) true end)) (sym h.0)
      (ended (failure answer) refl h.1 ∙ ap (list_out seen true) (sym h.2))
    where
      ended : (fails : Option Abort) → failure answer ≡ fails → IsSome fails → led seen true part ask k answer ≡ list_out seen true fails
      ended None e some = absurd (cc some)
      ended (Some abort) e some = failed_out seen true part ask k answer abort zero_is e

  rows_lead : (seen : List ℕ) (part : ℕ) (ask : Ask) (rows : List (List LogEntry)) (end : Option Abort) → AreExchanges r t.ordinal part ask rows end
      → Leads r (asks seen true part ask r.limits.patience) (joined rows) (list_out (walk seen (joined rows)) true end)
  rows_lead seen part ask [] end h = absurd h
  rows_lead seen part ask (row ∷ rows) end h =
      let first = row_leads seen true part ask r.limits.patience row h.0 h.1 in
      let rest = rows_behind (walk seen row) part ask first.0 h.0 rows end first.1 h.2 (λ subset last more. rows_lead (walk seen row) part (Continue subset last) rows end more) in
      subst (λ s. Leads r (asks seen true part ask r.limits.patience) (row ++ joined rows) (list_out s true end)) (sym (walk-append seen row (joined rows)))
      (Leads-append r row (joined rows) (asks seen true part ask r.limits.patience) (led (walk seen row) true part ask first.0 h.0) (list_out (walk (walk seen row) (joined rows)) true end) first.2 rest)

  -- the list of a request leads where its end leads
  pub list_leads : (seen : List ℕ) (subset : Bool) (sent : Sent) (list : List LogEntry) (end : Option Abort) → ListBy r t.ordinal subset sent list end
      → Leads r (asks seen subset sent.part sent.ask r.limits.patience) list (list_out (walk seen list) subset end)
  list_leads seen false sent list end h = single_leads seen sent list end h
  list_leads seen true sent list end h =
      subst (λ (es : List LogEntry). Leads r (asks seen true sent.part sent.ask r.limits.patience) es (list_out (walk seen es) true end)) (sym h.1) (rows_lead seen sent.part sent.ask h.0 end h.2)
