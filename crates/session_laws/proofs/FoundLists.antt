-- The list of a request can be read off a log that leads on from it to the end.
use Rattle.std.proofs.Common.{◌≡◌, ℕ, zero, suc, List, [], ◌∷◌, ◌++◌, Option, Some, None, Bool, true, false, refl, ap, sym, ◌∙◌, subst, inl, inr}
use Rattle.std.specs.Prelude.{◌⊎◌}
use Rattle.sql_base.specs.declared.lock_names.Lock.{Lock}
use Rattle.sql_base.specs.declared.outcomes.Abort.{Abort}
use Rattle.sql_base.specs.declared.outcomes.Abort.TheVariants.{LockedOut, PathLost, Faulted}
use Rattle.sql_base.specs.declared.statements.Statement.{Statement}
use Rattle.dp_messages.specs.declared.replies.Reply.{Reply as PartitionReply}
use Rattle.dp_messages.specs.declared.replies.Reply.TheVariants as reply
use Rattle.dp_messages.specs.declared.requests.Ask.{Ask}
use Rattle.dp_messages.specs.declared.requests.Ask.TheVariants.{Continue}
use Rattle.dp_messages.specs.declared.requests.Request.{Request}
use Rattle.session_grammar.specs.declared.logs.Answer.{Answer}
use Rattle.session_grammar.specs.declared.logs.Answer.TheVariants.{Reply, PathFailed, Stamp}
use Rattle.session_grammar.specs.declared.logs.LogEntry.{LogEntry}
use Rattle.session_grammar.specs.declared.logs.LogEntry.TheVariants.{Asked, Drew}
use Rattle.session_grammar.specs.Follows.{AfterRow, AreExchanges, joined}
use Rattle.session_grammar.specs.Plans.{Asker}
use Rattle.session_grammar.specs.declared.plans.Sent.{Sent}
use Rattle.session_grammar.specs.Rows.{IsAsked, IsExchange, IsSent, failure, fits, fits_subset, is_locked}
use Rattle.session_laws.specs.Scaffold.Machine.{Over, Place, Trying, after_ask, asking, see}
use Rattle.session_laws.specs.Scaffold.Leading.{Leads, answer_of}
use Rattle.session_laws.proofs.Asking.{ListBy, asks, list_out, single_out}
use Rattle.session_laws.proofs.Found.{Cut}
use Rattle.session_laws.proofs.Leading.{does_asked, walk, walk-append}
use Rattle.session_laws.proofs.Plans.{Suits}

repeat_row : (n part : ℕ) (request : Request) (lock : Lock) (answer : Answer) (e : LogEntry) (row : List LogEntry)
    → IsAsked part request (Reply (reply.Locked lock)) e → IsExchange n part request row answer → IsExchange (suc n) part request (e ∷ row) answer
repeat_row n part request lock answer e [] h rest = absurd rest
repeat_row n part request lock answer e (f ∷ fs) h rest = ((lock, h), rest)

module _ (r : Asker) (t : Trying) (sents : List Sent) (statements : List Statement) where
  abbrev led : List ℕ → Bool → ℕ → Ask → ℕ → Answer → Place
  led seen subset part ask n answer = after_ask r t seen subset part ask n sents statements answer

  -- the front with one entry more
  module _ (G H : List LogEntry → Option Abort → Type 0) (out : List ℕ → Option Abort → Place) (seen : List ℕ) (part : ℕ) (e : LogEntry) (es : List LogEntry) (sees : walk seen (e ∷ []) ≡ see part seen) where
    grown : (c : Cut r G out (see part seen) es) → H (e ∷ c.front) c.end → Cut r H out seen (e ∷ es)
    grown c h = record {
      front = e ∷ c.front;
      rest = c.rest;
      end = c.end;
      entries = ap (λ x. e ∷ x) c.entries;
      is = h;
      leads = subst (λ s. Leads r (out s c.end) c.rest Over) (sym (walk-append seen (e ∷ []) c.front ∙ ap (λ s. walk s c.front) sees)) c.leads;
    }

    stopped : (end : Option Abort) → H (e ∷ []) end → Leads r (out (see part seen) end) es Over → Cut r H out seen (e ∷ es)
    stopped end h leads = record { front = e ∷ []; rest = es; end = end; entries = refl; is = h; leads = subst (λ s. Leads r (out s end) es Over) (sym sees) leads }

  -- the rest of a single request's row, and of a subset's rows, with so many repeats left
  abbrev SingleFrom : ℕ → ℕ → Ask → List LogEntry → Option Abort → Type 0
  SingleFrom n part ask front end = (answer : Answer) × IsExchange n part (asking t.ordinal ask) front answer × (end ≡ failure answer)

  record RowsFrom (n part : ℕ) (ask : Ask) (front : List LogEntry) (end : Option Abort) : Type 0 where
    row : List LogEntry
    rows : List (List LogEntry)
    answer : Answer
    are : front ≡ row ++ joined rows
    is_row : IsExchange n part (asking t.ordinal ask) row answer
    goes_on : AfterRow answer (λ subset last. AreExchanges r t.ordinal part (Continue subset last) rows end) rows end

  single_step : (n part : ℕ) (ask : Ask) (seen : List ℕ) (answer : Answer) (e : LogEntry) (es : List LogEntry) → IsAsked part (asking t.ordinal ask) answer e → walk seen (e ∷ []) ≡ see part seen
      → Leads r (led (see part seen) false part ask n answer) es Over
      → ((m : ℕ) (s : List ℕ) → Leads r (asks r t sents statements s false part ask m) es Over → Cut r (SingleFrom m part ask) (λ x. list_out r t sents statements x false) s es)
      → Cut r (SingleFrom n part ask) (λ x. list_out r t sents statements x false) seen (e ∷ es)
  single_step (suc n) part ask seen (Reply (reply.Locked lock)) e es asked sees leads more =
      let c = more n (see part seen) leads in
      grown (SingleFrom n part ask) (SingleFrom (suc n) part ask) (λ x. list_out r t sents statements x false) seen part e es sees c
      (c.is.0, repeat_row n part (asking t.ordinal ask) lock c.is.0 e c.front asked c.is.1, c.is.2)
  single_step zero part ask seen (Reply (reply.Locked lock)) e es asked sees leads more =
      stopped (SingleFrom zero part ask) (SingleFrom zero part ask) (λ x. list_out r t sents statements x false) seen part e es sees (Some LockedOut) (Reply (reply.Locked lock), (asked, λ _. refl), refl) leads
  single_step n part ask seen answer e es asked sees leads more =
      let never : is_locked answer ≡ true → n ≡ 0 = λ locked. absurd (cc locked) in
      stopped (SingleFrom n part ask) (SingleFrom n part ask) (λ x. list_out r t sents statements x false) seen part e es sees (failure answer) (answer, (asked, never), refl)
      (subst (λ p. Leads r p es Over) (single_out r t sents statements (see part seen) part ask n answer never) leads)

  single_found : (es : List LogEntry) (n part : ℕ) (ask : Ask) (seen : List ℕ) → Leads r (asks r t sents statements seen false part ask n) es Over
      → Cut r (SingleFrom n part ask) (λ x. list_out r t sents statements x false) seen es
  single_found [] n part ask seen h = absurd (cc h)
  single_found (e ∷ es) n part ask seen h =
      let d = does_asked part (asking t.ordinal ask) e h.0 in
      single_step n part ask seen (answer_of e) e es d.0 (d.1 seen) h.1 (λ m s g. single_found es m part ask s g)

  abbrev IsSubsetAsk : Ask → Type 0
  IsSubsetAsk ask = (x : PartitionReply) → fits ask x ≡ fits_subset x

  abbrev IsSubsetAnswer : Answer → Type 0
  IsSubsetAnswer (Reply x) = fits_subset x ≡ true
  IsSubsetAnswer PathFailed = Unit {0}
  IsSubsetAnswer (Stamp stamp) = ⊥

  subset_answer : (ask : Ask) (losses : ℕ) (answer : Answer) → IsSubsetAsk ask → IsSent ask losses answer → IsSubsetAnswer answer
  subset_answer ask losses (Reply x) same h = sym (same x) ∙ h.1
  subset_answer ask losses PathFailed same h = tt
  subset_answer ask losses (Stamp stamp) same h = absurd h

  asked_answer : (part : ℕ) (ask : Ask) (answer : Answer) (e : LogEntry) → IsSubsetAsk ask → IsAsked part (asking t.ordinal ask) answer e → IsSubsetAnswer answer
  asked_answer part ask answer (Asked p s q l a) same h = subst IsSubsetAnswer h.2 (subset_answer ask l a same (subst (λ (x : Request). IsSent x.ask l a) h.1 h.3))
  asked_answer part ask answer (Drew n f a) same h = absurd h

  subset_step : (n part : ℕ) (ask : Ask) (seen : List ℕ) (answer : Answer) (e : LogEntry) (es : List LogEntry) → IsSubsetAnswer answer
      → IsAsked part (asking t.ordinal ask) answer e → walk seen (e ∷ []) ≡ see part seen → Leads r (led (see part seen) true part ask n answer) es Over
      → ((m : ℕ) (a : Ask) (s : List ℕ) → (a ≡ ask) ⊎ ((number : ℕ) × (last : List ℕ) × (a ≡ Continue number last)) → Leads r (asks r t sents statements s true part a m) es Over → Cut r (RowsFrom m part a) (λ x. list_out r t sents statements x true) s es)
      → Cut r (RowsFrom n part ask) (λ x. list_out r t sents statements x true) seen (e ∷ es)
  subset_step n part ask seen (Reply (reply.Redrive number last cause out changed)) e es fit asked sees leads more =
      let c = more r.limits.patience (Continue number last) (see part seen) (inr (number, last, refl)) leads in
      grown (RowsFrom r.limits.patience part (Continue number last)) (RowsFrom n part ask) (λ x. list_out r t sents statements x true) seen part e es sees c
      (record {
        row = e ∷ [];
        rows = c.is.row ∷ c.is.rows;
        answer = Reply (reply.Redrive number last cause out changed);
        are = ap (λ x. e ∷ x) c.is.are;
        is_row = (asked, λ locked. absurd (cc locked));
        goes_on = (c.is.answer, c.is.is_row, c.is.goes_on);
      })
  subset_step n part ask seen (Reply (reply.Ended out changed)) e es fit asked sees leads more =
      stopped (RowsFrom n part ask) (RowsFrom n part ask) (λ x. list_out r t sents statements x true) seen part e es sees None
      (record { row = e ∷ []; rows = []; answer = Reply (reply.Ended out changed); are = refl; is_row = (asked, λ locked. absurd (cc locked)); goes_on = (refl, refl) }) leads
  subset_step zero part ask seen (Reply (reply.Locked lock)) e es fit asked sees leads more =
      stopped (RowsFrom zero part ask) (RowsFrom zero part ask) (λ x. list_out r t sents statements x true) seen part e es sees (Some LockedOut)
      (record { row = e ∷ []; rows = []; answer = Reply (reply.Locked lock); are = refl; is_row = (asked, λ locked. refl); goes_on = (refl, refl, refl) }) leads
  subset_step (suc n) part ask seen (Reply (reply.Locked lock)) e es fit asked sees leads more =
      let c = more n ask (see part seen) (inl refl) leads in
      grown (RowsFrom n part ask) (RowsFrom (suc n) part ask) (λ x. list_out r t sents statements x true) seen part e es sees c
      (record {
        row = e ∷ c.is.row;
        rows = c.is.rows;
        answer = c.is.answer;
        are = ap (λ x. e ∷ x) c.is.are;
        is_row = repeat_row n part (asking t.ordinal ask) lock c.is.answer e c.is.row asked c.is.is_row;
        goes_on = c.is.goes_on;
      })
  subset_step n part ask seen (Reply (reply.Failed key fault)) e es fit asked sees leads more =
      stopped (RowsFrom n part ask) (RowsFrom n part ask) (λ x. list_out r t sents statements x true) seen part e es sees (Some (Faulted key fault))
      (record { row = e ∷ []; rows = []; answer = Reply (reply.Failed key fault); are = refl; is_row = (asked, λ locked. absurd (cc locked)); goes_on = (refl, refl, refl) }) leads
  subset_step n part ask seen PathFailed e es fit asked sees leads more =
      stopped (RowsFrom n part ask) (RowsFrom n part ask) (λ x. list_out r t sents statements x true) seen part e es sees (Some PathLost)
      (record { row = e ∷ []; rows = []; answer = PathFailed; are = refl; is_row = (asked, λ locked. absurd (cc locked)); goes_on = (refl, refl, refl) }) leads
  subset_step n part ask seen (Stamp stamp) e es fit asked sees leads more = absurd fit
  subset_step n part ask seen (Reply other) e es fit asked sees leads more = absurd (cc fit)

  rows_found : (es : List LogEntry) (n part : ℕ) (ask : Ask) (seen : List ℕ) → IsSubsetAsk ask → Leads r (asks r t sents statements seen true part ask n) es Over
      → Cut r (RowsFrom n part ask) (λ x. list_out r t sents statements x true) seen es
  rows_found [] n part ask seen is h = absurd (cc h)
  rows_found (e ∷ es) n part ask seen is h =
      let d = does_asked part (asking t.ordinal ask) e h.0 in
      subset_step n part ask seen (answer_of e) e es (asked_answer part ask (answer_of e) e is d.0) d.0 (d.1 seen) h.1 (λ m a s how g. rows_found es m part a s (still a how) g)
    where
      still : (a : Ask) → (a ≡ ask) ⊎ ((number : ℕ) × (last : List ℕ) × (a ≡ Continue number last)) → IsSubsetAsk a
      still a (inl same) = subst IsSubsetAsk (sym same) is
      still a (inr k) = subst IsSubsetAsk (sym k.2) (λ x. refl)

  -- the list of a request
  pub list_found : (subset : Bool) (sent : Sent) (seen : List ℕ) (es : List LogEntry) → Suits subset sent → Leads r (asks r t sents statements seen subset sent.part sent.ask r.limits.patience) es Over
      → Cut r (ListBy r t.ordinal subset sent) (λ x. list_out r t sents statements x subset) seen es
  list_found false sent seen es suits h =
      let c = single_found es r.limits.patience sent.part sent.ask seen h in
      record { front = c.front; rest = c.rest; end = c.end; entries = c.entries; is = c.is; leads = c.leads }
  list_found true sent seen es suits h =
      let c = rows_found es r.limits.patience sent.part sent.ask seen suits h in
      record { front = c.front; rest = c.rest; end = c.end; entries = c.entries; is = (c.is.row ∷ c.is.rows, c.is.are, (c.is.answer, c.is.is_row, c.is.goes_on)); leads = c.leads }
