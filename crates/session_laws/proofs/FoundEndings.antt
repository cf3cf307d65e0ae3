-- What ends an attempt can be read off a log that leads on from it to the end.
use Rattle.std.proofs.Common.{◌≡◌, ℕ, List, [], ◌∷◌, ◌++◌, Option, Some, None, Bool, true, false, refl, ap, sym, ◌∙◌, subst, inl, inr, append_assoc}
use Rattle.std.specs.Prelude.{◌⊎◌, fold, max}
use Rattle.sql_base.specs.declared.outcomes.Abort.{Abort}
use Rattle.sql_base.specs.declared.outcomes.Abort.TheVariants.{PathLost}
use Rattle.sql_base.specs.declared.outcomes.Outcome.{Outcome}
use Rattle.sql_base.specs.declared.outcomes.Outcome.TheVariants.{Committed, RolledBack, Aborted}
use Rattle.dp_messages.specs.declared.replies.Reply.{Reply as PartitionReply}
use Rattle.dp_messages.specs.declared.replies.Reply.TheVariants as reply
use Rattle.dp_messages.specs.declared.requests.Ask.{Ask}
use Rattle.dp_messages.specs.declared.requests.Ask.TheVariants.{EndCommit, EndUndo, Prepare}
use Rattle.dp_messages.specs.declared.requests.Request.{Request}
use Rattle.session_grammar.specs.declared.logs.Answer.{Answer}
use Rattle.session_grammar.specs.declared.logs.Answer.TheVariants.{Reply, PathFailed, Stamp}
use Rattle.session_grammar.specs.declared.logs.LogEntry.{LogEntry}
use Rattle.session_grammar.specs.declared.logs.LogEntry.TheVariants.{Asked, Drew}
use Rattle.session_grammar.specs.Follows.{AreEnds, ArePrepares, Attempt, IsEnding, greatest_of, touched}
use Rattle.session_grammar.specs.Plans.{Asker}
use Rattle.session_grammar.specs.Rows.{IsAsked, IsSent, fits, is_end}
use Rattle.session_laws.specs.Scaffold.Machine.{At, Over, Place, Stamps, Trying, after_prepare, asking, behind, closes_at, closing, in_order, next, prepares_at, undone}
use Rattle.session_laws.specs.Scaffold.Leading.{Leads, answer_of}
use Rattle.session_laws.proofs.Asking.{is_lock}
use Rattle.session_laws.proofs.Attempts.{is_lock_end}
use Rattle.session_laws.proofs.Leading.{does_asked}
use Rattle.dp_messages.specs.Replies.{is_done}

done_reply : (x : PartitionReply) → is_done x ≡ true → x ≡ reply.Done
done_reply reply.Done h = refl
done_reply other h = absurd (cc h)

-- an End is answered Done
done_answer : (ask : Ask) (losses : ℕ) (answer : Answer) → is_end ask ≡ true → ((x : PartitionReply) → fits ask x ≡ is_done x) → IsSent ask losses answer → answer ≡ Reply reply.Done
done_answer ask losses (Reply x) ending same h = ap Reply (done_reply x (sym (same x) ∙ h.1))
done_answer ask losses PathFailed ending same h = absurd (cc (ending, h.1))
done_answer ask losses (Stamp stamp) ending same h = absurd h

asked_sent : (part : ℕ) (request : Request) (answer : Answer) (e : LogEntry) → IsAsked part request answer e → (losses : ℕ) × IsSent request.ask losses answer
asked_sent part request answer (Asked p s q l a) h = (l, subst (IsSent request.ask l) h.2 (subst (λ (x : Request). IsSent x.ask l a) h.1 h.3))
asked_sent part request answer (Drew n f a) h = absurd h

asked_done : (part ordinal : ℕ) (ask : Ask) (answer : Answer) (e : LogEntry) → is_end ask ≡ true → ((x : PartitionReply) → fits ask x ≡ is_done x)
    → IsAsked part (asking ordinal ask) answer e → IsAsked part (asking ordinal ask) (Reply reply.Done) e
asked_done part ordinal ask answer e ending same h =
    let sent = asked_sent part (asking ordinal ask) answer e h in
    subst (λ a. IsAsked part (asking ordinal ask) a e) (done_answer ask sent.0 answer ending same sent.1) h

module _ (r : Asker) (t : Trying) (seen : List ℕ) where
  record Ends (ask : Ask) (parts : List ℕ) (locked : Bool) (es : List LogEntry) : Type 0 where
    ends : List LogEntry
    rest : List LogEntry
    entries : es ≡ ends ++ rest
    are : AreEnds t.ordinal ask parts ends
    leads : Leads r (behind r t locked) rest Over

  ends_found : (ask : Ask) (parts : List ℕ) (locked : Bool) (es : List LogEntry) → is_end ask ≡ true → ((x : PartitionReply) → fits ask x ≡ is_done x)
      → Leads r (closes_at t seen ask parts locked (behind r t locked)) es Over → Ends ask parts locked es
  ends_found ask [] locked es ending same h = record { ends = []; rest = es; entries = refl; are = tt; leads = h }
  ends_found ask (part ∷ parts) locked [] ending same h = absurd (cc h)
  ends_found ask (part ∷ parts) locked (e ∷ es) ending same h =
      let more = ends_found ask parts locked es ending same h.1 in
      record {
        ends = e ∷ more.ends;
        rest = more.rest;
        entries = ap (λ x. e ∷ x) more.entries;
        are = (asked_done part t.ordinal ask (answer_of e) e ending same (does_asked part (asking t.ordinal ask) e h.0).0, more.are);
        leads = more.leads;
      }

  -- all prepare, or the path to one of them loses it
  record Prepared (parts : List ℕ) (floor : ℕ) (es : List LogEntry) : Type 0 where
    prepares : List LogEntry
    floors : List ℕ
    rest : List LogEntry
    entries : es ≡ prepares ++ rest
    are : ArePrepares t.ordinal parts prepares floors
    leads : Leads r (At t seen (Stamps (fold max floor floors))) rest Over

  record Loses (parts : List ℕ) (es : List LogEntry) : Type 0 where
    front : List ℕ
    part : ℕ
    back : List ℕ
    floors : List ℕ
    prepares : List LogEntry
    lost : LogEntry
    rest : List LogEntry
    are_parts : parts ≡ front ++ part ∷ back
    entries : es ≡ prepares ++ lost ∷ rest
    are : ArePrepares t.ordinal front prepares floors
    loses : IsAsked part (asking t.ordinal Prepare) PathFailed lost
    leads : Leads r (undone r t seen false) rest Over

  prepares_step : (part : ℕ) (parts : List ℕ) (floor : ℕ) (answer : Answer) (e : LogEntry) (es : List LogEntry) → IsAsked part (asking t.ordinal Prepare) answer e → (losses : ℕ) × IsSent Prepare losses answer
      → Leads r (after_prepare r t seen parts floor answer) es Over → ((f : ℕ) → Leads r (prepares_at t seen parts f) es Over → Prepared parts f es ⊎ Loses parts es)
      → Prepared (part ∷ parts) floor (e ∷ es) ⊎ Loses (part ∷ parts) (e ∷ es)
  prepares_step part parts floor (Reply (reply.Floor f)) e es asked sent h more = elim (more (max floor f) h) [
    | inl p ↦
        inl (record { prepares = e ∷ p.prepares; floors = f ∷ p.floors; rest = p.rest; entries = ap (λ x. e ∷ x) p.entries; are = (asked, p.are); leads = p.leads })
    | inr p ↦
        inr (record {
          front = part ∷ p.front;
          part = p.part;
          back = p.back;
          floors = f ∷ p.floors;
          prepares = e ∷ p.prepares;
          lost = p.lost;
          rest = p.rest;
          are_parts = ap (λ x. part ∷ x) p.are_parts;
          entries = ap (λ x. e ∷ x) p.entries;
          are = (asked, p.are);
          loses = p.loses;
          leads = p.leads;
        })
  ]
  prepares_step part parts floor PathFailed e es asked sent h more =
      inr (record { front = []; part = part; back = parts; floors = []; prepares = []; lost = e; rest = es; are_parts = refl; entries = refl; are = tt; loses = asked; leads = h })
  prepares_step part parts floor (Stamp stamp) e es asked sent h more = absurd sent.1
  prepares_step part parts floor (Reply other) e es asked sent h more = absurd (cc sent.1.1)

  prepares_found : (parts : List ℕ) (floor : ℕ) (es : List LogEntry) → Leads r (prepares_at t seen parts floor) es Over → Prepared parts floor es ⊎ Loses parts es
  prepares_found [] floor es h = inl (record { prepares = []; floors = []; rest = es; entries = refl; are = tt; leads = h })
  prepares_found (part ∷ parts) floor [] h = absurd (cc h)
  prepares_found (part ∷ parts) floor (e ∷ es) h =
      let asked = (does_asked part (asking t.ordinal Prepare) e h.0).0 in
      prepares_step part parts floor (answer_of e) e es asked (asked_sent part (asking t.ordinal Prepare) (answer_of e) e asked) h.1 (λ f g. prepares_found parts f es g)

  -- the draw, and what leads on behind it
  record Drawn (floor : ℕ) (es : List LogEntry) : Type 0 where
    stamp : ℕ
    rest : List LogEntry
    entries : es ≡ Drew (record { session = r.number; ordinal = t.ordinal }) floor (Stamp stamp) ∷ rest
    leads : Leads r (closes_at t seen (EndCommit stamp) (in_order r seen) false (next r t)) rest Over

  drawn_found : (floor : ℕ) (es : List LogEntry) → Leads r (At t seen (Stamps floor)) es Over → Drawn floor es
  drawn_found floor [] h = absurd (cc h)
  drawn_found floor (Asked p s q l a ∷ es) h = absurd h.0
  drawn_found floor (Drew name f (Stamp stamp) ∷ es) h = record {
    stamp = stamp;
    rest = es;
    entries = ap (λ x. Drew x f (Stamp stamp) ∷ es) h.0.0 ∙ ap (λ x. Drew (record { session = r.number; ordinal = t.ordinal }) x (Stamp stamp) ∷ es) h.0.1;
    leads = h.1;
  }
  drawn_found floor (Drew name f other ∷ es) h = absurd h.0

  abbrev pub attempt : List (List LogEntry) → List LogEntry → Outcome → Attempt
  attempt parts ending outcome = record { work = t.work; ordinal = t.ordinal; parts = parts; ending = ending; outcome = outcome }

  pub record Ending (parts : List (List LogEntry)) (end : Option Abort) (commit : Bool) (es : List LogEntry) : Type 0 where
    pub ending : List LogEntry
    pub outcome : Outcome
    pub rest : List LogEntry
    pub entries : es ≡ ending ++ rest
    pub is : IsEnding r (attempt parts ending outcome) end commit
    pub leads : Leads r (behind r t (is_lock_end outcome)) rest Over

  abbrev pub from : Option Abort → Bool → Place
  from None commit = closing r t seen commit (next r t)
  from (Some abort) commit = undone r t seen (is_lock abort)

  module _ (parts : List (List LogEntry)) (ordered : in_order r seen ≡ touched r (attempt parts [] RolledBack)) where
    abbrev these : List ℕ
    these = touched r (attempt parts [] RolledBack)

    ends_there : (ask : Ask) (ends : List LogEntry) → AreEnds t.ordinal ask (in_order r seen) ends → AreEnds t.ordinal ask these ends
    ends_there ask ends h = subst (λ ps. AreEnds t.ordinal ask ps ends) ordered h

    commits_found : (es : List LogEntry) → Prepared (in_order r seen) 0 es → Ending parts None true es
    commits_found es p =
        let d = drawn_found (greatest_of p.floors) p.rest p.leads in
        let e = ends_found (EndCommit d.stamp) (in_order r seen) false d.rest refl (λ x. refl) d.leads in
        let drew = Drew (record { session = r.number; ordinal = t.ordinal }) (greatest_of p.floors) (Stamp d.stamp) in
        let are = subst (λ ps. ArePrepares t.ordinal ps p.prepares p.floors) ordered p.are in
        record {
          ending = p.prepares ++ drew ∷ e.ends;
          outcome = Committed d.stamp;
          rest = e.rest;
          entries = p.entries ∙ ap (λ x. p.prepares ++ x) (d.entries ∙ ap (λ x. drew ∷ x) e.entries) ∙ sym (append_assoc p.prepares (drew ∷ e.ends) e.rest);
          is = inl (record {
            floors = p.floors;
            stamp = d.stamp;
            prepares = p.prepares;
            ends = e.ends;
            ending_is = refl;
            prepared = are;
            ended = ends_there (EndCommit d.stamp) e.ends e.are;
            outcome_is = refl;
          });
          leads = e.leads;
        }

    loses_found : (es : List LogEntry) → Loses (in_order r seen) es → Ending parts None true es
    loses_found es p =
        let e = ends_found EndUndo (in_order r seen) false p.rest refl (λ x. refl) p.leads in
        record {
          ending = p.prepares ++ p.lost ∷ e.ends;
          outcome = Aborted PathLost;
          rest = e.rest;
          entries = p.entries ∙ ap (λ x. p.prepares ++ p.lost ∷ x) e.entries ∙ sym (append_assoc p.prepares (p.lost ∷ e.ends) e.rest);
          is = inr (record {
            front = p.front;
            part = p.part;
            back = p.back;
            floors = p.floors;
            prepares = p.prepares;
            lost = p.lost;
            ends = e.ends;
            touched_is = sym ordered ∙ p.are_parts;
            ending_is = refl;
            prepared = p.are;
            lost_is = p.loses;
            undone = ends_there EndUndo e.ends e.are;
            outcome_is = refl;
          });
          leads = e.leads;
        }

    pub ending_found : (end : Option Abort) (commit : Bool) (es : List LogEntry) → Leads r (from end commit) es Over → Ending parts end commit es
    ending_found (Some abort) commit es h =
        let e = ends_found EndUndo (in_order r seen) (is_lock abort) es refl (λ x. refl) h in
        record { ending = e.ends; outcome = Aborted abort; rest = e.rest; entries = e.entries; is = (ends_there EndUndo e.ends e.are, refl); leads = e.leads }
    ending_found None false es h =
        let e = ends_found EndUndo (in_order r seen) false es refl (λ x. refl) h in
        record { ending = e.ends; outcome = RolledBack; rest = e.rest; entries = e.entries; is = (ends_there EndUndo e.ends e.are, refl); leads = e.leads }
    ending_found None true es h = elim (prepares_found (in_order r seen) 0 es h) [ inl p ↦ commits_found es p | inr p ↦ loses_found es p ]
