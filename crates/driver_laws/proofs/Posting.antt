-- A message that a session posted stays one of its log or of what it has under way.
use Rattle.std.proofs.Common.{◌≡◌, ◌≢◌, ◌<◌, ℕ, zero, suc, List, [], ◌∷◌, ◌++◌, length, get_or, map, refl, ap, sym, ◌∙◌, subst, inl, inr, arith}
use Rattle.std.proofs.lemmas.Bool.{cases_eq}
use Rattle.std.proofs.lemmas.List.Elements.{Contains-append_cases, Contains-append_left, Contains-append_right}
use Rattle.std.specs.Prelude.{Contains}
use Rattle.sql_base.specs.Scripts.{Lies}
use Rattle.sql_base.specs.declared.lock_names.TxnName.{TxnName}
use Rattle.sql_base.specs.declared.scripts.Script.{Script}
use Rattle.dp_messages.specs.declared.requests.Request.{Request}
use Rattle.session_grammar.specs.declared.logs.Answer.{Answer}
use Rattle.session_grammar.specs.declared.logs.Answer.TheVariants.{Stamp}
use Rattle.session_grammar.specs.declared.logs.LogEntry.{LogEntry}
use Rattle.session_grammar.specs.declared.logs.LogEntry.TheVariants.{Asked, Drew}
use Rattle.run_record.specs.Openings.{log_of}
use Rattle.run_record.specs.declared.records.RunRecord.{RunRecord}
use Rattle.record_laws.specs.SoFar.{LegalSoFar, way_of}
use Rattle.record_laws.proofs.Completing.{open_entry}
use Rattle.driver_laws.specs.Moves.{HasAsked, IsPosted, next_drawn, with_drawn, with_log, with_way}
use Rattle.session_grammar.specs.UnderWay.{AreAbove, Sending, Awaiting, Drawing, UnderWay, unanswered, IsOpen, IsPutIn, TakesStamp, TakesAnswer}
use Rattle.driver_laws.proofs.Openings.{open_for, the_open}
use Rattle.driver_laws.proofs.Seats.{one_other, one_same}

of_open : (sends : List Sending) (z : LogEntry) (k : ℕ) → k < length (map open_entry sends) → get_or (map open_entry sends) k z ≡ z → (x : Sending) × Contains sends x × (open_entry x ≡ z)
of_open [] z k lt is = absurd (omega (arith, lt))
of_open (s ∷ sends) z zero lt is = (s, (zero, omega arith, refl), is)
of_open (s ∷ sends) z (suc k) lt is = let r = of_open sends z k (omega (arith, lt)) is in (r.0, (suc r.1.0, omega (arith, r.1.1), r.1.2), r.2)

to_open : (sends : List Sending) (x : Sending) (k : ℕ) → k < length sends → get_or sends k x ≡ x → Contains (map open_entry sends) (open_entry x)
to_open [] x k lt is = absurd (omega (arith, lt))
to_open (s ∷ sends) x zero lt is = (zero, omega arith, ap open_entry is)
to_open (s ∷ sends) x (suc k) lt is = let r = to_open sends x k (omega (arith, lt)) is in (suc r.0, omega (arith, r.1), r.2)

pub open_asked : (way : UnderWay) (x : Sending) → IsOpen way x → Contains (unanswered way) (open_entry x)
open_asked (Awaiting sends) x h = to_open sends x h.0 h.1 h.2
open_asked (Drawing name floor) x h = absurd h

put_front : (front back : List LogEntry) (entry z : LogEntry) → Contains (front ++ back) z → Contains (front ++ entry ∷ back) z
put_front front back entry z h =
    elim (Contains-append_cases front back z h) [
      | inl a ↦ Contains-append_left front (entry ∷ back) z a
      | inr b ↦ Contains-append_right front (entry ∷ back) z (suc b.0, omega (arith, b.1), b.2)
    ]

module _ (part sync : ℕ) (request : Request) where
  -- a request under way is answered
  pub asks_taken : (log after : List LogEntry) (sends : List Sending) (way : UnderWay) (s : Sending) (losses : ℕ) (answer : Answer) → Contains sends s → AreAbove log (Awaiting sends)
      → IsPutIn s.part (Asked s.part s.sync s.request losses answer) log after → ((other : Sending) → Contains sends other → other.part ≢ s.part → IsOpen way other)
      → HasAsked log (Awaiting sends) part sync request → HasAsked after way part sync request
  asks_taken log after sends way s losses answer is_in above put stay h =
      elim (Contains-append_cases log (map open_entry sends) (Asked part sync request h.0 h.1) h.2) [
        | inl old ↦ (h.0, h.1, Contains-append_left after (unanswered way) (Asked part sync request h.0 h.1) (from_log (Asked part sync request h.0 h.1) old))
        | inr new ↦ from_open (of_open sends (Asked part sync request h.0 h.1) new.0 new.1 new.2)
      ]
    where
      entry : LogEntry
      entry = Asked s.part s.sync s.request losses answer

      from_log : (z : LogEntry) → Contains log z → Contains after z
      from_log z c = subst (λ (es : List LogEntry). Contains es z) (sym put.3) (put_front put.0 put.1 (Asked s.part s.sync s.request losses answer) z (subst (λ (es : List LogEntry). Contains es z) put.2 c))

      its : Contains after (Asked s.part s.sync s.request losses answer)
      its = subst (λ (es : List LogEntry). Contains es (Asked s.part s.sync s.request losses answer)) (sym put.3) (Contains-append_right put.0 (Asked s.part s.sync s.request losses answer ∷ put.1) (Asked s.part s.sync s.request losses answer) (zero, omega arith, refl))

      from_open : (x : Sending) × Contains sends x × (open_entry x ≡ Asked part sync request h.0 h.1) → HasAsked after way part sync request
      from_open o = elim (cases_eq o.0.part s.part) [ inl same ↦ of_it same | inr differ ↦ of_other differ ]
        where
          of_it : o.0.part ≡ s.part → HasAsked after way part sync request
          of_it same =
              let own = the_open log (Awaiting sends) s above is_in in
              let other = the_open log (Awaiting sends) o.0 above o.1 in
              let both : open_entry s ∷ [] ≡ open_entry o.0 ∷ [] = sym own ∙ ap (λ n. open_for n (Awaiting sends)) (sym same) ∙ other in
              let z : open_entry s ≡ Asked part sync request h.0 h.1 = cc (both, o.2) in
              let parts : s.part ≡ part = cc z in
              let syncs : s.sync ≡ sync = cc z in
              let requests : s.request ≡ request = cc z in
              let here : Asked s.part s.sync s.request losses answer ≡ Asked part sync request losses answer = cc (parts, syncs, requests) in
              (losses, answer, Contains-append_left after (unanswered way) (Asked part sync request losses answer) (subst (Contains after) here its))

          of_other : o.0.part ≢ s.part → HasAsked after way part sync request
          of_other differ =
              (h.0, h.1, Contains-append_right after (unanswered way) (Asked part sync request h.0 h.1) (subst (Contains (unanswered way)) o.2 (open_asked way o.0 (stay o.0 o.1 differ))))

  -- a commit is drawn
  pub asks_drawn : (log after : List LogEntry) (way : UnderWay) (name : TxnName) (floor stamp : ℕ) → after ≡ log ++ Drew name floor (Stamp stamp) ∷ [] → HasAsked log (Drawing name floor) part sync request → HasAsked after way part sync request
  asks_drawn log after way name floor stamp is h =
      let it = Asked part sync request h.0 h.1 in
      let old : Contains log it = elim (Contains-append_cases log [] it h.2) [ inl a ↦ a | inr b ↦ absurd (omega (arith, b.1)) ] in
      (h.0, h.1, Contains-append_left after (unanswered way) it (subst (λ (es : List LogEntry). Contains es it) (sym is) (Contains-append_left log (Drew name floor (Stamp stamp) ∷ []) it old)))

module _ (script : Script) (kept : RunRecord) (ways : List UnderWay) (legal : LegalSoFar script kept ways) (many : length ways ≡ length script.sessions)
    (session : ℕ) (lies : Lies 1 (length script.sessions) session) (log : List LogEntry) (way : UnderWay) (n part sync : ℕ) (request : Request) (lies_too : Lies 1 (length script.sessions) n) where
  -- where the session's own stay, all do
  posted_still : (HasAsked (log_of kept session) (way_of ways session) part sync request → HasAsked log way part sync request) → IsPosted kept ways n part sync request → IsPosted (with_log kept session log) (with_way ways session way) n part sync request
  posted_still own h = elim (cases_eq n session) [ inl same ↦ at_own same | inr differ ↦ elsewhere differ ]
    where
      at_own : n ≡ session → HasAsked (log_of (with_log kept session log) n) (way_of (with_way ways session way) n) part sync request
      at_own same =
          let now = own (subst (λ m. HasAsked (log_of kept m) (way_of ways m) part sync request) same h) in
          subst (λ m. HasAsked (log_of (with_log kept session log) m) (way_of (with_way ways session way) m) part sync request) (sym same)
          (subst (λ (w : UnderWay). HasAsked (log_of (with_log kept session log) session) w part sync request) (sym (one_same (Awaiting []) session (length script.sessions) ways way lies many))
          (subst (λ (es : List LogEntry). HasAsked es way part sync request) (sym (one_same [] session (length script.sessions) kept.logs log lies legal.logs_begin.logs)) now))

      elsewhere : n ≢ session → HasAsked (log_of (with_log kept session log) n) (way_of (with_way ways session way) n) part sync request
      elsewhere differ =
          subst (λ (w : UnderWay). HasAsked (log_of (with_log kept session log) n) w part sync request) (sym (one_other (Awaiting []) session n (length script.sessions) ways way lies lies_too differ))
          (subst (λ (es : List LogEntry). HasAsked es (way_of ways n) part sync request) (sym (one_other [] session n (length script.sessions) kept.logs log lies lies_too differ)) h)

  pub posted_taken : (sends : List Sending) (s : Sending) (losses : ℕ) (answer : Answer) → way_of ways session ≡ Awaiting sends → Contains sends s → TakesAnswer script session (log_of kept session) sends s losses answer log way
      → IsPosted kept ways n part sync request → IsPosted (with_log kept session log) (with_way ways session way) n part sync request
  posted_taken sends s losses answer is is_in takes =
      posted_still (λ h. asks_taken part sync request (log_of kept session) log sends way s losses answer is_in (subst (AreAbove (log_of kept session)) is (legal.logs_begin.each session lies).0) takes.put_in takes.stay
      (subst (λ (w : UnderWay). HasAsked (log_of kept session) w part sync request) is h))

  pub posted_drawn : (name : TxnName) (floor : ℕ) → way_of ways session ≡ Drawing name floor → TakesStamp script session (log_of kept session) (next_drawn kept name floor) log way
      → IsPosted kept ways n part sync request → IsPosted (with_drawn (with_log kept session log) (next_drawn kept name floor)) (with_way ways session way) n part sync request
  posted_drawn name floor is stamps = posted_still (λ h. asks_drawn part sync request (log_of kept session) log way name floor (next_drawn kept name floor).stamp stamps.put_in (subst (λ (w : UnderWay). HasAsked (log_of kept session) w part sync request) is h))
