-- What each kind of act adds: the logs, the journal and the histories go on as the act says.
use Rattle.std.proofs.Common.{◌≡◌, ◌≢◌, ◌<◌, ◌-◌, ℕ, List, [], ◌∷◌, ◌++◌, length, map, replicate, None, Bool, true, false, cond, refl, ap, sym, ◌∙◌, subst, inl, inr, arith}
use Rattle.std.proofs.lemmas.Bool.{cases_eq, eq-eqb, eqb-true, ne_eqb}
use Rattle.std.proofs.lemmas.Bool.Decides.{nat_tests}
use Rattle.std.proofs.lemmas.List.{append-nil, append_assoc}
use Rattle.std.specs.Prelude.{filter_map, nat_le, nat_lt, ◌==◌}
use Rattle.std.specs.List.{AllByRecursion, list_any}
use Rattle.sql_base.specs.Scripts.{Lies}
use Rattle.commit_journal.specs.declared.Drawn.{Drawn}
use Rattle.outside.specs.declared.wire.Passage.{Passage}
use Rattle.dp_messages.specs.declared.replies.Reply.{Reply as PartitionReply}
use Rattle.dp_messages.specs.declared.requests.Request.{Request}
use Rattle.partition_state.specs.declared.entries.Entry.{Entry}
use Rattle.session_grammar.specs.declared.logs.Answer.{Answer}
use Rattle.session_grammar.specs.declared.logs.Answer.TheVariants.{Reply, PathFailed}
use Rattle.session_grammar.specs.declared.logs.LogEntry.{LogEntry}
use Rattle.session_grammar.specs.declared.logs.LogEntry.TheVariants.{Asked, Drew}
use Rattle.run_record.specs.Openings.{history_of, log_of}
use Rattle.run_record.specs.declared.records.Act.{Act}
use Rattle.run_record.specs.declared.records.Act.TheVariants.{Send, Take, ByHand, Draw, Serve}
use Rattle.run_record.specs.declared.records.RunRecord.{RunRecord}
use Rattle.outside.specs.Wire.{is_loss}
use Rattle.driver_laws.specs.Moves.{with_acts, with_drawn, with_entry, with_log}
use Rattle.driver_laws.proofs.Seats.{one_other, one_same, seat_other, seat_same}
use Rattle.driver_laws.specs.Scheduling.{Adds, OfSession, Posted, Step, Lost, Sent, Took, Served, Drawn as DrewIt, actor_of, answer_steps, drawer_of, is_act_of, is_by, is_old, newly, posted_of, seen_more, steps_by, steps_of}
use Rattle.sql_base.proofs.ListFacts.{length-set}

steps_append : (xs ys : List LogEntry) → steps_of (xs ++ ys) ≡ steps_of xs ++ steps_of ys
steps_append [] ys = refl
steps_append (Asked part sync request losses answer ∷ xs) ys =
    let here = replicate losses (Lost part sync) ++ answer_steps part sync losses answer in
    ap (λ (ss : List Step). here ++ ss) (steps_append xs ys) ∙ sym (append_assoc here (steps_of xs) (steps_of ys))
steps_append (Drew name floor answer ∷ xs) ys = ap (λ (ss : List Step). DrewIt ∷ ss) (steps_append xs ys)

-- what an act adds to its session's steps, and to those of others
pub steps_of_send : (n part sync : ℕ) (passage : Passage) → steps_by n (Send n part sync passage ∷ []) ≡ (cond (is_loss passage) (Lost part sync) (Sent part sync)) ∷ []
steps_of_send n part sync passage = rw (eq-eqb n n refl) refl

pub steps_of_take : (n : ℕ) → steps_by n (Take n ∷ []) ≡ Took ∷ []
steps_of_take n = rw (eq-eqb n n refl) refl

pub steps_of_hand : (n part sync : ℕ) → steps_by n (ByHand n part sync ∷ []) ≡ Served part sync ∷ []
steps_of_hand n part sync = rw (eq-eqb n n refl) refl

pub steps_of_draw : (n : ℕ) → steps_by n (Draw n ∷ []) ≡ DrewIt ∷ []
steps_of_draw n = rw (eq-eqb n n refl) refl

pub no_steps : (n : ℕ) (act : Act) → is_by n act ≡ false → steps_by n (act ∷ []) ≡ []
no_steps n act e = rw e refl

-- the steps of one session, where it sends, takes a reply, gives its path up, serves by hand, or draws
module _ (log : List LogEntry) (tail : List Step) (part sync : ℕ) (request : Request) where
  pub sent_steps : (step : Step) → (steps_of log ++ tail) ++ step ∷ [] ≡ steps_of log ++ (tail ++ step ∷ [])
  sent_steps step = append_assoc (steps_of log) tail (step ∷ [])

  one_more : (entry : LogEntry) (step : Step) → tail ++ step ∷ [] ≡ steps_of (entry ∷ []) → (steps_of log ++ tail) ++ step ∷ [] ≡ steps_of (log ++ entry ∷ []) ++ []
  one_more entry step is =
      append_assoc (steps_of log) tail (step ∷ []) ∙ ap (λ (ss : List Step). steps_of log ++ ss) is ∙ sym (steps_append log (entry ∷ [])) ∙ sym (append-nil (steps_of (log ++ entry ∷ [])))

  pub taken_steps : (losses : ℕ) (r : PartitionReply) → nat_lt losses 4 ≡ true → tail ≡ replicate losses (Lost part sync) ++ Sent part sync ∷ []
      → (steps_of log ++ tail) ++ Took ∷ [] ≡ steps_of (log ++ Asked part sync request losses (Reply r) ∷ []) ++ []
  taken_steps losses r few is = one_more (Asked part sync request losses (Reply r)) Took (ap (λ (ss : List Step). ss ++ Took ∷ []) is ∙ append_assoc (replicate losses (Lost part sync)) (Sent part sync ∷ []) (Took ∷ []) ∙ rw few (sym (append-nil (replicate losses (Lost part sync) ++ Sent part sync ∷ Took ∷ []))))

  pub failed_steps : tail ≡ replicate 3 (Lost part sync) → (steps_of log ++ tail) ++ Lost part sync ∷ [] ≡ steps_of (log ++ Asked part sync request 4 PathFailed ∷ []) ++ []
  failed_steps is = one_more (Asked part sync request 4 PathFailed) (Lost part sync) (ap (λ (ss : List Step). ss ++ Lost part sync ∷ []) is)

  pub hand_steps : (r : PartitionReply) → tail ≡ replicate 4 (Lost part sync) → (steps_of log ++ tail) ++ Served part sync ∷ [] ≡ steps_of (log ++ Asked part sync request 4 (Reply r) ∷ []) ++ []
  hand_steps r is = one_more (Asked part sync request 4 (Reply r)) (Served part sync) (ap (λ (ss : List Step). ss ++ Served part sync ∷ []) is)

-- a draw, where nothing else is under way
pub drawn_steps : (log : List LogEntry) (d : Drawn) (answer : Answer) → (steps_of log ++ []) ++ DrewIt ∷ [] ≡ steps_of (log ++ Drew d.name d.floor answer ∷ []) ++ []
drawn_steps log d answer = ap (λ (ss : List Step). ss ++ DrewIt ∷ []) (append-nil (steps_of log)) ∙ sym (steps_append log (Drew d.name d.floor answer ∷ [])) ∙ sym (append-nil (steps_of (log ++ Drew d.name d.floor answer ∷ [])))

-- one session's act leaves the steps of others
pub all_steps : (sessions : ℕ) (kept after : RunRecord) (tails now : ℕ → List Step) (act : Act) (session : ℕ) → actor_of act ≡ OfSession session
    → (steps_of (log_of kept session) ++ tails session) ++ steps_by session (act ∷ []) ≡ steps_of (log_of after session) ++ now session
    → ((n : ℕ) → Lies 1 sessions n → n ≢ session → steps_of (log_of after n) ++ now n ≡ steps_of (log_of kept n) ++ tails n)
    → (n : ℕ) → Lies 1 sessions n → (steps_of (log_of kept n) ++ tails n) ++ steps_by n (act ∷ []) ≡ steps_of (log_of after n) ++ now n
all_steps sessions kept after tails now act session is own others n lies = elim (cases_eq n session) [ inl same ↦ at_own same | inr differ ↦ elsewhere differ ]
  where
    at_own : n ≡ session → (steps_of (log_of kept n) ++ tails n) ++ steps_by n (act ∷ []) ≡ steps_of (log_of after n) ++ now n
    at_own same = subst (λ m. (steps_of (log_of kept m) ++ tails m) ++ steps_by m (act ∷ []) ≡ steps_of (log_of after m) ++ now m) (sym same) own

    elsewhere : n ≢ session → (steps_of (log_of kept n) ++ tails n) ++ steps_by n (act ∷ []) ≡ steps_of (log_of after n) ++ now n
    elsewhere differ =
        let not_its : is_by n act ≡ false = ap (is_act_of n) is ∙ ne_eqb session n (λ e. differ (sym e)) in
        ap (λ (ss : List Step). (steps_of (log_of kept n) ++ tails n) ++ ss) (no_steps n act not_its) ∙ append-nil (steps_of (log_of kept n) ++ tails n) ∙ sym (others n lies differ)

-- a message with a sync above all those of its opener is served as new; one that isn't, adds nothing
module _ (history : List Entry) (opener sync : ℕ) where
  abbrev it : Posted
  it = record { opener = opener; sync = sync }

  none_old : (es : List Entry) → AllByRecursion (λ f. f.opener ≡ opener → f.sync < sync) es → list_any (is_old it) (map posted_of es) ≡ false
  none_old [] h = refl
  none_old (e ∷ es) h = by_opener (e.opener == opener) refl (none_old es h.1)
    where
      later : e.sync < sync → nat_le sync e.sync ≡ false
      later lt = grind (arith, nat_tests)

      by_opener : (b : Bool) → (e.opener == opener) ≡ b → list_any (is_old it) (map posted_of es) ≡ false → list_any (is_old it) (map posted_of (e ∷ es)) ≡ false
      by_opener true t rest = rw (t, later (h.0 (eqb-true e.opener opener t))) rest
      by_opener false t rest = rw t rest

  pub new_news : (e : Entry) → e.opener ≡ opener → e.sync ≡ sync → AllByRecursion (λ f. f.opener ≡ opener → f.sync < sync) history → seen_more (map posted_of history) it ≡ map posted_of (history ++ e ∷ [])
  new_news e own same h = rw (none_old history h) (ap (λ (m : Posted). map posted_of history ++ m ∷ []) (cc (own, same)) ∙ sym (push history))
    where
      push : (es : List Entry) → map posted_of (es ++ e ∷ []) ≡ map posted_of es ++ posted_of e ∷ []
      push [] = refl
      push (x ∷ es) = ap (λ (ms : List Posted). posted_of x ∷ ms) (push es)

  pub old_news : list_any (is_old it) (map posted_of history) ≡ true → seen_more (map posted_of history) it ≡ map posted_of history
  old_news h = rw h refl

-- in a record, where the partition has one entry more, and where it hasn't
module _ (kept : RunRecord) (part opener sync : ℕ) (within : part < length kept.histories) where
  abbrev message : Posted
  message = record { opener = opener; sync = sync }

  abbrev now_at : ℕ → List Posted
  now_at q = cond (part == q) (seen_more (map posted_of (history_of kept q)) message) (map posted_of (history_of kept q))

  pub entry_news : (e : Entry) → e.opener ≡ opener → e.sync ≡ sync → AllByRecursion (λ f. f.opener ≡ opener → f.sync < sync) (history_of kept part) → (q : ℕ) → now_at q ≡ map posted_of (history_of (with_entry kept part e) q)
  entry_news e own same h q = elim (cases_eq part q) [ inl here ↦ subst (λ n. now_at n ≡ map posted_of (history_of (with_entry kept part e) n)) here at_own | inr differ ↦ elsewhere differ ]
    where
      at_own : now_at part ≡ map posted_of (history_of (with_entry kept part e) part)
      at_own = rw (eq-eqb part part refl) (new_news (history_of kept part) opener sync e own same h ∙ ap (λ (es : List Entry). map posted_of es) (sym (seat_same [] kept.histories part (history_of kept part ++ e ∷ []) within)))

      elsewhere : part ≢ q → now_at q ≡ map posted_of (history_of (with_entry kept part e) q)
      elsewhere differ = rw (ne_eqb part q differ) (ap (λ (es : List Entry). map posted_of es) (sym (seat_other [] kept.histories part q (history_of kept part ++ e ∷ []) (λ same. differ (sym same)))))

  pub no_news : list_any (is_old message) (map posted_of (history_of kept part)) ≡ true → (q : ℕ) → now_at q ≡ map posted_of (history_of kept q)
  no_news old q = elim (cases_eq part q) [ inl here ↦ subst (λ n. now_at n ≡ map posted_of (history_of kept n)) here at_own | inr differ ↦ rw (ne_eqb part q differ) refl ]
    where
      at_own : now_at part ≡ map posted_of (history_of kept part)
      at_own = rw (eq-eqb part part refl) (old_news (history_of kept part) opener sync old)

-- each kind of act
module _ (kept : RunRecord) (tails now : ℕ → List Step) where
  abbrev names : List ℕ
  names = map (λ (d : Drawn). d.name.session) kept.journal

  abbrev OthersStay : ℕ → Type 0
  OthersStay session = (n : ℕ) → n ≢ session → now n ≡ tails n

  -- a message of a session is given to its wire
  pub adds_send : (session part sync : ℕ) (passage : Passage) → now session ≡ tails session ++ cond (is_loss passage) (Lost part sync) (Sent part sync) ∷ [] → OthersStay session
      → Adds tails now kept (with_acts kept (kept.acts ++ Send session part sync passage ∷ [])) (Send session part sync passage)
  adds_send session part sync passage is others =
      record {
        acts = refl;
        sessions = refl;
        parts = refl;
        logs = all_steps (length kept.logs) kept kept tails now (Send session part sync passage) session refl
            (ap (λ (ss : List Step). (steps_of (log_of kept session) ++ tails session) ++ ss) (steps_of_send session part sync passage)
            ∙ append_assoc (steps_of (log_of kept session)) (tails session) (cond (is_loss passage) (Lost part sync) (Sent part sync) ∷ []) ∙ ap (λ (ss : List Step). steps_of (log_of kept session) ++ ss) (sym is))
            (λ n lies differ. ap (λ (ss : List Step). steps_of (log_of kept n) ++ ss) (others n differ));
        draws = append-nil names;
        news = λ q in_it. refl;
      }

  -- a partition serves a message: nobody's log goes on
  pub adds_serve_new : (part : ℕ) → part < length kept.histories → (e : Entry) → AllByRecursion (λ f. f.opener ≡ e.opener → f.sync < e.sync) (history_of kept part) → ((n : ℕ) → now n ≡ tails n)
      → Adds tails now kept (with_acts (with_entry kept part e) (kept.acts ++ Serve part e.opener e.sync ∷ [])) (Serve part e.opener e.sync)
  adds_serve_new part within e h same =
      record {
        acts = refl;
        sessions = refl;
        parts = length-set kept.histories part (history_of kept part ++ e ∷ []);
        logs = λ n lies. append-nil (steps_of (log_of kept n) ++ tails n) ∙ ap (λ (ss : List Step). steps_of (log_of kept n) ++ ss) (sym (same n));
        draws = append-nil names;
        news = λ q in_it. entry_news kept part e.opener e.sync within e refl refl h q;
      }

  pub adds_serve_old : (part opener sync : ℕ) → part < length kept.histories → list_any (is_old (record { opener = opener; sync = sync })) (map posted_of (history_of kept part)) ≡ true → ((n : ℕ) → now n ≡ tails n)
      → Adds tails now kept (with_acts kept (kept.acts ++ Serve part opener sync ∷ [])) (Serve part opener sync)
  adds_serve_old part opener sync within old same =
      record {
        acts = refl;
        sessions = refl;
        parts = refl;
        logs = λ n lies. append-nil (steps_of (log_of kept n) ++ tails n) ∙ ap (λ (ss : List Step). steps_of (log_of kept n) ++ ss) (sym (same n));
        draws = append-nil names;
        news = λ q in_it. no_news kept part opener sync within old q;
      }

  -- the log of a session goes on by one entry, and nothing is under way there
  module _ (session : ℕ) (lies : Lies 1 (length kept.logs) session) (entry : LogEntry) (act : Act) (step : Step) (is : actor_of act ≡ OfSession session) (own : steps_by session (act ∷ []) ≡ step ∷ [])
      (goes_on : (steps_of (log_of kept session) ++ tails session) ++ step ∷ [] ≡ steps_of (log_of kept session ++ entry ∷ []) ++ []) (none : now session ≡ []) (others : OthersStay session) where
    abbrev log : List LogEntry
    log = log_of kept session ++ entry ∷ []

    logs_now : (n : ℕ) → Lies 1 (length kept.logs) n → (steps_of (log_of kept n) ++ tails n) ++ steps_by n (act ∷ []) ≡ steps_of (log_of (with_log kept session log) n) ++ now n
    logs_now =
        all_steps (length kept.logs) kept (with_log kept session log) tails now act session is
        (ap (λ (ss : List Step). (steps_of (log_of kept session) ++ tails session) ++ ss) own ∙ goes_on
        ∙ cc (none, one_same [] session (length kept.logs) kept.logs log lies refl))
        (λ n ls differ. cc (others n differ, one_other [] session n (length kept.logs) kept.logs log lies ls differ))

    pub adds_own : drawer_of act ≡ None → ((q : ℕ) (seen : List Posted) → newly q seen act ≡ seen) → Adds tails now kept (with_acts (with_log kept session log) (kept.acts ++ act ∷ [])) act
    adds_own no_draw no_mail =
        record {
          acts = refl;
          sessions = length-set kept.logs (session - 1) log;
          parts = refl;
          logs = logs_now;
          draws = none_drawn no_draw;
          news = λ q in_it. no_mail q (map posted_of (history_of kept q));
        }
      where
        none_drawn : drawer_of act ≡ None → names ++ filter_map drawer_of (act ∷ []) ≡ names
        none_drawn e = rw e (append-nil names)

  -- it takes the reply
  pub adds_take : (session : ℕ) → Lies 1 (length kept.logs) session → (part sync : ℕ) (request : Request) (losses : ℕ) (r : PartitionReply) → nat_lt losses 4 ≡ true → tails session ≡ replicate losses (Lost part sync) ++ Sent part sync ∷ []
      → now session ≡ [] → OthersStay session
      → Adds tails now kept (with_acts (with_log kept session (log_of kept session ++ Asked part sync request losses (Reply r) ∷ [])) (kept.acts ++ Take session ∷ [])) (Take session)
  adds_take session lies part sync request losses r few is none others =
      adds_own session lies (Asked part sync request losses (Reply r)) (Take session) Took refl (steps_of_take session) (taken_steps (log_of kept session) (tails session) part sync request losses r few is) none others refl (λ q seen. refl)

  -- its path fails with this sending
  pub adds_failed : (session : ℕ) → Lies 1 (length kept.logs) session → (part sync : ℕ) (request : Request) (passage : Passage) → is_loss passage ≡ true → tails session ≡ replicate 3 (Lost part sync) → now session ≡ [] → OthersStay session
      → Adds tails now kept (with_acts (with_log kept session (log_of kept session ++ Asked part sync request 4 PathFailed ∷ [])) (kept.acts ++ Send session part sync passage ∷ [])) (Send session part sync passage)
  adds_failed session lies part sync request passage lost is none others =
      adds_own session lies (Asked part sync request 4 PathFailed) (Send session part sync passage) (Lost part sync) refl
      (steps_of_send session part sync passage ∙ ap (λ (b : Bool). cond b (Lost part sync) (Sent part sync) ∷ []) lost) (failed_steps (log_of kept session) (tails session) part sync request is) none others refl (λ q seen. refl)

  -- it serves an End by hand, which was served already
  pub adds_hand_old : (session : ℕ) → Lies 1 (length kept.logs) session → (part sync : ℕ) (request : Request) (r : PartitionReply) → part < length kept.histories
      → list_any (is_old (record { opener = session; sync = sync })) (map posted_of (history_of kept part)) ≡ true → tails session ≡ replicate 4 (Lost part sync) → now session ≡ [] → OthersStay session
      → Adds tails now kept (with_acts (with_log kept session (log_of kept session ++ Asked part sync request 4 (Reply r) ∷ [])) (kept.acts ++ ByHand session part sync ∷ [])) (ByHand session part sync)
  adds_hand_old session lies part sync request r within old is none others =
      record {
        acts = refl;
        sessions = length-set kept.logs (session - 1) (log_of kept session ++ Asked part sync request 4 (Reply r) ∷ []);
        parts = refl;
        logs = logs_now session lies (Asked part sync request 4 (Reply r)) (ByHand session part sync) (Served part sync) refl (steps_of_hand session part sync) (hand_steps (log_of kept session) (tails session) part sync request r is) none others;
        draws = append-nil names;
        news = λ q in_it. no_news kept part session sync within old q;
      }

  -- and one that wasn't
  pub adds_hand_new : (e : Entry) → Lies 1 (length kept.logs) e.opener → (part : ℕ) (request : Request) (r : PartitionReply) → part < length kept.histories
      → AllByRecursion (λ f. f.opener ≡ e.opener → f.sync < e.sync) (history_of kept part) → tails e.opener ≡ replicate 4 (Lost part e.sync) → now e.opener ≡ [] → OthersStay e.opener
      → Adds tails now kept (with_acts (with_log (with_entry kept part e) e.opener (log_of kept e.opener ++ Asked part e.sync request 4 (Reply r) ∷ [])) (kept.acts ++ ByHand e.opener part e.sync ∷ [])) (ByHand e.opener part e.sync)
  adds_hand_new e lies part request r within h is none others =
      record {
        acts = refl;
        sessions = length-set kept.logs (e.opener - 1) (log_of kept e.opener ++ Asked part e.sync request 4 (Reply r) ∷ []);
        parts = length-set kept.histories part (history_of kept part ++ e ∷ []);
        logs = logs_now e.opener lies (Asked part e.sync request 4 (Reply r)) (ByHand e.opener part e.sync) (Served part e.sync) refl (steps_of_hand e.opener part e.sync)
            (hand_steps (log_of kept e.opener) (tails e.opener) part e.sync request r is) none others;
        draws = append-nil names;
        news = λ q in_it. entry_news kept part e.opener e.sync within e refl refl h q;
      }

  -- it draws its commit
  pub adds_draw : (d : Drawn) → Lies 1 (length kept.logs) d.name.session → (answer : Answer) → tails d.name.session ≡ [] → now d.name.session ≡ [] → OthersStay d.name.session
      → Adds tails now kept (with_acts (with_drawn (with_log kept d.name.session (log_of kept d.name.session ++ Drew d.name d.floor answer ∷ [])) d) (kept.acts ++ Draw d.name.session ∷ [])) (Draw d.name.session)
  adds_draw d lies answer is none others =
      let session = d.name.session in
      record {
        acts = refl;
        sessions = length-set kept.logs (session - 1) (log_of kept session ++ Drew d.name d.floor answer ∷ []);
        parts = refl;
        logs = logs_now session lies (Drew d.name d.floor answer) (Draw session) DrewIt refl (steps_of_draw session)
            (ap (λ (ss : List Step). (steps_of (log_of kept session) ++ ss) ++ DrewIt ∷ []) is ∙ drawn_steps (log_of kept session) d answer) none others;
        draws = sym (push kept.journal);
        news = λ q in_it. refl;
      }
    where
      push : (ds : List Drawn) → map (λ (x : Drawn). x.name.session) (ds ++ d ∷ []) ≡ map (λ (x : Drawn). x.name.session) ds ++ d.name.session ∷ []
      push [] = refl
      push (x ∷ ds) = ap (λ (ns : List ℕ). x.name.session ∷ ns) (push ds)
