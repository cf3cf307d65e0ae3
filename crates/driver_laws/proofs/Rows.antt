-- Worked rows: which lists of acts are scheduled and carried, and which aren't.
use Rattle.std.proofs.Common.{◌≡◌, ◌<◌, ℕ, zero, suc, List, [], ◌∷◌, Some, true, false, refl, ap, sym, ◌∙◌, subst, arith}
use Rattle.std.proofs.lemmas.Bool.{false≢true}
use Rattle.std.specs.Prelude.{map}
use Rattle.sql_base.specs.Scripts.{Lies}
use Rattle.outside.specs.declared.wire.Passage.{Passage}
use Rattle.outside.specs.declared.wire.Passage.TheVariants.{Carry, Repeat, LoseReply}
use Rattle.dp_messages.specs.declared.replies.Reply.{Reply as PartitionReply}
use Rattle.dp_messages.specs.declared.requests.Request.{Request}
use Rattle.partition_state.specs.declared.entries.Entry.{Entry}
use Rattle.session_grammar.specs.declared.logs.Answer.TheVariants.{Reply}
use Rattle.session_grammar.specs.declared.logs.LogEntry.{LogEntry}
use Rattle.session_grammar.specs.declared.logs.LogEntry.TheVariants.{Asked}
use Rattle.run_record.specs.Openings.{history_of, log_of}
use Rattle.run_record.specs.declared.records.Act.TheVariants.{Send, Take, Serve}
use Rattle.run_record.specs.declared.records.RunRecord.{RunRecord}
use Rattle.driver_laws.specs.Carrying.{Carried}
use Rattle.outside.specs.Wire.{Told, is_loss}
use Rattle.driver_laws.specs.Scheduling.{OfSession, Scheduled, news, posted_of, steps_by, steps_of}

module _ (q : Request) (r : PartitionReply) where
  abbrev pub entry : ℕ → Entry
  entry session = record { opener = session; sync = 1; request = q; reply = r }

  abbrev pub asked : ℕ → LogEntry
  asked losses = Asked 0 1 q losses (Reply r)

  -- one session, one request: its reply is lost, then it arrives twice; the two messages left are served as old ones
  abbrev pub lost_once : RunRecord
  lost_once =
      record {
        histories = (entry 1 ∷ []) ∷ [];
        rows = [];
        journal = [];
        logs = (asked 1 ∷ []) ∷ [];
        acts = Send 1 0 1 LoseReply ∷ Send 1 0 1 Repeat ∷ Serve 0 1 1 ∷ Take 1 ∷ Serve 0 1 1 ∷ Serve 0 1 1 ∷ [];
      }

  -- two sessions, one request each: the first choice is the second of the enabled actors
  abbrev pub second_first : RunRecord
  second_first =
      record {
        histories = (entry 2 ∷ entry 1 ∷ []) ∷ [];
        rows = [];
        journal = [];
        logs = (asked 0 ∷ []) ∷ (asked 0 ∷ []) ∷ [];
        acts = Send 2 0 1 Carry ∷ Send 1 0 1 Carry ∷ Serve 0 2 1 ∷ Take 2 ∷ Serve 0 1 1 ∷ Take 1 ∷ [];
      }

  -- a message is served that nobody posted
  abbrev pub unposted : RunRecord
  unposted = record { histories = (entry 1 ∷ []) ∷ []; rows = []; journal = []; logs = (asked 0 ∷ []) ∷ []; acts = Serve 0 1 1 ∷ Send 1 0 1 Carry ∷ Take 1 ∷ [] }

  -- the second copy is left in the mail
  abbrev pub left_over : RunRecord
  left_over = record { histories = (entry 1 ∷ []) ∷ []; rows = []; journal = []; logs = (asked 0 ∷ []) ∷ []; acts = Send 1 0 1 Repeat ∷ Serve 0 1 1 ∷ Take 1 ∷ [] }

  abbrev pub IsIt : RunRecord → List ℕ → Type 0
  IsIt kept choices = Scheduled choices kept

  one_of : (n : ℕ) → Lies 1 1 n → n ≡ 1
  one_of n lies = omega (arith, lies.0, lies.1)

  pub lost_once-scheduled : IsIt lost_once []
  lost_once-scheduled =
      record {
        mails = (tt, (tt, (refl, (tt, (refl, (refl, tt))))));
        chosen = (refl, (refl, (refl, (refl, (refl, (refl, tt))))));
        over = refl;
        of_logs = of_logs;
        draws = refl;
        new_serves = new_serves;
      }
    where
      of_logs : (n : ℕ) → Lies 1 1 n → steps_by n lost_once.acts ≡ steps_of (log_of lost_once n)
      of_logs n lies = subst (λ m. steps_by m lost_once.acts ≡ steps_of (log_of lost_once m)) (sym (one_of n lies)) refl

      new_serves : (part : ℕ) → part < 1 → news part lost_once.acts ≡ map posted_of (history_of lost_once part)
      new_serves part lt = let none : part ≡ 0 = omega (arith, lt) in subst (λ p. news p lost_once.acts ≡ map posted_of (history_of lost_once p)) (sym none) refl

  -- the wire told a lost reply, a message twice, and so on
  pub lost_once-carried : Carried lost_once 1 (LoseReply ∷ Repeat ∷ Carry ∷ []) (Carry ∷ [])
  lost_once-carried =
      record { passages = LoseReply ∷ Repeat ∷ []; later = Carry ∷ []; told = (Repeat ∷ Carry ∷ [], (refl, refl), (Carry ∷ [], (refl, refl), refl)); losses = refl; of_acts = λ some. refl }

  -- over a wire that loses nothing, the log has invented its loss
  pub lost_once-not_carried : Carried lost_once 1 [] (Carry ∷ []) → ⊥
  lost_once-not_carried h = first h.passages h.later h.told h.losses
    where
      first : (ps : List Passage) (later : List Passage) → Told [] (Carry ∷ []) ps later → map is_loss ps ≡ true ∷ false ∷ [] → ⊥
      first [] later told is = absurd (cc is)
      first (p ∷ ps) later told is =
          let loss : is_loss p ≡ true = cc is in
          let carry : is_loss p ≡ false = ap is_loss told.1.0 in
          false≢true (sym carry ∙ loss)

  pub second_first-scheduled : IsIt second_first (1 ∷ [])
  second_first-scheduled =
      record {
        mails = (tt, (tt, (refl, (tt, (refl, (tt, tt))))));
        chosen = (refl, (refl, (refl, (refl, (refl, (refl, tt))))));
        over = refl;
        of_logs = of_logs;
        draws = refl;
        new_serves = new_serves;
      }
    where
      of_logs : (n : ℕ) → Lies 1 2 n → steps_by n second_first.acts ≡ steps_of (log_of second_first n)
      of_logs zero lies = absurd (omega (arith, lies.0))
      of_logs (suc zero) lies = refl
      of_logs (suc (suc zero)) lies = refl
      of_logs (suc (suc (suc n))) lies = absurd (omega (arith, lies.1))

      new_serves : (part : ℕ) → part < 1 → news part second_first.acts ≡ map posted_of (history_of second_first part)
      new_serves part lt = let none : part ≡ 0 = omega (arith, lt) in subst (λ p. news p second_first.acts ≡ map posted_of (history_of second_first p)) (sym none) refl

  -- with no choices session 1 would have sent first: the schedule was ignored
  pub second_first-ignored : IsIt second_first [] → ⊥
  second_first-ignored h = differ h.chosen.0
    where
      differ : Some (OfSession 1) ≡ Some (OfSession 2) → ⊥
      differ e = absurd (cc e)

  -- a Serve takes what stands in the mail
  pub unposted-refused : (choices : List ℕ) → IsIt unposted choices → ⊥
  unposted-refused choices h = nothing h.mails.0
    where
      nothing : {X : Type 0} {x : X} → [] ≡ x ∷ [] → ⊥
      nothing e = absurd (cc e)

  -- and none may be left there
  pub left_over-refused : (choices : List ℕ) → IsIt left_over choices → ⊥
  left_over-refused choices h = some h.over
    where
      some : {X : Type 0} {x : X} → x ∷ [] ≡ [] → ⊥
      some e = absurd (cc e)
