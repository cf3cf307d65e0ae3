-- Sessions that don't act, and partitions whose mail an act doesn't touch.
use Rattle.std.proofs.Common.{◌≡◌, ◌≢◌, ℕ, suc, List, [], ◌∷◌, ◌++◌, length, Option, None, Bool, false, refl, ap, sym, ◌∙◌, subst}
use Rattle.std.specs.Prelude.{◌||◌, ◌==◌, slice_get}
use Rattle.std.specs.List.{AllByRecursion, AllZip, list_any}
use Rattle.std.proofs.lemmas.List.{append-nil}
use Rattle.std.proofs.lemmas.Bool.{ne_eqb}
use Rattle.outside.specs.declared.wire.Passage.{Passage}
use Rattle.sql_base.specs.Scripts.{Lies}
use Rattle.sql_base.specs.declared.scripts.Script.{Script}
use Rattle.dp_messages.specs.declared.requests.Request.{Request}
use Rattle.requester_fs.specs.Asking.{Asking}
use Rattle.session_grammar.specs.UnderWay.{UnderWay}
use Rattle.run_record.specs.declared.records.Act.{Act}
use Rattle.run_record.specs.declared.records.Act.TheVariants.{Send, Take, ByHand, Draw, Serve}
use Rattle.run_record.specs.declared.records.RunRecord.{RunRecord}
use Rattle.driver_laws.specs.Carrying.{IsCarried, Telling, passages_of}
use Rattle.driver_laws.specs.Moves.{IsPosted}
use Rattle.driver_laws.specs.Scheduling.{Awaited, OfSession, Posted, actor_of, awaited, awaits, is_act_of, is_by, is_serve_of, mail_after, mailed}
use Rattle.driver_laws.proofs.Carrying.{passages_more}
use Rattle.step_world.specs.Scaffold.Worlds.{IsMessage, IsProcess, IsSeat, Setting, WasPosted, awaited_of, sendings_so_far}
use Rattle.step_world.specs.declared.processes.DiskProcess.{DiskProcess}
use Rattle.step_world.specs.declared.seats.Seat.{Seat}
use Rattle.step_world.proofs.Places.{any_one, fold_one, zip_map}
use Rattle.sql_base.proofs.Truths.{or-false}

-- what was posted before an act is posted still
abbrev pub StillPosted : ℕ → RunRecord → List UnderWay → RunRecord → List UnderWay → Type 0
StillPosted sessions kept ways after now = (n part sync : ℕ) (request : Request) → Lies 1 sessions n → IsPosted kept ways n part sync request → IsPosted after now n part sync request

module _ (sessions : ℕ) (kept after : RunRecord) (ways now : List UnderWay) (still : StillPosted sessions kept ways after now) (part : ℕ) where
  pub message_on : (m : Posted) (bytes : List ℕ) → IsMessage sessions kept ways part m bytes → IsMessage sessions after now part m bytes
  message_on m bytes is =
      record {
        envelope = is.envelope;
        spelled = is.spelled;
        bytes_are = is.bytes_are;
        message = is.message;
        opener = is.opener;
        posted = still is.envelope.opener part is.envelope.sync is.envelope.request is.opener is.posted;
      }

  pub mail_on : (mail : List Posted) (bytes : List (List ℕ)) → AllZip (IsMessage sessions kept ways part) mail bytes → AllZip (IsMessage sessions after now part) mail bytes
  mail_on mail bytes all = zip_map (IsMessage sessions kept ways part) (IsMessage sessions after now part) mail bytes message_on all

pub acts_on : (sessions : ℕ) (kept after : RunRecord) (ways now : List UnderWay) → StillPosted sessions kept ways after now → (acts : List Act) → AllByRecursion (WasPosted sessions kept ways) acts → AllByRecursion (WasPosted sessions after now) acts
acts_on sessions kept after ways now still [] all = tt
acts_on sessions kept after ways now still (Send session part sync passage ∷ acts) all = (tt, acts_on sessions kept after ways now still acts all.1)
acts_on sessions kept after ways now still (Take session ∷ acts) all = (tt, acts_on sessions kept after ways now still acts all.1)
acts_on sessions kept after ways now still (ByHand session part sync ∷ acts) all = (tt, acts_on sessions kept after ways now still acts all.1)
acts_on sessions kept after ways now still (Draw session ∷ acts) all = (tt, acts_on sessions kept after ways now still acts all.1)
acts_on sessions kept after ways now still (Serve part opener sync ∷ acts) all = ((all.0.0, all.0.1, still opener part sync all.0.0 all.0.1 all.0.2), acts_on sessions kept after ways now still acts all.1)

-- and with one act more
pub acts_with : (sessions : ℕ) (kept : RunRecord) (ways : List UnderWay) (acts : List Act) (act : Act) → AllByRecursion (WasPosted sessions kept ways) acts → WasPosted sessions kept ways act → AllByRecursion (WasPosted sessions kept ways) (acts ++ act ∷ [])
acts_with sessions kept ways [] act all last = (last, tt)
acts_with sessions kept ways (a ∷ acts) act all last = (all.0, acts_with sessions kept ways acts act all.1 last)

pub not_served : (sessions at : ℕ) (kept : RunRecord) (ways : List UnderWay) (act : Act) → actor_of act ≡ OfSession (suc at) → WasPosted sessions kept ways act
not_served sessions at kept ways (Send session part sync passage) of = tt
not_served sessions at kept ways (Take session) of = tt
not_served sessions at kept ways (ByHand session part sync) of = tt
not_served sessions at kept ways (Draw session) of = tt
not_served sessions at kept ways (Serve part opener sync) of = absurd (cc)

pub mail_one : (part : ℕ) (acts : List Act) (act : Act) → mail_after part (acts ++ act ∷ []) ≡ mailed part (mail_after part acts) act
mail_one part acts act = fold_one (mailed part) [] acts act

pub process_stays : (script : Script) (kept after : RunRecord) (ways now : List UnderWay) (act : Act) (part : ℕ) (d : DiskProcess) → StillPosted (length script.sessions) kept ways after now → after.acts ≡ kept.acts ++ act ∷ []
    → ((mail : List Posted) → mailed part mail act ≡ mail) → IsProcess script kept ways part d → IsProcess script after now part d
process_stays script kept after ways now act part d still acts same is =
    record {
      opened = is.opened;
      replayed = is.replayed;
      unmarked = is.unmarked;
      came = is.came;
      mail = subst (λ mail. AllZip (IsMessage (length script.sessions) after now part) mail d.mail) (sym (ap (mail_after part) acts ∙ mail_one part kept.acts act ∙ same (mail_after part kept.acts)))
          (mail_on (length script.sessions) kept after ways now still part (mail_after part kept.acts) d.mail is.mail);
    }

awaits_other : (n : ℕ) (w : Option Awaited) (act : Act) → is_by n act ≡ false → awaits n w act ≡ w
awaits_other n w (Send session part sync passage) h = rw h refl
awaits_other n w (Take session) h = rw h refl
awaits_other n w (ByHand session part sync) h = rw h refl
awaits_other n w (Draw session) h = rw h refl
awaits_other n w (Serve part opener sync) h = refl

passages_other : (n : ℕ) (act : Act) → is_by n act ≡ false → passages_of n (act ∷ []) ≡ []
passages_other n (Send session part sync passage) h = rw h refl
passages_other n (Take session) h = refl
passages_other n (ByHand session part sync) h = refl
passages_other n (Draw session) h = refl
passages_other n (Serve part opener sync) h = refl

-- no Serve of a session's request more
pub unserved : (n : ℕ) (v : Awaited) (acts : List Act) (act : Act) → is_serve_of n v act ≡ false → list_any (is_serve_of n v) (acts ++ act ∷ []) ≡ list_any (is_serve_of n v) acts
unserved n v acts act h = any_one (is_serve_of n v) acts act ∙ ap (λ (b : Bool). list_any (is_serve_of n v) acts || b) h ∙ or-false (list_any (is_serve_of n v) acts)

pub seat_stays : (setting : Setting) (tellings after : List Telling) (acts : List Act) (act : Act) (at : ℕ) (s : Seat Asking) → is_by (suc at) act ≡ false → ((v : Awaited) → is_serve_of (suc at) v act ≡ false)
    → slice_get after at ≡ slice_get tellings at → IsSeat setting tellings acts at s → IsSeat setting after (acts ++ act ∷ []) at s
seat_stays setting tellings after acts act at s other none same is =
    record {
      number = is.number;
      asker = is.asker;
      script = is.script;
      asking = is.asking;
      one = is.one;
      stands = is.stands;
      waits = fold_one (awaits (suc at)) None acts act ∙ awaits_other (suc at) (awaited (suc at) acts) act other ∙ is.waits;
      noted = λ r here. unserved (suc at) (awaited_of r) acts act (none (awaited_of r)) ∙ is.noted r here;
      told = λ first now f n.
          let before = is.told first now f (sym same ∙ n) in
          let passages : passages_of (suc at) (acts ++ act ∷ []) ≡ passages_of (suc at) acts =
          passages_more (suc at) acts act ∙ ap (λ (ps : List Passage). passages_of (suc at) acts ++ ps) (passages_other (suc at) act other) ∙ append-nil (passages_of (suc at) acts) in
          (subst (λ (ps : List Passage). IsCarried first.first first.round ps now.first s.requester.log (sendings_so_far s)) (sym passages) before.0, before.1);
    }

-- an act of a session is its own alone, and serves nothing
pub by_it : (act : Act) (at n : ℕ) → actor_of act ≡ OfSession (suc at) → is_by n act ≡ (suc at == n)
by_it act at n of = ap (is_act_of n) of

pub not_by : (act : Act) (at i : ℕ) → actor_of act ≡ OfSession (suc at) → i ≢ at → is_by (suc i) act ≡ false
not_by act at i of differ = by_it act at (suc i) of ∙ ne_eqb (suc at) (suc i) (λ e. differ (cc))

pub serves_nothing : (act : Act) (at n : ℕ) (v : Awaited) → actor_of act ≡ OfSession (suc at) → is_serve_of n v act ≡ false
serves_nothing (Send session part sync passage) at n v of = refl
serves_nothing (Take session) at n v of = refl
serves_nothing (ByHand session part sync) at n v of = refl
serves_nothing (Draw session) at n v of = refl
serves_nothing (Serve part opener sync) at n v of = absurd (cc)
