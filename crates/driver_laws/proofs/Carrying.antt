-- A driver's steps keep what the wires told.
use Rattle.std.proofs.Common.{◌≡◌, ◌≢◌, ℕ, List, [], ◌∷◌, ◌++◌, map, replicate, Bool, true, refl, ap, sym, ◌∙◌, subst}
use Rattle.std.proofs.lemmas.List.{append-nil, append_assoc}
use Rattle.std.proofs.lemmas.List.Elements.{filter_map-append}
use Rattle.sql_base.specs.declared.lock_names.TxnName.{TxnName}
use Rattle.outside.specs.Wire.{Answers}
use Rattle.outside.specs.declared.wire.Passage.{Passage}
use Rattle.dp_messages.specs.declared.requests.Request.{Request}
use Rattle.session_grammar.specs.declared.logs.Answer.{Answer}
use Rattle.session_grammar.specs.declared.logs.LogEntry.{LogEntry}
use Rattle.session_grammar.specs.declared.logs.LogEntry.TheVariants.{Asked, Drew}
use Rattle.run_record.specs.Openings.{log_of}
use Rattle.run_record.specs.declared.records.Act.{Act}
use Rattle.run_record.specs.declared.records.RunRecord.{RunRecord}
use Rattle.driver_laws.specs.Carrying.{Carried, IsCarried, carried_after, passage_of, passages_of, sendings}
use Rattle.outside.specs.Wire.{Told, is_loss}

told_more : (first round ps later : List Passage) (p : Passage) (others : List Passage) → Told first round ps later → Answers later round p others → Told first round (ps ++ p ∷ []) others
told_more first round [] later p others h a = (others, subst (λ (xs : List Passage). Answers xs round p others) h a, refl)
told_more first round (q ∷ ps) later p others h a = (h.0, h.1, told_more h.0 round ps later p others h.2 a)

sendings_append : (xs ys : List LogEntry) → sendings (xs ++ ys) ≡ sendings xs ++ sendings ys
sendings_append [] ys = refl
sendings_append (Asked part sync request losses answer ∷ xs) ys =
    let here = replicate losses true ++ carried_after losses answer in
    ap (λ (bs : List Bool). here ++ bs) (sendings_append xs ys) ∙ sym (append_assoc here (sendings xs) (sendings ys))
sendings_append (Drew name floor answer ∷ xs) ys = sendings_append xs ys

map_append : (xs ys : List Passage) → map is_loss (xs ++ ys) ≡ map is_loss xs ++ map is_loss ys
map_append [] ys = refl
map_append (x ∷ xs) ys = ap (λ (bs : List Bool). is_loss x ∷ bs) (map_append xs ys)

module _ (first round : List Passage) where
  -- nothing is sent yet
  pub carried_nothing : IsCarried first round [] first [] []
  carried_nothing = record { told = refl; losses = refl }

  module _ (passages later : List Passage) (log : List LogEntry) (tail : List Bool) (h : IsCarried first round passages later log tail) where
    -- the wire is asked once more
    pub carried_sent : (p : Passage) (others : List Passage) → Answers later round p others → IsCarried first round (passages ++ p ∷ []) others log (tail ++ is_loss p ∷ [])
    carried_sent p others a =
        record {
          told = told_more first round passages later p others h.told a;
          losses = map_append passages (p ∷ []) ∙ ap (λ (bs : List Bool). bs ++ is_loss p ∷ []) h.losses ∙ append_assoc (sendings log) tail (is_loss p ∷ []);
        }

    -- the request under way is answered, in whichever way
    pub carried_taken : (part sync : ℕ) (request : Request) (losses : ℕ) (answer : Answer) → tail ≡ replicate losses true ++ carried_after losses answer
        → IsCarried first round passages later (log ++ Asked part sync request losses answer ∷ []) []
    carried_taken part sync request losses answer is =
        let entry = Asked part sync request losses answer ∷ [] in
        let its : sendings entry ≡ tail = append-nil (replicate losses true ++ carried_after losses answer) ∙ sym is in
        let all : sendings (log ++ entry) ≡ sendings log ++ tail = sendings_append log entry ∙ ap (λ (bs : List Bool). sendings log ++ bs) its in
        record { told = h.told; losses = h.losses ∙ sym all ∙ sym (append-nil (sendings (log ++ entry))) }

    -- a commit is drawn
    pub carried_drawn : (name : TxnName) (floor : ℕ) (answer : Answer) → IsCarried first round passages later (log ++ Drew name floor answer ∷ []) tail
    carried_drawn name floor answer =
        let all : sendings (log ++ Drew name floor answer ∷ []) ≡ sendings log = sendings_append log (Drew name floor answer ∷ []) ∙ append-nil (sendings log) in
        record { told = h.told; losses = h.losses ∙ ap (λ (bs : List Bool). bs ++ tail) (sym all) }

  -- at the end nothing is under way
  pub carried_whole : (kept : RunRecord) (n : ℕ) (passages later : List Passage) → IsCarried first round passages later (log_of kept n) [] → (kept.acts ≢ [] → passages_of n kept.acts ≡ passages) → Carried kept n first round
  carried_whole kept n passages later h acts = record { passages = passages; later = later; told = h.told; losses = h.losses ∙ append-nil (sendings (log_of kept n)); of_acts = acts }

-- the Sends of a list of acts that goes on
pub passages_more : (n : ℕ) (acts : List Act) (act : Act) → passages_of n (acts ++ act ∷ []) ≡ passages_of n acts ++ passages_of n (act ∷ [])
passages_more n acts act = filter_map-append (passage_of n) acts (act ∷ [])
