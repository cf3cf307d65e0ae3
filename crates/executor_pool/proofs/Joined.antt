-- What the tokens of one partition tell once they are brought together: each entry was asked, and what was seen stands in the history.
use Rattle.std.proofs.Common.{◌≡◌, ◌+◌, ℕ, zero, suc, List, [], ◌∷◌, ◌++◌, map, Some, refl, sym, ◌∙◌, subst, inl, inr, Contains}
use Rattle.std.specs.Prelude.{slice_get}
use Rattle.std.specs.List.{AllByRecursion, AllZip, enumerate_from, flat_map}
use Rattle.std.proofs.lemmas.List.Elements.{All-from_recursion, Contains-append_left, Contains-append_right, recursion_from_All}
use Rattle.std.proofs.lemmas.List.Sorted.{All-permutation}
use mathlib.Core.List.{IsPrefix}
use Rattle.sql_base.specs.declared.scripts.Script.{Script}
use Rattle.dp_messages.specs.Spelling.{IsEnvelope, request_bytes}
use Rattle.dp_messages.specs.declared.requests.Envelope.{Envelope}
use Rattle.dp_messages.specs.declared.requests.Request.{Request}
use Rattle.dp_messages.proofs.Meanings.{one_envelope}
use Rattle.partition_state.specs.declared.entries.Entry.{Entry}
use Rattle.plans_laws.specs.Spelled.{envelope_of}
use Rattle.run_record.proofs.DrawnLogs.{of_one}
use Rattle.sql_base.proofs.ListFacts.{all-map, all-weaker, all_at, all_in, all_joined, all_places}
use Rattle.sql_base.proofs.Truths.{some-same}
use Rattle.turn_lock.specs.Pass.{IsMadeOf, PassState}
use Rattle.shared_partition.specs.Sharing.{PartitionPass}
use Rattle.executor_pool.specs.Jobs.{AtWork, HasAsked, IsOfMessage, IsOfSession, IsOwnMessage, KeepsMail, KeepsPart}
use Rattle.executor_pool.specs.Pooled.{IsJoined}
use Rattle.executor_pool.specs.Sessions.{Session}
use Rattle.executor_pool.specs.declared.tokens.Server.{Server}
use Rattle.executor_pool.specs.declared.tokens.Tokens.{Tokens}

-- what holds of all parts of joined lists holds of them joined
pub all_flat : {X Y : Type 0} (P : Y → Type 0) (f : X → List Y) (xs : List X) → AllByRecursion (λ x. AllByRecursion P (f x)) xs → AllByRecursion P (flat_map f xs)
all_flat P f [] h = tt
all_flat P f (x ∷ xs) h = all_joined P (f x) (flat_map f xs) h.0 (all_flat P f xs h.1)

-- of two lists side by side, what stands at a place
pub zip_left : {X Y : Type 0} (R : X → Y → Type 0) (xs : List X) (ys : List Y) (i : ℕ) (x : X) → AllZip R xs ys → slice_get xs i ≡ Some x → (y : Y) × (slice_get ys i ≡ Some y) × R x y
zip_left R [] ys i x h is = absurd (cc)
zip_left R (z ∷ xs) [] i x h is = absurd h
zip_left R (z ∷ xs) (y ∷ ys) zero x h is = let same : z ≡ x = cc in (y, refl, subst (λ w. R w y) same h.0)
zip_left R (z ∷ xs) (y ∷ ys) (suc i) x h is = zip_left R xs ys i x h.1 is

pub zip_right : {X Y : Type 0} (R : X → Y → Type 0) (xs : List X) (ys : List Y) (i : ℕ) (y : Y) → AllZip R xs ys → slice_get ys i ≡ Some y → (x : X) × (slice_get xs i ≡ Some x) × R x y
zip_right R xs [] i y h is = absurd (cc)
zip_right R [] (z ∷ ys) i y h is = absurd h
zip_right R (x ∷ xs) (z ∷ ys) zero y h is = let same : z ≡ y = cc in (x, refl, subst (λ w. R x w) same h.0)
zip_right R (x ∷ xs) (z ∷ ys) (suc i) y h is = zip_right R xs ys i y h.1 is

-- what a list begins with stands in it
pub in_prefix : {X : Type 0} (xs log : List X) (x : X) → IsPrefix xs log → Contains xs x → Contains log x
in_prefix xs log x h c = subst (λ l. Contains l x) h.1 (Contains-append_left xs h.0 x c)

unplaced : {E : Type 0} (P : E → Type 0) (n : ℕ) (history : List E) → AllByRecursion (λ placed. P placed.1) (enumerate_from n history) → AllByRecursion P history
unplaced P n [] h = tt
unplaced P n (e ∷ history) h = (h.0, unplaced P (n + 1) history h.1)

-- what holds of the entries of all passes holds of the history that is made of them
module _ {E R : Type 0} (P : E → Type 0) where
  pub all_made : (history : List E) (passes : List (PassState E R)) → IsMadeOf history passes → AllByRecursion (λ (p : PassState E R). AllByRecursion (λ placed. P placed.1) p.mine) passes → AllByRecursion P history
  all_made history passes made all =
      let Q : ℕ × E → Type 0 = λ placed. P placed.1 in
      let mines = flat_map (λ (p : PassState E R). p.mine) passes in
      unplaced P 0 history (recursion_from_All Q (enumerate_from 0 history) (All-permutation Q mines (enumerate_from 0 history) made (All-from_recursion Q mines (all_flat Q (λ (p : PassState E R). p.mine) passes all))))

-- some session has asked this of the partition
abbrev pub WasAsked : List Session → ℕ → ℕ → ℕ → Request → Type 0
WasAsked sessions part opener sync request = (at : ℕ) × (s : Session) × (slice_get sessions at ≡ Some s) × (opener ≡ suc at) × HasAsked s.asking part sync request

module _ (script : Script) (sessions : List Session) (work : (at : ℕ) (s : Session) → slice_get sessions at ≡ Some s → AtWork script (suc at) s.asking s.tokens s.commits) (part : ℕ) (history : List Entry)
    (j : IsJoined sessions part history) where
  abbrev MessageAsked : List ℕ → Type 0
  MessageAsked m = (e : Envelope) × IsEnvelope e × (m ≡ request_bytes e) × WasAsked sessions part e.opener e.sync e.request

  abbrev IsHeld : Tokens → Type 0
  IsHeld t = (at : ℕ) × (s : Session) × (slice_get sessions at ≡ Some s) × (slice_get s.tokens part ≡ Some t)

  held_at : (i : ℕ) (t : Tokens) → slice_get j.held i ≡ Some t → IsHeld t
  held_at i t is = let found = zip_right (λ (s : Session) (t : Tokens). slice_get s.tokens part ≡ Some t) sessions j.held i t j.of_sessions is in (i, found.0, found.1, found.2)

  keeps : (t : Tokens) (h : IsHeld t) → KeepsPart h.1.asking part t
  keeps t h = (work h.0 h.1 h.2).parts part t h.3

  own_message : (t : Tokens) (h : IsHeld t) (m : List ℕ) → IsOwnMessage h.1.asking part m → MessageAsked m
  own_message t h m own = (own.0, own.1, own.2, (h.0, h.1, h.2, own.3 ∙ (work h.0 h.1 h.2).number_is, own.4))

  posted_asked : AllByRecursion MessageAsked (flat_map (λ t. t.poster.posted) j.held)
  posted_asked =
      all_flat MessageAsked (λ (t : Tokens). t.poster.posted) j.held
      (all_places (λ (t : Tokens). AllByRecursion MessageAsked t.poster.posted) j.held (λ i t is.
      let h = held_at i t is in
      all-weaker (IsOwnMessage h.1.asking part) MessageAsked (λ m own. own_message t h m own) t.poster.posted (keeps t h).posted))

  abbrev all_taken : List (List ℕ)
  all_taken = flat_map (λ (t : Tokens). t.taker.taken) j.held ++ flat_map (λ (s : Server). s.taker.taken) j.servers

  taken_asked : (m : List ℕ) → Contains all_taken m → MessageAsked m
  taken_asked m c =
      let posted = all_in (Contains (flat_map (λ (t : Tokens). t.poster.posted) j.held)) m all_taken c j.posted in
      all_in MessageAsked m (flat_map (λ (t : Tokens). t.poster.posted) j.held) posted posted_asked

  -- an entry of a message that was taken was asked
  of_message : (taken : List (List ℕ)) → ((m : List ℕ) → Contains taken m → Contains all_taken m) → (e : Entry) → IsOfMessage taken e → WasAsked sessions part e.opener e.sync e.request
  of_message taken into e h =
      let asked = taken_asked (request_bytes (envelope_of e)) (into (request_bytes (envelope_of e)) h.1) in
      let same : envelope_of e ≡ asked.0 = one_envelope (envelope_of e) asked.0 h.0 asked.1 asked.2 in
      subst (λ (x : Envelope). WasAsked sessions part x.opener x.sync x.request) (sym same) asked.3

  of_session : (i : ℕ) (t : Tokens) (is : slice_get j.held i ≡ Some t) (e : Entry) → IsOfSession (held_at i t is).1.asking part t.taker.taken e → WasAsked sessions part e.opener e.sync e.request
  of_session i t is e (inl message) =
      of_message t.taker.taken (λ m c. Contains-append_left (flat_map (λ (x : Tokens). x.taker.taken) j.held) (flat_map (λ (x : Server). x.taker.taken) j.servers) m (of_one (λ (x : Tokens). x.taker.taken) j.held i t m is c)) e message
  of_session i t is e (inr own) = let h = held_at i t is in (h.0, h.1, h.2, own.0 ∙ (work h.0 h.1 h.2).number_is, own.1)

  of_server : (i : ℕ) (s : Server) → slice_get j.servers i ≡ Some s → (e : Entry) → IsOfMessage s.taker.taken e → WasAsked sessions part e.opener e.sync e.request
  of_server i s is e message =
      of_message s.taker.taken (λ m c. Contains-append_right (flat_map (λ (x : Tokens). x.taker.taken) j.held) (flat_map (λ (x : Server). x.taker.taken) j.servers) m (of_one (λ (x : Server). x.taker.taken) j.servers i s m is c)) e message

  abbrev Asked : Entry → Type 0
  Asked e = WasAsked sessions part e.opener e.sync e.request

  abbrev OfAsked : PartitionPass → Type 0
  OfAsked p = AllByRecursion (λ placed. Asked placed.1) p.mine

  pub history_asked : AllByRecursion (λ e. WasAsked sessions part e.opener e.sync e.request) history
  history_asked = all_made Asked history (map (λ (t : Tokens). t.pass) j.held ++ map (λ (s : Server). s.pass) j.servers) j.made
      (all_joined OfAsked (map (λ (t : Tokens). t.pass) j.held) (map (λ (s : Server). s.pass) j.servers)
      (all-map OfAsked (λ (t : Tokens). t.pass) j.held (all_places (λ (t : Tokens). OfAsked t.pass) j.held (λ i t is.
      let h = held_at i t is in
      all-weaker (λ placed. IsOfSession h.1.asking part t.taker.taken placed.1) (λ placed. Asked placed.1) (λ placed o. of_session i t is placed.1 o) t.pass.mine (keeps t h).served)))
      (all-map OfAsked (λ (s : Server). s.pass) j.servers (all_places (λ (s : Server). OfAsked s.pass) j.servers (λ i s is.
      let k = all_at KeepsMail j.servers i s j.of_servers is in
      all-weaker (λ placed. IsOfMessage s.taker.taken placed.1) (λ placed. Asked placed.1) (λ placed o. of_server i s is placed.1 o) s.pass.mine k))))

  -- what a session has seen stands in the history
  pub seen_stands : (at : ℕ) (s : Session) (t : Tokens) (e : Entry) → slice_get sessions at ≡ Some s → slice_get s.tokens part ≡ Some t → Contains t.pass.seen e → Contains history e
  seen_stands at s t e is there c =
      let found = zip_left (λ (x : Session) (y : Tokens). slice_get x.tokens part ≡ Some y) sessions j.held at s j.of_sessions is in
      let same : found.0 ≡ t = some-same found.0 t (sym found.2 ∙ there) in
      let begins = all_at (λ (x : Tokens). IsPrefix x.pass.seen history) j.held at found.0 j.begins found.1 in
      in_prefix t.pass.seen history e (subst (λ (x : Tokens). IsPrefix x.pass.seen history) same begins) c
