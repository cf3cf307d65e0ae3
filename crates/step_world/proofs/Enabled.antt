-- Who is enabled, place by place.
use Rattle.std.proofs.Common.{◌≡◌, ◌<◌, ◌+◌, ◌-◌, ℕ, List, [], ◌∷◌, ◌++◌, length, map, get_or, Option, Bool, true, false, cond, refl, ap, sym, ◌∙◌, arith}
use Rattle.std.specs.Prelude.{filter, option_map, slice_get, unwrap_or}
use Rattle.std.specs.List.{range_with_len}
use Rattle.std.proofs.lemmas.List.{append-nil, append_assoc, map-append}
use Rattle.std.proofs.lemmas.List.Elements.{filter-append}
use Rattle.requester_fs.specs.Asking.{Asking}
use Rattle.driver_laws.specs.Scheduling.{OfPartition, OfSession}
use Rattle.step_world.specs.Choosing.{actor_seen, acts_at, has_mail, is_acting, mail_at}
use Rattle.step_world.specs.Scaffold.Seats.{turn_of}
use Rattle.step_world.specs.declared.choosing.Agent.{Agent}
use Rattle.step_world.specs.declared.choosing.Agent.TheVariants.{Partition, Session}
use Rattle.step_world.specs.declared.processes.DiskProcess.{DiskProcess}
use Rattle.step_world.specs.declared.seats.Seat.{Seat}
use Rattle.step_world.proofs.Handed.{process_at}
use Rattle.step_world.proofs.Places.{get_map}
use Rattle.sql_base.proofs.ListFacts.{range-push}

-- one place more
pub enabled_more : {Y : Type 0} (f : ℕ → Y) (p : ℕ → Bool) (a n : ℕ) → map f (filter p (range_with_len a (n + 1))) ≡ map f (filter p (range_with_len a n)) ++ map f (cond (p (a + n)) ((a + n) ∷ []) [])
enabled_more f p a n =
    ap (λ ms. map f (filter p ms)) (range-push a n) ∙ ap (map f) (filter-append p (range_with_len a n) ((a + n) ∷ [])) ∙ map-append f (filter p (range_with_len a n)) (cond (p (a + n)) ((a + n) ∷ []) [])

module _ {Y : Type 0} (f : ℕ → Y) (p : ℕ → Bool) (a n m : ℕ) (place : a + n ≡ m) (old before now : List Y) (so_far : before ≡ old ++ map f (filter p (range_with_len a n))) where
  more : map f (filter p (range_with_len a (n + 1))) ≡ map f (filter p (range_with_len a n)) ++ map f (cond (p m) (m ∷ []) [])
  more = enabled_more f p a n ∙ ap (λ k. map f (filter p (range_with_len a n)) ++ map f (cond (p k) (k ∷ []) [])) place

  pub pushed : p m ≡ true → now ≡ before ++ f m ∷ [] → now ≡ old ++ map f (filter p (range_with_len a (n + 1)))
  pushed passes is =
      is ∙ ap (λ xs. xs ++ f m ∷ []) so_far ∙ append_assoc old (map f (filter p (range_with_len a n))) (f m ∷ [])
      ∙ ap (λ xs. old ++ xs) (sym (more ∙ ap (λ b. map f (filter p (range_with_len a n)) ++ map f (cond b (m ∷ []) [])) passes))

  pub left_out : p m ≡ false → now ≡ before → now ≡ old ++ map f (filter p (range_with_len a (n + 1)))
  left_out fails is =
      is ∙ so_far ∙ ap (λ xs. old ++ xs) (sym (more ∙ ap (λ b. map f (filter p (range_with_len a n)) ++ map f (cond b (m ∷ []) [])) fails ∙ append-nil (map f (filter p (range_with_len a n)))))

-- the test at a place is that of what stands there
pub mail_is : (processes : List DiskProcess) (part : ℕ) (d : DiskProcess) → part < length processes → d ≡ get_or processes part d → mail_at processes part ≡ has_mail d
mail_is processes part d less is = ap (λ (o : Option DiskProcess). unwrap_or (option_map has_mail o) false) (process_at processes part d less is)

pub acts_is : {X : Type 0} (f : X → Seat Asking) (xs : List X) (at : ℕ) (x : X) → at < length xs → x ≡ get_or xs at x → acts_at (map f xs) (at + 1) ≡ is_acting (turn_of (f x))
acts_is f xs at x less is =
    let place : (at + 1) - 1 ≡ at = omega arith in
    ap (λ n. unwrap_or (option_map (λ s. is_acting (turn_of s)) (slice_get (map f xs) n)) false) place
    ∙ ap (λ (o : Option (Seat Asking)). unwrap_or (option_map (λ s. is_acting (turn_of s)) o) false) (get_map f xs at x (process_at xs at x less is))

-- the agents, as actors
of_sessions : (ns : List ℕ) → map actor_seen (map Session ns) ≡ map OfSession ns
of_sessions [] = refl
of_sessions (n ∷ ns) = ap (λ xs. OfSession n ∷ xs) (of_sessions ns)

of_partitions : (ns : List ℕ) → map actor_seen (map Partition ns) ≡ map OfPartition ns
of_partitions [] = refl
of_partitions (n ∷ ns) = ap (λ xs. OfPartition n ∷ xs) (of_partitions ns)

pub all_actors : (first second third : List Agent) (ns ms : List ℕ) → first ≡ [] → second ≡ first ++ map Session ns → third ≡ second ++ map Partition ms → map actor_seen third ≡ map OfSession ns ++ map OfPartition ms
all_actors first second third ns ms none sessions partitions =
    ap (map actor_seen) (partitions ∙ ap (λ xs. xs ++ map Partition ms) (sessions ∙ ap (λ xs. xs ++ map Session ns) none)) ∙ map-append actor_seen (map Session ns) (map Partition ms)
    ∙ (λ i. of_sessions ns i ++ of_partitions ms i)
