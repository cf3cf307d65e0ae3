-- The partitions of a run are closed with the tokens that its jobs hand back.
use Rattle.std.proofs.Common.{◌≡◌, ◌≤◌, ◌<◌, ◌+◌, ℕ, zero, suc, List, [], ◌∷◌, ◌++◌, length, map, get_or, false, refl, ap, sym, ◌∙◌, subst, inl, inr, arith, All, Contains}
use Rattle.std.specs.Prelude.{◌⊎◌}
use Rattle.std.specs.List.{AllByRecursion, AllZip, Any, flat_map, range_with_len}
use Rattle.std.proofs.lemmas.Grind.{flat_map-append}
use Rattle.std.proofs.lemmas.List.{map-append}
use Rattle.std.proofs.lemmas.List.Elements.{All-from_recursion, Contains-append_left, Contains-append_right, recursion_from_All}
use Rattle.std.proofs.lemmas.List.Folds.{flat_map-map}
use Rattle.std.proofs.lemmas.Simd.{map-map}
use mathlib.Core.List.{IsPrefix}
use Rattle.sql_base.proofs.ListFacts.{Contains-further, all-map, all_joined, all_left, range-length}
use Rattle.sql_base.proofs.Truths.{some-same}
use Rattle.partition_core.specs.Kept.{Kept, opened_with}
use Rattle.mail_queue.specs.Gathering.{IsComplete, posted_by, taken_by}
use Rattle.mail_queue.specs.Tokens.{PosterToken, TakerToken}
use Rattle.turn_lock.specs.Pass.{HasRoot, IsMadeOf}
use Rattle.shared_partition.specs.Sharing.{PartitionPass}
use Rattle.executor_pool.specs.Closing.{HasServed, IsClosed, IsReady}
use Rattle.executor_pool.specs.Dealing.{Opened, server_to, tokens_to}
use Rattle.executor_pool.specs.Tokens.{AreSame}
use Rattle.executor_pool.specs.declared.processes.Crew.{Crew}
use Rattle.executor_pool.specs.declared.processes.DiskProcess.{DiskProcess}
use Rattle.executor_pool.specs.declared.tokens.Server.{Server}
use Rattle.executor_pool.specs.declared.tokens.Tokens.{Tokens}

-- what holds of each that comes back of what was dealt under a number
module _ {A B : Type 0} (f : ℕ → A) (R : A → B → Type 0) where
  pub all_dealt : (P : B → Type 0) → ((n : ℕ) (b : B) → R (f n) b → P b) → (ns : List ℕ) (ys : List B) → AllZip R (map f ns) ys → AllByRecursion P ys
  all_dealt P of [] [] h = tt
  all_dealt P of [] (y ∷ ys) h = absurd h
  all_dealt P of (n ∷ ns) [] h = absurd h
  all_dealt P of (n ∷ ns) (y ∷ ys) h = (of n y h.0, all_dealt P of ns ys h.1)

  pub numbers_dealt : (g : B → ℕ) → ((n : ℕ) (b : B) → R (f n) b → g b ≡ n) → (ns : List ℕ) (ys : List B) → AllZip R (map f ns) ys → map g ys ≡ ns
  numbers_dealt g of [] [] h = refl
  numbers_dealt g of [] (y ∷ ys) h = absurd h
  numbers_dealt g of (n ∷ ns) [] h = absurd h
  numbers_dealt g of (n ∷ ns) (y ∷ ys) h = let here = of n y h.0 in let rest = numbers_dealt g of ns ys h.1 in (λ i. here i ∷ rest i)

-- what holds of the images holds of what they are of
unmapped : {X Y : Type 0} (P : Y → Type 0) (f : X → Y) (xs : List X) → AllByRecursion P (map f xs) → AllByRecursion (λ x. P (f x)) xs
unmapped P f [] h = tt
unmapped P f (x ∷ xs) h = (h.0, unmapped P f xs h.1)

-- a number of a range
pub in_range : (a n x : ℕ) → a ≤ x → x < a + n → Contains (range_with_len a n) x
in_range a zero x low high = absurd (omega (arith, low, high))
in_range a (suc n) x low high = elim (cases_below a x low) [ inl same ↦ (zero, omega arith, same) | inr above ↦ Contains-further a x (range_with_len (a + 1) n) (in_range (a + 1) n x (omega (arith, above)) (omega (arith, high))) ]
  where
    cases_below : (a x : ℕ) → a ≤ x → (a ≡ x) ⊎ (a < x)
    cases_below zero zero low = inl refl
    cases_below zero (suc x) low = inr (omega arith)
    cases_below (suc a) zero low = absurd (omega (arith, low))
    cases_below (suc a) (suc x) low = elim (cases_below a x (omega (arith, low))) [ inl same ↦ inl (ap suc same) | inr above ↦ inr (omega (arith, above)) ]

-- a number that stands among the images is that of some element
pub any_of : {B : Type 0} (g : B → ℕ) (ys : List B) (x : ℕ) → Contains (map g ys) x → Any (λ y. g y ≡ x) ys
any_of g ys x c = at ys c.0 c.1 c.2
  where
    at : (zs : List _) (k : ℕ) → k < length (map g zs) → get_or (map g zs) k x ≡ x → Any (λ y. g y ≡ x) zs
    at [] k lt is = absurd (omega (arith, lt))
    at (z ∷ zs) zero lt is = (zero, z, omega arith, refl, is)
    at (z ∷ zs) (suc k) lt is = let rest = at zs k (omega (arith, lt)) is in (suc rest.0, rest.1, omega (arith, rest.2), rest.3, rest.4)

module _ (crew : Crew) (part : ℕ) (o : Opened) (process : DiskProcess) (tokens : List Tokens) (servers : List Server) (h : IsReady crew part o process tokens servers) where
  abbrev own_numbers : List ℕ
  own_numbers = range_with_len 0 crew.sessions

  abbrev later_numbers : List ℕ
  later_numbers = range_with_len crew.sessions crew.servers

  -- what holds of each pass, as it goes on from the one that was dealt
  of_passes : (P : PartitionPass → Type 0) → ((n : ℕ) (t : Tokens) → AreSame (tokens_to n o) t → P t.pass) → ((n : ℕ) (s : Server) → HasServed (server_to part o n) s → P s.pass)
      → AllByRecursion P (map (λ (t : Tokens). t.pass) tokens ++ map (λ (s : Server). s.pass) servers)
  of_passes P own later =
      all_joined P (map (λ (t : Tokens). t.pass) tokens) (map (λ (s : Server). s.pass) servers)
      (all-map P (λ (t : Tokens). t.pass) tokens (all_dealt (λ n. tokens_to n o) AreSame (λ (t : Tokens). P t.pass) own own_numbers tokens h.tokens_are))
      (all-map P (λ (s : Server). s.pass) servers (all_dealt (server_to part o) HasServed (λ (s : Server). P s.pass) later later_numbers servers h.servers_are))

  of_takers : (P : TakerToken → Type 0) → ((n : ℕ) (t : Tokens) → AreSame (tokens_to n o) t → P t.taker) → ((n : ℕ) (s : Server) → HasServed (server_to part o n) s → P s.taker)
      → AllByRecursion P (map (λ (t : Tokens). t.taker) tokens ++ map (λ (s : Server). s.taker) servers)
  of_takers P own later =
      all_joined P (map (λ (t : Tokens). t.taker) tokens) (map (λ (s : Server). s.taker) servers)
      (all-map P (λ (t : Tokens). t.taker) tokens (all_dealt (λ n. tokens_to n o) AreSame (λ (t : Tokens). P t.taker) own own_numbers tokens h.tokens_are))
      (all-map P (λ (s : Server). s.taker) servers (all_dealt (server_to part o) HasServed (λ (s : Server). P s.taker) later later_numbers servers h.servers_are))

  pub locks : All (λ (p : PartitionPass). p.lock ≡ process.partition) (map (λ (t : Tokens). t.pass) tokens ++ map (λ (s : Server). s.pass) servers)
  locks =
      let here = ap (λ (d : DiskProcess). d.partition) (sym h.process_is) in
      All-from_recursion (λ (p : PartitionPass). p.lock ≡ process.partition) _ (of_passes (λ (p : PartitionPass). p.lock ≡ process.partition) (λ n t same. same.pass.lock ∙ here) (λ n s same. same.0.pass.lock ∙ here))

  pub idles : All (λ (p : PartitionPass). p.holds ≡ false) (map (λ (t : Tokens). t.pass) tokens ++ map (λ (s : Server). s.pass) servers)
  idles = All-from_recursion (λ (p : PartitionPass). p.holds ≡ false) _ (of_passes (λ (p : PartitionPass). p.holds ≡ false) (λ n t same. same.pass.idle) (λ n s same. same.0.pass.idle))

  -- each number that was dealt is there
  in_both : (n : ℕ) → n < crew.sessions + crew.servers → Contains (own_numbers ++ later_numbers) n
  in_both n lt = elim (split n crew.sessions) [
    | inl low ↦ Contains-append_left own_numbers later_numbers n (in_range 0 crew.sessions n (omega arith) (omega (arith, low)))
    | inr high ↦ Contains-append_right own_numbers later_numbers n (in_range crew.sessions crew.servers n high lt)
  ]
    where
      split : (a b : ℕ) → (a < b) ⊎ (b ≤ a)
      split a zero = inr (omega arith)
      split zero (suc b) = inl (omega arith)
      split (suc a) (suc b) = elim (split a b) [ inl low ↦ inl (omega (arith, low)) | inr high ↦ inr (omega (arith, high)) ]

  pass_numbers : map (λ (p : PartitionPass). p.number) (map (λ (t : Tokens). t.pass) tokens ++ map (λ (s : Server). s.pass) servers) ≡ own_numbers ++ later_numbers
  pass_numbers =
      let own = numbers_dealt (λ n. tokens_to n o) AreSame (λ (t : Tokens). t.pass.number) (λ n t same. same.pass.number) own_numbers tokens h.tokens_are in
      let later = numbers_dealt (server_to part o) HasServed (λ (s : Server). s.pass.number) (λ n s same. same.0.pass.number) later_numbers servers h.servers_are in
      map-append (λ (p : PartitionPass). p.number) (map (λ (t : Tokens). t.pass) tokens) (map (λ (s : Server). s.pass) servers)
      ∙ (λ i. map-map (λ (p : PartitionPass). p.number) (λ (t : Tokens). t.pass) tokens i ++ map-map (λ (p : PartitionPass). p.number) (λ (s : Server). s.pass) servers i) ∙ (λ i. own i ++ later i)

  pub all_passes : (n : ℕ) → n < process.partition.passes → Contains (map (λ (p : PartitionPass). p.number) (map (λ (t : Tokens). t.pass) tokens ++ map (λ (s : Server). s.pass) servers)) n
  all_passes n lt =
      let many = ap (λ (d : DiskProcess). d.partition.passes) h.process_is ∙ h.made_for.passes in
      subst (λ (ns : List ℕ). Contains ns n) (sym pass_numbers) (in_both n (omega (arith, lt, many)))

  -- the mail's tokens
  pub posters_of_mail : All (λ (p : PosterToken). p.mail ≡ process.mail) (map (λ (t : Tokens). t.poster) tokens)
  posters_of_mail =
      let here = ap (λ (d : DiskProcess). d.mail) (sym h.process_is) in
      All-from_recursion (λ (p : PosterToken). p.mail ≡ process.mail) _ (all-map (λ (p : PosterToken). p.mail ≡ process.mail) (λ (t : Tokens). t.poster) tokens (
      all_dealt (λ n. tokens_to n o) AreSame (λ (t : Tokens). t.poster.mail ≡ process.mail) (λ n t same. same.poster_mail ∙ here) own_numbers tokens h.tokens_are))

  pub takers_of_mail : All (λ (t : TakerToken). t.mail ≡ process.mail) (map (λ (t : Tokens). t.taker) tokens ++ map (λ (s : Server). s.taker) servers)
  takers_of_mail =
      let here = ap (λ (d : DiskProcess). d.mail) (sym h.process_is) in
      All-from_recursion (λ (t : TakerToken). t.mail ≡ process.mail) _ (of_takers (λ (t : TakerToken). t.mail ≡ process.mail) (λ n t same. same.taker_mail ∙ here) (λ n s same. same.0.taker_mail ∙ here))

  taker_numbers : map (λ (t : TakerToken). t.number) (map (λ (t : Tokens). t.taker) tokens ++ map (λ (s : Server). s.taker) servers) ≡ own_numbers ++ later_numbers
  taker_numbers =
      let own = numbers_dealt (λ n. tokens_to n o) AreSame (λ (t : Tokens). t.taker.number) (λ n t same. same.taker_number) own_numbers tokens h.tokens_are in
      let later = numbers_dealt (server_to part o) HasServed (λ (s : Server). s.taker.number) (λ n s same. same.0.taker_number) later_numbers servers h.servers_are in
      map-append (λ (t : TakerToken). t.number) (map (λ (t : Tokens). t.taker) tokens) (map (λ (s : Server). s.taker) servers)
      ∙ (λ i. map-map (λ (t : TakerToken). t.number) (λ (t : Tokens). t.taker) tokens i ++ map-map (λ (t : TakerToken). t.number) (λ (s : Server). s.taker) servers i) ∙ (λ i. own i ++ later i)

  poster_numbers : map (λ (p : PosterToken). p.number) (map (λ (t : Tokens). t.poster) tokens) ≡ own_numbers
  poster_numbers = map-map (λ (p : PosterToken). p.number) (λ (t : Tokens). t.poster) tokens ∙ numbers_dealt (λ n. tokens_to n o) AreSame (λ (t : Tokens). t.poster.number) (λ n t same. same.poster_number) own_numbers tokens h.tokens_are

  pub complete : IsComplete process.mail (map (λ (t : Tokens). t.poster) tokens) (map (λ (t : Tokens). t.taker) tokens ++ map (λ (s : Server). s.taker) servers)
  complete =
      let posters = ap (λ (d : DiskProcess). d.mail.posters) h.process_is ∙ h.made_for.posters in
      let takers = ap (λ (d : DiskProcess). d.mail.takers) h.process_is ∙ h.made_for.takers in
      record {
        all_posters = λ x lt. any_of (λ (p : PosterToken). p.number) _ x (subst (λ (ns : List ℕ). Contains ns x) (sym poster_numbers) (in_range 0 crew.sessions x (omega arith) (omega (arith, lt, posters))));
        all_takers = λ x lt. any_of (λ (t : TakerToken). t.number) _ x (subst (λ (ns : List ℕ). Contains ns x) (sym taker_numbers) (in_both x (omega (arith, lt, takers))));
      }

  -- one session at least has a pass, which knows how the partition opened
  first_root : (k : Kept) → AllByRecursion (λ (p : PartitionPass). HasRoot p (opened_with k.opening)) (map (λ (t : Tokens). t.pass) tokens ++ map (λ (s : Server). s.pass) servers) → k.opening ≡ o.opening
  first_root k roots = of (range_with_len 0 crew.sessions) tokens h.tokens_are (omega (arith, h.some, range-length crew.sessions 0)) (all_left (λ (p : PartitionPass). HasRoot p (opened_with k.opening)) (map (λ (t : Tokens). t.pass) tokens) (map (λ (s : Server). s.pass) servers) roots)
    where
      of : (ns : List ℕ) (ts : List Tokens) → AllZip AreSame (map (λ n. tokens_to n o) ns) ts → 0 < length ns → AllByRecursion (λ (p : PartitionPass). HasRoot p (opened_with k.opening)) (map (λ (t : Tokens). t.pass) ts) → k.opening ≡ o.opening
      of [] ts zip some all = absurd (omega (arith, some))
      of (n ∷ ns) [] zip some all = absurd zip
      of (n ∷ ns) (t ∷ ts) zip some all = ap (λ (x : Kept). x.opening) (some-same (opened_with k.opening) (opened_with o.opening) (sym all.0 ∙ zip.0.pass.root))

  -- what the close of its lock and its mail leaves
  pub closed : (k : Kept) → All (λ (p : PartitionPass). HasRoot p (opened_with k.opening)) (map (λ (t : Tokens). t.pass) tokens ++ map (λ (s : Server). s.pass) servers)
      → All (λ (p : PartitionPass). IsPrefix p.seen k.history) (map (λ (t : Tokens). t.pass) tokens ++ map (λ (s : Server). s.pass) servers)
      → IsMadeOf k.history (map (λ (t : Tokens). t.pass) tokens ++ map (λ (s : Server). s.pass) servers)
      → All (Contains (posted_by (map (λ (t : Tokens). t.poster) tokens))) (taken_by (map (λ (t : Tokens). t.taker) tokens ++ map (λ (s : Server). s.taker) servers))
      → IsClosed o tokens servers k
  closed k roots begins made posted =
      let passed = recursion_from_All (λ (p : PartitionPass). IsPrefix p.seen k.history) _ begins in
      let posters : posted_by (map (λ (t : Tokens). t.poster) tokens) ≡ flat_map (λ (t : Tokens). t.poster.posted) tokens = flat_map-map (λ (p : PosterToken). p.posted) (λ (t : Tokens). t.poster) tokens in
      let takers : taken_by (map (λ (t : Tokens). t.taker) tokens ++ map (λ (s : Server). s.taker) servers) ≡ flat_map (λ (t : Tokens). t.taker.taken) tokens ++ flat_map (λ (s : Server). s.taker.taken) servers =
      flat_map-append (λ (t : TakerToken). t.taken) (map (λ (t : Tokens). t.taker) tokens) (map (λ (s : Server). s.taker) servers)
      ∙ (λ i. flat_map-map (λ (t : TakerToken). t.taken) (λ (t : Tokens). t.taker) tokens i ++ flat_map-map (λ (t : TakerToken). t.taken) (λ (s : Server). s.taker) servers i) in
      record {
        opening = first_root k (recursion_from_All (λ (p : PartitionPass). HasRoot p (opened_with k.opening)) _ roots);
        made = made;
        begins = unmapped (λ (p : PartitionPass). IsPrefix p.seen k.history) (λ (t : Tokens). t.pass) tokens (all_left (λ (p : PartitionPass). IsPrefix p.seen k.history) (map (λ (t : Tokens). t.pass) tokens) (map (λ (s : Server). s.pass) servers) passed);
        posted = subst (λ (ms : List (List ℕ)). AllByRecursion (Contains ms) (flat_map (λ (t : Tokens). t.taker.taken) tokens ++ flat_map (λ (s : Server). s.taker.taken) servers)) posters
            (subst (AllByRecursion (Contains (posted_by (map (λ (t : Tokens). t.poster) tokens)))) takers (recursion_from_All (Contains (posted_by (map (λ (t : Tokens). t.poster) tokens))) _ posted));
      }
