-- What the symbols that must come demand of the draft, where each part of the grammar has a contract.
use Rattle.std.proofs.Common.{◌≡◌, ◌≤◌, ℕ, ◌^◌, not, List, [], ◌∷◌, ◌++◌, Bool, true, false, Option, Some, None, refl, sym, ap, subst, ◌∙◌}
use Rattle.std.specs.Prelude.{if◌then◌else◌}
use Rattle.std.specs.List.{AllByRecursion}
use Rattle.sql_base.specs.Names.{IsName}
use Rattle.statement_words.specs.Spans.{IsFormed, IsFormedWord}
use Rattle.statement_words.specs.declared.tokens.Word.{Word}
use Rattle.statement_words.specs.declared.tokens.Word.TheVariants as word
use Rattle.statement_words.specs.declared.tokens.Token.{Token}
use Rattle.statement_grammar.specs.WordsAt.{is_fixed, is_name, is_number}
use Rattle.statement_grammar.specs.Grammar.{behind, may_be_empty}
use Rattle.statement_grammar.specs.Machine.{Advance, Taken, advance, begins, takes, Finish, finish}
use Rattle.statement_grammar.specs.declared.symbols.Part.{Part}
use Rattle.statement_grammar.specs.declared.symbols.End.{End}
use Rattle.statement_grammar.specs.declared.symbols.Symbol.{Symbol}
use Rattle.statement_grammar.specs.declared.symbols.Symbol.TheVariants as symbols
use Rattle.statement_draft.specs.Names.{name_in, number_in}
use Rattle.statement_draft.specs.Judging.{came, name_came, number_came, part_came, ended, all_ended, after, go_on, word_read, end_read, read_from}
use Rattle.statement_draft.specs.declared.faults.Fault.{Fault}
use Rattle.statement_draft.specs.declared.faults.Reason.TheVariants.{Unexpected}
use Rattle.statement_draft.specs.declared.draft.Draft.{Draft}
use Rattle.statement_draft.proofs.Clean.{noted-none}
use Rattle.statement_rules.proofs.Stays as stays
use Rattle.sql_base.proofs.Truths.{some-same, not-false}

all_ended-more : (es : List End) (e : End) (d : Draft) → all_ended (es ++ e ∷ []) d ≡ ended e (all_ended es d)
unfolding all_ended
all_ended-more [] e d = refl
all_ended-more (x ∷ es) e d = all_ended-more es e (ended x d)

no_taken : (t : Taken) → None ≡ Some t → ⊥
no_taken t e = cc

name_formed : (w : Word) → IsFormedWord w → is_name w ≡ true → IsName (name_in w)
name_formed (word.Name name) f h = f
name_formed (word.Keyword k) f h = absurd (cc (h))
name_formed (word.Number n) f h = absurd (cc (h))
name_formed (word.Text text) f h = absurd (cc (h))
name_formed (word.Sign s) f h = absurd (cc (h))

number_formed : (w : Word) → IsFormedWord w → is_number w ≡ true → number_in w ≤ 2 ^ 63
number_formed (word.Number n) f h = f
number_formed (word.Keyword k) f h = absurd (cc (h))
number_formed (word.Name name) f h = absurd (cc (h))
number_formed (word.Text text) f h = absurd (cc (h))
number_formed (word.Sign s) f h = absurd (cc (h))

module _ (Pre : Part → Draft → Type 0) (Post : Part → Draft → Draft → Type 0) where
  -- what the symbols demand of the draft before them, so that Q holds behind them
  abbrev pub demands : List Symbol → (Draft → Type 0) → Draft → Type 0
  demands [] Q d = Q d
  demands (symbols.Fixed f ∷ s) Q d = demands s Q d
  demands (symbols.Name role ∷ s) Q d =
      (name : List ℕ) (at : ℕ) → IsName name → (name_came role name at d).first ≡ None → demands s Q (name_came role name at d)
  demands (symbols.Number role ∷ s) Q d =
      (n at : ℕ) → n ≤ 2 ^ 63 → (number_came role n at d).first ≡ None → demands s Q (number_came role n at d)
  demands (symbols.Part p ∷ s) Q d = Pre p d × ((e : Draft) → Post p d e → demands s Q e)
  demands (symbols.Ended e ∷ s) Q d = (ended e d).first ≡ None → demands s Q (ended e d)

  -- each part keeps its contract, where its own symbols keep theirs
  pub record Contracts : Type 0 where
    pub begins : (p : Part) (w : Word) (at : ℕ) (more : List Symbol) (d : Draft) → IsFormedWord w → behind p w ≡ Some more
        → (part_came p w at d).first ≡ None → Pre p d → demands more (Post p d) (part_came p w at d)
    pub skips : (p : Part) (d : Draft) → may_be_empty p ≡ true → Pre p d → Post p d d

  both : (xs s : List Symbol) (R Q : Draft → Type 0) (d : Draft) → demands xs R d → ((e : Draft) → R e → demands s Q e) → demands (xs ++ s) Q d
  both [] s R Q d h go = go d h
  both (symbols.Fixed f ∷ xs) s R Q d h go = both xs s R Q d h go
  both (symbols.Name role ∷ xs) s R Q d h go = λ name at is clean. both xs s R Q (name_came role name at d) (h name at is clean) go
  both (symbols.Number role ∷ xs) s R Q d h go = λ n at fits clean. both xs s R Q (number_came role n at d) (h n at fits clean) go
  both (symbols.Part p ∷ xs) s R Q d h go = (h.0, λ e post. both xs s R Q e (h.1 e post) go)
  both (symbols.Ended e ∷ xs) s R Q d h go = λ clean. both xs s R Q (ended e d) (h clean) go

  -- what holds behind them may be known as less
  pub weaker : (xs : List Symbol) (P Q : Draft → Type 0) (d : Draft) → ((e : Draft) → P e → Q e) → demands xs P d → demands xs Q d
  weaker [] P Q d f h = f d h
  weaker (symbols.Fixed g ∷ xs) P Q d f h = weaker xs P Q d f h
  weaker (symbols.Name role ∷ xs) P Q d f h = λ name at is clean. weaker xs P Q (name_came role name at d) f (h name at is clean)
  weaker (symbols.Number role ∷ xs) P Q d f h = λ n at fits clean. weaker xs P Q (number_came role n at d) f (h n at fits clean)
  weaker (symbols.Part p ∷ xs) P Q d f h = (h.0, λ e post. weaker xs P Q e f (h.1 e post))
  weaker (symbols.Ended e ∷ xs) P Q d f h = λ clean. weaker xs P Q (ended e d) f (h clean)

  module _ (k : Contracts) (Q : Draft → Type 0) (still : (d : Draft) (f : Option Fault) → Q d → Q (record d { first = f })) where
    -- behind the ends and the word that was taken
    abbrev Goes : Advance → Word → ℕ → Draft → Type 0
    Goes a w at d = (t : Taken) → a.taken ≡ Some t → (came t.role w at (all_ended a.ends d)).first ≡ None → demands t.rest Q (came t.role w at (all_ended a.ends d))

    abbrev Before : List End → List Symbol → Draft → Type 0
    Before es s d = (all_ended es d).first ≡ None → demands s Q (all_ended es d)

    takes_goes : (es : List End) (fits : Bool) (role : Symbol) (rest : List Symbol) (w : Word) (at : ℕ) (d : Draft)
        → (fits ≡ true → (came role w at (all_ended es d)).first ≡ None → demands rest Q (came role w at (all_ended es d)))
        → Goes (takes es fits role rest) w at d
    takes_goes es true role rest w at d goes = λ t e h. let is = some-same (record { role = role; rest = rest }) t e in
        subst (λ t. (came t.role w at (all_ended es d)).first ≡ None → demands t.rest Q (came t.role w at (all_ended es d))) is (goes refl) h
    takes_goes es false role rest w at d goes = λ t e h. absurd (no_taken t e)

    begins_goes : (es : List End) (p : Part) (m : Option (List Symbol)) (s : List Symbol) (empty : Bool) (later : Advance) (w : Word) (at : ℕ) (d : Draft)
        → IsFormedWord w → behind p w ≡ m → may_be_empty p ≡ empty → Before es (symbols.Part p ∷ s) d → (Before es s d → Goes later w at d)
        → Goes (begins es (symbols.Part p) m s empty later) w at d
    unfolding came
    begins_goes es p (Some more) s empty later w at d f e me b go =
        takes_goes es true (symbols.Part p) (more ++ s) w at d
        (λ fits h. let before = b (stays.came_stays (symbols.Part p) w at (all_ended es d) h) in
        both more s (Post p (all_ended es d)) Q (part_came p w at (all_ended es d)) (k.begins p w at more (all_ended es d) f e h before.0) before.1)
    begins_goes es p None s true later w at d f e me b go = go (λ h. let before = b h in before.1 (all_ended es d) (k.skips p (all_ended es d) me before.0))
    begins_goes es p None s false later w at d f e me b go = λ t et h. absurd (no_taken t et)

    ended_before : (es : List End) (e : End) (s : List Symbol) (d : Draft) → Before es (symbols.Ended e ∷ s) d → Before (es ++ e ∷ []) s d
    ended_before es e s d b h = let is = all_ended-more es e d in
        let h2 = ap (λ (x : Draft). x.first) (sym is) ∙ h in
        subst (demands s Q) (sym is) (b (stays.ended_stays e (all_ended es d) h2) h2)

    advance_goes : (es : List End) (s : List Symbol) (w : Word) (at : ℕ) (d : Draft) → IsFormedWord w → Before es s d → Goes (advance es s w) w at d
    unfolding advance came
    advance_goes es [] w at d f b = λ t e h. absurd (no_taken t e)
    advance_goes es (symbols.Fixed g ∷ s) w at d f b = takes_goes es (is_fixed w g) (symbols.Fixed g) s w at d (λ fits h. b h)
    advance_goes es (symbols.Name role ∷ s) w at d f b =
        takes_goes es (is_name w) (symbols.Name role) s w at d
        (λ fits h. b (stays.came_stays (symbols.Name role) w at (all_ended es d) h) (name_in w) at (name_formed w f fits) h)
    advance_goes es (symbols.Number role ∷ s) w at d f b =
        takes_goes es (is_number w) (symbols.Number role) s w at d
        (λ fits h. b (stays.came_stays (symbols.Number role) w at (all_ended es d) h) (number_in w) at (number_formed w f fits) h)
    advance_goes es (symbols.Part p ∷ s) w at d f b =
        begins_goes es p (behind p w) s (may_be_empty p) (advance es s w) w at d f refl refl b (λ b2. advance_goes es s w at d f b2)
    advance_goes es (symbols.Ended e ∷ s) w at d f b = advance_goes (es ++ e ∷ []) s w at d f (ended_before es e s d b)

    -- at the end nothing must come any more
    abbrev Ends : Finish → Draft → Type 0
    Ends f d = f.whole ≡ true → (all_ended f.ends d).first ≡ None → Q (all_ended f.ends d)

    by_empty : (es : List End) (p : Part) (s : List Symbol) (d : Draft) (empty : Bool) → may_be_empty p ≡ empty → Before es (symbols.Part p ∷ s) d
        → (Before es s d → Ends (finish es s) d) → Ends (if empty then finish es s else record { ends = es; whole = false }) d
    by_empty es p s d true e b go = go (λ h. let before = b h in before.1 (all_ended es d) (k.skips p (all_ended es d) e before.0))
    by_empty es p s d false e b go = λ whole h. absurd (cc (whole))

    finish_ends : (es : List End) (s : List Symbol) (d : Draft) → Before es s d → Ends (finish es s) d
    unfolding finish
    finish_ends es [] d b = λ whole h. b h
    finish_ends es (symbols.Part p ∷ s) d b = by_empty es p s d (may_be_empty p) refl b (λ b2. finish_ends es s d b2)
    finish_ends es (symbols.Ended e ∷ s) d b = finish_ends (es ++ e ∷ []) s d (ended_before es e s d b)
    finish_ends es (symbols.Fixed g ∷ s) d b = λ whole h. absurd (cc (whole))
    finish_ends es (symbols.Name role ∷ s) d b = λ whole h. absurd (cc (whole))
    finish_ends es (symbols.Number role ∷ s) d b = λ whole h. absurd (cc (whole))

    end_goes : (s : List Symbol) (d : Draft) (at : ℕ) → (end_read s d at).first ≡ None → demands s Q d → Q (end_read s d at)
    unfolding end_read all_ended
    end_goes s d at h p = let f = finish [] s in let e = all_ended f.ends d in
        let n = noted-none (not f.whole) Unexpected at e.first h in
        still e _ (finish_ends [] s d (λ h2. p) (not-false f.whole n.0) n.1)

    -- where a word was read without fault, the symbols behind it have what they demand
    after_goes : (a : Advance) (t : Token) (d : Draft) (r : List Symbol) → Goes a t.word t.first d → (after a.taken t (all_ended a.ends d)).rest ≡ Some r
        → (after a.taken t (all_ended a.ends d)).draft.first ≡ None → demands r Q (after a.taken t (all_ended a.ends d)).draft
    after_goes a t d r goes = by_taken a.taken refl
      where
        some_rest : (x y : List Symbol) → Some x ≡ Some y → x ≡ y
        some_rest x y e = cc

        by_taken : (taken : Option Taken) → a.taken ≡ taken → (after taken t (all_ended a.ends d)).rest ≡ Some r → (after taken t (all_ended a.ends d)).draft.first ≡ None
            → demands r Q (after taken t (all_ended a.ends d)).draft
        by_taken None e er h = absurd (cc (er))
        by_taken (Some taken) e er h = subst (λ r. demands r Q (came taken.role t.word t.first (all_ended a.ends d))) (some_rest taken.rest r er) (goes taken e h)

    no_fault_there : (taken : Option Taken) (t : Token) (d : Draft) → (after taken t d).rest ≡ None → (after taken t d).draft.first ≡ None → ⊥
    no_fault_there None t d e h = stays.unknown Unexpected t.first _ h
    no_fault_there (Some taken) t d e h = cc (e)

    -- words without fault meet what the symbols demand
    pub read_meets : (s : List Symbol) (d : Draft) (ts : List Token) (at : ℕ) → AllByRecursion IsFormed ts → (read_from s d ts at).first ≡ None → demands s Q d → Q (read_from s d ts at)
    unfolding read_from word_read all_ended
    read_meets s d [] at formed h p = end_goes s d at h p
    read_meets s d (t ∷ ts) at formed h p = on (word_read s d t).rest refl (λ rest. read_meets rest (word_read s d t).draft ts at formed.1) h
      where
        on : (r : Option (List Symbol)) → (word_read s d t).rest ≡ r
            → ((rest : List Symbol) → (read_from rest (word_read s d t).draft ts at).first ≡ None → demands rest Q (word_read s d t).draft → Q (read_from rest (word_read s d t).draft ts at))
            → (go_on r (word_read s d t).draft (λ rest. read_from rest (word_read s d t).draft ts at)).first ≡ None
            → Q (go_on r (word_read s d t).draft (λ rest. read_from rest (word_read s d t).draft ts at))
        on None e later h2 = absurd (no_fault_there (advance [] s t.word).taken t (all_ended (advance [] s t.word).ends d) e h2)
        on (Some rest) e later h2 =
            later rest h2
            (after_goes (advance [] s t.word) t d rest (advance_goes [] s t.word t.first d formed.0 (λ h3. p)) e (stays.read_stays rest (word_read s d t).draft ts at h2))
