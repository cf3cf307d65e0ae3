-- Words that begin a script go on to one.
use Rattle.std.proofs.Common.{◌≡◌, List, [], ◌∷◌, ◌++◌, Bool, true, false, ◌||◌, Option, Some, None, refl, sym, ap, subst, ◌∙◌, cond, append_assoc}
use Rattle.std.specs.Prelude.{option_and_then}
use Rattle.std.proofs.lemmas.Slice.Eq.{bytes_eq-Decides}
use Rattle.statement_words.specs.declared.tokens.Word.{Word}
use Rattle.statement_words.specs.Keywords.{spelling}
use Rattle.statement_words.specs.Spans.{sign_spelling}
use Rattle.statement_grammar.specs.WordsAt.{is_fixed}
use Rattle.statement_grammar.specs.Grammar.{behind, may_be_empty, script}
use Rattle.statement_grammar.specs.Machine.{Advance, Taken, advance, Finish, begins, takes, finish}
use Rattle.statement_grammar.specs.Completing.{leads, Fill, GoOn, Stop}
use Rattle.statement_grammar.specs.declared.symbols.Fixed.{Fixed}
use Rattle.statement_grammar.specs.declared.symbols.Fixed.TheVariants as fixed
use Rattle.statement_grammar.specs.declared.symbols.End.{End}
use Rattle.statement_grammar.specs.declared.symbols.End.TheVariants as ends
use Rattle.statement_grammar.specs.declared.symbols.Part.{Part}
use Rattle.statement_grammar.specs.declared.symbols.Part.TheVariants as parts
use Rattle.statement_grammar.specs.declared.symbols.Symbol.{Symbol}
use Rattle.statement_grammar.specs.declared.symbols.Symbol.TheVariants as symbols
use Rattle.statement_grammar.proofs.Fewest.{fixed_word, a_name, a_number, fewest, completion, opens, absorbs, absorbs_at, first_word, Safe}
use Rattle.statement_grammar.proofs.Safety.{behind_safe}
use Rattle.sql_base.proofs.Truths.{first_two, neither, or_left, or_right, some-same}

-- safety of lists that are put together

completion-append : (m s : List Symbol) → completion (m ++ s) ≡ completion m ++ completion s
completion-append [] s = refl
completion-append (symbols.Fixed f ∷ m) s = ap (λ ws. fixed_word f ∷ ws) (completion-append m s)
completion-append (symbols.Name role ∷ m) s = ap (λ ws. a_name ∷ ws) (completion-append m s)
completion-append (symbols.Number role ∷ m) s = ap (λ ws. a_number ∷ ws) (completion-append m s)
completion-append (symbols.Part p ∷ m) s = ap (λ ws. fewest p ++ ws) (completion-append m s) ∙ sym (append_assoc (fewest p) (completion m) (completion s))
completion-append (symbols.Ended e ∷ m) s = completion-append m s

first_word-append : (ws vs : List Word) (x : Option Word) → first_word (ws ++ vs) x ≡ first_word ws (first_word vs x)
first_word-append [] vs x = refl
first_word-append (w ∷ ws) vs x = refl

safe-append : (x : Option Word) (m s : List Symbol) → Safe (first_word (completion s) x) m → Safe x s → Safe x (m ++ s)
safe-append x [] s hm hs = hs
safe-append x (symbols.Fixed f ∷ m) s hm hs = safe-append x m s hm hs
safe-append x (symbols.Name role ∷ m) s hm hs = safe-append x m s hm hs
safe-append x (symbols.Number role ∷ m) s hm hs = safe-append x m s hm hs
safe-append x (symbols.Part p ∷ m) s hm hs = (
  ap (absorbs_at p) (ap (λ ws. first_word ws x) (completion-append m s) ∙ first_word-append (completion m) (completion s) x) ∙ hm.0,
  safe-append x m s hm.1 hs,
)
safe-append x (symbols.Ended e ∷ m) s hm hs = safe-append x m s hm hs

rest_is : (t u : Taken) → Some t ≡ Some u → t.rest ≡ u.rest
rest_is t u e = cc

abbrev taken : Symbol → List Symbol → Taken
taken role rest = record { role = role; rest = rest }

-- a word keeps safety

abbrev SafeRest : Option Word → Advance → Type 0
SafeRest x a = (t : Taken) → a.taken ≡ Some t → Safe x t.rest

takes_safe : (x : Option Word) (ends : List End) (b : Bool) (role : Symbol) (s : List Symbol) → Safe x s → SafeRest x (takes ends b role s)
takes_safe x ends true role s hs t e = subst (Safe x) (rest_is (taken role s) t e) hs
takes_safe x ends false role s hs t e = absurd (cc)

begins_safe : (x : Option Word) (ends : List End) (role : Symbol) (o : Option (List Symbol)) (s : List Symbol) (empty : Bool) (later : Advance) → ((more : List Symbol) → o ≡ Some more → Safe x (more ++ s)) → SafeRest x later → SafeRest x (begins ends role o s empty later)
begins_safe x ends role (Some more) s empty later f hl = takes_safe x ends true role (more ++ s) (f more refl)
begins_safe x ends role None s true later f hl = hl
begins_safe x ends role None s false later f hl = λ t e. absurd (cc)

advance_safe : (x : Option Word) (ends : List End) (s : List Symbol) (w : Word) → Safe x s → SafeRest x (advance ends s w)
unfolding advance
advance_safe x ends [] w hs = λ t e. absurd (cc)
advance_safe x ends (symbols.Fixed f ∷ s) w hs = takes_safe x ends _ _ s hs
advance_safe x ends (symbols.Name role ∷ s) w hs = takes_safe x ends _ _ s hs
advance_safe x ends (symbols.Number role ∷ s) w hs = takes_safe x ends _ _ s hs
advance_safe x ends (symbols.Part p ∷ s) w hs =
    begins_safe x ends _ _ s _ _ (λ more e. safe-append x more s (behind_safe p (first_word (completion s) x) w more hs.0 e) hs.1) (advance_safe x ends s w hs.1)
advance_safe x ends (symbols.Ended e ∷ s) w hs = advance_safe x (ends ++ e ∷ []) s w hs

-- what a word leads to
abbrev step : List Symbol → Word → Option Taken
step s w = (advance [] s w).taken

led_by : (s : List Symbol) (w : Word) (ws : List Word) (o : Option Taken) (r : List Symbol) → option_and_then (λ t. leads t.rest ws) o ≡ Some r → (t : Taken) × (o ≡ Some t) × (leads t.rest ws ≡ Some r)
led_by s w ws (Some t) r e = (t, refl, e)
led_by s w ws None r e = absurd (cc)

leads_safe : (x : Option Word) (ws : List Word) (s r : List Symbol) → Safe x s → leads s ws ≡ Some r → Safe x r
unfolding leads
leads_safe x [] s r hs e = subst (Safe x) (some-same s r e) hs
leads_safe x (w ∷ ws) s r hs e = let t = led_by s w ws (step s w) r e in leads_safe x ws t.0.rest r (advance_safe x [] s w hs t.0 t.1) t.2

-- the ends that were passed don't matter

begins_same : (es fs : List End) (role : Symbol) (o : Option (List Symbol)) (s : List Symbol) (empty : Bool) (a b : Advance) → a.taken ≡ b.taken → (begins es role o s empty a).taken ≡ (begins fs role o s empty b).taken
begins_same es fs role (Some more) s empty a b h = refl
begins_same es fs role None s true a b h = h
begins_same es fs role None s false a b h = refl

same_taken : (es fs : List End) (s : List Symbol) (w : Word) → (advance es s w).taken ≡ (advance fs s w).taken
unfolding advance
same_taken es fs [] w = refl
same_taken es fs (symbols.Fixed f ∷ s) w = refl
same_taken es fs (symbols.Name role ∷ s) w = refl
same_taken es fs (symbols.Number role ∷ s) w = refl
same_taken es fs (symbols.Part p ∷ s) w = begins_same es fs _ (behind p w) s _ _ _ (same_taken es fs s w)
same_taken es fs (symbols.Ended e ∷ s) w = same_taken (es ++ e ∷ []) (fs ++ e ∷ []) s w

choose : {A B : Type 0} (f : A → B) (b : Bool) (x y : A) (u v : B) → f x ≡ u → f y ≡ v → f (cond b x y) ≡ cond b u v
choose f true x y u v hx hy = hx
choose f false x y u v hx hy = hy

abbrev whole_of : Finish → Bool
whole_of f = f.whole

abbrev stopped : List End → Finish
stopped ends = record { ends = ends; whole = false }

same_whole : (es fs : List End) (s : List Symbol) → (finish es s).whole ≡ (finish fs s).whole
unfolding finish
same_whole es fs [] = refl
same_whole es fs (symbols.Fixed f ∷ s) = refl
same_whole es fs (symbols.Name role ∷ s) = refl
same_whole es fs (symbols.Number role ∷ s) = refl
same_whole es fs (symbols.Part p ∷ s) =
    choose whole_of (may_be_empty p) (finish es s) (stopped es) (finish fs s).whole false (same_whole es fs s) refl
    ∙ sym (choose whole_of (may_be_empty p) (finish fs s) (stopped fs) (finish fs s).whole false refl refl)
same_whole es fs (symbols.Ended e ∷ s) = same_whole (es ++ e ∷ []) (fs ++ e ∷ []) s

-- symbols that may take no words are passed

-- the same words fill both
abbrev Passes : List Symbol → List Symbol → List Word → Type 0
Passes s r ws = Fill r ws → Fill s ws

passes_nothing : (s r : List Symbol) → (finish [] s).whole ≡ (finish [] r).whole → Passes s r []
unfolding leads
passes_nothing s r h fill = record { rest = s; lead = refl; whole = h ∙ ap (λ x. (finish [] x).whole) (some-same r fill.rest fill.lead) ∙ fill.whole }

passes_word : (s r : List Symbol) (w : Word) (ws : List Word) → step s w ≡ step r w → Passes s r (w ∷ ws)
unfolding leads
passes_word s r w ws h fill = record { rest = fill.rest; lead = ap (option_and_then (λ t. leads t.rest ws)) h ∙ fill.lead; whole = fill.whole }

passes_end : (e : End) (s : List Symbol) (ws : List Word) → Passes (symbols.Ended e ∷ s) s ws
unfolding advance finish
passes_end e s [] = passes_nothing _ s (same_whole (e ∷ []) [] s)
passes_end e s (w ∷ ws) = passes_word _ s w ws (same_taken (e ∷ []) [] s w)

unopened : (o : Option (List Symbol)) → elim o [ None ↦ false | Some more ↦ true ] ≡ false → o ≡ None
unopened None h = refl
unopened (Some more) h = absurd (cc)

passes_part : (p : Part) (s : List Symbol) (ws : List Word) → may_be_empty p ≡ true → ((w : Word) → absorbs p w ≡ false → behind p w ≡ None) → absorbs_at p (first_word ws None) ≡ false → Passes (symbols.Part p ∷ s) s ws
unfolding advance finish
passes_part p s [] empty f h = passes_nothing _ s (ap (λ b. whole_of (cond b (finish [] s) (stopped []))) empty)
passes_part p s (w ∷ ws) empty f h =
    passes_word _ s w ws (ap (λ o. (begins [] (symbols.Part p) o s (may_be_empty p) (advance [] s w)).taken) (f w h)
    ∙ ap (λ b. (begins [] (symbols.Part p) None s b (advance [] s w)).taken) empty)

-- a part that takes no word in isn't begun by it
shut : (p : Part) → may_be_empty p ≡ true → (w : Word) → absorbs p w ≡ false → behind p w ≡ None
shut (parts.Limit l) m w h = unopened _ h
shut parts.Table m w h = absurd (cc)
shut parts.MoreTables m w h = unopened _ h
shut parts.ColumnKind m w h = absurd (cc)
shut parts.ColumnOrKey m w h = absurd (cc)
shut parts.MoreKeyColumns m w h = unopened _ h
shut parts.MoreChecks m w h = unopened _ h
shut parts.Check m w h = absurd (cc)
shut parts.FirstKeys m w h = unopened _ (or_left _ _ h)
shut parts.MoreFirstKeys m w h = unopened _ h
shut parts.Row m w h = absurd (cc)
shut parts.Literal m w h = absurd (cc)
shut parts.MoreLiterals m w h = unopened _ h
shut parts.Loads m w h = unopened _ h
shut parts.MoreLoadRows m w h = unopened _ h
shut parts.Session m w h = absurd (cc)
shut parts.MoreSessions m w h = unopened _ (or_left _ _ h)
shut parts.Work m w h = absurd (cc)
shut parts.MoreStatements m w h = absurd (cc)
shut parts.MoreWorks m w h = unopened _ h
shut parts.Selected m w h = absurd (cc)
shut parts.MoreSelected m w h = unopened _ h
shut parts.Where m w h = unopened _ (or_left _ _ h)
shut parts.Sets m w h = absurd (cc)
shut parts.MoreSets m w h = unopened _ (or_left _ _ h)
shut parts.ReadAccess m w h = absurd (cc)
shut parts.ChangeAccess m w h = absurd (cc)
shut parts.LockMode m w h = absurd (cc)
shut parts.Expression m w h = absurd (cc)
shut parts.Condition m w h = absurd (cc)
shut parts.Operand m w h = absurd (cc)
shut parts.ProductRest m w h = unopened _ h
shut parts.SumRest m w h = unopened _ (or_left _ _ h)
shut parts.CompareRest m w h = unopened _ (or_right _ _ (or_right _ _ h))
shut parts.AndRest m w h = unopened _ (or_left _ _ h)
shut parts.OrRest m w h = unopened _ (or_left _ _ h)

-- the words fill what they fill behind a part that may be empty
passed : (p : Part) (s : List Symbol) (ws : List Word) → may_be_empty p ≡ true → absorbs_at p (first_word ws None) ≡ false → Passes (symbols.Part p ∷ s) s ws
passed p s ws m h = passes_part p s ws m (shut p m) h

-- a list of symbols that take no words before these
abbrev Empty : List Symbol → List Word → Type 0
Empty [] ws = Unit {0}
Empty (symbols.Part p ∷ m) ws = (may_be_empty p ≡ true) × (absorbs_at p (first_word ws None) ≡ false) × Empty m ws
Empty (symbols.Ended e ∷ m) ws = Empty m ws
Empty (symbol ∷ m) ws = ⊥

all_passed : (m s : List Symbol) (ws : List Word) → Empty m ws → Passes (m ++ s) s ws
all_passed [] s ws h = λ fill. fill
all_passed (symbols.Part p ∷ m) s ws h = λ fill. passed p (m ++ s) ws h.0 h.1 (all_passed m s ws h.2 fill)
all_passed (symbols.Ended e ∷ m) s ws h = λ fill. passes_end e (m ++ s) ws (all_passed m s ws h fill)
all_passed (symbols.Fixed f ∷ m) s ws h = absurd h
all_passed (symbols.Name role ∷ m) s ws h = absurd h
all_passed (symbols.Number role ∷ m) s ws h = absurd h

-- what is left of a part behind its fewest words
abbrev left : Part → List Symbol
left parts.Table = symbols.Ended ends.Table ∷ symbols.Part parts.MoreTables ∷ []
left parts.ColumnOrKey = symbols.Part parts.MoreChecks ∷ []
left parts.Session =
    symbols.Ended ends.Work ∷ symbols.Part parts.MoreWorks ∷ symbols.Ended ends.Session ∷ symbols.Part parts.MoreSessions ∷ []
left parts.Work = symbols.Ended ends.Work ∷ symbols.Part parts.MoreWorks ∷ []
left parts.MoreStatements = symbols.Ended ends.Work ∷ symbols.Part parts.MoreWorks ∷ []
left parts.Sets =
    symbols.Part parts.ProductRest ∷ symbols.Part parts.SumRest ∷ symbols.Part parts.CompareRest ∷ symbols.Part parts.AndRest
    ∷ symbols.Part parts.OrRest ∷ symbols.Ended ends.Assign ∷ symbols.Part parts.MoreSets ∷ []
left parts.Expression = symbols.Part parts.ProductRest ∷ symbols.Part parts.SumRest ∷ symbols.Part parts.CompareRest ∷ []
left parts.Condition = symbols.Part parts.ProductRest ∷ symbols.Part parts.SumRest ∷ symbols.Part parts.CompareRest ∷ []
left p = []

-- behind the fewest words of a part that isn't empty
behind_fewest : (p : Part) → may_be_empty p ≡ false → (s : List Symbol) (ws : List Word) → leads (symbols.Part p ∷ s) (fewest p ++ ws) ≡ leads (left p ++ s) ws
unfolding leads advance behind
behind_fewest (parts.Limit l) m s ws = absurd (cc)
behind_fewest parts.Table m s ws = refl
behind_fewest parts.MoreTables m s ws = absurd (cc)
behind_fewest parts.ColumnKind m s ws = refl
behind_fewest parts.ColumnOrKey m s ws = refl
behind_fewest parts.MoreKeyColumns m s ws = absurd (cc)
behind_fewest parts.MoreChecks m s ws = absurd (cc)
behind_fewest parts.Check m s ws = refl
behind_fewest parts.FirstKeys m s ws = absurd (cc)
behind_fewest parts.MoreFirstKeys m s ws = absurd (cc)
behind_fewest parts.Row m s ws = refl
behind_fewest parts.Literal m s ws = refl
behind_fewest parts.MoreLiterals m s ws = absurd (cc)
behind_fewest parts.Loads m s ws = absurd (cc)
behind_fewest parts.MoreLoadRows m s ws = absurd (cc)
behind_fewest parts.Session m s ws = refl
behind_fewest parts.MoreSessions m s ws = absurd (cc)
behind_fewest parts.Work m s ws = refl
behind_fewest parts.MoreStatements m s ws = refl
behind_fewest parts.MoreWorks m s ws = absurd (cc)
behind_fewest parts.Selected m s ws = refl
behind_fewest parts.MoreSelected m s ws = absurd (cc)
behind_fewest parts.Where m s ws = absurd (cc)
behind_fewest parts.Sets m s ws = refl
behind_fewest parts.MoreSets m s ws = absurd (cc)
behind_fewest parts.ReadAccess m s ws = refl
behind_fewest parts.ChangeAccess m s ws = refl
behind_fewest parts.LockMode m s ws = refl
behind_fewest parts.Expression m s ws = refl
behind_fewest parts.Condition m s ws = refl
behind_fewest parts.Operand m s ws = refl
behind_fewest parts.ProductRest m s ws = absurd (cc)
behind_fewest parts.SumRest m s ws = absurd (cc)
behind_fewest parts.CompareRest m s ws = absurd (cc)
behind_fewest parts.AndRest m s ws = absurd (cc)
behind_fewest parts.OrRest m s ws = absurd (cc)

none_left : (p : Part) → Empty (left p) []
none_left parts.Table = (refl, refl, tt)
none_left parts.ColumnOrKey = (refl, refl, tt)
none_left parts.Session = (refl, refl, (refl, refl, tt))
none_left parts.Work = (refl, refl, tt)
none_left parts.MoreStatements = (refl, refl, tt)
none_left parts.Sets = (refl, refl, (refl, refl, (refl, refl, (refl, refl, (refl, refl, (refl, refl, tt))))))
none_left parts.Expression = (refl, refl, (refl, refl, (refl, refl, tt)))
none_left parts.Condition = (refl, refl, (refl, refl, (refl, refl, tt)))
none_left p = tt

some_left : (p : Part) (w : Word) (ws : List Word) → absorbs p w ≡ false → Empty (left p) (w ∷ ws)
some_left parts.Table w ws h = (refl, h, tt)
some_left parts.ColumnOrKey w ws h = (refl, h, tt)
some_left parts.Session w ws h = (refl, or_right _ _ h, (refl, h, tt))
some_left parts.Work w ws h = (refl, h, tt)
some_left parts.MoreStatements w ws h = (refl, h, tt)
some_left parts.Sets w ws h =
    let c = or_left _ _ (or_right _ _ h) in let rest = or_right _ _ (or_right _ _ h) in (
      refl,
      or_left _ _ c,
      (
        refl,
        first_two (opens parts.ProductRest w) (opens parts.SumRest w) (opens parts.CompareRest w) c,
        (
          refl,
          c,
          (
            refl,
            neither _ _ (or_left _ _ rest) c,
            (refl, neither _ _ (or_right _ _ rest) (neither _ _ (or_left _ _ rest) c), (refl, h, tt)),
          ),
        ),
      ),
    )
some_left parts.Expression w ws h = (refl, or_left _ _ h, (refl, first_two (opens parts.ProductRest w) (opens parts.SumRest w) (opens parts.CompareRest w) h, (refl, h, tt)))
some_left parts.Condition w ws h = (refl, or_left _ _ h, (refl, first_two (opens parts.ProductRest w) (opens parts.SumRest w) (opens parts.CompareRest w) h, (refl, h, tt)))
some_left p w ws h = tt

nothing_more : (p : Part) (ws : List Word) → absorbs_at p (first_word ws None) ≡ false → Empty (left p) ws
nothing_more p [] h = none_left p
nothing_more p (w ∷ ws) h = some_left p w ws h

-- a word that is taken leads on
taken_word : (s r : List Symbol) (w : Word) (ws : List Word) (t : Taken) → step s w ≡ Some t → t.rest ≡ r → Fill r ws → Fill s (w ∷ ws)
unfolding leads
taken_word s r w ws t e same fill =
    record { rest = fill.rest; lead = ap (option_and_then (λ t. leads t.rest ws)) e ∙ ap (λ r. leads r ws) same ∙ fill.lead; whole = fill.whole }

is_itself : (f : Fixed) → is_fixed (fixed_word f) f ≡ true
is_itself (fixed.Keyword k) = (bytes_eq-Decides (spelling k) (spelling k)).1 refl
is_itself (fixed.Sign s) = (bytes_eq-Decides (sign_spelling s) (sign_spelling s)).1 refl

no_words : (p : Part) → may_be_empty p ≡ true → fewest p ≡ []
no_words parts.Table m = absurd (cc)
no_words parts.ColumnKind m = absurd (cc)
no_words parts.ColumnOrKey m = absurd (cc)
no_words parts.Check m = absurd (cc)
no_words parts.Row m = absurd (cc)
no_words parts.Literal m = absurd (cc)
no_words parts.Session m = absurd (cc)
no_words parts.Work m = absurd (cc)
no_words parts.MoreStatements m = absurd (cc)
no_words parts.Selected m = absurd (cc)
no_words parts.Sets m = absurd (cc)
no_words parts.ReadAccess m = absurd (cc)
no_words parts.ChangeAccess m = absurd (cc)
no_words parts.LockMode m = absurd (cc)
no_words parts.Expression m = absurd (cc)
no_words parts.Condition m = absurd (cc)
no_words parts.Operand m = absurd (cc)
no_words p m = refl

filled_part : (p : Part) (empty : Bool) → may_be_empty p ≡ empty → (s : List Symbol) → absorbs_at p (first_word (completion s) None) ≡ false → Fill s (completion s) → Fill (symbols.Part p ∷ s) (fewest p ++ completion s)
filled_part p true m s h fill = subst (λ ws. Fill (symbols.Part p ∷ s) (ws ++ completion s)) (sym (no_words p m)) (passed p s (completion s) m h fill)
filled_part p false m s h fill = let rest = all_passed (left p) s (completion s) (nothing_more p (completion s) h) fill in
    record { rest = rest.rest; lead = behind_fewest p m s (completion s) ∙ rest.lead; whole = rest.whole }

-- each safe place can be filled
filled : (s : List Symbol) → Safe None s → Fill s (completion s)
unfolding leads advance finish
filled [] hs = record { rest = []; lead = refl; whole = refl }
filled (symbols.Fixed f ∷ s) hs =
    taken_word (symbols.Fixed f ∷ s) s (fixed_word f) (completion s) (taken (symbols.Fixed f) s)
    (ap (λ b. cond b (Some (taken (symbols.Fixed f) s)) None) (is_itself f)) refl (filled s hs)
filled (symbols.Name role ∷ s) hs =
    taken_word (symbols.Name role ∷ s) s a_name (completion s) (taken (symbols.Name role) s) refl refl (filled s hs)
filled (symbols.Number role ∷ s) hs =
    taken_word (symbols.Number role ∷ s) s a_number (completion s) (taken (symbols.Number role) s) refl refl (filled s hs)
filled (symbols.Part p ∷ s) hs = filled_part p (may_be_empty p) refl s hs.0 (filled s hs.1)
filled (symbols.Ended e ∷ s) hs = passes_end e s (completion s) (filled s hs)

leads-append : (ws more : List Word) (s r : List Symbol) → leads s ws ≡ Some r → leads s (ws ++ more) ≡ leads r more
unfolding leads
leads-append [] more s r e = ap (λ r. leads r more) (some-same s r e)
leads-append (w ∷ ws) more s r e = let t = led_by s w ws (step s w) r e in
    ap (option_and_then (λ t. leads t.rest (ws ++ more))) t.1 ∙ leads-append ws more t.0.rest r t.2

none_on : (o : Option Taken) (ws vs : List Word) → ((t : Taken) → leads t.rest ws ≡ None → leads t.rest vs ≡ None) → option_and_then (λ t. leads t.rest ws) o ≡ None → option_and_then (λ t. leads t.rest vs) o ≡ None
none_on None ws vs f h = refl
none_on (Some t) ws vs f h = f t h

leads-none : (ws more : List Word) (s : List Symbol) → leads s ws ≡ None → leads s (ws ++ more) ≡ None
unfolding leads
leads-none [] more s e = absurd (cc)
leads-none (w ∷ ws) more s e = none_on (step s w) ws (ws ++ more) (λ t h. leads-none ws more t.rest h) e

script_safe : Safe None script
unfolding behind
script_safe = (refl, (refl, (refl, (refl, (refl, (refl, (refl, (refl, tt))))))))

pub goes_on : GoOn
goes_on ws s e = let fill = filled s (leads_safe None ws script s script_safe e) in
    (completion s, record { rest = fill.rest; lead = leads-append ws (completion s) script s e ∙ fill.lead; whole = fill.whole })

pub stops : Stop
stops ws e more fill = no_lead fill.rest (sym (leads-none ws more script e) ∙ fill.lead)
  where
    no_lead : (r : List Symbol) → None ≡ Some r → ⊥
    no_lead r h = absurd (cc)
