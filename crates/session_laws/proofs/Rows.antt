-- No row, no list of a request and no part in line is the front of another: they are read off a log in one way.
use Rattle.std.proofs.Common.{◌≡◌, ℕ, zero, suc, List, [], ◌∷◌, ◌++◌, Option, None, true, refl, ap, sym, ◌∙◌, subst, inl, inr, append_assoc}
use Rattle.std.specs.Prelude.{IsSome}
use Rattle.sql_base.specs.declared.outcomes.Abort.{Abort}
use Rattle.sql_base.specs.declared.statements.Statement.{Statement}
use Rattle.dp_messages.specs.declared.replies.Reply.TheVariants as reply
use Rattle.dp_messages.specs.declared.requests.Ask.{Ask}
use Rattle.dp_messages.specs.declared.requests.Ask.TheVariants.{Continue}
use Rattle.dp_messages.specs.declared.requests.Request.{Request}
use Rattle.session_grammar.specs.declared.logs.Answer.{Answer}
use Rattle.session_grammar.specs.declared.logs.Answer.TheVariants.{Reply}
use Rattle.session_grammar.specs.declared.logs.LogEntry.{LogEntry}
use Rattle.session_grammar.specs.declared.logs.LogEntry.TheVariants.{Asked, Drew}
use Rattle.session_grammar.specs.Follows.{AfterRow, AreExchanges, InLineBy, InTurn, IsInLine, IsList, IsSingle, joined}
use Rattle.session_grammar.specs.Plans.{Asker, plan_of}
use Rattle.session_grammar.specs.declared.plans.Plan.{Plan}
use Rattle.session_grammar.specs.declared.plans.Plan.TheVariants.{Singles, Subsets}
use Rattle.session_grammar.specs.declared.plans.Sent.{Sent}
use Rattle.session_grammar.specs.Rows.{IsAsked, IsExchange, failure, is_locked}
use Rattle.session_laws.specs.Scaffold.Leading.{answer_of}
use Rattle.session_grammar.proofs.Readings.{behind_same}

-- two fronts and their ends are the same
pub record Same (xs ys : List LogEntry) (e f : Option Abort) : Type 0 where
  pub front : xs ≡ ys
  pub end : e ≡ f

pub asked_answer : (part : ℕ) (request : Request) (answer : Answer) (e : LogEntry) → IsAsked part request answer e → answer_of e ≡ answer
asked_answer part request answer (Asked p s q l a) h = h.2
asked_answer part request answer (Drew n f a) h = absurd h

pub first_same : (x y : LogEntry) (xs ys : List LogEntry) → x ∷ xs ≡ y ∷ ys → x ≡ y
first_same x y xs ys h = cc h

pub rest_same : (x y : LogEntry) (xs ys : List LogEntry) → x ∷ xs ≡ y ∷ ys → xs ≡ ys
rest_same x y xs ys h = cc h

pub regroup : (xs ls us ys ms vs : List LogEntry) → (xs ++ ls) ++ us ≡ (ys ++ ms) ++ vs → xs ++ (ls ++ us) ≡ ys ++ (ms ++ vs)
regroup xs ls us ys ms vs h = sym (append_assoc xs ls us) ∙ h ∙ append_assoc ys ms vs

-- an entry has one answer
one_answer : (part : ℕ) (request : Request) (a b : Answer) (e f : LogEntry) → e ≡ f → IsAsked part request a e → IsAsked part request b f → a ≡ b
one_answer part request a b e f same h k = sym (asked_answer part request a e h) ∙ ap answer_of same ∙ asked_answer part request b f k

not_locked : (n : ℕ) (a : Answer) → (is_locked a ≡ true → suc n ≡ 0) → is_locked a ≡ true → ⊥
not_locked n a none locked = let zero_is = none locked in absurd (cc zero_is)

record SameRow (xs ys : List LogEntry) (a b : Answer) : Type 0 where
  row : xs ≡ ys
  answer : a ≡ b

row_same : (n part : ℕ) (request : Request) (xs ys us vs : List LogEntry) (a b : Answer) → IsExchange n part request xs a → IsExchange n part request ys b → xs ++ us ≡ ys ++ vs → SameRow xs ys a b
row_same n part request [] ys us vs a b h k is = absurd h
row_same n part request (e ∷ xs) [] us vs a b h k is = absurd k
row_same n part request (e ∷ []) (f ∷ []) us vs a b h k is =
    let same = first_same e f us vs is in
    record { row = ap (λ (x : LogEntry). x ∷ []) same; answer = one_answer part request a b e f same h.0 k.0 }
row_same zero part request (e ∷ []) (f ∷ g ∷ ys) us vs a b h k is = absurd k
row_same zero part request (e ∷ g ∷ xs) ys us vs a b h k is = absurd h
row_same (suc n) part request (e ∷ []) (f ∷ g ∷ ys) us vs a b h k is =
    let same = first_same e f us (g ∷ ys ++ vs) is in
    let locked = one_answer part request a (Reply (reply.Locked k.0.0)) e f same h.0 k.0.1 in
    absurd (not_locked n a h.1 (ap is_locked locked))
row_same (suc n) part request (e ∷ g ∷ xs) (f ∷ []) us vs a b h k is =
    let same = first_same e f (g ∷ xs ++ us) vs is in
    let locked = one_answer part request (Reply (reply.Locked h.0.0)) b e f same h.0.1 k.0 in
    absurd (not_locked n b k.1 (ap is_locked (sym locked)))
row_same (suc n) part request (e ∷ g ∷ xs) (f ∷ i ∷ ys) us vs a b h k is =
    let more = row_same n part request (g ∷ xs) (i ∷ ys) us vs a b h.1 k.1 (rest_same e f (g ∷ xs ++ us) (i ∷ ys ++ vs) is) in
    let same = first_same e f (g ∷ xs ++ us) (i ∷ ys ++ vs) is in
    record { row = ap (λ x. x ∷ g ∷ xs) same ∙ ap (λ x. f ∷ x) more.row; answer = more.answer }

module _ (r : Asker) (ordinal : ℕ) where
  none_left : (ls ms : List (List LogEntry)) → ls ≡ [] → ms ≡ [] → joined ls ≡ joined ms
  none_left ls ms l m = ap joined (l ∙ sym m)

  -- behind a row with the same answer
  after_same : (part : ℕ) (answer : Answer) (ls ms : List (List LogEntry)) (us vs : List LogEntry) (e f : Option Abort) → joined ls ++ us ≡ joined ms ++ vs
      → AfterRow answer (λ subset last. AreExchanges r ordinal part (Continue subset last) ls e) ls e → AfterRow answer (λ subset last. AreExchanges r ordinal part (Continue subset last) ms f) ms f
      → ((subset : ℕ) (last : List ℕ) → AreExchanges r ordinal part (Continue subset last) ls e → AreExchanges r ordinal part (Continue subset last) ms f → Same (joined ls) (joined ms) e f)
      → Same (joined ls) (joined ms) e f
  after_same part (Reply (reply.Redrive subset last cause rows changed)) ls ms us vs e f is h k more = more subset last h k
  after_same part (Reply (reply.Ended rows changed)) ls ms us vs e f is h k more = record { front = none_left ls ms h.0 k.0; end = h.1 ∙ sym k.1 }
  after_same part answer ls ms us vs e f is h k more = record { front = none_left ls ms h.0 k.0; end = h.2 ∙ sym k.2 }

  rows_same : (part : ℕ) (ask : Ask) (ls ms : List (List LogEntry)) (us vs : List LogEntry) (e f : Option Abort) → AreExchanges r ordinal part ask ls e → AreExchanges r ordinal part ask ms f
      → joined ls ++ us ≡ joined ms ++ vs → Same (joined ls) (joined ms) e f
  rows_same part ask [] ms us vs e f h k is = absurd h
  rows_same part ask (l ∷ ls) [] us vs e f h k is = absurd k
  rows_same part ask (l ∷ ls) (m ∷ ms) us vs e f h k is =
      let whole = regroup l (joined ls) us m (joined ms) vs is in
      let row = row_same r.limits.patience part (record { ordinal = ordinal; ask = ask }) l m (joined ls ++ us) (joined ms ++ vs) h.0 k.0 h.1 k.1 whole in
      let behind = behind_same l m (joined ls ++ us) (joined ms ++ vs) row.row whole in
      let goes = subst (λ a. AfterRow a (λ subset last. AreExchanges r ordinal part (Continue subset last) ls e) ls e) row.answer h.2 in
      let more = after_same part k.0 ls ms us vs e f behind goes k.2 (λ subset last x y. rows_same part (Continue subset last) ls ms us vs e f x y behind) in
      record { front = ap (λ x. x ++ joined ls) row.row ∙ ap (λ x. m ++ x) more.front; end = more.end }

  pub list_same : (sent : Sent) (xs ys us vs : List LogEntry) (e f : Option Abort) → IsList r ordinal sent xs e → IsList r ordinal sent ys f → xs ++ us ≡ ys ++ vs → Same xs ys e f
  list_same sent xs ys us vs e f h k is =
      let same = rows_same sent.part sent.ask h.0 k.0 us vs e f h.2 k.2 (ap (λ x. x ++ us) (sym h.1) ∙ is ∙ ap (λ x. x ++ vs) k.1) in
      record { front = h.1 ∙ same.front ∙ sym k.1; end = same.end }

  pub single_same : (sent : Sent) (xs ys us vs : List LogEntry) (e f : Option Abort) → IsSingle r ordinal sent xs e → IsSingle r ordinal sent ys f → xs ++ us ≡ ys ++ vs → Same xs ys e f
  single_same sent xs ys us vs e f h k is =
      let row = row_same r.limits.patience sent.part (record { ordinal = ordinal; ask = sent.ask }) xs ys us vs h.0 k.0 h.1 k.1 is in
      record { front = row.row; end = h.2 ∙ ap failure row.answer ∙ sym k.2 }

-- two lists of lists and their ends are the same
pub record SameLists (ls ms : List (List LogEntry)) (e f : Option Abort) : Type 0 where
  pub lists : ls ≡ ms
  pub end : e ≡ f

-- lists in turn, where each is read in one way before what may come behind it: anything where it is whole, `Then` where it fails
module _ {A : Type 0} (R : A → List LogEntry → Option Abort → Type 0) (Then : Option Abort → List LogEntry → Type 0) (then_none : (us : List LogEntry) → Then None us)
    (one : (x : A) (xs ys us vs : List LogEntry) (e f : Option Abort) → R x xs e → R x ys f → Then e us → Then f vs → xs ++ us ≡ ys ++ vs → Same xs ys e f) where
  pub turns_same : (things : List A) (ls ms : List (List LogEntry)) (us vs : List LogEntry) (e f : Option Abort) → InTurn R things ls e → InTurn R things ms f → Then e us → Then f vs
      → joined ls ++ us ≡ joined ms ++ vs → SameLists ls ms e f
  turns_same [] [] [] us vs e f h k t u is = record { lists = refl; end = h ∙ sym k }
  turns_same [] (l ∷ ls) ms us vs e f h k t u is = absurd h
  turns_same [] [] (m ∷ ms) us vs e f h k t u is = absurd k
  turns_same (x ∷ things) [] ms us vs e f h k t u is = absurd h
  turns_same (x ∷ things) (l ∷ ls) [] us vs e f h k t u is = absurd k
  turns_same (x ∷ things) (l ∷ ls) (m ∷ ms) us vs e f (inl h) (inl k) t u is =
      let whole = regroup l (joined ls) us m (joined ms) vs is in
      let same = one x l m (joined ls ++ us) (joined ms ++ vs) None None h.0 k.0 (then_none (joined ls ++ us)) (then_none (joined ms ++ vs)) whole in
      let more = turns_same things ls ms us vs e f h.1 k.1 t u (behind_same l m (joined ls ++ us) (joined ms ++ vs) same.front whole) in
      record { lists = ap (λ y. y ∷ ls) same.front ∙ ap (λ y. m ∷ y) more.lists; end = more.end }
  turns_same (x ∷ things) (l ∷ ls) (m ∷ ms) us vs e f (inl h) (inr k) t u is =
      let whole = regroup l (joined ls) us m (joined ms) vs is in
      let u_here = subst (λ y. Then f (joined y ++ vs)) (sym k.2) u in
      let same = one x l m (joined ls ++ us) (joined ms ++ vs) None f h.0 k.0 (then_none (joined ls ++ us)) u_here whole in
      let some : IsSome {T = Abort} None = subst IsSome (sym same.end) k.1 in
      absurd (cc some)
  turns_same (x ∷ things) (l ∷ ls) (m ∷ ms) us vs e f (inr h) (inl k) t u is =
      let whole = regroup l (joined ls) us m (joined ms) vs is in
      let t_here = subst (λ y. Then e (joined y ++ us)) (sym h.2) t in
      let same = one x l m (joined ls ++ us) (joined ms ++ vs) e None h.0 k.0 t_here (then_none (joined ms ++ vs)) whole in
      let some : IsSome {T = Abort} None = subst IsSome same.end h.1 in
      absurd (cc some)
  turns_same (x ∷ things) (l ∷ ls) (m ∷ ms) us vs e f (inr h) (inr k) t u is =
      let whole = regroup l (joined ls) us m (joined ms) vs is in
      let t_here = subst (λ y. Then e (joined y ++ us)) (sym h.2) t in
      let u_here = subst (λ y. Then f (joined y ++ vs)) (sym k.2) u in
      let same = one x l m (joined ls ++ us) (joined ms ++ vs) e f h.0 k.0 t_here u_here whole in
      record { lists = ap (λ y. y ∷ ls) same.front ∙ ap (λ y. m ∷ y) (h.2 ∙ sym k.2); end = same.end }

module _ (r : Asker) (ordinal : ℕ) where
  pub in_line_by : (plan : Plan) (xs ys us vs : List LogEntry) (e f : Option Abort) → InLineBy r ordinal plan xs e → InLineBy r ordinal plan ys f → xs ++ us ≡ ys ++ vs → Same xs ys e f
  in_line_by (Subsets sents) xs ys us vs e f h k is =
      let same = turns_same (IsList r ordinal) (λ end list. Unit {0}) (λ list. tt) (λ x as1 as2 u v e1 e2 p q t1 t2. list_same r ordinal x as1 as2 u v e1 e2 p q) sents h.0 k.0 us vs e f h.2 k.2 tt tt
      (ap (λ x. x ++ us) (sym h.1) ∙ is ∙ ap (λ x. x ++ vs) k.1) in
      record { front = h.1 ∙ ap joined same.lists ∙ sym k.1; end = same.end }
  in_line_by (Singles sents) xs ys us vs e f h k is =
      let same = turns_same (IsSingle r ordinal) (λ end list. Unit {0}) (λ list. tt) (λ x as1 as2 u v e1 e2 p q t1 t2. single_same r ordinal x as1 as2 u v e1 e2 p q) sents h.0 k.0 us vs e f h.2 k.2 tt tt
      (ap (λ x. x ++ us) (sym h.1) ∙ is ∙ ap (λ x. x ++ vs) k.1) in
      record { front = h.1 ∙ ap joined same.lists ∙ sym k.1; end = same.end }

  -- the part of a statement in line
  pub in_line_same : (s : Statement) (xs ys us vs : List LogEntry) (e f : Option Abort) → IsInLine r ordinal s xs e → IsInLine r ordinal s ys f → xs ++ us ≡ ys ++ vs → Same xs ys e f
  in_line_same s xs ys us vs e f h k is = in_line_by (plan_of r s) xs ys us vs e f h k is
