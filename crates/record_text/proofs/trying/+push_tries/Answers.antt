use Rattle.std.proofs.Common.{rules, ◌≡◌, ◌+◌, ◌-◌, ◌++◌, ◌∷◌, [], List, take, drop, length, false, true, ap, sym, ◌∙◌, append_assoc, arith}
use Rattle.one_thread.specs.declared.shown.Shown.{Shown}
use Rattle.session_grammar.specs.Follows.{asker}
use Rattle.record_text.specs.Scaffold.Reading.{behind, is_locked_out, own, shown_read, tries_read}
use Rattle.record_text.proofs.Loops.{tries-last, tries-more}
use Rattle.record_text.proofs.trying.+push_tries.Goals as goal

pub returns-then-not-again-clause-shown : goal.returns-then-not-again-clause-shown
returns-then-not-again-clause-shown t c =
    let r = asker c.args.script.now c.args.session in
    let work = c.args.work.now in
    let ordinal = c.args.ordinal in
    let log = c.args.log.now in
    let attempt = c.in_ok-attempt.attempt in
    let mine : c.split_at.result.0.now ≡ own ordinal log = c.split_at.ensures.front ∙ ap (λ n. take n log) c.own_length.ensures.length in
    let is : attempt ≡ shown_read r ordinal work (own ordinal log) = c.in_ok-attempt.ensures ∙ ap (shown_read r ordinal work) mine in
    let stops : is_locked_out attempt.outcome ≡ false = search rules in
    c.in_ok-push.ensures.ok ∙ ap (λ (xs : List Shown). c.args.shown.now ++ xs) (sym (tries-last r work ordinal log attempt is c.args.more stops))

pub returns-then-not-again-clause-many : goal.returns-then-not-again-clause-many
returns-then-not-again-clause-many t c =
    let r = asker c.args.script.now c.args.session in
    let work = c.args.work.now in
    let ordinal = c.args.ordinal in
    let log = c.args.log.now in
    let attempt = c.in_ok-attempt.attempt in
    let mine : c.split_at.result.0.now ≡ own ordinal log = c.split_at.ensures.front ∙ ap (λ n. take n log) c.own_length.ensures.length in
    let is : attempt ≡ shown_read r ordinal work (own ordinal log) = c.in_ok-attempt.ensures ∙ ap (shown_read r ordinal work) mine in
    let stops : is_locked_out attempt.outcome ≡ false = search rules in
    ap length (sym (tries-last r work ordinal log attempt is c.args.more stops))

pub returns-clause-shown : goal.returns-clause-shown
returns-clause-shown t c =
    let r = asker c.args.script.now c.args.session in
    let work = c.args.work.now in
    let ordinal = c.args.ordinal in
    let log = c.args.log.now in
    let attempt = c.in_ok-attempt.attempt in
    let shown = c.args.shown.now in
    let mine : c.split_at.result.0.now ≡ own ordinal log = c.split_at.ensures.front ∙ ap (λ n. take n log) c.own_length.ensures.length in
    let left : c.split_at.result.1.now ≡ behind ordinal log = c.split_at.ensures.back ∙ ap (λ n. drop n log) c.own_length.ensures.length in
    let is : attempt ≡ shown_read r ordinal work (own ordinal log) = c.in_ok-attempt.ensures ∙ ap (shown_read r ordinal work) mine in
    let goes_on : is_locked_out attempt.outcome ≡ true = search rules in
    let some : c.args.more ≡ 0 → ⊥ = search rules in
    let others : List Shown = tries_read r work (ordinal + 1) (c.args.more - 1) (behind ordinal log) in
    c.in_ok-others.ensures.shown ∙ ap (λ l. c.push.new.self ++ tries_read r work (ordinal + 1) (c.args.more - 1) l) left ∙ ap (λ (xs : List Shown). xs ++ others) c.in_ok-push.ensures.ok
    ∙ append_assoc shown (attempt ∷ []) others ∙ ap (λ (xs : List Shown). shown ++ xs) (sym (tries-more r work ordinal log attempt is c.args.more some goes_on))

pub returns-clause-many : goal.returns-clause-many
returns-clause-many t c =
    let r = asker c.args.script.now c.args.session in
    let work = c.args.work.now in
    let ordinal = c.args.ordinal in
    let log = c.args.log.now in
    let attempt = c.in_ok-attempt.attempt in
    let mine : c.split_at.result.0.now ≡ own ordinal log = c.split_at.ensures.front ∙ ap (λ n. take n log) c.own_length.ensures.length in
    let left : c.split_at.result.1.now ≡ behind ordinal log = c.split_at.ensures.back ∙ ap (λ n. drop n log) c.own_length.ensures.length in
    let is : attempt ≡ shown_read r ordinal work (own ordinal log) = c.in_ok-attempt.ensures ∙ ap (shown_read r ordinal work) mine in
    let goes_on : is_locked_out attempt.outcome ≡ true = search rules in
    let some : c.args.more ≡ 0 → ⊥ = search rules in
    let others : List Shown = tries_read r work (ordinal + 1) (c.args.more - 1) (behind ordinal log) in
    let count : length others + 1 ≡ length (attempt ∷ others) = omega arith in
    ap (λ n. n + 1) (c.in_ok-others.ensures.many ∙ ap (λ l. length (tries_read r work (ordinal + 1) (c.args.more - 1) l)) left) ∙ count ∙ ap length (sym (tries-more r work ordinal log attempt is c.args.more some goes_on))
