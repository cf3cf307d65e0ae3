-- Each word but `--trace` gives one choice more, and a word that gives none has none.
use Rattle.std.proofs.Common.{◌≡◌, ◌≤◌, ◌<◌, ◌+◌, true, length, map, take, Err, arith, ap, sym, ◌∙◌, subst}
use Rattle.std.specs.Prelude.{not, string_bytes}
use Rattle.std.specs.List.{AllZip}
use Rattle.nonstop_sql.specs.Commands.{IsChoice, is_trace, other_words}
use Rattle.nonstop_sql.specs.declared.commands.WordsFault.TheVariants.{Refused}
use Rattle.nonstop_sql.proofs.Choices.{are_choices, passing_at, taken_more, too_many}
use Rattle.nonstop_sql.proofs.commands.choices_of.Goals as goal

pub returns-in-Err-clause-refused : goal.returns-in-Err-clause-refused
returns-in-Err-clause-refused c = λ refused choices are.
    let other : not (is_trace (string_bytes c.word-item.result)) ≡ true = ap not (sym c.is_trace.ensures ∙ c.if-is_trace.false) in
    let at = passing_at IsChoice string_bytes (λ w. not (is_trace w)) c.args.words.now choices c.loop-word.word-index c.word-item.result c.loop-word-test.true (sym c.word-item.is) other are.each in
    let same : c.in-Err.fault ≡ Refused = cc in
    c.push_choice.ensures.refused (c.in-Err.is ∙ ap Err same) at.0 at.1

pub loop-word-preserved : goal.loop-word-preserved
loop-word-preserved c =
    let other : not (is_trace (string_bytes c.word-item.result)) ≡ true = ap not (sym c.is_trace.ensures ∙ c.if-is_trace.false) in
    let pushed = c.in_default.ensures.pushed in
    subst (AllZip IsChoice (other_words (map string_bytes (take (c.loop-word.word-index + 1) c.args.words.now)))) (sym pushed.2)
    (taken_more IsChoice string_bytes (λ w. not (is_trace w)) c.args.words.now c.loop-word.choices c.loop-word.word-index c.word-item.result pushed.0 c.loop-word-test.true (sym c.word-item.is) other c.loop-word.invariant pushed.1)

pub returns-then-items-gt-MOST_CHOICES-clause-refused :
    goal.returns-then-items-gt-MOST_CHOICES-clause-refused
returns-then-items-gt-MOST_CHOICES-clause-refused c = λ refused choices are.
    let all : length c.args.words.now ≤ c.loop-word.word-index = omega (arith, c.loop-word-test.false) in
    let many : 10000 < length c.loop-word.choices = omega (arith, c.if-items-gt-MOST_CHOICES.true, ap length c.items.ensures) in
    too_many c.args.words.now c.loop-word.word-index c.loop-word.choices all c.loop-word.invariant many choices are

pub returns-clause-asked : goal.returns-clause-asked
returns-clause-asked c =
    let all : length c.args.words.now ≤ c.loop-word.word-index = omega (arith, c.loop-word-test.false) in
    let few : length c.loop-word.choices ≤ 10000 = omega (arith, c.if-items-gt-MOST_CHOICES.false, ap length c.items.ensures) in
    are_choices c.args.words.now c.loop-word.word-index c.loop-word.choices all c.loop-word.invariant few
