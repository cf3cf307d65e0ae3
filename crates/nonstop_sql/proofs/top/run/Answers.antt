-- The command that was read is the one that the words ask for.
use Rattle.std.proofs.Common.{◌≡◌, map, string_bytes, inl, ap, ◌∙◌}
use Rattle.nonstop_sql.specs.Ends.{is_traced}
use Rattle.nonstop_sql.proofs.Choices.{one_line}
use Rattle.nonstop_sql.proofs.Endings.{unseen-alone}
use Rattle.nonstop_sql.proofs.top.run.Goals as goal

pub returns-in-Ok-clause-unseen : goal.returns-in-Ok-clause-unseen
returns-in-Ok-clause-unseen g c = λ status. unseen-alone c.in-Ok.command c.run_alone.result.status c.run_alone.ensures.ran.words_stand c.run_alone.ensures.unseen status

pub returns-in-Ok-clause-untraced : goal.returns-in-Ok-clause-untraced
returns-in-Ok-clause-untraced g c = λ asked is plain.
    let same : c.in-Ok.command ≡ asked = one_line (map string_bytes c.args.words.now) c.in-Ok.command asked c.in-Ok.ensures.asked is in
    c.run_alone.ensures.unseen (inl (ap is_traced same ∙ plain))

pub returns-in-Ok-clause-ran : goal.returns-in-Ok-clause-ran
returns-in-Ok-clause-ran g c = λ asked is enough.
    let same : c.in-Ok.command ≡ asked = one_line (map string_bytes c.args.words.now) c.in-Ok.command asked c.in-Ok.ensures.asked is in
    rw (← same) c.run_alone.ensures.ran
