use Rattle.std.proofs.Common.{◌≡◌, ap, ◌∙◌, subst}
use Rattle.std.specs.Prelude.{IfOk}
use Rattle.one_thread.specs.Text.{run_text}
use Rattle.record_text.specs.Scaffold.Reading.{sessions_read, tables_read}
use Rattle.record_text.proofs.Sessions.{result-read}
use Rattle.record_text.proofs.texts.text.Goals as goal

pub returns : goal.returns
returns c =
    let script = c.args.script.now in
    let kept = c.args.kept.now in
    let shown : c.items-3.result.now ≡ sessions_read script 1 script.sessions kept.logs = c.items-3.ensures ∙ c.in_ok-shown.ensures ∙ ap (sessions_read script 1 script.sessions) c.items.ensures in
    let records : c.items-4.result.now ≡ tables_read script.tables kept.rows =
    c.items-4.ensures ∙ c.in_ok-records.ensures ∙ (λ i. tables_read (c.items-tables.ensures i) (c.items-2.ensures i)) in
    result-read script kept c.requires (λ v. v.items) c.print_run.result
    (subst (λ text. IfOk c.print_run.result (λ bytes. bytes.items ≡ text)) (λ i. run_text (c.items-tables.ensures i) (shown i) (records i)) c.print_run.ensures)
