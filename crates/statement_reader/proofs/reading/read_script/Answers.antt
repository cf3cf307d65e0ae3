use Rattle.std.proofs.Common.{◌≡◌, arith}
use Rattle.statement_reader.specs.Positions.{fault_at}
use Rattle.statement_reader.specs.Spells.{reason_of}
use Rattle.statement_reader.proofs.Refusals.{meets_rules, refused_by_words}
use Rattle.statement_reader.proofs.reading.read_script.Goals as goal

pub returns-then-text-gt-SCRIPT_LIMIT-clause-refused : goal.returns-then-text-gt-SCRIPT_LIMIT-clause-refused
returns-then-text-gt-SCRIPT_LIMIT-clause-refused g c = record { beyond = λ _. c.fault_at.ensures; within = λ few. absurd (omega arith) }

pub returns-in-Err-At-clause-refused : goal.returns-in-Err-At-clause-refused
returns-in-Err-At-clause-refused g c =
    let same = rw c.in-Err-At.field-0-is at c.in-Err-At.ensures.same in
    let fault : c.fault_at-in-Err-At.result ≡ fault_at c.args.text.now c.in-Err-At.at (reason_of c.in-Err-At.reason) =
    cc (c.fault_at-in-Err-At.ensures, c.reason_of.ensures, c.in-Err-At.at-is, c.in-Err-At.reason-is) in
    refused_by_words c.args.text.now (record { reason = c.in-Err-At.reason; at = c.in-Err-At.at }) c.fault_at-in-Err-At.result (omega arith) same fault

pub returns-in_ok-draft-in-Ok-clause-rules : goal.returns-in_ok-draft-in-Ok-clause-rules
returns-in_ok-draft-in-Ok-clause-rules g c =
    meets_rules c.args.text.now c.in-Ok.tokens c.items.result.now _ c.in_ok-draft-in-Ok.draft c.judged.result c.in-Ok.ensures.formed c.items.ensures c.in_ok-draft-in-Ok.ensures c.judged.ensures
