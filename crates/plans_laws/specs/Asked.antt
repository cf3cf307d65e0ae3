-- What plans ask can be asked in messages.
use Rattle.std.specs.Prelude.{◌<◌, ℕ, length, Contains}
use Rattle.std.specs.List.{AllByRecursion}
use Rattle.sql_base.specs.Scripts.{IsScript, Lies, parts_of}
use Rattle.sql_base.specs.declared.scripts.Script.{Script}
use Rattle.sql_base.specs.declared.scripts.Work.{Work}
use Rattle.sql_base.specs.declared.statements.Statement.{Statement}
use Rattle.dp_messages.specs.Spelling.{IsAsk}
use Rattle.session_grammar.specs.Follows.{asker, works_of}
use Rattle.session_grammar.specs.Plans.{plan_of, sents_of}
use Rattle.session_grammar.specs.declared.plans.Sent.{Sent}

-- a request that has a spelling, of one of the partitions
abbrev pub HasSpelling : ℕ → Sent → Type 0
HasSpelling parts sent = IsAsk sent.ask × (sent.part < parts)

-- each request of a statement of the script
abbrev pub PlansSpelled : Type 0
PlansSpelled =
    (script : Script) (session : ℕ) (work : Work) (statement : Statement) → IsScript script → Lies 1 (length script.sessions) session → Contains (works_of script session) work → Contains work.statements statement
    → AllByRecursion (HasSpelling (parts_of script.tables)) (sents_of (plan_of (asker script session) statement))
