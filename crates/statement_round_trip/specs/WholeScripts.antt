-- Which scripts are read back as they are printed.
use Rattle.std.specs.Prelude.{◌≤◌, ℕ, ◌+◌, ◌*◌, List, length, sum_by}
use Rattle.sql_base.specs.Scripts.{IsScript}
use Rattle.sql_base.specs.declared.scripts.Script.{Script}
use Rattle.sql_base.specs.declared.scripts.Work.{Work}
use Rattle.sql_base.specs.declared.statements.Statement.{Statement}
use Rattle.sql_base.specs.declared.statements.Statement.TheVariants as statement
use Rattle.statement_printer.specs.Printing.{printed}
use Rattle.statement_reader.specs.Spells.{limit, Spells}

-- an INSERT has one record
abbrev pub record_of : Statement → ℕ
record_of (statement.Insert t row) = 1
record_of st = 0

-- how many records and statements the works of a session have
abbrev pub inserts : List Work → ℕ
inserts works = sum_by (λ work. sum_by record_of work.statements) works

abbrev pub statements_in : List Work → ℕ
statements_in works = sum_by (λ work. length work.statements) works

-- the records that a script loads, and those that it inserts
abbrev pub records_of : Script → ℕ
records_of script = sum_by (λ load. length load.rows) script.loads + sum_by inserts script.sessions

abbrev pub statements_of : Script → ℕ
statements_of script = sum_by statements_in script.sessions

-- a script that may be read: it meets the rules, and has no more records, statements and printed bytes than a script may have
pub record MayBeRead (script : Script) : Type 0 where
  pub rules : IsScript script
  pub records : records_of script ≤ 4000
  pub statements : statements_of script * (script.limits.restart + 1) ≤ 500
  pub prints : length (printed script) ≤ limit

-- the bytes of such a script spell just that script
abbrev pub PrintedIsSpelled : Type 0
PrintedIsSpelled = (script : Script) → MayBeRead script → Spells (printed script) script

-- a script that bytes spell may be read
abbrev pub ReadMayBeRead : Type 0
ReadMayBeRead = (text : List ℕ) (script : Script) → Spells text script → MayBeRead script

-- and is spelled by its printed bytes as well
abbrev pub PrintedAgain : Type 0
PrintedAgain = (text : List ℕ) (script : Script) → Spells text script → Spells (printed script) script
