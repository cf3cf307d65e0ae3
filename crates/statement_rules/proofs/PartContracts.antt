-- What each part of the grammar needs of the draft before it, and what it leaves.
use Rattle.std.proofs.Common.{◌≡◌, ◌<◌, List, length, Bool, true, false, Option, Some, None, subst}
use Rattle.std.specs.Prelude.{if◌then◌else◌}
use Rattle.sql_base.specs.Tables.{MayChange}
use Rattle.sql_base.specs.declared.lock_names.Access.{Access}
use Rattle.sql_base.specs.declared.lock_names.Mode.{Mode}
use Rattle.statement_draft.specs.declared.draft.Draft.{Draft}
use Rattle.statement_draft.specs.declared.draft.NameAt.{NameAt}
use Rattle.statement_draft.specs.declared.draft.StatementKind.TheVariants as statement_kind
use Rattle.statement_draft.specs.declared.faults.Fault.{Fault}
use Rattle.statement_grammar.specs.declared.symbols.Part.{Part}
use Rattle.statement_grammar.specs.declared.symbols.Part.TheVariants as parts
use Rattle.statement_grammar.specs.declared.symbols.Symbol.{Symbol}
use Rattle.statement_rules.proofs.Demands.{demands}
use Rattle.statement_rules.proofs.FirstSteps.{ForKeys}
use Rattle.statement_rules.proofs.RowSteps.{RowStep, Longer, RowRead}
use Rattle.statement_rules.proofs.ExpressionSteps.{OneMore, TopChanged}
use Rattle.statement_rules.proofs.WholeSteps.{Begun}
use Rattle.statement_rules.proofs.StatementSteps.{FilterStep, AssignStep}
use Rattle.statement_rules.proofs.States.{Tabling, Tabled, NextColumn, Columning, Keying, Declared, Firsting, Whole, Loading, InLoadOf, Between, Working, Stating, Known, SetsSound}

-- names more in a SELECT list
pub record NamesStep (d e : Draft) : Type 0 where
  pub names : List NameAt
  pub first : Option Fault
  pub same : e ≡ record d { statement = record d.statement { names = names }; first = first }

pub record AccessStep (d e : Draft) : Type 0 where
  pub access : Access
  pub same : e ≡ record d { statement = record d.statement { access = access } }

pub record ChangeStep (d e : Draft) : Type 0 where
  pub access : Access
  pub same : e ≡ record d { statement = record d.statement { access = access } }
  pub changes : MayChange access

pub record ModeStep (d e : Draft) : Type 0 where
  pub mode : Mode
  pub same : e ≡ record d { statement = record d.statement { mode = mode } }

-- in an UPDATE that has no filter yet
abbrev pub Updating : Draft → Type 0
Updating d = Stating d × (d.statement.kind ≡ statement_kind.Update) × (d.statement.filter ≡ None)

abbrev pub Setting : Draft → Type 0
Setting d = Updating d × ((k : Known d) × SetsSound k.table d.statement.sets d.statement.columns d.statement.code)

abbrev pub Set : Draft → Type 0
Set d = Updating d × ((k : Known d) × AssignStep k.table d.statement)

-- a work has ended
abbrev pub Worked : Draft → Type 0
Worked d = Working 0 d × (0 < length d.session)

abbrev pub Pre : Part → Draft → Type 0
Pre (parts.Limit l) d = Tabling d
Pre parts.Table d = Tabling d
Pre parts.MoreTables d = Tabled d
Pre parts.ColumnKind d = Columning d × NextColumn d.table.def.columns d.table.column
Pre parts.ColumnOrKey d = Columning d
Pre parts.MoreKeyColumns d = Keying 1 d
Pre parts.MoreChecks d = Declared d
Pre parts.Check d = Declared d
Pre parts.FirstKeys d = Declared d
Pre parts.MoreFirstKeys d = Firsting d × ForKeys d
Pre parts.Loads d = Loading d
Pre parts.MoreLoadRows d = Loading d × InLoadOf d × (0 < length d.load.rows)
Pre parts.Session d = Between d
Pre parts.MoreSessions d = Between d × (0 < length d.sessions)
Pre parts.Work d = Working 0 d
Pre parts.MoreStatements d = Stating d
Pre parts.MoreWorks d = Worked d
Pre parts.Sets d = Setting d
Pre parts.MoreSets d = Set d
Pre p d = Unit {0}

abbrev pub Post : Part → Draft → Draft → Type 0
Post (parts.Limit l) d e = Tabling e
Post parts.Table d e = Tabled e
Post parts.MoreTables d e = Tabled e
Post parts.ColumnKind d e = Columning e
Post parts.ColumnOrKey d e = Declared e
Post parts.MoreKeyColumns d e = Keying 1 e
Post parts.MoreChecks d e = Declared e
Post parts.Check d e = Declared e
Post parts.FirstKeys d e = Whole e
Post parts.MoreFirstKeys d e = Whole e
Post parts.Row d e = RowRead d e
Post parts.Literal d e = Longer d e
Post parts.MoreLiterals d e = RowStep d e
Post parts.Loads d e = Loading e
Post parts.MoreLoadRows d e = Loading e × InLoadOf e × (0 < length e.load.rows)
Post parts.Session d e = Between e × (0 < length e.sessions)
Post parts.MoreSessions d e = Between e × (0 < length e.sessions)
Post parts.Work d e = Worked e
Post parts.MoreStatements d e = Worked e
Post parts.MoreWorks d e = Worked e
Post parts.Selected d e = NamesStep d e
Post parts.MoreSelected d e = NamesStep d e
Post parts.Where d e = FilterStep d e
Post parts.Sets d e = Set e
Post parts.MoreSets d e = Set e
Post parts.ReadAccess d e = AccessStep d e
Post parts.ChangeAccess d e = ChangeStep d e
Post parts.LockMode d e = ModeStep d e
Post parts.Expression d e = Begun d e
Post parts.Condition d e = OneMore d e
Post parts.Operand d e = OneMore d e
Post parts.ProductRest d e = TopChanged d e
Post parts.SumRest d e = TopChanged d e
Post parts.CompareRest d e = TopChanged d e
Post parts.AndRest d e = TopChanged d e
Post parts.OrRest d e = TopChanged d e

abbrev pub Demand : List Symbol → (Draft → Type 0) → Draft → Type 0
Demand s Q d = demands Pre Post s Q d

-- what follows a word that begins a part
pub by_if : (b : Bool) (x more : List Symbol) (P : List Symbol → Type 0) → (if b then Some x else None) ≡ Some more → P x → P more
by_if true x more P h p = subst P (same h) p
  where
    same : Some x ≡ Some more → x ≡ more
    same e = cc
by_if false x more P h p = absurd (cc (h))

pub by_some : (x more : List Symbol) (P : List Symbol → Type 0) → Some x ≡ Some more → P x → P more
by_some x more P h p = subst P (same h) p
  where
    same : Some x ≡ Some more → x ≡ more
    same e = cc
