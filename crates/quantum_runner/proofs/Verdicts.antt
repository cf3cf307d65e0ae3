-- A verdict by its parts: the predicate, the lock that stands against a change, the effect.
use Rattle.std.proofs.Common.{◌≡◌, ℕ, List, Bool, true, false, Result, Ok, Err, refl}
use Rattle.sql_base.specs.Val.{Outcome, IsNumber, IsText, IsTruth, IsNothing}
use Rattle.sql_base.specs.declared.faults.Fault.{Fault}
use Rattle.sql_base.specs.declared.lock_names.Lock.{Lock}
use Rattle.sql_base.specs.declared.tables.TableDef.{TableDef}
use Rattle.sql_base.specs.declared.values.Value.{Value}
use Rattle.subset_blocks.specs.declared.Block.{Block}
use Rattle.quantum_core.specs.Verdicts.{on_met, on_predicate, unless_blocked}
use Rattle.quantum_core.specs.declared.works.Doing.{Doing}
use Rattle.quantum_core.specs.declared.works.Doing.TheVariants.{Read, Update, Delete}
use Rattle.quantum_core.specs.declared.works.SetWork.{SetWork}
use Rattle.quantum_core.specs.declared.verdicts.Verdict.{Verdict}
use Rattle.quantum_core.specs.declared.verdicts.Verdict.TheVariants.{Faulty, PassedOver}
use Rattle.quantum_runner.specs.Scaffold.Works.{bar_to_change, effect_on, met_by}

-- the verdict by whether the predicate is met
abbrev pub by_predicate : Verdict → Result Bool Fault → Verdict
by_predicate met (Ok true) = met
by_predicate met (Ok false) = PassedOver
by_predicate met (Err fault) = Faulty fault

pub predicate-told : (met : Verdict) (o : Outcome) → on_predicate met o ≡ by_predicate met (met_by o)
predicate-told met (Err fault) = refl
predicate-told met (Ok (IsTruth true)) = refl
predicate-told met (Ok (IsTruth false)) = refl
predicate-told met (Ok (IsNumber n)) = refl
predicate-told met (Ok (IsText text)) = refl
predicate-told met (Ok IsNothing) = refl

pub met-told : (table : TableDef) (locks : List Lock) (block : Block SetWork) (key : List ℕ) (row : List Value) (doing : Doing) → on_met table locks block key row doing ≡ unless_blocked (bar_to_change locks block.holder key doing) (effect_on table doing row)
met-told table locks block key row (Read columns) = refl
met-told table locks block key row (Update sets) = refl
met-told table locks block key row Delete = refl
