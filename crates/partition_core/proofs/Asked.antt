-- What a request's codes keep: the rows that an UPDATE makes are rows of the table.
use Rattle.std.proofs.Common.{◌≡◌, ℕ, List, Option, Some, None, refl, ap, sym, subst}
use Rattle.std.specs.Option.{option_map}
use Rattle.sql_base.specs.Tables.{AreSets}
use Rattle.sql_base.specs.declared.expressions.Expr.{Expr}
use Rattle.sql_base.specs.declared.key_ranges.KeyRange.{KeyRange}
use Rattle.sql_base.specs.declared.lock_names.Access.{Access}
use Rattle.sql_base.specs.declared.lock_names.TxnName.{TxnName}
use Rattle.sql_base.specs.declared.statements.Assign.{Assign}
use Rattle.sql_base.specs.declared.tables.TableDef.{TableDef}
use Rattle.predicate_codes.specs.Decoding.{filter_of}
use Rattle.predicate_codes.specs.SetLists.{sets_of}
use Rattle.predicate_codes.proofs.ExactSets.{reads_sets}
use Rattle.subset_blocks.specs.declared.Block.{Block}
use Rattle.quantum_core.specs.declared.works.Doing.{Doing}
use Rattle.quantum_core.specs.declared.works.Doing.TheVariants.{Read, Update, Delete}
use Rattle.quantum_core.specs.declared.works.SetWork.{SetWork}
use Rattle.dp_messages.specs.declared.requests.Ask.{Ask}
use Rattle.dp_messages.specs.declared.requests.Ask.TheVariants.{BeginRead, BeginUpdate, BeginDelete, Continue, ReadKey, Insert, LockGranule, Prepare, EndCommit, EndUndo}
use Rattle.partition_state.specs.State.{State}
use Rattle.partition_state.specs.Step.{set_work}
use Rattle.partition_laws.specs.Keeping.{DoingKeeps}
use Rattle.partition_laws.specs.Moves.{block_of, first_block}
use Rattle.value_laws.proofs.Sets.{updates_keep_rows}
use Rattle.partition_core.specs.Scaffold.Contents.{IsRowAt}

-- the doing of a block is the one that was asked
block-doing : (t : TxnName) (access : Access) (range : KeyRange) (filter : Option (Option Expr)) (doing : Option Doing) (block : Block SetWork) → option_map (first_block t access range) (set_work filter doing) ≡ Some block → doing ≡ Some block.work.doing
block-doing t access range None doing block e = absurd (cc)
block-doing t access range (Some f) None block e = absurd (cc)
block-doing t access range (Some f) (Some d) block e =
    let same : first_block t access range (record { filter = f; doing = d }) ≡ block = cc in
    ap Some (ap (λ (b : Block SetWork). b.work.doing) same)

update-doing : (sets : Option (List Assign)) (doing : Doing) → option_map Update sets ≡ Some doing → (list : List Assign) × (sets ≡ Some list) × (doing ≡ Update list)
update-doing None doing e = absurd (cc)
update-doing (Some list) doing e = (list, refl, (cc))

reads-keep : (table : TableDef) (columns : List ℕ) (doing : Doing) → Some (Read columns) ≡ Some doing → DoingKeeps (IsRowAt table) table doing
reads-keep table columns doing e = let same : Read columns ≡ doing = cc in subst (DoingKeeps (IsRowAt table) table) same tt

pub sets-keep : (table : TableDef) (sets : List Assign) → AreSets table sets → DoingKeeps (IsRowAt table) table (Update sets)
sets-keep table sets are key row new is_row e = (updates_keep_rows table sets row new are is_row e).0

pub doing-asked : (p : State) (t : TxnName) (ask : Ask) (block : Block SetWork) → block_of p t ask ≡ Some block → DoingKeeps (IsRowAt p.table) p.table block.work.doing
doing-asked p t (BeginRead access granule range filter columns) block e =
    reads-keep p.table columns block.work.doing (block-doing t access range (filter_of p.table filter) (Some (Read columns)) block e)
doing-asked p t (BeginUpdate access granule range filter sets) block e =
    let doing = update-doing (sets_of p.table sets) block.work.doing (block-doing t access range (filter_of p.table filter) (option_map Update (sets_of p.table sets)) block e) in
    subst (DoingKeeps (IsRowAt p.table) p.table) (sym doing.2) (sets-keep p.table doing.0 ((reads_sets p.table sets doing.0).0 doing.1).0)
doing-asked p t (BeginDelete access granule range filter) block e =
    let doing = block-doing t access range (filter_of p.table filter) (Some Delete) block e in
    let same : Delete ≡ block.work.doing = cc in
    subst (DoingKeeps (IsRowAt p.table) p.table) same tt
doing-asked p t (ReadKey access key filter columns) block e =
    reads-keep p.table columns block.work.doing (block-doing t access (record { low = key; high = key }) (filter_of p.table filter) (Some (Read columns)) block e)
doing-asked p t (Continue subset last) block e = absurd (cc)
doing-asked p t (Insert row) block e = absurd (cc)
doing-asked p t (LockGranule prefix mode) block e = absurd (cc)
doing-asked p t Prepare block e = absurd (cc)
doing-asked p t (EndCommit stamp) block e = absurd (cc)
doing-asked p t EndUndo block e = absurd (cc)
