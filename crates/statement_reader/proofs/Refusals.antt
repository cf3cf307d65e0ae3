-- What comes of a text is what its words say.
use Rattle.std.proofs.Common.{◌≡◌, ◌≤◌, ◌<◌, ℕ, List, length, Option, Some, None, Result, Ok, Err, sym, ap, ◌∙◌, subst, arith}
use Rattle.std.specs.Prelude.{IfOk, IfErr}
use Rattle.std.specs.List.{AllByRecursion}
use Rattle.sql_base.specs.Scripts.{IsScript}
use Rattle.sql_base.specs.declared.scripts.Script.{Script}
use Rattle.statement_words.specs.Spans.{IsFormed}
use Rattle.statement_rules.proofs.AllParts.{clean_is_script}
use Rattle.statement_words.specs.declared.tokens.Token.{Token}
use Rattle.statement_words.specs.Reading.{Place}
use Rattle.statement_words.specs.Words.{words_of}
use Rattle.statement_printer.specs.Printing.{printed}
use Rattle.statement_draft.specs.Judging.{read, script_of}
use Rattle.statement_draft.specs.declared.draft.Draft.{Draft}
use Rattle.statement_draft.specs.declared.faults.Fault.{Fault}
use Rattle.statement_reader.specs.Spells.{limit, Spells, ReadsAs, FaultIn, FaultOf, IsFault, IsRefusal, Judges}
use Rattle.statement_reader.specs.declared.faults.ReadFault.{ReadFault}
use Rattle.statement_reader.specs.declared.faults.ReadFault.TheVariants as faults
use Rattle.statement_reader.specs.declared.faults.ScriptFault.{ScriptFault}

pub found_is_spelled : (text : List ℕ) (tokens : List Token) (r : Result Script ReadFault) → length text ≤ limit → words_of text ≡ Ok tokens
    → Judges text (read tokens (length text)) r → IfOk r (Spells text)
found_is_spelled text tokens (Ok script) short words h = record { within = short; tokens = tokens; words = words; clean = h.0; meant = h.1; prints = h.2 }
found_is_spelled text tokens (Err e) short words h = tt

-- no fault of a draft without one, but for its bytes as it is printed
prints_too_much : (text : List ℕ) (fault : ScriptFault) (first : Option Fault) (script : Script) → first ≡ None → FaultIn text fault first script → limit < length (printed script)
prints_too_much text fault None script clean h = h.0
prints_too_much text fault (Some first) script clean h = cc

only_one : (text : List ℕ) (d : Draft) (r : Result Script ReadFault) (s : Script) → d.first ≡ None → s ≡ script_of d → length (printed s) ≤ limit → Judges text d r → ReadsAs r s
only_one text d (Ok script) s clean meant prints h = h.1 ∙ sym meant
only_one text d (Err faults.NoMemory) s clean meant prints h = tt
only_one text d (Err (faults.Script fault)) s clean meant prints h =
    let many : limit < length (printed (script_of d)) = prints_too_much text fault d.first (script_of d) clean h in
    let few : length (printed (script_of d)) ≤ limit = subst (λ (x : Script). length (printed x) ≤ limit) meant prints in
    omega arith

same_tokens : (text : List ℕ) (a b : List Token) → words_of text ≡ Ok a → words_of text ≡ Ok b → a ≡ b
same_tokens text a b h k = cc

pub spelled_is_found : (text : List ℕ) (tokens : List Token) (r : Result Script ReadFault) → words_of text ≡ Ok tokens
    → Judges text (read tokens (length text)) r → (s : Script) → Spells text s → ReadsAs r s
spelled_is_found text tokens r words h s spelled =
    let same : spelled.tokens ≡ tokens = same_tokens text spelled.tokens tokens spelled.words words in
    let clean : (read tokens (length text)).first ≡ None = subst (λ (ts : List Token). (read ts (length text)).first ≡ None) same spelled.clean in
    let meant : s ≡ script_of (read tokens (length text)) = subst (λ (ts : List Token). s ≡ script_of (read ts (length text))) same spelled.meant in
    only_one text (read tokens (length text)) r s clean meant spelled.prints h

pub refused_by_draft : (text : List ℕ) (tokens : List Token) (r : Result Script ReadFault) → length text ≤ limit → words_of text ≡ Ok tokens
    → Judges text (read tokens (length text)) r → IfErr r (IsRefusal text)
refused_by_draft text tokens (Ok script) short words h = tt
refused_by_draft text tokens (Err faults.NoMemory) short words h = tt
refused_by_draft text tokens (Err (faults.Script fault)) short words h = record {
  beyond = λ long. absurd (omega arith);
  within = λ few. subst (FaultOf text fault) (sym words) h;
}

-- a text whose words have a fault spells nothing
pub no_words_no_script : (text : List ℕ) (place : Place) → words_of text ≡ Err place → (s : Script) → Spells text s → (P : Type 0) → P
no_words_no_script text place h s spelled P = cc (h, spelled.words)

pub refused_by_words : (text : List ℕ) (place : Place) (fault : ScriptFault) → length text ≤ limit → words_of text ≡ Err place → FaultOf text fault (Err place) → IsFault text fault
refused_by_words text place fault short words h = record {
  beyond = λ long. absurd (omega arith);
  within = λ few. subst (FaultOf text fault) (sym words) h;
}

pub spelled_once : (text : List ℕ) (a b : Script) → Spells text a → Spells text b → a ≡ b
spelled_once text a b h k =
    let same : h.tokens ≡ k.tokens = same_tokens text h.tokens k.tokens h.words k.words in
    h.meant ∙ ap (λ (ts : List Token). script_of (read ts (length text))) same ∙ sym k.meant

-- what is read meets every rule
rules_met : (text : List ℕ) (d : Draft) (r : Result Script ReadFault) → (d.first ≡ None → IsScript (script_of d)) → Judges text d r → IfOk r IsScript
rules_met text d (Ok script) met h = subst IsScript (sym h.1) (met h.0)
rules_met text d (Err e) met h = tt

pub meets_rules : (text : List ℕ) (tokens items : List Token) (at : ℕ) (d : Draft) (r : Result Script ReadFault) → AllByRecursion IsFormed tokens → items ≡ tokens
    → d ≡ read items at → Judges text d r → IfOk r IsScript
meets_rules text tokens items at d r formed same is h =
    rules_met text d r (subst (λ (x : Draft). x.first ≡ None → IsScript (script_of x)) (sym is) (clean_is_script items at (subst (AllByRecursion IsFormed) (sym same) formed))) h
