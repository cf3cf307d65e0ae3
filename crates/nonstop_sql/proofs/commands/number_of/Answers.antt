-- A number is what `parse` gives of a word without a sign.
use Rattle.std.proofs.Common.{◌≡◌, get_or, nat_eq, false, ap, sym, ◌∙◌, subst}
use Rattle.nonstop_sql.specs.Commands.{IsNumeral}
use Rattle.nonstop_sql.proofs.Choices.{is_none, is_numeral}
use Rattle.nonstop_sql.proofs.commands.number_of.Goals as goal

pub returns-in-Ok-clause-found : goal.returns-in-Ok-clause-found
returns-in-Ok-clause-found c =
    let unsigned : nat_eq (get_or c.as_str.result.now 0 0) 43 ≡ false = ap (λ w. nat_eq (get_or w 0 0) 43) (c.as_str.ensures.value ∙ sym c.as_bytes.ensures.value) ∙ sym c.has_sign.ensures ∙ c.if-has_sign.false in
    subst (λ w. IsNumeral 64 w c.in-Ok.number) c.as_str.ensures.value (is_numeral 64 c.as_str.result.now c.parse.result c.parse.ensures.value.0 unsigned c.in-Ok.number c.in-Ok.is)

pub returns-in-Err-clause-none : goal.returns-in-Err-clause-none
returns-in-Err-clause-none c = λ none number is.
    let unsigned : nat_eq (get_or c.as_str.result.now 0 0) 43 ≡ false = ap (λ w. nat_eq (get_or w 0 0) 43) (c.as_str.ensures.value ∙ sym c.as_bytes.ensures.value) ∙ sym c.has_sign.ensures ∙ c.if-has_sign.false in
    is_none 64 c.as_str.result.now c.parse.result c.parse.ensures.value.0 unsigned c.in-Err._error c.in-Err.is number (subst (λ w. IsNumeral 64 w number) (sym c.as_str.ensures.value) is)
