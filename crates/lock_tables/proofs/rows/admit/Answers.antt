use Rattle.std.proofs.Common.{◌≡◌, insert, ap, sym, ◌∙◌, false, cond}
use Rattle.std.specs.List.{list_any, prefix_len}
use Rattle.sql_base.specs.Locks.{covers, placed}
use Rattle.lock_tables.specs.LockTables.{is_before}
use Rattle.lock_tables.proofs.Granting.{placed-at}
use Rattle.lock_tables.proofs.rows.admit.Goals as goal

pub returns-clause-items : goal.returns-clause-items
returns-clause-items c =
    let bare : list_any (λ own. covers own c.args.lock) c.args.locks.now.items ≡ false = ap (list_any (λ own. covers own c.args.lock)) (sym c.deref.ensures.value) ∙ sym c.is_covered.ensures ∙ c.if-is_covered.false in
    let at : c.place_of-place.result ≡ prefix_len (is_before c.args.lock) c.args.locks.now.items = c.place_of-place.ensures.place ∙ ap (prefix_len (is_before c.args.lock)) c.deref-2.ensures.value in
    c.insert.ensures.items ∙ ap (λ i. insert c.args.locks.now.items i c.args.lock) at ∙ placed-at c.args.lock c.args.locks.now.items bare ∙ ap (λ b. cond b c.args.locks.now.items (placed c.args.lock c.args.locks.now.items)) (sym bare)
