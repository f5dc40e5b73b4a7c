use Rattle.std.proofs.Common.{arith, ◌∙◌, Err, ap, sym}
use Rattle.ev_text.specs.declared.TextFault.TheVariants.{TooLarge}
use Rattle.certificate_parts.proofs.EntryReading.{column_again, column_new, if_err, if_ok}
use Rattle.certificate_parts.proofs.reading.basis.take_column.Goals as goal

pub returns-clause-ok : goal.returns-clause-ok
returns-clause-ok c =
    if_ok c.new_entry.result
    (λ entry h. λ state are. column_new c.args.inst.now c.args.columns c.args.earlier.now state c.args.scan.now c.whole.new.self c.in_ok-number.field-0 entry c.in_ok-number.ensures.ok (omega arith) h.0 h.1 are)
    c.new_entry.ensures.ok

pub returns-clause-fault : goal.returns-clause-fault
returns-clause-fault c =
    if_err c.new_entry.result
    (λ fault h. λ state are.
    column_again c.args.inst.now c.args.columns c.args.earlier.now state c.args.scan.now c.whole.new.self c.in_ok-number.field-0 c.in_ok-number.ensures.ok (omega arith) h.1 are
    ∙ ap (λ f. Err f) (sym (h.0 ∙ ap (λ n. TooLarge n) c.place-at.ensures.place)))
    c.new_entry.ensures.fault
