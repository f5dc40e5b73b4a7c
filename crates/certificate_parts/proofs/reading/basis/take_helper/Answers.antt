use Rattle.std.proofs.Common.{◌∙◌, Err, ap, sym}
use Rattle.ev_text.specs.declared.TextFault.TheVariants.{TooLarge}
use Rattle.certificate_parts.proofs.EntryReading.{helper_again, helper_new, if_err, if_ok}
use Rattle.certificate_parts.proofs.reading.basis.take_helper.Goals as goal

pub returns-clause-ok : goal.returns-clause-ok
returns-clause-ok c =
    let some = c.in-Some.ensures.some in
    if_ok c.new_entry.result
    (λ entry h. λ state are.
    helper_new c.args.inst.now c.args.columns c.args.earlier.now state c.args.scan.now c.whole.new.self c.in-Some.number c.in_ok-node.field-0 entry c.requires c.in_ok-node.ensures.ok some.0 some.1 some.2 h.0 h.1 are)
    c.new_entry.ensures.ok

pub returns-clause-fault : goal.returns-clause-fault
returns-clause-fault c =
    let some = c.in-Some.ensures.some in
    if_err c.new_entry.result
    (λ fault h. λ state are.
    helper_again c.args.inst.now c.args.columns c.args.earlier.now state c.args.scan.now c.whole.new.self c.in-Some.number c.in_ok-node.field-0 c.requires c.in_ok-node.ensures.ok some.0 some.1 some.2 h.1 are
    ∙ ap (λ f. Err f) (sym (h.0 ∙ ap (λ n. TooLarge n) c.place-at.ensures.place)))
    c.new_entry.ensures.fault
