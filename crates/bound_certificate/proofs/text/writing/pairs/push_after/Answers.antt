use Rattle.std.proofs.Common.{◌+◌, ◌-◌, length, ap, arith}
use Rattle.certificate_parts.specs.Ranges.{customer_count}
use Rattle.bound_certificate.proofs.Pairs.{next_place}
use Rattle.bound_certificate.proofs.text.writing.pairs.push_after.Goals as goal

pub loop-next-preserved : goal.loop-next-preserved
loop-next-preserved c =
    let places = customer_count c.args.inst.now + 1 in
    next_place c.args.inst.now c.args.pairs.now c.loop-next.found.items c.push_if_forbidden.new.found.items _ c.args.place c.loop-next.next (places - c.loop-next.next) (places - (c.loop-next.next + 1))
    (omega (arith, ap (λ xs. length xs) c.customers.ensures.value)) c.in_ok-push_if_forbidden.ensures c.loop-next.invariant
