use Rattle.std.proofs.Common.{◌+◌, ◌-◌, length, ap, arith}
use Rattle.certificate_parts.specs.Ranges.{customer_count}
use Rattle.bound_certificate.proofs.Pairs.{next_first}
use Rattle.bound_certificate.proofs.text.writing.pairs.forbidden_pairs.Goals as goal

pub loop-place-preserved : goal.loop-place-preserved
loop-place-preserved c =
    let places = customer_count c.args.inst.now + 1 in
    next_first c.args.inst.now c.args.pairs.now c.loop-place.found.items c.push_after.new.found.items _ c.loop-place.place (places - c.loop-place.place) (places - (c.loop-place.place + 1))
    (omega (arith, ap (λ xs. length xs) c.customers.ensures.value)) c.in_ok-push_after.ensures c.loop-place.invariant
