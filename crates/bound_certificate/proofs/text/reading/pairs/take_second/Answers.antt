use Rattle.std.proofs.Common.{◌∙◌, ◌&&◌, Err, ap, nat_eq, not, sym, arith}
use Rattle.std.proofs.lemmas.Grind.{elements}
use Rattle.std.proofs.lemmas.Bool.{eq-eqb, false≢true}
use Rattle.ev_text.specs.declared.TextFault.TheVariants.{TooLarge}
use Rattle.route_plan.specs.Limits.{greatest_number}
use Rattle.certificate_parts.specs.Reading.{is_place}
use Rattle.bound_certificate.specs.Reading.{rises_from}
use Rattle.certificate_parts.proofs.PointReading.{both_true}
use Rattle.certificate_parts.proofs.Shorter.{kept_less, kept_more}
use Rattle.bound_certificate.proofs.text.reading.pairs.take_second.Goals as goal

pub returns-then-may_stand-clause-ok : goal.returns-then-may_stand-clause-ok
returns-then-may_stand-clause-ok c =
    kept_more greatest_number (is_place c.args.inst.now) (λ m. not (nat_eq c.args.i m) && rises_from c.args.last (c.args.i, m)) c.args.scan.now c.take_place.new.scan c.in_ok-j.j.node c.in_ok-j.ensures.ok (sym c.if-may_stand.ensures)

pub returns-then-may_stand-clause-rises : goal.returns-then-may_stand-clause-rises
returns-then-may_stand-clause-rises c =
    let both = both_true (not (nat_eq c.args.i c.in_ok-j.j.node)) (rises_from c.args.last (c.args.i, c.in_ok-j.j.node)) (sym c.if-may_stand.ensures) in
    (λ same. false≢true (sym (ap not (eq-eqb c.args.i c.in_ok-j.j.node same)) ∙ both.0), both.1)

pub returns-else-may_stand-clause-fault : goal.returns-else-may_stand-clause-fault
returns-else-may_stand-clause-fault c =
    kept_less greatest_number (is_place c.args.inst.now) (λ m. not (nat_eq c.args.i m) && rises_from c.args.last (c.args.i, m)) c.args.scan.now c.take_place.new.scan c.in_ok-j.j.node c.in_ok-j.ensures.ok (sym c.if-may_stand.ensures)
    ∙ ap (λ n. Err (TooLarge n)) (sym c.place-at.ensures.place)

pub returns-in_err-j-clause-fault : goal.returns-in_err-j-clause-fault
returns-in_err-j-clause-fault = grind (arith, elements)
