use Rattle.std.proofs.Common.{arith, rules, ◌≡◌, ◌≢◌, ◌∙◌, Err, ap, length, subst, sym}
use Rattle.std.proofs.lemmas.Grind.{common_steps}
use Rattle.std.specs.List.{All}
use Rattle.certificate_parts.specs.Refusals.{or_refused}
use Rattle.certificate_parts.specs.Ranges.{HasSet}
use Rattle.certificate_parts.specs.Ranges.{IsPrice, LabelFits}
use Rattle.bound_certificate.specs.Reading.{section_at}
use Rattle.certificate_parts.specs.declared.cert_text.CertText.TheVariants.{Memory}
use Rattle.bound_certificate.proofs.PartReading.{no_prices}
use Rattle.certificate_parts.proofs.PriceLines.{prices_are}
use Rattle.bound_certificate.proofs.text.reading.section.take_section.Goals as goal

pub returns-in_err-head-clause-fault : goal.returns-in_err-head-clause-fault
returns-in_err-head-clause-fault c =
    let broken = c.in_err-head.ensures.fault c.args.inst.now in
    search rules

pub returns-in_err-prices-clause-fault : goal.returns-in_err-prices-clause-fault
returns-in_err-prices-clause-fault c =
    let fault = c.in_err-prices.field-0.0 in
    let head = c.in_ok-head.head in
    let broken : fault ≢ Memory → or_refused (section_at c.args.inst.now c.args.scan.now) ≡ Err fault =
    λ known. no_prices c.args.inst.now c.args.scan.now c.take_section_head.new.scan head.weight head.pairs head.labels fault (c.in_ok-head.ensures.ok c.args.inst.now) (c.in_err-prices.ensures.fault known) in
    search rules

pub returns-clause-fits : goal.returns-clause-fits
returns-clause-fits c =
    let are = prices_are c.args.inst.now c.take_section_head.new.scan c.take_prices.new.scan c.in_ok-prices.prices.items c.in_ok-prices.ensures.ok in
    record {
      weight = c.in_ok-head.ensures.weight;
      one_price = ap (λ xs. length xs) c.from_vec.ensures ∙ are.1;
      prices = subst (All IsPrice) (sym c.from_vec.ensures) are.0;
      pairs = c.in_ok-pairs.ensures.customers;
      few = let count = ap (λ xs. length xs) c.from_vec-2.ensures in omega (arith, count, c.in_ok-labels.ensures.count, c.in_ok-head.ensures.labels);
      labels = subst (All (LabelFits c.args.inst.now)) (sym c.from_vec-2.ensures) c.in_ok-labels.ensures.fits;
    }

pub returns-clause-kept : goal.returns-clause-kept
returns-clause-kept c = record {
  pairs_are = c.customers-customers.ensures.pairs;
  sets = subst (All HasSet) (sym c.from_vec-2.ensures) c.in_ok-labels.ensures.kept;
}

pub returns-in_err-labels-clause-fault : goal.returns-in_err-labels-clause-fault
returns-in_err-labels-clause-fault = grind (arith, common_steps)
