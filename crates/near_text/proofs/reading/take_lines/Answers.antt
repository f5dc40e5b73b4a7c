use Rattle.std.proofs.Common.{arith, rules, ◌≡◌, ◌≢◌, ◌∙◌, Err, Ok, map, subst}
use Rattle.certificate_parts.specs.Refusals.{or_refused}
use Rattle.certificate_parts.specs.declared.cert_text.CertText.TheVariants.{Memory}
use Rattle.near_proof.specs.Ranges.{NearFits}
use Rattle.near_text.specs.NearIn.{IsKept}
use Rattle.near_text.specs.Reading.{lines_at}
use Rattle.near_text.specs.Written.{written_near, written_near_label, written_set}
use Rattle.near_text.proofs.PriceRows.{prices_are}
use Rattle.near_text.proofs.WholeReading.{lines_are_read, no_labels, no_prices, no_sets, no_tight, same_proof}
use Rattle.near_text.proofs.reading.take_lines.Goals as goal

pub returns-in_err-prices-clause-fault : goal.returns-in_err-prices-clause-fault
returns-in_err-prices-clause-fault c =
    let fault = c.in_err-prices.field-0.0 in
    let broken : fault ≢ Memory → or_refused (lines_at c.args.inst.now c.args.bound c.args.weight c.args.count c.args.scan.now) ≡ Err fault =
    λ known. no_prices c.args.inst.now c.args.bound c.args.weight c.args.count c.args.scan.now fault (c.in_err-prices.ensures.fault known) in
    search rules

pub returns-in_err-sets-clause-fault : goal.returns-in_err-sets-clause-fault
returns-in_err-sets-clause-fault c =
    let fault = c.in_err-sets.field-0.0 in
    let broken : fault ≢ Memory → or_refused (lines_at c.args.inst.now c.args.bound c.args.weight c.args.count c.args.scan.now) ≡ Err fault =
    λ known. no_sets c.args.inst.now c.args.bound c.args.weight c.args.count c.args.scan.now c.take_prices.new.scan c.in_ok-prices.prices.items c.in_ok-prices.ensures.ok fault (c.in_err-sets.ensures.fault known) in
    search rules

pub returns-in_err-labels-clause-fault : goal.returns-in_err-labels-clause-fault
returns-in_err-labels-clause-fault c =
    let fault = c.in_err-labels.field-0.0 in
    let broken : fault ≢ Memory → or_refused (lines_at c.args.inst.now c.args.bound c.args.weight c.args.count c.args.scan.now) ≡ Err fault =
    λ known. no_labels c.args.inst.now c.args.bound c.args.weight c.args.count c.args.scan.now c.take_prices.new.scan c.in_ok-prices.prices.items c.in_ok-prices.ensures.ok
    c.take_nears.new.scan (map (written_set c.args.inst.now) c.in_ok-sets.sets.items) c.in_ok-sets.ensures.ok fault (c.in_err-labels.ensures.fault known) in
    search rules

pub returns-in_err-tight-clause-fault : goal.returns-in_err-tight-clause-fault
returns-in_err-tight-clause-fault c =
    let fault = c.in_err-tight.field-0.0 in
    let broken : fault ≢ Memory → or_refused (lines_at c.args.inst.now c.args.bound c.args.weight c.args.count c.args.scan.now) ≡ Err fault =
    λ known. no_tight c.args.inst.now c.args.bound c.args.weight c.args.count c.args.scan.now c.take_prices.new.scan c.in_ok-prices.prices.items c.in_ok-prices.ensures.ok
    c.take_nears.new.scan (map (written_set c.args.inst.now) c.in_ok-sets.sets.items) c.in_ok-sets.ensures.ok
    c.take_labels.new.scan (map (written_near_label c.args.inst.now) c.in_ok-labels.labels.items) c.in_ok-labels.ensures.ok c.tight_count.result c.tight_count.ensures fault (c.in_err-tight.ensures.fault known) in
    search rules

pub returns-clause-ok : goal.returns-clause-ok
returns-clause-ok c =
    let g = c.args.inst.now in
    let same = same_proof c.args.bound c.args.weight c.in_ok-prices.prices.items c.from_vec.result c.in_ok-sets.sets.items c.from_vec-2.result c.in_ok-labels.labels.items c.from_vec-3.result c.in_ok-tight.tight.items c.from_vec-4.result
    c.from_vec.ensures c.from_vec-2.ensures c.from_vec-3.ensures c.from_vec-4.ensures in
    lines_are_read g c.args.bound c.args.weight c.args.count c.args.scan.now c.take_prices.new.scan c.in_ok-prices.prices.items c.in_ok-prices.ensures.ok
    c.take_nears.new.scan (map (written_set g) c.in_ok-sets.sets.items) c.in_ok-sets.ensures.ok
    c.take_labels.new.scan (map (written_near_label g) c.in_ok-labels.labels.items) c.in_ok-labels.ensures.ok c.tight_count.result c.tight_count.ensures c.take_tight.new.scan c.in_ok-tight.tight.items c.in_ok-tight.ensures.ok
    ∙ (λ i. Ok (written_near g (same i), c.take_tight.new.scan))

pub returns-clause-fits : goal.returns-clause-fits
returns-clause-fits c =
    let g = c.args.inst.now in
    let same = same_proof c.args.bound c.args.weight c.in_ok-prices.prices.items c.from_vec.result c.in_ok-sets.sets.items c.from_vec-2.result c.in_ok-labels.labels.items c.from_vec-3.result c.in_ok-tight.tight.items c.from_vec-4.result
    c.from_vec.ensures c.from_vec-2.ensures c.from_vec-3.ensures c.from_vec-4.ensures in
    let prices = prices_are g c.args.scan.now c.take_prices.new.scan c.in_ok-prices.prices.items c.in_ok-prices.ensures.ok in
    subst (λ p. NearFits g p) same (record {
      bound = c.requires.bound;
      weight = c.requires.weight;
      one_price = prices.1;
      prices = prices.0;
      sets = c.in_ok-sets.ensures.fits;
      few = omega (arith, c.in_ok-labels.ensures.count, c.requires.count);
      labels = c.in_ok-labels.ensures.fits;
      one_tight = c.in_ok-tight.ensures.count ∙ c.tight_count.ensures;
      tight = c.in_ok-tight.ensures.fits;
    })

pub returns-clause-kept : goal.returns-clause-kept
returns-clause-kept c =
    let same = same_proof c.args.bound c.args.weight c.in_ok-prices.prices.items c.from_vec.result c.in_ok-sets.sets.items c.from_vec-2.result c.in_ok-labels.labels.items c.from_vec-3.result c.in_ok-tight.tight.items c.from_vec-4.result
    c.from_vec.ensures c.from_vec-2.ensures c.from_vec-3.ensures c.from_vec-4.ensures in
    subst (λ p. IsKept p) same (record { sets = c.in_ok-sets.ensures.kept; memories = c.in_ok-labels.ensures.kept })
