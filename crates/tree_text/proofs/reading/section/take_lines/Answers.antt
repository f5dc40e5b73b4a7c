use Rattle.std.proofs.Common.{arith, rules, ◌≡◌, ◌≢◌, ◌∙◌, Err, Ok, map, ap, subst, length}
use Rattle.certificate_parts.specs.Refusals.{or_refused}
use Rattle.certificate_parts.specs.declared.cert_text.CertText.TheVariants.{Memory}
use Rattle.certificate_parts.proofs.PriceLines.{prices_are}
use Rattle.near_text.specs.Written.{written_set}
use Rattle.near_tree.specs.Ranges.{LeafSectionFits}
use Rattle.tree_text.specs.Reading.{section_lines_at}
use Rattle.tree_text.specs.TreeIn.{IsKeptSection}
use Rattle.tree_text.specs.Written.{written_section, written_section_label}
use Rattle.tree_text.proofs.SectionReading.{entry_prices_are, lines_are_read, no_entry_prices, no_labels, no_prices, no_sets, same_section}
use Rattle.tree_text.proofs.reading.section.take_lines.Goals as goal

pub returns-in_err-prices-clause-fault : goal.returns-in_err-prices-clause-fault
returns-in_err-prices-clause-fault c =
    let fault = c.in_err-prices.field-0.0 in
    let broken : fault ≢ Memory → or_refused (section_lines_at c.args.inst.now c.args.entries c.args.weight c.args.count c.args.scan.now) ≡ Err fault =
    λ known. no_prices c.args.inst.now c.args.entries c.args.weight c.args.count c.args.scan.now fault (c.in_err-prices.ensures.fault known) in
    search rules

pub returns-in_err-sets-clause-fault : goal.returns-in_err-sets-clause-fault
returns-in_err-sets-clause-fault c =
    let fault = c.in_err-sets.field-0.0 in
    let broken : fault ≢ Memory → or_refused (section_lines_at c.args.inst.now c.args.entries c.args.weight c.args.count c.args.scan.now) ≡ Err fault =
    λ known. no_sets c.args.inst.now c.args.entries c.args.weight c.args.count c.args.scan.now c.take_prices.new.scan c.in_ok-prices.prices.items c.in_ok-prices.ensures.ok fault (c.in_err-sets.ensures.fault known) in
    search rules

pub returns-in_err-entry_prices-clause-fault : goal.returns-in_err-entry_prices-clause-fault
returns-in_err-entry_prices-clause-fault c =
    let fault = c.in_err-entry_prices.field-0.0 in
    let broken : fault ≢ Memory → or_refused (section_lines_at c.args.inst.now c.args.entries c.args.weight c.args.count c.args.scan.now) ≡ Err fault =
    λ known. no_entry_prices c.args.inst.now c.args.entries c.args.weight c.args.count c.args.scan.now c.take_prices.new.scan c.in_ok-prices.prices.items c.in_ok-prices.ensures.ok
    c.take_nears.new.scan (map (written_set c.args.inst.now) c.in_ok-sets.sets.items) c.in_ok-sets.ensures.ok fault (c.in_err-entry_prices.ensures.fault known) in
    search rules

pub returns-in_err-labels-clause-fault : goal.returns-in_err-labels-clause-fault
returns-in_err-labels-clause-fault c =
    let fault = c.in_err-labels.field-0.0 in
    let broken : fault ≢ Memory → or_refused (section_lines_at c.args.inst.now c.args.entries c.args.weight c.args.count c.args.scan.now) ≡ Err fault =
    λ known. no_labels c.args.inst.now c.args.entries c.args.weight c.args.count c.args.scan.now c.take_prices.new.scan c.in_ok-prices.prices.items c.in_ok-prices.ensures.ok
    c.take_nears.new.scan (map (written_set c.args.inst.now) c.in_ok-sets.sets.items) c.in_ok-sets.ensures.ok
    c.take_entry_prices.new.scan c.in_ok-entry_prices.entry_prices.items c.in_ok-entry_prices.ensures.ok fault (c.in_err-labels.ensures.fault known) in
    search rules

pub returns-clause-ok : goal.returns-clause-ok
returns-clause-ok c =
    let g = c.args.inst.now in
    let same = same_section c.args.weight c.in_ok-prices.prices.items c.from_vec.result c.in_ok-sets.sets.items c.from_vec-2.result c.in_ok-entry_prices.entry_prices.items c.from_vec-3.result c.in_ok-labels.labels.items c.from_vec-4.result
    c.from_vec.ensures c.from_vec-2.ensures c.from_vec-3.ensures c.from_vec-4.ensures in
    lines_are_read g c.args.entries c.args.weight c.args.count c.args.scan.now c.take_prices.new.scan c.in_ok-prices.prices.items c.in_ok-prices.ensures.ok
    c.take_nears.new.scan (map (written_set g) c.in_ok-sets.sets.items) c.in_ok-sets.ensures.ok
    c.take_entry_prices.new.scan c.in_ok-entry_prices.entry_prices.items c.in_ok-entry_prices.ensures.ok
    c.take_labels.new.scan (map (written_section_label g) c.in_ok-labels.labels.items) c.in_ok-labels.ensures.ok
    ∙ (λ i. Ok (written_section g (same i), c.take_labels.new.scan))

pub returns-clause-fits : goal.returns-clause-fits
returns-clause-fits c =
    let g = c.args.inst.now in
    let same = same_section c.args.weight c.in_ok-prices.prices.items c.from_vec.result c.in_ok-sets.sets.items c.from_vec-2.result c.in_ok-entry_prices.entry_prices.items c.from_vec-3.result c.in_ok-labels.labels.items c.from_vec-4.result
    c.from_vec.ensures c.from_vec-2.ensures c.from_vec-3.ensures c.from_vec-4.ensures in
    let prices = prices_are g c.args.scan.now c.take_prices.new.scan c.in_ok-prices.prices.items c.in_ok-prices.ensures.ok in
    let entry_prices = entry_prices_are c.args.entries c.take_nears.new.scan c.take_entry_prices.new.scan c.in_ok-entry_prices.entry_prices.items c.in_ok-entry_prices.ensures.ok in
    subst (λ s. LeafSectionFits g s) same (record {
      weight = c.requires.weight;
      one_price = prices.1;
      prices = prices.0;
      sets = c.in_ok-sets.ensures.fits;
      entry_prices = entry_prices.0;
      few = omega (arith, c.in_ok-labels.ensures.count, c.requires.count);
      labels = c.in_ok-labels.ensures.fits;
    })

pub returns-clause-entries : goal.returns-clause-entries
returns-clause-entries c =
    let entry_prices = entry_prices_are c.args.entries c.take_nears.new.scan c.take_entry_prices.new.scan c.in_ok-entry_prices.entry_prices.items c.in_ok-entry_prices.ensures.ok in
    ap (λ xs. length xs) c.from_vec-3.ensures ∙ entry_prices.1

pub returns-clause-kept : goal.returns-clause-kept
returns-clause-kept c =
    let same = same_section c.args.weight c.in_ok-prices.prices.items c.from_vec.result c.in_ok-sets.sets.items c.from_vec-2.result c.in_ok-entry_prices.entry_prices.items c.from_vec-3.result c.in_ok-labels.labels.items c.from_vec-4.result
    c.from_vec.ensures c.from_vec-2.ensures c.from_vec-3.ensures c.from_vec-4.ensures in
    subst (λ s. IsKeptSection s) same (record { sets = c.in_ok-sets.ensures.kept; memories = c.in_ok-labels.ensures.kept })
