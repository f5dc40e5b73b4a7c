use Rattle.std.proofs.Common.{rules, ◌≡◌, ◌≢◌, ◌∙◌, Err, Ok, map, subst}
use Rattle.certificate_parts.specs.Refusals.{or_refused}
use Rattle.certificate_parts.specs.declared.cert_text.CertText.TheVariants.{Memory}
use Rattle.certificate_parts.proofs.PriceLines.{prices_are}
use Rattle.mixed_model.specs.Kinds.{first_of}
use Rattle.mixed_model.specs.Ranges.{MixedFits}
use Rattle.mixed_text.specs.MixedIn.{HaveSets}
use Rattle.mixed_text.specs.Reading.{lines_at}
use Rattle.mixed_text.specs.Written.{written_labels, written_mixed, written_mixed_root}
use Rattle.mixed_text.proofs.WholeReading.{lines_are_read, no_labels, no_prices, prices_read, same_proof}
use Rattle.mixed_text.proofs.reading.take_lines.Goals as goal

pub returns-in_err-prices-clause-fault : goal.returns-in_err-prices-clause-fault
returns-in_err-prices-clause-fault c =
    let kinds = c.args.kinds.now in
    let root_part = written_mixed_root (first_of kinds) c.args.root in
    let fault = c.in_err-prices.field-0.0 in
    let broken : fault ≢ Memory → or_refused (lines_at kinds c.args.bound root_part c.args.weight c.args.scan.now) ≡ Err fault =
    λ known. no_prices kinds c.args.bound root_part c.args.weight c.args.scan.now c.first_kind.result.now c.first_kind.ensures fault (c.in_err-prices.ensures.fault known) in
    search rules

pub returns-in_err-labels-clause-fault : goal.returns-in_err-labels-clause-fault
returns-in_err-labels-clause-fault c =
    let kinds = c.args.kinds.now in
    let root_part = written_mixed_root (first_of kinds) c.args.root in
    let fault = c.in_err-labels.field-0.0 in
    let broken : fault ≢ Memory → or_refused (lines_at kinds c.args.bound root_part c.args.weight c.args.scan.now) ≡ Err fault =
    λ known. no_labels kinds c.args.bound root_part c.args.weight c.args.scan.now c.first_kind.result.now c.first_kind.ensures
    c.take_prices.new.scan c.in_ok-prices.prices.items c.in_ok-prices.ensures.ok fault (c.in_err-labels.ensures.fault known) in
    search rules

pub returns-clause-ok : goal.returns-clause-ok
returns-clause-ok c =
    let kinds = c.args.kinds.now in
    let same = same_proof c.args.bound c.args.weight c.in_ok-prices.prices.items c.from_vec.result c.in_ok-labels.labels.items c.from_vec-2.result c.args.root c.from_vec.ensures c.from_vec-2.ensures in
    lines_are_read kinds c.args.bound (written_mixed_root (first_of kinds) c.args.root) c.args.weight c.args.scan.now c.first_kind.result.now c.first_kind.ensures
    c.take_prices.new.scan c.in_ok-prices.prices.items c.in_ok-prices.ensures.ok c.take_kinds.new.scan (map (written_labels (first_of kinds)) c.in_ok-labels.labels.items) c.in_ok-labels.ensures.ok
    ∙ (λ i. Ok (written_mixed kinds (same i), c.take_kinds.new.scan))

pub returns-clause-fits : goal.returns-clause-fits
returns-clause-fits c =
    let kinds = c.args.kinds.now in
    let same = same_proof c.args.bound c.args.weight c.in_ok-prices.prices.items c.from_vec.result c.in_ok-labels.labels.items c.from_vec-2.result c.args.root c.from_vec.ensures c.from_vec-2.ensures in
    let read = prices_read kinds c.args.bound (written_mixed_root (first_of kinds) c.args.root) c.args.weight c.args.scan.now c.first_kind.result.now c.first_kind.ensures
    c.take_prices.new.scan c.in_ok-prices.prices.items c.in_ok-prices.ensures.ok in
    let prices = prices_are (first_of kinds) c.args.scan.now c.take_prices.new.scan c.in_ok-prices.prices.items read in
    subst (λ p. MixedFits kinds p) same (record {
      bound = c.requires.bound;
      weight = c.requires.weight;
      one_price = prices.1;
      prices = prices.0;
      one_list = c.in_ok-labels.ensures.count;
      labels = λ kind known. let own = c.in_ok-labels.ensures.fits kind known in record { few = own.few; each = own.each };
      root_fits = c.requires.root;
    })

pub returns-clause-kept : goal.returns-clause-kept
returns-clause-kept c =
    let same = same_proof c.args.bound c.args.weight c.in_ok-prices.prices.items c.from_vec.result c.in_ok-labels.labels.items c.from_vec-2.result c.args.root c.from_vec.ensures c.from_vec-2.ensures in
    subst (λ p. HaveSets p.labels) same c.in_ok-labels.ensures.kept
