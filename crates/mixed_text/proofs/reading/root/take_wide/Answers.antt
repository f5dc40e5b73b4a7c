use Rattle.std.proofs.Common.{arith, rules, ◌≡◌, ◌≢◌, ◌∙◌, ℕ, List, Err, length, map, subst, sym, Ok}
use Rattle.std.specs.List.{All}
use Rattle.certificate_parts.specs.Refusals.{or_refused}
use Rattle.certificate_parts.specs.Ranges.{EntryFits, customer_count}
use Rattle.certificate_parts.specs.Reading.{basis_at}
use Rattle.certificate_parts.specs.Written.{written_entry}
use Rattle.certificate_parts.specs.declared.entry.BasisEntry.{BasisEntry}
use Rattle.certificate_parts.specs.declared.cert_text.CertText.TheVariants.{Memory}
use Rattle.certificate_parts.proofs.BasisReading.{basis_is_read}
use Rattle.mixed_model.specs.Ranges.{ColumnsFit}
use Rattle.mixed_model.specs.declared.proof.MixedRoute.{MixedRoute}
use Rattle.mixed_text.specs.Reading.{mixed_wide_at}
use Rattle.mixed_text.proofs.PartReading.{no_basis}
use Rattle.mixed_text.proofs.reading.root.take_wide.Goals as goal

pub returns-in_err-basis-clause-fault : goal.returns-in_err-basis-clause-fault
returns-in_err-basis-clause-fault c =
    let fault = c.in_err-basis.field-0.0 in
    let count : c.len.result ≡ length c.in_ok-columns.columns.items = search rules in
    let broken : fault ≢ Memory → or_refused (mixed_wide_at c.args.kinds c.args.inst.now c.args.scan.now) ≡ Err fault =
    λ known. no_basis c.args.kinds c.args.inst.now c.args.scan.now c.whole.new.self c.word.new.self c.take_columns.new.scan c.in_ok-count.count c.len.result c.in_ok-columns.columns.items fault
    c.in_ok-count.ensures.ok c.in_ok-word.ensures.ok c.in_ok-columns.ensures.ok (count ∙ c.in_ok-columns.ensures.count) (c.in_err-basis.ensures.fault known) in
    search rules

pub returns-clause-fits : goal.returns-clause-fits
returns-clause-fits c =
    let columns = c.in_ok-columns.columns.items in
    let basis = c.in_ok-basis.basis.items in
    let count : c.len.result ≡ length columns = search rules in
    let read = subst (λ (n : ℕ). basis_at c.args.inst.now n c.take_columns.new.scan ≡ Ok (map (written_entry c.args.inst.now) basis, c.take_basis.new.scan)) count c.in_ok-basis.ensures.ok in
    let fit = subst (λ (n : ℕ). All (EntryFits (customer_count c.args.inst.now) n) basis) count c.in_ok-basis.ensures.fits in
    let both : ColumnsFit c.args.kinds (customer_count c.args.inst.now) columns basis = record {
      few = omega (arith, c.in_ok-columns.ensures.count, c.in_ok-count.ensures.number.within);
      each = c.in_ok-columns.ensures.fits;
      basis_fits = basis_is_read c.args.inst.now (length columns) c.take_columns.new.scan c.take_basis.new.scan basis read fit;
    } in
    subst (λ (xs : List MixedRoute). ColumnsFit c.args.kinds (customer_count c.args.inst.now) xs c.from_vec-2.result) (sym c.from_vec.ensures)
    (subst (λ (ys : List BasisEntry). ColumnsFit c.args.kinds (customer_count c.args.inst.now) columns ys) (sym c.from_vec-2.ensures) both)
