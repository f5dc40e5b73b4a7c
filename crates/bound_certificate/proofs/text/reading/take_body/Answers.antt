use Rattle.std.proofs.Common.{rules, ◌≡◌, ◌≢◌, ◌∙◌, List, Err, length, map, subst, sym}
use Rattle.std.specs.List.{All}
use Rattle.std.proofs.lemmas.List.{length-map}
use Rattle.certificate_parts.specs.Refusals.{or_refused}
use Rattle.bound_certificate.specs.Kept.{IsKept}
use Rattle.certificate_parts.specs.Ranges.{customer_count}
use Rattle.bound_certificate.specs.Ranges.{Fits, LineFits}
use Rattle.bound_certificate.specs.Reading.{body_at}
use Rattle.bound_certificate.specs.Written.{written_line, written_root, written_section}
use Rattle.bound_certificate.specs.declared.certificate.Section.{Section}
use Rattle.bound_certificate.specs.declared.certificate.TreeLine.{TreeLine}
use Rattle.certificate_parts.specs.declared.cert_text.CertText.TheVariants.{Memory}
use Rattle.bound_certificate.proofs.BodyReading.{as_written, body_is_read, bound_in_range, no_root_part, no_sections, no_tree, tree_is_whole}
use Rattle.bound_certificate.proofs.text.reading.take_body.Goals as goal

pub returns-in_err-root-clause-fault : goal.returns-in_err-root-clause-fault
returns-in_err-root-clause-fault c =
    let fault = c.in_err-root.field-0.0 in
    let broken : fault ≢ Memory → or_refused (body_at c.args.inst.now c.args.scan.now) ≡ Err fault =
    λ known. no_root_part c.args.inst.now c.args.scan.now c.take_bound.new.scan c.in_ok-bound.bound fault c.in_ok-bound.ensures.ok (c.in_err-root.ensures.fault known) in
    search rules

pub returns-in_err-sections-clause-fault : goal.returns-in_err-sections-clause-fault
returns-in_err-sections-clause-fault c =
    let fault = c.in_err-sections.field-0.0 in
    let broken : fault ≢ Memory → or_refused (body_at c.args.inst.now c.args.scan.now) ≡ Err fault =
    λ known. no_sections c.args.inst.now c.args.scan.now c.take_bound.new.scan c.take_root.new.scan c.in_ok-bound.bound (written_root c.args.inst.now c.in_ok-root.root) fault c.in_ok-bound.ensures.ok c.in_ok-root.ensures.ok (c.in_err-sections.ensures.fault known) in
    search rules

pub returns-in_err-tree-clause-fault : goal.returns-in_err-tree-clause-fault
returns-in_err-tree-clause-fault c =
    let fault = c.in_err-tree.field-0.0 in
    let sections = c.in_ok-sections.sections.items in
    let count : c.len.result ≡ length sections = search rules in
    let broken : fault ≢ Memory → or_refused (body_at c.args.inst.now c.args.scan.now) ≡ Err fault =
    λ known. no_tree c.args.inst.now c.args.scan.now c.take_bound.new.scan c.take_root.new.scan c.take_sections.new.scan c.in_ok-bound.bound (written_root c.args.inst.now c.in_ok-root.root) (map (written_section c.args.inst.now) sections) c.len.result
    c.in_ok-bound.ensures.ok c.in_ok-root.ensures.ok c.in_ok-sections.ensures.ok (count ∙ sym (length-map sections (written_section c.args.inst.now))) fault (c.in_err-tree.ensures.fault known) in
    search rules

pub returns-clause-ok : goal.returns-clause-ok
returns-clause-ok c =
    let sections = c.in_ok-sections.sections.items in
    let lines = c.in_ok-tree.tree.items in
    let count : c.len.result ≡ length sections = search rules in
    as_written c.args.inst.now c.in_ok-bound.bound c.in_ok-root.root sections c.from_vec.result lines c.from_vec-2.result c.take_tree.new.scan (body_at c.args.inst.now c.args.scan.now) c.from_vec.ensures c.from_vec-2.ensures
    (body_is_read c.args.inst.now c.args.scan.now c.take_bound.new.scan c.take_root.new.scan c.take_sections.new.scan c.in_ok-bound.bound (written_root c.args.inst.now c.in_ok-root.root) (map (written_section c.args.inst.now) sections) c.len.result
    c.in_ok-bound.ensures.ok c.in_ok-root.ensures.ok c.in_ok-sections.ensures.ok (count ∙ sym (length-map sections (written_section c.args.inst.now))) c.take_tree.new.scan (map (written_line c.args.inst.now) lines) c.in_ok-tree.ensures.ok)

pub returns-clause-fits : goal.returns-clause-fits
returns-clause-fits c =
    let g = c.args.inst.now in
    let sections = c.in_ok-sections.sections.items in
    let lines = c.in_ok-tree.tree.items in
    let count : c.len.result ≡ length sections = search rules in
    let all : Fits g (record { bound = c.in_ok-bound.bound; root = c.in_ok-root.root; sections = sections; tree = lines }) = record {
      bound = bound_in_range c.args.scan.now c.take_bound.new.scan c.in_ok-bound.bound c.in_ok-bound.ensures.ok;
      root_fits = c.in_ok-root.ensures.fits;
      some = c.in_ok-sections.ensures.some;
      few = c.in_ok-sections.ensures.few;
      sections = c.in_ok-sections.ensures.fits;
      lines = subst (λ n. All (LineFits (customer_count g) n) lines) count c.in_ok-tree.ensures.fits;
      whole = tree_is_whole g c.len.result c.take_sections.new.scan c.take_tree.new.scan lines c.in_ok-tree.ensures.ok;
    } in
    subst (λ (xs : List Section). Fits g (record { bound = c.in_ok-bound.bound; root = c.in_ok-root.root; sections = xs; tree = c.from_vec-2.result })) (sym c.from_vec.ensures)
    (subst (λ (ls : List TreeLine). Fits g (record { bound = c.in_ok-bound.bound; root = c.in_ok-root.root; sections = sections; tree = ls })) (sym c.from_vec-2.ensures) all)

pub returns-clause-kept : goal.returns-clause-kept
returns-clause-kept c = subst (All IsKept) (sym c.from_vec.ensures) c.in_ok-sections.ensures.kept
