use Rattle.std.proofs.Common.{arith, rules, ◌≡◌, ◌≢◌, ◌∙◌, ◌+◌, ◌-◌, Err, map, subst, sym}
use Rattle.std.specs.List.{All}
use Rattle.std.proofs.lemmas.List.{length-map}
use Rattle.std.proofs.lemmas.List.Elements.{All-nil}
use Rattle.ev_text.specs.Readers.{so_many}
use Rattle.certificate_parts.specs.Refusals.{or_refused}
use Rattle.certificate_parts.specs.declared.cert_text.CertText.TheVariants.{Memory}
use Rattle.certificate_parts.proofs.ItemLoops.{all_more, many_length, taken-begins, taken-breaks, taken-ends, taken-goes_on}
use Rattle.near_tree.specs.Ranges.{SectionLabelFits}
use Rattle.tree_text.specs.TreeIn.{HasMemory}
use Rattle.tree_text.specs.Reading.{section_label_at}
use Rattle.tree_text.specs.Written.{written_section_label}
use Rattle.tree_text.proofs.reading.labels.take_labels.Goals as goal

pub loop-init : goal.loop-init
loop-init c = (
  taken-begins (section_label_at c.args.inst.now) (written_section_label c.args.inst.now) c.args.scan.now c.args.count (c.args.count - 0) c.new-labels.result.items (omega arith) c.new-labels.ensures.items,
  subst (All (SectionLabelFits c.args.inst.now)) (sym c.new-labels.ensures.items) (All-nil (SectionLabelFits c.args.inst.now)),
  subst (All HasMemory) (sym c.new-labels.ensures.items) (All-nil HasMemory),
)

pub loop-preserved : goal.loop-preserved
loop-preserved c = (
  taken-goes_on (section_label_at c.args.inst.now) (written_section_label c.args.inst.now) c.args.scan.now c.loop.scan c.take_label.new.scan c.args.count (c.args.count - c.loop.counter) (c.args.count - (c.loop.counter + 1)) c.loop.labels.items c.push.new.self.items c.in_ok-label.label
      (omega arith) c.loop.invariant.0 c.in_ok-label.ensures.ok c.in_ok-push.ensures.items,
  all_more (SectionLabelFits c.args.inst.now) c.loop.labels.items c.push.new.self.items c.in_ok-label.label c.loop.invariant.1 c.in_ok-label.ensures.fits c.in_ok-push.ensures.items,
  all_more HasMemory c.loop.labels.items c.push.new.self.items c.in_ok-label.label c.loop.invariant.2 c.in_ok-label.ensures.kept c.in_ok-push.ensures.items,
)

pub returns-in_err-label-clause-fault : goal.returns-in_err-label-clause-fault
returns-in_err-label-clause-fault c =
    let fault = c.in_err-label.field-0.0 in
    let broken : fault ≢ Memory → or_refused (so_many c.args.count (section_label_at c.args.inst.now) c.args.scan.now) ≡ Err fault =
    λ known. taken-breaks (section_label_at c.args.inst.now) (written_section_label c.args.inst.now) c.args.scan.now c.loop.scan c.args.count (c.args.count - c.loop.counter) (c.args.count - (c.loop.counter + 1)) c.loop.labels.items fault (omega arith) c.loop.invariant.0 (c.in_err-label.ensures.fault known) in
    search rules

pub returns-clause-ok : goal.returns-clause-ok
returns-clause-ok c = taken-ends (section_label_at c.args.inst.now) (written_section_label c.args.inst.now) c.args.scan.now c.loop.scan c.args.count _ c.loop.labels.items (omega arith) c.loop.invariant.0

pub returns-clause-fits : goal.returns-clause-fits
returns-clause-fits c = c.loop.invariant.1

pub returns-clause-kept : goal.returns-clause-kept
returns-clause-kept c = c.loop.invariant.2

pub returns-clause-count : goal.returns-clause-count
returns-clause-count c =
    sym (length-map c.loop.labels.items (written_section_label c.args.inst.now))
    ∙ many_length (section_label_at c.args.inst.now) c.args.count c.args.scan.now c.loop.scan (map (written_section_label c.args.inst.now) c.loop.labels.items) (returns-clause-ok c)
