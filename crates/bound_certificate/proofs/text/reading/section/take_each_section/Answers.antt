use Rattle.std.proofs.Common.{arith, rules, ◌≡◌, ◌≢◌, ◌∙◌, ◌+◌, ◌-◌, Err, map, subst, sym}
use Rattle.std.specs.List.{All}
use Rattle.std.proofs.lemmas.List.{length-map}
use Rattle.std.proofs.lemmas.List.Elements.{All-nil}
use Rattle.ev_text.specs.Readers.{so_many}
use Rattle.certificate_parts.specs.Refusals.{or_refused}
use Rattle.bound_certificate.specs.Kept.{IsKept}
use Rattle.bound_certificate.specs.Ranges.{SectionFits}
use Rattle.bound_certificate.specs.Reading.{section_at}
use Rattle.bound_certificate.specs.Written.{written_section}
use Rattle.certificate_parts.specs.declared.cert_text.CertText.TheVariants.{Memory}
use Rattle.certificate_parts.proofs.ItemLoops.{all_more, many_length, taken-begins, taken-breaks, taken-ends, taken-goes_on}
use Rattle.bound_certificate.proofs.text.reading.section.take_each_section.Goals as goal

pub loop-init : goal.loop-init
loop-init c = (
  taken-begins (section_at c.args.inst.now) (written_section c.args.inst.now) c.args.scan.now c.args.count (c.args.count - 0) c.new-sections.result.items (omega arith) c.new-sections.ensures.items,
  subst (All (SectionFits c.args.inst.now)) (sym c.new-sections.ensures.items) (All-nil (SectionFits c.args.inst.now)),
  subst (All IsKept) (sym c.new-sections.ensures.items) (All-nil IsKept),
)

pub loop-preserved : goal.loop-preserved
loop-preserved c = (
  taken-goes_on (section_at c.args.inst.now) (written_section c.args.inst.now) c.args.scan.now c.loop.scan c.take_section.new.scan c.args.count (c.args.count - c.loop.counter) (c.args.count - (c.loop.counter + 1)) c.loop.sections.items c.push.new.self.items c.in_ok-section.section
      (omega arith) c.loop.invariant.0 c.in_ok-section.ensures.ok c.in_ok-push.ensures.items,
  all_more (SectionFits c.args.inst.now) c.loop.sections.items c.push.new.self.items c.in_ok-section.section c.loop.invariant.1 c.in_ok-section.ensures.fits c.in_ok-push.ensures.items,
  all_more IsKept c.loop.sections.items c.push.new.self.items c.in_ok-section.section c.loop.invariant.2 c.in_ok-section.ensures.kept c.in_ok-push.ensures.items,
)

pub returns-in_err-section-clause-fault : goal.returns-in_err-section-clause-fault
returns-in_err-section-clause-fault c =
    let fault = c.in_err-section.field-0.0 in
    let broken : fault ≢ Memory → or_refused (so_many c.args.count (section_at c.args.inst.now) c.args.scan.now) ≡ Err fault =
    λ known. taken-breaks (section_at c.args.inst.now) (written_section c.args.inst.now) c.args.scan.now c.loop.scan c.args.count (c.args.count - c.loop.counter) (c.args.count - (c.loop.counter + 1)) c.loop.sections.items fault (omega arith) c.loop.invariant.0 (c.in_err-section.ensures.fault known) in
    search rules

pub returns-clause-ok : goal.returns-clause-ok
returns-clause-ok c = taken-ends (section_at c.args.inst.now) (written_section c.args.inst.now) c.args.scan.now c.loop.scan c.args.count _ c.loop.sections.items (omega arith) c.loop.invariant.0

pub returns-clause-fits : goal.returns-clause-fits
returns-clause-fits c = c.loop.invariant.1

pub returns-clause-kept : goal.returns-clause-kept
returns-clause-kept c = c.loop.invariant.2

pub returns-clause-count : goal.returns-clause-count
returns-clause-count c =
    sym (length-map c.loop.sections.items (written_section c.args.inst.now))
    ∙ many_length (section_at c.args.inst.now) c.args.count c.args.scan.now c.loop.scan (map (written_section c.args.inst.now) c.loop.sections.items) (returns-clause-ok c)
