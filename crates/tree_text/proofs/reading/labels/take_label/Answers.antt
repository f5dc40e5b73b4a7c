use Rattle.std.proofs.Common.{FitsSigned, rules, ◌≡◌, ◌≢◌, Err, arith, of_z, subst, sym, to_z, unsigned_abs, ◌≤◌}
use Rattle.std.specs.Int.{w128}
use Rattle.std.proofs.lemmas.Int.{ints}
use Rattle.certificate_parts.specs.Limits.{greatest_bound}
use Rattle.certificate_parts.specs.Refusals.{or_refused}
use Rattle.certificate_parts.specs.declared.cert_text.CertText.TheVariants.{Memory}
use Rattle.tree_text.specs.Reading.{section_label_at}
use Rattle.tree_text.proofs.LeafFits.{no_points, node_known}
use Rattle.tree_text.proofs.SectionReading.{earned_small}
use Rattle.std.proofs.lemmas.Grind.{common_steps}
use Rattle.tree_text.proofs.reading.labels.take_label.Goals as goal

pub from_points-requires : goal.from_points-requires
from_points-requires = grind (arith, common_steps)

pub returns-clause-kept : goal.returns-clause-kept
returns-clause-kept = grind (arith, common_steps)

pub returns-in_err-points-clause-fault : goal.returns-in_err-points-clause-fault
returns-in_err-points-clause-fault c =
    let g = c.args.inst.now in
    let fault = c.in_err-points.field-0.0 in
    let broken : fault ≢ Memory → or_refused (section_label_at g c.args.scan.now) ≡ Err fault =
    λ known. no_points g c.args.scan.now c.word.new.self c.take_node.new.scan c.word-2.new.self c.take_last.new.scan c.take_set.new.scan c.signed.new.self c.word-3.new.self c.in_ok-node.node _ _ c.in_ok-earned.earned fault
    c.in_ok-word.ensures.ok c.in_ok-node.ensures.ok c.in_ok-word-2.ensures.ok c.in_ok-last.ensures.ok c.in_ok-memory.ensures.ok c.in_ok-earned.ensures.ok c.in_ok-word-3.ensures.ok (c.in_err-points.ensures.fault known) in
    search rules

pub returns-clause-fits : goal.returns-clause-fits
returns-clause-fits c =
    let wide : FitsSigned w128 c.in_ok-earned.earned = search rules in
    let same : to_z w128 (of_z w128 c.in_ok-earned.earned) ≡ c.in_ok-earned.earned = omega (arith, ints) in
    let small = earned_small c.take_set.new.scan c.signed.new.self c.in_ok-earned.earned c.in_ok-earned.ensures.ok in
    record {
      node = node_known c.args.inst.now c.word.new.self c.take_node.new.scan c.in_ok-node.node c.in_ok-node.ensures.ok;
      last = c.in_ok-last.ensures.fits;
      memory = c.in_ok-memory.ensures.within;
      earned = subst (λ z. unsigned_abs z ≤ greatest_bound) (sym same) small;
      valid = search rules;
      points = search rules;
    }
