use Rattle.std.proofs.Common.{◌≡◌, ◌∙◌, ◌+◌, ◌<◌, ◌∷◌, ◌++◌, [], get_or, Global, length, List, arith, ap, sym, subst, Vec}
use Rattle.std.proofs.lemmas.Grind.{common_steps}
use Rattle.customer_sets.specs.Pairs.{allows_of, any_pair, ForbiddenPairs}
use Rattle.bound_certificate.specs.Meaning.{priced_section, priced_sections}
use Rattle.bound_certificate.specs.Ranges.{customer_count}
use Rattle.bound_certificate.specs.declared.certificate.Section.{Section}
use Rattle.bound_certificate.specs.declared.certificate.TreeLine.{TreeLine}
use Rattle.bound_certificate.specs.declared.certificate.TreeLine.TheVariants.{Leaf}
use Rattle.certificate_check.specs.Bounds.{AreChildren}
use Rattle.certificate_check.specs.Firsts.{HoldsUnder, IsBrokenUnder, IsFirst, IsLeafFault, LeafHolds, leaves_along, Tells}
use Rattle.certificate_check.proofs.LeafLoop.{leaves-begin, leaves-break, leaves-hold, leaves-split, LeavesSoFar, line_moved, next, pairs_of_section, section_of_leaf}
use Rattle.certificate_check.proofs.Passed.{there}
use Rattle.certificate_check.proofs.leaves.leaf_fault.Goals.{in-Split+in_ok-open_children-in-Split, in-Leaf+in_default-fault_at}
use Rattle.certificate_check.proofs.leaves.leaf_fault.Goals as goal

pub loop-line-init : goal.loop-line-init
loop-line-init c = record {
  so_far = leaves-begin (customer_count c.args.inst.now) (priced_sections c.args.cert.now.sections) c.args.cert.now.bound c.as_slice-lines.result.now c.new.result c.push.new.self.items
      (c.in_ok-push.ensures.items ∙ ap (λ xs. xs ++ c.new.result ∷ []) c.new-subtrees.ensures.items) (c.new.ensures.customers ∙ ap length c.customers.ensures.value) c.new.ensures.pairs;
  few = omega arith;
}

pub returns-in-Some-fault_at : goal.returns-in-Some-fault_at
returns-in-Some-fault_at c =
    let g = c.args.inst.now in
    let cert = c.args.cert.now in
    let n = customer_count g in
    let sections = priced_sections cert.sections in
    let lines = c.as_slice-lines.result.now in
    let i = c.loop-line.line-index in
    let s = c.index-sections-section.result in
    let top = next n sections cert.bound lines i c.loop-line.leaf c.loop-line.subtrees.items c.pop.new.self.items c.in-Some.pairs c.in-Some.ensures.items c.loop-line.invariant.so_far in
    let less = subst (λ (ls : List TreeLine). i < length ls) c.as_slice-lines.ensures c.loop-line-test.true in
    let line = line_moved lines cert.tree i _ (Leaf c.in-Leaf.section) c.as_slice-lines.ensures c.in-Leaf.is in
    let within = section_of_leaf g cert c.requires.fits i c.in-Leaf.section _ less line in
    let is = subst (λ (ss : List Section). s ≡ get_or ss c.in-Leaf.section s) c.as_slice-sections.ensures c.index-sections-section.is in
    subst (λ (ls : List TreeLine). IsFirst (LeafHolds sections cert.bound) (IsLeafFault sections cert.bound) (leaves_along (any_pair ∷ []) ls) c.in-Some-fault_at.fault) c.as_slice-lines.ensures
    (leaves-break n sections cert.bound lines i c.loop-line.leaf c.in-Leaf.section _ c.in-Some.pairs c.pop.new.self.items s c.loop-line-test.true c.in-Leaf.is top
    (there priced_section cert.sections c.in-Leaf.section s within is) c.fault_at.ensures.pairs (pairs_of_section g cert c.requires.fits c.in-Leaf.section s within is)
    c.in-Some-fault_at.fault c.in-Some-fault_at.ensures.told)

pub loop-line-preserved : goal.loop-line-preserved
loop-line-preserved c =
    let g = c.args.inst.now in
    let cert = c.args.cert.now in
    let n = customer_count g in
    let sections = priced_sections cert.sections in
    let lines = c.as_slice-lines.result.now in
    let i = c.loop-line.line-index in
    let leaf = c.loop-line.leaf in
    let rest = c.pop.new.self.items in
    let p = c.in-Some.pairs in
    let few = c.loop-line.invariant.few in
    let top = next n sections cert.bound lines i leaf c.loop-line.subtrees.items rest p c.in-Some.ensures.items c.loop-line.invariant.so_far in
    elim c.match-line.branch [
      | in-Split+in_ok-open_children-in-Split w ↦
          let made = w.in_ok-open_children-in-Split.ensures in
          let items = ap (λ (v : Vec ForbiddenPairs Global). v.items) w.subtrees-is ∙ made.2 in
          let children = subst (λ m. AreChildren m w.in-Split.i w.in-Split.j p made.0 made.1) top.tell.customers made.3 in
          record {
            so_far = subst (LeavesSoFar n sections cert.bound lines (i + 1) c.match-line.subtrees.items) (sym w.leaf-is)
                (leaves-split n sections cert.bound lines i leaf w.in-Split.i w.in-Split.j _ p made.0 made.1 rest c.match-line.subtrees.items c.loop-line-test.true w.in-Split.is top items children);
            few = let same = w.leaf-is in omega (arith, few, same);
          }
      | in-Leaf+in_default-fault_at w ↦
          let s = w.index-sections-section.result in
          let less = subst (λ (ls : List TreeLine). i < length ls) c.as_slice-lines.ensures c.loop-line-test.true in
          let line = line_moved lines cert.tree i _ (Leaf w.in-Leaf.section) c.as_slice-lines.ensures w.in-Leaf.is in
          let within = section_of_leaf g cert c.requires.fits i w.in-Leaf.section _ less line in
          let is = subst (λ (ss : List Section). s ≡ get_or ss w.in-Leaf.section s) c.as_slice-sections.ensures w.index-sections-section.is in
          let holds = subst (Tells (HoldsUnder cert.bound (priced_section s)) (IsBrokenUnder cert.bound (priced_section s)) leaf (allows_of p)) w.in_default-fault_at.is w.fault_at.ensures.told in
          let more = leaves-hold n sections cert.bound lines i leaf w.in-Leaf.section _ p rest s c.loop-line-test.true w.in-Leaf.is top
          (there priced_section cert.sections w.in-Leaf.section s within is) w.fault_at.ensures.pairs (pairs_of_section g cert c.requires.fits w.in-Leaf.section s within is) holds in
          record {
            so_far = subst (λ (ps : List ForbiddenPairs). LeavesSoFar n sections cert.bound lines (i + 1) ps c.match-line.leaf) (sym (ap (λ (v : Vec ForbiddenPairs Global). v.items) w.subtrees-is))
                (subst (LeavesSoFar n sections cert.bound lines (i + 1) rest) (sym w.leaf-is) more);
            few = let same = w.leaf-is in omega (arith, few, same);
          }
    ]

pub open_children-requires-clause-first : goal.open_children-requires-clause-first
open_children-requires-clause-first = grind (arith, common_steps)

pub returns : goal.returns
returns = grind (arith, common_steps)

pub open_children-requires-clause-second : goal.open_children-requires-clause-second
open_children-requires-clause-second = grind (arith, common_steps)

pub open_children-requires-clause-apart : goal.open_children-requires-clause-apart
open_children-requires-clause-apart = grind (arith, common_steps)
