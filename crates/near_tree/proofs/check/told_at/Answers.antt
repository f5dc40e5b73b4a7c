use Rattle.std.proofs.Common.{subst}
use Rattle.near_tree.specs.Bounds.{IsBounded}
use Rattle.near_tree.specs.Judging.{TellsFault}
use Rattle.near_tree.specs.Sites.{leaf_at}
use Rattle.near_tree.proofs.SiteFits.{customers_few, is_site, places_few, told_bounded}
use Rattle.near_tree.proofs.check.told_at.Goals as goal

pub returns-in-Some : goal.returns-in-Some
returns-in-Some c = subst (TellsFault c.args.inst.now (leaf_at c.args.path.now c.args.section.now)) c.in-Some.is c.in_ok-fault.ensures

pub returns : goal.returns
returns c = (
  subst (TellsFault c.args.inst.now (leaf_at c.args.path.now c.args.section.now)) c.in_default.is c.in_ok-fault.ensures,
  told_bounded (IsBounded c.args.bound (leaf_at c.args.path.now c.args.section.now).branch (leaf_at c.args.path.now c.args.section.now).section) c.is_bounded.result c.is_bounded.ensures,
)

pub counted_along-requires : goal.counted_along-requires
counted_along-requires c = (c.args.inst.now, places_few c.args.inst.now c.nodes-nodes.result c.nodes-nodes.ensures.value c.nodes-nodes.ensures.few, c.requires.path)

pub first_fault-requires : goal.first_fault-requires
first_fault-requires c = is_site _ c.in_ok-counted.counted.items c.as_slice.ensures.value (customers_few c.args.inst.now c.nodes-nodes.result c.nodes-nodes.ensures.value c.nodes-nodes.ensures.few) c.requires.fits c.requires.section c.requires.few c.in_ok-counted.ensures.value c.in_ok-counted.ensures.small

pub is_bounded-requires : goal.is_bounded-requires
is_bounded-requires c = is_site _ c.in_ok-counted.counted.items c.as_slice.ensures.value (customers_few c.args.inst.now c.nodes-nodes.result c.nodes-nodes.ensures.value c.nodes-nodes.ensures.few) c.requires.fits c.requires.section c.requires.few c.in_ok-counted.ensures.value c.in_ok-counted.ensures.small
