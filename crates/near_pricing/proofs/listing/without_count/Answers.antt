use Rattle.std.proofs.Common.{arith}
use Rattle.near_pricing.proofs.LabelRanges.{value_fits}
use Rattle.near_pricing.proofs.listing.without_count.Goals as goal

pub returns : goal.returns
returns c = record {
  node = c.requires.node;
  memory = c.requires.memory;
  count = omega arith;
  earned = c.requires.earned;
  valid = c.points-points.ensures.valid;
  points = value_fits c.args.pricing.now.network c.args.value c.requires.value c.points-points.ensures.valid;
}
