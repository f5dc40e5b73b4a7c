use Rattle.pricing.proofs.Listed.{points_of, ranges_of}
use Rattle.pricing.proofs.answer.closed_by.Goals as goal

pub returns : goal.returns
returns c = record {
  closed = c.requires.closed;
  ranges = ranges_of c.args.labels.now c.args.list.items c.requires.listed;
  points = points_of c.args.labels.now c.args.list.items c.requires.listed;
}
