use Rattle.std.proofs.Common.{arith}
use Rattle.ev_text.proofs.Readings.{whole_at-taken, whole_at-end, whole_at-not_whole, whole_at-too_large}
use Rattle.ev_text.proofs.laws.whole_answers.Goals as goal

pub returns : goal.returns
returns c = record {
  taken = λ n scan after. whole_at-taken c.args.limit n scan after (omega (arith, c.ranges.limit));
  end = λ scan. whole_at-end c.args.limit scan;
  not_whole = λ scan. whole_at-not_whole c.args.limit scan;
  too_large = λ scan. whole_at-too_large c.args.limit scan;
}
