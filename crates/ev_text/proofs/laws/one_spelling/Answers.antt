use Rattle.std.proofs.Common.{arith, sym, subst}
use Rattle.ev_text.specs.Numerals.{IsSpelling}
use Rattle.ev_text.proofs.Readings.{whole_at-number}
use Rattle.ev_text.proofs.DecimalSpellings.{IsSpelling-decimal, same_from_IsSpelling}
use Rattle.ev_text.proofs.laws.one_spelling.Goals as goal

pub returns : goal.returns
returns c = record {
  only = λ text. (
    same_from_IsSpelling c.args.n text (omega (arith, c.ranges.n)),
    λ same. subst (IsSpelling c.args.n) (sym same) (IsSpelling-decimal c.args.n (omega (arith, c.ranges.n))),
  );
  read_back = λ limit scan rest fits stands. whole_at-number limit scan c.args.n rest (omega (arith, c.ranges.n)) fits stands;
}
