use Rattle.std.proofs.Common.{arith, subst, sym}
use Rattle.mixed_model.specs.Ranges.{SharesFit}
use Rattle.mixed_text.proofs.reading.root.take_exact.Goals as goal

pub returns-clause-fits : goal.returns-clause-fits
returns-clause-fits c =
    subst (SharesFit c.args.kinds c.in_ok-over.over) (sym c.from_vec.ensures) (record {
      over_weight = c.in_ok-over.ensures.fits;
      few = omega (arith, c.in_ok-shares.ensures.count, c.in_ok-count.ensures.number.within);
      each = c.in_ok-shares.ensures.fits;
    })
