use Rattle.std.proofs.Common.{subst, sym}
use Rattle.frvcp_labels.specs.Rest.{IsRateAt}
use Rattle.frvcp_labels.proofs.RestRate.{station_rate}
use Rattle.frvcp_labels.proofs.rest.rate_at.Goals as goal

pub returns : goal.returns
returns c =
    subst (λ x. IsRateAt c.args.inst.now x c.args.node) (sym c.unit_time.ensures)
    (station_rate c.in-Some.curve.now c.full_level-full.ensures.curve c.args.inst.now c.args.node c.in-Some.ensures)
