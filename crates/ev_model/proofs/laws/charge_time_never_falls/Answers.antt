use Rattle.ev_model.proofs.ChargeTime.{charge_time-rises}
use Rattle.ev_model.proofs.laws.charge_time_never_falls.Goals as goal

pub returns : goal.returns
returns c = λ d full points a b curve le. charge_time-rises d points a b curve.rises le
