use Rattle.ev_model.proofs.ChargeTime.{charge_time_in-one}
use Rattle.ev_model.proofs.laws.charge_time_in_ones.Goals as goal

pub returns : goal.returns
returns c = charge_time_in-one
