use Rattle.ev_model.proofs.ChargeTime.{at_breakpoint, grows_evenly, interpolates}
use Rattle.ev_model.proofs.laws.charge_time_is_linear.Goals as goal

pub returns-clause-breakpoints : goal.returns-clause-breakpoints
returns-clause-breakpoints c = λ d full before p after curve multiple le. at_breakpoint d full before p after curve.rises multiple le

pub returns-clause-linear : goal.returns-clause-linear
returns-clause-linear c = interpolates

pub returns-clause-whole : goal.returns-clause-whole
returns-clause-whole c = grows_evenly
