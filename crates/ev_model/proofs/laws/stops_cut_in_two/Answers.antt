use Rattle.ev_model.proofs.Cut.{levels_from-append, time_from-append}
use Rattle.ev_model.proofs.laws.stops_cut_in_two.Goals as goal

pub returns-clause-levels : goal.returns-clause-levels
returns-clause-levels c = levels_from-append

pub returns-clause-time : goal.returns-clause-time
returns-clause-time c = time_from-append
