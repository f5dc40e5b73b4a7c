use Rattle.place_names.proofs.Unbroken.{good_breaks_none}
use Rattle.place_names.proofs.laws.places_break_no_rule.Goals as goal

pub returns : goal.returns
returns c = good_breaks_none
