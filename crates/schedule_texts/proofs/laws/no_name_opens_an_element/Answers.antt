use Rattle.schedule_texts.proofs.Inert.{all_inert}
use Rattle.schedule_texts.proofs.laws.no_name_opens_an_element.Goals as goal

pub returns : goal.returns
returns c = all_inert
