use Rattle.route_plan.proofs.FirstFaultWords.{first_of_its_text, only_its_text}
use Rattle.route_plan.proofs.laws.route_word_faults_are_first.Goals as goal

pub returns : goal.returns
returns c = record { first = first_of_its_text; only = only_its_text }
