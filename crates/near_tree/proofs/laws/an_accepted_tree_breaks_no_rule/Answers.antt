use Rattle.near_tree.proofs.Rules.{not_broken}
use Rattle.near_tree.proofs.laws.an_accepted_tree_breaks_no_rule.Goals as goal

pub returns : goal.returns
returns c = λ g bound t at accepted broken. not_broken g bound t accepted at broken
