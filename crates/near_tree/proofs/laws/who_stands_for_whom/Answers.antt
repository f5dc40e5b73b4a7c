use Rattle.near_tree.proofs.Stands.{anybody_stands, nobody_stands, stands_further, stands_self}
use Rattle.near_tree.proofs.laws.who_stands_for_whom.Goals as goal

pub returns-clause-own : goal.returns-clause-own
returns-clause-own c = stands_self

pub returns-clause-anybody : goal.returns-clause-anybody
returns-clause-anybody c = anybody_stands

pub returns-clause-further : goal.returns-clause-further
returns-clause-further c = stands_further

pub returns-clause-nobody : goal.returns-clause-nobody
returns-clause-nobody c = nobody_stands
