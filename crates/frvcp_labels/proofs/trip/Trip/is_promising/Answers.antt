use Rattle.std.proofs.Common.{subst, sym, arith}
use Rattle.std.proofs.lemmas.Grind.{common_steps}
use Rattle.label_pool.proofs.Elements.{element_at}
use Rattle.route_steps.specs.Steps.{IsSoundState}
use Rattle.route_steps.specs.declared.state.State.{State}
use Rattle.frvcp_labels.proofs.trip.Trip.is_promising.Goals as goal

pub key-requires-clause-state : goal.key-requires-clause-state
key-requires-clause-state c =
    let label = element_at c.args.pool.now.labels c.args.i c.requires.known in
    subst (λ (s : State). IsSoundState c.args.self.now.network c.args.self.now.route s) (sym (c.value.ensures label.0 label.1)) (c.requires.pool.labels c.args.i label.0 label.1).state

pub returns-then-is_on_way : goal.returns-then-is_on_way
returns-then-is_on_way = grind (arith, common_steps)
