-- What contracts see of the states of a target that are asked.
use Rattle.std.specs.Prelude.{◌≡◌, ◌+◌, ◌*◌, ◌<◌, ◌≤◌, ◌^◌, unsigned_abs}
use Rattle.ev_model.specs.Network.{node_count}
use Rattle.closed_lists.specs.Asking.{Asking}
use Rattle.closed_lists.specs.declared.coverage.Asked.TheInside.{Inside}

abbrev pub asking : Inside → Asking
asking a = record { question = a.question.now; target = a.target.now }

pub record IsAsked (a : Inside) : Type 0 where
  pub last : a.target.now.last < node_count a.question.now.network
  pub node : a.target.now.node < node_count a.question.now.network
  pub paid : unsigned_abs a.target.now.paid ≤ 2 ^ 92
  pub key : a.key ≡ a.target.now.last * node_count a.question.now.network + a.target.now.node
