use Rattle.std.proofs.Common.{◌≡◌, ◌∙◌, ◌∷◌, [], ◌++◌, ℕ, List, Bor, Vec, Global, is_some, ap, sym, arith}
use Rattle.std.proofs.lemmas.Grind.{common_steps}
use Rattle.ev_model.specs.Network.{curve_at}
use Rattle.level_table.proofs.StationNodes.{told_curve, with_next, without_next}
use Rattle.level_table.specs.Stations.{stations, stations_below}
use Rattle.level_table.proofs.stations.stations_of.Goals as goal
use Rattle.level_table.proofs.stations.stations_of.Goals.{then-is_some+in_ok-push, else-is_some}

pub loop-node-preserved : goal.loop-node-preserved
loop-node-preserved c =
    let g = c.args.inst.now in
    let node = c.loop-node.node in
    let told : is_some (curve_at g node) ≡ is_some c.curve_at.result = told_curve (λ (s : Bor (List (ℕ × ℕ))). s.now) g node c.curve_at.result c.curve_at.ensures in
    elim c.if-is_some.branch [
      | then-is_some+in_ok-push w ↦
          ap (λ (v : Vec ℕ Global). v.items) w.stations-is ∙ w.in_ok-push.ensures.items ∙ ap (λ xs. xs ++ node ∷ []) c.loop-node.invariant
          ∙ sym (with_next g node (told ∙ sym w.if-is_some.ensures))
      | else-is_some w ↦
          ap (λ (v : Vec ℕ Global). v.items) w.stations-is ∙ c.loop-node.invariant ∙ sym (without_next g node (told ∙ sym w.if-is_some.ensures))
    ]

pub returns-clause-nodes : goal.returns-clause-nodes
unfolding stations
returns-clause-nodes c = c.loop-node.invariant ∙ ap (stations_below c.args.inst.now) (omega arith)

pub returns-clause-network : goal.returns-clause-network
returns-clause-network = grind (arith, common_steps)
