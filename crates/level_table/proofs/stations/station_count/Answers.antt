use Rattle.std.proofs.Common.{◌≡◌, ◌∙◌, ◌+◌, ◌∷◌, [], ℕ, List, Bor, is_some, length, ap, sym, arith, length-append}
use Rattle.ev_model.specs.Network.{curve_at}
use Rattle.level_table.proofs.StationNodes.{told_curve, with_next, without_next}
use Rattle.level_table.specs.Stations.{stations, stations_below}
use Rattle.level_table.proofs.stations.station_count.Goals as goal
use Rattle.level_table.proofs.stations.station_count.Goals.{then-is_some, else-is_some}

pub loop-node-preserved : goal.loop-node-preserved
loop-node-preserved c =
    let g = c.args.inst.now in
    let node = c.loop-node.node in
    let told : is_some (curve_at g node) ≡ is_some c.curve_at.result = told_curve (λ (s : Bor (List (ℕ × ℕ))). s.now) g node c.curve_at.result c.curve_at.ensures in
    elim c.if-is_some.branch [
      | then-is_some w ↦
          let next = with_next g node (told ∙ sym w.if-is_some.ensures) in
          (w.count-is ∙ ap (λ x. x + 1) c.loop-node.invariant.0 ∙ sym (ap length next ∙ length-append (stations_below g node) (node ∷ [])), omega (arith, w.count-is, c.loop-node.invariant.1))
      | else-is_some w ↦
          let next = without_next g node (told ∙ sym w.if-is_some.ensures) in
          (w.count-is ∙ c.loop-node.invariant.0 ∙ sym (ap length next), omega (arith, w.count-is, c.loop-node.invariant.1))
    ]

pub returns-clause-value : goal.returns-clause-value
unfolding stations
returns-clause-value c = c.loop-node.invariant.0 ∙ ap (λ n. length (stations_below c.args.inst.now n)) (omega arith)
