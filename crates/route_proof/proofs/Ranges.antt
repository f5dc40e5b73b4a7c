-- The levels of a label in its ranges.
use Rattle.std.proofs.Common.{ℕ, ◌≤◌, List, [], ◌∷◌, arith}
use Rattle.std.specs.List.{All}
use Rattle.std.proofs.lemmas.List.Elements.{All-head, All-tail}
use Rattle.charge_curve.specs.Points.{ArePoints, last_level}
use Rattle.ev_model.specs.Network.{Network}
use Rattle.dominance.specs.LevelTimes.{IsLevel}
use Rattle.piece_fn.specs.PieceFn.{level_times}
use Rattle.piece_fn.proofs.Levels.{level_is}
use Rattle.certificate_parts.specs.Ranges.{PointFits}
use Rattle.route_proof.specs.Ranges.{RouteLabelFits}
use Rattle.route_proof.specs.declared.proof.RouteLabel.{RouteLabel}

last_is_small : (g : Network) (points : List (ℕ × ℕ)) → ArePoints points → All (PointFits g) points → last_level points ≤ g.capacity
last_is_small g [] are fit = absurd are
last_is_small g (p ∷ []) are fit = (All-head (PointFits g) p [] fit).0
last_is_small g (p ∷ q ∷ ps) are fit = last_is_small g (q ∷ ps) are.3 (All-tail (PointFits g) p (q ∷ ps) fit)

-- no level is above full
pub low_levels : (g : Network) (route : List ℕ) (l : RouteLabel) → RouteLabelFits g route l → (level : ℕ) → IsLevel (level_times l.value) level → level ≤ g.capacity
low_levels g route l fits level is =
    let small = last_is_small g l.value fits.valid fits.points in
    let within = level_is l.value level fits.valid is in
    omega (arith, small, within.1)
