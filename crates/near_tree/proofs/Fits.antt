-- What the ranges say of a leaf: no level of a label is above full, and what a last is.
use Rattle.std.proofs.Common.{◌≡◌, ◌∙◌, ℕ, ◌+◌, ◌-◌, ◌≤◌, List, [], ◌∷◌, length, refl, arith}
use Rattle.std.specs.List.{All, range_with_len}
use Rattle.std.proofs.lemmas.List.{length-map}
use Rattle.std.proofs.lemmas.List.Elements.{All-head, All-tail}
use Rattle.std.proofs.lemmas.List.FromFn.{length-range_with_len}
use Rattle.charge_curve.specs.Points.{ArePoints, last_level, time_on}
use Rattle.dominance.specs.LevelTimes.{IsLevel}
use Rattle.ev_model.specs.Network.{Network}
use Rattle.piece_fn.specs.PieceFn.{first_level, level_times}
use Rattle.certificate_parts.specs.Ranges.{PointFits}
use Rattle.near_tree.specs.Ranges.{SectionLabelFits}
use Rattle.near_tree.specs.declared.proof.SectionLabel.{SectionLabel}

last_is_small : (g : Network) (points : List (ℕ × ℕ)) → ArePoints points → All (PointFits g) points → last_level points ≤ g.capacity
last_is_small g [] are fit = absurd are
last_is_small g (p ∷ []) are fit = (All-head (PointFits g) p [] fit).0
last_is_small g (p ∷ q ∷ ps) are fit = last_is_small g (q ∷ ps) are.3 (All-tail (PointFits g) p (q ∷ ps) fit)

many_times : (points : List (ℕ × ℕ)) → length (level_times points).times ≡ last_level points + 1 - first_level points
unfolding level_times
many_times points =
    let n = last_level points + 1 - first_level points in
    length-map (range_with_len (first_level points) n) (time_on points) ∙ length-range_with_len (first_level points) n

first_is : (points : List (ℕ × ℕ)) → (level_times points).first ≡ first_level points
unfolding level_times
first_is points = refl

pub label_within_full : (g : Network) (l : SectionLabel) → SectionLabelFits g l → (y : ℕ) → IsLevel (level_times l.value) y → y ≤ g.capacity
label_within_full g l fits y level =
    let last = last_is_small g l.value fits.valid fits.points in
    omega (arith, many_times l.value, first_is l.value, last, level.0, level.1)
