-- The curve of the examples fits a battery of 10 and a denominator of 2.
use Rattle.std.proofs.Common.{ℕ, refl, List, [], ◌∷◌, rules, Some, None, Option}
use Rattle.std.specs.List.{All}
use Rattle.std.proofs.lemmas.List.Elements.{All-cons, All-nil}
use Rattle.std.proofs.Math.Nat.{dvd-mul_right}
use Rattle.ev_model.specs.Curve.{IsMultipleOfSlopes}
use Rattle.ev_model.specs.Network.{HasFittingCurve}
use Rattle.ev_model.specs.Examples.OneStation.{curve}

pub curve_fits : (full : ℕ) → IsMultipleOfSlopes full curve 2
curve_fits full = (λ below. dvd-mul_right 8 1, (λ below. dvd-mul_right 2 6, tt))

pub has_fitting_curve : HasFittingCurve 10 2 (Some curve)
has_fitting_curve = (record { begins = refl; rises = search rules; concave = search rules; reaches = search rules }, curve_fits 10)

one_more : (curves : List (Option (List (ℕ × ℕ)))) → All (HasFittingCurve 10 2) curves → All (HasFittingCurve 10 2) (Some curve ∷ curves)
one_more curves fit = All-cons (HasFittingCurve 10 2) (Some curve) curves has_fitting_curve fit

two_without : (curves : List (Option (List (ℕ × ℕ)))) → All (HasFittingCurve 10 2) curves → All (HasFittingCurve 10 2) (None ∷ None ∷ curves)
two_without curves fit = All-cons (HasFittingCurve 10 2) None (None ∷ curves) tt (All-cons (HasFittingCurve 10 2) None curves tt fit)

-- the stations stand behind the depot and the customer
pub one_station_fits : All (HasFittingCurve 10 2) (None ∷ None ∷ Some curve ∷ [])
one_station_fits = two_without (Some curve ∷ []) (one_more [] (All-nil (HasFittingCurve 10 2)))

pub two_stations_fit : All (HasFittingCurve 10 2) (None ∷ None ∷ Some curve ∷ Some curve ∷ [])
two_stations_fit = two_without (Some curve ∷ Some curve ∷ []) (one_more (Some curve ∷ []) (one_more [] (All-nil (HasFittingCurve 10 2))))
