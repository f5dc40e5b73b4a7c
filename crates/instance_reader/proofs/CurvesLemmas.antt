-- Curves and why they are refused.
use Rattle.std.proofs.Common.{◌≡◌, ◌≢◌, ◌∙◌, ℕ, ◌<◌, List, Option, Some, All, length, map, get_or, option_map, ap, subst, sym}
use Rattle.std.proofs.lemmas.List.{get_or-map, length-map}
use Rattle.std.proofs.lemmas.List.Elements.{All-get_or}
use Rattle.charge_curve.specs.declared.fault.CurveFault.{CurveFault}
use Rattle.charge_curve.specs.declared.fault.CurveFault.TheVariants as curve
use Rattle.instance_reader.specs.Curves.{read_fault}
use Rattle.instance_reader.specs.Refusal.{Refuses}
use Rattle.instance_reader.specs.declared.faults.ReadFault.TheVariants.{BadCurve}

-- a curve is refused by the first fault of its breakpoints
pub Refuses-curve : (index : ℕ) (found : Option CurveFault) (fault : CurveFault) → (fault ≢ curve.Memory → found ≡ Some fault) →
    Refuses (option_map (BadCurve index) found) (read_fault index fault)
Refuses-curve index found curve.Memory h = tt
Refuses-curve index found curve.Start h = ap (option_map (BadCurve index)) (h (λ e. cc))
Refuses-curve index found (curve.Rise i) h = ap (option_map (BadCurve index)) (h (λ e. cc))
Refuses-curve index found (curve.Concave i) h = ap (option_map (BadCurve index)) (h (λ e. cc))
Refuses-curve index found (curve.Short last) h = ap (option_map (BadCurve index)) (h (λ e. cc))
Refuses-curve index found curve.TooMany h = ap (option_map (BadCurve index)) (h (λ e. cc))

-- what holds of what each element stands for holds at one of them
pub All-map-at : {X Y : Type 0} (P : Y → Type 0) (f : X → Y) (xs : List X) (i : ℕ) (x : X) → All P (map f xs) → i < length xs → x ≡ get_or xs i x → P (f x)
All-map-at P f xs i x all within is =
    let same : get_or (map f xs) i (f x) ≡ f x = get_or-map f xs i x (f x) within ∙ ap f (sym is) in
    let inside : i < length (map f xs) = rw length-map within in
    subst P same (All-get_or P (map f xs) i (f x) inside all)
