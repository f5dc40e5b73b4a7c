-- Bytes that mean places break no rule.
use Rattle.std.proofs.Common.{◌≡◌, ◌∙◌, ℕ, Bool, List, ap, arith, inl, inr, sym}
use Rattle.std.proofs.lemmas.Option.{none-some, same_Some}
use Rattle.place_names.specs.Reading.{ArePlacesOf, IsFirstFault, fault_in}
use Rattle.place_names.specs.declared.faults.PlacesFault.{PlacesFault}
use Rattle.place_names.specs.declared.place.Place.{Place}

pub good_breaks_none : (needed : Bool) (nodes : ℕ) (bytes : List ℕ) (places : List Place) (broken : PlacesFault) → ArePlacesOf needed nodes bytes places → IsFirstFault needed nodes bytes broken → ⊥
good_breaks_none needed nodes bytes places broken p (inl long) = let short = p.short in let past = long.1 in omega (arith, short, past)
good_breaks_none needed nodes bytes places broken p (inr (inl none)) = none.2 p.value p.is_value
good_breaks_none needed nodes bytes places broken p (inr (inr b)) =
    let same = same_Some p.value b.value (sym p.is_value.1 ∙ b.is_value.1) in
    none-some broken (sym p.good ∙ ap (λ top. fault_in needed nodes top) same ∙ b.first)
