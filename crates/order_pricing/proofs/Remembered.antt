-- What was charged is found again by its order.
use Rattle.std.proofs.Common.{◌≡◌, ℕ, Bool, true, false, inl, inr, refl, sym, subst, List, [], ◌∷◌, bytes_eq, if◌then◌else◌, Some, Vec}
use Rattle.std.proofs.lemmas.Bool.{cases_Bool}
use Rattle.std.proofs.lemmas.List.Elements.{All-cons, All-head, All-nil, All-tail}
use Rattle.std.proofs.lemmas.Option.{none-some}
use Rattle.std.proofs.lemmas.Slice.Eq.{bytes_eq-Decides}
use Rattle.std.specs.Global.{Global}
use Rattle.std.specs.Map.{lookup}
use Rattle.indexmap.specs.IndexMap.{insert_entry}
use Rattle.ev_model.specs.Network.{Network}
use Rattle.order_pricing.specs.Pricing.{AreKnown, IsKnownOf}
use Rattle.order_pricing.specs.declared.known.Known.{Known}

abbrev pub Entries : Type 0
Entries = List (Vec ℕ Global × Known)

-- the test by which the map finds an order
abbrev pub at_order : List ℕ → Vec ℕ Global → Bool
at_order order k = bytes_eq order k.items

abbrev pub same_order : Vec ℕ Global → Vec ℕ Global → Bool
same_order x y = bytes_eq x.items y.items

abbrev IsEntry : Network → (Vec ℕ Global × Known) → Type 0
IsEntry g e = IsKnownOf g e.0.items e.1

pub recalled : (g : Network) (es : Entries) (order : List ℕ) (time : Known) → AreKnown g es → lookup (at_order order) es ≡ Some time → IsKnownOf g order time
recalled g [] order time are found = absurd (none-some time found)
recalled g (e ∷ es) order time are found = elim (cases_Bool (bytes_eq order e.0.items)) [
  | inl same ↦
      let here : Some e.1 ≡ Some time = rw same at found in
      let is : e.1 ≡ time = cc in
      let named : e.0.items ≡ order = sym ((bytes_eq-Decides order e.0.items).0 same) in
      subst (λ (t : Known). IsKnownOf g order t) is (subst (λ (l : List ℕ). IsKnownOf g l e.1) named (All-head (IsEntry g) e es are))
  | inr other ↦ recalled g es order time (All-tail (IsEntry g) e es are) (rw other at found)
]

pub remembered : (g : Network) (es : Entries) (k : Vec ℕ Global) (time : Known) → AreKnown g es → IsKnownOf g k.items time → AreKnown g (insert_entry same_order es k time)
remembered g [] k time are is = All-cons (IsEntry g) (k, time) [] is (All-nil (IsEntry g))
remembered g (e ∷ es) k time are is = by (bytes_eq k.items e.0.items) refl (remembered g es k time (All-tail (IsEntry g) e es are) is)
  where
    by : (t : Bool) → bytes_eq k.items e.0.items ≡ t → AreKnown g (insert_entry same_order es k time) → AreKnown g (if t then (e.0, time) ∷ es else e ∷ insert_entry same_order es k time)
    by true same rest = All-cons (IsEntry g) (e.0, time) es (subst (λ (l : List ℕ). IsKnownOf g l time) ((bytes_eq-Decides k.items e.0.items).0 same) is) (All-tail (IsEntry g) e es are)
    by false other rest = All-cons (IsEntry g) e (insert_entry same_order es k time) (All-head (IsEntry g) e es are) rest
