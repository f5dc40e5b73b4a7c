-- A plan of a route visits the route's nodes.
use Rattle.std.proofs.Common.{◌≡◌, ℕ, zero, suc, List, [], ◌∷◌, refl, ap, ◌∙◌, inl, inr, false, arith, ◌⊎◌, ◌↔◌}
use Rattle.std.proofs.lemmas.Bool.{cases_Bool}
use Rattle.std.specs.List.{Contains}
use Rattle.ev_model.specs.Route.{route_of}
use Rattle.ev_model.specs.declared.Stop.{Stop}

Contains-head : {X : Type 0} (x : X) (xs : List X) → Contains (x ∷ xs) x
Contains-head x xs = (0, omega arith, refl)

Contains-later : {X : Type 0} (x q : X) (xs : List X) → Contains xs q → Contains (x ∷ xs) q
Contains-later x q xs has = (suc has.0, omega (arith, has.1), has.2)

Contains-cases : {X : Type 0} (x q : X) (xs : List X) → Contains (x ∷ xs) q → (x ≡ q) ⊎ Contains xs q
Contains-cases x q xs (zero, less, is) = inl is
Contains-cases x q xs (suc k, less, is) = inr (k, omega (arith, less), is)

-- a stop of the route at a node
abbrev pub HasStopAt : List Stop → ℕ → Type 0
HasStopAt stops node = (s : Stop) × Contains stops s × (s.via ≡ false) × (s.node ≡ node)

later : (t : Stop) (stops : List Stop) (node : ℕ) → HasStopAt stops node → HasStopAt (t ∷ stops) node
later t stops node has = (has.0, Contains-later t has.0 stops has.1, has.2, has.3)

visited : (stops : List Stop) (node : ℕ) → Contains (route_of stops) node → HasStopAt stops node
visited [] node (k, less, is) = absurd (omega (arith, less))
visited (t ∷ stops) node has = elim (cases_Bool t.via) [
  | inl via ↦ later t stops node (visited stops node (rw via at has))
  | inr own ↦ elim (Contains-cases t.node node (route_of stops) (rw own at has)) [
    | inl here ↦ (t, Contains-head t stops, own, here)
    | inr rest ↦ later t stops node (visited stops node rest)
  ]
]

visits_first : (t s : Stop) (stops : List Stop) (node : ℕ) → t ≡ s → s.via ≡ false → s.node ≡ node → Contains (route_of (t ∷ stops)) node
visits_first t s stops node same own at =
    let own_t : t.via ≡ false = ap (λ (x : Stop). x.via) same ∙ own in
    let at_t : t.node ≡ node = ap (λ (x : Stop). x.node) same ∙ at in
    rw own_t (0, omega arith, at_t)

visits : (stops : List Stop) (node : ℕ) → HasStopAt stops node → Contains (route_of stops) node
visits [] node (s, (k, less, is), own, at) = absurd (omega (arith, less))
visits (t ∷ stops) node (s, has, own, at) = elim (Contains-cases t s stops has) [
  | inl here ↦ visits_first t s stops node here own at
  | inr rest ↦ elim (cases_Bool t.via) [
    | inl via ↦ rw via (visits stops node (s, rest, own, at))
    | inr other ↦ rw other (Contains-later t.node node (route_of stops) (visits stops node (s, rest, own, at)))
  ]
]

pub visits_exactly : (stops : List Stop) (node : ℕ) → Contains (route_of stops) node ↔ HasStopAt stops node
visits_exactly stops node = (visited stops node, visits stops node)
