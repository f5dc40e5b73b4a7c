-- The route of one customer alone is a near route.
use Rattle.std.proofs.Common.{◌≡◌, ◌≢◌, ◌∙◌, ℕ, ◌<◌, ◌≤◌, true, refl, sym, ap, arith, List, [], ◌∷◌, ◌++◌, inl, inr}
use Rattle.std.specs.Prelude.{filter}
use Rattle.std.proofs.lemmas.Bool.{cases_eq, eq-eqb, ne_eqb}
use Rattle.std.proofs.lemmas.List.Elements.{All-cons, All-nil}
use Rattle.ev_model.specs.Fastest.{IsFastest}
use Rattle.ev_model.specs.Fleet.{customers_of, times_in}
use Rattle.ev_model.specs.Network.{IsNetwork, is_customer, Network, node_count}
use Rattle.ev_model.specs.Route.{IsRoute}
use Rattle.ev_model.specs.declared.Stop.{Stop}
use Rattle.near_proof.specs.Routes.{IsNearRoute}
use Rattle.near_proof.proofs.Fleets.{near_route}

module _ (g : Network) (node : ℕ) (is : is_customer g node ≡ true) where
  no_depot : node ≢ 0
  no_depot zero_is = grind (arith, is, zero_is)

  pub own_route : IsNetwork g → node < node_count g → IsRoute g (0 ∷ node ∷ 0 ∷ [])
  own_route network known =
      let P = λ (x : ℕ). x < node_count g in
      let depot : 0 < node_count g = omega (arith, network.depot) in (
        node ∷ [],
        record {
          ends = refl;
          known = All-cons P 0 (node ∷ 0 ∷ []) depot (All-cons P node (0 ∷ []) known (All-cons P 0 [] depot (All-nil P)));
          no_depot = All-cons (λ (x : ℕ). x ≢ 0) node [] no_depot (All-nil (λ (x : ℕ). x ≢ 0));
          moves = (no_depot, ((λ e. no_depot (sym e)), tt));
        },
      )

  served : filter (is_customer g) (0 ∷ node ∷ 0 ∷ []) ≡ node ∷ []
  served = rw is refl

  one : (x : ℕ) → times_in (node ∷ []) x ≤ 1
  one x = elim (cases_eq node x) [
    | inl same ↦ rw (eq-eqb node x same) (omega arith)
    | inr apart ↦ rw (ne_eqb node x apart) (omega arith)
  ]

  pub own_near_route : (sets : List (List ℕ)) (plan : List Stop) → IsFastest g (0 ∷ node ∷ 0 ∷ []) g.capacity plan → IsNearRoute g sets plan
  own_near_route sets plan fastest =
      let serves : customers_of g plan ≡ node ∷ [] = ap (filter (is_customer g)) fastest.follows ∙ served in
      near_route g sets plan fastest.feasible (fastest.follows ∙ ap (λ ns. 0 ∷ ns ++ 0 ∷ []) (sym serves)) (λ none. (let e : node ∷ [] ≡ [] = sym serves ∙ none in cc)) (λ x customer. rw serves (one x))
