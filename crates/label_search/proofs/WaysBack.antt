-- The way back from a label to the start.
use Rattle.std.proofs.Common.{◌≡◌, ◌∙◌, ℕ, ◌<◌, Bool, true, false, ◌&&◌, refl, sym, ap, subst, List, [], ◌∷◌, ◌++◌, reverse, inl, inr, Option, Some, None, nat_eq}
use Rattle.std.specs.Prelude.{if◌then◌else◌, IfSome, is_none, IsSome, not, slice_get}
use Rattle.std.proofs.lemmas.List.{reverse-append}
use Rattle.std.proofs.lemmas.Bool.{cases_Bool, false≢true}
use Rattle.ev_model.specs.Network.{curve_at, is_customer, Network}
use Rattle.ev_model.specs.declared.Stop.{Stop}
use Rattle.label_search.specs.Laws.{IsLawful}
use Rattle.label_search.specs.Space.{Space}
use Rattle.label_search.specs.Steps.{IsStep, with_node}
use Rattle.label_search.specs.Tree.{HasOrigin, IsTree}
use Rattle.label_search.specs.declared.found.Found.{Found}
use Rattle.label_search.proofs.Homeward.{at_home, before_customer, before_station, IsWayHome, route_home}

no_curve_and : (b : Bool) (o : Option (List (ℕ × ℕ))) → IsSome o → (b && is_none o) ≡ false
no_curve_and true None some = absurd (false≢true some)
no_curve_and false None some = refl
no_curve_and true (Some x) some = refl
no_curve_and false (Some x) some = refl

station_serves_none : (g : Network) (x : ℕ) → IsSome (curve_at g x) → is_customer g x ≡ false
station_serves_none g x some = no_curve_and (not (nat_eq x 0)) (curve_at g x) some

module _ {Label Target Route : Type 0} (s : Space Label Target Route) where
  -- from some level of the label with a number a way leads home over the customers at these nodes
  pub record IsTraced (found : List (Found Label)) (at : ℕ) (order : List ℕ) : Type 0 where
    pub label : Found Label
    pub here : slice_get found at ≡ Some label
    pub level : ℕ
    pub stops : List Stop
    pub way : IsWayHome s label.label level stops order

  module _ {G : Type 0} (lawful : IsLawful s) (found : List (Found Label)) (groups : List G) (tree : IsTree s found groups) where
    pub traced_home : (home : ℕ) (f : Found Label) → slice_get found home ≡ Some f → s.earns f.label → IsTraced found home []
    traced_home home f here earns =
        let range = (tree.labels home f here).range in
        let pays = lawful.at_home f.label range earns in
        record {
          label = f;
          here = here;
          level = pays.level;
          stops = _;
          way = at_home s f.label range pays;
        }

    -- where a label comes from
    pub origin_at : (at parent : ℕ) (f : Found Label) → slice_get found at ≡ Some f → f.parent ≡ Some parent → (from : Found Label) × (slice_get found parent ≡ Some from) × IsStep s from.label f.label
    origin_at at parent f here is = subst (λ p. HasOrigin s found p f.label) is (tree.labels at f here).origin

    pub elder_at : (at parent : ℕ) (f : Found Label) → slice_get found at ≡ Some f → f.parent ≡ Some parent → parent < at
    elder_at at parent f here is = subst (λ p. IfSome p (λ n. n < at)) is (tree.labels at f here).elder

    pub traced_back : (at parent : ℕ) (order : List ℕ) (traced : IsTraced found at order) → traced.label.parent ≡ Some parent → IsTraced found parent (with_node s.network (s.node traced.label.label) order)
    traced_back at parent order traced is =
        let from = origin_at at parent traced.label traced.here is in
        elim (from.2.leads.kind) [
          | inl customer ↦
              let more : with_node s.network (s.node traced.label.label) order ≡ s.node traced.label.label ∷ order = rw (customer.0) refl in
              let before : IsTraced found parent (s.node traced.label.label ∷ order) = record {
                label = from.0;
                here = from.1;
                level = _;
                stops = _;
                way = before_customer s lawful from.0.label traced.label.label traced.level traced.stops order from.2 traced.way customer.0 customer.1;
              } in
              subst (IsTraced found parent) (sym more) before
          | inr station ↦
              let same : with_node s.network (s.node traced.label.label) order ≡ order = rw (station_serves_none s.network (s.node traced.label.label) station.0) refl in
              let before : IsTraced found parent order = record {
                label = from.0;
                here = from.1;
                level = _;
                stops = _;
                way = before_station s lawful from.0.label traced.label.label traced.level traced.stops order from.2 traced.way station.0 station.1;
              } in
              subst (IsTraced found parent) (sym same) before
        ]

    pub traced_start : (at : ℕ) (order : List ℕ) (traced : IsTraced found at order) → traced.label.parent ≡ None → s.has_route order
    traced_start at order traced is =
        route_home s lawful traced.label.label traced.level traced.stops order (subst (λ p. HasOrigin s found p traced.label.label) is (tree.labels at traced.label traced.here).origin) traced.way

-- a customer's node behind the others, read backwards
pub turned : (g : Network) (node : ℕ) (old new : List ℕ) → new ≡ (if is_customer g node then old ++ node ∷ [] else old) → reverse new ≡ with_node g node (reverse old)
turned g node old new is = elim (cases_Bool (is_customer g node)) [
  | inl is_one ↦
      let items : new ≡ old ++ node ∷ [] = rw is_one at is in
      rw is_one (ap reverse items ∙ reverse-append old (node ∷ []))
  | inr other ↦
      let items : new ≡ old = rw other at is in
      rw other (ap reverse items)
]
