-- Each cover in kths has a whole one with the same shares that is no dearer.
use Rattle.std.proofs.Common.{◌≡◌, ◌∙◌, ℕ, ◌+◌, ◌*◌, ◌<◌, ◌≤◌, List, [], ◌∷◌, filter, length, refl, sym, ap, subst, arith}
use Rattle.std.specs.List.{All}
use Rattle.std.proofs.Math.Nat.{mul-le-mul_left}
use Rattle.std.proofs.lemmas.List.Elements.{All-cons, All-get_or, All-head, All-nil, All-tail}
use Rattle.ev_model.specs.Fleet.{times_in}
use Rattle.ev_model.specs.Network.{is_customer, IsNetwork, Network}
use Rattle.ev_model.specs.Route.{route_of}
use Rattle.ev_model.specs.declared.Stop.{Stop}
use Rattle.fleet_model.specs.Cover.{IsFleetRoute, shares_of}
use Rattle.fleet_model.specs.Whole.{HasWhole, NoFractionIsFaster}
use Rattle.fleet_model.proofs.WholeFleets.{same_customers, whole_only}
use Rattle.rounding_law.proofs.Whole.{no_fraction_is_faster}
use Rattle.mixed_model.specs.Covers.{IsKindRoute, IsMixedCover, KindShare, mixed_cost_of_shares, plain_shares}
use Rattle.mixed_model.specs.Kinds.{first_of, network_of, no_network}

whole_is_no_slower : (g : Network) → IsNetwork g → NoFractionIsFaster g
whole_is_no_slower g network k plan feasible =
    let found = no_fraction_is_faster g (route_of plan) k g.capacity plan network feasible refl in
    record { whole = found.0; feasible = found.1; follows = found.2; no_slower = found.3 }

whole_route : (g : Network) (k : ℕ) (plan : List Stop) (has : HasWhole g k plan) → IsFleetRoute g k plan → IsFleetRoute g 1 has.whole
whole_route g k plan has route =
    let serves = same_customers g k plan has in
    record {
      feasible = has.feasible;
      some = λ none. route.some (sym serves ∙ none);
      only = whole_only g k plan has route.only;
      once = λ node is. subst (λ (cs : List ℕ). times_in cs node ≤ 1) (sym serves) (route.once node is);
    }

one_more : (k share t slow c cost : ℕ) → k * t ≤ slow → k * c ≤ cost → k * (share * t + c) ≤ share * slow + cost
one_more k share t slow c cost le rest =
    let scaled : share * (k * t) ≤ share * slow = mul-le-mul_left share le in
    omega (arith, scaled, rest)

module _ (kinds : List Network) (networks : All IsNetwork kinds) where
  pub network_at : (kind : ℕ) → kind < length kinds → IsNetwork (network_of kinds kind)
  network_at kind known = All-get_or IsNetwork kinds kind no_network known networks

  record HasWholeShares (k : ℕ) (shares : List KindShare) : Type 0 where
    whole : List KindShare
    some_share : All (λ x. 1 ≤ x.share) whole
    routes : All (λ x. IsKindRoute kinds 1 x.plan) whole
    same : (node : ℕ) → shares_of (first_of kinds) (plain_shares whole) node ≡ shares_of (first_of kinds) (plain_shares shares) node
    no_dearer : k * mixed_cost_of_shares kinds 1 whole ≤ mixed_cost_of_shares kinds k shares

  whole_shares : (k : ℕ) (shares : List KindShare) → All (λ x. 1 ≤ x.share) shares → All (λ x. IsKindRoute kinds k x.plan) shares → HasWholeShares k shares
  whole_shares k [] some routes = record {
    whole = [];
    some_share = All-nil (λ (x : KindShare). 1 ≤ x.share);
    routes = All-nil (λ (x : KindShare). IsKindRoute kinds 1 x.plan);
    same = λ node. refl;
    no_dearer = omega arith;
  }
  whole_shares k (x ∷ xs) some routes =
      let P = λ (x : KindShare). 1 ≤ x.share in
      let Q = λ (j : ℕ) (x : KindShare). IsKindRoute kinds j x.plan in
      let route = All-head (Q k) x xs routes in
      let g = network_of kinds x.plan.kind in
      let has = whole_is_no_slower g (network_at x.plan.kind route.known) k x.plan.stops route.route.feasible in
      let rest = whole_shares k xs (All-tail P x xs some) (All-tail (Q k) x xs routes) in
      let y : KindShare = record { share = x.share; plan = record { kind = x.plan.kind; stops = has.whole } } in
      record {
        whole = y ∷ rest.whole;
        some_share = All-cons P y rest.whole (All-head P x xs some) rest.some_share;
        routes = All-cons (Q 1) y rest.whole (record { known = route.known; route = whole_route g k x.plan.stops has route.route }) rest.routes;
        same = λ node.
            let here = ap (λ (r : List ℕ). x.share * times_in (filter (is_customer (first_of kinds)) r) node) has.follows in
            omega (arith, here, rest.same node);
        no_dearer = one_more k x.share _ _ _ _ has.no_slower rest.no_dearer;
      }

  -- a whole cover that is no dearer
  pub record HasWholeCover (k over : ℕ) (shares : List KindShare) : Type 0 where
    pub whole : List KindShare
    pub cover : IsMixedCover kinds 1 over whole
    pub no_dearer : k * mixed_cost_of_shares kinds 1 whole ≤ mixed_cost_of_shares kinds k shares

  pub whole_cover : (k over : ℕ) (shares : List KindShare) → IsMixedCover kinds k over shares → HasWholeCover k over shares
  whole_cover k over shares cover =
      let has = whole_shares k shares cover.some_share cover.routes in
      record {
        whole = has.whole;
        cover = record {
          some_weight = cover.some_weight;
          some_share = has.some_share;
          routes = has.routes;
          covers = λ node known is. has.same node ∙ cover.covers node known is;
        };
        no_dearer = has.no_dearer;
      }
