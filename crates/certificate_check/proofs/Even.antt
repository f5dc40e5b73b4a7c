-- The shares of an exact root, from what is told of them as listed routes.
use Rattle.std.proofs.Common.{◌≡◌, ◌∙◌, ℕ, ◌*◌, ◌≤◌, Bool, true, false, List, [], ◌∷◌, Option, Some, refl, sym, ap, subst, arith, inl, inr}
use Rattle.std.specs.List.{All}
use Rattle.std.specs.Prelude.{if◌then◌else◌, option_map, pos}
use Rattle.std.proofs.lemmas.Bool.{cases_Bool}
use Rattle.std.proofs.lemmas.List.Elements.{All-cons, All-head, All-nil, All-tail}
use Rattle.customer_sets.specs.CustSet.{has}
use Rattle.ev_model.specs.Fleet.{customers_of, times_in}
use Rattle.ev_model.specs.Network.{is_customer, Network, node_count}
use Rattle.ev_model.specs.Time.{time_of}
use Rattle.fleet_model.specs.Cover.{cost_of_shares, IsFleetRoute, Share as RouteShare, shares_of}
use Rattle.fleet_model.specs.Places.{customer_count, customer_number}
use Rattle.fleet_model.specs.Section.{Section}
use Rattle.fleet_model.proofs.Counts.{number_less}
use Rattle.bound_certificate.specs.Meaning.{route_shares}
use Rattle.bound_certificate.specs.Ranges.{ShareFits, SharesFit}
use Rattle.bound_certificate.specs.declared.certificate.Share.{Share}
use Rattle.certificate_check.specs.Rules.{HasUnevenCustomer}
use Rattle.certificate_check.specs.Shares.{AreShared, AreUneven, listed_cost, share_at, shares_at, TellsCover, TellsExact, TellsShared}
use Rattle.certificate_check.specs.declared.cover.SharedRoute.{SharedRoute}
use Rattle.certificate_check.proofs.FleetRoutes.{node_of, serves_once}

abbrev pub route_share : Share → RouteShare
route_share x = record { share = x.share; plan = x.plan.stops }

abbrev IsRoute : Network → RouteShare → Type 0
IsRoute g x = IsFleetRoute g 1 x.plan

-- what a share gives to a customer whom its route serves once, or not at all
pub one_share : (amount times c : ℕ) (y : SharedRoute) → y.share ≡ amount → times ≡ (if has y.route.set c then 1 else 0) → amount * times ≡ share_at c y
one_share amount times c y same is = elim (cases_Bool (has y.route.set c)) [
  | inl some ↦
      let one : times ≡ 1 = rw some at is in
      let unit : amount * 1 ≡ amount = omega arith in
      rw some (ap (λ (t : ℕ). amount * t) one ∙ unit ∙ sym same)
  | inr none ↦
      let nothing : times ≡ 0 = rw none at is in
      let zero_is : amount * 0 ≡ 0 = omega arith in
      rw none (ap (λ (t : ℕ). amount * t) nothing ∙ zero_is)
]

module _ (g : Network) where
  shares_are : (node : ℕ) → is_customer g node ≡ true → (xs : List Share) (ys : List SharedRoute) → AreShared g xs ys → shares_of g (route_shares xs) node ≡ shares_at (customer_number g node) ys
  shares_are node is [] [] are = refl
  shares_are node is [] (y ∷ ys) are = absurd are
  shares_are node is (x ∷ xs) [] are = absurd are
  shares_are node is (x ∷ xs) (y ∷ ys) are =
      let here = are.0 in
      let times = serves_once g x.plan.stops here.route.route node is y.route.set here.route.set in
      let one = one_share x.share (times_in (customers_of g x.plan.stops) node) (customer_number g node) y here.share times in
      let rest = shares_are node is xs ys are.1 in
      omega (arith, one, rest)

  costs_are : (xs : List Share) (ys : List SharedRoute) → AreShared g xs ys → cost_of_shares g 1 (route_shares xs) ≡ listed_cost ys
  costs_are [] [] are = refl
  costs_are [] (y ∷ ys) are = absurd are
  costs_are (x ∷ xs) [] are = absurd are
  costs_are (x ∷ xs) (y ∷ ys) are =
      let here = are.0 in
      let one : x.share * time_of g 1 g.capacity x.plan.stops ≡ y.share * y.route.time =
      ap (λ (t : ℕ). x.share * t) (sym here.route.time) ∙ ap (λ (n : ℕ). n * y.route.time) (sym here.share) in
      let rest = costs_are xs ys are.1 in
      omega (arith, one, rest)

  routes_are : (xs : List Share) (ys : List SharedRoute) → AreShared g xs ys → All (IsRoute g) (route_shares xs)
  routes_are [] [] are = All-nil (IsRoute g)
  routes_are [] (y ∷ ys) are = absurd are
  routes_are (x ∷ xs) [] are = absurd are
  routes_are (x ∷ xs) (y ∷ ys) are = All-cons (IsRoute g) (route_share x) (route_shares xs) are.0.route.route (routes_are xs ys are.1)

  some_shares : (xs : List Share) → All ShareFits xs → All (λ (x : RouteShare). 1 ≤ x.share) (route_shares xs)
  some_shares [] each = All-nil (λ (x : RouteShare). 1 ≤ x.share)
  some_shares (x ∷ xs) each =
      All-cons (λ (y : RouteShare). 1 ≤ y.share) (route_share x) (route_shares xs) (All-head ShareFits x xs each).share.some (some_shares xs (All-tail ShareFits x xs each))

  uneven : (over : ℕ) (xs : List Share) (ys : List SharedRoute) → AreShared g xs ys → AreUneven (customer_count g) over ys → HasUnevenCustomer g over (route_shares xs)
  uneven over xs ys are found =
      let node = node_of g (node_count g) found.0 found.1 in (
        node.0,
        node.1,
        node.2,
        λ same. found.2 (ap (λ (c : ℕ). shares_at c ys) (sym node.3) ∙ sym (shares_are node.0 node.2 xs ys are) ∙ same),
      )

-- what is told of the listed routes is told of the root
pub exact_by : (g : Network) (s : Section) (over : ℕ) (xs : List Share) (ys : List SharedRoute) (b : Bool) → SharesFit over xs → AreShared g xs ys → TellsCover (customer_count g) s.weight s.prices over ys b → TellsExact g s over (route_shares xs) b
exact_by g s over xs ys true fit are is = record {
  cover = record {
    some_weight = fit.over_weight.some;
    some_share = some_shares g xs fit.each;
    routes = routes_are g xs ys are;
    covers = λ node known customer. shares_are g node customer xs ys are ∙ is.even (customer_number g node) (number_less g node (node_count g) customer known);
  };
  some_weight = is.some_weight;
  cost = ap (λ (n : ℕ). pos (n * s.weight)) (costs_are g xs ys are) ∙ is.cost;
}
exact_by g s over xs ys false fit are (inl found) = inr (inl (uneven g over xs ys are found))
exact_by g s over xs ys false fit are (inr (inl none)) = inr (inr (inl none))
exact_by g s over xs ys false fit are (inr (inr other)) = inr (inr (inr (λ same. other (ap (λ (n : ℕ). pos (n * s.weight)) (sym (costs_are g xs ys are)) ∙ same))))

-- where the shares are told as routes, they are listed
pub shared_listed : {V : Type 0} (g : Network) (shares : List Share) (items : V → List SharedRoute) (o : Option V) (v : V) → o ≡ Some v → TellsShared g shares (option_map items o) → AreShared g shares (items v)
shared_listed g shares items o v is told = subst (λ x. TellsShared g shares (option_map items x)) is told
