-- What was looked at place by place was looked at everywhere.
use Rattle.std.proofs.Common.{◌≡◌, ◌∙◌, ℕ, Bool, true, ◌<◌, ◌≤◌, List, [], length, sym, ap, subst, arith, inl, inr}
use Rattle.std.specs.Prelude.{remove}
use Rattle.std.proofs.lemmas.Bool.{cases_Bool, cases_eq, cases_order, false≢true}
use Rattle.std.proofs.lemmas.Grind.{get_or-set_at}
use Rattle.std.proofs.lemmas.List.{get_or-set_other}
use Rattle.std.proofs.lemmas.List.Edits.{length-remove}
use Rattle.ev_model.specs.Network.{Network}
use Rattle.index_links.specs.Lists.{list_at}
use Rattle.route_improve.specs.Moves.{HasPlace, exchanged, relocated, taken_out}
use Rattle.route_improve.specs.Going.{IsGoing}
use Rattle.route_improve.specs.Routes.{AreCheaper, AreNoCheaper, IsSettledAt, IsSettledTo, cost_of_routes, count_at, lists_of}
use Rattle.route_improve.specs.declared.route.Route.{Route}

-- where a customer was taken out there are no more places than before
pub room_left : (lists : List (List ℕ)) (a i b : ℕ) → HasPlace lists a i → length (list_at (taken_out lists a i) b) ≤ length (list_at lists b)
room_left lists a i b from = elim (cases_eq b a) [
  | inl same ↦
      let here = ap length (get_or-set_at lists a b (remove (list_at lists a) i) [] same from.list) in
      let equal = ap (λ n. length (list_at lists n)) same in
      let one = length-remove (list_at lists a) i from.place in
      omega (arith, here, equal, one)
  | inr apart ↦
      let there = ap length (get_or-set_other lists a b (remove (list_at lists a) i) [] apart) in
      omega (arith, there)
]

pub settled_to : (g : Network) (routes : List Route) (a i b : ℕ) → HasPlace (lists_of routes) a i → ((j : ℕ) → j < count_at routes b → IsSettledAt g routes a i b j)
    → IsSettledAt g routes a i b (count_at routes b) → IsSettledTo g routes a i b
settled_to g routes a i b from below last j = elim (cases_order j (count_at routes b)) [
  | inl same ↦ subst (λ k. IsSettledAt g routes a i b k) (sym same) last
  | inr other ↦ elim other [
    | inl less ↦ below j less
    | inr more ↦
        let room = room_left (lists_of routes) a i b from in
        record { relocation = λ within. absurd (omega (arith, room, within, more)); exchange = λ within. absurd (omega (arith, within, more)) }
  ]
]

-- both moves were looked at, the second after the first changed nothing
pub settled_at : (g h : Network) (routes same : List Route) (a i b j : ℕ) → h ≡ g → same ≡ routes → (j ≤ length (list_at (taken_out (lists_of routes) a i) b) → AreNoCheaper g routes (relocated (lists_of routes) a i b j))
    → (j < length (list_at (lists_of same) b) → AreNoCheaper h same (exchanged (lists_of same) a i b j)) → IsSettledAt g routes a i b j
settled_at g h routes same a i b j network stays relocation exchange = record {
  relocation = relocation;
  exchange = subst (λ (k : Network). j < length (list_at (lists_of routes) b) → AreNoCheaper k routes (exchanged (lists_of routes) a i b j)) network
      (subst (λ (rs : List Route). j < length (list_at (lists_of rs) b) → AreNoCheaper h rs (exchanged (lists_of rs) a i b j)) stays exchange);
}

-- what holds of routes holds of the same routes in the same network
pub at_same : (P : Network → List Route → Type 0) (g h : Network) (routes same : List Route) → h ≡ g → same ≡ routes → P h same → P g routes
at_same P g h routes same network stays is = subst (λ (k : Network). P k routes) network (subst (λ (rs : List Route). P h rs) stays is)

-- ---- a pass goes on

pub going_made : (g : Network) (initial before after : List Route) (was flag : Bool) → IsGoing g initial before was → AreCheaper g before after → flag ≡ true → IsGoing g initial after flag
going_made g initial before after was flag going cheaper is = record {
  routes = cheaper.routes;
  count = cheaper.count ∙ going.count;
  less = λ yes. elim (cases_Bool was) [
    | inl made ↦ omega (arith, cheaper.less, going.less made)
    | inr none ↦ subst (λ (rs : List Route). cost_of_routes after < cost_of_routes rs) (going.same none) cheaper.less
  ];
  same = λ no. absurd (false≢true (sym no ∙ is));
}

pub going_not : (g : Network) (initial before after : List Route) (was flag : Bool) → IsGoing g initial before was → after ≡ before → flag ≡ was → IsGoing g initial after flag
going_not g initial before after was flag going stays is =
    subst (λ (rs : List Route). IsGoing g initial rs flag) (sym stays) (subst (IsGoing g initial before) (sym is) going)
