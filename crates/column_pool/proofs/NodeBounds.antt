-- The bound of a node, from the end of the price loop.
use Rattle.std.proofs.Common.{◌≡◌, ◌≢◌, ◌∙◌, ℕ, ◌≤◌, sym, ap, subst, arith, List, map, length, Vec, ℤ, pos, ◌<ℤ◌, unsigned_abs}
use Rattle.std.specs.Global.{Global}
use Rattle.std.specs.List.{All}
use Rattle.std.proofs.lemmas.List.Elements.{All-weaker}
use Rattle.customer_sets.specs.Pairs.{ForbiddenPairs}
use Rattle.ev_model.specs.Network.{IsNetwork, Network}
use Rattle.fleet_model.specs.Cover.{IsExactRoot}
use Rattle.fleet_model.specs.Prices.{price_total}
use Rattle.instance_reader.specs.Instance.{customer_nodes}
use Rattle.master_simplex.specs.declared.prices.Lp.{Lp}
use Rattle.piece_fn.specs.declared.label.Label.{Label}
use Rattle.price_loop.specs.Columns.{HasRoute}
use Rattle.price_loop.proofs.Optimum.{AreShares, optimum_shares, prices_small, ray_above, weight_small}
use Rattle.bound_certificate.specs.Limits.{most_items}
use Rattle.bound_certificate.specs.Meaning.{priced_section, route_shares}
use Rattle.bound_certificate.specs.Ranges.{IsPrice}
use Rattle.bound_certificate.specs.declared.certificate.Section.{Section}
use Rattle.bound_certificate.specs.declared.certificate.Share.{Share}
use Rattle.column_pool.specs.Bounds.{IsEmpty, IsExact, IsNodeSection}
use Rattle.column_pool.specs.Columns.{IsPricedOut, no_route, share_of}
use Rattle.column_pool.specs.Nodes.{node_problem}
use Rattle.column_pool.specs.declared.route.NodeRoute.{NodeRoute}
use Rattle.column_pool.proofs.Exactness.{are_shares, exact_root, IsShareOf, keep_pairs, shares_fit}
use Rattle.column_pool.proofs.Sections.{section_closed}

module _ (g : Network) (p : ForbiddenPairs) (routes : List NodeRoute) (lp : Lp) (labels : Vec Label Global) (is : IsPricedOut g p routes lp labels) where
  prices_fit : All IsPrice lp.prices.items
  prices_fit =
      let small = is.cost in
      All-weaker (λ (z : ℤ). unsigned_abs z ≤ is.caps.cost) IsPrice (λ z le. omega (arith, le, small)) lp.prices.items
      (prices_small (node_problem g p) routes no_route is.caps lp is.basis labels is.over)

  shares_at : lp.weight ≢ 0 → AreShares (node_problem g p) routes no_route is.caps lp.weight lp.prices.items lp.over lp.shares.items
  shares_at some = optimum_shares (node_problem g p) routes no_route is.caps lp is.basis labels is.over (λ r timed. timed.once) some

  pub shares_placed : (some : lp.weight ≢ 0) (n : ℕ) → n ≡ length (customer_nodes g) → All (HasRoute n routes) lp.shares.items
  shares_placed some n same = subst (λ k. All (HasRoute k routes) lp.shares.items) (sym same) (shares_at some).placed

  -- a section with the answer's weight and prices
  module _ (s : Section) (weight : s.weight ≡ lp.weight) (prices : s.prices ≡ lp.prices.items) where
    pub node_section : s.pairs ≡ p → s.labels ≡ labels.items → p.customers ≡ length (customer_nodes g) → length s.labels ≤ most_items → IsNodeSection g p s
    node_section pairs alike count few =
        let small = weight_small (node_problem g p) routes no_route is.caps lp is.basis labels is.over in
        let body = is.body in
        section_closed g p s lp.weight lp.prices.items labels.items is.over.closed.closes pairs weight prices alike count (omega (arith, small, body)) is.over.one_price prices_fit few

    pub empty_node : lp.weight ≡ 0 → IsNodeSection g p s → IsEmpty g p s
    empty_node none node = record {
      section = node;
      none = (weight ∙ none, subst (λ (ps : List ℤ). pos 0 <ℤ price_total ps) (sym prices) (ray_above (node_problem g p) routes no_route is.caps lp is.basis labels is.over none));
    }

    pub exact_node : (some : lp.weight ≢ 0) (n : ℕ) (shares : Vec Share Global) → n ≡ length (customer_nodes g) → IsNetwork g → IsNodeSection g p s
        → route_shares shares.items ≡ map (share_of n routes) lp.shares.items → IsExact g p s lp.over shares.items
    exact_node some n shares same network node are =
        let at = shares_at some in
        let weighted = subst (λ w. AreShares (node_problem g p) routes no_route is.caps w lp.prices.items lp.over lp.shares.items) (sym weight) at in
        let priced = subst (λ ps. AreShares (node_problem g p) routes no_route is.caps s.weight ps lp.over lp.shares.items) (sym prices) weighted in
        let xs = lp.shares.items in
        let here : route_shares shares.items ≡ map (share_of (length (customer_nodes g)) routes) xs = are ∙ ap (λ k. map (share_of k routes) xs) same in
        let all = are_shares g p routes is.over.routes_are lp.over xs at.placed at.parts in
        let each : All (IsShareOf g p lp.over) (route_shares shares.items) = subst (λ rs. All (IsShareOf g p lp.over) rs) (sym here) all in
        let over = at.small in
        let body = is.body in
        let count = shares.ok.0 in
        let small = shares.small in
        record {
          section = node;
          exact = subst (λ rs. IsExactRoot g (priced_section s) lp.over rs) (sym here) (exact_root g p routes is.over.routes_are is.caps (priced_section s) lp.over xs priced);
          keeps = keep_pairs g p lp.over (route_shares shares.items) each;
          fits = record {
            over_weight = record { some = at.some; small = omega (arith, over, body) };
            few = omega (arith, count, small);
            each = shares_fit g p lp.over shares.items network (omega (arith, over, body)) each;
          };
        }
