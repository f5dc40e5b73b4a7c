-- Sections by rising prices, and by a customer who stands on no route.
use Rattle.std.proofs.Common.{◌≡◌, ◌∙◌, ℕ, ◌≤◌, arith, sym, subst, List, length, length-set, set, replicate, Vec, ℤ, pos, ◌<ℤ◌}
use Rattle.std.specs.Global.{Global}
use Rattle.std.proofs.lemmas.List.{length-map, length-replicate}
use Rattle.customer_sets.specs.Pairs.{allows_of, ForbiddenPairs}
use Rattle.ev_model.specs.Network.{Network}
use Rattle.fleet_model.specs.Prices.{price_total}
use Rattle.fleet_model.specs.Strong.{AreRisingPrices}
use Rattle.instance_reader.specs.Instance.{customer_nodes}
use Rattle.piece_fn.specs.declared.label.Label.{Label}
use Rattle.price_loop.specs.Rising.{IsNowhere, IsPricedByRising}
use Rattle.bound_certificate.specs.Limits.{most_items}
use Rattle.bound_certificate.specs.declared.certificate.Section.{Section}
use Rattle.column_pool.specs.Bounds.{IsEmpty, IsNodeSection}
use Rattle.column_pool.specs.Nodes.{node_problem}
use Rattle.column_pool.proofs.RisingPrices.{are_rising, lone_above}
use Rattle.column_pool.proofs.Sections.{section_closed}

module _ (g : Network) (p : ForbiddenPairs) (s : Section) (prices : List ℤ) (labels : Vec Label Global) (count : p.customers ≡ length (customer_nodes g)) (pairs : s.pairs ≡ p) (same : s.prices ≡ prices) (alike : s.labels ≡ labels.items) (few : length s.labels ≤ most_items) where
  pub section_nowhere : (customer : ℕ) → s.weight ≡ 0 → IsNowhere (node_problem g p) customer prices labels → IsEmpty g p s
  section_nowhere customer weight is =
      let n = length (customer_nodes g) in
      let lone : List ℕ = set (replicate n 0) customer 1 in
      let long : length prices ≡ n = subst (λ (zs : List ℤ). length zs ≡ n) (sym is.prices_are) (length-map lone pos ∙ length-set (replicate n 0) customer 1 ∙ length-replicate n 0) in
      record {
        section = section_closed g p s 0 prices labels.items is.closes pairs weight same alike count (omega arith) long is.small few;
        none = (weight, subst (λ (zs : List ℤ). pos 0 <ℤ price_total zs) (sym same) (lone_above n customer prices is.within is.prices_are));
      }

  module _ (weight : s.weight ≡ 1) (is : IsPricedByRising (node_problem g p) prices labels) where
    pub section_risen : IsNodeSection g p s
    section_risen =
        let n = length (customer_nodes g) in
        let long : length prices ≡ n = subst (λ (zs : List ℤ). length zs ≡ n) (sym is.prices_are) (length-map is.of pos ∙ is.fixed.count) in
        section_closed g p s 1 prices labels.items is.closes pairs weight same alike count (omega arith) long is.small few

    pub prices_risen : AreRisingPrices g (allows_of p) s.prices
    prices_risen = subst (λ (zs : List ℤ). AreRisingPrices g (allows_of p) zs) (sym same) (are_rising g p is.of prices is.fixed is.prices_are)
