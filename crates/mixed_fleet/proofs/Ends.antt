-- The ends of the price loop, and what its rising prices come to, as roots.
use Rattle.std.proofs.Common.{◌≡◌, ◌≢◌, ◌∙◌, ℕ, suc, ◌+◌, ◌*◌, ◌≤◌, List, get_or, length, map, replicate, set, refl, sym, ap, subst, arith, ℤ, pos, negsuc, neg_ℤ, ◌*ℤ◌, ◌<ℤ◌, ◌≤ℤ◌}
use Rattle.std.specs.List.{All}
use Rattle.std.proofs.Math.IntN.{negsuc-*ℤ-pos}
use Rattle.std.proofs.lemmas.Int.{ints}
use Rattle.std.proofs.lemmas.List.{get_or-set_same, length-replicate, length-set}
use Rattle.ev_model.specs.Network.{Network}
use Rattle.fleet_model.specs.Prices.{price_total}
use Rattle.instance_reader.specs.Instance.{customer_nodes}
use Rattle.certificate_parts.specs.Limits.{most_items}
use Rattle.certificate_parts.specs.declared.entry.BasisEntry.{BasisEntry}
use Rattle.master_simplex.specs.declared.prices.Lp.{Lp}
use Rattle.piece_fn.specs.declared.label.Label.{Label}
use Rattle.price_loop.specs.Columns.{HasRoute}
use Rattle.price_loop.specs.Masters.{IsWide}
use Rattle.price_loop.specs.Rising.{IsNowhere, IsPricedByRising}
use Rattle.price_loop.proofs.Optimum.{AreShares, optimum_shares, ray_above}
use Rattle.price_loop.proofs.WholePrices.{some_sum, sum_at_least}
use Rattle.mixed_model.specs.Kinds.{first_of}
use Rattle.mixed_model.specs.Meaning.{kind_shares}
use Rattle.mixed_model.specs.Covers.{IsExactCover}
use Rattle.mixed_model.specs.Ranges.{ShareFits}
use Rattle.mixed_model.specs.declared.proof.MixedRoot.TheVariants as root
use Rattle.mixed_model.specs.declared.proof.MixedRoute.{MixedRoute}
use Rattle.mixed_model.specs.declared.proof.MixedShare.{MixedShare}
use Rattle.bound_certificate.specs.Entries.{entry_of}
use Rattle.mixed_fleet.specs.Fleets.{AreFleetKinds}
use Rattle.mixed_fleet.specs.Once.{served_once}
use Rattle.mixed_fleet.specs.Problem.{problem_of}
use Rattle.mixed_fleet.specs.Rising.{AreRisingPrices}
use Rattle.mixed_fleet.specs.Roots.{IsRightRoot}
use Rattle.mixed_fleet.specs.Shares.{certificate_caps, IsClosedAt, no_route, share_at}
use Rattle.mixed_fleet.specs.declared.searched.Searched.{Searched}
use Rattle.mixed_fleet.proofs.Exact.{exact_cover, shares_fit}
use Rattle.mixed_fleet.proofs.Rises.{are_rising}
use Rattle.mixed_fleet.proofs.Wides.{columns_fit, routes_of, wide_root}

-- what a number of times is a natural number isn't below 0
not_below : (k over : ℕ) (sum : ℤ) → 1 ≤ over → pos k ≡ sum *ℤ pos over → pos 0 ≤ℤ sum
not_below k over (pos p) some same = omega (arith, ints)
not_below k over (negsuc p) some same =
    let product : pos k ≡ neg_ℤ (pos (suc p * over)) = same ∙ negsuc-*ℤ-pos p over in
    let parts : suc p * over ≡ p * over + over = omega arith in
    absurd (omega (arith, ints, product, parts, some))

module _ (kinds : List Network) (lp : Lp) (routes : List Searched) (closing : List (List Label)) (is : IsClosedAt kinds lp routes closing) where
  pub ray_sum : lp.weight ≡ 0 → pos 0 <ℤ price_total lp.prices.items
  ray_sum none = ray_above (problem_of kinds) routes no_route certificate_caps lp is.basis closing is.over none

  shares_at : lp.weight ≢ 0 → AreShares (problem_of kinds) routes no_route certificate_caps lp.weight lp.prices.items lp.over lp.shares.items
  shares_at some = optimum_shares (problem_of kinds) routes no_route certificate_caps lp is.basis closing is.over (served_once kinds) some

  pub shares_placed : (n : ℕ) → n ≡ length (customer_nodes (first_of kinds)) → lp.weight ≢ 0 → All (HasRoute n routes) lp.shares.items
  shares_placed n same some = subst (λ (k : ℕ). All (HasRoute k routes) lp.shares.items) (sym same) (shares_at some).placed

  pub exact_sum : lp.weight ≢ 0 → pos 0 ≤ℤ price_total lp.prices.items
  exact_sum some = let at = shares_at some in not_below _ lp.over (price_total lp.prices.items) at.some at.cost

  pub exact_root : AreFleetKinds kinds → (n : ℕ) → n ≡ length (customer_nodes (first_of kinds)) → lp.weight ≢ 0 → (found : List MixedShare) → length found ≤ most_items → found ≡ map (share_at n routes) lp.shares.items
      → IsRightRoot kinds lp.weight lp.prices.items (root.Exact lp.over found)
  exact_root fleet n same some found few made =
      let at = shares_at some in
      let xs = lp.shares.items in
      let here = made ∙ ap (λ (k : ℕ). map (share_at k routes) xs) same in
      let n_first = length (customer_nodes (first_of kinds)) in
      let fit = subst (λ (ys : List MixedShare). All (ShareFits (length kinds)) ys) (sym here) (shares_fit kinds fleet routes is.over.routes_are lp.over xs at.small at.placed at.parts) in
      let cover = subst (λ (ys : List MixedShare). IsExactCover kinds lp.weight lp.prices.items lp.over (kind_shares ys)) (sym here) (exact_cover kinds fleet routes is.over.routes_are lp.weight lp.over lp.prices.items xs at) in
      (record { over_weight = record { some = at.some; small = at.small }; few = few; each = fit }, cover)

-- ---- rising prices

module _ (kinds : List Network) (fleet : AreFleetKinds kinds) (prices : List ℤ) (closing : List (List Label)) where
  pub rising_sum : IsPricedByRising (problem_of kinds) prices closing → pos 0 ≤ℤ price_total prices
  rising_sum is = subst (λ (ps : List ℤ). pos 0 ≤ℤ price_total ps) (sym is.prices_are) (some_sum is.of)

  pub rising_root : IsPricedByRising (problem_of kinds) prices closing → (routes : List Searched) (basis : List ℕ) → IsWide (problem_of kinds) certificate_caps routes basis → length routes ≤ most_items → (n : ℕ) → n ≡ length (customer_nodes (first_of kinds))
      → (columns : List MixedRoute) → columns ≡ routes_of routes → (entries : List BasisEntry) → entries ≡ map (entry_of n) basis → IsRightRoot kinds 1 prices (root.Wide columns entries)
  rising_root is routes basis wide few n same columns listed entries named =
      let here = named ∙ ap (λ (k : ℕ). map (entry_of k) basis) same in
      let rising : AreRisingPrices kinds prices = subst (AreRisingPrices kinds) (sym is.prices_are) (are_rising kinds fleet is.of is.fixed) in
      subst (λ (es : List BasisEntry). IsRightRoot kinds 1 prices (root.Wide columns es)) (sym here)
      (subst (λ (cs : List MixedRoute). IsRightRoot kinds 1 prices (root.Wide cs (map (entry_of (length (customer_nodes (first_of kinds)))) basis))) (sym listed)
      (columns_fit kinds fleet routes basis wide few, wide_root kinds fleet routes basis wide, refl, rising))

  pub nowhere_sum : (customer : ℕ) → IsNowhere (problem_of kinds) customer prices closing → pos 0 <ℤ price_total prices
  nowhere_sum customer is =
      let n = length (customer_nodes (first_of kinds)) in
      let of : List ℕ = set (replicate n 0) customer 1 in
      let blank : List ℕ = replicate n 0 in
      let none : length blank ≡ n = length-replicate n 0 in
      let long : length of ≡ length blank = length-set blank customer 1 in
      let within = is.within in
      let one : get_or of customer 0 ≡ 1 = get_or-set_same blank customer 1 0 (omega (arith, within, none)) in
      let some = sum_at_least of customer (omega (arith, within, none, long)) in
      subst (λ (ps : List ℤ). pos 0 <ℤ price_total ps) (sym is.prices_are) (omega (arith, ints, one, some))
