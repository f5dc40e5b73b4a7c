-- What holds of a section that was found.
use Rattle.std.proofs.Common.{◌≡◌, ◌≢◌, ◌∙◌, ℕ, suc, ◌+◌, ◌*◌, ◌<◌, ◌≤◌, List, [], ◌∷◌, length, map, inl, inr, sym, subst, arith}
use Rattle.std.specs.Prelude.{ℤ, pos, negsuc, neg_ℤ, ◌*ℤ◌, ◌≤ℤ◌, ◌<ℤ◌}
use Rattle.std.proofs.Math.IntN.{negsuc-*ℤ-pos}
use Rattle.std.proofs.lemmas.Int.{ints}
use Rattle.customer_sets.specs.Pairs.{ForbiddenPairs, allows_of}
use Rattle.ev_model.specs.Network.{Network}
use Rattle.fleet_model.specs.Cover.{CoverKeepsPairs, cost_of_shares}
use Rattle.fleet_model.specs.Prices.{price_of, price_total}
use Rattle.fleet_model.specs.Strong.{AreRisingPrices, IsStrong}
use Rattle.bound_certificate.specs.Meaning.{basis_columns, priced_section, route_shares}
use Rattle.bound_certificate.specs.Ranges.{customer_count}
use Rattle.bound_certificate.specs.declared.certificate.Root.{Root}
use Rattle.bound_certificate.specs.declared.certificate.Root.TheVariants as root
use Rattle.bound_certificate.specs.declared.certificate.Section.{Section}
use Rattle.column_pool.specs.Bounds.{IsNodeBound, IsNodeSection}
use Rattle.ev_fleet.specs.Answers.{answer_of}
use Rattle.ev_fleet.specs.LeafNames.{IsSummable}
use Rattle.ev_fleet.specs.State.{IsFound}
use Rattle.instance_reader.specs.Instance.{most_customers}

negative_product : (a over : ℕ) (p : ℤ) → p <ℤ pos 0 → 1 ≤ over → pos a ≢ p *ℤ pos over
negative_product a over (pos p) less some same = omega (arith, ints, less)
negative_product a over (negsuc p) less some same =
    let product : pos a ≡ neg_ℤ (pos (suc p * over)) = same ∙ negsuc-*ℤ-pos p over in
    let parts : suc p * over ≡ p * over + over = omega arith in
    omega (arith, ints, product, parts, some)

exact_sum : (a over : ℕ) (p : ℤ) → 1 ≤ over → pos a ≡ p *ℤ pos over → pos 0 ≤ℤ p
exact_sum a over (pos p) some same = omega (arith, ints)
exact_sum a over (negsuc p) some same = absurd (negative_product a over (negsuc p) (omega (arith, ints)) some same)

-- prices that aren't below 0 have a sum that isn't
each_some : (xs : List ℤ) → ((c : ℕ) → c < length xs → pos 0 ≤ℤ price_of xs c) → pos 0 ≤ℤ price_total xs
each_some [] some = omega (arith, ints)
each_some (x ∷ xs) some =
    let first : pos 0 ≤ℤ x = some 0 (omega arith) in
    let rest = each_some xs (λ c less. some (suc c) (omega (arith, less))) in
    omega (arith, ints, first, rest)

pub strong_sum : (g : Network) (s : Section) → IsStrong g (priced_section s) → pos 0 ≤ℤ price_total s.prices
strong_sum g s strong = elim strong [
  | inl none ↦ let more = none.1 in omega (arith, ints, more)
  | inr rest ↦ elim rest [
    | inl best ↦ exact_sum (cost_of_shares g 1 best.shares * s.weight) best.over (price_total s.prices) best.exact.cover.some_weight best.exact.cost
    | inr risen ↦
        let one = risen.prices.one_price in
        each_some s.prices (λ c less. (risen.prices.rising c (omega (arith, one, less))).some)
  ]
]

pub node_section : (g : Network) (p : ForbiddenPairs) (s : Section) (r : Root) → IsNodeBound g p (answer_of s r) → IsNodeSection g p s
node_section g p s root.None is = is.section
node_section g p s (root.Exact over shares) is = is.section
node_section g p s (root.Wide columns basis) is = is.section

strong_of : (g : Network) (p : ForbiddenPairs) (s : Section) (r : Root) → IsNodeBound g p (answer_of s r) → IsStrong g (priced_section s)
strong_of g p s root.None is = inl is.none
strong_of g p s (root.Exact over shares) is =
    inr (inl (record {
      over = over;
      shares = route_shares shares;
      exact = is.exact;
      keeps = subst (λ q. CoverKeepsPairs g (allows_of q) (route_shares shares)) (sym is.section.pairs) is.keeps;
    }))
strong_of g p s (root.Wide columns basis) is =
    inr (inr (record {
      plans = map (λ c. c.stops) columns;
      entries = basis_columns g columns basis;
      wide = is.wide;
      weight = is.weight;
      prices = subst (λ q. AreRisingPrices g (allows_of q) s.prices) (sym is.section.pairs) is.prices;
    }))

pub found_of : (g : Network) (p : ForbiddenPairs) (s : Section) (r : Root) → IsNodeBound g p (answer_of s r) → IsFound g s
found_of g p s r is =
    let section = node_section g p s r is in
    record { closed = section.closed; strong = strong_of g p s r is; fits = section.fits }

pub summable : (g : Network) (s : Section) → customer_count g ≤ most_customers → IsFound g s → IsSummable s
summable g s few found =
    let one = found.fits.one_price in
    record { few = omega (arith, one, few); small = found.fits.prices; some = strong_sum g s found.strong }
