-- A vehicle with a level at least as high, no later, goes on as well.
use Rattle.std.proofs.Common.{◌≡◌, ◌∙◌, ℕ, zero, suc, ◌+◌, ◌-◌, ◌≤◌, refl, true, sym, ap, subst, List, [], ◌∷◌, Option, Some, None, arith, inl, inr}
use Rattle.std.specs.List.{All}
use Rattle.std.specs.Prelude.{nat_lt, slice_index_or, length}
use Rattle.std.proofs.lemmas.Bool.{cases_lt, lt-ltb}
use Rattle.std.proofs.lemmas.List.Elements.{All-head, All-tail}
use Rattle.ev_model.specs.Curve.{charge_time}
use Rattle.ev_model.specs.Levels.{leaving_level}
use Rattle.ev_model.specs.Network.{HasFittingCurve, IsNetwork, Network, curve_at, energy}
use Rattle.ev_model.specs.Time.{charging_time, stop_time}
use Rattle.ev_model.specs.declared.Stop.{Stop}
use Rattle.ev_model.proofs.ChargeTime.{charge_time-rises, charge_time_in-one}
use Rattle.label_steps.specs.Arrivals.{drive_time}
use Rattle.label_steps.specs.Leaves.{charge_time_at}
use Rattle.label_steps.proofs.Stops.{passing_time, stop_parts}
use Rattle.route_steps.specs.Ways.{Leaving, MayStop, leaving_after, passed_after}

-- the curve of a node reaches a full battery
fitting : (full d x : ℕ) (curves : List (Option (List (ℕ × ℕ)))) (points : List (ℕ × ℕ)) → All (HasFittingCurve full d) curves → slice_index_or curves x None ≡ Some points → HasFittingCurve full d (Some points)
fitting full d x [] points fit is = absurd (grind (arith, is))
fitting full d zero (c ∷ curves) points fit is = subst (λ (q : Option (List (ℕ × ℕ))). HasFittingCurve full d q) is (All-head (HasFittingCurve full d) c curves fit)
fitting full d (suc x) (c ∷ curves) points fit is = fitting full d x curves points (All-tail (HasFittingCurve full d) c curves fit) is

rises_at : (g : Network) (x : ℕ) → IsNetwork g → (points : List (ℕ × ℕ)) → curve_at g x ≡ Some points → (a b : ℕ) → a ≤ b → charge_time g.denominator points a ≤ charge_time g.denominator points b
rises_at g x network points is a b le = charge_time-rises g.denominator points a b (fitting g.capacity g.denominator x g.curves points network.curves is).0.rises le

-- to a level above both, the charge from the higher one takes no longer
less_charge : (d low high to : ℕ) (curve : Option (List (ℕ × ℕ))) → ((points : List (ℕ × ℕ)) → curve ≡ Some points → (a b : ℕ) → a ≤ b → charge_time d points a ≤ charge_time d points b)
    → low ≤ high → charging_time 1 d curve high to ≤ charging_time 1 d curve low to
less_charge d low high to None up le = omega arith
less_charge d low high to (Some points) up le =
    rw (charge_time_in-one d points high, charge_time_in-one d points low, charge_time_in-one d points to) (omega (arith, up points refl low high le))

-- what is charged from a higher level to come no lower than by a charge from a lower one
abbrev pub left_to_charge : ℕ → ℕ → ℕ → ℕ
left_to_charge low high added = low + added - high

-- it takes no longer, plugging in included
pub charge_no_longer : (g : Network) (node low high added : ℕ) → IsNetwork g → low ≤ high → charge_time_at g node high (left_to_charge low high added) ≤ charge_time_at g node low added
charge_no_longer g node low high added network le = elim (cases_lt high (low + added)) [
  | inl over ↦
      let first : nat_lt 0 (left_to_charge low high added) ≡ true = lt-ltb 0 (left_to_charge low high added) (omega (arith, over)) in
      let second : nat_lt 0 added ≡ true = lt-ltb 0 added (omega (arith, over, le)) in
      let top : high + left_to_charge low high added ≡ low + added = omega (arith, over) in
      let less = less_charge g.denominator low high (low + added) (curve_at g node) (rises_at g node network) le in
      rw (first, second, top) (omega (arith, less))
  | inr under ↦
      let none : left_to_charge low high added ≡ 0 = omega (arith, under) in
      let free = passing_time g node high in
      rw none (omega (arith, free))
]

-- the vehicle is where the other is, with a level at least as high, no later
pub record IsAsGood (a v : Leaving) : Type 0 where
  pub passed : a.passed ≡ v.passed
  pub node : a.node ≡ v.node
  pub level : v.level ≤ a.level
  pub time : a.time ≤ v.time

-- the same stop, with what is left to charge
abbrev pub stop_of : Network → Leaving → Leaving → Stop → Stop
stop_of g a v s = record {
  node = s.node;
  added = left_to_charge (v.level - energy g v.node s.node) (a.level - energy g v.node s.node) s.added;
  via = s.via;
}

module _ (g : Network) (route : List ℕ) (network : IsNetwork g) (a v : Leaving) (s : Stop) (good : IsAsGood a v) (may : MayStop g route v s) where
  arc : energy g a.node s.node ≡ energy g v.node s.node
  arc = ap (λ n. energy g n s.node) good.node

  -- it takes no longer
  no_longer : stop_time g 1 a.node a.level (stop_of g a v s) ≤ stop_time g 1 v.node v.level s
  no_longer =
      let e = energy g v.node s.node in
      let ours = stop_parts g a.node a.level (stop_of g a v s) in
      let theirs = stop_parts g v.node v.level s in
      let drive : drive_time g a.node s.node ≡ drive_time g v.node s.node = ap (λ n. drive_time g n s.node) good.node in
      let charge : charge_time_at g s.node (a.level - energy g a.node s.node) (stop_of g a v s).added ≡ charge_time_at g s.node (a.level - e) (stop_of g a v s).added = ap (λ x. charge_time_at g s.node (a.level - x) (stop_of g a v s).added) arc in
      let level = good.level in
      let less = charge_no_longer g s.node (v.level - e) (a.level - e) s.added network (omega (arith, level)) in
      omega (arith, ours, theirs, drive, charge, less)

  -- and comes no lower
  level_is : leaving_level g 1 a.node a.level (stop_of g a v s) ≡ a.level - energy g v.node s.node + (stop_of g a v s).added
  level_is = let same = arc in omega (arith, same)

  -- it may be made
  pub may_be_made : a.level ≤ g.capacity → MayStop g route a (stop_of g a v s)
  may_be_made low =
      let e = energy g v.node s.node in
      let same = arc in
      let leaves = level_is in
      let level = good.level in
      let time = good.time in
      let longer = no_longer in
      let reserve = may.reserve in
      let within = may.within in
      let limit = may.in_time in
      record {
        other = λ here. may.other (here ∙ good.node);
        stop = record {
          known = may.stop.known;
          station = λ either. elim either [
            | inl via ↦ may.stop.station (inl via)
            | inr more ↦ may.stop.station (inr (omega (arith, more, level)))
          ];
        };
        on_way = (let before = may.on_way in let is = good.passed in omega (arith, before, is));
        next = λ own. ap (λ n. slice_index_or route (n + 1) 0) good.passed ∙ may.next own;
        reserve = omega (arith, reserve, same, level);
        within = omega (arith, leaves, within, low, level);
        home = λ last.
            let there : passed_after v.passed s ≡ length route - 1 = ap (λ n. passed_after n s) (sym good.passed) ∙ last in
            let both = may.home there in
            (omega (arith, both.0, level), omega (arith, both.0, both.1, leaves, level));
        in_time = omega (arith, longer, limit, time);
      }

  pub stays_as_good : IsAsGood (leaving_after g a (stop_of g a v s)) (leaving_after g v s)
  stays_as_good =
      let leaves = level_is in
      let longer = no_longer in
      let time = good.time in
      record {
        passed = ap (λ n. passed_after n s) good.passed;
        node = refl;
        level = omega (arith, leaves);
        time = omega (arith, longer, time);
      }
