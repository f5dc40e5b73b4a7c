-- What stands for parts that fit is in the ranges of what is written.
use Rattle.std.proofs.Common.{◌≡◌, ◌∙◌, inl, inr, ℕ, zero, suc, ◌-◌, ◌%◌, ◌<◌, ◌≤◌, Bool, true, false, ◌||◌, ◌&&◌, List, [], ◌∷◌, Some, map, nat_eq, nat_le, nat_lt, refl, sym, ap, subst, arith}
use Rattle.std.specs.List.{All, range_with_len}
use Rattle.std.proofs.lemmas.Bool.{eq-eqb, le-leb, lt-ltb}
use Rattle.std.proofs.lemmas.List.Elements.{All-cons, All-get_or, All-head, All-nil, All-tail}
use Rattle.charge_curve.specs.Points.{ArePoints}
use Rattle.ev_model.specs.Network.{IsNetwork, Network, is_customer, node_count}
use Rattle.ev_text.specs.Texts.{AllFrom}
use Rattle.instance_reader.specs.Instance.{customer_nodes}
use Rattle.instance_reader.proofs.InstanceLemmas.{All-filter-true, customers_known}
use Rattle.route_plan.specs.Limits.{greatest_number}
use Rattle.ev_text.specs.Numbers.{Keeping}
use Rattle.certificate_parts.specs.Limits.{greatest_weight}
use Rattle.certificate_parts.specs.Ranges.{IsLast, IsWeight, PointFits, customer_count}
use Rattle.certificate_parts.specs.Reading.{is_customer_node, is_place}
use Rattle.certificate_parts.specs.Written.{customer_node, place_node}
use Rattle.certificate_parts.specs.WrittenRanges.{PointIs, PointsAre, next_point}

-- items that are made of others
pub all_map : {A B : Type 0} (f : A → B) (P : A → Type 0) (Q : B → Type 0) (xs : List A) → ((a : A) → P a → Q (f a)) → All P xs → All Q (map f xs)
all_map f P Q [] step all = All-nil Q
all_map f P Q (x ∷ xs) step all = All-cons Q (f x) (map f xs) (step x (All-head P x xs all)) (all_map f P Q xs step (All-tail P x xs all))

pub or_true : (b : Bool) → (b || true) ≡ true
or_true true = refl
or_true false = refl

pub weight_is : (n : ℕ) → IsWeight n → Keeping greatest_weight (λ m. nat_le 1 m) n
weight_is n fits = (fits.small, le-leb 1 n fits.some)

-- the points of a label
module _ (g : Network) where
  points_from : (p : ℕ × ℕ) (ps : List (ℕ × ℕ)) → ArePoints (p ∷ ps) → All (PointFits g) ps → AllFrom (PointIs g) next_point (Some p) ps
  points_from p [] valid fit = tt
  points_from p (q ∷ qs) valid fit =
      let own = All-head (PointFits g) q qs fit in
      let later : nat_le p.1 q.1 ≡ true = le-leb p.1 q.1 valid.1 in
      let whole : nat_eq ((q.1 - p.1) % (q.0 - p.0)) 0 ≡ true = eq-eqb ((q.1 - p.1) % (q.0 - p.0)) 0 valid.2 in (
        record { level = (own.0, lt-ltb p.0 q.0 valid.0); time = (own.1, rw (later, whole) refl) },
        points_from q qs valid.3 (All-tail (PointFits g) q qs fit),
      )

  pub points_are : (points : List (ℕ × ℕ)) → ArePoints points → All (PointFits g) points → PointsAre g points
  points_are [] valid fit = absurd valid
  points_are (p ∷ ps) valid fit =
      let own = All-head (PointFits g) p ps fit in
      (record { level = (own.0, refl); time = (own.1, refl) }, points_from p ps valid (All-tail (PointFits g) p ps fit))

-- nodes of customers and places
module _ (g : Network) (network : IsNetwork g) where
  pub customer_is : (c : ℕ) → c < customer_count g → Keeping greatest_number (is_customer_node g) (customer_node g c)
  customer_is c within =
      let known = All-get_or (λ node. node < node_count g) (customer_nodes g) c 0 within (customers_known g) in
      let inside : nat_lt (customer_node g c) (node_count g) ≡ true = lt-ltb (customer_node g c) (node_count g) known in
      let customer : is_customer g (customer_node g c) ≡ true = All-get_or (λ node. is_customer g node ≡ true) (customer_nodes g) c 0 within (All-filter-true (is_customer g) (range_with_len 0 (node_count g))) in
      let few = network.few_nodes in
      (omega (arith, known, few), rw (inside, customer) refl)

  pub place_is : (p : ℕ) → p ≤ customer_count g → Keeping greatest_number (is_place g) (place_node g p)
  place_is zero within = (omega arith, refl)
  place_is (suc c) within =
      let own = customer_is c (omega (arith, within)) in
      let customer : is_customer_node g (customer_node g c) ≡ true = own.1 in
      (own.0, ap (λ b. nat_eq (customer_node g c) 0 || b) customer ∙ or_true (nat_eq (customer_node g c) 0))

  pub last_is : (node : ℕ) → IsLast g node → Keeping greatest_number (is_place g) node
  last_is node last = elim last [
    | inl depot ↦ subst (λ (n : ℕ). Keeping greatest_number (is_place g) n) (sym depot) (omega arith, refl)
    | inr h ↦
        let inside : nat_lt node (node_count g) ≡ true = lt-ltb node (node_count g) h.0 in
        let customer : is_customer_node g node ≡ true = ap (λ b. b && is_customer g node) inside ∙ h.1 in
        let few = network.few_nodes in
        let known = h.0 in
        (omega (arith, known, few), ap (λ b. nat_eq node 0 || b) customer ∙ or_true (nat_eq node 0))
  ]

  pub node_is : (node : ℕ) → node < node_count g → Keeping greatest_number (λ n. nat_lt n (node_count g)) node
  node_is node within = let few = network.few_nodes in (omega (arith, within, few), lt-ltb node (node_count g) within)
