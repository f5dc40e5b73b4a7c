-- Labels of a search and of a proof, and their ranges.
use Rattle.std.proofs.Common.{◌≡◌, ◌∙◌, ℕ, ◌*◌, ◌<◌, ◌≤◌, ◌^◌, ◌&&◌, sym, subst, List, [], ◌∷◌, length, arith, inl, inr, true, nat_eq}
use Rattle.std.specs.List.{All}
use Rattle.std.proofs.Math.Nat.{mul-le-mul_right}
use Rattle.std.proofs.lemmas.Bool.{and_parts, eqb-true, or_cases}
use Rattle.std.proofs.lemmas.List.Elements.{All-cons, All-nil, All-weaker}
use Rattle.certificate_parts.specs.Ranges.{PointFits}
use Rattle.customer_sets.specs.CustSet.{has}
use Rattle.ev_model.specs.Network.{is_customer, Network, node_count}
use Rattle.fleet_model.specs.Places.{customer_count, customer_number}
use Rattle.instance_reader.specs.Instance.{customer_nodes, most_customers}
use Rattle.fleet_model.proofs.Counts.{number_less}
use Rattle.fleet_model.proofs.Numbers.{counted}
use Rattle.charge_curve.specs.Points.{ArePoints, time_on}
use Rattle.near_proof.specs.Ranges.{AreAmong, NearLabelFits}
use Rattle.near_proof.proofs.Fits.{label_within_full}
use Rattle.near_proof.specs.Terms.{near_set, price_of}
use Rattle.near_proof.specs.declared.proof.NearLabel.{NearLabel}
use Rattle.label_search.specs.Steps.{IsInRange, IsLeft, IsListed, Leads}
use Rattle.label_steps.specs.Arrivals.{IsWithin}
use Rattle.piece_fn.proofs.Exact.{Each, each_support, IsWithin as IsSupport}
use Rattle.piece_fn.proofs.Levels.{is_level, time_at-level_times}
use Rattle.near_pricing.specs.Placed.{IsPlaced}
use Rattle.near_pricing.specs.Questions.{IsQuestion, most_price, Question}
use Rattle.near_pricing.specs.Labels.{near_space, with_value}
use Rattle.near_pricing.specs.declared.steps.Target.{Target}

-- so few services earn little
little : (count earned : ℕ) → earned ≤ count * most_price → count ≤ 128 → earned ≤ 2 ^ 96
little count earned much few =
    let most = mul-le-mul_right most_price few in
    omega (arith, much, most)

pub label_placed : (q : Question) (l : NearLabel) → IsInRange (near_space q) l → IsPlaced q.network l
label_placed q l range = record {
  node = range.node;
  earned = little l.count l.earned range.fits.earned range.fits.few;
  levels = range.levels;
}

pub few_customers : (q : Question) → IsQuestion q → customer_count q.network ≤ most_customers
few_customers q is = omega (arith, is.few, counted q.network)

-- each of some supporting points of a value in range is in range
points_within : (g : Network) (value : List (ℕ × ℕ)) → IsWithin g value → ArePoints value → (ps : List (ℕ × ℕ))
    → Each (λ p. (time_on value p.0 ≡ p.1) × IsSupport value p.0) ps → All (PointFits g) ps
points_within g value within are [] each = All-nil (PointFits g)
points_within g value within are (p ∷ ps) each =
    let level = is_level value p.0 are each.0.1.0 each.0.1.1 in
    let time = time_at-level_times value p.0 are level in
    let low = within.levels p.0 level in
    let early = within.times p.0 level in
    All-cons (PointFits g) p ps (low, omega (arith, time, early, each.0.0)) (points_within g value within are ps each.1)

pub value_fits : (g : Network) (value : List (ℕ × ℕ)) → IsWithin g value → ArePoints value → All (PointFits g) value
value_fits g value within are = points_within g value within are value (each_support value are)

pub label_fits : (q : Question) (l : NearLabel) → IsInRange (near_space q) l → ArePoints l.value → NearLabelFits q.network l
label_fits q l range are = record {
  node = range.node;
  memory = λ c h. (let known = range.fits.memory c h in omega (arith, known, counted q.network));
  count = omega (arith, range.fits.count, counted q.network);
  earned = little l.count l.earned range.fits.earned range.fits.few;
  valid = are;
  points = value_fits q.network l.value (record { levels = range.levels; times = range.times }) are;
}

-- a label in its ranges is so with any smaller count
pub uncounted_fits : (g : Network) (l : NearLabel) → NearLabelFits g l → NearLabelFits g (record l { count = 0 })
uncounted_fits g l fits = record {
  node = fits.node;
  memory = fits.memory;
  count = omega arith;
  earned = fits.earned;
  valid = fits.valid;
  points = fits.points;
}

pub number_within : (g : Network) (x : ℕ) → x < node_count g → is_customer g x ≡ true → customer_number g x < customer_count g
number_within g x less is = number_less g x (node_count g) is less

-- no price is too great
pub small_price : (q : Question) → IsQuestion q → (n : ℕ) → n < customer_count q.network → price_of q.terms.prices n ≤ most_price
small_price q is n less = is.small n 0 (omega (arith, less, is.one_price, counted q.network))

-- a label in the ranges of a proof may make steps
pub listed_placed : (g : Network) (l : NearLabel) → NearLabelFits g l → IsPlaced g l
listed_placed g l fits = record {
  node = fits.node;
  earned = fits.earned;
  levels = label_within_full g l fits;
}

-- what is left on leaving a node is in range
pub left_within : (g : Network) (v : List (ℕ × ℕ)) (u node : ℕ) (values : List (List (ℕ × ℕ))) → All (IsLeft g v u node) values → All (IsWithin g) values
left_within g v u node values left = All-weaker (IsLeft g v u node) (IsWithin g) (λ value is. record { levels = λ level at. (is.comes level at).full; times = is.times }) values left

-- who is remembered behind a step is a customer
pub step_memory : (q : Question) (from : NearLabel) (node : ℕ) (t : Target) → node < node_count q.network → AreAmong (length (customer_nodes q.network)) from.memory → ((value : List (ℕ × ℕ)) → Leads (near_space q) from (with_value t node value)) → AreAmong (length (customer_nodes q.network)) t.memory
step_memory q from node t known among leads c h = elim ((leads []).kind) [
  | inl customer ↦ elim (or_cases (nat_eq (customer_number q.network node) c) (has from.memory c && has (near_set q.terms.sets (customer_number q.network node)) c) (sym (customer.1.memory c) ∙ h)) [
    | inl same ↦
        let less = number_within q.network node known customer.0 in
        let number = eqb-true (customer_number q.network node) c same in
        omega (arith, less, number, counted q.network)
    | inr before ↦ among c (and_parts (has from.memory c) (has (near_set q.terms.sets (customer_number q.network node)) c) before).0
  ]
  | inr station ↦ among c (subst (λ s. has s c ≡ true) station.1.memory h)
]

-- labels of a search are in the ranges of a proof
pub all_fit : (q : Question) (labels : List NearLabel) → All (IsListed (near_space q)) labels → All (NearLabelFits q.network) labels
all_fit q labels listed = All-weaker (IsListed (near_space q)) (NearLabelFits q.network) (λ l on. label_fits q l on.range on.valid) labels listed
