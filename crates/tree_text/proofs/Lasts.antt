-- Whom a label names as its last fits its node.
use Rattle.std.proofs.Common.{◌≡◌, ◌∙◌, ℕ, suc, ◌+◌, ◌<◌, Bool, true, false, ◌&&◌, not, Option, None, Some, List, is_none, length, nat_eq, refl, sym, ap, arith, if◌then◌else◌}
use Rattle.std.proofs.lemmas.Bool.{false≢true}
use Rattle.ev_model.specs.Network.{Network, curve_at, is_customer}
use Rattle.fleet_model.specs.Places.{customer_number}
use Rattle.fleet_model.proofs.Numbers.{numbered}
use Rattle.instance_reader.specs.Instance.{IsCustomerNumber, customer_nodes}
use Rattle.certificate_parts.specs.Places.{IsPlaceOf}
use Rattle.certificate_parts.specs.Ranges.{customer_count}
use Rattle.certificate_parts.specs.Written.{place_node}
use Rattle.certificate_parts.specs.declared.reading.nodes.Place.{Place}
use Rattle.near_tree.specs.Preorder.{last_of}
use Rattle.near_tree.specs.Ranges.{IsLastAmong, LastFits}
use Rattle.near_tree.specs.Sections.{after}
use Rattle.near_tree.specs.declared.proof.LastServed.{LastServed}
use Rattle.near_tree.specs.declared.proof.LastServed.TheVariants.{Customer, Nobody}
use Rattle.tree_text.specs.Written.{is_station, named, named_last}

pub own-customer : (g : Network) (node number : ℕ) → IsCustomerNumber g node (Some number) → number < length (customer_nodes g) → LastFits g node (Customer number)
own-customer g node number is within =
    let customer : is_customer g node ≡ true = is.0 in
    let same : number ≡ customer_number g node = numbered g number node is.1 in
    record {
      known = omega (arith, within);
      customer = λ told. ap (λ n. after n) (ap (λ n. n + 1) same ∙ ap (λ (b : Bool). if b then customer_number g node + 1 else 0) (sym customer));
      depot = λ none curve. absurd (false≢true (sym none ∙ customer));
    }

pub own-nobody : (g : Network) (node : ℕ) → IsCustomerNumber g node None → LastFits g node Nobody
own-nobody g node is = record {
  known = omega arith;
  customer = λ told. absurd (false≢true (sym is ∙ told));
  depot = λ none curve. refl;
}

-- at a station it may be any
pub at-station : (g : Network) (node : ℕ) (last : LastServed) → is_station g node ≡ true → IsLastAmong (customer_count g) (last_of last) → LastFits g node last
at-station g node last station among = record {
  known = among;
  customer = λ told. absurd (no_customer (is_none (curve_at g node)) (not (nat_eq node 0)) station told);
  depot = λ none curve. absurd (false≢true (ap (λ (o : Option (List (ℕ × ℕ))). not (is_none o)) (sym curve) ∙ station));
}
  where
    no_customer : (none other : Bool) → not none ≡ true → (other && none) ≡ true → ⊥
    no_customer true other is told = false≢true is
    no_customer false true is told = false≢true told
    no_customer false false is told = false≢true told

pub depot-named : (g : Network) (p : Place) → p.place ≡ 0 → IsPlaceOf g p → named_last g Nobody ≡ named p.node
depot-named g p none is = ap (λ n. named n) (ap (place_node g) (sym none) ∙ is.node_is)

pub customer-named : (g : Network) (p : Place) (c : ℕ) → p.place ≡ suc c → IsPlaceOf g p → (named_last g (Customer c) ≡ named p.node) × IsLastAmong (customer_count g) (last_of (Customer c))
customer-named g p c some is = (ap (λ n. named n) (ap (place_node g) (sym some) ∙ is.node_is), let within = is.within in omega (arith, within, some))
