-- The written form of a label that fits is in its ranges: the nodes of its set rise.
use Rattle.std.proofs.Common.{◌≡◌, ◌∙◌, ℕ, suc, ◌+◌, ◌<◌, Bool, true, false, ◌&&◌, List, [], ◌∷◌, ◌++◌, Option, None, Some, get_or, refl, ap, subst, arith, if◌then◌else◌}
use Rattle.std.specs.List.{All}
use Rattle.std.specs.List.Sorted.{IsStrictlyIncreasing}
use Rattle.std.proofs.lemmas.Bool.{lt-ltb, ltb-true}
use Rattle.std.proofs.lemmas.List.Elements.{All-from_get_or, All-head, All-tail}
use Rattle.customer_sets.specs.CustSet.{has}
use Rattle.ev_model.specs.Network.{IsNetwork, Network}
use Rattle.ev_text.specs.Texts.{AllFrom}
use Rattle.instance_reader.specs.Instance.{customer_nodes}
use Rattle.instance_reader.proofs.InstanceLemmas.{customers_rise}
use Rattle.piece_fn.specs.declared.label.Label.{Label}
use Rattle.route_plan.specs.Limits.{greatest_number}
use Rattle.ev_text.specs.Numbers.{Keeping}
use Rattle.certificate_parts.specs.Ranges.{LabelFits}
use Rattle.certificate_parts.specs.Reading.{is_above, is_customer_node}
use Rattle.certificate_parts.specs.Written.{nodes_in, written_label}
use Rattle.certificate_parts.specs.WrittenRanges.{LabelIs, MemberIs, SetIs, next_member}
use Rattle.certificate_parts.proofs.WrittenParts.{customer_is, last_is, node_is, points_are}

-- numbers that rise, one after another
abbrev Rises : Option ℕ → List ℕ → Type 0
Rises last ns = AllFrom (λ before n. is_above before n ≡ true) next_member last ns

rest_rises : (x : ℕ) (xs : List ℕ) → IsStrictlyIncreasing (x ∷ xs) → IsStrictlyIncreasing xs
rest_rises x xs rises k within =
    let same : suc k + 1 ≡ suc (k + 1) = omega arith in
    subst (λ (n : ℕ). get_or (x ∷ xs) (suc k) 0 < get_or (x ∷ xs) n 0) same (rises (suc k) (omega (arith, within)))

rises_after : (x : ℕ) (xs : List ℕ) → IsStrictlyIncreasing (x ∷ xs) → Rises (Some x) xs
rises_after x [] rises = tt
rises_after x (y ∷ ys) rises = (lt-ltb x y (rises 0 (omega arith)), rises_after y ys (rest_rises x (y ∷ ys) rises))

rises_all : (xs : List ℕ) → IsStrictlyIncreasing xs → Rises None xs
rises_all [] rises = tt
rises_all (x ∷ xs) rises = (refl, rises_after x xs rises)

above_both : (last : Option ℕ) (n m : ℕ) → is_above last n ≡ true → is_above (Some n) m ≡ true → is_above last m ≡ true
above_both None n m first second = refl
above_both (Some b) n m first second = let x = ltb-true b n first in let y = ltb-true n m second in lt-ltb b m (omega (arith, x, y))

skip : (last : Option ℕ) (n : ℕ) (ns : List ℕ) → is_above last n ≡ true → Rises (Some n) ns → Rises last ns
skip last n [] above rises = tt
skip last n (m ∷ ms) above rises = (above_both last n m above rises.0, rises.1)

module _ (g : Network) (network : IsNetwork g) where
  members : (set : List ℕ) (number : ℕ) (last : Option ℕ) (ns : List ℕ) → All (Keeping greatest_number (is_customer_node g)) ns → Rises last ns → AllFrom (MemberIs g) next_member last (nodes_in set number ns)
  members set number last [] all rises = tt
  members set number last (n ∷ ns) all rises =
      by (has set number) (members set (number + 1) (Some n) ns (All-tail (Keeping greatest_number (is_customer_node g)) n ns all) rises.1)
      (members set (number + 1) last ns (All-tail (Keeping greatest_number (is_customer_node g)) n ns all) (skip last n ns rises.0 rises.1))
    where
      by : (b : Bool) → AllFrom (MemberIs g) next_member (Some n) (nodes_in set (number + 1) ns) → AllFrom (MemberIs g) next_member last (nodes_in set (number + 1) ns)
          → AllFrom (MemberIs g) next_member last ((if b then n ∷ [] else []) ++ nodes_in set (number + 1) ns)
      by true behind left =
          let own = All-head (Keeping greatest_number (is_customer_node g)) n ns all in
          let customer : is_customer_node g n ≡ true = own.1 in
          ((own.0, ap (λ b. b && is_above last n) customer ∙ rises.0), behind)
      by false behind left = left

  of_members : (ns : List ℕ) → AllFrom (MemberIs g) next_member None ns → SetIs g ns
  of_members [] all = tt
  of_members (n ∷ ns) all = all

  pub label_is : (l : Label) → LabelFits g l → LabelIs g (written_label g l)
  label_is l fits =
      let customers = All-from_get_or (Keeping greatest_number (is_customer_node g)) (customer_nodes g) 0 (λ i within. customer_is g network i within) in
      record {
        last = last_is g network l.last fits.last;
        node = node_is g network l.node fits.node;
        served = of_members (nodes_in l.set 0 (customer_nodes g)) (members l.set 0 None (customer_nodes g) customers (rises_all (customer_nodes g) (customers_rise g)));
        points = points_are g l.value fits.valid fits.points;
      }
