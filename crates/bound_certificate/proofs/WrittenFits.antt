-- What stands for shares and lines of a tree that fit is in the ranges of what is written.
use Rattle.std.proofs.Common.{◌≡◌, ◌∙◌, ℕ, zero, suc, ◌≤◌, true, false, ◌&&◌, not, List, [], ◌∷◌, map, nat_eq, ap, arith}
use Rattle.std.proofs.lemmas.Bool.{lt-ltb, ne_eqb}
use Rattle.ev_model.specs.Network.{IsNetwork, Network}
use Rattle.certificate_parts.specs.Limits.{most_items}
use Rattle.certificate_parts.specs.Ranges.{customer_count}
use Rattle.bound_certificate.specs.Ranges.{LineFits, ShareFits}
use Rattle.certificate_parts.specs.Reading.{is_customer_node}
use Rattle.bound_certificate.specs.Trees.{Closes}
use Rattle.certificate_parts.specs.Written.{customer_node}
use Rattle.bound_certificate.specs.Written.{written_line}
use Rattle.bound_certificate.specs.WrittenRanges.{LineIs, ShareIs}
use Rattle.bound_certificate.specs.declared.certificate.Share.{Share}
use Rattle.bound_certificate.specs.declared.certificate.TreeLine.{TreeLine}
use Rattle.bound_certificate.specs.declared.certificate.TreeLine.TheVariants.{Split, Leaf}
use Rattle.certificate_parts.proofs.PlaceOrder.{same_by_node}
use Rattle.certificate_parts.proofs.WrittenParts.{customer_is, weight_is}

pub share_is : (x : Share) → ShareFits x → ShareIs x
share_is x fits = record { share = weight_is x.share fits.share; plan = fits.plan }

pub closes_written : (g : Network) (trees : ℕ) (lines : List TreeLine) → Closes trees lines → Closes trees (map (written_line g) lines)
closes_written g zero [] closes = tt
closes_written g zero (line ∷ lines) closes = absurd closes
closes_written g (suc trees) [] closes = absurd closes
closes_written g (suc trees) (Leaf n ∷ lines) closes = closes_written g trees lines closes
closes_written g (suc trees) (Split i j ∷ lines) closes = closes_written g (suc (suc trees)) lines closes

module _ (g : Network) (network : IsNetwork g) where
  pub line_is : (sections : ℕ) → sections ≤ most_items → (line : TreeLine) → LineFits (customer_count g) sections line → LineIs g sections (written_line g line)
  line_is sections few (Leaf n) fits = (omega (arith, few, fits), lt-ltb n sections fits)
  line_is sections few (Split zero j) fits = absurd (let some = fits.0.0 in omega (arith, some))
  line_is sections few (Split (suc i) zero) fits = absurd (let some = fits.1.0 in omega (arith, some))
  line_is sections few (Split (suc i) (suc j)) fits =
      let first = fits.0.1 in
      let second = fits.1.1 in
      let own = customer_is g network j (omega (arith, second)) in
      let customer : is_customer_node g (customer_node g j) ≡ true = own.1 in
      let other : nat_eq (customer_node g i) (customer_node g j) ≡ false =
      ne_eqb (customer_node g i) (customer_node g j) (λ same. fits.2 (same_by_node g (suc i) (suc j) first second same)) in
      (customer_is g network i (omega (arith, first)), (own.0, ap (λ b. b && not (nat_eq (customer_node g i) (customer_node g j))) customer ∙ ap not other))
