-- Fleets of one kind of vehicle: their plans, covers and proofs as those of a fleet without kinds.
use Rattle.std.specs.Prelude.{◌≡◌, ℕ, [], ◌∷◌, map, true}
use Rattle.customer_sets.specs.Pairs.{allows_of, ForbiddenPairs}
use Rattle.bound_certificate.specs.declared.certificate.Certificate.{Certificate}
use Rattle.bound_certificate.specs.declared.certificate.Root.{Root}
use Rattle.bound_certificate.specs.declared.certificate.Root.TheVariants as plain
use Rattle.bound_certificate.specs.declared.certificate.Share.{Share}
use Rattle.bound_certificate.specs.declared.certificate.TreeLine.TheVariants.{Leaf}
use Rattle.mixed_model.specs.Meaning.{labels_of}
use Rattle.mixed_model.specs.declared.proof.MixedProof.{MixedProof}
use Rattle.mixed_model.specs.declared.proof.MixedRoot.{MixedRoot}
use Rattle.mixed_model.specs.declared.proof.MixedRoot.TheVariants as root
use Rattle.mixed_model.specs.declared.proof.MixedShare.{MixedShare}

-- shares and a root without the kinds of their routes
abbrev pub plain_share : MixedShare → Share
plain_share x = record { share = x.share; plan = x.route.plan }

abbrev pub plain_root : MixedRoot → Root
plain_root root.None = plain.None
plain_root (root.Exact over shares) = plain.Exact over (map plain_share shares)
plain_root (root.Wide columns basis) = plain.Wide (map (λ r. r.plan) columns) basis

-- no pair is forbidden
abbrev pub AllowsEach : ForbiddenPairs → Type 0
AllowsEach pairs = (a b : ℕ) → allows_of pairs a b ≡ true

-- a proof for one kind as a certificate of one section, which the one leaf of its tree names
abbrev pub as_certificate : ForbiddenPairs → MixedProof → Certificate
as_certificate pairs p = record {
  bound = p.bound;
  root = plain_root p.root;
  sections = record {
    weight = p.weight;
    prices = p.prices;
    pairs = pairs;
    labels = labels_of p 0;
  } ∷ [];
  tree = Leaf 0 ∷ [];
}
