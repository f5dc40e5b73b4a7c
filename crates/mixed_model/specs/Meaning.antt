-- What routes, shares and proofs for several kinds of vehicles stand for, in the definitions of
-- lower bounds.
use Rattle.std.specs.Prelude.{ℕ, List, [], map, slice_index_or}
use Rattle.customer_sets.specs.Pairs.{any_pair}
use Rattle.ev_model.specs.Network.{Network}
use Rattle.fleet_model.specs.Equations.{Column}
use Rattle.fleet_model.specs.Section.{Section}
use Rattle.piece_fn.specs.declared.label.Label.{Label}
use Rattle.bound_certificate.specs.Meaning.{entry_column, priced_label, route_column}
use Rattle.certificate_parts.specs.declared.entry.BasisEntry.{BasisEntry}
use Rattle.mixed_model.specs.Covers.{KindShare}
use Rattle.mixed_model.specs.Kinds.{network_of}
use Rattle.mixed_model.specs.Plans.{KindPlan}
use Rattle.mixed_model.specs.declared.proof.MixedProof.{MixedProof}
use Rattle.mixed_model.specs.declared.proof.MixedRoute.{MixedRoute}
use Rattle.mixed_model.specs.declared.proof.MixedShare.{MixedShare}

abbrev pub kind_plan : MixedRoute → KindPlan
kind_plan r = record { kind = r.kind; stops = r.plan.stops }

abbrev pub kind_plans : List MixedRoute → List KindPlan
kind_plans routes = map kind_plan routes

abbrev pub kind_shares : List MixedShare → List KindShare
kind_shares shares = map (λ x. record { share = x.share; plan = kind_plan x.route }) shares

-- the labels that are listed for a kind, told by its number
abbrev pub labels_of : MixedProof → ℕ → List Label
labels_of p kind = slice_index_or p.labels kind []

-- a section for a kind: the weight and the prices of the proof, no forbidden pair, and the labels
-- of the kind
abbrev pub section_of : MixedProof → ℕ → Section
section_of p kind = record {
  weight = p.weight;
  prices = p.prices;
  allows = any_pair;
  labels = map (priced_label p.prices) (labels_of p kind);
}

-- a listed route as a column of the master problem: its customers by number, and its scaled time in
-- the network of its kind
abbrev pub mixed_columns : List Network → List MixedRoute → List Column
mixed_columns kinds columns = map (λ r. route_column (network_of kinds r.kind) r.plan) columns

abbrev pub mixed_basis : List Network → List MixedRoute → List BasisEntry → List Column
mixed_basis kinds columns basis = map (entry_column (mixed_columns kinds columns)) basis
