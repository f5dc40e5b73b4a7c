-- The files of kinds of vehicles: each is an instance that takes the limit of the words, they
-- agree, and there aren't too many customers; or the first rule that is broken.
use Rattle.std.specs.Prelude.{◌≡◌, ℕ, ◌⊎◌, ◌<◌, ◌≤◌, List, [], ◌∷◌, Option, Some, codes, map}
use Rattle.std.specs.List.{All}
use Rattle.certificate_parts.specs.Ranges.{customer_count}
use Rattle.ev_model.specs.Network.{IsNetwork, Network}
use Rattle.job_frame.specs.Task.{Read}
use Rattle.job_frame.specs.Caps.{file_read}
use Rattle.instance_reader.specs.Instance.{most_customers}
use Rattle.job_frame.specs.LimitedNetwork.{HasNetwork, IsNetworkRefused}
use Rattle.mixed_model.specs.Kinds.{AreKinds, first_of}
use Rattle.mixed_model.specs.Agreement.{IsFirstApart}
use Rattle.refusal_lines.specs.RefusalText.{IsRule, refusal_text}
use Rattle.refusal_lines.specs.declared.refusal.Refusal.TheVariants as refusal
use Rattle.evroute_causes.specs.declared.cause.Cause.{Cause}
use Rattle.evroute_causes.specs.declared.cause.Cause.TheVariants as cause
use Rattle.job_frame.specs.declared.status.Status.{Status}
use Rattle.job_frame.specs.declared.status.Status.TheVariants as status
use Rattle.report_lines.specs.Lines.{number_line}
use Rattle.mixed_run.specs.declared.refusal.MixedRefusal.{MixedRefusal}
use Rattle.mixed_run.specs.declared.refusal.MixedRefusal.TheVariants.{Plain, Kinds}

-- each file is an instance, and these are their networks with the limit of the words
abbrev pub HaveNetworks : Option ℕ → List (List ℕ) → List Network → Type 0
HaveNetworks limit [] [] = Unit {0}
HaveNetworks limit [] (g ∷ kinds) = ⊥
HaveNetworks limit (bytes ∷ files) [] = ⊥
HaveNetworks limit (bytes ∷ files) (g ∷ kinds) =
    HasNetwork limit bytes g × HaveNetworks limit files kinds

-- the files are those of a fleet's kinds, and these are their networks
pub record HasKinds (limit : Option ℕ) (files : List (List ℕ)) (kinds : List Network) : Type 0 where
  pub networks : HaveNetworks limit files kinds
  pub valid : All IsNetwork kinds
  pub agree : AreKinds kinds
  pub few : customer_count (first_of kinds) ≤ most_customers

-- the line of a refusal
abbrev pub mixed_refusal_text : MixedRefusal → List ℕ
mixed_refusal_text (Plain r) = refusal_text r
mixed_refusal_text (Kinds kind) = number_line (codes "refused kinds ") kind

-- and its cause
abbrev pub mixed_cause : MixedRefusal → Cause
mixed_cause (Plain r) = cause.Refused r
mixed_cause (Kinds kind) = cause.Kinds kind

-- the line of a broken rule is put, and its cause is heard
pub record HearsMixedRefusal
    (answered : Status) (text : List ℕ) (heard : Option Cause) : Type 0 where
  pub refusal : MixedRefusal
  pub status_is : answered ≡ status.Refused
  pub text_is : text ≡ mixed_refusal_text refusal
  pub heard_is : heard ≡ Some (mixed_cause refusal)

-- the refusal names a rule: no want of memory stands in it
abbrev pub IsMixedRule : MixedRefusal → Type 0
IsMixedRule (Plain r) = IsRule r
IsMixedRule (Kinds kind) = Unit {0}

-- the first broken rule of a file: of the instance, then of the limit
abbrev pub IsFileRule : Option ℕ → List ℕ → MixedRefusal → Type 0
IsFileRule limit bytes (Plain r) = IsNetworkRefused limit bytes r
IsFileRule limit bytes (Kinds kind) = ⊥

-- some file breaks a rule: the first that isn't an instance which takes the limit
abbrev pub IsFileRefused : Option ℕ → List (List ℕ) → MixedRefusal → Type 0
IsFileRefused limit [] r = ⊥
IsFileRefused limit (bytes ∷ files) r =
    IsFileRule limit bytes r
    ⊎ ((g : Network) × HasNetwork limit bytes g × IsFileRefused limit files r)

-- the first broken rule of networks: that they agree, then the count of customers
abbrev pub AreUnfit : List Network → MixedRefusal → Type 0
AreUnfit kinds (Kinds kind) = IsFirstApart kinds kind
AreUnfit kinds (Plain (refusal.Customers count)) =
    AreKinds kinds × (count ≡ customer_count (first_of kinds)) × (most_customers < count)
AreUnfit kinds (Plain other) = ⊥

-- the first broken rule of the files: of each in order, then of the networks of all
abbrev pub IsKindsRefused : Option ℕ → List (List ℕ) → MixedRefusal → Type 0
IsKindsRefused limit files r =
    IsFileRefused limit files r
    ⊎ ((kinds : List Network) × HaveNetworks limit files kinds × AreUnfit kinds r)

-- the reads of the files with these names
abbrev pub kind_reads : List (List ℕ) → List Read
kind_reads names = map file_read names
