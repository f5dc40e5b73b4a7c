-- How the files of kinds of vehicles are read, one after another, and why that may be the last
-- step.
use Rattle.std.specs.Prelude.{◌≡◌, ℕ, ◌++◌, List, ◌∷◌, Option}
use Rattle.std.specs.List.{All}
use Rattle.ev_model.specs.Network.{IsNetwork, Network}
use Rattle.ev_outside.specs.Shelf.{Files, ShelfState}
use Rattle.ev_outside.specs.declared.shelf.ShelfFault.TheVariants as shelf
use Rattle.job_frame.specs.Faults.{HasFailedRead}
use Rattle.job_frame.specs.Task.{AreRead}
use Rattle.mixed_run.specs.KindFiles.{HaveNetworks, IsMixedRule, kind_reads}
use Rattle.mixed_run.specs.declared.refusal.Halt.{Halt}
use Rattle.mixed_run.specs.declared.refusal.Halt.TheVariants.{Refused, Stopped}
use Rattle.mixed_run.specs.declared.refusal.MixedRefusal.{MixedRefusal}

-- the files under these names have these networks
pub record ReadAs (limit : Option ℕ) (names : List (List ℕ)) (files : Option Files)
    (kinds : List Network) : Type 0 where
  pub bytes : List (List ℕ)
  pub read : AreRead files (kind_reads names) bytes
  pub networks : HaveNetworks limit bytes kinds
  pub valid : All IsNetwork kinds

-- one of the files couldn't be read when its turn came: those before it break no rule
pub record FailsFile (limit : Option ℕ) (names : List (List ℕ))
    (before after : ShelfState) : Type 0 where
  pub first : List (List ℕ)
  pub name : List ℕ
  pub rest : List (List ℕ)
  pub are : names ≡ first ++ name ∷ rest
  pub kinds : List Network
  pub read : ReadAs limit first before.files kinds
  pub failed : HasFailedRead before after name

-- the files under these names break a rule
pub record AreRefused (Refuses : List (List ℕ) → MixedRefusal → Type 0)
    (names : List (List ℕ)) (files : Option Files) (r : MixedRefusal) : Type 0 where
  pub rule : IsMixedRule r
  pub bytes : List (List ℕ)
  pub read : AreRead files (kind_reads names) bytes
  pub refused : Refuses bytes r

-- why reading them is the last step: a rule is broken, a file failed, or memory was refused
abbrev pub IsHalt : (List (List ℕ) → MixedRefusal → Type 0) → Option ℕ → List (List ℕ) →
    ShelfState → ShelfState → Halt → Type 0
IsHalt Refuses limit names before after (Refused r) = AreRefused Refuses names before.files r
IsHalt Refuses limit names before after (Stopped shelf.Failed) = FailsFile limit names before after
IsHalt Refuses limit names before after (Stopped shelf.Memory) = Unit {0}
