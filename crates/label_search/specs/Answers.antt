-- What a search for labels answers, and what a test of listed labels tells it.
use Rattle.std.specs.Prelude.{◌≡◌, ℕ, ◌<◌, List, length, Option, None, Some, slice_get}
use Rattle.std.specs.List.{All}
use Rattle.ev_model.specs.Network.{node_count}
use Rattle.label_search.specs.Space.{Space}
use Rattle.label_search.specs.Steps.{IsListed}
use Rattle.label_search.specs.declared.closing.Closing.{Closing}
use Rattle.label_search.specs.declared.closing.Closing.TheVariants.{Better, Closed}
use Rattle.label_search.specs.declared.resources.ListFault.{ListFault}
use Rattle.label_search.specs.declared.resources.ListFault.TheVariants.{End, Start, Step}
use Rattle.label_search.specs.declared.seeking.Sought.{Sought}

module _ {Label Target Route : Type 0} (s : Space Label Target Route) where
  -- some vehicle of the label with a number may go on to a node
  pub record StepsOn (labels : List Label) (n x : ℕ) : Type 0 where
    pub label : Label
    pub at : slice_get labels n ≡ Some label
    pub known : x < node_count s.network
    pub step : s.can_step label x

  -- the label with a number earns at home
  pub record EarnsThere (labels : List Label) (n : ℕ) : Type 0 where
    pub label : Label
    pub at : slice_get labels n ≡ Some label
    pub earns : s.earns label

  -- that labels show that no route earns, or what to go on with: the start, a step of one of them, or its way home
  abbrev pub TellsFault : List Label → Option ListFault → Type 0
  TellsFault labels None = s.closes labels
  TellsFault labels (Some Start) = Unit {0}
  TellsFault labels (Some (Step label node)) = StepsOn labels label node
  TellsFault labels (Some (End label)) = EarnsThere labels label

  -- routes that earn, and labels in range
  pub record IsSought (sought : Sought Label Route) : Type 0 where
    pub routes : All s.is_route sought.routes.items
    pub labels : All (IsListed s) sought.labels.items

  -- labels that show that no route earns, in range
  pub record AreClosed (labels : List Label) : Type 0 where
    pub closed : s.closes labels
    pub listed : All (IsListed s) labels

  -- routes that earn, one at least, or labels that show that there is none
  abbrev pub IsClosing : Closing Label Route → Type 0
  IsClosing (Better routes) = (0 < length routes.items) × All s.is_route routes.items
  IsClosing (Closed labels) = AreClosed labels.items
