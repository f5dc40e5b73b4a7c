-- The labels that a search finds: each is the start or comes from one that was found before it.
use Rattle.std.specs.Prelude.{◌≡◌, ℕ, ◌<◌, ◌≤◌, ◌⊎◌, ◌^◌, List, length, slice_get, Option, Some, IfSome, MatchOption, unsigned_abs}
use Rattle.std.specs.List.{All}
use Rattle.label_search.specs.Laws.{IsLawful}
use Rattle.label_search.specs.Space.{Space}
use Rattle.label_search.specs.Steps.{IsInRange, IsLeft, IsStart, IsStep, Leads}
use Rattle.label_search.specs.declared.found.Found.{Found}
use Rattle.label_search.specs.declared.search.Search.{Search}

module _ {Label Target Route : Type 0} (s : Space Label Target Route) where
  -- a label is the start, or a stop behind the one with a number
  abbrev pub HasOrigin : List (Found Label) → Option ℕ → Label → Type 0
  HasOrigin found parent l =
      MatchOption parent (IsStart s l)
      (λ p. (from : Found Label) × (slice_get found p ≡ Some from) × IsStep s from.label l)

  -- a label in range is a stop behind the one with a number
  pub record IsNext (found : List (Found Label)) (i : ℕ) (l : Label) : Type 0 where
    pub range : IsInRange s l
    pub known : i < length found
    pub origin : HasOrigin found (Some i) l

  -- what holds of the label with a number
  pub record IsFound (found : List (Found Label)) (i : ℕ) (f : Found Label) : Type 0 where
    pub range : IsInRange s f.label
    pub elder : IfSome f.parent (λ p. p < i)
    pub small : unsigned_abs f.earned ≤ 2 ^ 91
    pub origin : HasOrigin found f.parent f.label

  -- the labels that were found, and their groups
  pub record IsTree {Group : Type 0} (found : List (Found Label)) (groups : List Group) : Type 0 where
    pub labels : (i : ℕ) (f : Found Label) → slice_get found i ≡ Some f → IsFound found i f
    pub room : length groups ≡ s.groups

  -- each value makes a label a stop behind the one with a number
  pub record AreSteps (found : List (Found Label)) (i node : ℕ) (t : Target)
      (values : List (List (ℕ × ℕ))) : Type 0 where
    pub from : Found Label
    pub here : slice_get found i ≡ Some from
    pub leads : (value : List (ℕ × ℕ)) → Leads s from.label (s.label t node value)
    pub left : All (IsLeft s.network (s.value from.label) (s.node from.label) node) values

  -- a search: its labels, of which some wait in the queue and some are listed, and the routes that it found
  pub record IsSearch (search : Search Label Route) : Type 0 where
    pub lawful : IsLawful s
    pub some : 0 < length search.tree.found.items
    pub labels : IsTree search.tree.found.items search.tree.groups.items
    pub listed_within : All (λ n. n < length search.tree.found.items) search.listed.items
    pub are_routes : All s.is_route search.routes.items

module _ {Label : Type 0} where
  -- labels have come behind others
  pub record IsGrown (old now : List (Found Label)) : Type 0 where
    pub more : length old ≤ length now
    pub stays : (i : ℕ) (f : Found Label) → slice_get old i ≡ Some f → slice_get now i ≡ Some f

  -- each label is that with the number at its place
  abbrev pub AreCopiesAt : List (Found Label) → List ℕ → List Label → Type 0
  AreCopiesAt found numbers labels =
      (k n : ℕ) (l : Label) → slice_get numbers k ≡ Some n → slice_get labels k ≡ Some l →
      (f : Found Label) × (slice_get found n ≡ Some f) × (f.label ≡ l)

  -- the labels with these numbers, in order
  pub record AreCopies (found : List (Found Label)) (numbers : List ℕ) (labels : List Label) : Type 0 where
    pub count : length labels ≡ length numbers
    pub same : AreCopiesAt found numbers labels

module _ {Label Route : Type 0} where
  -- a search has listed a further label, or has a route
  abbrev pub IsMended : Search Label Route → Search Label Route → Type 0
  IsMended old now =
      (length old.listed.items < length now.listed.items)
      ⊎ ((now.listed.items ≡ old.listed.items) × (0 < length now.routes.items))
