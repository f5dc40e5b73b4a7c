-- How the lists of live labels and the queue belong to the labels.
use Rattle.std.specs.Prelude.{◌≡◌, ◌↔◌, ℕ, ◌<◌, ◌≤◌, List, [], ◌∷◌, length, if◌then◌else◌, slice_get, Option, Some, None, IfSome}
use Rattle.index_links.specs.Lists.{Lists, IsIn, list_at}
use Rattle.index_links.specs.Queue.{key_at}
use Rattle.label_pool.specs.declared.label.Label.{Label}
use Rattle.label_pool.specs.Labels.{IsLive, is_waiting}

-- each number is larger than those before it
abbrev pub IsRising : List ℕ → Type 0
IsRising [] = Unit {0}
IsRising (x ∷ xs) = ((y : ℕ) → IsIn y xs → x < y) × IsRising xs

module _ {V : Type 0} where
  -- the key under which the queue holds a label, where there is that label and it waits
  abbrev pub queue_key : Option (Label V) → Option ℕ
  queue_key None = None
  queue_key (Some l) = if is_waiting l then Some l.key else None

  -- list b has the live labels of bucket b
  abbrev pub AreListed : List (Label V) → Lists → Type 0
  AreListed labels live = (b i : ℕ) → IsIn i (list_at live.lists b) ↔ IsLive labels b i

  -- the lists have the live labels by bucket, in rising order, the queue the labels that wait by their
  -- keys, and each parent has a lower number than its child
  pub record IsTied (labels : List (Label V)) (live : Lists) (queue : List (Option ℕ)) : Type 0 where
    pub rising : (b : ℕ) → IsRising (list_at live.lists b)
    pub listed : AreListed labels live
    pub queued : (i : ℕ) → key_at queue i ≡ queue_key (slice_get labels i)
    pub room : length labels ≤ live.items
    pub queue_room : length labels ≤ length queue
    pub parents : (i : ℕ) (label : Label V) → slice_get labels i ≡ Some label →
        IfSome label.parent (λ p. p < i)
