-- The labels of a pool, as its callers see them.
use Rattle.std.specs.Prelude.{◌≡◌, ℕ, ◌<◌, ◌≤◌, ◌⊎◌, Bool, true, ◌&&◌, not, nat_eq, List, [], ◌∷◌, ◌++◌, map, slice_get, Option, Some, MatchOption}
use Rattle.label_pool.specs.declared.label.Label.{Label}

-- the labels by number, and how many buckets there are
pub record Labels (V : Type 0) : Type 0 where
  pub labels : List (Label V)
  pub buckets : ℕ

module _ {V : Type 0} where
  -- the label is live and of the bucket
  abbrev pub lives_in : ℕ → Label V → Bool
  lives_in bucket l = l.live && nat_eq l.bucket bucket

  -- the label is live and not settled: it waits in the queue
  abbrev pub is_waiting : Label V → Bool
  is_waiting l = l.live && not l.settled

  -- i is the number of a live label of the bucket
  pub record IsLive (labels : List (Label V)) (bucket i : ℕ) : Type 0 where
    pub label : Label V
    pub here : slice_get labels i ≡ Some label
    pub lives : lives_in bucket label ≡ true

  -- a live label of the bucket covers the value
  pub record IsCovered (covers : V → V →
      Bool) (labels : List (Label V)) (bucket : ℕ) (value : V) : Type 0 where
    pub by : ℕ
    pub is : IsLive labels bucket by
    pub covered : covers is.label.value value ≡ true

  -- the label once a value has come to the bucket: live no longer where it is of that bucket and covered
  abbrev pub beside : (V → V → Bool) → ℕ → V → Label V → Label V
  beside covers bucket value l =
      record l { live = l.live && not (nat_eq l.bucket bucket && covers value l.value) }

  -- the labels and a new one behind them
  abbrev pub labels_with : (V → V → Bool) → List (Label V) → Label V → List (Label V)
  labels_with covers labels new = map (beside covers new.bucket new.value) labels ++ new ∷ []

  -- the label waits and comes before each other that waits: by key, and at equal keys by number
  pub record IsNext (labels : List (Label V)) (i : ℕ) (label : Label V) : Type 0 where
    pub here : slice_get labels i ≡ Some label
    pub waits : is_waiting label ≡ true
    pub least : (j : ℕ) (other : Label V) → slice_get labels j ≡ Some other →
        is_waiting other ≡ true → (label.key < other.key) ⊎ ((label.key ≡ other.key) × (i ≤ j))

  -- no label waits
  abbrev pub NoneWaits : List (Label V) → Type 0
  NoneWaits labels =
      (i : ℕ) (label : Label V) → slice_get labels i ≡ Some label → is_waiting label ≡ true → ⊥

  -- the first number from `from` on of a live label of the bucket, or none where there is none
  abbrev pub IsFirstLive : List (Label V) → ℕ → ℕ → Option ℕ → Type 0
  IsFirstLive labels bucket from found =
      MatchOption found ((j : ℕ) → from ≤ j → IsLive labels bucket j → ⊥)
      (λ i. (from ≤ i) × IsLive labels bucket i ×
      ((j : ℕ) → from ≤ j → IsLive labels bucket j → i ≤ j))
