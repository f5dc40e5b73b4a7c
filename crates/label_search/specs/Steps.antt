-- How a label comes from another one by one stop.
use Rattle.std.specs.Prelude.{◌≡◌, ◌≢◌, ℕ, ◌+◌, ◌-◌, ◌<◌, ◌≤◌, ◌⊎◌, List, [], ◌∷◌, true, IsSome, if◌then◌else◌}
use Rattle.charge_curve.specs.Points.{ArePoints}
use Rattle.dominance.specs.LevelTimes.{IsLevel, time_at}
use Rattle.ev_model.specs.Network.{curve_at, energy, is_customer, Network, node_count, scaled_limit}
use Rattle.ev_model.specs.Time.{stop_time}
use Rattle.label_search.specs.Space.{Space}
use Rattle.piece_fn.specs.PieceFn.{level_times}

-- the scaled time of a stop at a node, with so much charged there
abbrev pub time_of_stop : Network → ℕ → ℕ → ℕ → ℕ → ℕ
time_of_stop g from level x added =
    stop_time g 1 from level (record { node = x; added = added; via = true })

-- a vehicle leaves the node x with a level at a time, no sooner than after one stop from a level of the value at u
pub record ComesBy (g : Network) (v : List (ℕ × ℕ)) (u x level time : ℕ) : Type 0 where
  pub before : ℕ
  pub added : ℕ
  pub there : IsLevel (level_times v) before
  pub reaches : energy g u x + g.reserve ≤ before
  pub leaves : before - energy g u x + added ≡ level
  pub full : level ≤ g.capacity
  pub station : 0 < added → IsSome (curve_at g x)
  pub no_sooner : time_at (level_times v) before + time_of_stop g u before x added ≤ time

-- each level of a value is left with at its time
abbrev pub Comes : Network → List (ℕ × ℕ) → ℕ → ℕ → List (ℕ × ℕ) → Type 0
Comes g v u x value =
    (level : ℕ) → IsLevel (level_times value) level →
    ComesBy g v u x level (time_at (level_times value) level)

-- what is left of the value v at u on leaving the node x, with no level above full and no time past the limit
pub record IsLeft (g : Network) (v : List (ℕ × ℕ)) (u x : ℕ) (value : List (ℕ × ℕ)) : Type 0 where
  pub comes : Comes g v u x value
  pub times : (level : ℕ) → IsLevel (level_times value) level →
      time_at (level_times value) level ≤ scaled_limit g

-- the order with a node before it, if that is a customer
abbrev pub with_node : Network → ℕ → List ℕ → List ℕ
with_node g node order = if is_customer g node then node ∷ order else order

-- the step home from a level at a time: from another node, with the reserve and the level at home at least, within the limit
pub record GoesHome (g : Network) (u level time : ℕ) : Type 0 where
  pub known : 0 < node_count g
  pub moves : 0 ≢ u
  pub reaches : energy g u 0 + g.reserve ≤ level
  pub home : energy g u 0 + g.home_level ≤ level
  pub in_time : time ≤ scaled_limit g

module _ {Label Target Route : Type 0} (s : Space Label Target Route) where
  -- the numbers of a label are in range: its node, its levels and their times, and what else it has
  pub record IsInRange (l : Label) : Type 0 where
    pub node : s.node l < node_count s.network
    pub fits : s.fits l
    pub levels : (level : ℕ) → IsLevel (level_times (s.value l)) level → level ≤ s.network.capacity
    pub times : (level : ℕ) → IsLevel (level_times (s.value l)) level →
        time_at (level_times (s.value l)) level ≤ scaled_limit s.network

  -- and its value has valid points
  pub record IsListed (l : Label) : Type 0 where
    pub range : IsInRange l
    pub valid : ArePoints (s.value l)

  -- the label at the depot, with a full battery at time 0
  pub record IsStart (l : Label) : Type 0 where
    pub node : s.node l ≡ 0
    pub value : s.value l ≡ (s.network.capacity, 0) ∷ []
    pub begins : s.begins l

  -- the way to another node: a customer is served there, or a station is visited
  pub record Leads (from to : Label) : Type 0 where
    pub moves : s.node to ≢ s.node from
    pub kind : ((is_customer s.network (s.node to) ≡ true) × s.serves from to)
        ⊎ (IsSome (curve_at s.network (s.node to)) × s.passes from to)

  -- one label is a stop behind another
  pub record IsStep (from to : Label) : Type 0 where
    pub known : s.node to < node_count s.network
    pub comes : Comes s.network (s.value from) (s.node from) (s.node to) (s.value to)
    pub leads : Leads from to
