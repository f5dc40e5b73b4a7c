-- What an instance means: a network of nodes, the vehicle's battery and the limit on a route.
use Rattle.std.specs.Prelude.{◌≡◌, ℕ, ◌*◌, ◌^◌, ◌≤◌, ◌&&◌, Bool, List, [], Option, None, Some, length, nat_eq, not, is_none, slice_index, slice_index_or}
use Rattle.std.specs.List.{All}
use Rattle.ev_model.specs.Curve.{IsCurve, IsMultipleOfSlopes}

-- Node 0 is the depot; nodes are numbered by their rows. Energies and levels are in units of charge, times in units of time.
pub record Network : Type 0 where
  -- the charge of a full battery
  pub capacity : ℕ
  -- the least level on arriving at a stop
  pub reserve : ℕ
  -- the least level on arriving at the end of a route
  pub home_level : ℕ
  -- the energy that an arc takes, by the node left and the node reached
  pub energies : List (List ℕ)
  -- the time that an arc takes, by the node left and the node reached
  pub times : List (List ℕ)
  -- the time that a visit takes beside charging, by node
  pub process_times : List ℕ
  -- the breakpoints of the charging curve, by node; a node with a curve is a station
  pub curves : List (Option (List (ℕ × ℕ)))
  -- the time to plug in, by node; it is paid at each stop where something is charged
  pub plug_times : List ℕ
  -- a scaled time is a time multiplied by this number; it makes every charge time to a whole level whole
  pub denominator : ℕ
  -- how long a route may last
  pub limit : ℕ

abbrev pub node_count : Network → ℕ
node_count g = length g.energies

abbrev pub energy : Network → ℕ → ℕ → ℕ
energy g i j = slice_index (slice_index_or g.energies i []) j

abbrev pub travel_time : Network → ℕ → ℕ → ℕ
travel_time g i j = slice_index (slice_index_or g.times i []) j

abbrev pub process_time : Network → ℕ → ℕ
process_time g node = slice_index g.process_times node

-- the time to plug in at a node, in units of time
abbrev pub plug_time : Network → ℕ → ℕ
plug_time g node = slice_index g.plug_times node

abbrev pub curve_at : Network → ℕ → Option (List (ℕ × ℕ))
curve_at g node = slice_index_or g.curves node None

-- a customer is a node other than the depot that is no station
abbrev pub is_customer : Network → ℕ → Bool
is_customer g node = not (nat_eq node 0) && is_none (curve_at g node)

-- the limit on the scaled time of a route
abbrev pub scaled_limit : Network → ℕ
scaled_limit g = g.denominator * g.limit

-- a node's curve, if it has one, reaches a full battery, and the denominator makes its charge times whole
abbrev pub HasFittingCurve : ℕ → ℕ → Option (List (ℕ × ℕ)) → Type 0
HasFittingCurve capacity denominator None = Unit {0}
HasFittingCurve capacity denominator (Some points) =
    IsCurve capacity points × IsMultipleOfSlopes capacity points denominator

-- the most nodes of an instance, the depot included
abbrev pub most_nodes : ℕ
most_nodes = 400

-- what holds of the network of every accepted instance
pub record IsNetwork (g : Network) : Type 0 where
  pub depot : 1 ≤ node_count g
  pub few_nodes : node_count g ≤ most_nodes
  pub energy_rows : All (λ row. length row ≡ node_count g) g.energies
  pub time_count : length g.times ≡ node_count g
  pub time_rows : All (λ row. length row ≡ node_count g) g.times
  pub process_count : length g.process_times ≡ node_count g
  pub curve_count : length g.curves ≡ node_count g
  pub plug_count : length g.plug_times ≡ node_count g
  pub curves : All (HasFittingCurve g.capacity g.denominator) g.curves
  pub small_capacity : g.capacity ≤ 10 ^ 9
  pub reserve_within : g.reserve ≤ g.capacity
  pub home_within : g.home_level ≤ g.capacity
  pub small_energies : All (All (λ energy. energy ≤ 10 ^ 9)) g.energies
  pub small_times : All (All (λ time. time ≤ 10 ^ 9)) g.times
  pub small_process_times : All (λ time. time ≤ 10 ^ 9) g.process_times
  pub small_plug_times : All (λ time. time ≤ 10 ^ 9) g.plug_times
  pub some_denominator : 1 ≤ g.denominator
  pub small_denominator : g.denominator ≤ 10 ^ 9
  pub small_limit : scaled_limit g ≤ 10 ^ 18
