-- The network that an instance stands for, and what holds of its fields.
use Rattle.std.specs.Prelude.{◌≡◌, ℕ, ◌<◌, List, Option, None, Some, All, IfSome, length, map, option_map, slice_get, slice_index_or}
use Rattle.ev_model.specs.Network.{Network, IsNetwork, node_count}
use Rattle.instance_reader.specs.Instance.{IsCustomerNumber, TellsChargeTime, customer_nodes}
use Rattle.instance_reader.specs.declared.curves.StationCurve.{StationCurve}
use Rattle.instance_reader.specs.declared.instance.Instance.TheInside.{Inside}

-- the breakpoints of the curve with a number
abbrev pub points_at : List StationCurve → Option ℕ → Option (List (ℕ × ℕ))
points_at curves None = None
points_at curves (Some number) = option_map (λ c. c.curve.points) (slice_get curves number)

abbrev pub network_inside : Inside → Network
network_inside a = record {
  capacity = a.max_q;
  reserve = a.min_q;
  home_level = a.home_q;
  energies = map (λ row. row.items) a.energies.items;
  times = map (λ row. row.items) a.times.items;
  process_times = a.process_times.items;
  curves = map (points_at a.curves.items) a.curve_numbers.items;
  plug_times = a.plug_times.items;
  denominator = a.denominator;
  limit = a.limit;
}

-- the numbers of the customers, by node
pub record AreCustomerNumbers (g : Network) (numbers : List (Option ℕ)) : Type 0 where
  pub all : length numbers ≡ node_count g
  pub each : (node : ℕ) → node < node_count g →
      IsCustomerNumber g node (slice_index_or numbers node None)

pub record IsInstance (a : Inside) : Type 0 where
  pub network : IsNetwork (network_inside a)
  pub energy_rows : All (λ row. length row.items ≡ length a.energies.items) a.energies.items
  pub time_rows : All (λ row. length row.items ≡ length a.energies.items) a.times.items
  pub known : All (λ o. IfSome o (λ number. number < length a.curves.items)) a.curve_numbers.items
  pub scaled : All (λ c.
      TellsChargeTime a.max_q a.denominator c.curve.points c.scaled) a.curves.items
  pub customers : a.customers.items ≡ customer_nodes (network_inside a)
  pub numbers : AreCustomerNumbers (network_inside a) a.customer_numbers.items
