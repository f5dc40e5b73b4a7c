-- What the rules on sizes, on shapes and on levels ensure of the contents of a file.
use Rattle.std.specs.Prelude.{◌≡◌, ◌≤◌, All, length}
use Rattle.charge_curve.specs.CutCurve.{IsSmall}
use Rattle.ev_model.specs.Network.{most_nodes}
use Rattle.instance_reader.specs.Contents.{Contents, nodes_of, points_of}
use Rattle.instance_reader.specs.Sizes.{most_number}

-- no number is too large
pub record HasSmallNumbers (c : Contents) : Type 0 where
  pub capacity : c.capacity ≤ most_number
  pub curves : All (λ curve. IsSmall (points_of curve) c.capacity) c.curves
  pub plug_times : All (λ curve. curve.plug_time ≤ most_number) c.curves
  pub process_times : All (λ time. time ≤ most_number) c.process_times
  pub energies : All (All (λ energy. energy ≤ most_number)) c.energies
  pub times : All (All (λ time. time ≤ most_number)) c.times

-- lists and matrices have the right lengths
pub record HasShape (c : Contents) : Type 0 where
  pub some_node : 1 ≤ nodes_of c
  pub few_nodes : nodes_of c ≤ most_nodes
  pub process_times : length c.process_times ≤ nodes_of c
  pub energy_rows : All (λ row. length row ≡ nodes_of c) c.energies
  pub time_count : length c.times ≡ nodes_of c
  pub time_rows : All (λ row. length row ≡ nodes_of c) c.times

-- no level is past a full battery
pub record HasLevels (c : Contents) : Type 0 where
  pub reserve : c.reserve ≤ c.capacity
  pub home_level : c.home_level ≤ c.capacity
