-- What a search needs of labels.
use Rattle.std.specs.Prelude.{◌≡◌, ℕ, ◌<◌, ◌≤◌, ◌+◌, List, [], ◌∷◌, ◌++◌, true, None}
use Rattle.std.specs.List.{All}
use Rattle.dominance.specs.LevelTimes.{IsLevel, time_at}
use Rattle.ev_model.specs.Feasible.{IsFeasible}
use Rattle.ev_model.specs.Fleet.{customers_of}
use Rattle.ev_model.specs.Network.{is_customer, IsNetwork, node_count}
use Rattle.ev_model.specs.Route.{FollowsRoute}
use Rattle.ev_model.specs.Time.{time_of}
use Rattle.ev_model.specs.declared.Stop.{Stop}
use Rattle.label_search.specs.Space.{Space}
use Rattle.label_search.specs.Steps.{GoesHome, IsInRange, Leads}
use Rattle.label_steps.specs.Arrivals.{ArrivesAs, drive_time}
use Rattle.piece_fn.specs.PieceFn.{level_times}

module _ {Label Target Route : Type 0} (s : Space Label Target Route) where
  -- from some level of a label a way leads straight home, and the label pays for it
  pub record PaysHome (l : Label) : Type 0 where
    pub level : ℕ
    pub is : IsLevel (level_times (s.value l)) level
    pub goes : GoesHome s.network (s.node l) level
        (time_at (level_times (s.value l)) level + drive_time s.network (s.node l) 0)
    pub pays : s.pays l (time_at (level_times (s.value l)) level + drive_time s.network (s.node l) 0) []

  -- stops that serve these customers in this order, each known and a vehicle's plan from a full battery in so much time
  pub record IsWay (order : List ℕ) (time : ℕ) (stops : List Stop) : Type 0 where
    pub feasible : IsFeasible s.network 1 s.network.capacity stops
    pub serves : customers_of s.network stops ≡ order
    pub follows : FollowsRoute (0 ∷ order ++ 0 ∷ []) stops
    pub known : All (λ x. x < node_count s.network) order
    pub in_time : time_of s.network 1 s.network.capacity stops ≤ time

  pub record IsLawful : Type 0 where
    pub network : IsNetwork s.network
    -- a target's label has the node and the value
    pub label_node : (t : Target) (x : ℕ) (value : List (ℕ × ℕ)) → s.node (s.label t x value) ≡ x
    pub label_value : (t : Target) (x : ℕ) (value : List (ℕ × ℕ)) → s.value (s.label t x value) ≡ value
    -- what is in range stays so behind a step
    pub start_fits : (l : Label) → s.begins l → s.fits l
    pub step_fits : (from to : Label) → IsInRange s from → s.node to < node_count s.network →
        Leads s from to → s.fits to
    -- a vehicle that may go on to a node arrives there
    pub arrives : (l : Label) (x : ℕ) → s.can_step l x →
        ArrivesAs s.network (s.value l) (s.node l) x s.network.reserve None → ⊥
    -- what pays is told from a route's end to its start; in less time it pays as well
    pub at_home : (l : Label) → IsInRange s l → s.earns l → PaysHome l
    pub serving : (from to : Label) (less time : ℕ) (order : List ℕ) → is_customer s.network (s.node to) ≡ true →
        s.serves from to → less ≤ time → s.pays to time order → s.pays from less (s.node to ∷ order)
    pub passing : (from to : Label) (less time : ℕ) (order : List ℕ) → s.passes from to → less ≤ time →
        s.pays to time order → s.pays from less order
    pub makes : (l : Label) (time : ℕ) (order : List ℕ) (stops : List Stop) → s.begins l → s.pays l time order →
        IsWay order time stops → s.has_route order
