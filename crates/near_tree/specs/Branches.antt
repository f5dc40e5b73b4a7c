-- What splits and counts of entries say of the plans that go down a tree past them.
use Rattle.std.specs.Prelude.{ℕ, ◌+◌, ◌≤◌, List, [], ◌∷◌, Bool, true, false, ◌&&◌, nat_eq, length, if◌then◌else◌}
use Rattle.std.specs.List.{All}
use Rattle.customer_sets.specs.Pairs.{any_pair, forbid, require}
use Rattle.ev_model.specs.Network.{Network}
use Rattle.ev_model.specs.declared.Stop.{Stop}
use Rattle.fleet_model.specs.Pairs.{FleetKeepsPairs}
use Rattle.near_tree.specs.Entries.{entries_of}

-- a set whose entries are counted: there are so many at least, and so many at most
pub record Counted : Type 0 where
  pub set : List ℕ
  pub least : ℕ
  pub most : ℕ

-- which place may follow which, and the sets that are counted, in the order in which they were
-- first mentioned
pub record Branch : Type 0 where
  pub allows : ℕ → ℕ → Bool
  pub counted : List Counted

-- at the top of a tree
abbrev pub whole : Branch
whole = record { allows = any_pair; counted = [] }

-- the two sets are one; members stand in rising order
abbrev pub is_same : List ℕ → List ℕ → Bool
is_same [] [] = true
is_same [] (d ∷ ds) = false
is_same (c ∷ cs) [] = false
is_same (c ∷ cs) (d ∷ ds) = nat_eq c d && is_same cs ds

-- what is counted of a set. Before it is mentioned: somebody of it is first on a route, or comes
-- from without, and each of its customers is entered at most once
abbrev pub count_of : List Counted → List ℕ → Counted
count_of [] set = record { set = set; least = 1; most = length set }
count_of (c ∷ cs) set = if is_same c.set set then c else count_of cs set

-- with what is counted of a set from now on
abbrev pub counted_anew : List Counted → Counted → List Counted
counted_anew [] d = d ∷ []
counted_anew (c ∷ cs) d = if is_same c.set d.set then d ∷ cs else c ∷ counted_anew cs d

-- the branches below a split on places i and j: j may not follow i; or it has to, so that nothing
-- else follows i, and j follows nothing else
abbrev pub apart_at : ℕ → ℕ → Branch → Branch
apart_at i j b = record b { allows = forbid i j b.allows }

abbrev pub together_at : ℕ → ℕ → Branch → Branch
together_at i j b = record b { allows = require i j b.allows }

-- the branches below a count: at most k entries into the set, or at least k + 1
abbrev pub at_most : ℕ → List ℕ → Branch → Branch
at_most k set b = record b {
  counted = counted_anew b.counted (record {
    set = set;
    least = (count_of b.counted set).least;
    most = k;
  });
}

abbrev pub at_least : ℕ → List ℕ → Branch → Branch
at_least k set b = record b {
  counted = counted_anew b.counted (record {
    set = set;
    least = k + 1;
    most = (count_of b.counted set).most;
  });
}

-- the entries of a fleet plan are within the range
pub record IsInRange (g : Network) (plans : List (List Stop)) (c : Counted) : Type 0 where
  pub least : c.least ≤ entries_of g c.set plans
  pub most : entries_of g c.set plans ≤ c.most

-- a fleet plan keeps what a branch says
pub record Keeps (g : Network) (b : Branch) (plans : List (List Stop)) : Type 0 where
  pub pairs : FleetKeepsPairs g b.allows plans
  pub entries : All (IsInRange g plans) b.counted
