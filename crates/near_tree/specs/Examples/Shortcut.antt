-- A depot and two customers, from whom the way home is short over a station: a worked tree with a
-- split, where one label at the station stands for all who come there.
use Rattle.std.specs.Prelude.{ℕ, pos, [], ◌∷◌, None, Some}
use Rattle.ev_model.specs.Network.{Network}
use Rattle.near_tree.specs.Branches.{apart_at, Branch, whole}
use Rattle.near_tree.specs.Examples.Labels.{at_start, label}
use Rattle.near_tree.specs.Sections.{after, anybody, NearSection}
use Rattle.near_tree.specs.Trees.{leaf, NearTree, split}

-- node 3 is the station; no arc takes energy, so nothing is ever charged
abbrev pub shortcut : Network
shortcut = record {
  capacity = 1;
  reserve = 0;
  home_level = 0;
  energies = (0 ∷ 0 ∷ 0 ∷ 0 ∷ []) ∷ (0 ∷ 0 ∷ 0 ∷ 0 ∷ []) ∷ (0 ∷ 0 ∷ 0 ∷ 0 ∷ []) ∷
      (0 ∷ 0 ∷ 0 ∷ 0 ∷ []) ∷ [];
  times = (0 ∷ 4 ∷ 4 ∷ 9 ∷ []) ∷ (9 ∷ 0 ∷ 9 ∷ 1 ∷ []) ∷ (9 ∷ 9 ∷ 0 ∷ 1 ∷ []) ∷
      (3 ∷ 9 ∷ 9 ∷ 0 ∷ []) ∷ [];
  process_times = 0 ∷ 0 ∷ 0 ∷ 0 ∷ [];
  curves = None ∷ None ∷ None ∷ Some ((0, 0) ∷ (1, 1) ∷ []) ∷ [];
  plug_times = 0 ∷ 0 ∷ 0 ∷ 0 ∷ [];
  denominator = 1;
  limit = 1000;
}

-- the price of the second customer, and what was earned and how late it is behind him
abbrev section : ℕ → ℕ → ℕ → NearSection
section price earned time = record {
  weight = 1;
  prices = pos 8 ∷ pos price ∷ [];
  sets = (0 ∷ []) ∷ (1 ∷ []) ∷ [];
  entry_prices = [];
  labels = at_start 1 ∷ label (after 1) 1 (0 ∷ []) (pos 8) 1 (4 ∷ [])
      ∷ label (after 2) 2 (1 ∷ []) (pos earned) 1 (time ∷ [])
      ∷ label anybody 3 [] (pos 8) 1 (5 ∷ []) ∷ [];
}

-- the second customer may not follow the first
abbrev pub apart : NearSection
apart = section 8 8 4

abbrev pub when_apart : Branch
when_apart = apart_at 1 2 whole

-- or he has to
abbrev pub together : NearSection
together = section 9 17 13

abbrev pub by_pair : NearTree
by_pair = split 1 2 (leaf apart) (leaf together)
