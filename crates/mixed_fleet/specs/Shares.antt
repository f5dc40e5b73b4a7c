-- The shares of routes at an optimum of the master problem.
use Rattle.std.specs.Prelude.{ℕ, ◌-◌, ◌^◌, List, [], get_or}
use Rattle.ev_model.specs.Network.{Network}
use Rattle.master_simplex.specs.declared.prices.Lp.{Lp}
use Rattle.master_table.specs.Tableau.{Limits}
use Rattle.piece_fn.specs.declared.label.Label.{Label}
use Rattle.price_loop.specs.Endings.{IsOver}
use Rattle.mixed_model.specs.declared.proof.MixedShare.{MixedShare}
use Rattle.mixed_fleet.specs.Problem.{problem_of}
use Rattle.mixed_fleet.specs.declared.searched.Searched.{Searched}

-- the caps of certificates: on the weight and shares, and on prices
abbrev pub certificate_caps : Limits
certificate_caps = record { body = 2 ^ 40; cost = 2 ^ 84 }

-- the price loop over routes of all kinds has ended with these routes, at an answer of the simplex
-- method and labels that show that none earns
pub record IsClosedAt (kinds : List Network) (lp : Lp) (routes : List Searched)
    (closing : List (List Label)) : Type 0 where
  pub basis : List ℕ
  pub over : IsOver (problem_of kinds) certificate_caps lp routes basis closing

-- a route without stops: what a number past the end stands for
abbrev pub no_route : Searched
no_route = record {
  route = record { kind = 0; plan = record { stops = [] } };
  numbers = [];
  time = 0;
}

-- the first n columns are helpers
abbrev pub share_at : ℕ → List Searched → ℕ × ℕ → MixedShare
share_at n routes x = record { share = x.1; route = (get_or routes (x.0 - n) no_route).route }
