-- Starts of a listed basis, by caps of any size.
use Rattle.std.specs.Prelude.{ℕ, ◌≤◌, List, ◌++◌, map, length, take}
use Rattle.fleet_model.specs.Equations.{Column, helper}
use Rattle.fleet_model.specs.Basis.{AreIndependent}
use Rattle.fleet_model.specs.Wide.{Follow, IsPast}

-- the first m entries are independent, and with the helpers that follow are a basis past the caps
pub record IsStartPast (body cost n : ℕ) (columns entries : List Column) (m : ℕ) : Type 0 where
  pub independent : AreIndependent n (take m entries)
  pub customers : List ℕ
  pub follow : Follow n n 0 (take m entries) customers
  pub past : IsPast body cost n columns (take m entries ++ map helper customers)

-- some start is: with caps of 2^40 and 2^84 the listed basis is too wide
pub record HasStartPast (body cost n : ℕ) (columns entries : List Column) : Type 0 where
  pub m : ℕ
  pub some : m ≤ length entries
  pub start : IsStartPast body cost n columns entries m
