-- How far it is home: times come first, then the number of moves.
use Rattle.std.specs.Prelude.{ℕ, ◌+◌, ◌*◌, ◌^◌, Option, None, Some}
use Rattle.level_table.specs.declared.reach.Reach.{Reach}

-- the lesser of two ranks has less time, or as much time in fewer moves
abbrev pub rank : Reach → ℕ
rank r = r.time * 2 ^ 32 + r.steps

-- a cell without a way home within the limit ranks behind each that has one
abbrev pub rank_of : ℕ → Option Reach → ℕ
rank_of limit None = (limit + 1) * 2 ^ 32
rank_of limit (Some r) = rank r
