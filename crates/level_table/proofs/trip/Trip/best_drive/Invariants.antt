use Rattle.std.proofs.Common.{ℕ, ◌<◌, ◌≤◌}
use Rattle.std.specs.Prelude.{IfSome}
use Rattle.ev_model.specs.Network.{scaled_limit}
use Rattle.level_table.specs.Table.{IsNoFarther, IsOffer, offer_rank}
use Rattle.level_table.specs.declared.moves.Move.TheVariants.{Drive}
use Rattle.level_table.proofs.trip.Trip.best_drive.Given as goal

abbrev pub invariant-loop-slot : goal.invariant-loop-slot
invariant-loop-slot l = record {
  some : IfSome l.best (IsOffer l.self.network l.self.route l.entries l.from);
  charge : offer_rank (scaled_limit l.self.network) l.best ≤ offer_rank (scaled_limit l.self.network) l.fn.charge;
  drives : (slot : ℕ) → slot < l.slot → IsNoFarther l.self.network l.self.route l.entries l.from (Drive slot) (offer_rank (scaled_limit l.self.network) l.best);
}
