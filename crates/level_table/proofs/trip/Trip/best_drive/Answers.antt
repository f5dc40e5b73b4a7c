use Rattle.std.proofs.Common.{◌≡◌, ◌≤◌, ◌⊎◌, ℕ, List, Option, None, Some, sym, subst, inl, inr, arith}
use Rattle.std.proofs.lemmas.Grind.{common_steps}
use Rattle.std.specs.Prelude.{IfSome}
use Rattle.std.proofs.lemmas.Bool.{cases_lt}
use Rattle.ev_model.specs.Network.{Network, scaled_limit}
use Rattle.level_table.specs.Table.{IsNoFarther, IsOffer, offer_rank}
use Rattle.level_table.specs.declared.moves.Move.TheVariants.{Drive}
use Rattle.level_table.specs.declared.offers.Offer.{Offer}
use Rattle.level_table.specs.declared.place.Place.{Place}
use Rattle.level_table.specs.declared.reach.Reach.{Reach}
use Rattle.level_table.proofs.trip.Trip.best_drive.Goals as goal

either-some : (P : Offer → Type 0) (result one other : Option Offer) → (result ≡ one) ⊎ (result ≡ other) → IfSome one P → IfSome other P → IfSome result P
either-some P result one other either first second = elim either [
  | inl is ↦ subst (λ (o : Option Offer). IfSome o P) (sym is) first
  | inr is ↦ subst (λ (o : Option Offer). IfSome o P) (sym is) second
]

in_time : (g : Network) (route : List ℕ) (entries : List (Option Reach)) (from : Place) (o : Option Offer) →
    IfSome o (IsOffer g route entries from) → IfSome o (λ offer. offer.reach.time ≤ scaled_limit g)
in_time g route entries from None is = is
in_time g route entries from (Some offer) is = is.in_time

pub loop-slot-preserved : goal.loop-slot-preserved
loop-slot-preserved c =
    let g = c.args.self.now.network in
    let route = c.args.self.now.route in
    let entries = c.args.entries.now in
    let from = c.args.from in
    let least = c.nearer-best.ensures.least (scaled_limit g)
    (in_time g route entries from c.loop-slot.best c.loop-slot.invariant.some) (in_time g route entries from c.offer.result c.offer.ensures.some) in
    record {
      some = either-some (IsOffer g route entries from) c.nearer-best.result c.loop-slot.best c.offer.result c.nearer-best.ensures.either
          c.loop-slot.invariant.some c.offer.ensures.some;
      charge = omega (arith, c.loop-slot.invariant.charge, least.0);
      drives = λ slot below can. elim (cases_lt slot c.loop-slot.slot) [
        | inl before ↦ omega (arith, c.loop-slot.invariant.drives slot before can, least.0)
        | inr last ↦
            let same : c.loop-slot.slot ≡ slot = omega arith in
            let offered : IsNoFarther g route entries from (Drive slot) (offer_rank (scaled_limit g) c.offer.result) =
            subst (λ (x : ℕ). IsNoFarther g route entries from (Drive x) (offer_rank (scaled_limit g) c.offer.result)) same c.offer.ensures.least in
            omega (arith, offered can, least.1)
      ];
    }

pub returns-clause-drives : goal.returns-clause-drives
returns-clause-drives c = λ slot can. c.loop-slot.invariant.drives slot (omega (arith, can.1.known, c.slots-slot-end.ensures.value, c.loop-slot-test.false)) can

pub loop-slot-init : goal.loop-slot-init
loop-slot-init = grind (arith, common_steps)
