-- Coverage by a margin of time.
use Rattle.std.proofs.Common.{◌≡◌, ℕ, ◌+◌, ◌-◌, ◌*◌, ◌≤◌, arith, ◌↔◌}
use Rattle.std.specs.Prelude.{ℤ, pos, ◌+ℤ◌, ◌-ℤ◌, ◌≤ℤ◌}
use Rattle.std.proofs.Math.Nat.{mul-le-mul_left}
use Rattle.std.proofs.lemmas.Int.{ints}
use Rattle.fleet_model.specs.Labels.{Label, State, state_at}
use Rattle.fleet_model.specs.Margins.{Covers, CoversBy, HasNoMargin, IsMargin}

cheaper : (w t u margin : ℕ) (p q : ℤ) → q ≤ℤ (p +ℤ pos (margin * w)) → t + margin ≤ u → (pos (w * t) -ℤ p) ≤ℤ (pos (w * u) -ℤ q)
cheaper w t u margin p q enough le =
    let scaled : w * (t + margin) ≤ w * u = mul-le-mul_left w le in
    let parts : w * t + margin * w ≤ w * u = omega (arith, scaled) in
    omega (arith, ints, enough, parts)

pub earlier : (w t u : ℕ) (p q : ℤ) → t ≤ u → (pos (w * t) -ℤ p) ≤ℤ (pos (w * u) -ℤ q) → q ≤ℤ (p +ℤ pos ((u - t) * w))
earlier w t u p q le cost =
    let gap : t + (u - t) ≡ u = omega (arith, le) in
    let parts : w * (t + (u - t)) ≡ w * t + (u - t) * w = omega arith in
    let whole : w * u ≡ w * t + (u - t) * w = rw gap at parts in
    omega (arith, ints, cost, whole)

by_margin : (w margin : ℕ) (l : Label) (b : State) → IsMargin w l.paid b.paid margin → Covers w l b → CoversBy margin l b
by_margin w margin l b is covers =
    let good = covers.2 in
    let t = (state_at l covers.0).time in
    let least = is.least (b.time - t) (earlier w t b.time l.paid b.paid good.time good.cost) in
    record {
      last = good.last;
      node = good.node;
      served = good.served;
      reaches = (covers.0, covers.1, (good.level, omega (arith, least, good.time)));
    }

from_margin : (w margin : ℕ) (l : Label) (b : State) → IsMargin w l.paid b.paid margin → CoversBy margin l b → Covers w l b
from_margin w margin l b is covers =
    let y = covers.reaches.0 in
    let later = covers.reaches.2.1 in (
      y,
      covers.reaches.1,
      record {
        last = covers.last;
        node = covers.node;
        served = covers.served;
        level = covers.reaches.2.0;
        time = omega (arith, later);
        cost = cheaper w (state_at l y).time b.time margin l.paid b.paid is.enough later;
      },
    )

pub covers_by_margin : (w margin : ℕ) (l : Label) (b : State) → IsMargin w l.paid b.paid margin → Covers w l b ↔ CoversBy margin l b
covers_by_margin w margin l b is = (by_margin w margin l b is, from_margin w margin l b is)

pub covers_nothing : (w : ℕ) (l : Label) (b : State) → HasNoMargin w l.paid b.paid → Covers w l b → ⊥
covers_nothing w l b none covers =
    let good = covers.2 in
    let t = (state_at l covers.0).time in
    none (b.time - t) (earlier w t b.time l.paid b.paid good.time good.cost)
