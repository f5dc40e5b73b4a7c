-- How the state of the generator goes on from draw to draw.
use Rattle.std.proofs.Common.{◌≡◌, ◌∙◌, sym, ap, refl, ℕ, ◌+◌, ◌*◌, ◌/◌, ◌%◌, ◌^◌, ◌<◌, List, [], ◌∷◌, ◌++◌, arith, add-one}
use Rattle.std.proofs.Math.Nat.{div-add-mod, mod-eq_of_lt, mul_assoc, mul-one, pow-suc, mul-add-mod_self_left}
use Rattle.instance_maker.specs.Generator.{state_after, drawn}
use Rattle.instance_maker.specs.Locations.{locations_of}
use Rattle.instance_maker.specs.declared.plane.Location.{Location}

-- a factor may be taken in before the remainder or after it
pub mod-mul-mod : (a m p : ℕ) → a % p * m % p ≡ a * m % p
mod-mul-mod a m p =
    let parts : p * (a / p) + a % p ≡ a = div-add-mod a p in
    let whole : p * (a / p * m) + a % p * m ≡ a * m = omega (arith, ap (λ n. n * m) parts) in
    sym (mul-add-mod_self_left p (a / p * m) (a % p * m)) ∙ ap (λ n. n % p) whole

pub state_after-more : (seed draws : ℕ) → state_after seed draws * 48271 % 2147483647 ≡ state_after seed (draws + 1)
state_after-more seed draws =
    let power : seed * 48271 ^ draws * 48271 ≡ seed * 48271 ^ (draws + 1) = mul_assoc seed (48271 ^ draws) 48271 ∙ ap (λ n. seed * n) (sym (pow-suc 48271 draws) ∙ ap (λ n. 48271 ^ n) (sym (add-one draws))) in
    mod-mul-mod (seed * 48271 ^ draws) 48271 2147483647
    ∙ ap (λ n. n % 2147483647) power

pub state_after-none : (seed : ℕ) → seed < 2147483647 → seed ≡ state_after seed 0
state_after-none seed h = sym (mod-eq_of_lt h) ∙ ap (λ n. n % 2147483647) (sym (mul-one seed))

-- One more node is drawn.
pub locations_of-more : (seed node x y : ℕ) (locations : List Location) → locations ≡ locations_of seed node → x ≡ drawn seed (2 * node + 1) → y ≡ drawn seed (2 * node + 2) → locations ++ record { x = x; y = y } ∷ [] ≡ locations_of seed (node + 1)
locations_of-more seed node x y locations so_far is_x is_y = rw (add-one node, so_far, is_x, is_y) refl
