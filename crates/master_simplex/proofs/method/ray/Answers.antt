use Rattle.std.proofs.Common.{◌≡◌, ◌<◌, ◌≤◌, ℕ, List, [], arith, rules, sym, subst, All, inr, unsigned_abs}
use Rattle.master_simplex.specs.Answer.{AreApart, IsRay}
use Rattle.master_simplex.specs.Sharing.{numbers}
use Rattle.master_simplex.specs.declared.phase.Goal.TheVariants.{Helpers}
use Rattle.master_simplex.proofs.Optimum.{numbers_small}
use Rattle.master_simplex.proofs.Ray.{ray_is}
use Rattle.master_simplex.proofs.method.ray.Goals as goal

pub returns-in-Ok-clause-answer : goal.returns-in-Ok-clause-answer
returns-in-Ok-clause-answer c =
    let t = c.args.t.now in
    let prices : c.in-Ok.prices.items ≡ numbers Helpers c.args.t.now = search rules in
    let empty : c.new.result.items ≡ [] = search rules in
    inr (subst (λ p. IsRay t 0 p 0 c.new.result.items) (sym prices) (subst (λ s. IsRay t 0 (numbers Helpers t) 0 s) (sym empty) (ray_is t c.rows-n.ensures.tableau c.requires.end c.requires.shares)))

pub returns-in-Ok-clause-within : goal.returns-in-Ok-clause-within
returns-in-Ok-clause-within c =
    let t = c.args.t.now in
    let prices : c.in-Ok.prices.items ≡ numbers Helpers c.args.t.now = search rules in
    let empty : c.new.result.items ≡ [] = search rules in
    record {
      weight = omega arith;
      prices = subst (λ p. All (λ x. unsigned_abs x ≤ t.caps.cost) p) (sym prices) (numbers_small t c.rows-n.ensures.tableau c.rows-n.ensures.within Helpers);
      over = omega arith;
      shares = subst (λ (s : List (ℕ × ℕ)). All (λ x. (0 < x.1) × (x.1 ≤ 0)) s) (sym empty) (λ i d lt. absurd (omega arith));
      apart = subst (λ s. AreApart s) (sym empty) (λ i j d e less inside. absurd (omega arith));
    }
