use Rattle.std.proofs.Common.{◌≡◌, ◌<◌, ◌≤◌, ℕ, pos, List, arith, rules, sym, subst, All, inl, unsigned_abs}
use Rattle.fleet_model.specs.Basis.{IsPriceList}
use Rattle.master_table.specs.Tableau.{basis_columns, size}
use Rattle.master_simplex.specs.Answer.{AreApart, IsOptimum}
use Rattle.master_simplex.specs.Sharing.{given, numbers}
use Rattle.master_simplex.specs.declared.phase.Goal.TheVariants.{Cost}
use Rattle.master_simplex.proofs.Apart.{given_apart}
use Rattle.master_simplex.proofs.Optimum.{numbers_small, optimum, share_small, shares_within, weight_small}
use Rattle.master_table.proofs.BasisShares.{weight_is}
use Rattle.master_simplex.proofs.method.optimum.Goals as goal

pub shares-requires : goal.shares-requires
shares-requires c = share_small c.args.t.now c.rows-n.ensures.tableau c.requires.feasible c.in-Some.over c.in-Some.ensures.some

pub returns-clause-answer : goal.returns-clause-answer
returns-clause-answer c =
    let t = c.args.t.now in
    let over = c.in-Some.over in
    let w = c.weight.result in
    let prices : c.in_ok-prices.prices.items ≡ numbers Cost c.args.t.now = search rules in
    let shares : c.in_ok-shares.shares.items ≡ given c.args.t.now c.in-Some.over (size c.args.t.now) = search rules in
    inl (subst (λ p. IsOptimum t w p over c.in_ok-shares.shares.items) (sym prices) (subst (λ s. IsOptimum t w (numbers Cost t) over s) (sym shares)
    (optimum t c.rows-n.ensures.tableau c.requires.feasible over c.in-Some.ensures.some c.requires.idle c.requires.end w c.weight.ensures.positive c.weight.ensures.value)))

pub returns-clause-within : goal.returns-clause-within
returns-clause-within c =
    let t = c.args.t.now in
    let over = c.in-Some.over in
    let prices : c.in_ok-prices.prices.items ≡ numbers Cost c.args.t.now = search rules in
    let shares : c.in_ok-shares.shares.items ≡ given c.args.t.now c.in-Some.over (size c.args.t.now) = search rules in
    record {
      weight = weight_small t c.rows-n.ensures.tableau c.rows-n.ensures.within c.weight.result c.weight.ensures.value;
      prices = subst (λ p. All (λ x. unsigned_abs x ≤ t.caps.cost) p) (sym prices) (numbers_small t c.rows-n.ensures.tableau c.rows-n.ensures.within Cost);
      over = c.in-Some.ensures.within;
      shares = subst (λ (s : List (ℕ × ℕ)). All (λ x. (0 < x.1) × (x.1 ≤ over)) s) (sym shares) (shares_within t c.rows-n.ensures.tableau c.requires.feasible over c.in-Some.ensures.some);
      apart = subst (λ s. AreApart s) (sym shares) (given_apart t c.rows-n.ensures.tableau over);
    }

pub returns-clause-basis : goal.returns-clause-basis
returns-clause-basis c =
    let t = c.args.t.now in
    let h = c.rows-n.ensures.tableau in
    let prices : c.in_ok-prices.prices.items ≡ numbers Cost c.args.t.now = search rules in
    let positive = c.weight.ensures.positive in
    record {
      list = λ some. subst (λ p. IsPriceList (size t) (basis_columns t) (pos c.weight.result) p) (sym prices)
          (subst (λ w. IsPriceList (size t) (basis_columns t) w (numbers Cost t)) (sym c.weight.ensures.value) h.price_list);
      whole = λ some. weight_is t h c.in-Some.over c.in-Some.ensures.some;
      ray = λ e. absurd (omega arith);
    }
