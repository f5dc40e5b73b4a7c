-- Weak duality: prices that no column exceeds are at most the cost of each cover.
use Rattle.std.proofs.Common.{◌≡◌, ◌∙◌, ℕ, zero, suc, ◌+◌, ◌*◌, ◌<◌, ◌≤◌, arith, refl, sym, ap, subst, ℤ, pos, negsuc, ◌+ℤ◌, ◌*ℤ◌, ◌≤ℤ◌, Bool, true, false, cond, List, [], ◌∷◌, length, get_or}
use Rattle.std.proofs.lemmas.Int.{ints}
use Rattle.std.proofs.Math.Nat.{le_of_mul-le-mul_left, mul-le-mul_left}
use Rattle.fleet_model.specs.Equations.{Column, column_at, cost_of, entry, right_side, serves, total_from}
use Rattle.fleet_model.proofs.Ring.{*ℤ-+ℤ, +ℤ-*ℤ, *ℤ_assoc, *ℤ_comm, *ℤ_pos}
use Rattle.master_table.specs.Tableau.{Tableau, size}
use Rattle.master_simplex.specs.Answer.{ArePrices, IsAdded, IsCover, IsOptimum, IsRay, cost_of_shares, covered}
use Rattle.master_simplex.proofs.Sums.{worth}

-- the sum of one number for each customer, each times how often the customer is covered
weighed_from : (ℕ → ℕ) → ℕ → List ℤ → ℤ
weighed_from G c [] = pos 0
weighed_from G c (m ∷ ms) = pos (G c) *ℤ m +ℤ weighed_from G (suc c) ms

weighed_none : (c : ℕ) (ms : List ℤ) → weighed_from (λ d. 0) c ms ≡ pos 0
unfolding weighed_from
weighed_none c [] = refl
weighed_none c (m ∷ ms) = let rest = weighed_none (suc c) ms in omega (arith, ints)

more_shares : (x : ℕ) (s : ℕ → Bool) (G : ℕ → ℕ) (c : ℕ) (ms : List ℤ) → pos x *ℤ total_from s c ms +ℤ weighed_from G c ms ≡ weighed_from (λ d. cond (s d) x 0 + G d) c ms
unfolding weighed_from
more_shares x s G c [] = omega (arith, ints)
more_shares x s G c (m ∷ ms) =
    let rest = more_shares x s G (suc c) ms in
    let here = one (s c) in
    let split = *ℤ-+ℤ (pos x) (cond (s c) m (pos 0)) (total_from s (suc c) ms) in
    omega (arith, ints)
  where
    one : (b : Bool) → pos x *ℤ cond b m (pos 0) +ℤ pos (G c) *ℤ m ≡ pos (cond b x 0 + G c) *ℤ m
    one true = let e = +ℤ-*ℤ (pos x) (pos (G c)) m in let p : pos (x + G c) ≡ pos x +ℤ pos (G c) = omega (arith, ints) in sym e ∙ ap (λ z. z *ℤ m) (sym p)
    one false = let p : 0 + G c ≡ G c = omega arith in omega (arith, ints, ap (λ k. pos k *ℤ m) p)

worth_weighed : (ms : List ℤ) (columns : List Column) (shares : List (ℕ × ℕ)) → worth ms columns shares ≡ weighed_from (covered columns shares) 0 ms
worth_weighed ms columns [] = sym (weighed_none 0 ms)
worth_weighed ms columns (x ∷ shares) =
    ap (λ z. pos x.1 *ℤ entry ms (column_at columns x.0) +ℤ z) (worth_weighed ms columns shares) ∙ more_shares x.1 (serves (column_at columns x.0)) (covered columns shares) 0 ms

weighed_same : (G : ℕ → ℕ) (over c : ℕ) (ms : List ℤ) → ((d : ℕ) → c ≤ d → d < c + length ms → G d ≡ over) → weighed_from G c ms ≡ pos over *ℤ total_from (λ d. true) c ms
unfolding weighed_from
weighed_same G over c [] h = omega (arith, ints)
weighed_same G over c (m ∷ ms) h =
    let here : pos (G c) *ℤ m ≡ pos over *ℤ m = ap (λ k. pos k *ℤ m) (h c (omega arith) (omega arith)) in
    let rest = weighed_same G over (suc c) ms (λ d le lt. h d (omega arith) (omega arith)) in
    let split = *ℤ-+ℤ (pos over) m (total_from (λ d. true) (suc c) ms) in
    omega (arith, ints)

-- a cover counts each customer's number equally
pub cover_worth : (t : Tableau) (over : ℕ) (shares : List (ℕ × ℕ)) (ms : List ℤ) → IsCover t over shares → length ms ≡ size t → worth ms t.columns shares ≡ pos over *ℤ right_side ms
cover_worth t over shares ms cover whole =
    worth_weighed ms t.columns shares ∙ weighed_same (covered t.columns shares) over 0 ms (λ d le lt. cover.exact d (omega arith))

scaled : (x : ℕ) (e : ℤ) (k : ℕ) → e ≤ℤ pos k → (pos x *ℤ e) ≤ℤ pos (x * k)
scaled x (pos e) k le = let less : x * e ≤ x * k = mul-le-mul_left x (let l : e ≤ k = omega (arith, ints) in l) in omega (arith, ints)
scaled zero (negsuc e) k le = omega (arith, ints)
scaled (suc x) (negsuc e) k le = omega (arith, ints)

-- shares are worth at most their cost times the weight
pub worth_paid : (t : Tableau) (weight : ℕ) (prices : List ℤ) (shares : List (ℕ × ℕ)) → ArePrices t weight prices → ((i : ℕ) → i < length shares → IsAdded t (get_or shares i (0, 0)).0)
    → worth prices t.columns shares ≤ℤ pos (weight * cost_of_shares t.columns shares)
worth_paid t weight prices [] priced added = omega (arith, ints)
worth_paid t weight prices (x ∷ shares) priced added =
    let c = cost_of (column_at t.columns x.0) in
    let here = scaled x.1 (entry prices (column_at t.columns x.0)) (weight * c) (priced.paid x.0 (added 0 (omega arith))) in
    let rest = worth_paid t weight prices shares priced (λ i lt. added (suc i) (omega arith)) in
    let split : weight * (x.1 * c + cost_of_shares t.columns shares) ≡ x.1 * (weight * c) + weight * cost_of_shares t.columns shares = omega arith in
    omega (arith, ints)

pub prices_below : (t : Tableau) (weight : ℕ) (prices : List ℤ) (over : ℕ) (shares : List (ℕ × ℕ)) → ArePrices t weight prices → IsCover t over shares
    → (pos over *ℤ right_side prices) ≤ℤ pos (weight * cost_of_shares t.columns shares)
prices_below t weight prices over shares priced cover =
    subst (λ z. z ≤ℤ pos (weight * cost_of_shares t.columns shares)) (cover_worth t over shares prices cover priced.whole)
    (worth_paid t weight prices shares priced (λ i lt. cover.added i (0, 0) lt))

-- no cover costs less than an optimum
pub least_cover : (t : Tableau) (weight : ℕ) (prices : List ℤ) (over : ℕ) (shares : List (ℕ × ℕ)) (other : ℕ) (others : List (ℕ × ℕ)) → IsOptimum t weight prices over shares → IsCover t other others
    → cost_of_shares t.columns shares * other ≤ cost_of_shares t.columns others * over
least_cover t weight prices over shares other others best cover =
    let s = right_side prices in
    let a = cost_of_shares t.columns shares in
    let b = cost_of_shares t.columns others in
    let below = prices_below t weight prices other others best.priced cover in
    let turned : pos over *ℤ (pos other *ℤ s) ≡ pos other *ℤ (pos over *ℤ s) = sym (*ℤ_assoc (pos over) (pos other) s) ∙ ap (λ z. z *ℤ s) (*ℤ_comm (pos over) (pos other)) ∙ *ℤ_assoc (pos other) (pos over) s in
    let scaled_up = scaled over (pos other *ℤ s) (weight * b) below in
    let cost : pos other *ℤ (pos over *ℤ s) ≡ pos (other * (weight * a)) = ap (λ z. pos other *ℤ z) (sym best.cost) ∙ omega (arith, ints) in
    let both : other * (weight * a) ≤ over * (weight * b) = let e : pos over *ℤ (pos other *ℤ s) ≡ pos (other * (weight * a)) = turned ∙ cost in omega (arith, ints) in
    let left : other * (weight * a) ≡ weight * (a * other) = omega arith in
    let right : over * (weight * b) ≡ weight * (b * over) = omega arith in
    let more : weight * (a * other) ≤ weight * (b * over) = omega arith in
    le_of_mul-le-mul_left more best.weighty

-- beside a ray there is no cover
pub no_cover : (t : Tableau) (weight : ℕ) (prices : List ℤ) (over : ℕ) (shares : List (ℕ × ℕ)) (other : ℕ) (others : List (ℕ × ℕ)) → IsRay t weight prices over shares → IsCover t other others → ⊥
no_cover t weight prices over shares other others ray cover =
    let below = prices_below t 0 prices other others ray.priced cover in
    let above = *ℤ_pos (pos other) (right_side prices) (let some = cover.some in omega (arith, ints)) ray.above in
    let none : 0 * cost_of_shares t.columns others ≡ 0 = omega arith in
    omega (arith, ints)
