-- A pivot keeps the solutions.
use Rattle.std.proofs.Common.{◌≡◌, ◌≢◌, ◌∙◌, ℕ, suc, ◌+◌, ◌<◌, arith, refl, sym, ap, subst, ℤ, pos, neg_ℤ, ◌-ℤ◌, ◌*ℤ◌, ◌<ℤ◌, ◌↔◌, List, [], ◌∷◌, map, length, length-set, get_or, Bool, true, false, cond, ◌⊎◌, inl, inr}
use Rattle.std.proofs.lemmas.Int.{ints}
use Rattle.fleet_model.proofs.Ring.{*ℤ_assoc, *ℤ_cancel, *ℤ_comm, *ℤ-+ℤ, *ℤ--ℤ, -ℤ-*ℤ, neg_ℤ-*ℤ}
use Rattle.fleet_model.proofs.Signs.{factor_pos, same_or_not}
use Rattle.master_table.specs.Tableau.{Equation, IsTableau, Tableau, entry_at, row_at, size}
use Rattle.master_table.specs.Pivoting.{IsCombinationOf, IsPivotOf, excess, is_below, turned_row}
use Rattle.master_table.specs.Solutions.{HaveSameSolutions, IsSolution, product}
use Rattle.master_table.proofs.Combinations.{spelled_length}

-- ---- products of combined rows
spread : (k f g z a b x : ℤ) → k *ℤ z ≡ f *ℤ a -ℤ g *ℤ b → k *ℤ (z *ℤ x) ≡ f *ℤ (a *ℤ x) -ℤ g *ℤ (b *ℤ x)
spread k f g z a b x e =
    sym (*ℤ_assoc k z x) ∙ ap (λ y. y *ℤ x) e ∙ -ℤ-*ℤ (f *ℤ a) (g *ℤ b) x ∙ ap (λ y. y -ℤ (g *ℤ b) *ℤ x) (*ℤ_assoc f a x) ∙ ap (λ y. f *ℤ (a *ℤ x) -ℤ y) (*ℤ_assoc g b x)

product_combined : (k f g : ℤ) (now before turned shares : List ℤ) → length now ≡ length before → length turned ≡ length before
    → ((j : ℕ) → k *ℤ get_or now j (pos 0) ≡ f *ℤ get_or before j (pos 0) -ℤ g *ℤ get_or turned j (pos 0))
    → k *ℤ product now shares ≡ f *ℤ product before shares -ℤ g *ℤ product turned shares
product_combined k f g [] [] [] shares p q h = omega (arith, ints)
product_combined k f g [] [] (b ∷ bs) shares p q h = absurd (omega arith)
product_combined k f g [] (a ∷ others) turned shares p q h = absurd (omega arith)
product_combined k f g (z ∷ zs) [] turned shares p q h = absurd (omega arith)
product_combined k f g (z ∷ zs) (a ∷ others) [] shares p q h = absurd (omega arith)
product_combined k f g (z ∷ zs) (a ∷ others) (b ∷ bs) [] p q h = omega (arith, ints)
product_combined k f g (z ∷ zs) (a ∷ others) (b ∷ bs) (x ∷ xs) p q h =
    let here = spread k f g z a b x (h 0) in
    let rest = product_combined k f g zs others bs xs (omega arith) (omega arith) (λ j. h (suc j)) in
    let l = *ℤ-+ℤ k (z *ℤ x) (product zs xs) in
    let m = *ℤ-+ℤ f (a *ℤ x) (product others xs) in
    let n = *ℤ-+ℤ g (b *ℤ x) (product bs xs) in
    omega (arith, ints)

product_negated : (zs shares : List ℤ) → product (map neg_ℤ zs) shares ≡ neg_ℤ (product zs shares)
product_negated [] shares = refl
product_negated (z ∷ zs) [] = refl
product_negated (z ∷ zs) (x ∷ xs) = let e = neg_ℤ-*ℤ z x in let rest = product_negated zs xs in omega (arith, ints)

-- ---- a row and the turned row
abbrev Solves : List ℤ → ℤ → Equation → Type 0
Solves shares over row = product row.entries shares ≡ over *ℤ row.right

turn_solves : (shares : List ℤ) (over : ℤ) (col : ℕ) (row : Equation) → Solves shares over row ↔ Solves shares over (turned_row col row)
turn_solves shares over col row = by_cases (is_below (get_or row.entries col (pos 0)))
  where
    by_cases : (b : Bool) → Solves shares over row ↔ Solves shares over (cond b (record { weight = row.weight; right = neg_ℤ row.right; entries = map neg_ℤ row.entries }) row)
    by_cases false = (λ h. h, λ h. h)
    by_cases true =
        let e = product_negated row.entries shares in
        let f = *ℤ_comm over (neg_ℤ row.right) in
        let g = neg_ℤ-*ℤ row.right over in
        let i = *ℤ_comm over row.right in
        (λ h. let s = h in omega (arith, ints), λ h. let s = h in omega (arith, ints))

-- ---- a row and its combination with the turned row
swap : (f d a : ℤ) → f *ℤ (d *ℤ a) ≡ d *ℤ (f *ℤ a)
swap f d a = sym (*ℤ_assoc f d a) ∙ ap (λ z. z *ℤ a) (*ℤ_comm f d) ∙ *ℤ_assoc d f a

times_right : (k f g d r a b : ℤ) → k *ℤ r ≡ f *ℤ a -ℤ g *ℤ b → k *ℤ (d *ℤ r) ≡ f *ℤ (d *ℤ a) -ℤ g *ℤ (d *ℤ b)
times_right k f g d r a b e =
    let x = swap k d r in
    let y = swap f d a in
    let z = swap g d b in
    let w = ap (λ m. d *ℤ m) e in
    let v = *ℤ--ℤ d (f *ℤ a) (g *ℤ b) in
    omega (arith, ints)

module _ (shares : List ℤ) (over f g : ℤ) (before turned now : Equation) (above : pos 0 <ℤ f) (p : length now.entries ≡ length before.entries) (q : length turned.entries ≡ length before.entries)
    (c : IsCombinationOf f g before turned now) (same : Solves shares over turned) where
  abbrev k : ℤ
  k = pos c.factor

  products : k *ℤ product now.entries shares ≡ f *ℤ product before.entries shares -ℤ g *ℤ product turned.entries shares
  products = product_combined k f g now.entries before.entries turned.entries shares p q c.entries

  rights : k *ℤ (over *ℤ now.right) ≡ f *ℤ (over *ℤ before.right) -ℤ g *ℤ (over *ℤ turned.right)
  rights = times_right k f g over now.right before.right turned.right c.right

  solves_after : Solves shares over before → Solves shares over now
  solves_after h =
      let a = products in
      let b = rights in
      let d = ap (λ z. f *ℤ z) h in
      let e = ap (λ z. g *ℤ z) same in
      *ℤ_cancel k (product now.entries shares) (over *ℤ now.right) (factor_pos c.factor c.some) (omega (arith, ints))

  solves_before : Solves shares over now → Solves shares over before
  solves_before h =
      let a = products in
      let b = rights in
      let d = ap (λ z. k *ℤ z) h in
      let e = ap (λ z. g *ℤ z) same in
      *ℤ_cancel f (product before.entries shares) (over *ℤ before.right) above (omega (arith, ints))

-- ---- tables
module _ (r col : ℕ) (old new : Tableau) (h : IsTableau old) (k : IsTableau new) (below : r < size old) (pivot : IsPivotOf r col old new) where
  same_size : size new ≡ size old
  same_size = ap length pivot.basis ∙ length-set old.basis r col

  long : (i : ℕ) → i < size old + 2 → length (row_at new i).entries ≡ length old.columns
  long i lt = spelled_length (size new) i new.columns (row_at new i) (k.spelled i (let e = same_size in omega arith)) ∙ ap length pivot.columns

  lengths : (i j : ℕ) → i < size old + 2 → j < size old + 2 → length (row_at new i).entries ≡ length (row_at old j).entries
  lengths i j lt l = long i lt ∙ sym (spelled_length (size old) j old.columns (row_at old j) (h.spelled j l))

  turned_there : (shares : List ℤ) (over : ℤ) → Solves shares over (row_at old r) ↔ Solves shares over (row_at new r)
  turned_there shares over = subst (λ line. Solves shares over (row_at old r) ↔ Solves shares over line) (sym pivot.turned) (turn_solves shares over col (row_at old r))

  solved_after : (shares : List ℤ) (over : ℤ) → IsSolution old shares over → IsSolution new shares over
  solved_after shares over s i lt = by_cases (same_or_not i r)
    where
      small : i < size old
      small = let e = same_size in omega arith

      by_cases : (i ≡ r) ⊎ (i ≢ r) → Solves shares over (row_at new i)
      by_cases (inl e) = subst (λ j. Solves shares over (row_at new j)) (sym e) ((turned_there shares over).0 (s r below))
      by_cases (inr apart) =
          solves_after shares over (entry_at new r col) (excess (size old) col i (row_at old i)) (row_at old i) (row_at new r) (row_at new i) pivot.above
          (lengths i i (let l = small in omega arith) (let l = small in omega arith)) (lengths r i (omega arith) (let l = small in omega arith)) (pivot.others i (let l = small in omega arith) apart)
          ((turned_there shares over).0 (s r below)) (s i small)

  solved_before : (shares : List ℤ) (over : ℤ) → IsSolution new shares over → IsSolution old shares over
  solved_before shares over s i lt = by_cases (same_or_not i r)
    where
      by_cases : (i ≡ r) ⊎ (i ≢ r) → Solves shares over (row_at old i)
      by_cases (inl e) = subst (λ j. Solves shares over (row_at old j)) (sym e) ((turned_there shares over).1 (s r (let m = same_size in omega arith)))
      by_cases (inr apart) =
          solves_before shares over (entry_at new r col) (excess (size old) col i (row_at old i)) (row_at old i) (row_at new r) (row_at new i) pivot.above
          (lengths i i (omega arith) (omega arith)) (lengths r i (omega arith) (omega arith)) (pivot.others i (omega arith) apart)
          (s r (let m = same_size in omega arith)) (s i (let m = same_size in omega arith))

  pub same_solutions : HaveSameSolutions old new
  same_solutions shares over = (solved_after shares over, solved_before shares over)
