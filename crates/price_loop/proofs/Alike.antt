-- Columns that say the same: a basis is past the caps whatever the order in which the sets of its columns are written.
use Rattle.std.proofs.Common.{◌≡◌, ◌∙◌, ℕ, suc, ◌*◌, ◌<◌, Bool, refl, sym, ap, subst, List, [], ◌∷◌, length, inl, inr, cond, ℤ, pos, ◌+ℤ◌, ◌-ℤ◌, ◌*ℤ◌, ◌<ℤ◌, unsigned_abs}
use Rattle.std.specs.Int.{◌∣◌}
use Rattle.fleet_model.specs.Basis.{AreIndependent, covering, IsBasis, IsBody, IsShareWeight, MakesSharesWhole, Pays, PaysLeast}
use Rattle.fleet_model.specs.Equations.{Column, column_at, cost_of, entry, help_of, right_side, serves, total}
use Rattle.fleet_model.specs.Wide.{IsBodyPast, IsHelperListPast, IsPast, IsPastAt, IsPriceListPast, IsShareWeightPast}

-- two columns have the same customers, the same cost, and are both helpers or both routes
pub record IsAlike (a b : Column) : Type 0 where
  pub members : (c : ℕ) → serves a c ≡ serves b c
  pub cost : cost_of a ≡ cost_of b
  pub help : help_of a ≡ help_of b

pub alike_same : (a : Column) → IsAlike a a
alike_same a = record { members = λ c. refl; cost = refl; help = refl }

pub alike_back : (a b : Column) → IsAlike a b → IsAlike b a
alike_back a b h = record { members = λ c. sym (h.members c); cost = sym h.cost; help = sym h.help }

entry_alike : (ms : List ℤ) (a b : Column) → IsAlike a b → entry ms a ≡ entry ms b
entry_alike ms a b h = ap (λ (s : ℕ → Bool). total s ms) (λ i c. h.members c i)

-- the same of lists of columns, place by place
pub record AreAlike (xs ys : List Column) : Type 0 where
  pub count : length xs ≡ length ys
  pub each : (j : ℕ) → IsAlike (column_at xs j) (column_at ys j)

pub lists_back : (xs ys : List Column) → AreAlike xs ys → AreAlike ys xs
lists_back xs ys h = record { count = sym h.count; each = λ j. alike_back (column_at xs j) (column_at ys j) (h.each j) }

rest_alike : (x y : Column) (xs ys : List Column) → AreAlike (x ∷ xs) (y ∷ ys) → AreAlike xs ys
rest_alike x y xs ys h = record { count = (let e = h.count in cc); each = λ j. h.each (suc j) }

covering_alike : (ks : List ℤ) (xs ys : List Column) (c : ℕ) → AreAlike xs ys → covering ks xs c ≡ covering ks ys c
covering_alike [] xs ys c h = refl
covering_alike (k ∷ ks) [] [] c h = refl
covering_alike (k ∷ ks) [] (y ∷ ys) c h = absurd (let e = h.count in cc)
covering_alike (k ∷ ks) (x ∷ xs) [] c h = absurd (let e = h.count in cc)
covering_alike (k ∷ ks) (x ∷ xs) (y ∷ ys) c h =
    let first = ap (λ b. cond b k (pos 0)) ((h.each 0).members c) in
    let rest = covering_alike ks xs ys c (rest_alike x y xs ys h) in
    λ i. first i +ℤ rest i

module _ (n : ℕ) (xs ys : List Column) (h : AreAlike xs ys) where
  independent_alike : AreIndependent n xs → AreIndependent n ys
  independent_alike is ks count none = is ks (count ∙ sym h.count) (λ c less. covering_alike ks xs ys c h ∙ none c less)

  pub basis_alike : IsBasis n xs → IsBasis n ys
  basis_alike is = record { count = sym h.count ∙ is.count; independent = independent_alike is.independent }

  body_alike : (i : ℕ) (ms : List ℤ) → IsBody n xs i ms → IsBody n ys i ms
  body_alike i ms is = record {
    whole = is.whole;
    own = subst (λ z. pos 0 <ℤ z) (entry_alike ms (column_at xs i) (column_at ys i) (h.each i)) is.own;
    others = λ j less apart. sym (entry_alike ms (column_at xs j) (column_at ys j) (h.each j)) ∙ is.others j less apart;
    reduced = is.reduced;
  }

  pays_alike : (worth : Column → ℤ) (w : ℤ) (numbers : List ℤ) → ((j : ℕ) → worth (column_at xs j) ≡ worth (column_at ys j)) → Pays worth n xs w numbers → Pays worth n ys w numbers
  pays_alike worth w numbers same is = record {
    whole = is.whole;
    some = is.some;
    pays = λ j less. sym (entry_alike numbers (column_at xs j) (column_at ys j) (h.each j)) ∙ is.pays j less ∙ ap (λ z. w *ℤ z) (same j);
  }

least_alike : (n : ℕ) (xs ys : List Column) (h : AreAlike xs ys) (worth : Column → ℤ) (w : ℤ) (numbers : List ℤ) → ((j : ℕ) → worth (column_at xs j) ≡ worth (column_at ys j)) → PaysLeast worth n xs w numbers → PaysLeast worth n ys w numbers
least_alike n xs ys h worth w numbers same is = record {
  list = pays_alike n xs ys h worth w numbers same is.list;
  least = λ v others pays. is.least v others (pays_alike n ys xs (lists_back xs ys h) worth v others (λ j. sym (same j)) pays);
}

whole_alike : (n : ℕ) (xs ys : List Column) (h : AreAlike xs ys) (W : ℕ) → MakesSharesWhole n xs W → MakesSharesWhole n ys W
whole_alike n xs ys h W is i ms less body =
    let back = body_alike n ys xs (lists_back xs ys h) i ms body in
    subst (λ z. unsigned_abs z ∣ (W * unsigned_abs (right_side ms))) (entry_alike ms (column_at xs i) (column_at ys i) (h.each i)) (is i ms less back)

weight_alike : (n : ℕ) (xs ys : List Column) (h : AreAlike xs ys) (W : ℕ) → IsShareWeight n xs W → IsShareWeight n ys W
weight_alike n xs ys h W is = record {
  some = is.some;
  whole = whole_alike n xs ys h W is.whole;
  least = λ V some whole. is.least V some (whole_alike n ys xs (lists_back xs ys h) V whole);
}

-- a number of the columns is past the cap in both lists
module _ (cap : ℕ) (xs ys : List Column) (h : AreAlike xs ys) (number : Column → ℤ) (same : (a b : Column) → IsAlike a b → number a ≡ number b) where
  past_at_alike : IsPastAt cap xs number → IsPastAt cap ys number
  past_at_alike past = (past.0, subst (λ k. past.0 < k) h.count past.1, subst (λ z. cap < unsigned_abs z) (same (column_at xs past.0) (column_at ys past.0) (h.each past.0)) past.2)

module _ (body cost n : ℕ) (xs ys : List Column) (h : AreAlike xs ys) (bs cs : List Column) (k : AreAlike bs cs) where
  body_past_alike : IsBodyPast body n xs bs → IsBodyPast body n ys cs
  body_past_alike past = (
    past.0,
    past.1,
    past.2,
    body_alike n bs cs k past.0 past.1 past.3,
    elim past.4 [
      | inl at ↦ inl (past_at_alike body xs ys h (entry past.1) (λ a b alike. entry_alike past.1 a b alike) at)
      | inr right ↦ inr right
    ],
  )

  price_past_alike : IsPriceListPast body cost n xs bs → IsPriceListPast body cost n ys cs
  price_past_alike past = (
    past.0,
    past.1,
    least_alike n bs cs k (λ b. pos (cost_of b)) past.0 past.1 (λ j. ap pos (k.each j).cost) past.2,
    elim past.3 [
      | inl at ↦ inl (past_at_alike cost xs ys h (λ b. past.0 *ℤ pos (cost_of b) -ℤ entry past.1 b) (λ a b alike. λ i. past.0 *ℤ pos (alike.cost i) -ℤ entry_alike past.1 a b alike i) at)
      | inr rest ↦ inr rest
    ],
  )

  helper_past_alike : IsHelperListPast cost n xs bs → IsHelperListPast cost n ys cs
  helper_past_alike past = (
    past.0,
    past.1,
    least_alike n bs cs k (λ b. pos (help_of b)) past.0 past.1 (λ j. ap pos (k.each j).help) past.2,
    elim past.3 [
      | inl at ↦ inl (past_at_alike cost xs ys h (entry past.1) (λ a b alike. entry_alike past.1 a b alike) at)
      | inr rest ↦ inr rest
    ],
  )

  weight_past_alike : IsShareWeightPast body n bs → IsShareWeightPast body n cs
  weight_past_alike past = (past.0, weight_alike n bs cs k past.0 past.1, past.2)

  pub past_alike : IsPast body cost n xs bs → IsPast body cost n ys cs
  past_alike is = record {
    is_basis = basis_alike n bs cs k is.is_basis;
    past = elim is.past [
      | inl p ↦ inl (body_past_alike p)
      | inr rest ↦ elim rest [
        | inl p ↦ inr (inl (price_past_alike p))
        | inr later ↦ elim later [ inl p ↦ inr (inr (inl (helper_past_alike p))) | inr p ↦ inr (inr (inr (weight_past_alike p))) ]
      ]
    ];
  }
