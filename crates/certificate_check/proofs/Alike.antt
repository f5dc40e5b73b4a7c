-- Columns that serve the same customers at the same cost: what is said of one basis holds of another with columns alike.
use Rattle.std.proofs.Common.{◌≡◌, ◌∙◌, ℕ, zero, suc, ◌*◌, ◌^◌, ◌<◌, ◌≤◌, Bool, List, [], ◌∷◌, ◌++◌, length, map, take, refl, sym, ap, subst, ◌⊎◌, inl, inr, ℤ, pos, ◌+ℤ◌, ◌-ℤ◌, ◌*ℤ◌, cond, unsigned_abs}
use Rattle.std.specs.Prelude.{◌<ℤ◌}
use Rattle.std.specs.Int.{◌∣◌}
use Rattle.fleet_model.specs.Basis.{AreIndependent, covering, IsBasis, IsBody, IsShareWeight, MakesSharesWhole, Pays, PaysLeast}
use Rattle.fleet_model.specs.Equations.{Column, column_at, cost_of, entry, help_of, helper, helpers, right_side, route, serves, total}
use Rattle.fleet_model.specs.Wide.{Follow, IsBodyPast, IsHelperListPast, IsPast, IsPastAt, IsPriceListPast, IsShareWeightPast, IsTooWide}
use Rattle.certificate_check.specs.Columns.{AreAlike}

pub alike_self : (a : Column) → AreAlike a a
alike_self a = record { serve = λ c. refl; cost = refl; help = refl }

alike_back : (a b : Column) → AreAlike a b → AreAlike b a
alike_back a b al = record { serve = λ c. sym (al.serve c); cost = sym al.cost; help = sym al.help }

-- columns alike at each place
abbrev pub AllAlike : List Column → List Column → Type 0
AllAlike [] [] = Unit {0}
AllAlike [] (b ∷ bs) = ⊥
AllAlike (a ∷ more) [] = ⊥
AllAlike (a ∷ more) (b ∷ bs) = AreAlike a b × AllAlike more bs

pub all_self : (xs : List Column) → AllAlike xs xs
all_self [] = tt
all_self (x ∷ xs) = (alike_self x, all_self xs)

pub all_back : (xs ys : List Column) → AllAlike xs ys → AllAlike ys xs
all_back [] [] al = tt
all_back [] (y ∷ ys) al = al
all_back (x ∷ xs) [] al = al
all_back (x ∷ xs) (y ∷ ys) al = (alike_back x y al.0, all_back xs ys al.1)

pub all_append : (xs ys zs ws : List Column) → AllAlike xs ys → AllAlike zs ws → AllAlike (xs ++ zs) (ys ++ ws)
all_append [] [] zs ws al more = more
all_append [] (y ∷ ys) zs ws al more = absurd al
all_append (x ∷ xs) [] zs ws al more = absurd al
all_append (x ∷ xs) (y ∷ ys) zs ws al more = (al.0, all_append xs ys zs ws al.1 more)

all_take : (m : ℕ) (xs ys : List Column) → AllAlike xs ys → AllAlike (take m xs) (take m ys)
all_take zero xs ys al = tt
all_take (suc m) [] [] al = tt
all_take (suc m) [] (y ∷ ys) al = al
all_take (suc m) (x ∷ xs) [] al = al
all_take (suc m) (x ∷ xs) (y ∷ ys) al = (al.0, all_take m xs ys al.1)

same_length : (xs ys : List Column) → AllAlike xs ys → length xs ≡ length ys
same_length [] [] al = refl
same_length [] (y ∷ ys) al = absurd al
same_length (x ∷ xs) [] al = absurd al
same_length (x ∷ xs) (y ∷ ys) al = ap suc (same_length xs ys al.1)

pub alike_at : (xs ys : List Column) → AllAlike xs ys → (j : ℕ) → AreAlike (column_at xs j) (column_at ys j)
alike_at [] [] al j = alike_self (route [] 0)
alike_at [] (y ∷ ys) al j = absurd al
alike_at (x ∷ xs) [] al j = absurd al
alike_at (x ∷ xs) (y ∷ ys) al zero = al.0
alike_at (x ∷ xs) (y ∷ ys) al (suc j) = alike_at xs ys al.1 j

same_serves : (a b : Column) → AreAlike a b → serves a ≡ serves b
same_serves a b al = λ n c. al.serve c n

same_entry : (ms : List ℤ) (a b : Column) → AreAlike a b → entry ms a ≡ entry ms b
same_entry ms a b al = ap (λ (f : ℕ → Bool). total f ms) (same_serves a b al)

same_covering : (ks : List ℤ) (xs ys : List Column) → AllAlike xs ys → (c : ℕ) → covering ks xs c ≡ covering ks ys c
same_covering [] xs ys al c = refl
same_covering (k ∷ ks) [] [] al c = refl
same_covering (k ∷ ks) [] (y ∷ ys) al c = absurd al
same_covering (k ∷ ks) (x ∷ xs) [] al c = absurd al
same_covering (k ∷ ks) (x ∷ xs) (y ∷ ys) al c =
    ap (λ t. cond t k (pos 0) +ℤ covering ks xs c) (al.0.serve c) ∙ ap (λ z. cond (serves y c) k (pos 0) +ℤ z) (same_covering ks xs ys al.1 c)

module _ (n : ℕ) (xs ys : List Column) (al : AllAlike xs ys) where
  pub independent : AreIndependent n xs → AreIndependent n ys
  independent are ks long none j = are ks (long ∙ sym (same_length xs ys al)) (λ c less. same_covering ks xs ys al c ∙ none c less) j

  basis_too : IsBasis n xs → IsBasis n ys
  basis_too is = record { count = sym (same_length xs ys al) ∙ is.count; independent = independent is.independent }

  body_too : (i : ℕ) (ms : List ℤ) → IsBody n xs i ms → IsBody n ys i ms
  body_too i ms is = record {
    whole = is.whole;
    own = subst (λ z. pos 0 <ℤ z) (same_entry ms (column_at xs i) (column_at ys i) (alike_at xs ys al i)) is.own;
    others = λ j less apart. sym (same_entry ms (column_at xs j) (column_at ys j) (alike_at xs ys al j)) ∙ is.others j less apart;
    reduced = is.reduced;
  }

  pays_too : (worth : Column → ℤ) → ((a b : Column) → AreAlike a b → worth a ≡ worth b) → (w : ℤ) (numbers : List ℤ) → Pays worth n xs w numbers → Pays worth n ys w numbers
  pays_too worth same w numbers is = record {
    whole = is.whole;
    some = is.some;
    pays = λ j less. sym (same_entry numbers (column_at xs j) (column_at ys j) (alike_at xs ys al j)) ∙ is.pays j less ∙ ap (λ z. w *ℤ z) (same (column_at xs j) (column_at ys j) (alike_at xs ys al j));
  }

least_too : (n : ℕ) (xs ys : List Column) → AllAlike xs ys → (worth : Column → ℤ) → ((a b : Column) → AreAlike a b → worth a ≡ worth b) → (w : ℤ) (numbers : List ℤ) → PaysLeast worth n xs w numbers → PaysLeast worth n ys w numbers
least_too n xs ys al worth same w numbers is = record {
  list = pays_too n xs ys al worth same w numbers is.list;
  least = λ v others pays. is.least v others (pays_too n ys xs (all_back xs ys al) worth same v others pays);
}

same_cost : (a b : Column) → AreAlike a b → pos (cost_of a) ≡ pos (cost_of b)
same_cost a b al = ap pos al.cost

same_help : (a b : Column) → AreAlike a b → pos (help_of a) ≡ pos (help_of b)
same_help a b al = ap pos al.help

shares_too : (n : ℕ) (xs ys : List Column) → AllAlike xs ys → (W : ℕ) → MakesSharesWhole n xs W → MakesSharesWhole n ys W
shares_too n xs ys al W whole i ms less body =
    subst (λ z. unsigned_abs z ∣ (W * unsigned_abs (right_side ms))) (same_entry ms (column_at xs i) (column_at ys i) (alike_at xs ys al i))
    (whole i ms less (body_too n ys xs (all_back xs ys al) i ms body))

share_weight_too : (n : ℕ) (xs ys : List Column) → AllAlike xs ys → (W : ℕ) → IsShareWeight n xs W → IsShareWeight n ys W
share_weight_too n xs ys al W is = record {
  some = is.some;
  whole = shares_too n xs ys al W is.whole;
  least = λ V some whole. is.least V some (shares_too n ys xs (all_back xs ys al) V whole);
}

past_at_too : (cap : ℕ) (cs ds : List Column) → AllAlike cs ds → (f : Column → ℤ) → ((a b : Column) → AreAlike a b → f a ≡ f b) → IsPastAt cap cs f → IsPastAt cap ds f
past_at_too cap cs ds al f same is =
    (is.0, subst (λ k. is.0 < k) (same_length cs ds al) is.1, subst (λ z. cap < unsigned_abs z) (same (column_at cs is.0) (column_at ds is.0) (alike_at cs ds al is.0)) is.2)

module _ (n : ℕ) (cs ds xs ys : List Column) (columns_al : AllAlike cs ds) (al : AllAlike xs ys) where
  body_past_too : (cap : ℕ) → IsBodyPast cap n cs xs → IsBodyPast cap n ds ys
  body_past_too cap is = (is.0, is.1, is.2, body_too n xs ys al is.0 is.1 is.3, by is.4)
    where
      by : IsPastAt cap cs (entry is.1) ⊎ (cap < unsigned_abs (right_side is.1)) → IsPastAt cap ds (entry is.1) ⊎ (cap < unsigned_abs (right_side is.1))
      by (inl at) = inl (past_at_too cap cs ds columns_al (entry is.1) (same_entry is.1) at)
      by (inr side) = inr side

  price_past_too : (body cap : ℕ) → IsPriceListPast body cap n cs xs → IsPriceListPast body cap n ds ys
  price_past_too body cap is = (is.0, is.1, least_too n xs ys al (λ b. pos (cost_of b)) same_cost is.0 is.1 is.2, by is.3)
    where
      same_reduced : (a b : Column) → AreAlike a b → (is.0 *ℤ pos (cost_of a) -ℤ entry is.1 a) ≡ (is.0 *ℤ pos (cost_of b) -ℤ entry is.1 b)
      same_reduced a b alike = ap (λ k. is.0 *ℤ pos k -ℤ entry is.1 a) alike.cost ∙ ap (λ z. is.0 *ℤ pos (cost_of b) -ℤ z) (same_entry is.1 a b alike)

      by : IsPastAt cap cs (λ b. is.0 *ℤ pos (cost_of b) -ℤ entry is.1 b) ⊎ (cap < unsigned_abs (right_side is.1)) ⊎ (body < unsigned_abs is.0)
          → IsPastAt cap ds (λ b. is.0 *ℤ pos (cost_of b) -ℤ entry is.1 b) ⊎ (cap < unsigned_abs (right_side is.1)) ⊎ (body < unsigned_abs is.0)
      by (inl at) = inl (past_at_too cap cs ds columns_al (λ b. is.0 *ℤ pos (cost_of b) -ℤ entry is.1 b) same_reduced at)
      by (inr other) = inr other

  helper_past_too : (cap : ℕ) → IsHelperListPast cap n cs xs → IsHelperListPast cap n ds ys
  helper_past_too cap is = (is.0, is.1, least_too n xs ys al (λ b. pos (help_of b)) same_help is.0 is.1 is.2, by is.3)
    where
      by : IsPastAt cap cs (entry is.1) ⊎ (cap < unsigned_abs (right_side is.1)) ⊎ (cap < unsigned_abs is.0)
          → IsPastAt cap ds (entry is.1) ⊎ (cap < unsigned_abs (right_side is.1)) ⊎ (cap < unsigned_abs is.0)
      by (inl at) = inl (past_at_too cap cs ds columns_al (entry is.1) (same_entry is.1) at)
      by (inr other) = inr other

  past_too : (body cap : ℕ) → IsPast body cap n cs xs → IsPast body cap n ds ys
  past_too body cap is = record { is_basis = basis_too n xs ys al is.is_basis; past = by is.past }
    where
      by : IsBodyPast body n cs xs ⊎ IsPriceListPast body cap n cs xs ⊎ IsHelperListPast cap n cs xs ⊎ IsShareWeightPast body n xs
          → IsBodyPast body n ds ys ⊎ IsPriceListPast body cap n ds ys ⊎ IsHelperListPast cap n ds ys ⊎ IsShareWeightPast body n ys
      by (inl bodies) = inl (body_past_too body bodies)
      by (inr (inl prices)) = inr (inl (price_past_too body cap prices))
      by (inr (inr (inl numbers))) = inr (inr (inl (helper_past_too cap numbers)))
      by (inr (inr (inr weight))) = inr (inr (inr (weight.0, share_weight_too n xs ys al weight.0 weight.1, weight.2)))

with_helper : (c : ℕ) (xs ys : List Column) → AllAlike xs ys → AllAlike (xs ++ helper c ∷ []) (ys ++ helper c ∷ [])
with_helper c xs ys al = all_append xs ys (helper c ∷ []) (helper c ∷ []) al (alike_self (helper c), tt)

dependent : (n c : ℕ) (xs ys : List Column) → AllAlike xs ys → (AreIndependent n (xs ++ helper c ∷ []) → ⊥) → AreIndependent n (ys ++ helper c ∷ []) → ⊥
dependent n c xs ys al none are = none (independent n (ys ++ helper c ∷ []) (xs ++ helper c ∷ []) (all_back (xs ++ helper c ∷ []) (ys ++ helper c ∷ []) (with_helper c xs ys al)) are)

follow_too : (n more c : ℕ) (xs ys : List Column) (customers : List ℕ) → AllAlike xs ys → Follow n more c xs customers → Follow n more c ys customers
follow_too n zero c xs ys [] al is = is
follow_too n zero c xs ys (x ∷ customers) al is = is
follow_too n (suc more) c xs ys [] al is = (dependent n c xs ys al is.0, follow_too n more (suc c) xs ys [] al is.1)
follow_too n (suc more) c xs ys (x ∷ customers) al (inl here) =
    inl (
      here.0,
      independent n (xs ++ helper c ∷ []) (ys ++ helper c ∷ []) (with_helper c xs ys al) here.1,
      follow_too n more (suc c) (xs ++ helper c ∷ []) (ys ++ helper c ∷ []) customers (with_helper c xs ys al) here.2,
    )
follow_too n (suc more) c xs ys (x ∷ customers) al (inr later) =
    inr (dependent n c xs ys al later.0, follow_too n more (suc c) xs ys (x ∷ customers) al later.1)

-- a basis of columns alike is too wide
pub too_wide : (n : ℕ) (cs ds xs ys : List Column) → AllAlike cs ds → AllAlike xs ys → IsTooWide n cs xs → IsTooWide n ds ys
too_wide n cs ds xs ys columns_al al is =
    let first = all_take is.m xs ys al in
    let rest = map helper is.customers in
    record {
      m = is.m;
      some = subst (λ k. is.m ≤ k) (same_length xs ys al) is.some;
      independent = independent n (take is.m xs) (take is.m ys) first is.independent;
      customers = is.customers;
      follow = follow_too n n 0 (take is.m xs) (take is.m ys) is.customers first is.follow;
      past = past_too n (helpers n ++ cs) (helpers n ++ ds) (take is.m xs ++ rest) (take is.m ys ++ rest)
          (all_append (helpers n) (helpers n) cs ds (all_self (helpers n)) columns_al)
          (all_append (take is.m xs) (take is.m ys) rest rest first (all_self rest)) (2 ^ 40) (2 ^ 84) is.past;
    }
