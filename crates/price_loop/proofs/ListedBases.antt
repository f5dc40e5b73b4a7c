-- A basis that is past the caps, however the sets of the routes' columns are written, is a listed basis that is too wide.
use Rattle.std.proofs.Common.{◌≡◌, ◌∙◌, ℕ, zero, suc, ◌<◌, ◌^◌, arith, sym, ap, subst, List, [], ◌∷◌, ◌++◌, append-nil, map, length, take}
use Rattle.std.specs.List.{All}
use Rattle.std.proofs.lemmas.List.{length-map, take_all}
use Rattle.fleet_model.specs.Basis.{AreIndependent}
use Rattle.fleet_model.specs.Equations.{Column, column_at, helpers, route}
use Rattle.fleet_model.specs.Wide.{IsPast, IsTooWide}
use Rattle.master_table.specs.Tableau.{Limits}
use Rattle.price_loop.specs.Masters.{IsPastBasis, IsTooWideAt}
use Rattle.price_loop.proofs.Alike.{alike_same, AreAlike, IsAlike, past_alike}
use Rattle.price_loop.proofs.Dependent.{none_follow}

count_behind : (hs xs ys : List Column) → length xs ≡ length ys → length (hs ++ xs) ≡ length (hs ++ ys)
count_behind [] xs ys e = e
count_behind (b ∷ hs) xs ys e = ap suc (count_behind hs xs ys e)

each_behind : (hs xs ys : List Column) → ((j : ℕ) → IsAlike (column_at xs j) (column_at ys j)) → (j : ℕ) → IsAlike (column_at (hs ++ xs) j) (column_at (hs ++ ys) j)
each_behind [] xs ys each j = each j
each_behind (b ∷ hs) xs ys each zero = alike_same b
each_behind (b ∷ hs) xs ys each (suc j) = each_behind hs xs ys each j

chosen_alike : (xs ys : List Column) → ((j : ℕ) → IsAlike (column_at xs j) (column_at ys j)) → (basis : List ℕ) (i : ℕ) → IsAlike (column_at (map (column_at xs) basis) i) (column_at (map (column_at ys) basis) i)
chosen_alike xs ys each [] i = alike_same (route [] 0)
chosen_alike xs ys each (j ∷ basis) zero = each j
chosen_alike xs ys each (j ∷ basis) (suc i) = chosen_alike xs ys each basis i

-- other columns that say the same of each route
module _ (n : ℕ) (caps : Limits) (routes listed : List Column) (alike : AreAlike routes listed) (basis : List ℕ) where
  columns_alike : AreAlike (helpers n ++ routes) (helpers n ++ listed)
  columns_alike = record {
    count = count_behind (helpers n) routes listed alike.count;
    each = each_behind (helpers n) routes listed alike.each;
  }

  basis_alike : AreAlike (map (column_at (helpers n ++ routes)) basis) (map (column_at (helpers n ++ listed)) basis)
  basis_alike = record {
    count = length-map basis (column_at (helpers n ++ routes)) ∙ sym (length-map basis (column_at (helpers n ++ listed)));
    each = chosen_alike (helpers n ++ routes) (helpers n ++ listed) columns_alike.each basis;
  }

  pub listed_past : IsPastBasis n caps (helpers n ++ routes) basis → IsPastBasis n caps (helpers n ++ listed) basis
  listed_past is = record {
    past = past_alike caps.body caps.cost n (helpers n ++ routes) (helpers n ++ listed) columns_alike
        (map (column_at (helpers n ++ routes)) basis) (map (column_at (helpers n ++ listed)) basis) basis_alike is.past;
    placed = subst (λ (m : ℕ). All (λ (j : ℕ). j < m) basis) columns_alike.count is.placed;
    apart = is.apart;
  }

-- a basis past caps is too wide for them
pub too_wide_at : (body cost n : ℕ) (routes entries : List Column) → IsPast body cost n (helpers n ++ routes) entries → IsTooWideAt body cost n routes entries
too_wide_at body cost n routes entries is =
    let count = is.is_basis.count in
    let all : take n entries ≡ entries = take_all n entries (omega (arith, count)) in
    record {
      m = n;
      some = omega (arith, count);
      independent = subst (λ bs. AreIndependent n bs) (sym all) is.is_basis.independent;
      customers = [];
      follow = none_follow n n 0 (take n entries) (ap length all ∙ count);
      past = subst (λ bs. IsPast body cost n (helpers n ++ routes) bs) (sym (ap (λ bs. bs ++ []) all ∙ append-nil entries)) is;
    }

-- the caps of certificates
pub at_certificate_caps : (n : ℕ) (routes entries : List Column) → IsTooWideAt (2 ^ 40) (2 ^ 84) n routes entries → IsTooWide n routes entries
at_certificate_caps n routes entries is = record {
  m = is.m;
  some = is.some;
  independent = is.independent;
  customers = is.customers;
  follow = is.follow;
  past = is.past;
}

pub too_wide : (n : ℕ) (routes entries : List Column) → IsPast (2 ^ 40) (2 ^ 84) n (helpers n ++ routes) entries → IsTooWide n routes entries
too_wide n routes entries is = at_certificate_caps n routes entries (too_wide_at (2 ^ 40) (2 ^ 84) n routes entries is)
