-- How the master problem is filled.
use Rattle.std.proofs.Common.{◌≡◌, ◌∙◌, ℕ, ◌≤◌, ◌^◌, arith, sym, ap, subst, List, [], ◌∷◌, ◌++◌, append-nil, append_assoc, map, length, inl, inr, ℤ, unsigned_abs}
use Rattle.std.specs.List.{All}
use Rattle.std.proofs.lemmas.List.{map-append}
use Rattle.std.proofs.lemmas.List.Elements.{All-nil, All-push, All-weaker}
use Rattle.std.proofs.lemmas.List.FromFn.{length-range_with_len}
use Rattle.fleet_model.specs.Equations.{Column, helpers, route}
use Rattle.master_simplex.specs.Answer.{IsAnswer, IsLpWithin}
use Rattle.master_simplex.specs.Phase.{IsReached}
use Rattle.master_simplex.specs.declared.prices.Lp.{Lp}
use Rattle.master_table.specs.Adding.{with_column}
use Rattle.master_table.specs.Fresh.{fresh}
use Rattle.master_table.specs.Tableau.{Limits, size, Tableau}
use Rattle.price_loop.specs.Columns.{set_of}
use Rattle.price_loop.specs.Masters.{columns_of, IsMaster}
use Rattle.price_loop.specs.Problems.{column_of, Problem}
use Rattle.price_loop.specs.declared.master.Master.{Master}

module _ {R C : Type 0} (q : Problem R C) (caps : Limits) where
  -- a table without a route
  pub fresh_master : (n : ℕ) (m : Master R) → n ≡ q.customers → m.table ≡ fresh n caps → m.routes.items ≡ [] → caps.body ≤ 2 ^ 40 → caps.cost ≤ 2 ^ 84 → IsMaster q caps m
  fresh_master n m same table none body cost = record {
    count = ap size table ∙ length-range_with_len 0 n ∙ same;
    columns_are =
        ap (λ (t : Tableau). t.columns) table ∙ ap helpers same
        ∙ sym (append-nil (helpers q.customers))
        ∙ ap (λ (rs : List R). columns_of q rs) (sym none);
    caps_are = ap (λ (t : Tableau). t.caps) table;
    routes_are = subst (λ (rs : List R). All q.is_route rs) (sym none) (All-nil q.is_route);
    body = body;
    cost = cost;
  }

  -- another basis of the table
  pub reached_master : (old new : Master R) → IsMaster q caps old → IsReached old.table new.table → new.routes.items ≡ old.routes.items → IsMaster q caps new
  reached_master old new is reached same = record {
    count = reached.same_size ∙ is.count;
    columns_are = reached.columns ∙ is.columns_are ∙ ap (λ (rs : List R). columns_of q rs) (sym same);
    caps_are = reached.caps ∙ is.caps_are;
    routes_are = subst (λ (rs : List R). All q.is_route rs) (sym same) is.routes_are;
    body = is.body;
    cost = is.cost;
  }

  -- one route more
  pub added_master : (old new : Master R) (r : R) (b : Column) → IsMaster q caps old → q.is_route r → b ≡ column_of q r → new.table ≡ with_column b old.table → new.routes.items ≡ old.routes.items ++ r ∷ [] → IsMaster q caps new
  added_master old new r b is route_is same table pushed =
      let hs = helpers q.customers in
      let rs = old.routes.items in
      record {
        count = ap size table ∙ is.count;
        columns_are =
            ap (λ (t : Tableau). t.columns) table
            ∙ ap (λ (bs : List Column). bs ++ b ∷ []) is.columns_are
            ∙ ap (λ (x : Column). (hs ++ map (column_of q) rs) ++ x ∷ []) same
            ∙ append_assoc hs (map (column_of q) rs) (column_of q r ∷ [])
            ∙ ap (λ (bs : List Column). hs ++ bs) (sym (map-append (column_of q) rs (r ∷ [])))
            ∙ ap (λ (xs : List R). columns_of q xs) (sym pushed);
        caps_are = ap (λ (t : Tableau). t.caps) table ∙ is.caps_are;
        routes_are = subst (λ (xs : List R). All q.is_route xs) (sym pushed) (All-push q.is_route rs r is.routes_are route_is);
        body = is.body;
        cost = is.cost;
      }

  pub made_column : (r : R) (set : List ℕ) (cost : ℕ) → set ≡ set_of [] (q.served r) → cost ≡ q.cost r → route set cost ≡ column_of q r
  made_column r set cost is costs = ap (λ (s : List ℕ). route s cost) is ∙ ap (λ (k : ℕ). route (set_of [] (q.served r)) k) costs

-- ---- the prices of an answer
pub prices_whole : (t : Tableau) (lp : Lp) (n : ℕ) → IsAnswer t lp → size t ≡ n → length lp.prices.items ≡ n
prices_whole t lp n answer same = elim answer [ inl optimum ↦ optimum.priced.whole ∙ same | inr ray ↦ ray.priced.whole ∙ same ]

pub small_weight : (t : Tableau) (lp : Lp) → IsLpWithin t lp → t.caps.body ≤ 2 ^ 40 → lp.weight ≤ 2 ^ 40
small_weight t lp within small = let weight = within.weight in omega (arith, weight, small)

pub small_prices : (t : Tableau) (lp : Lp) → IsLpWithin t lp → t.caps.cost ≤ 2 ^ 84 → All (λ z. unsigned_abs z ≤ 2 ^ 84) lp.prices.items
small_prices t lp within small = All-weaker (λ (z : ℤ). unsigned_abs z ≤ t.caps.cost) (λ z. unsigned_abs z ≤ 2 ^ 84) (λ z le. omega (arith, le, small)) lp.prices.items within.prices
