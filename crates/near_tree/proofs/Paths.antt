-- Going down a tree and on to its next tree.
use Rattle.std.proofs.Common.{◌≡◌, ◌≢◌, ◌∙◌, ℕ, zero, suc, Bool, true, false, not, ◌&&◌, ◌||◌, List, [], ◌∷◌, ◌++◌, refl, sym, ap, subst, arith, inl, inr, nat_eq, nat_lt}
use Rattle.std.specs.Prelude.{if◌then◌else◌}
use Rattle.std.proofs.Math.Bool.{and_assoc}
use Rattle.std.proofs.lemmas.Bool.{and_from, and_parts, cases_eq, eq-eqb, false≢true, ne_eqb}
use Rattle.ev_model.specs.Network.{Network}
use Rattle.near_tree.specs.Branches.{Branch, whole}
use Rattle.near_tree.specs.Follows.{MayFollow}
use Rattle.near_tree.specs.Lasts.{last_at, may_by}
use Rattle.near_tree.specs.Paths.{branch_along, branch_at, GoesOn, IsPath, IsPathFrom, IsTurnAt, open_along, open_behind, permits_all, permits_at, trees_at, turn_node, turned}
use Rattle.near_tree.specs.Preorder.{at_entries, at_leaf, at_split, Node}
use Rattle.near_tree.specs.Sections.{after, anybody}
use Rattle.near_tree.specs.declared.path.Turn.{Turn}

branch_snoc : (b : Branch) (ts : List Turn) (t : Turn) → branch_along b (ts ++ t ∷ []) ≡ turned (turn_node t) t.second (branch_along b ts)
branch_snoc b [] t = refl
branch_snoc b (u ∷ ts) t = branch_snoc (turned (turn_node u) u.second b) ts t

open_snoc : (trees : List Branch) (b : Branch) (ts : List Turn) (t : Turn) → open_along trees b (ts ++ t ∷ []) ≡ (if t.second then open_along trees b ts else turned (turn_node t) true (branch_along b ts) ∷ open_along trees b ts)
open_snoc trees b [] t = refl
open_snoc trees b (u ∷ ts) t = open_snoc (if u.second then trees else turned (turn_node u) true b ∷ trees) (turned (turn_node u) u.second b) ts t

path_snoc : (g : Network) (b : Branch) (ts : List Turn) (t : Turn) → IsPathFrom g b ts → IsTurnAt g (branch_along b ts) (turn_node t) → IsPathFrom g b (ts ++ t ∷ [])
path_snoc g b [] t path turn = (turn, tt)
path_snoc g b (u ∷ ts) t path turn = (path.0, path_snoc g (turned (turn_node u) u.second b) ts t path.1 turn)

path_init : (g : Network) (b : Branch) (ts : List Turn) (t : Turn) → IsPathFrom g b (ts ++ t ∷ []) → IsPathFrom g b ts × IsTurnAt g (branch_along b ts) (turn_node t)
path_init g b [] t path = (tt, path.0)
path_init g b (u ∷ ts) t path =
    let rest = path_init g (turned (turn_node u) u.second b) ts t path.1 in
    ((path.0, rest.0), rest.1)

pub path_more : (g : Network) (path more : List Turn) (t : Turn) → more ≡ path ++ t ∷ [] → IsPath g path → IsTurnAt g (branch_at path) (turn_node t) → IsPath g more
path_more g path more t is before turn = subst (IsPath g) (sym is) (path_snoc g whole path t before turn)

-- into the first tree below a node
pub trees_first : (path more : List Turn) (t : Turn) → more ≡ path ++ t ∷ [] → t.second ≡ false → trees_at more ≡ turned (turn_node t) false (branch_at path) ∷ turned (turn_node t) true (branch_at path) ∷ open_behind path
trees_first path more t is first =
    let here = branch_snoc whole path t in
    let behind = open_snoc [] whole path t in
    ap trees_at is ∙ ap (λ b. b ∷ open_behind (path ++ t ∷ [])) (here ∙ ap (λ s. turned (turn_node t) s (branch_at path)) first)
    ∙ ap (λ bs. turned (turn_node t) false (branch_at path) ∷ bs) (behind ∙ ap (λ (s : Bool). if s then open_behind path else turned (turn_node t) true (branch_at path) ∷ open_behind path) first)

-- what is left of a way has the same trees beside it
pub record IsShorter (initial now : List Turn) : Type 0 where
  pub trees : open_behind now ≡ open_behind initial
  pub path : (g : Network) → IsPath g initial → IsPath g now

pub same_way : (path : List Turn) → IsShorter path path
same_way path = record { trees = refl; path = λ g is. is }

module _ (initial now rest : List Turn) (t : Turn) (is : now ≡ rest ++ t ∷ []) (before : IsShorter initial now) where
  beside : (second : Bool) → t.second ≡ second → open_behind initial ≡ (if second then open_behind rest else turned (turn_node t) true (branch_at rest) ∷ open_behind rest)
  beside second side =
      sym before.trees ∙ ap open_behind is ∙ open_snoc [] whole rest t
      ∙ ap (λ (s : Bool). if s then open_behind rest else turned (turn_node t) true (branch_at rest) ∷ open_behind rest) side

  parts : (g : Network) → IsPath g initial → IsPath g rest × IsTurnAt g (branch_at rest) (turn_node t)
  parts g path = path_init g whole rest t (subst (IsPath g) is (before.path g path))

  pub shorter : t.second ≡ true → IsShorter initial rest
  shorter side = record { trees = sym (beside true side); path = λ g path. (parts g path).0 }

  pub second_next : t.second ≡ false → (u : Turn) (more : List Turn) → more ≡ rest ++ u ∷ [] → turn_node u ≡ turn_node t → u.second ≡ true → GoesOn initial more true
  second_next side u more made node second =
      let here : branch_at (rest ++ u ∷ []) ≡ turned (turn_node t) true (branch_at rest) = branch_snoc whole rest u ∙ ap (λ n. turned n u.second (branch_at rest)) node ∙ ap (λ s. turned (turn_node t) s (branch_at rest)) second in
      let behind : open_behind (rest ++ u ∷ []) ≡ open_behind rest = open_snoc [] whole rest u ∙ ap (λ (s : Bool). if s then open_behind rest else turned (turn_node u) true (branch_at rest) ∷ open_behind rest) second in
      let trees : trees_at more ≡ turned (turn_node t) true (branch_at rest) ∷ open_behind rest = ap trees_at made ∙ ap (λ b. b ∷ open_behind (rest ++ u ∷ [])) here ∙ ap (λ bs. turned (turn_node t) true (branch_at rest) ∷ bs) behind in (
        beside false side ∙ sym trees,
        λ g path. (let both = parts g path in path_more g rest more u made both.0 (subst (IsTurnAt g (branch_at rest)) (sym node) both.1)),
      )

pub no_more : (initial now : List Turn) → now ≡ [] → IsShorter initial now → open_behind initial ≡ []
no_more initial now none before = sym before.trees ∙ ap open_behind none

-- ---- who may come next

and_one : (b : Bool) → b ≡ (b && true)
and_one true = refl
and_one false = refl

turned_allows : (n : Node) (second : Bool) (b : Branch) (x y : ℕ) → (turned n second b).allows x y ≡ (b.allows x y && permits_at n second x y)
turned_allows (at_leaf s) second b x y = and_one (b.allows x y)
turned_allows (at_split i j) true b x y = refl
turned_allows (at_split i j) false b x y = refl
turned_allows (at_entries k set) true b x y = and_one (b.allows x y)
turned_allows (at_entries k set) false b x y = and_one (b.allows x y)

allows_along : (b : Branch) (ts : List Turn) (x y : ℕ) → (branch_along b ts).allows x y ≡ (b.allows x y && permits_all ts x y)
allows_along b [] x y = and_one (b.allows x y)
allows_along b (t ∷ ts) x y =
    allows_along (turned (turn_node t) t.second b) ts x y
    ∙ ap (λ p. p && permits_all ts x y) (turned_allows (turn_node t) t.second b x y)
    ∙ and_assoc (b.allows x y) (permits_at (turn_node t) t.second x y) (permits_all ts x y)

pub allows_at : (path : List Turn) (x y : ℕ) → (branch_at path).allows x y ≡ permits_all path x y
allows_at path x y = allows_along whole path x y

not_both : (a b : ℕ) → not (nat_eq a 0 && nat_eq b 0) ≡ true → a ≡ 0 → b ≢ 0
not_both zero zero is p q = false≢true is
not_both zero (suc b) is p q = omega (arith, q)
not_both (suc a) b is p q = omega (arith, p)

both_not : (a b : ℕ) → (a ≡ 0 → b ≢ 0) → not (nat_eq a 0 && nat_eq b 0) ≡ true
both_not a b none = elim (cases_eq a 0) [
  | inl same ↦ ap (λ p. not (p && nat_eq b 0)) (eq-eqb a 0 same) ∙ ap (λ q. not (true && q)) (ne_eqb b 0 (none same))
  | inr apart ↦ ap (λ p. not (p && nat_eq b 0)) (ne_eqb a 0 apart)
]

module _ (n : ℕ) (path : List Turn) (last next : ℕ) where
  to_follow : (past : Bool) → (past || (not (nat_eq last 0 && nat_eq next 0) && permits_all path last next)) ≡ true → MayFollow (branch_at path) (if past then anybody else after last) next
  to_follow true is = tt
  to_follow false is =
      let both = and_parts (not (nat_eq last 0 && nat_eq next 0)) (permits_all path last next) is in
      (allows_at path last next ∙ both.1, not_both last next both.0)

  of_follow : (past : Bool) → MayFollow (branch_at path) (if past then anybody else after last) next → (past || (not (nat_eq last 0 && nat_eq next 0) && permits_all path last next)) ≡ true
  of_follow true may = refl
  of_follow false may = and_from (not (nat_eq last 0 && nat_eq next 0)) (permits_all path last next) (both_not last next may.1) (sym (allows_at path last next) ∙ may.0)

  pub may_follow : may_by n path last next ≡ true → MayFollow (branch_at path) (last_at n last) next
  may_follow is = to_follow (nat_lt n last) is

  pub follows_may : MayFollow (branch_at path) (last_at n last) next → may_by n path last next ≡ true
  follows_may may = of_follow (nat_lt n last) may
