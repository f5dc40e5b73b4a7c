-- What is left of a search falls where a node is split or closed.
use Rattle.std.proofs.Common.{◌≡◌, ◌≢◌, ◌∙◌, ℕ, zero, suc, ◌+◌, ◌*◌, ◌^◌, ◌<◌, ◌≤◌, true, List, [], ◌∷◌, set, refl, sym, ap, subst, arith, Option, Some, None}
use Rattle.std.specs.List.{sum_by}
use Rattle.std.proofs.Math.Nat.{one-le-pow, pow-le-pow_right, pow-suc}
use Rattle.std.proofs.lemmas.List.Sums.{sum_by-cons, sum_by-set}
use Rattle.std.proofs.lemmas.Option.{none-some}
use Rattle.branching.specs.Nodes.{awaits, IsOpen, IsTaken, lives, node_at}
use Rattle.branching.specs.Work.{allowed_pairs, node_work, work_at, work_left}
use Rattle.branching.specs.declared.node.Node.{Node}
use Rattle.branching.specs.declared.node.NodeState.{NodeState}
use Rattle.branching.specs.declared.node.NodeState.TheVariants.{Open, Taken, Closed}
use Rattle.branching.proofs.Elements.{node_within}

two_powers : (a b c : ℕ) → a < c → b < c → 3 ^ a + 3 ^ b < 3 ^ c
two_powers a b zero la lb = absurd (omega (arith, la))
two_powers a b (suc c) la lb =
    let some : 0 < 3 = omega arith in
    let first : 3 ^ a ≤ 3 ^ c = pow-le-pow_right some (omega (arith, la)) in
    let second : 3 ^ b ≤ 3 ^ c = pow-le-pow_right some (omega (arith, lb)) in
    let one : 1 ≤ 3 ^ c = one-le-pow c 3 some in
    let next : 3 ^ suc c ≡ 3 ^ c * 3 = pow-suc 3 c in
    omega (arith, first, second, one, next)

live_work : (node : Node) → lives node.state ≡ true → node_work node ≡ 3 ^ allowed_pairs node.pairs
unfolding node_work
live_work node is = rw is refl

taken_lives : (node : Node) → IsTaken node → lives node.state ≡ true
taken_lives node is = rw is refl

new_lives : (node : Node) → node.state ≡ Open → lives node.state ≡ true
new_lives node is = rw is refl

waiting_lives : (state : NodeState) → awaits state ≡ true → lives state ≡ true
waiting_lives Open is = refl
waiting_lives Taken is = refl
waiting_lives Closed is = is

pub open_lives : (node : Node) → IsOpen node → lives node.state ≡ true
open_lives node is = waiting_lives node.state is

pub work-set : (nodes : List (Option Node)) (key : ℕ) (old new : Node) → node_at nodes key ≡ Some old → work_left (set nodes key (Some new)) + node_work old ≡ work_left nodes + node_work new
unfolding work_left
work-set nodes key old new here =
    let sum = sum_by-set work_at nodes key (Some new) None (node_within nodes key old here) in
    subst (λ o. sum_by work_at (set nodes key (Some new)) + work_at o ≡ sum_by work_at nodes + node_work new) here sum

-- lists that have the same at each key leave the same work
same_work : (xs ys : List (Option Node)) → ((k : ℕ) → node_at ys k ≡ node_at xs k) → sum_by work_at ys ≡ sum_by work_at xs
same_work [] [] same = refl
same_work [] (y ∷ ys) same =
    let none : work_at y ≡ 0 = ap work_at (same 0) in
    let rest = same_work [] ys (λ k. same (suc k)) in
    let sum = sum_by-cons work_at y ys in
    omega (arith, none, rest, sum)
same_work (x ∷ xs) [] same =
    let none : work_at x ≡ 0 = ap work_at (sym (same 0)) in
    let rest = same_work xs [] (λ k. same (suc k)) in
    let sum = sum_by-cons work_at x xs in
    omega (arith, none, rest, sum)
same_work (x ∷ xs) (y ∷ ys) same =
    let head : work_at y ≡ work_at x = ap work_at (same 0) in
    let rest = same_work xs ys (λ k. same (suc k)) in
    let one = sum_by-cons work_at x xs in
    let two = sum_by-cons work_at y ys in
    omega (arith, head, rest, one, two)

more_work : (xs ys : List (Option Node)) (key : ℕ) (node : Node) → node_at xs key ≡ None → node_at ys key ≡ Some node → ((k : ℕ) → k ≢ key → node_at ys k ≡ node_at xs k)
    → sum_by work_at ys ≡ sum_by work_at xs + node_work node
more_work xs [] key node free there others = absurd (none-some node there)
more_work [] (y ∷ ys) zero node free there others =
    let is : work_at y ≡ node_work node = ap work_at there in
    let rest = same_work [] ys (λ k. others (suc k) (λ e. omega (arith, e))) in
    let sum = sum_by-cons work_at y ys in
    omega (arith, is, rest, sum)
more_work (x ∷ xs) (y ∷ ys) zero node free there others =
    let is : work_at y ≡ node_work node = ap work_at there in
    let none : work_at x ≡ 0 = ap work_at free in
    let rest = same_work xs ys (λ k. others (suc k) (λ e. omega (arith, e))) in
    let one = sum_by-cons work_at x xs in
    let two = sum_by-cons work_at y ys in
    omega (arith, is, none, rest, one, two)
more_work [] (y ∷ ys) (suc key) node free there others =
    let none : work_at y ≡ 0 = ap work_at (others 0 (λ e. omega (arith, e))) in
    let rest = more_work [] ys key node free there (λ k apart. others (suc k) (λ e. apart (omega (arith, e)))) in
    let sum = sum_by-cons work_at y ys in
    omega (arith, none, rest, sum)
more_work (x ∷ xs) (y ∷ ys) (suc key) node free there others =
    let head : work_at y ≡ work_at x = ap work_at (others 0 (λ e. omega (arith, e))) in
    let rest = more_work xs ys key node free there (λ k apart. others (suc k) (λ e. apart (omega (arith, e)))) in
    let one = sum_by-cons work_at x xs in
    let two = sum_by-cons work_at y ys in
    omega (arith, head, rest, one, two)

pub work-added : (nodes changed : List (Option Node)) (key : ℕ) (node : Node) → node_at nodes key ≡ None → node_at changed key ≡ Some node
    → ((k : ℕ) → k ≢ key → node_at changed k ≡ node_at nodes k) → work_left changed ≡ work_left nodes + node_work node
unfolding work_left
work-added nodes changed key node free there others = more_work nodes changed key node free there others

some_work : (node : Node) → lives node.state ≡ true → 0 < node_work node
some_work node is =
    let one : 1 ≤ 3 ^ allowed_pairs node.pairs = one-le-pow (allowed_pairs node.pairs) 3 (omega arith) in
    omega (arith, one, live_work node is)

no_work : (node : Node) → node.state ≡ Closed → node_work node ≡ 0
unfolding node_work
no_work node is = rw is refl

pub work_closes : (nodes : List (Option Node)) (key : ℕ) (old new : Node) → node_at nodes key ≡ Some old → IsTaken old → new.state ≡ Closed → work_left (set nodes key (Some new)) < work_left nodes
work_closes nodes key old new here taken closed =
    omega (arith, work-set nodes key old new here, some_work old (taken_lives old taken), no_work new closed)

pub work_stays : (nodes : List (Option Node)) (key : ℕ) (old new : Node) → node_at nodes key ≡ Some old → lives old.state ≡ true → lives new.state ≡ true → new.pairs ≡ old.pairs
    → work_left (set nodes key (Some new)) ≡ work_left nodes
work_stays nodes key old new here was is same =
    let equal : node_work new ≡ node_work old = live_work new is ∙ ap (λ p. 3 ^ allowed_pairs p) same ∙ sym (live_work old was) in
    omega (arith, work-set nodes key old new here, equal)

-- the second child is added, and then the first takes the place of the node
pub work_splits : (nodes added : List (Option Node)) (key other : ℕ) (old one two : Node) → node_at nodes key ≡ Some old → node_at nodes other ≡ None → node_at added other ≡ Some two
    → ((k : ℕ) → k ≢ other → node_at added k ≡ node_at nodes k) → node_at added key ≡ Some old → IsTaken old → one.state ≡ Open → two.state ≡ Open
    → allowed_pairs one.pairs < allowed_pairs old.pairs → allowed_pairs two.pairs < allowed_pairs old.pairs → work_left (set added key (Some one)) < work_left nodes
work_splits nodes added key other old one two here free there others still taken first second less_one less_two =
    let before = live_work old (taken_lives old taken) in
    let left = live_work one (new_lives one first) in
    let right = live_work two (new_lives two second) in
    let powers = two_powers (allowed_pairs one.pairs) (allowed_pairs two.pairs) (allowed_pairs old.pairs) less_one less_two in
    omega (arith, work-set added key old one still, work-added nodes added other two free there others, before, left, right, powers)
