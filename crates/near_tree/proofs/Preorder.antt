-- Nodes in preorder are those of one tree at most.
use Rattle.std.proofs.Common.{◌≡◌, ◌∙◌, List, [], ◌++◌, sym, ap, append_assoc}
use Rattle.near_tree.specs.Preorder.{IsTreeOf, Node, nodes_of}
use Rattle.near_tree.specs.Trees.{entries, leaf, NearTree, split}
use Rattle.near_tree.specs.declared.proof.TreeNode.{TreeNode}

-- two trees whose nodes begin the same list, and what follows them
record AreOne (t u : NearTree) (xs ys : List Node) : Type 0 where
  tree : t ≡ u
  rest : xs ≡ ys

begin_one : (t u : NearTree) (xs ys : List Node) → nodes_of t ++ xs ≡ nodes_of u ++ ys → AreOne t u xs ys
begin_one (leaf s) (leaf r) xs ys same = record { tree = cc; rest = cc }
begin_one (leaf s) (split i j c d) xs ys same = absurd cc
begin_one (leaf s) (entries k set c d) xs ys same = absurd cc
begin_one (split i j a b) (leaf r) xs ys same = absurd cc
begin_one (split i j a b) (split m n c d) xs ys same =
    let i_is : i ≡ m = cc in
    let j_is : j ≡ n = cc in
    let tails : (nodes_of a ++ nodes_of b) ++ xs ≡ (nodes_of c ++ nodes_of d) ++ ys = cc in
    let parts : nodes_of a ++ (nodes_of b ++ xs) ≡ nodes_of c ++ (nodes_of d ++ ys) = simp append_assoc at tails in
    let first = begin_one a c (nodes_of b ++ xs) (nodes_of d ++ ys) parts in
    let second = begin_one b d xs ys first.rest in
    let a_is : a ≡ c = first.tree in
    let b_is : b ≡ d = second.tree in
    record { tree = cc; rest = second.rest }
begin_one (split i j a b) (entries k set c d) xs ys same = absurd cc
begin_one (entries k set a b) (leaf r) xs ys same = absurd cc
begin_one (entries k set a b) (split m n c d) xs ys same = absurd cc
begin_one (entries k set a b) (entries n other c d) xs ys same =
    let k_is : k ≡ n = cc in
    let set_is : set ≡ other = cc in
    let tails : (nodes_of a ++ nodes_of b) ++ xs ≡ (nodes_of c ++ nodes_of d) ++ ys = cc in
    let parts : nodes_of a ++ (nodes_of b ++ xs) ≡ nodes_of c ++ (nodes_of d ++ ys) = simp append_assoc at tails in
    let first = begin_one a c (nodes_of b ++ xs) (nodes_of d ++ ys) parts in
    let second = begin_one b d xs ys first.rest in
    let a_is : a ≡ c = first.tree in
    let b_is : b ≡ d = second.tree in
    record { tree = cc; rest = second.rest }

pub same_nodes : (t u : NearTree) → nodes_of t ≡ nodes_of u → t ≡ u
same_nodes t u same = (begin_one t u [] [] (ap (λ xs. xs ++ []) same)).tree

pub one_tree : (nodes : List TreeNode) (t u : NearTree) → IsTreeOf nodes t → IsTreeOf nodes u → t ≡ u
one_tree nodes t u one other = same_nodes t u (sym one ∙ other)
