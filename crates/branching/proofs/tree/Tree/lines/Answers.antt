use Rattle.std.proofs.Common.{◌≡◌, ◌∙◌, map, sym, ap, subst}
use Rattle.std.specs.List.{All}
use Rattle.std.proofs.lemmas.Result.{IfOk-weaker}
use Rattle.bound_certificate.specs.Meaning.{IsTreeOf}
use Rattle.bound_certificate.specs.Trees.{lines_of}
use Rattle.branching.specs.SearchTree.{SearchTree, sections_named}
use Rattle.branching.specs.Shape.{named_line, NamesNode, tree_of}
use Rattle.branching.specs.Stored.{search_tree_of}
use Rattle.branching.proofs.Shapes.{named-lines}
use Rattle.branching.proofs.Stored.{names_nodes}
use Rattle.branching.proofs.tree.Tree.lines.Goals as goal

pub named_lines-requires : goal.named_lines-requires
named_lines-requires c =
    let t : SearchTree = search_tree_of c.self.inside in
    let all = names_nodes t c.self.inside.shape.items c.self.invariant.sound c.self.invariant.whole in
    subst (All (NamesNode t.nodes)) (sym c.as_slice.ensures.value) all

pub returns-clause-lines : goal.returns-clause-lines
returns-clause-lines c =
    let nodes = c.self.inside.nodes.slots in
    let tree = tree_of c.self.inside.shape.items in
    let lines = ap (map (named_line nodes)) (c.as_slice.ensures.value ∙ c.self.invariant.whole) in
    let named = ap (λ (p : SearchTree). lines_of (sections_named p.nodes p.tree)) c.self.view_is in
    IfOk-weaker c.named_lines.result (λ lines. lines.items ≡ map (named_line nodes) c.as_slice.result.now) (λ lines. IsTreeOf lines.items (sections_named c.args.self.now.nodes c.args.self.now.tree))
    (λ _ is. is ∙ lines ∙ named-lines nodes tree ∙ named) c.named_lines.ensures
