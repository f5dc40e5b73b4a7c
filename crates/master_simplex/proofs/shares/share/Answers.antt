use Rattle.std.proofs.Common.{◌≡◌, ◌∙◌, ℕ, ◌*◌, ◌/◌, ap, arith, rules, sym, subst, Fits, w64}
use Rattle.master_table.specs.Tableau.{Tableau}
use Rattle.master_table.specs.ShareWeight.{own_at, right_at}
use Rattle.master_simplex.specs.Sharing.{share_at}
use Rattle.master_simplex.proofs.shares.share.Goals as goal

share_is : (t : Tableau) (over i a b d : ℕ) → a ≡ over → b ≡ right_at t i → d ≡ own_at t i → a * b / d ≡ share_at t over i
unfolding share_at
share_is t over i a b d first second third = ap (λ x. x * b / d) first ∙ ap (λ x. over * x / d) second ∙ ap (λ x. over * right_at t i / x) third

pub overflow_cast-result : goal.overflow_cast-result
overflow_cast-result c =
    let first : c.from.result ≡ c.args.over = search rules in
    let is = share_is c.args.t.now c.args.over c.args.row c.from.result c.right_size.result c.own_size.result first c.right_size.ensures.value c.own_size.ensures.value in
    let small = c.requires.small in
    let fits = c.ranges.over.fits in
    subst (λ x. Fits w64 x) (sym is) (omega arith)

pub returns : goal.returns
returns c =
    let first : c.from.result ≡ c.args.over = search rules in
    share_is c.args.t.now c.args.over c.args.row c.from.result c.right_size.result c.own_size.result first c.right_size.ensures.value c.own_size.ensures.value
