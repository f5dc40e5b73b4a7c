-- Proofs of bounds of either kind: their texts, and what an accepted one shows and breaks.
use Rattle.std.proofs.Common.{◌≡◌, ◌∙◌, ◌↔◌, ℕ, ◌<◌, ◌≤◌, Bool, true, false, List, Result, Ok, Err, IfOk, MatchBool, length, refl, sym, ap, subst, arith}
use Rattle.std.proofs.lemmas.Bool.{false≢true}
use Rattle.ev_model.specs.Network.{IsNetwork, Network}
use Rattle.ev_text.proofs.Results.{Err-ne-Ok, Ok-injective}
use Rattle.instance_reader.specs.Instance.{most_customers}
use Rattle.certificate_parts.specs.Limits.{most_bytes}
use Rattle.certificate_parts.specs.Ranges.{customer_count}
use Rattle.certificate_parts.specs.declared.cert_text.CertText.{CertText}
use Rattle.near_proof.proofs.Rules as near_rules
use Rattle.near_proof.specs.Broken as near_place
use Rattle.near_proof.specs.Truth.{IsTrueNearBound}
use Rattle.near_proof.specs.declared.proof.NearProof.{NearProof}
use Rattle.near_proof.specs.declared.verdict.NearVerdict.TheVariants as near_verdict
use Rattle.near_text.proofs.NearLaws as near
use Rattle.near_text.proofs.WrittenNears.{one_written as one_near}
use Rattle.near_text.specs.NearIn.{near_in}
use Rattle.near_text.specs.Written.{written_near}
use Rattle.near_tree.proofs.Preorder as preorder
use Rattle.near_tree.proofs.Rules as tree_rules
use Rattle.near_tree.specs.Bounds.{IsAccepted}
use Rattle.near_tree.specs.Rules as tree_place
use Rattle.near_tree.specs.Trees.{NearTree}
use Rattle.near_tree.specs.Verdicts.{IsVerdictOn}
use Rattle.near_tree.specs.declared.proof.TreeProof.{TreeProof}
use Rattle.near_tree.specs.declared.verdict.TreeVerdict.{TreeVerdict}
use Rattle.near_tree.specs.declared.verdict.TreeVerdict.TheVariants as tree_verdict
use Rattle.tree_text.specs.BoundProofs.{BoundFits, IsAcceptedProof, IsBoundShown, IsKeptProof, IsTrueProof, bound_of, bound_proof_text}
use Rattle.tree_text.specs.BoundTexts.{HasProof, IsUnread, begins_tree}
use Rattle.tree_text.specs.BoundVerdicts.{IsBoundVerdict, is_accepted}
use Rattle.tree_text.specs.TreeIn.{tree_in}
use Rattle.tree_text.specs.Written.{written_tree}
use Rattle.tree_text.specs.declared.bounds.judging.BoundVerdict.{BoundVerdict}
use Rattle.tree_text.specs.declared.bounds.judging.BoundVerdict.TheVariants as verdict
use Rattle.tree_text.specs.declared.bounds.proof.BoundProof.{BoundProof}
use Rattle.tree_text.specs.declared.bounds.proof.BoundProof.TheVariants.{Near, Tree}
use Rattle.tree_text.specs.declared.bounds.reading.BoundText.{BoundText}
use Rattle.tree_text.specs.declared.bounds.reading.BoundText.TheVariants.{Customers, Text}
use Rattle.tree_text.proofs.OneTree.{one_written as one_tree}
use Rattle.tree_text.proofs.TreeLaws as tree

-- ---- texts

-- a text means one proof
pub one_proof : (g : Network) (bytes : List ℕ) (p q : BoundProof) → HasProof g bytes p → HasProof g bytes q → p ≡ q
one_proof g bytes (Near p) (Near q) is was =
    ap (λ (x : NearProof). Near x)
    (one_near g p q is.spelled.fits was.spelled.fits is.spelled.kept was.spelled.kept (Ok-injective (written_near g p) (written_near g q) (sym is.read ∙ was.read)))
one_proof g bytes (Near p) (Tree q) is was = absurd (false≢true (sym is.kind ∙ was.kind))
one_proof g bytes (Tree p) (Near q) is was = absurd (false≢true (sym was.kind ∙ is.kind))
one_proof g bytes (Tree p) (Tree q) is was =
    ap (λ (x : TreeProof). Tree x)
    (one_tree g p q is.spelled.fits was.spelled.fits is.spelled.kept was.spelled.kept (Ok-injective (written_tree g p) (written_tree g q) (sym is.read ∙ was.read)))

-- what is written of a proof is read as it
pub proof_is_read : (g : Network) → IsNetwork g → (p : BoundProof) → BoundFits g p → IsKeptProof p → length (bound_proof_text g p) ≤ most_bytes → HasProof g (bound_proof_text g p) p
proof_is_read g network (Near p) fits kept within = record {
  kind = refl;
  few = fits.0;
  read = near.text_is_read g network fits.0 p fits.1 within;
  spelled = record { fits = fits.1; kept = kept; text = refl };
}
proof_is_read g network (Tree p) fits kept within = record {
  kind = refl;
  read = tree.text_is_read g network p fits within;
  spelled = record { fits = fits; kept = kept; text = refl };
}

-- the fault of a text of this kind
text_fault : (g : Network) (bytes : List ℕ) (e : CertText) (b : Bool) → begins_tree bytes ≡ b → IsUnread g bytes (Text e)
    → MatchBool b (tree_in g bytes ≡ Err e) ((customer_count g ≤ most_customers) × (near_in g bytes ≡ Err e))
text_fault g bytes e b is unread =
    subst (λ (c : Bool). MatchBool c (tree_in g bytes ≡ Err e) ((customer_count g ≤ most_customers) × (near_in g bytes ≡ Err e))) is unread

-- the text of a proof has no fault
pub no_fault : (g : Network) (bytes : List ℕ) (p : BoundProof) (fault : BoundText) → HasProof g bytes p → IsUnread g bytes fault → ⊥
no_fault g bytes (Near p) (Customers count) is unread =
    let few = is.few in
    let same = unread.1 in
    let many = unread.2 in
    omega (arith, few, same, many)
no_fault g bytes (Tree p) (Customers count) is unread = false≢true (sym unread.0 ∙ is.kind)
no_fault g bytes (Near p) (Text e) is unread = Err-ne-Ok e (written_near g p) (sym (text_fault g bytes e false is.kind unread).1 ∙ is.read)
no_fault g bytes (Tree p) (Text e) is unread = Err-ne-Ok e (written_tree g p) (sym (text_fault g bytes e true is.kind unread) ∙ is.read)

-- ---- verdicts

-- an accepted tree breaks no rule
tree_keeps : (g : Network) (p : TreeProof) (t : NearTree) (v : TreeVerdict) → IsAccepted g p.bound t → IsVerdictOn g p.bound t v → is_accepted (verdict.Tree v) ≡ true
tree_keeps g p t tree_verdict.Accepted accepted is = refl
tree_keeps g p t (tree_verdict.Start leaf) accepted is = absurd (tree_rules.not_broken g p.bound t accepted (tree_place.at_start leaf) is.broken)
tree_keeps g p t (tree_verdict.Step leaf label node) accepted is = absurd (tree_rules.not_broken g p.bound t accepted (tree_place.at_step leaf label node) is.broken)
tree_keeps g p t (tree_verdict.Home leaf label) accepted is = absurd (tree_rules.not_broken g p.bound t accepted (tree_place.at_home leaf label) is.broken)
tree_keeps g p t (tree_verdict.Bound leaf) accepted is = absurd (tree_rules.not_broken g p.bound t accepted (tree_place.at_bound leaf) is.broken)

-- an accepted proof breaks no rule
pub accepted_keeps : (g : Network) (p : BoundProof) (v : BoundVerdict) → IsAcceptedProof g p → IsBoundVerdict g p v → is_accepted v ≡ true
accepted_keeps g (Near p) (verdict.Tree v) accepted is = absurd is
accepted_keeps g (Tree p) (verdict.Near v) accepted is = absurd is
accepted_keeps g (Near p) (verdict.Near near_verdict.Accepted) accepted is = refl
accepted_keeps g (Near p) (verdict.Near near_verdict.Start) accepted is = absurd (near_rules.not_broken g p accepted near_place.at_start is.broken)
accepted_keeps g (Near p) (verdict.Near (near_verdict.Step label node)) accepted is = absurd (near_rules.not_broken g p accepted (near_place.at_step label node) is.broken)
accepted_keeps g (Near p) (verdict.Near (near_verdict.End label)) accepted is = absurd (near_rules.not_broken g p accepted (near_place.at_home label) is.broken)
accepted_keeps g (Near p) (verdict.Near near_verdict.Bound) accepted is = absurd (near_rules.not_broken g p accepted near_place.at_bound is.broken)
accepted_keeps g (Near p) (verdict.Near (near_verdict.Tight customer)) accepted is = absurd (near_rules.not_broken g p accepted (near_place.at_tight customer) is.broken)
accepted_keeps g (Tree p) (verdict.Tree v) accepted is =
    let same : is.0 ≡ accepted.0 = preorder.one_tree p.nodes is.0 accepted.0 is.1 accepted.1 in
    tree_keeps g p accepted.0 v accepted.2 (subst (λ (t : NearTree). IsVerdictOn g p.bound t v) same is.2)

-- what breaks no rule is accepted
accepts : (g : Network) (p : BoundProof) (v : BoundVerdict) → IsBoundVerdict g p v → is_accepted v ≡ true → IsAcceptedProof g p
accepts g (Near p) (verdict.Tree v) is agreed = absurd is
accepts g (Tree p) (verdict.Near v) is agreed = absurd is
accepts g (Near p) (verdict.Near near_verdict.Accepted) is agreed = is
accepts g (Near p) (verdict.Near near_verdict.Start) is agreed = absurd (false≢true agreed)
accepts g (Near p) (verdict.Near (near_verdict.Step label node)) is agreed = absurd (false≢true agreed)
accepts g (Near p) (verdict.Near (near_verdict.End label)) is agreed = absurd (false≢true agreed)
accepts g (Near p) (verdict.Near near_verdict.Bound) is agreed = absurd (false≢true agreed)
accepts g (Near p) (verdict.Near (near_verdict.Tight customer)) is agreed = absurd (false≢true agreed)
accepts g (Tree p) (verdict.Tree tree_verdict.Accepted) is agreed = is
accepts g (Tree p) (verdict.Tree (tree_verdict.Start leaf)) is agreed = absurd (false≢true agreed)
accepts g (Tree p) (verdict.Tree (tree_verdict.Step leaf label node)) is agreed = absurd (false≢true agreed)
accepts g (Tree p) (verdict.Tree (tree_verdict.Home leaf label)) is agreed = absurd (false≢true agreed)
accepts g (Tree p) (verdict.Tree (tree_verdict.Bound leaf)) is agreed = absurd (false≢true agreed)

pub accepted_where_unbroken : (g : Network) (p : BoundProof) (v : BoundVerdict) → IsBoundVerdict g p v → (is_accepted v ≡ true) ↔ IsAcceptedProof g p
accepted_where_unbroken g p v is = (accepts g p v is, λ accepted. accepted_keeps g p v accepted is)

-- ---- what is shown

pub true_bound : (g : Network) (p : BoundProof) → IsTrueProof g p → IsTrueNearBound g (bound_of p)
true_bound g (Near p) shows = shows.bound
true_bound g (Tree p) shows = shows

pub shown_bound : (g : Network) (p : BoundProof) → IsBoundShown g p → IsTrueNearBound g (bound_of p)
shown_bound g p is = true_bound g p is.shows

-- the proof that was read is the only one
pub one_read : {E : Type 0} (g : Network) (bytes : List ℕ) (made : Result BoundProof E) → IfOk made (HasProof g bytes) → IfOk made (λ p. (q : BoundProof) → HasProof g bytes q → p ≡ q)
one_read {E} g bytes (Err e) has = tt
one_read {E} g bytes (Ok p) has = λ q other. one_proof g bytes p q has other
