-- Files mean one list of networks at most, and those that break a rule mean none.
use Rattle.std.proofs.Common.{◌≡◌, ℕ, List, [], ◌∷◌, Option, ap₂, arith, inl, inr, refl, subst}
use Rattle.std.proofs.lemmas.List.Elements.{All-get_or}
use Rattle.ev_model.specs.Network.{Network}
use Rattle.job_frame.proofs.LimitedNetworks.{one_limited, refused_has_none}
use Rattle.job_frame.specs.LimitedNetwork.{HasNetwork}
use Rattle.mixed_model.specs.Kinds.{Agrees, AreKinds, first_of, no_network}
use Rattle.mixed_model.specs.Agreement.{IsFirstApart}
use Rattle.mixed_run.specs.KindFiles.{AreUnfit, HasKinds, HaveNetworks, IsFileRefused, IsFileRule, IsKindsRefused, IsMixedRule}
use Rattle.mixed_run.specs.declared.refusal.MixedRefusal.{MixedRefusal}
use Rattle.mixed_run.specs.declared.refusal.MixedRefusal.TheVariants.{Plain, Kinds}
use Rattle.refusal_lines.specs.declared.refusal.Refusal.TheVariants as refusal

pub same_networks : (limit : Option ℕ) (files : List (List ℕ)) (ks gs : List Network) → HaveNetworks limit files ks → HaveNetworks limit files gs → ks ≡ gs
same_networks limit [] [] [] p q = refl
same_networks limit [] [] (g ∷ gs) p q = absurd q
same_networks limit [] (k ∷ ks) gs p q = absurd p
same_networks limit (b ∷ bs) [] gs p q = absurd p
same_networks limit (b ∷ bs) (k ∷ ks) [] p q = absurd q
same_networks limit (b ∷ bs) (k ∷ ks) (g ∷ gs) p q =
    ap₂ (λ (x : Network) (xs : List Network). x ∷ xs) (one_limited limit b k g p.0 q.0) (same_networks limit bs ks gs p.1 q.1)

pub same_kinds : (limit : Option ℕ) (files : List (List ℕ)) (ks gs : List Network) → HasKinds limit files ks → HasKinds limit files gs → ks ≡ gs
same_kinds limit files ks gs p q = same_networks limit files ks gs p.networks q.networks

rule_has_none : (limit : Option ℕ) (bytes : List ℕ) (g : Network) (r : MixedRefusal) → IsMixedRule r → IsFileRule limit bytes r → HasNetwork limit bytes g → ⊥
rule_has_none limit bytes g (Plain r) rule first has = refused_has_none limit bytes r g rule first has
rule_has_none limit bytes g (Kinds kind) rule first has = first

file_refused_not : (limit : Option ℕ) (files : List (List ℕ)) (ks : List Network) (r : MixedRefusal) → HaveNetworks limit files ks → IsMixedRule r → IsFileRefused limit files r → ⊥
file_refused_not limit [] ks r has rule refused = refused
file_refused_not limit (b ∷ bs) [] r has rule refused = has
file_refused_not limit (b ∷ bs) (k ∷ ks) r has rule (inl first) = rule_has_none limit b k r rule first has.0
file_refused_not limit (b ∷ bs) (k ∷ ks) r has rule (inr (g, network, others)) = file_refused_not limit bs ks r has.1 rule others

apart_not : (kinds : List Network) (kind : ℕ) → AreKinds kinds → IsFirstApart kinds kind → ⊥
apart_not kinds kind are apart = apart.apart (All-get_or (Agrees (first_of kinds)) kinds kind no_network apart.known are.agree)

unfit_not : (limit : Option ℕ) (files : List (List ℕ)) (kinds : List Network) (r : MixedRefusal) → HasKinds limit files kinds → AreUnfit kinds r → ⊥
unfit_not limit files kinds (Kinds kind) has apart = apart_not kinds kind has.agree apart
unfit_not limit files kinds (Plain (refusal.Customers count)) has (are, is, many) = omega (arith, is, many, has.few)
unfit_not limit files kinds (Plain (refusal.Instance e)) has unfit = unfit
unfit_not limit files kinds (Plain (refusal.Limit given)) has unfit = unfit
unfit_not limit files kinds (Plain (refusal.Charge level)) has unfit = unfit
unfit_not limit files kinds (Plain (refusal.Route e)) has unfit = unfit
unfit_not limit files kinds (Plain (refusal.Plan e)) has unfit = unfit
unfit_not limit files kinds (Plain (refusal.Certificate e)) has unfit = unfit
unfit_not limit files kinds (Plain (refusal.Literal e)) has unfit = unfit
unfit_not limit files kinds (Plain refusal.Maker) has unfit = unfit

-- the first steps of a job on kinds either break a rule or find their networks
pub kinds_refused_not : (limit : Option ℕ) (files : List (List ℕ)) (kinds : List Network) (r : MixedRefusal) → HasKinds limit files kinds → IsMixedRule r → IsKindsRefused limit files r → ⊥
kinds_refused_not limit files kinds r has rule (inl refused) = file_refused_not limit files kinds r has.networks rule refused
kinds_refused_not limit files kinds r has rule (inr (others, networks, unfit)) =
    unfit_not limit files kinds r has (subst (λ (ks : List Network). AreUnfit ks r) (same_networks limit files others kinds networks has.networks) unfit)
