-- Near sets of one size on one network have the same customers, and so the same near routes.
use Rattle.std.proofs.Common.{◌≡◌, ◌∙◌, ℕ, zero, suc, ◌≤◌, ◌⊎◌, Bool, true, false, List, [], ◌∷◌, Some, ap, arith, inl, inr, length, refl, subst, sym}
use Rattle.std.proofs.lemmas.List.Elements.{filter_agree}
use Rattle.std.specs.Prelude.{slice_get}
use Rattle.customer_sets.specs.CustSet.{has}
use Rattle.ev_model.specs.Network.{Network}
use Rattle.ev_model.specs.declared.Stop.{Stop}
use Rattle.instance_reader.specs.Instance.{customer_nodes}
use Rattle.near_proof.specs.NearSets.{AreNearSets, IsNearSet}
use Rattle.near_proof.specs.Routes.{IsNearRoute, KeepsMemory}
use Rattle.near_proof.specs.Terms.{near_set, remembered}
use Rattle.ng_pricing.specs.Rising.{StandsOnNone}

-- ---- lists of the same length

-- a number names an element, or is past the end
known : (nodes : List ℕ) (n : ℕ) → ((x : ℕ) × (slice_get nodes n ≡ Some x)) ⊎ (length nodes ≤ n)
known [] n = inr (omega arith)
known (x ∷ xs) zero = inl (x, refl)
known (x ∷ xs) (suc n) = elim (known xs n) [
  | inl found ↦ inl found
  | inr past ↦ inr (omega (arith, past))
]

named : (nodes : List ℕ) (sets : List (List ℕ)) (n : ℕ) (set : List ℕ) → length sets ≡ length nodes → slice_get sets n ≡ Some set → (x : ℕ) × (slice_get nodes n ≡ Some x)
named [] [] n set same is = absurd (grind (arith, is))
named [] (s ∷ ss) n set same is = absurd (omega (arith, same))
named (x ∷ xs) [] n set same is = absurd (omega (arith, same))
named (x ∷ xs) (s ∷ ss) zero set same is = (x, refl)
named (x ∷ xs) (s ∷ ss) (suc n) set same is = named xs ss n set (omega (arith, same)) is

AreAlike : List ℕ → List ℕ → Type 0
AreAlike u v = (d : ℕ) → has u d ≡ has v d

each_alike : (ss ts : List (List ℕ)) (n : ℕ) → length ss ≡ length ts → ((u v : List ℕ) → slice_get ss n ≡ Some u → slice_get ts n ≡ Some v → AreAlike u v) → AreAlike (near_set ss n) (near_set ts n)
unfolding AreAlike
each_alike [] [] n same alike = λ d. refl
each_alike [] (t ∷ ts) n same alike = absurd (omega (arith, same))
each_alike (s ∷ ss) [] n same alike = absurd (omega (arith, same))
each_alike (s ∷ ss) (t ∷ ts) zero same alike = alike s t refl refl
each_alike (s ∷ ss) (t ∷ ts) (suc n) same alike = each_alike ss ts n (omega (arith, same)) alike

-- ---- near sets

neither : (a b : Bool) → (a ≡ true → ⊥) → (b ≡ true → ⊥) → a ≡ b
neither true b first second = absurd (first refl)
neither false true first second = absurd (second refl)
neither false false first second = refl

module _ (g : Network) (near : ℕ) where
  one_near_set : (a : ℕ) (u v : List ℕ) → IsNearSet g near a u → IsNearSet g near a v → AreAlike u v
  unfolding AreAlike
  one_near_set a u v is other = λ d. elim (known (customer_nodes g) d) [
    | inl found ↦ is.members d found.0 found.1 ∙ sym (other.members d found.0 found.1)
    | inr past ↦ neither (has u d) (has v d) (λ in_u. let below = is.among d in_u in omega (arith, past, below)) (λ in_v. let below = other.among d in_v in omega (arith, past, below))
  ]

  module _ (ss ts : List (List ℕ)) (are : AreNearSets g near ss) (others : AreNearSets g near ts) where
    alike : (n : ℕ) → AreAlike (near_set ss n) (near_set ts n)
    alike n =
        let lengths : length ss ≡ length ts = are.one_set ∙ sym others.one_set in
        each_alike ss ts n lengths (λ u v at there.
        let node = named (customer_nodes g) ss n u are.one_set at in
        one_near_set node.0 u v (are.each n node.0 u node.1 at) (others.each n node.0 v node.1 there))

    same_memory : (memory : List ℕ) (c : ℕ) → remembered ss memory c ≡ remembered ts memory c
    unfolding AreAlike
    same_memory memory c = ap (λ (kept : List ℕ). c ∷ kept) (filter_agree (has (near_set ss c)) (has (near_set ts c)) (alike c) memory)

    keeps : (memory customers : List ℕ) → KeepsMemory ss memory customers → KeepsMemory ts memory customers
    keeps memory [] kept = tt
    keeps memory (c ∷ cs) kept =
        (kept.0, subst (λ (m : List ℕ). KeepsMemory ts m cs) (same_memory memory c) (keeps (remembered ss memory c) cs kept.1))

    same_route : (plan : List Stop) → IsNearRoute g ss plan → IsNearRoute g ts plan
    same_route plan is = record {
      feasible = is.feasible;
      only = is.only;
      some = is.some;
      few = is.few;
      keeps = keeps [] _ is.keeps;
    }

-- a customer on none of the near routes of one choice of sets is on none of those of another
pub stands_on_none : (g : Network) (near : ℕ) (ss ts : List (List ℕ)) (c : ℕ) → AreNearSets g near ss → AreNearSets g near ts → StandsOnNone g ss c → StandsOnNone g ts c
stands_on_none g near ss ts c are others none = λ plan route. none plan (same_route g near ts ss others are plan route)
