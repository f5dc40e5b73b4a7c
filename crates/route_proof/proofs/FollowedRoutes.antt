-- Stops that follow a route, by the test.
use Rattle.std.proofs.Common.{◌≡◌, ◌∙◌, ℕ, suc, ◌+◌, ◌<◌, ◌≤◌, true, false, List, [], ◌∷◌, length, drop, drop-cons, get_or, refl, sym, ap, arith, inl, inr}
use Rattle.std.specs.Prelude.{nat_eq}
use Rattle.std.proofs.lemmas.Bool.{and_from, and_parts, cases_Bool, cases_eq, eq-eqb, eqb-true, false≢true}
use Rattle.std.proofs.lemmas.List.{drop_all}
use Rattle.ev_model.specs.Route.{route_of}
use Rattle.ev_model.specs.declared.Stop.{Stop}
use Rattle.route_proof.specs.Following.{follows}

pub follows_true : (ns : List ℕ) (stops : List Stop) → follows ns stops ≡ true → route_of stops ≡ ns
follows_true [] [] is = refl
follows_true (n ∷ ns) [] is = absurd (false≢true is)
follows_true [] (s ∷ ss) is = elim (cases_Bool s.via) [
  | inl via ↦ (let rest : follows [] ss ≡ true = rw via at is in rw via (follows_true [] ss rest))
  | inr own ↦ (let none : false ≡ true = rw own at is in absurd (false≢true none))
]
follows_true (n ∷ ns) (s ∷ ss) is = elim (cases_Bool s.via) [
  | inl via ↦ (let rest : follows (n ∷ ns) ss ≡ true = rw via at is in rw via (follows_true (n ∷ ns) ss rest))
  | inr own ↦
      let both = and_parts (nat_eq n s.node) (follows ns ss) (rw own at is) in
      let head : s.node ≡ n = sym (eqb-true n s.node both.0) in
      let tail = follows_true ns ss both.1 in
      rw own (ap (λ x. x ∷ route_of ss) head ∙ ap (λ l. n ∷ l) tail)
]

pub follows_all : (ns : List ℕ) (stops : List Stop) → route_of stops ≡ ns → follows ns stops ≡ true
follows_all [] [] is = refl
follows_all (n ∷ ns) [] is = cc
follows_all [] (s ∷ ss) is = elim (cases_Bool s.via) [
  | inl via ↦ (let rest : route_of ss ≡ [] = rw via at is in rw via (follows_all [] ss rest))
  | inr own ↦ (let none : s.node ∷ route_of ss ≡ [] = rw own at is in absurd cc)
]
follows_all (n ∷ ns) (s ∷ ss) is = elim (cases_Bool s.via) [
  | inl via ↦ (let rest : route_of ss ≡ n ∷ ns = rw via at is in rw via (follows_all (n ∷ ns) ss rest))
  | inr own ↦
      let all : s.node ∷ route_of ss ≡ n ∷ ns = rw own at is in
      let head : n ≡ s.node = cc in
      let tail : route_of ss ≡ ns = cc in
      rw own (and_from (nat_eq n s.node) (follows ns ss) (eq-eqb n s.node head) (follows_all ns ss tail))
]

-- one more stop
pub follows_via : (ns : List ℕ) (s : Stop) (ss : List Stop) → s.via ≡ true → follows ns (s ∷ ss) ≡ follows ns ss
follows_via [] s ss via = rw via refl
follows_via (n ∷ ns) s ss via = rw via refl

module _ (ns : List ℕ) (at : ℕ) (s : Stop) (ss : List Stop) (own : s.via ≡ false) where
  pub follows_next : at < length ns → get_or ns at 0 ≡ s.node → follows (drop at ns) (s ∷ ss) ≡ follows (drop (at + 1) ns) ss
  follows_next inside same =
      let parts : drop at ns ≡ get_or ns at 0 ∷ drop (suc at) ns = drop-cons ns at 0 inside in
      let is : nat_eq (get_or ns at 0) s.node ≡ true = eq-eqb (get_or ns at 0) s.node same in
      let more : suc at ≡ at + 1 = omega arith in
      rw (parts, own, is) (ap (λ k. follows (drop k ns) ss) more)

pub follows_end : (ns : List ℕ) (at : ℕ) → at ≤ length ns → follows (drop at ns) [] ≡ nat_eq at (length ns)
follows_end ns at within = elim (cases_eq at (length ns)) [
  | inl all ↦
      let none : drop at ns ≡ [] = drop_all at ns (omega (arith, all)) in
      let is : nat_eq at (length ns) ≡ true = eq-eqb at (length ns) all in
      rw (none, is) refl
  | inr fewer ↦
      let parts : drop at ns ≡ get_or ns at 0 ∷ drop (suc at) ns = drop-cons ns at 0 (omega (arith, fewer, within)) in
      let is : nat_eq at (length ns) ≡ false = elim (cases_Bool (nat_eq at (length ns))) [
        | inl same ↦ absurd (fewer (eqb-true at (length ns) same))
        | inr off ↦ off
      ] in
      rw (parts, is) refl
]
