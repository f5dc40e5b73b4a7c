-- The row that a phase brings down falls in the lexicographic order.
use Rattle.std.proofs.Common.{◌≡◌, ◌∙◌, ℕ, ◌<◌, ◌≤◌, arith, refl, sym, ap, subst, ℤ, pos, ◌-ℤ◌, ◌*ℤ◌, ◌<ℤ◌, List, [], ◌∷◌, map, length}
use Rattle.std.proofs.lemmas.Int.{ints}
use Rattle.fleet_model.proofs.Ring.{*ℤ_comm, *ℤ_assoc, *ℤ_pos, *ℤ--ℤ}
use Rattle.fleet_model.proofs.Signs.{factor_pos}
use Rattle.fleet_model.specs.Equations.{combined}
use Rattle.master_simplex.specs.Falling.{IsLexPositive, height, AreWithin}
use Rattle.master_simplex.proofs.FallingRows.{height_falls}
use Rattle.master_simplex.proofs.Lex.{lex_times, lex_untimes}

-- the difference of the old and the new cost entry, as fractions, is a positive multiple of the pivot row's entry
cross : (k v w f o e g t : ℤ) → k *ℤ v ≡ f *ℤ w → k *ℤ e ≡ f *ℤ o -ℤ g *ℤ t → k *ℤ (v *ℤ o -ℤ w *ℤ e) ≡ (w *ℤ g) *ℤ t
cross k v w f o e g t h m =
    let a = *ℤ--ℤ k (v *ℤ o) (w *ℤ e) in
    let b : k *ℤ (v *ℤ o) ≡ f *ℤ (w *ℤ o) = sym (*ℤ_assoc k v o) ∙ ap (λ z. z *ℤ o) h ∙ *ℤ_assoc f w o in
    let d : k *ℤ (w *ℤ e) ≡ w *ℤ (k *ℤ e) = sym (*ℤ_assoc k w e) ∙ ap (λ z. z *ℤ e) (*ℤ_comm k w) ∙ *ℤ_assoc w k e in
    let i : w *ℤ (k *ℤ e) ≡ w *ℤ (f *ℤ o) -ℤ w *ℤ (g *ℤ t) = ap (λ z. w *ℤ z) m ∙ *ℤ--ℤ w (f *ℤ o) (g *ℤ t) in
    let j : w *ℤ (f *ℤ o) ≡ f *ℤ (w *ℤ o) = sym (*ℤ_assoc w f o) ∙ ap (λ z. z *ℤ o) (*ℤ_comm w f) ∙ *ℤ_assoc f w o in
    let l = *ℤ_assoc w g t in
    omega (arith, ints)

falls_by : (k f g : ℤ) (w v : ℕ) (xs ts ys : List ℤ) → length xs ≡ length ts → k *ℤ pos v ≡ f *ℤ pos w → map (λ z. k *ℤ z) ys ≡ combined f g xs ts
    → map (λ z. k *ℤ z) (combined (pos v) (pos w) xs ys) ≡ map (λ z. (pos w *ℤ g) *ℤ z) ts
falls_by k f g w v [] [] ys lengths head same = refl
falls_by k f g w v [] (t ∷ ts) ys lengths head same = absurd (omega arith)
falls_by k f g w v (x ∷ xs) [] ys lengths head same = absurd (omega arith)
falls_by k f g w v (x ∷ xs) (t ∷ ts) [] lengths head same = absurd (let l = ap length same in omega arith)
falls_by k f g w v (x ∷ xs) (t ∷ ts) (y ∷ ys) lengths head same =
    let here : k *ℤ y ≡ f *ℤ x -ℤ g *ℤ t = cc in
    let later : map (λ z. k *ℤ z) ys ≡ combined f g xs ts = cc in
    let e = cross k (pos v) (pos w) f x y g t head here in
    let rest = falls_by k f g w v xs ts ys (omega arith) head later in
    cc

pub falls : (k f g : ℤ) (w v c : ℕ) (xs ts ys : List ℤ) → pos 0 <ℤ k → pos 0 <ℤ g → 0 < w → 0 < v → w ≤ c → v ≤ c → length xs ≡ length ts → length xs ≡ length ys
    → k *ℤ pos v ≡ f *ℤ pos w → map (λ z. k *ℤ z) ys ≡ combined f g xs ts → IsLexPositive ts → AreWithin c xs → AreWithin c ys → height c v ys < height c w xs
falls k f g w v c xs ts ys some more has_w has_v within_w within_v lengths also head same positive in_xs in_ys =
    let all = lex_times (pos w *ℤ g) ts (*ℤ_pos (pos w) g (factor_pos w has_w) more) positive in
    let down = lex_untimes k (combined (pos v) (pos w) xs ys) some (subst IsLexPositive (sym (falls_by k f g w v xs ts ys lengths head same)) all) in
    height_falls c w v xs ys has_w has_v within_w within_v also in_xs in_ys down
