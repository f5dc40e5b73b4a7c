-- One more stop of a plan is looked at.
use Rattle.std.proofs.Common.{◌≡◌, ◌∙◌, ℕ, ◌+◌, ◌<◌, true, false, List, [], ◌∷◌, ◌++◌, Some, length, drop, refl, sym, ap, append_assoc}
use Rattle.std.specs.Prelude.{slice_index_or}
use Rattle.std.proofs.lemmas.List.{drop_more}
use Rattle.ev_model.specs.Network.{is_customer, Network}
use Rattle.ev_model.specs.declared.Stop.{Stop}
use Rattle.fleet_model.specs.Places.{customer_number, numbers_of}
use Rattle.fleet_model.proofs.Numbers.{numbered}
use Rattle.instance_reader.specs.Instance.{IsCustomerNumber}

numbers_own : (g : Network) (s : Stop) (ss : List Stop) → s.via ≡ false → is_customer g s.node ≡ true → numbers_of g (s ∷ ss) ≡ customer_number g s.node ∷ numbers_of g ss
numbers_own g s ss own is = rw (own, is) refl

module _ (g : Network) (stops : List Stop) (taken : List ℕ) (i : ℕ) (d : Stop) (less : i < length stops) (told : taken ++ numbers_of g (drop i stops) ≡ numbers_of g stops) where
  left : numbers_of g (drop i stops) ≡ numbers_of g (slice_index_or stops i d ∷ drop (i + 1) stops)
  left = ap (numbers_of g) (drop_more stops i d less)

  pub taken_one : (n : ℕ) → (slice_index_or stops i d).via ≡ false → IsCustomerNumber g (slice_index_or stops i d).node (Some n) → (taken ++ n ∷ []) ++ numbers_of g (drop (i + 1) stops) ≡ numbers_of g stops
  taken_one n own number =
      let same : numbers_of g (drop i stops) ≡ n ∷ numbers_of g (drop (i + 1) stops) = left ∙ numbers_own g (slice_index_or stops i d) (drop (i + 1) stops) own number.0 ∙ ap (λ m. m ∷ numbers_of g (drop (i + 1) stops)) (sym (numbered g n (slice_index_or stops i d).node number.1)) in
      append_assoc taken (n ∷ []) (numbers_of g (drop (i + 1) stops)) ∙ ap (λ ns. taken ++ ns) (sym same) ∙ told
