-- A tree with one label more.
use Rattle.std.proofs.Common.{◌≡◌, ◌∙◌, ℕ, ◌<◌, ◌≤◌, ◌^◌, sym, subst, List, [], ◌∷◌, ◌++◌, length, arith, inl, inr, Option, Some, None, unsigned_abs}
use Rattle.std.specs.Prelude.{IfSome, slice_get, slice_index_or}
use Rattle.std.proofs.lemmas.List.{length-append}
use Rattle.label_pool.proofs.Elements.{appended_before, appended_cases, element_at, read_at}
use Rattle.label_search.specs.Space.{Space}
use Rattle.label_search.specs.Steps.{IsInRange}
use Rattle.label_search.specs.Tree.{HasOrigin, IsFound, IsGrown, IsTree}
use Rattle.label_search.specs.declared.found.Found.{Found}

-- what was read at an index
pub read : {X : Type 0} (xs : List X) (i : ℕ) (x : X) → i < length xs → x ≡ slice_index_or xs i x → slice_get xs i ≡ Some x
read xs i x less is =
    let there = element_at xs i less in
    read_at xs i there.0 x there.1 is

module _ {Label : Type 0} where
  pub grown_by : (old : List (Found Label)) (new : Found Label) → IsGrown old (old ++ new ∷ [])
  grown_by old new = record {
    more = omega (arith, length-append old (new ∷ []));
    stays = λ i f here. appended_before old (new ∷ []) i f here;
  }

  pub grown_on : (a b c : List (Found Label)) → IsGrown a b → IsGrown b c → IsGrown a c
  grown_on a b c first second = record {
    more = omega (arith, first.more, second.more);
    stays = λ i f here. second.stays i f (first.stays i f here);
  }

module _ {Label Target Route : Type 0} (s : Space Label Target Route) where
  pub origin_stays : (old now : List (Found Label)) (parent : Option ℕ) (l : Label) → IsGrown old now → HasOrigin s old parent l → HasOrigin s now parent l
  origin_stays old now None l grown is = is
  origin_stays old now (Some p) l grown is = (is.0, grown.stays p is.0 is.1, is.2)

  found_stays : (old now : List (Found Label)) (i : ℕ) (f : Found Label) → IsGrown old now → IsFound s old i f → IsFound s now i f
  found_stays old now i f grown is = record {
    range = is.range;
    elder = is.elder;
    small = is.small;
    origin = origin_stays old now f.parent f.label grown is.origin;
  }

  -- a tree with one label more
  pub tree_with : {G : Type 0} (old : List (Found Label)) (groups more : List G) (new : Found Label) → length more ≡ length groups → IsTree s old groups → IsInRange s new.label → unsigned_abs new.earned ≤ 2 ^ 91 → IfSome new.parent (λ p. p < length old)
      → HasOrigin s old new.parent new.label → IsTree s (old ++ new ∷ []) more
  tree_with old groups more new same tree range small elder origin =
      let grown = grown_by old new in
      record {
        labels = λ i f here. elim (appended_cases old new f i here) [
          | inl earlier ↦ found_stays old (old ++ new ∷ []) i f grown (tree.labels i f earlier)
          | inr last ↦
              let own : IsFound s (old ++ new ∷ []) (length old) new = record {
                range = range;
                elder = elder;
                small = small;
                origin = origin_stays old (old ++ new ∷ []) new.parent new.label grown origin;
              } in
              subst (λ k. IsFound s (old ++ new ∷ []) k f) (sym last.0) (subst (λ (g : Found Label). IsFound s (old ++ new ∷ []) (length old) g) last.1 own)
        ];
        room = same ∙ tree.room;
      }
