-- What a tree is read from, and what its first fault tells.
use Rattle.std.proofs.Common.{◌≡◌, ◌∙◌, ◌↔◌, ◌⊎◌, ℕ, ◌^◌, ◌<◌, ◌≤◌, List, [], ◌∷◌, ◌++◌, codes, decimal, length, take, Ok, Err, refl, sym, ap, arith}
use Rattle.std.specs.List.{All}
use Rattle.std.proofs.lemmas.Fmt.{decimal_digit}
use Rattle.ev_model.specs.Network.{IsNetwork, Network}
use Rattle.ev_text.specs.Readers.{whole_with}
use Rattle.ev_text.specs.Texts.{IsLonger, StandsUnlessLonger}
use Rattle.ev_text.proofs.ReadingLaws.{Reads}
use Rattle.ev_text.proofs.Results.{Ok-injective}
use Rattle.ev_text.proofs.WholeReads.{ranged-spells}
use Rattle.ev_text.proofs.Numbers.{Anything}
use Rattle.instance_reader.proofs.InstanceLemmas.{customers_are_nodes}
use Rattle.certificate_parts.specs.Limits.{most_bytes}
use Rattle.certificate_parts.specs.Ranges.{customer_count}
use Rattle.certificate_parts.specs.Versions.{version_line}
use Rattle.certificate_parts.specs.declared.cert_text.CertText.TheVariants.{Range, Text, TooLong, Version}
use Rattle.certificate_parts.proofs.TextLaws as parts
use Rattle.tree_text.specs.TreeIn.{BeginsLoosely, BeginsOtherVersion, IsKeptNode, IsSpelledBy, SpellsWritten, tree_in, tree_word}
use Rattle.tree_text.specs.TreeTexts.{tree_body_text, tree_text}
use Rattle.tree_text.specs.Reading.{tree_at}
use Rattle.near_tree.specs.Ranges.{TreeFits}
use Rattle.near_tree.specs.declared.proof.TreeProof.{TreeProof}
use Rattle.tree_text.specs.Written.{WrittenTree, written_tree}
use Rattle.tree_text.specs.WrittenRanges.{TreeIs, TreeLoose}
use Rattle.tree_text.proofs.OneTree.{one_written}
use Rattle.tree_text.proofs.TreeReading.{reads-tree}
use Rattle.tree_text.proofs.WrittenTrees.{tree_is}

-- a tree's text begins with its version
own_line : (w : WrittenTree) → (rest : List ℕ) × (tree_text w ≡ version_line tree_word 1 ++ rest)
own_line w =
    let digit : decimal 1 ≡ 49 ∷ [] = decimal_digit 1 (omega arith) in
    (tree_body_text w, ap (λ ds. (codes "evroute near tree " ++ (ds ++ 10 ∷ [])) ++ tree_body_text w) (sym digit))

pub version_told : (g : Network) (bytes : List ℕ) → (tree_in g bytes ≡ Err Version) ↔ ((length bytes ≤ most_bytes) × BeginsOtherVersion bytes)
version_told g bytes = parts.version_told 101 (codes "vroute near tree ") 1 (tree_at g) bytes

pub length_told : (g : Network) (bytes : List ℕ) (len : ℕ) → (tree_in g bytes ≡ Err (TooLong len)) ↔ ((most_bytes < length bytes) × (len ≡ length bytes))
length_told g bytes len = parts.length_told 101 (codes "vroute near tree ") 1 (tree_at g) bytes len

module _ (g : Network) (network : IsNetwork g) where
  few : customer_count g < 10 ^ 64
  few = let nodes = customers_are_nodes g in omega (arith, nodes, network.few_nodes)

  pub reads : Reads StandsUnlessLonger (tree_at g) tree_text (TreeIs g) (TreeLoose g) Anything
  reads = reads-tree g few (omega (arith, network.small_capacity)) (omega (arith, network.small_limit))

  pub tree_is_spelled : (bytes : List ℕ) (w : WrittenTree) → (tree_in g bytes ≡ Ok w) ↔ SpellsWritten g bytes w
  tree_is_spelled bytes w =
      let whole = parts.text_is_spelled 101 (codes "vroute near tree ") 1 (tree_at g) tree_text (TreeIs g) (TreeLoose g) reads (omega arith) own_line bytes w in (
        λ is. let spelled = whole.0 is in record { within = spelled.0; ranges = spelled.1; text = spelled.2 },
        λ spells. whole.1 (spells.within, spells.ranges, spells.text),
      )

  pub range_is_first : (bytes : List ℕ) (at : ℕ) → tree_in g bytes ≡ Err (Range at)
      → BeginsLoosely g (take at bytes) × (at ≤ length bytes) × ((more : List ℕ) → (IsLonger at bytes more → ⊥) → (w : WrittenTree) → TreeIs g w → tree_text w ≡ bytes ++ more → ⊥)
  range_is_first = parts.range_is_first 101 (codes "vroute near tree ") 1 (tree_at g) tree_text (TreeIs g) (TreeLoose g) reads (omega arith) own_line

  pub text_is_first : (bytes : List ℕ) (at : ℕ) → tree_in g bytes ≡ Err (Text at)
      → BeginsLoosely g (take at bytes) × (at ≤ length bytes) × (BeginsLoosely g bytes ⊎ ((more : List ℕ) (w : WrittenTree) → TreeIs g w → tree_text w ≡ bytes ++ more → ⊥))
  text_is_first = parts.text_is_first 101 (codes "vroute near tree ") 1 (tree_at g) tree_text (TreeIs g) (TreeLoose g) reads (omega arith) own_line

  pub text_is_read : (p : TreeProof) → TreeFits g p → length (tree_text (written_tree g p)) ≤ most_bytes → tree_in g (tree_text (written_tree g p)) ≡ Ok (written_tree g p)
  text_is_read p fits within = (tree_is_spelled (tree_text (written_tree g p)) (written_tree g p)).1 (record { within = within; ranges = tree_is g network p fits; text = refl })

  pub spelled_where_read : (bytes : List ℕ) (p : TreeProof) → tree_in g bytes ≡ Ok (written_tree g p) → TreeFits g p → All IsKeptNode p.nodes → IsSpelledBy g bytes p
  spelled_where_read bytes p is fits kept = record { fits = fits; kept = kept; text = ((tree_is_spelled bytes (written_tree g p)).0 is).text }

  -- the text of a tree is read as what is written of it
  text_tells : (bytes : List ℕ) (p : TreeProof) → IsSpelledBy g bytes p → whole_with (tree_at g) bytes ≡ Ok (written_tree g p)
  text_tells bytes p is =
      (ranged-spells StandsUnlessLonger (tree_at g) tree_text (TreeIs g) (TreeLoose g) Anything reads (λ w fits. tt) bytes (written_tree g p)).1
      (tree_is g network p is.fits, is.text)

  pub one_tree : (bytes : List ℕ) (p q : TreeProof) → IsSpelledBy g bytes p → IsSpelledBy g bytes q → p ≡ q
  one_tree bytes p q is was =
      one_written g p q is.fits was.fits is.kept was.kept (Ok-injective (written_tree g p) (written_tree g q) (sym (text_tells bytes p is) ∙ text_tells bytes q was))
