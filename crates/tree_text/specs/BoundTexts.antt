-- Which proof of a bound bytes are the text of, or the first cause why they are none.
use Rattle.std.specs.Prelude.{◌≡◌, ℕ, ◌<◌, ◌≤◌, Bool, true, false, List, Ok, Err, MatchBool, nat_eq}
use Rattle.std.specs.List.{starts_with}
use Rattle.ev_model.specs.Network.{Network}
use Rattle.instance_reader.specs.Instance.{most_customers}
use Rattle.certificate_parts.specs.Ranges.{customer_count}
use Rattle.near_proof.specs.declared.proof.NearProof.{NearProof}
use Rattle.near_text.specs.NearIn as near
use Rattle.near_text.specs.Written.{written_near}
use Rattle.near_tree.specs.declared.proof.TreeProof.{TreeProof}
use Rattle.tree_text.specs.TreeIn.{IsSpelledBy, tree_in, tree_word}
use Rattle.tree_text.specs.Written.{written_tree}
use Rattle.tree_text.specs.declared.bounds.proof.BoundProof.{BoundProof}
use Rattle.tree_text.specs.declared.bounds.proof.BoundProof.TheVariants.{Near, Tree}
use Rattle.tree_text.specs.declared.bounds.reading.BoundText.{BoundText}
use Rattle.tree_text.specs.declared.bounds.reading.BoundText.TheVariants.{Customers, Text}

-- the bytes are meant as a tree: they begin with `evroute near tree `, whatever its version
abbrev pub begins_tree : List ℕ → Bool
begins_tree bytes = starts_with nat_eq bytes tree_word

-- the bytes don't begin as a tree does, and are the text of this near proof, and read as it
pub record IsNearText (g : Network) (bytes : List ℕ) (p : NearProof) : Type 0 where
  pub kind : begins_tree bytes ≡ false
  pub few : customer_count g ≤ most_customers
  pub read : near.near_in g bytes ≡ Ok (written_near g p)
  pub spelled : near.IsSpelledBy g bytes p

-- the bytes are the text of this tree, and read as it
pub record IsTreeText (g : Network) (bytes : List ℕ) (p : TreeProof) : Type 0 where
  pub kind : begins_tree bytes ≡ true
  pub read : tree_in g bytes ≡ Ok (written_tree g p)
  pub spelled : IsSpelledBy g bytes p

-- the bytes are the text of this proof of a bound, and read as it
abbrev pub HasProof : Network → List ℕ → BoundProof → Type 0
HasProof g bytes (Near p) = IsNearText g bytes p
HasProof g bytes (Tree p) = IsTreeText g bytes p

-- the first cause why they are none: more customers than a near proof takes, before its text is
-- looked at any further; or that of the text of their kind
abbrev pub IsUnread : Network → List ℕ → BoundText → Type 0
IsUnread g bytes (Customers count) =
    (begins_tree bytes ≡ false) × (count ≡ customer_count g) × (most_customers < count)
IsUnread g bytes (Text fault) =
    MatchBool (begins_tree bytes) (tree_in g bytes ≡ Err fault)
    ((customer_count g ≤ most_customers) × (near.near_in g bytes ≡ Err fault))
