-- The reader of a tree reads exactly its text.
use Rattle.std.proofs.Common.{◌^◌, ◌<◌, ◌++◌, ◌∷◌, [], codes, refl}
use Rattle.ev_model.specs.Network.{Network, scaled_limit}
use Rattle.ev_text.specs.Texts.{StandsUnlessLonger}
use Rattle.ev_text.proofs.Numbers.{Anything}
use Rattle.ev_text.proofs.ReadingLaws.{Reads}
use Rattle.ev_text.proofs.Records.{parts-behind, parts-last, parts-then, reads-record}
use Rattle.certificate_parts.specs.Ranges.{customer_count}
use Rattle.certificate_parts.proofs.BasisLines.{reads-bound}
use Rattle.tree_text.specs.Reading.{tree_at}
use Rattle.tree_text.specs.TreeTexts.{tree_text}
use Rattle.tree_text.specs.WrittenRanges.{TreeIs, TreeLoose}
use Rattle.tree_text.proofs.NodeReading.{reads-nodes}

pub reads-tree : (g : Network) → customer_count g < 10 ^ 64 → g.capacity < 10 ^ 64 → scaled_limit g < 10 ^ 64 → Reads StandsUnlessLonger (tree_at g) tree_text (TreeIs g) (TreeLoose g) Anything
reads-tree g few small_capacity small_limit =
    reads-record
    (parts-behind 101 (codes "vroute near tree 1" ++ 10 ∷ [])
    (parts-then reads-bound (λ bound. parts-last (reads-nodes g few small_capacity small_limit) (λ nodes. record { bound = bound; nodes = nodes })) (λ bound nodes rest is fit any. tt)))
    (record {
      parts = λ w is. ((w.bound, w.nodes), (is.bound, is.nodes), refl, λ rest any. tt);
      fits = λ p is. record { bound = is.0; nodes = is.1 };
      loose = λ p is. record { bound = is.0; nodes = is.1 };
      texts = λ p is. refl;
    })
