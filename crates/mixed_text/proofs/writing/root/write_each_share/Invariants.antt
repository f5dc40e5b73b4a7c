use Rattle.std.proofs.Common.{◌≡◌, ◌++◌, drop}
use Rattle.ev_text.specs.Texts.{joined_texts}
use Rattle.mixed_text.specs.MixedTexts.{mixed_share_text}
use Rattle.mixed_text.proofs.writing.root.write_each_share.Given as goal

abbrev pub invariant-loop-share : goal.invariant-loop-share
invariant-loop-share l = l.text.items ++ joined_texts mixed_share_text (drop l.share-index l.shares) ≡ l.fn.text.items ++ joined_texts mixed_share_text l.shares
