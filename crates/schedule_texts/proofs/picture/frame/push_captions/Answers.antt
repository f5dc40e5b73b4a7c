use Rattle.schedule_texts.specs.Frames.{captions_text}
use Rattle.schedule_texts.proofs.picture.frame.push_captions.Goals as goal

pub returns : goal.returns
unfolding captions_text
returns c = c.push_word.ensures.ok
