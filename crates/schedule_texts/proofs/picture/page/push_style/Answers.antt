use Rattle.schedule_texts.specs.Pictures.{style_text}
use Rattle.schedule_texts.proofs.picture.page.push_style.Goals as goal

pub returns : goal.returns
unfolding style_text
returns c = c.push_word.ensures.ok
