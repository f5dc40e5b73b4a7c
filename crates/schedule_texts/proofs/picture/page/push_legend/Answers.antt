use Rattle.schedule_texts.specs.Pictures.{legend_text}
use Rattle.schedule_texts.proofs.picture.page.push_legend.Goals as goal

pub returns : goal.returns
unfolding legend_text
returns c = c.push_word.ensures.ok
