use Rattle.schedule_texts.specs.Maps.{map_style}
use Rattle.schedule_texts.proofs.map.page.push_map_style.Goals as goal

pub returns : goal.returns
unfolding map_style
returns c = c.push_word.ensures.ok
