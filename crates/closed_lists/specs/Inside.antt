-- What contracts see of a section under test.
use Rattle.ev_model.specs.Network.{IsNetwork, node_count}
use Rattle.closed_lists.specs.Links.{AreEntries}
use Rattle.closed_lists.specs.Questions.{IsQuestion, Question}
use Rattle.closed_lists.specs.declared.question.Question.TheInside.{Inside}

abbrev pub question : Inside → Question
question s = record {
  network = s.inst.now;
  pairs = s.pairs.now;
  weight = s.weight;
  prices = s.prices.now;
  labels = s.labels.now;
}

pub record IsSoundQuestion (s : Inside) : Type 0 where
  pub ranges : IsQuestion (question s)
  pub network : IsNetwork s.inst.now
  pub entries : AreEntries (node_count s.inst.now) s.prices.now s.labels.now s.entries.items
