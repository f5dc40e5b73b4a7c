-- What contracts see of labels under test.
use Rattle.ev_model.specs.Network.{node_count}
use Rattle.route_proof.specs.Links.{AreEntries}
use Rattle.route_proof.specs.Questions.{IsQuestion, Question}
use Rattle.route_proof.specs.declared.judged.Judged.TheInside.{Inside}

abbrev pub question : Inside → Question
question s = record {
  journey = record { network = s.inst.now; route = s.route.now; start = s.start };
  bar = s.bar;
  labels = s.labels.now;
}

pub record IsJudged (s : Inside) : Type 0 where
  pub ranges : IsQuestion (question s)
  pub entries : AreEntries (node_count s.inst.now) s.labels.now s.entries.items
