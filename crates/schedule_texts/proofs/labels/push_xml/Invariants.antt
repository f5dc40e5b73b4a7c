use Rattle.std.proofs.Common.{◌≡◌, ◌++◌, drop}
use Rattle.ev_text.specs.Texts.{joined_texts}
use Rattle.schedule_texts.specs.Labels.{xml_byte}
use Rattle.schedule_texts.proofs.labels.push_xml.Given as goal

abbrev pub invariant-loop-byte : goal.invariant-loop-byte
invariant-loop-byte l =
    l.out.items ++ joined_texts xml_byte (drop l.byte-index l.text) ≡ l.fn.out.items ++ joined_texts xml_byte l.text
