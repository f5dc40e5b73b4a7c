use Rattle.std.proofs.Common.{◌≡◌, ◌∙◌, ◌++◌, ap, length, map}
use Rattle.ev_text.specs.Texts.{joined_texts}
use Rattle.certificate_parts.specs.Texts.{label_text, prices_text}
use Rattle.bound_certificate.specs.CertificateTexts.{pair_text}
use Rattle.certificate_parts.specs.Written.{written_label}
use Rattle.bound_certificate.proofs.Sections.{section_written}
use Rattle.bound_certificate.proofs.text.writing.section.write_section.Goals as goal

pub returns : goal.returns
returns c =
    let found = c.in_ok-pairs.pairs.items in
    let count : c.len.result ≡ length found = c.len.ensures ∙ c.in_ok-pairs.pairs.ok.0 in
    let labels : c.len-2.result ≡ length c.args.section.now.labels = c.len-2.ensures in
    let prices = c.in_ok-write_prices.ensures ∙ ap (λ ps. c.write_head.new.text.items ++ prices_text ps) c.as_slice.ensures in
    let pairs = c.in_ok-write_pairs.ensures ∙ ap (λ ps. c.write_prices.new.text.items ++ joined_texts pair_text ps) c.deref.ensures.value in
    let last = c.in_ok-write_labels.ensures ∙ ap (λ ls. c.write_pairs.new.text.items ++ joined_texts label_text (map (written_label c.args.inst.now) ls)) c.as_slice-2.ensures in
    section_written c.args.inst.now c.args.section.now found c.len.result c.len-2.result c.args.text.now.items c.write_head.new.text.items c.write_prices.new.text.items c.write_pairs.new.text.items c.write_labels.new.text.items
    c.in_ok-pairs.ensures count labels c.in_ok-write_head.ensures prices pairs last
