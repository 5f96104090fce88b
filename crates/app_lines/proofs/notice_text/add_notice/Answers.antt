use Rattle.std.proofs.Common.{ℕ, ◌++◌, ◌∷◌, codes, ap, sym, ◌∙◌}
use Rattle.std.specs.Fmt.{decimal}
use Rattle.app_lines.proofs.Adding.{then_added}
use Rattle.app_lines.specs.NoticeText.{notice_text, of_attribute}
use Rattle.app_lines.proofs.notice_text.add_notice.Goals as goal

pub returns-in_ok-add_connection-in-Connected : goal.returns-in_ok-add_connection-in-Connected
returns-in_ok-add_connection-in-Connected c = record {
  ok =
      then_added c.add_peer.result c.args.text.now.items c.add_connection.new.text.items c.add_peer.new.text.items _ _
      (notice_text c.args.name c.args.notice.now)
      c.in_ok-add_connection-in-Connected.ensures.ok c.add_peer.ensures.ok (ap (notice_text c.args.name) c.in-Connected.is);
}

pub returns-in_ok-add_attribute-in-Configured : goal.returns-in_ok-add_attribute-in-Configured
returns-in_ok-add_attribute-in-Configured c = record {
  ok =
      then_added c.add_number.result c.args.text.now.items c.add_attribute-in-Configured.new.text.items c.add_number.new.text.items _ _
      (notice_text c.args.name c.args.notice.now)
      c.in_ok-add_attribute-in-Configured.ensures.ok c.add_number.ensures.ok
      (ap (notice_text c.args.name) c.in-Configured.is
      ∙ ap (λ (bits : ℕ). of_attribute (codes "+ configured ") c.args.name c.in-Configured.attribute ++ 32 ∷ decimal bits) (sym c.from.ensures));
}
