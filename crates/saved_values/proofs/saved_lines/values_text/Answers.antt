use Rattle.std.proofs.Common.{◌∙◌, ◌++◌, ap}
use Rattle.octet_io.specs.Number.{Octets}
use Rattle.saved_values.specs.ValuesText.{saved_values, values_text}
use Rattle.saved_values.proofs.Ascii.{text_utf8}
use Rattle.saved_values.proofs.Restored.{restores, restores_whole}
use Rattle.saved_values.proofs.saved_lines.values_text.Goals as goal

pub returns-clause-utf8 : goal.returns-clause-utf8
returns-clause-utf8 c =
    text_utf8 c.add_values.new.text.items (saved_values c.args.saves c.args.table.now c.args.initial.now)
    (c.in_ok-add_values.ensures.ok
    ∙ ap (λ (front : Octets). front ++ values_text (saved_values c.args.saves c.args.table.now c.args.initial.now)) c.new-text.ensures.items)
    c.in_ok-add_values.ensures.values

pub returns-clause-restores : goal.returns-clause-restores
returns-clause-restores c =
    restores c.args.saves c.args.table.now c.args.initial.now c.add_values.new.text.items c.add_values.ensures.table c.in_ok-add_values.ensures.values
    (c.in_ok-add_values.ensures.ok
    ∙ ap (λ (front : Octets). front ++ values_text (saved_values c.args.saves c.args.table.now c.args.initial.now)) c.new-text.ensures.items)

pub returns-clause-whole : goal.returns-clause-whole
returns-clause-whole c =
    restores_whole c.args.saves c.args.table.now c.args.initial.now c.add_values.new.text.items c.add_values.ensures.table
    c.in_ok-add_values.ensures.values
    (c.in_ok-add_values.ensures.ok
    ∙ ap (λ (front : Octets). front ++ values_text (saved_values c.args.saves c.args.table.now c.args.initial.now)) c.new-text.ensures.items)
