use Rattle.std.proofs.Common.{◌≡◌, List, Option, ap, subst, ◌∙◌}
use Rattle.std.proofs.lemmas.Result.{on_ok_weaker}
use Rattle.att_policy.specs.declared.standing.KeyFacts.{KeyFacts}
use Rattle.policy_rights.specs.Columns.{columns_among}
use Rattle.policy_words.specs.Columns.{matrix_columns}
use Rattle.policy_words.specs.matrix.Layout.{HasLeastWidths}
use Rattle.policy_words.specs.matrix.Rows.{AddsBlocks}
use Rattle.policy_words.specs.matrix.Shown.{columns_of_table}
use Rattle.policy_words.specs.declared.columns.Column.{Column}
use Rattle.policy_words.proofs.matrix.add_matrix.Goals as goal

pub returns-clause-ok : goal.returns-clause-ok
returns-clause-ok c =
    let layout = c.in_ok-layout.layout in
    let table = c.args.table.now in
    let kinds : c.deref.result.now ≡ columns_among c.args.keys.now = c.deref.ensures.value ∙ c.in_ok-kinds.ensures in
    let named : c.in_ok-columns.columns.items ≡ columns_of_table table c.args.keys.now =
    c.in_ok-columns.ensures ∙ ap (λ (keys : List (Option KeyFacts)). matrix_columns table.attributes keys) kinds in
    let laid : c.deref-2.result.now ≡ columns_of_table table c.args.keys.now = c.deref-2.ensures.value ∙ named in
    let added : c.deref-3.result.now ≡ columns_of_table table c.args.keys.now = c.deref-3.ensures.value ∙ named in
    on_ok_weaker c.add_explanation.result
    (λ explained. record {
      layout = layout;
      widths = subst (λ (columns : List Column). HasLeastWidths layout table columns c.args.width) laid c.in_ok-layout.ensures;
      matrix = c.add_blocks.new.text.items;
      blocks =
          subst (λ (columns : List Column).
          AddsBlocks layout table columns c.args.text.now.items c.add_blocks.new.text.items) added
          c.in_ok-add_blocks.ensures.ok;
      told = explained;
    })
    c.add_explanation.ensures.ok
