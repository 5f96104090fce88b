use Rattle.std.proofs.Common.{◌≡◌, ◌++◌, List, [], ◌∷◌, Option, ap, ◌∙◌}
use Rattle.std.proofs.lemmas.Result.{on_ok_weaker}
use Rattle.att_policy.specs.declared.standing.KeyFacts.{KeyFacts}
use Rattle.policy_rights.specs.declared.finding.Finding.{Finding}
use Rattle.policy_rights.specs.Columns.{columns_among}
use Rattle.policy_rights.specs.Findings.{findings_of}
use Rattle.policy_words.specs.Columns.{named_kinds}
use Rattle.policy_words.specs.Legend.{legend_text}
use Rattle.policy_words.specs.matrix.Look.{look_text}
use Rattle.policy_words.specs.matrix.Shown.{columns_of_table, kinds_of_table}
use Rattle.policy_words.proofs.Added.{joined}
use Rattle.policy_words.proofs.matrix.add_explanation.Goals as goal

pub returns : goal.returns
returns c =
    let keys = c.args.keys.now in
    let table = c.args.table.now in
    let old = c.args.text.now.items in
    let look = look_text (findings_of table keys (columns_among keys)) in
    let named : c.deref.result.now ≡ kinds_of_table table keys =
    c.deref.ensures.value ∙ c.in_ok-named.ensures
    ∙ (λ i. named_kinds table.attributes (c.requires.kinds i) (c.requires.columns i)) in
    let legend : c.add_legend.new.text.items ≡ old ++ legend_text keys (columns_of_table table keys) (kinds_of_table table keys) =
    c.in_ok-add_legend.ensures.ok ∙ (λ i. old ++ legend_text keys (c.requires.columns i) (named i)) in
    let found : c.deref-2.result.now ≡ findings_of table keys (columns_among keys) =
    c.deref-2.ensures.value ∙ c.in_ok-found.ensures
    ∙ ap (λ (kinds : List (Option KeyFacts)). findings_of table keys kinds) c.requires.kinds in
    record {
      ok =
          on_ok_weaker c.add_look.result
          (λ added.
          joined old (legend_text keys (columns_of_table table keys) (kinds_of_table table keys)) (10 ∷ look) legend
          (joined c.add_legend.new.text.items (10 ∷ []) look c.in_ok-add_octets.ensures.ok
          (added ∙ ap (λ (findings : List Finding). c.add_octets.new.text.items ++ look_text findings) found)))
          c.add_look.ensures.ok;
    }
