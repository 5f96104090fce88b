use Rattle.std.proofs.Common.{◌∷◌, ◌++◌, List, ap, ◌∙◌}
use Rattle.std.specs.List.{flat_map}
use Rattle.std.proofs.lemmas.List.{take-append-drop}
use Rattle.std.proofs.lemmas.Result.{on_ok_weaker}
use Rattle.policy_words.specs.matrix.Rows.{AddsBlocks, block_text}
use Rattle.policy_words.specs.declared.columns.Column.{Column}
use Rattle.policy_words.proofs.Added.{joined}
use Rattle.policy_words.proofs.matrix.rows.+add_blocks.Goals as goal

pub returns : goal.returns
returns size c =
    let front : List Column = c.split_at.result.0.now in
    record {
      ok =
          on_ok_weaker c.add_blocks.result
          (λ (rest : AddsBlocks c.args.layout c.args.table.now c.split_at.result.1.now c.add_block.new.text.items c.add_blocks.new.text.items). record {
            parts = front ∷ rest.parts;
            all = ap (λ (back : List Column). front ++ back) rest.all ∙ (λ i. c.split_at.ensures.front i ++ c.split_at.ensures.back i) ∙ take-append-drop _ c.args.columns.now;
            told = joined c.args.text.now.items (block_text c.args.layout c.args.table.now front)
                (flat_map (block_text c.args.layout c.args.table.now) rest.parts)
                c.in_ok-add_block.ensures.ok rest.told;
          })
          c.add_blocks.ensures.ok;
    }
