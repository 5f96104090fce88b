use Rattle.std.proofs.Common.{◌≡◌, ◌+◌, length, ap, ◌∙◌, arith}
use Rattle.std.proofs.lemmas.Grind.{common_steps}
use Rattle.att_attributes.specs.declared.attr.Role.TheVariants.{Declaration}
use Rattle.att_table.specs.Table.{last_role}
use Rattle.att_table.proofs.Facts.{last-push}
use Rattle.att_table.proofs.Services.{handles_pushed}
use Rattle.att_table.proofs.file.draft.Draft.add.Goals as goal

pub invariant_of-self-2 : goal.invariant_of-self-2
invariant_of-self-2 c =
    let next : c.args.attr.handle ≡ length c.self.inside.table.attributes + 1 = grind (arith, common_steps) in
    record {
      counted_configurations = grind (arith, common_steps);
      counted_octets = grind (arith, common_steps);
      within = grind (arith, common_steps);
      handles = rw c.in_ok-push.ensures.attributes (handles_pushed c.self.inside.table.attributes c.args.attr c.self.invariant.handles next);
    }

pub returns-clause-last : goal.returns-clause-last
returns-clause-last c =
    ap (last_role Declaration) c.in_ok-push.ensures.attributes ∙ last-push Declaration c.self.inside.table.attributes c.args.attr
