use Rattle.std.proofs.Common.{◌-◌, ◌<◌, length, ap, ◌∙◌, arith}
use Rattle.std.proofs.lemmas.Grind.{common_steps}
use Rattle.std.specs.Prelude.{IsSome}
use Rattle.att_attributes.specs.Attributes.{attribute_at}
use Rattle.att_attributes.specs.Group.{group_end_at}
use Rattle.att_attributes.proofs.Groups.{end_within, end_found}
use Rattle.att_table.proofs.table.Table.group_end.Goals as goal

pub index-requires : goal.index-requires
index-requires c =
    let same = ap (λ table. table.attributes) c.self.view_is in
    let found : IsSome (attribute_at c.self.inside.attributes.items c.args.handle) = rw same c.requires in
    let within : c.args.handle - 1 < length c.self.inside.group_ends.items = end_within _ _ _ c.self.invariant.ends found in
    grind (arith, common_steps)

pub returns : goal.returns
returns c =
    let same = ap (λ table. table.attributes) c.self.view_is in
    let found : IsSome (attribute_at c.self.inside.attributes.items c.args.handle) = rw same c.requires in
    let read = rw c.from.ensures at c.index.ensures in
    end_found _ _ _ _ c.self.invariant.ends found read ∙ ap (λ attributes. group_end_at attributes c.args.handle) same
