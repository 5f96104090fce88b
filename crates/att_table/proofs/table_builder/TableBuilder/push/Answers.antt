use Rattle.std.proofs.Common.{◌≡◌, ◌<◌, ◌++◌, ◌∷◌, [], length, sym, subst, arith}
use Rattle.std.proofs.lemmas.Grind.{common_steps}
use Rattle.att_table.specs.Table.{Contents, IsNext}
use Rattle.att_table.proofs.Facts.{kept-pushed}
use Rattle.att_table.proofs.table_builder.TableBuilder.push.Goals as goal
use Rattle.att_numbers.specs.declared.limit.TheConstants.{MAX_ATTRIBUTES}

pub invariant_of-self-2 : goal.invariant_of-self-2
invariant_of-self-2 c =
    let before = c.self.inside.attributes.items in
    let room : length before < MAX_ATTRIBUTES = grind (arith, common_steps) in
    let items : c.push_reserved.new.self.items ≡ before ++ c.args.attr ∷ [] = grind (arith, common_steps) in
    let next : IsNext before c.args.attr c.args.value.now =
    subst (λ (table : Contents). IsNext table.attributes c.args.attr c.args.value.now) (sym c.self.view_is) c.requires.next in
    rw (items, c.in_ok-push.ensures.ok) (kept-pushed before c.self.inside.values c.args.attr c.args.value.now c.self.invariant room next)
