use Rattle.std.proofs.Common.{◌≡◌, ℕ, ◌≤◌, List, Option, ap, sym, subst, ◌∙◌}
use Rattle.std.specs.Option.{IfSome}
use Rattle.att_attributes.specs.declared.attr.Attr.{Attr}
use Rattle.att_table.specs.Changer.{changer_of, is_changer}
use Rattle.att_table.specs.Table.{Contents, values_of}
use Rattle.att_table.proofs.Changers.{found_within}
use Rattle.att_table.proofs.ServiceBefore.{changer_found}
use Rattle.att_table.proofs.table.Table.changer.Goals as goal
use Rattle.att_numbers.specs.declared.limit.TheConstants.{MAX_ATTRIBUTES}

pub returns-clause-found : goal.returns-clause-found
returns-clause-found c =
    let table = c.self.inside in
    let contents : List Attr → Contents = λ attributes. record { attributes = attributes; values = values_of table.values } in
    let answered : c.changer_of.result ≡ changer_of c.args.self.now =
    c.changer_of.ensures ∙ ap (λ attributes. changer_of (contents attributes)) c.deref.ensures.value ∙ ap changer_of c.self.view_is in
    changer_found table.attributes.items table.values table.group_ends.items table.by_type.items table.runs.items c.args.self.now _ c.self.invariant
    c.self.view_is answered

pub returns-clause-most : goal.returns-clause-most
returns-clause-most c =
    let held : List Attr → Contents = λ attributes. record { attributes = attributes; values = values_of c.self.inside.values } in
    let attributes = c.self.inside.attributes.items in
    let is = c.changer_of.ensures ∙ ap (λ (attributes : List Attr). changer_of (held attributes)) c.deref.ensures.value in
    subst (λ (found : Option ℕ). IfSome found (λ handle. handle ≤ MAX_ATTRIBUTES)) (sym is)
    (found_within (is_changer (held attributes)) attributes c.self.invariant.kept.numbered)
