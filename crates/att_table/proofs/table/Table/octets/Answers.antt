use Rattle.std.proofs.Common.{◌≡◌, ap, arith, ◌∙◌}
use Rattle.std.specs.Prelude.{sum_by}
use Rattle.att_attributes.specs.declared.attr.Attr.{Attr}
use Rattle.att_table.proofs.Facts.{sum-largest}
use Rattle.att_table.proofs.Tables.{octets-kept}
use Rattle.att_table.proofs.table.Table.octets.Goals as goal

pub returns-clause-sum : goal.returns-clause-sum
returns-clause-sum c =
    c.octets.ensures ∙ octets-kept _ _ c.self.invariant.kept ∙ ap (λ table. sum_by (λ attr. attr.largest) table.attributes) c.self.view_is

pub returns-clause-most : goal.returns-clause-most
returns-clause-most c =
    let kept = c.self.invariant.kept in
    let attributes = c.self.inside.attributes.items in
    let sum : c.octets.result ≡ sum_by (λ (attr : Attr). attr.largest) attributes = c.octets.ensures ∙ octets-kept _ _ kept in
    let bound = sum-largest attributes kept.largest in
    omega (arith, sum, bound, c.self.invariant.counted, kept.numbered.most)
