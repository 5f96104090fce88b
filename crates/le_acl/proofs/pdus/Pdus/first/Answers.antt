use Rattle.std.proofs.Common.{◌≡◌, ℕ, ◌<◌, length, get_or, take, Some, sym, ◌∙◌, ap, ap₂, true≢false, arith}
use Rattle.std.specs.Prelude.{slice_get}
use Rattle.std.proofs.lemmas.List.{get_or_default}
use Rattle.arrayvec.specs.ArrayVec.{ArrayVec}
use Rattle.octet_io.specs.Number.{Octets}
use Rattle.le_acl.specs.declared.pdus.Header.{Header}
use Rattle.le_acl.specs.Pdus.{Queued, empty, no_header}
use Rattle.le_acl.proofs.Rings.{count_is, front_is}
use Rattle.le_acl.proofs.pdus.Pdus.first.Goals as goal

pub returns-clause-none : goal.returns-clause-none
returns-clause-none c = (
  λ same. absurd (true≢false same),
  λ none. absurd (omega (arith, c.if-self-eq0.false, ap length none, count_is _ _ _ _ c.self.invariant, ap (λ (q : Queued). length q.pdus) c.self.view_is)),
)

pub returns-clause-first : goal.returns-clause-first
returns-clause-first c =
    let some : 0 < c.self.inside.count = omega (arith, c.if-self-eq0.false) in
    let header : Header = get_or c.self.inside.headers c.self.inside.first no_header in
    let below : c.self.inside.first < length c.self.inside.payloads.items.items = omega (arith, c.self.invariant.first_below, c.self.invariant.payloads_length)
    in
    let octets : (get_or c.self.inside.payloads.items.items c.self.inside.first empty).items ≡ c.as_slice.result.now =
    ap (λ (payload : ArrayVec ℕ). payload.items) (get_or_default c.self.inside.payloads.items.items c.self.inside.first empty c.index.result.now below
    ∙ sym c.index.ensures)
    ∙ sym c.as_slice.ensures.value in
    ap (λ (q : Queued). slice_get q.pdus 0) (sym c.self.view_is)
    ∙ front_is _ _ _ _ c.self.invariant some
    ∙ ap₂ (λ (count : ℕ) (xs : Octets). Some (header.channel, take count xs)) (sym c.from.ensures) octets
