-- An indication waits only behind another, or behind a backlog.
use Rattle.std.proofs.Common.{◌≡◌, ℕ, ◌+◌, ◌≤◌, Bool, true, false, List, [], ◌∷◌, None, refl, sym, ◌∙◌, arith}
use Rattle.std.specs.Prelude.{is_some, nat_lt, ◌&&◌, not, if◌then◌else◌}
use Rattle.std.specs.Option.{option_map}
use Rattle.std.proofs.lemmas.Bool.{ltb-false}
use Rattle.std.proofs.lemmas.List.{length-append}
use Rattle.att_numbers.specs.Types.{Handle}
use Rattle.att_attributes.specs.declared.attr.Attr.{Attr}
use Rattle.gatt_laws.specs.machine.Heard.{Heard, heard_when_notifying, hearer_after, heard_in_turn}
use Rattle.gatt_subs.specs.Hearing.{is_indicated}
use Rattle.gatt_subs.specs.Indications.{Indications, after_indicate, first_handle, rest_of, from_due, may_indicate, unconfirmed_since}
use Rattle.gatt_subs.specs.declared.pending.TheConstants.{MAX_BACKLOG}
use Rattle.gatt_subs.specs.Told.{Hearer}
use Rattle.gatt_theorems.specs.Waiting.{WaitsOnlyBehindABacklog}

-- nothing waits behind what is indicated
rest-none : (now : ℕ) (due : List Handle) → option_map (unconfirmed_since now) (first_handle due) ≡ None → rest_of due ≡ []
rest-none now [] none = refl
rest-none now (handle ∷ rest) none = cc none

held-back : (pending : Indications) (backlog : ℕ) → may_indicate pending backlog ≡ false → pending.unconfirmed ≡ None → pending.timed_out ≡ false
    → MAX_BACKLOG ≤ backlog
held-back pending backlog may none in_time =
    omega (
      arith,
      ltb-false backlog MAX_BACKLOG (
          sym ((λ i. not (is_some (none i)) && not (in_time i) && nat_lt backlog MAX_BACKLOG)) ∙ may),
    )

released : (attributes : List Attr) (hearer : Hearer) (now count : ℕ) (may : Bool) → may_indicate hearer.pending hearer.backlog ≡ may
    → (let due : List Handle = from_due (is_indicated attributes hearer.row hearer.standing) hearer.pending.waiting in
    let pending : Indications = if may then record hearer.pending { waiting = rest_of due; unconfirmed = option_map (unconfirmed_since now) (first_handle due) }
    else hearer.pending in
    pending.timed_out ≡ false → pending.unconfirmed ≡ None → (pending.waiting ≡ [] → ⊥) → MAX_BACKLOG ≤ hearer.backlog + count)
released attributes hearer now count true is in_time none waits =
    absurd (waits (rest-none now (from_due (is_indicated attributes hearer.row hearer.standing) hearer.pending.waiting) none))
released attributes hearer now count false is in_time none waits = omega (arith, held-back hearer.pending hearer.backlog is none in_time)

at-end : (attributes : List Attr) (hearer : Hearer) (now count : ℕ) (live : Bool) → live ≡ true
    → (let pending : Indications =
    if live then after_indicate hearer.pending attributes hearer.row hearer.standing hearer.backlog now else hearer.pending in
    pending.timed_out ≡ false → pending.unconfirmed ≡ None → (pending.waiting ≡ [] → ⊥) → MAX_BACKLOG ≤ hearer.backlog + count)
at-end attributes hearer now count true live = released attributes hearer now count (may_indicate hearer.pending hearer.backlog) refl
at-end attributes hearer now count false live = cc live

pub waits_only_behind_a_backlog : WaitsOnlyBehindABacklog
waits_only_behind_a_backlog attributes values hearer now [] live in_time none waits =
    at-end attributes hearer now _ hearer.live live in_time none waits
waits_only_behind_a_backlog attributes values hearer now (handle ∷ handles) live in_time none waits =
    let first : Heard = heard_when_notifying attributes values hearer handle in
    let rest : Heard = heard_in_turn attributes values (hearer_after hearer first) now handles in
    let later = waits_only_behind_a_backlog attributes values (hearer_after hearer first) now handles live in_time none waits in
    omega (arith, later, length-append first.responses rest.responses)
