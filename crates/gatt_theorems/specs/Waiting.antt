-- An indication waits only behind one that is unconfirmed, or behind a backlog (Core 5.0, Vol 3
-- Part F, 3.3.2; the bound is this profile's own).
use Rattle.std.specs.Prelude.{◌≡◌, ℕ, ◌+◌, ◌≤◌, true, false, List, [], length, None}
use Rattle.att_numbers.specs.Types.{Handle, Values}
use Rattle.att_attributes.specs.declared.attr.Attr.{Attr}
use Rattle.gatt_laws.specs.machine.Heard.{heard_in_turn}
use Rattle.gatt_subs.specs.declared.pending.TheConstants.{MAX_BACKLOG}
use Rattle.gatt_subs.specs.Told.{Hearer}

-- If an indication still waits on a connection that serves, has not timed out and has none
-- unconfirmed, then MAX_BACKLOG PDUs or more are queued at that moment. Packets are given later.
abbrev pub WaitsOnlyBehindABacklog : Type 0
WaitsOnlyBehindABacklog =
    (attributes : List Attr) (values : Values) (hearer : Hearer) (now : ℕ) (handles : List Handle) →
    let heard = heard_in_turn attributes values hearer now handles in
    hearer.live ≡ true → heard.pending.timed_out ≡ false → heard.pending.unconfirmed ≡ None
    → (heard.pending.waiting ≡ [] → ⊥)
    → MAX_BACKLOG ≤ hearer.backlog + length heard.responses
