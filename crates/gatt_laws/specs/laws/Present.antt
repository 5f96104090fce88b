-- The connected peers, as a listener knows them.
use Rattle.std.specs.Prelude.{◌≡◌, ℕ, ◌==◌, true, if◌then◌else◌, List, [], ◌∷◌, Option, Some, None}
use Rattle.std.specs.Option.{option_map}
use Rattle.gatt_laws.specs.machine.Context.{holding}
use Rattle.gatt_laws.specs.machine.Event as event
use Rattle.gatt_laws.specs.machine.Event.{Ordinal, Event, Of}
use Rattle.gatt_laws.specs.machine.Input.{Item, run}
use Rattle.gatt_laws.specs.machine.Notice.{Notice, Connected, Disconnected, noticed, all_notices}
use Rattle.gatt_laws.specs.laws.Placed.{IsPlaced}
use Rattle.gatt_laws.specs.laws.Possible.{Possible}
use Rattle.gatt_laws.specs.laws.Settled.{has_slot, IsSettled}
use Rattle.gatt_laws.specs.machine.Start.{Start}
use Rattle.gatt_laws.specs.machine.State.{State, step}
use Rattle.le_hci.specs.declared.peer.Peer.{Peer}

abbrev pub Present : Type 0
Present = ℕ → Option Peer

abbrev pub present_after : Present → Notice → Present
present_after present (Connected handle peer) =
    λ other. if handle == other then Some peer else present other
present_after present (Disconnected handle) =
    λ other. if handle == other then None else present other
present_after present notice = present

abbrev pub present_in : Present → List Notice → Present
present_in present [] = present
present_in present (notice ∷ notices) = present_in (present_after present notice) notices

abbrev pub nobody_present : Present
nobody_present handle = None

abbrev pub peers_in : State → Present
peers_in state handle =
    option_map (λ ordinal. (state.connections ordinal).peer) (holding state handle)

-- A listener knows which handles have a slot, and with which peer.
abbrev pub KnowsWhoIsThere : Type 0
KnowsWhoIsThere = (start : Start) (input : List Item) (handle : ℕ) →
    present_in nobody_present (all_notices start input) handle
    ≡ peers_in (run start input).intake.state handle

-- No two connections with a slot have the same handle.
abbrev pub HasOneHandleEach : State → Type 0
HasOneHandleEach state = (one other : Ordinal) → has_slot one state.slots ≡ true
    → has_slot other state.slots ≡ true
    → (state.connections one).handle ≡ (state.connections other).handle → one ≡ other

abbrev pub AlwaysHasOneHandleEach : Type 0
AlwaysHasOneHandleEach = (start : Start) (input : List Item) →
    HasOneHandleEach (run start input).intake.state

pub record IsKnowing (state : State) : Type 0 where
  pub settled : IsSettled state
  pub placed : IsPlaced state
  pub handles : HasOneHandleEach state

abbrev pub ConnectsUnused : State → Event → Type 0
ConnectsUnused state (Of ordinal (event.Connected handle peer)) = holding state handle ≡ None
ConnectsUnused state event = Unit

-- The notices of each possible event turn the peers before it into those after it.
abbrev pub TellsWhoIsThere : Type 0
TellsWhoIsThere = (state : State) (event : Event) (handle : ℕ) → IsKnowing state
    → Possible (λ table. Unit) state event → ConnectsUnused state event
    → present_in (peers_in state) (noticed state event) handle ≡ peers_in (step state event) handle
