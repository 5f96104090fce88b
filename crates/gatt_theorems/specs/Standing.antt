-- No client changes by its requests what decides its rights: the guards of the table, the keys of
-- peers, its authorization, the key of its link, and the time.
use Rattle.std.specs.Prelude.{◌≡◌, false}
use Rattle.gatt_laws.specs.laws.RowNotices.{is_replacement}
use Rattle.gatt_laws.specs.machine.Event.{Ordinal, Own, Event, Connected, Disconnected, Encrypted, Refreshed, Authorized, Of, Tick}
use Rattle.gatt_laws.specs.machine.ConnectionState.{key_of}
use Rattle.gatt_laws.specs.machine.State.{State, step}

-- Guards change only if the table is replaced, the keys of peers never.
abbrev pub KeepsTheGuards : Type 0
KeepsTheGuards = (state : State) (event : Event) → is_replacement event ≡ false
    → (step state event).shared.table.attributes ≡ state.shared.table.attributes

abbrev pub KeepsTheKeys : Type 0
KeepsTheKeys = (state : State) (event : Event) → (step state event).shared.keys ≡ state.shared.keys

-- Only the application changes the time.
abbrev pub IsTick : Event → Type 0
IsTick (Tick time) = Unit
IsTick event = ⊥

abbrev pub TellsTheTimeAlone : Type 0
TellsTheTimeAlone =
    (state : State) (event : Event) → ((step state event).shared.time ≡ state.shared.time → ⊥)
    → IsTick event

-- Only the application authorizes a connection, which connects and disconnects without an
-- authorization.
abbrev pub Authorizes : Own → Type 0
Authorizes (Authorized until) = Unit
Authorizes (Connected handle peer) = Unit
Authorizes Disconnected = Unit
Authorizes own = ⊥

abbrev pub AuthorizesOne : Ordinal → Event → Type 0
AuthorizesOne ordinal (Of at own) = (ordinal ≡ at) × Authorizes own
AuthorizesOne ordinal event = ⊥

abbrev pub AuthorizesByTheApplication : Type 0
AuthorizesByTheApplication = (state : State) (event : Event) (ordinal : Ordinal)
    → (((step state event).connections ordinal).until ≡ (state.connections ordinal).until → ⊥)
    → AuthorizesOne ordinal event

-- The key of a link changes only by what the controller reports of that link.
abbrev pub Encrypts : Own → Type 0
Encrypts (Encrypted status enabled) = Unit
Encrypts (Refreshed status) = Unit
Encrypts (Connected handle peer) = Unit
Encrypts Disconnected = Unit
Encrypts own = ⊥

abbrev pub EncryptsOne : Ordinal → Event → Type 0
EncryptsOne ordinal (Of at own) = (ordinal ≡ at) × Encrypts own
EncryptsOne ordinal event = ⊥

abbrev pub EncryptsByTheController : Type 0
EncryptsByTheController = (state : State) (event : Event) (ordinal : Ordinal)
    → (key_of ((step state event).connections ordinal) ≡ key_of (state.connections ordinal) → ⊥)
    → EncryptsOne ordinal event
