-- The keys of links, as a listener knows them.
use Rattle.std.specs.Prelude.{◌≡◌, ℕ, ◌==◌, true, fold, if◌then◌else◌, List, Option, Some, None}
use Rattle.att_policy.specs.declared.standing.KeyFacts.{KeyFacts}
use Rattle.gatt_laws.specs.machine.ConnectionState.{is_there, key_of}
use Rattle.gatt_laws.specs.machine.Event.{Ordinal}
use Rattle.gatt_laws.specs.machine.Input.{Item, run}
use Rattle.gatt_laws.specs.machine.Notice.{Notice, Connected, Secured, Unsecured, all_notices}
use Rattle.gatt_laws.specs.machine.Start.{Start}
use Rattle.gatt_laws.specs.machine.State.{State}

abbrev pub KnownKeys : Type 0
KnownKeys = ℕ → Option KeyFacts

abbrev pub with_key : ℕ → Option KeyFacts → KnownKeys → KnownKeys
with_key handle key known other = if handle == other then key else known other

-- A link has no key when its connection connects, then the key of the last notice of it.
abbrev pub known_keys_after : KnownKeys → Notice → KnownKeys
known_keys_after known (Connected handle peer) = with_key handle None known
known_keys_after known (Secured handle facts) = with_key handle (Some facts) known
known_keys_after known (Unsecured handle) = with_key handle None known
known_keys_after known notice = known

abbrev pub no_keys_known : KnownKeys
no_keys_known handle = None

abbrev pub AreKeysKnown : State → KnownKeys → Type 0
AreKeysKnown state known = (ordinal : Ordinal) → is_there (state.connections ordinal).mark ≡ true
    → known (state.connections ordinal).handle ≡ key_of (state.connections ordinal)

-- In every run a listener knows the facts of each link's key.
abbrev pub KnowsTheKeys : Type 0
KnowsTheKeys = (start : Start) (input : List Item) →
    AreKeysKnown (run start input).intake.state
    (fold known_keys_after no_keys_known (all_notices start input))
