-- What becomes of one connection at an event, before its end: it stays, it goes, or it comes.
use Rattle.std.proofs.Common.{◌≡◌, ℕ, zero, suc, Bool, true, false, ◌==◌, List, [], ◌∷◌, Some, refl, sym, ap, subst, ◌∙◌, add-zero}
use Rattle.std.proofs.lemmas.Bool.{eqb-true}
use Rattle.std.proofs.lemmas.List.{drop-take}
use Rattle.std.specs.Prelude.{map, take, drop, if◌then◌else◌}
use Rattle.att_numbers.specs.Types.{Handle, Row}
use Rattle.gatt_laws.proofs.runs.Silence.{only_serves_the_live}
use Rattle.gatt_laws.proofs.runs.KeptByChanges.{KeepsByChanges, keeps_if_live}
use Rattle.octet_io.proofs.Choices.{either_choice}
use Rattle.gatt_laws.specs.machine.Event.{Ordinal, Own, Event, Connected, Disconnected, Of, Completed, Credit, Tick, Replaced}
use Rattle.gatt_laws.specs.machine.Heard.{after_hearing}
use Rattle.gatt_laws.specs.machine.ConnectionState.{ConnectionState, Mark, Absent, Live, Ending, no_connection, fresh_connection, is_live, is_there}
use Rattle.gatt_laws.specs.machine.SharedState.{SharedState, fragment_size_of}
use Rattle.gatt_laws.specs.machine.State.{State, Change, own_change, with_packets_completed, after_packets_completed, connection_dropped, change_of, finished, packets_given}
use Rattle.gatt_laws.specs.machine.Effect.{Effect, effect_of}
use Rattle.gatt_laws.specs.laws.TwoWorlds.{GivesNothingToTheAbsent}
use Rattle.gatt_laws.specs.laws.Given.{packets_at}
use Rattle.le_acl.specs.Outgoing.{acl_octets}
use Rattle.le_acl.specs.Fragment.{Fragment}
use Rattle.le_acl.specs.Packets.{Pdu, packets_of}
use Rattle.le_hci.specs.declared.peer.Peer.{Peer}
use Rattle.octet_io.specs.Number.{Octets}

-- it stays: its peer, and what it was given; and it serves only if it did
pub record Stays (old new : ConnectionState) : Type 0 where
  pub peer : new.peer ≡ old.peer
  pub given : new.given ≡ old.given
  pub live : is_live old.mark ≡ false → is_live new.mark ≡ false

-- it comes where none is, and nothing is notified to it
pub record Comes (old new : ConnectionState) (raised : List Handle) : Type 0 where
  pub was_away : is_there old.mark ≡ false
  pub handle : ℕ
  pub peer : Peer
  pub is : new ≡ fresh_connection handle peer
  pub silent : raised ≡ []

pub data Becomes (old new : ConnectionState) (raised : List Handle) : Type 0 where
  Stayed : (stays : Stays old new) → Becomes old new raised
  Went : (is : new ≡ no_connection) → Becomes old new raised
  Came : (comes : Comes old new raised) → Becomes old new raised

stays : (connection : ConnectionState) → Stays connection connection
stays connection = record { peer = refl; given = refl; live = λ is. is }

ends : (connection new : ConnectionState) → new.peer ≡ connection.peer → new.given ≡ connection.given → is_live new.mark ≡ false → Stays connection new
ends connection new peer given away = record { peer = peer; given = given; live = λ is. away }

by-changes : (connection : ConnectionState) → KeepsByChanges Stays connection
by-changes connection = record {
  same = stays connection;
  authorized = λ until. record { peer = refl; given = refl; live = λ is. is };
  ended = λ reason. ends connection _ refl refl refl;
  key_asked = λ found. record { peer = refl; given = refl; live = λ is. is };
  stepped = λ step. record { peer = refl; given = refl; live = λ is. is };
  ended_then = λ step reason. ends connection _ refl refl refl;
  queued = λ pdu. record { peer = refl; given = refl; live = λ is. is };
  served_by = λ shared bond owed pdu asked. record { peer = refl; given = refl; live = λ is. is };
}

comes-or-stays : (connection : ConnectionState) (handle : ℕ) (peer : Peer) (there : Bool) → is_there connection.mark ≡ there
    → Becomes connection (if there then connection else fresh_connection handle peer) []
comes-or-stays connection handle peer true is = Stayed (stays connection)
comes-or-stays connection handle peer false is = Came (record { was_away = is; handle = handle; peer = peer; is = refl; silent = refl })

turn-becomes : (shared : SharedState) (bond : Row) (owed : Bool) (connection : ConnectionState) (own : Own)
    → (let effect = effect_of shared bond owed connection own in Becomes connection effect.connection effect.to_notify_here)
turn-becomes shared bond owed connection (Connected handle peer) = comes-or-stays connection handle peer (is_there connection.mark) refl
turn-becomes shared bond owed connection Disconnected = Went refl
turn-becomes shared bond owed connection own = Stayed (keeps_if_live Stays shared bond owed connection (stays connection) (λ live. by-changes connection) own)

completed-stays : (ordinal : Ordinal) (entries : List (Ordinal × ℕ)) (old connection : ConnectionState) → Stays old connection
    → Stays old (after_packets_completed ordinal entries connection)
completed-stays ordinal [] old connection is = is
completed-stays ordinal (entry ∷ entries) old connection is =
    completed-stays ordinal entries old (if entry.0 == ordinal then with_packets_completed connection entry.1 else connection)
    (either_choice (Stays old) (entry.0 == ordinal) _ _ (record { peer = is.peer; given = is.given; live = is.live }) is)

own-becomes : (state : State) (at : Ordinal) (own : Own) (ordinal : Ordinal)
    → (let change = own_change state at own in Becomes (state.connections ordinal) (change.state.connections ordinal) (change.to_notify ordinal))
own-becomes state at own ordinal =
    let connection : ConnectionState = state.connections at in
    let effect : Effect = effect_of state.shared (state.bonds connection.peer) (state.owed connection.peer) connection own in
    elim (ordinal == at) as
    (λ (is : Bool). (ordinal == at) ≡ is → Becomes (state.connections ordinal) (if is then effect.connection else state.connections ordinal)
    (if is then effect.to_notify_here else effect.to_notify)) [
      | true ↦ λ is.
          subst (λ (o : Ordinal). Becomes (state.connections o) effect.connection effect.to_notify_here) (sym (eqb-true ordinal at is))
          (turn-becomes state.shared (state.bonds connection.peer) (state.owed connection.peer) connection own)
      | false ↦ λ is. Stayed (stays (state.connections ordinal))
    ] refl

pub becomes : (state : State) (event : Event) (ordinal : Ordinal)
    → (let change = change_of state event in Becomes (state.connections ordinal) (change.state.connections ordinal) (change.to_notify ordinal))
unfolding change_of
becomes state (Of at own) ordinal = own-becomes state at own ordinal
becomes state (Completed entries) ordinal =
    Stayed (completed-stays ordinal entries (state.connections ordinal) (state.connections ordinal) (stays (state.connections ordinal)))
becomes state (Credit allowed opcode status (Some init)) ordinal = Stayed (stays (state.connections ordinal))
becomes state (Tick time) ordinal = Stayed (record { peer = refl; given = refl; live = λ is. is })
becomes state (Replaced table) ordinal =
    let connection : ConnectionState = state.connections ordinal in
    let dropped : Stays connection (connection_dropped connection) =
    either_choice (Stays connection) (is_live connection.mark) _ _
    (record { peer = refl; given = refl; live = λ is. is }) (stays connection) in
    Stayed (record { peer = dropped.peer; given = dropped.given; live = dropped.live })
becomes state event ordinal = Stayed (stays (state.connections ordinal))

-- Nothing is given to a connection that was not there, and nothing to one that goes.

take-none : {A : Type 0} (n : ℕ) → take {A = A} n [] ≡ []
take-none zero = refl
take-none (suc n) = refl

drop-none : {A : Type 0} (n : ℕ) → drop {A = A} n [] ≡ []
drop-none zero = refl
drop-none (suc n) = refl

dropped-all : {A : Type 0} (n : ℕ) (xs : List A) → drop n (take n xs) ≡ []
dropped-all n xs = ap (λ (k : ℕ). drop n (take k xs)) (sym (add-zero n)) ∙ drop-take n 0 xs

away-silent : (mark : Mark) → is_there mark ≡ false → is_live mark ≡ false
away-silent Absent is = refl
away-silent Live is = cc is
away-silent Ending is = refl

module _ (state : State) (event : Event) (ordinal : Ordinal) where
  abbrev change : Change
  change = change_of state event

  abbrev old : ConnectionState
  old = state.connections ordinal

  abbrev new : ConnectionState
  new = change.state.connections ordinal

  abbrev given : ConnectionState → List Octets
  given connection = packets_given change.state.shared old connection

  abbrev end_of : List Handle → ConnectionState → ConnectionState
  end_of raised connection = finished change.state.shared change.state.bonds raised connection

  pub none_goes : new ≡ no_connection → packets_at ordinal state event ≡ []
  none_goes is =
      ap (λ (connection : ConnectionState). given (end_of (change.to_notify ordinal) connection)) is
      ∙ ap given (only_serves_the_live change.state.shared change.state.bonds (change.to_notify ordinal) no_connection refl)
      ∙ ap (map (acl_octets 0)) (drop-none old.given)

  stayed-away : Stays old new → is_there old.mark ≡ false → packets_at ordinal state event ≡ []
  stayed-away stays away =
      ap given (only_serves_the_live change.state.shared change.state.bonds (change.to_notify ordinal) new (stays.live (away-silent old.mark away)))
      ∙ ap (λ (n : ℕ). map (acl_octets new.handle) (drop old.given (take n (packets_of (fragment_size_of change.state.shared.buffers) new.pdus)))) stays.given
      ∙ ap (map (acl_octets new.handle)) (dropped-all old.given (packets_of (fragment_size_of change.state.shared.buffers) new.pdus))

  come-hears : (handle : ℕ) (peer : Peer) → (end_of [] (fresh_connection handle peer)).pdus ≡ []
  unfolding after_hearing
  come-hears handle peer = refl

  came-to : Comes old new (change.to_notify ordinal) → packets_at ordinal state event ≡ []
  came-to comes =
      let is = comes.is in
      let silent = comes.silent in
      let connection : ConnectionState = end_of [] (fresh_connection comes.handle comes.peer) in
      (λ i. given (end_of (silent i) (is i)))
      ∙ ap (λ (pdus : List Pdu).
      map (acl_octets connection.handle) (drop old.given (take connection.given (packets_of (fragment_size_of change.state.shared.buffers) pdus))))
      (come-hears comes.handle comes.peer)
      ∙ ap (λ (xs : List Fragment). map (acl_octets connection.handle) (drop old.given xs)) (take-none connection.given)
      ∙ ap (map (acl_octets connection.handle)) (drop-none old.given)

  none-away : is_there old.mark ≡ false → Becomes old new (change.to_notify ordinal) → packets_at ordinal state event ≡ []
  none-away away (Stayed stays) = stayed-away stays away
  none-away away (Went is) = none_goes is
  none-away away (Came comes) = came-to comes

  -- nothing is given to one that was not there
  pub none_given : is_there old.mark ≡ false → packets_at ordinal state event ≡ []
  none_given away = none-away away (becomes state event ordinal)

  one-of : (P : Type 0) → is_there old.mark ≡ true → Becomes old new (change.to_notify ordinal) → (new.peer ≡ old.peer → P) → (new ≡ no_connection → P) → P
  one-of P there (Stayed stays) first second = first stays.peer
  one-of P there (Went is) first second = second is
  one-of P there (Came comes) first second = cc (there, comes.was_away)

  -- nor to one that was, and whose peer is not what it was
  pub none_left : is_there old.mark ≡ true → (new.peer ≡ old.peer → ⊥) → packets_at ordinal state event ≡ []
  none_left there differs = one-of (packets_at ordinal state event ≡ []) there (becomes state event ordinal) (λ is. absurd (differs is)) none_goes

pub gives_nothing_to_the_absent : GivesNothingToTheAbsent
gives_nothing_to_the_absent = none_given
