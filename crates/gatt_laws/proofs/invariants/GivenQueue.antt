-- What an event leaves of the queue of a connection that is there before and after it.
use Rattle.std.proofs.Common.{◌≡◌, ℕ, zero, suc, ◌+◌, ◌≤◌, Bool, true, false, List, [], ◌∷◌, ◌++◌, length, map, take, drop, Option, Some, None, refl, sym, subst, ap, ◌∙◌, arith, append_assoc, append-nil}
use Rattle.std.specs.Prelude.{min, is_some, nat_lt, ◌==◌, if◌then◌else◌}
use Rattle.std.specs.Option.{option_to_list}
use Rattle.std.proofs.lemmas.Bool.{eqb-true}
use Rattle.std.proofs.lemmas.Grind.{flat_map-append}
use Rattle.std.proofs.lemmas.List.{length-append, map-append}
use Rattle.att_numbers.specs.Types.{Handle, Row}
use Rattle.att_table.specs.ConfigRow.{kept_row}
use Rattle.att_table.specs.Table.{Contents}
use Rattle.gatt_conn.specs.Answer.{answer_to}
use Rattle.std.specs.List.{flat_map}
use Rattle.gatt_laws.proofs.runs.Ends.{end_keeps}
use Rattle.le_acl.specs.History.{packets_allowed}
use Rattle.gatt_laws.proofs.runs.Silence.{only_serves_the_live}
use Rattle.gatt_laws.specs.machine.Controller.{command_of_init, count_before, without_command}
use Rattle.gatt_laws.proofs.runs.KeptByChanges.{KeepsByChanges, keeps_if_live}
use Rattle.octet_io.proofs.Choices.{either_choice}
use Rattle.gatt_laws.specs.machine.Event.{Ordinal, Own, Event, Connected, Disconnected, Of, Completed, Credit, Tick, Replaced}
use Rattle.gatt_laws.specs.laws.Given.{packets_given_by_now}
use Rattle.gatt_laws.specs.machine.Heard.{heard_in_turn, hearer_of, after_hearing, att_pdu}
use Rattle.gatt_laws.specs.machine.ConnectionState.{ConnectionState, is_live, is_there, row_in_force, bearer_of}
use Rattle.gatt_laws.specs.machine.SharedState.{SharedState, Bonds, share_of, fragment_size_of}
use Rattle.gatt_laws.specs.machine.State.{State, Change, with_packets_completed, after_packets_completed, connection_after_replacement, change_of, finished, connections_finished, step}
use Rattle.gatt_laws.specs.machine.Effect.{effect_of}
use Rattle.le_acl.specs.Fragment.{Fragment}
use Rattle.le_acl.specs.Outgoing.{acl_octets}
use Rattle.le_acl.specs.Packets.{Pdu, fragments_of, packets_of, total}
use Rattle.le_hci.specs.declared.buffers.Buffers.{Buffers}
use Rattle.octet_io.specs.Number.{Octets}

pub record Grows (old new : ConnectionState) : Type 0 where
  more : List Pdu
  pdus : new.pdus ≡ old.pdus ++ more
  handle : new.handle ≡ old.handle
  done : old.done ≤ new.done
  live : is_live new.mark ≡ true → is_live old.mark ≡ true
  still : is_live new.mark ≡ false → new.given ≡ old.given

grows-by : (old new : ConnectionState) (more : List Pdu) → new.pdus ≡ old.pdus ++ more → new.handle ≡ old.handle → new.done ≡ old.done → new.given ≡ old.given
    → (is_live new.mark ≡ true → is_live old.mark ≡ true) → Grows old new
grows-by old new more pdus handle done given live =
    record { more = more; pdus = pdus; handle = handle; done = omega (arith, done); live = live; still = λ ends. given }

stays : (old new : ConnectionState) → new.pdus ≡ old.pdus → new.handle ≡ old.handle → new.done ≡ old.done → new.given ≡ old.given
    → (is_live new.mark ≡ true → is_live old.mark ≡ true) → Grows old new
stays old new pdus handle done given live = grows-by old new [] (pdus ∙ sym (append-nil old.pdus)) handle done given live

by-changes : (connection : ConnectionState) → is_live connection.mark ≡ true → KeepsByChanges Grows connection
by-changes connection live = record {
  same = stays connection connection refl refl refl refl (λ is. live);
  authorized = λ until. stays connection _ refl refl refl refl (λ is. live);
  ended = λ reason. stays connection _ refl refl refl refl (λ is. live);
  key_asked = λ found. stays connection _ refl refl refl refl (λ is. live);
  stepped = λ step. stays connection _ refl refl refl refl (λ is. live);
  ended_then = λ step reason. stays connection _ refl refl refl refl (λ is. live);
  queued = λ pdu. grows-by connection _ (pdu ∷ []) refl refl refl refl (λ is. live);
  served_by = λ shared bond owed pdu asked.
      grows-by connection _ (map att_pdu (option_to_list (answer_to shared.table (row_in_force bond connection) (bearer_of shared connection) asked))) refl refl
      refl refl (λ is. live);
}

turn-grows : (shared : SharedState) (bond : Row) (owed : Bool) (connection : ConnectionState) (own : Own) → is_there connection.mark ≡ true
    → is_there (effect_of shared bond owed connection own).connection.mark ≡ true
    → Grows connection (effect_of shared bond owed connection own).connection
turn-grows shared bond owed connection (Connected handle peer) there after = rw there (stays connection connection refl refl refl refl (λ lives. lives))
turn-grows shared bond owed connection Disconnected there after = cc after
turn-grows shared bond owed connection own there after =
    keeps_if_live Grows shared bond owed connection (stays connection connection refl refl refl refl (λ lives. lives)) (by-changes connection) own

completed-grows : (ordinal : Ordinal) (entries : List (Ordinal × ℕ)) (old connection : ConnectionState) → Grows old connection
    → Grows old (after_packets_completed ordinal entries connection)
completed-grows ordinal [] old connection grows = grows
completed-grows ordinal (entry ∷ entries) old connection grows =
    completed-grows ordinal entries old (if entry.0 == ordinal then with_packets_completed connection entry.1 else connection)
    (either_choice (Grows old) (entry.0 == ordinal) _ _
    (record { more = grows.more; pdus = grows.pdus; handle = grows.handle; done = omega (arith, grows.done); live = grows.live; still = grows.still }) grows)

replaced-grows : (old new : Contents) (connection : ConnectionState) → Grows connection (connection_after_replacement old new connection)
replaced-grows old new connection =
    either_choice (λ (dropped : ConnectionState). Grows connection (record dropped { row = kept_row old.attributes new.attributes connection.row }))
    (is_live connection.mark) _ _
    (stays connection _ refl refl refl refl (λ lives. lives)) (stays connection _ refl refl refl refl (λ lives. lives))

of-grows : (state : State) (at ordinal : Ordinal) (own : Own) (same : Bool) → (ordinal == at) ≡ same → is_there (state.connections ordinal).mark ≡ true
    → is_there
    (if same
    then (effect_of state.shared (state.bonds (state.connections at).peer) (state.owed (state.connections at).peer) (state.connections at) own).connection
    else state.connections ordinal).mark ≡ true
    → Grows (state.connections ordinal)
    (if same
    then (effect_of state.shared (state.bonds (state.connections at).peer) (state.owed (state.connections at).peer) (state.connections at) own).connection
    else state.connections ordinal)
of-grows state at ordinal own true is there after =
    let equal : ordinal ≡ at = eqb-true ordinal at is in
    let connection : ConnectionState = state.connections at in
    subst (λ (one : Ordinal).
    Grows (state.connections one) (effect_of state.shared (state.bonds connection.peer) (state.owed connection.peer) connection own).connection) (sym equal)
    (turn-grows state.shared (state.bonds connection.peer) (state.owed connection.peer) connection own
    (ap (λ (one : Ordinal). is_there (state.connections one).mark) (sym equal) ∙ there) after)
of-grows state at ordinal own false is there after = stays (state.connections ordinal) (state.connections ordinal) refl refl refl refl (λ lives. lives)

change-grows : (state : State) (event : Event) (ordinal : Ordinal) → is_there (state.connections ordinal).mark ≡ true
    → is_there ((change_of state event).state.connections ordinal).mark ≡ true
    → Grows (state.connections ordinal) ((change_of state event).state.connections ordinal)
unfolding change_of
change-grows state (Of at own) ordinal there after = of-grows state at ordinal own (ordinal == at) refl there after
change-grows state (Completed entries) ordinal there after =
    completed-grows ordinal entries (state.connections ordinal) (state.connections ordinal)
    (stays (state.connections ordinal) (state.connections ordinal) refl refl refl refl (λ lives. lives))
change-grows state (Credit allowed opcode status (Some init)) ordinal there after =
    stays (state.connections ordinal) (state.connections ordinal) refl refl refl refl (λ lives. lives)
change-grows state (Tick time) ordinal there after = stays (state.connections ordinal) _ refl refl refl refl (λ lives. lives)
change-grows state (Replaced table) ordinal there after = replaced-grows state.shared.table table (state.connections ordinal)
change-grows state event ordinal there after = stays (state.connections ordinal) (state.connections ordinal) refl refl refl refl (λ lives. lives)

-- at the end of an event
finish-grows : (shared : SharedState) (bonds : Bonds) (handles : List Handle) (old connection : ConnectionState) (live : Bool) → is_live connection.mark ≡ live
    → Grows old connection
    → Grows old (finished shared bonds handles connection)
unfolding after_hearing
finish-grows shared bonds handles old connection true is grows =
    let heard : ConnectionState = after_hearing shared (bonds connection.peer) handles connection in
    let more : List Pdu =
    map att_pdu
    (heard_in_turn shared.table.attributes shared.table.values (hearer_of shared (bonds connection.peer) connection) shared.time handles).responses in
    let given : ℕ = packets_allowed (share_of shared.slots shared.buffers) (fragment_size_of shared.buffers) heard.pdus heard.done in
    subst (λ (of : ConnectionState). Grows old of) (sym (ap (λ (lives : Bool). if lives then record heard { given = given } else heard) is))
    (record {
      more = grows.more ++ more;
      pdus = ap (λ (pdus : List Pdu). pdus ++ more) grows.pdus ∙ append_assoc old.pdus grows.more more;
      handle = grows.handle;
      done = grows.done;
      live = grows.live;
      still = λ ends. absurd (cc (is, ends));
    })
finish-grows shared bonds handles old connection false is grows =
    subst (λ (of : ConnectionState). Grows old of) (sym (only_serves_the_live shared bonds handles connection is)) grows

sent-grows : (old connection : ConnectionState) (sent : Bool) → Grows old connection → Grows old (if sent then without_command connection else connection)
sent-grows old connection true grows =
    elim (is_some connection.reason) as (λ (has : Bool). Grows old (if has then record connection { reason = None } else record connection { reply = None })) [
      | true ↦ record { more = grows.more; pdus = grows.pdus; handle = grows.handle; done = grows.done; live = grows.live; still = grows.still }
      | false ↦ record { more = grows.more; pdus = grows.pdus; handle = grows.handle; done = grows.done; live = grows.live; still = grows.still }
    ]
sent-grows old connection false grows = grows

pub step-grows : (state : State) (event : Event) (ordinal : Ordinal) → is_there (state.connections ordinal).mark ≡ true
    → is_there ((step state event).connections ordinal).mark ≡ true
    → Grows (state.connections ordinal) ((step state event).connections ordinal)
unfolding step
step-grows state event ordinal there after =
    let change : Change = change_of state event in
    let connection : ConnectionState = change.state.connections ordinal in
    let marks : ((step state event).connections ordinal).mark ≡ connection.mark =
    end_keeps (λ (of : ConnectionState). of.mark) (λ of pdus pending given reply reason. refl) state event ordinal in
    sent-grows (state.connections ordinal) (connections_finished change ordinal)
    (nat_lt (length (command_of_init change.state.controller) + count_before ordinal (connections_finished change) change.state.slots)
    change.state.controller.credit)
    (finish-grows change.state.shared change.state.bonds (change.to_notify ordinal) (state.connections ordinal) connection (is_live connection.mark) refl
    (change-grows state event ordinal there (ap is_there (sym marks) ∙ after)))

-- So what is given goes on where it stood.

front : {A : Type 0} (xs ys : List A) (m n : ℕ) → m ≤ length xs → m ≤ n → take m xs ++ drop m (take n (xs ++ ys)) ≡ take n (xs ++ ys)
front xs ys zero n within more = refl
front [] ys (suc m) n within more = absurd (omega (arith, within))
front (x ∷ xs) ys (suc m) zero within more = absurd (omega (arith, more))
front (x ∷ xs) ys (suc m) (suc n) within more = ap (λ zs. x ∷ zs) (front xs ys m n (omega (arith, within)) (omega (arith, more)))

-- the packets that a connection gets, and what is given of its queue by then
pub record GoesOn (buffers : Option Buffers) (old new : ConnectionState) (packets : List Octets) : Type 0 where
  pub given : packets_given_by_now buffers old ++ packets ≡ packets_given_by_now buffers new
  pub within : new.given ≤ total (fragment_size_of buffers) new.pdus

module _ (buffers : Option Buffers) (slots : ℕ) where
  abbrev pub HasAll : ConnectionState → Type 0
  HasAll connection =
      is_live connection.mark ≡ true → connection.given ≡ min (total (fragment_size_of buffers) connection.pdus) (share_of slots buffers + connection.done)

  given-more-at : (old new : ConnectionState) (live : Bool) → is_live new.mark ≡ live → Grows old new → HasAll old → HasAll new
      → total (fragment_size_of buffers) old.pdus ≤ total (fragment_size_of buffers) new.pdus
      → old.given ≤ total (fragment_size_of buffers) old.pdus → (old.given ≤ new.given) × (new.given ≤ total (fragment_size_of buffers) new.pdus)
  given-more-at old new true is grows was now queued within =
      let before : old.given ≡ min (total (fragment_size_of buffers) old.pdus) (share_of slots buffers + old.done) = was (grows.live is) in
      let after : new.given ≡ min (total (fragment_size_of buffers) new.pdus) (share_of slots buffers + new.done) = now is in
      (omega (arith, before, after, queued, grows.done), omega (arith, after))
  given-more-at old new false is grows was now queued within =
      let same : new.given ≡ old.given = grows.still is in (omega (arith, same), omega (arith, same, queued, within))

  pub goes-on : (old new : ConnectionState) → Grows old new → HasAll old → HasAll new → old.given ≤ total (fragment_size_of buffers) old.pdus
      → GoesOn buffers old new (map (acl_octets new.handle) (drop old.given (take new.given (packets_of (fragment_size_of buffers) new.pdus))))
  goes-on old new grows was now within =
      let size : ℕ = fragment_size_of buffers in
      let queued : packets_of size new.pdus ≡ packets_of size old.pdus ++ packets_of size grows.more =
      ap (packets_of size) grows.pdus
      ∙ ap (flat_map (λ (packets : List Fragment). packets)) (map-append (fragments_of size) old.pdus grows.more)
      ∙ flat_map-append (λ (packets : List Fragment). packets) (map (fragments_of size) old.pdus) (map (fragments_of size) grows.more) in
      let longer : total size new.pdus ≡ total size old.pdus + total size grows.more =
      ap length queued ∙ length-append (packets_of size old.pdus) (packets_of size grows.more) in
      let more = given-more-at old new (is_live new.mark) refl grows was now (omega (arith, longer)) within in
      record {
        given =
            ap (λ (handle : ℕ). map (acl_octets handle) (take old.given (packets_of size old.pdus))
            ++ map (acl_octets new.handle) (drop old.given (take new.given (packets_of size new.pdus)))) (sym grows.handle)
            ∙ sym (map-append (acl_octets new.handle) (take old.given (packets_of size old.pdus)) (drop old.given (take new.given (packets_of size new.pdus))))
            ∙ ap (λ (all : List Fragment). map (acl_octets new.handle) (take old.given (packets_of size old.pdus) ++ drop old.given (take new.given all)))
            queued
            ∙ ap (map (acl_octets new.handle)) (front (packets_of size old.pdus) (packets_of size grows.more) old.given new.given within more.0)
            ∙ ap (λ (all : List Fragment). map (acl_octets new.handle) (take new.given all)) (sym queued);
        within = more.1;
      }
