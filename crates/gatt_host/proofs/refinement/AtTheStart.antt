-- A host that has just been opened stands at the state at first, and owes the first command.
use Rattle.std.proofs.Common.{◌≡◌, Bool, true, false, List, [], length, Option, Some, None, refl, sym, ap, subst, ◌∙◌}
use Rattle.std.specs.Prelude.{is_some, nat_lt, unwrap_or, if◌then◌else◌, ◌+◌}
use Rattle.std.specs.Option.{option_map, option_map_or}
use Rattle.att_table.specs.Table.{Contents}
use Rattle.gatt_host.proofs.places.Entering.{owes_the_first_command}
use Rattle.gatt_host.proofs.owing.Nexts.{clash}
use Rattle.gatt_host.proofs.refinement.Connecting.{keyed_anew}
use Rattle.gatt_host.specs.ServerState.{open_slots}
use Rattle.gatt_host.specs.Owing.{IsOwing}
use Rattle.gatt_host.specs.StateRefinement.{bonds_of, owed_of, HoldsBonds, StartIsRefined, IsAlwaysSound}
use Rattle.gatt_laws.proofs.invariants.Placed.{is_always_placed}
use Rattle.gatt_laws.proofs.invariants.Queued.{always_has_bounded_queues}
use Rattle.gatt_laws.proofs.invariants.Settled.{is_always_settled}
use Rattle.gatt_laws.specs.machine.Controller.{Controller, command_of_init, count_before, is_ready, without_command}
use Rattle.gatt_laws.specs.machine.ConnectionState.{no_connection}
use Rattle.gatt_laws.specs.machine.SharedState.{Bonds, ServiceChangedPending}
use Rattle.gatt_laws.specs.machine.Start.{before_first_command, state_at, first_out}
use Rattle.gatt_laws.specs.machine.State.{State}
use Rattle.host_connections.specs.SlotState.{SlotState}
use Rattle.gatt_subs.specs.declared.bond.Bond.{Bond}
use Rattle.gatt_subs.specs.Fit.{fitted_bond, HasFittedBonds, IsListed}
use Rattle.gatt_subs.specs.Rows.{Subscriptions, bond_of}
use Rattle.le_hci.specs.declared.peer.Peer.{Peer}
use Rattle.le_security.specs.Keys.{is_known}
use Rattle.le_security.specs.declared.entry.Entry.{Entry}

-- bonds by the rows that have them
known-by : (found : Option Bond) (known : Bool) → is_some found ≡ known
    → found ≡
    (if known
    then Some (record { row = unwrap_or (option_map (λ (bond : Bond). bond.row) found) []; owed = option_map_or (λ (bond : Bond). bond.owed) found false })
    else None)
known-by None known is = ap (λ (has : Bool). if has then Some (record { row = []; owed = false }) else None) is
known-by (Some bond) known is = ap (λ (has : Bool). if has then Some bond else None) is

no-row : (found : Option Bond) → is_some found ≡ false → unwrap_or (option_map (λ (bond : Bond). bond.row) found) [] ≡ []
no-row None is = refl
no-row (Some bond) is = absurd (clash (sym is))

not-owed : (found : Option Bond) → is_some found ≡ false → option_map_or (λ (bond : Bond). bond.owed) found false ≡ false
not-owed None is = refl
not-owed (Some bond) is = absurd (clash (sym is))

bonds-held : (keys : List Entry) (rows : Subscriptions) → ((peer : Peer) → is_some (bond_of rows peer) ≡ is_known keys peer) → IsListed keys rows
    → HoldsBonds keys rows (bonds_of rows) (owed_of rows)
bonds-held keys rows each listed = record {
  known = λ peer. known-by (bond_of rows peer) (is_known keys peer) (each peer);
  row = λ peer unknown. no-row (bond_of rows peer) (each peer ∙ unknown);
  owing = λ peer unknown. not-owed (bond_of rows peer) (each peer ∙ unknown);
  listed = listed;
}

-- rows that are fitted have a bond of each peer that has a key
some-known : (known : Bool) (bond : Bond) → is_some (if known then Some bond else None) ≡ known
some-known true bond = refl
some-known false bond = refl

pub fitted_known : (keys : List Entry) (table : Contents) (old new : Subscriptions) → HasFittedBonds keys table old new
    → (peer : Peer) → is_some (bond_of new peer) ≡ is_known keys peer
fitted_known keys table old new fitted peer =
    ap (λ (found : Option Bond). is_some found) (fitted peer) ∙ some-known (is_known keys peer) (fitted_bond table old peer)

sent-anew : (sent : Bool) → (if sent then without_command no_connection else no_connection).steps ≡ []
sent-anew true = refl
sent-anew false = refl

pub stands_at_the_start : StartIsRefined
stands_at_the_start start server is =
    let old : State = before_first_command start in
    let none : open_slots server ≡ [] = ap (λ (controller : Controller). if is_ready controller then server.slots else []) is.controller in
    let owing : IsOwing (state_at start) (first_out start) server.controller (open_slots server) =
    subst (λ (slots : List (Option SlotState)). IsOwing (state_at start) (first_out start) server.controller slots) (sym none)
    (subst (λ (controller : Controller). IsOwing (state_at start) (first_out start) controller []) (sym is.controller) (owes_the_first_command start)) in
    record {
      table = is.table;
      changer = is.changer;
      keys = is.keys;
      rx_mtu = is.rx_mtu;
      time = is.time;
      buffers = refl;
      rows = subst (λ (bonds : Bonds). HoldsBonds start.keys server.rows bonds start.owed) (sym is.bonds)
          (subst (λ (owed : ServiceChangedPending). HoldsBonds start.keys server.rows (bonds_of server.rows) owed) (sym is.owed)
          (bonds-held start.keys server.rows is.rows is.listed));
      keyed = λ ordinal.
          let sent : Bool = nat_lt (length (command_of_init old.controller) + count_before ordinal old.connections old.slots) old.controller.credit in
          keyed_anew start.keys (if sent then without_command no_connection else no_connection) (sent-anew sent);
      free = λ early. is.slots;
      ready = λ ready. absurd (clash ready);
      owing = owing;
    }

pub is_always_sound : IsAlwaysSound
is_always_sound start input = record {
  settled = is_always_settled start input;
  queued = always_has_bounded_queues start input;
  placed = is_always_placed start input;
}
