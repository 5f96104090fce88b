-- In states that are alike a peer's connections hear the same, and the commands are the same.
use Rattle.std.proofs.Common.{◌≡◌, ℕ, zero, suc, ◌+◌, ◌<◌, Bool, true, false, ◌==◌, List, [], ◌∷◌, ◌++◌, length, Some, None, refl, sym, ap, ◌∙◌, arith}
use Rattle.std.specs.Prelude.{take, is_some, is_none, nat_lt, if◌then◌else◌}
use Rattle.std.specs.Option.{option_to_list}
use Rattle.att_numbers.specs.Types.{Handle, Values, Row}
use Rattle.att_policy.specs.declared.standing.Standing.{Standing}
use Rattle.att_reads.specs.Access.{refusal_at}
use Rattle.att_attributes.specs.declared.attr.Attr.{Attr}
use Rattle.att_table.specs.Table.{value_at}
use Rattle.att_writes.specs.SameBut.{SameBut}
use Rattle.gatt_laws.proofs.runs.Silence.{only_serves_the_live}
use Rattle.octet_io.proofs.Choices.{both_choices, either_choice}
use Rattle.gatt_laws.specs.laws.Alike.{erased, is_of, Alike, MayNotKnow, HidesFrom}
use Rattle.gatt_laws.specs.machine.Controller.{Slots, command_of_init, command_for, commands_for, commands_due, count_before, without_command, enabling, controller_after}
use Rattle.gatt_laws.specs.machine.Event.{Ordinal}
use Rattle.gatt_laws.specs.machine.Heard.{Heard, heard_when_notifying, hearer_of, hearer_after, after_responses, heard_in_turn, with_heard, after_hearing}
use Rattle.gatt_laws.specs.machine.ConnectionState.{ConnectionState, is_live, is_there, row_in_force, standing_of, after_giving}
use Rattle.gatt_laws.specs.machine.SharedState.{SharedState, Bonds}
use Rattle.gatt_laws.specs.machine.State.{State, with_values, finished, with_commands_sent}
use Rattle.gatt_subs.proofs.Undisclosed.{tells_only_what_is_heard}
use Rattle.gatt_subs.specs.Hearing.{may_hear_at}
use Rattle.gatt_subs.specs.Told.{Hearer, pending_after_notify, pending_after_indicate, AgreeWhereHeard}
use Rattle.le_hci.specs.declared.peer.Peer.{Peer}

-- who may not know what differs may read and hear what is the same
module _ (hidden : Handle → Bool) (attributes : List Attr) (row : Row) (standing : Standing) (xs ys : Values) (same : SameBut hidden xs ys)
    (unknown : (handle : Handle) → hidden handle ≡ true → MayNotKnow attributes row standing handle) where
  shown-there : (handle : Handle) → 0 < handle → (test : Bool) → hidden handle ≡ test → (test ≡ true → ⊥) → value_at xs handle ≡ value_at ys handle
  shown-there handle used true is not_hidden = absurd (not_hidden refl)
  shown-there handle used false is not_hidden = same.shown handle used is

  pub readable-there : (handle : Handle) → refusal_at attributes standing handle ≡ None → value_at ys handle ≡ value_at xs handle
  readable-there zero may = cc may
  readable-there (suc before) may =
      sym (shown-there (suc before) (omega arith) (hidden (suc before)) refl (λ is. cc (sym (ap is_none may) ∙ (unknown (suc before) is).unread)))

  heard-there : (handle : Handle) → may_hear_at attributes row standing handle ≡ true → value_at xs handle ≡ value_at ys handle
  heard-there zero may = cc may
  heard-there (suc before) may =
      shown-there (suc before) (omega arith) (hidden (suc before)) refl (λ is. cc (may, (unknown (suc before) is).unheard))

-- what is heard of values that are the same where they may be heard
heard-same : (attributes : List Attr) (xs ys : Values) (hearer : Hearer) (now : ℕ) (handles : List Handle) → AgreeWhereHeard attributes hearer xs ys
    → heard_in_turn attributes xs hearer now handles ≡ heard_in_turn attributes ys hearer now handles
heard-same attributes xs ys hearer now [] agree =
    let tells = tells_only_what_is_heard attributes hearer xs ys agree in
    let released = tells.released in
    λ i. record { responses = option_to_list (released i); pending = pending_after_indicate attributes hearer now }
heard-same attributes xs ys hearer now (handle ∷ handles) agree =
    let tells = tells_only_what_is_heard attributes hearer xs ys agree in
    let raised = tells.raised handle in
    let first : heard_when_notifying attributes xs hearer handle ≡ heard_when_notifying attributes ys hearer handle =
    λ i. record { responses = option_to_list (raised i); pending = pending_after_notify attributes hearer handle } in
    ap (λ (f : Heard). after_responses f.responses (heard_in_turn attributes xs (hearer_after hearer f) now handles)) first
    ∙ ap (after_responses (heard_when_notifying attributes ys hearer handle).responses)
    (heard-same attributes xs ys (hearer_after hearer (heard_when_notifying attributes ys hearer handle)) now handles agree)

-- the end of an event, for a connection of the peer
pub finished-same : (peer : Peer) (hidden : Handle → Bool) (shared : SharedState) (ys : Values) (bonds : Bonds) (handles : List Handle)
    (connection : ConnectionState)
    → SameBut hidden shared.table.values ys → HidesFrom peer hidden shared bonds connection → is_of peer connection ≡ true
    → finished shared bonds handles connection ≡ finished (with_values shared ys) bonds handles connection
unfolding after_hearing
finished-same peer hidden shared ys bonds handles connection same hides mine =
    elim (is_live connection.mark) as (λ (live : Bool). is_live connection.mark ≡ live → finished shared bonds handles connection
    ≡ finished (with_values shared ys) bonds handles connection) [
      | false ↦ λ is. only_serves_the_live shared bonds handles connection is ∙ sym (only_serves_the_live (with_values shared ys) bonds handles connection is)
      | true ↦ λ is.
          ap (λ (heard : Heard). after_giving shared (with_heard connection heard))
          (heard-same shared.table.attributes shared.table.values ys (hearer_of shared (bonds connection.peer) connection) shared.time handles
          (heard-there hidden shared.table.attributes (row_in_force (bonds connection.peer) connection) (standing_of shared connection) shared.table.values ys
          same (hides is mine)))
    ] refl

pub finished-erased : (shared : SharedState) (bonds : Bonds) (handles : List Handle) (connection : ConnectionState)
    → erased (finished shared bonds handles connection) ≡ erased connection
unfolding after_hearing
finished-erased shared bonds handles connection =
    let heard : ConnectionState = after_hearing shared (bonds connection.peer) handles connection in
    either_choice (λ (p : ConnectionState). erased p ≡ erased connection) (is_live heard.mark)
    (record heard { given = (after_giving shared (record heard { mark = Rattle.gatt_laws.specs.machine.ConnectionState.Live })).given }) heard refl refl

-- what decides what a connection may know
abbrev pub bare : ConnectionState → ConnectionState
bare connection = record (erased connection) { said = []; reply = None; reason = None }

pub sent-bare : (connection : ConnectionState) (sent : Bool) → bare (if sent then without_command connection else connection) ≡ bare connection
sent-bare connection sent =
    either_choice (λ (p : ConnectionState). bare p ≡ bare connection) sent (without_command connection) connection
    (either_choice (λ (p : ConnectionState). bare p ≡ bare connection) (is_some connection.reason) (record connection { reason = None })
    (record connection { reply = None }) refl refl) refl

-- Commands.
module _ (parts others : Ordinal → ConnectionState) (same : (ordinal : Ordinal) → erased (parts ordinal) ≡ erased (others ordinal)) where
  commands-same : (slots : Slots) → commands_for parts slots ≡ commands_for others slots
  commands-same [] = refl
  commands-same (None ∷ slots) = commands-same slots
  commands-same (Some ordinal ∷ slots) = λ i. option_to_list (command_for (same ordinal i)) ++ commands-same slots i

  count-same : (ordinal : Ordinal) (slots : Slots) → count_before ordinal parts slots ≡ count_before ordinal others slots
  count-same ordinal [] = refl
  count-same ordinal (None ∷ slots) = count-same ordinal slots
  count-same ordinal (Some other ∷ slots) =
      λ i. if other == ordinal then 0 else length (option_to_list (command_for (same other i))) + count-same ordinal slots i

without-erased : (connection other : ConnectionState) → erased connection ≡ erased other → erased (without_command connection) ≡ erased (without_command other)
without-erased connection other same =
    both_choices (λ (a b : ConnectionState). erased a ≡ erased b) (is_some connection.reason) (is_some other.reason) (record connection { reason = None })
    (record connection { reply = None })
    (record other { reason = None }) (record other { reply = None }) (λ i. is_some (same i).reason)
    (λ is i. record (same i) { reason = None }) (λ is i. record (same i) { reply = None })

pub commands_alike : (peer : Peer) (hidden : Handle → Bool) (one other : State) → Alike peer hidden one other
    → Alike peer hidden (with_commands_sent one) (with_commands_sent other)
unfolding commands_due
commands_alike peer hidden one other alike =
    let controllers = alike.controller in
    let slots = alike.slots in
    let due : commands_for one.connections one.slots ≡ commands_for other.connections other.slots =
    commands-same one.connections other.connections alike.others one.slots ∙ ap (commands_for other.connections) slots in
    let before : (ordinal : Ordinal) → count_before ordinal one.connections one.slots ≡ count_before ordinal other.connections other.slots =
    λ ordinal. count-same one.connections other.connections alike.others ordinal one.slots ∙ ap (count_before ordinal other.connections) slots in
    let sent : (state : State) → Ordinal → Bool =
    λ state ordinal. nat_lt (length (command_of_init state.controller) + count_before ordinal state.connections state.slots) state.controller.credit in
    let tests : (ordinal : Ordinal) → sent one ordinal ≡ sent other ordinal =
    λ ordinal i. nat_lt (length (command_of_init (controllers i)) + before ordinal i) (controllers i).credit in
    record {
      shared = alike.shared;
      values = alike.values;
      bonds = alike.bonds;
      owed = alike.owed;
      own = λ ordinal mine.
          let connection = one.connections ordinal in
          let equal = alike.own ordinal (sym (ap (λ (p : ConnectionState). is_of peer p) (sent-bare connection (sent one ordinal))) ∙ mine) in
          λ i. if tests ordinal i then without_command (equal i) else equal i;
      others = λ ordinal.
          both_choices (λ (a b : ConnectionState). erased a ≡ erased b) (sent one ordinal) (sent other ordinal) (without_command (one.connections ordinal))
          (one.connections ordinal)
          (without_command (other.connections ordinal)) (other.connections ordinal) (tests ordinal)
          (λ is. without-erased (one.connections ordinal) (other.connections ordinal) (alike.others ordinal)) (λ is. alike.others ordinal);
      slots = slots;
      next = alike.next;
      controller = λ i. controller_after (controllers i)
          (take (controllers i).credit (command_of_init (controllers i) ++ due i ++ enabling (controllers i) (slots i)));
    }
