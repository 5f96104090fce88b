-- What happens at one place of the slots.
use Rattle.std.proofs.Common.{◌≡◌, ℕ, ◌<◌, ◌==◌, Bool, true, false, List, length, set, get_or, Option, Some, None, refl, sym, ap, subst, ◌∙◌}
use Rattle.std.specs.Prelude.{is_none, is_some, if◌then◌else◌, slice_get, IfSome}
use Rattle.std.specs.Option.{option_map, option_map_or}
use Rattle.std.proofs.lemmas.List.{set-get_or}
use Rattle.std.proofs.lemmas.Option.{slice_get-get_or}
use Rattle.att_numbers.specs.Types.{Row}
use Rattle.att_table.specs.Table.{Contents}
use Rattle.gatt_conn.specs.Answer.{is_confirmation}
use Rattle.std.specs.Bool.{OnFalse, OnTrue}
use Rattle.std.proofs.lemmas.Bool.{OnFalse_at, OnTrue_at}
use Rattle.host_connections.proofs.Covering.{read_at}
use Rattle.host_connections.specs.Commands.{has_command, slot_without_command, slot_without_packet}
use Rattle.host_connections.specs.SlotState.{SlotState, slot_backlog}
use Rattle.host_connections.specs.Places.{is_some_handle, may_listen, waits, HasNoValueMore, WaitsForNothingNew}
use Rattle.host_connections.specs.Request.{overflows, slot_after_request, pending_after}
use Rattle.gatt_laws.specs.machine.Effect.{authentication_failure, channel_answer, lost_encryption, remote_user_terminated}
use Rattle.host_connections.specs.SlotEffects.{after_link_step, slot_after_ending, slot_after_other_channel, slot_after_packets_completed, with_channel_answer}
use Rattle.host_connections.specs.Slots.{SlotStates, at_place, slot_state_at, slots_at}
use Rattle.gatt_subs.specs.Indications.{Indications}
use Rattle.gatt_subs.specs.Rows.{Subscriptions, row_of}
use Rattle.le_acl.specs.Outgoing.{with_pdu}
use Rattle.le_acl.specs.declared.pdus.TheConstants.{MAX_PDUS}
use Rattle.le_security.specs.Link.{Linking, Step, after_step}
use Rattle.octet_io.specs.Number.{Octets}

pub set_at_place : {A : Type 0} (xs : List A) (place : ℕ) (change : A → A) (x : A) → place < length xs → x ≡ get_or xs place x
    → set xs place (change x) ≡ at_place place change xs
set_at_place {A = A} xs place change x within is =
    ap (λ (it : A). set xs place (change it)) is
    ∙ sym (ap (λ (found : Option A). option_map_or (λ (it : A). set xs place (change it)) found xs) (slice_get-get_or xs place x within))

module _ (slots self : SlotStates) (view : slots ≡ self) (place : ℕ) (slot : Option SlotState) (within : place < length slots)
    (is : slot ≡ get_or slots place slot) where
  pub there_at : slot ≡ slot_state_at self place
  there_at = sym (read_at slots place slot within is) ∙ ap (λ (it : SlotStates). slot_state_at it place) view

  pub kept_at : (left : Option SlotState) → left ≡ slot → set slots place left ≡ self
  kept_at left same = ap (λ (it : Option SlotState). set slots place it) (same ∙ is) ∙ set-get_or slots place slot ∙ view

  pub changed_at : (change : SlotState → SlotState) (changed : Option SlotState) → changed ≡ option_map change slot → set slots place changed
      ≡ slots_at place change self
  changed_at change changed changes =
      ap (λ (it : Option SlotState). set slots place it) changes
      ∙ set_at_place slots place (λ (it : Option SlotState). option_map change it) slot within is
      ∙ ap (λ (it : SlotStates). slots_at place change it) view

-- a slot that was lent is left changed, or with something else
module _ (slots : SlotStates) (place : ℕ) (lent left : Option SlotState) (within : place < length slots) (is : lent ≡ slot_state_at slots place) where
  there : slice_get slots place ≡ Some (get_or slots place None)
  there = slice_get-get_or slots place None within

  pub lent_at : (change : SlotState → SlotState) → left ≡ option_map change lent → set slots place left ≡ slots_at place change slots
  lent_at change changes =
      ap (λ (it : Option SlotState). set slots place it) (changes ∙ ap (λ (it : Option SlotState). option_map change it)
      (is ∙ ap (λ (found : Option (Option SlotState)). option_map_or (λ (slot : Option SlotState). slot) found None) there))
      ∙ sym (ap (λ (found : Option (Option SlotState)). option_map_or (λ (slot : Option SlotState). set slots place (option_map change slot)) found slots)
      there)

  pub left_at : (other : Option SlotState) → left ≡ other → set slots place left ≡ at_place place (λ slot. other) slots
  left_at other changes =
      ap (λ (it : Option SlotState). set slots place it) changes
      ∙ sym (ap (λ (found : Option (Option SlotState)). option_map_or (λ (slot : Option SlotState). set slots place other) found slots) there)

-- a connection that is served goes on: nothing waits that did not wait
confirmed-waits : (pdu : Octets) (pending : Indications) → (pending_after pdu pending).waiting ≡ pending.waiting
confirmed-waits pdu pending =
    elim (is_confirmation pdu) as (λ (is : Bool). (let after : Indications = if is then record pending { unconfirmed = None } else pending in
    after).waiting ≡ pending.waiting) [
      | true ↦ refl
      | false ↦ refl
    ]

served-waits : (table : Contents) (now : ℕ) (bond : Option Row) (pdu : Octets) (slot_state : SlotState)
    → is_some_handle (slot_after_request table now bond pdu slot_state).pending.waiting ≡ true → is_some_handle slot_state.pending.waiting ≡ true
served-waits table now bond pdu slot_state is = by (overflows pdu slot_state) _ (confirmed-waits pdu slot_state.pending) is
  where
    by : (full : Bool) (other : SlotState) → other.pending.waiting ≡ slot_state.pending.waiting
        → is_some_handle (let served : SlotState = if full then slot_after_ending remote_user_terminated slot_state else other in served).pending.waiting ≡ true
        → is_some_handle slot_state.pending.waiting ≡ true
    by true other same is = cc is
    by false other same is = ap is_some_handle (sym same) ∙ is

served-command : (table : Contents) (now : ℕ) (bond : Option Row) (pdu : Octets) (slot_state : SlotState) → overflows pdu slot_state ≡ false
    → has_command (Some (slot_after_request table now bond pdu slot_state)) ≡ has_command (Some slot_state)
served-command table now bond pdu slot_state not = by (overflows pdu slot_state) _ refl not
  where
    by : (full : Bool) (other : SlotState) → has_command (Some other) ≡ has_command (Some slot_state) → full ≡ false
        → has_command (let served : SlotState = if full then slot_after_ending remote_user_terminated slot_state else other in
        Some served) ≡ has_command (Some slot_state)
    by true other same not = cc not
    by false other same not = same

pub served_goes_on : (table : Contents) (now : ℕ) (rows : Subscriptions) (pdu : Octets) (slot : Option SlotState) (ended : Bool)
    → IfSome slot (λ slot_state. ended ≡ overflows pdu slot_state) → ended ≡ false
    → WaitsForNothingNew slot (option_map (λ slot_state. slot_after_request table now (row_of rows slot_state.peer) pdu slot_state) slot)
served_goes_on table now rows pdu None ended says not = record { command = λ is. is; waiting = λ is. is; free = λ is. is }
served_goes_on table now rows pdu (Some slot_state) ended says not = record {
  command = λ is. sym (served-command table now (row_of rows slot_state.peer) pdu slot_state (sym says ∙ not)) ∙ is;
  waiting = served-waits table now (row_of rows slot_state.peer) pdu slot_state;
  free = λ is. is;
}

-- and so does one of which a packet is given
pub given_goes_on : (slot given : Option SlotState) (gave : Bool) → OnTrue gave (given ≡ option_map slot_without_packet slot) → OnFalse gave (given ≡ slot)
    → WaitsForNothingNew slot given
given_goes_on slot given true after stays = subst (λ (it : Option SlotState). WaitsForNothingNew slot it) (sym (OnTrue_at refl after)) (goes slot)
  where
    goes : (slot : Option SlotState) → WaitsForNothingNew slot (option_map slot_without_packet slot)
    goes None = record { command = λ is. is; waiting = λ is. is; free = λ is. is }
    goes (Some slot_state) = record { command = λ is. is; waiting = λ is. is; free = λ is. is }
given_goes_on slot given false after stays =
    let same : given ≡ slot = OnFalse_at refl stays in
    record {
      command = λ some. ap has_command (sym same) ∙ some;
      waiting = λ some. ap waits (sym same) ∙ some;
      free = λ some. ap (λ it. is_none it) (sym same) ∙ some;
    }

pub given_listens : (slot given : Option SlotState) (gave : Bool) → OnTrue gave (given ≡ option_map slot_without_packet slot) → OnFalse gave (given ≡ slot)
    → may_listen given ≡ true → may_listen slot ≡ true
given_listens slot given true after stays is = sym (same slot) ∙ ap may_listen (sym (OnTrue_at refl after)) ∙ is
  where
    same : (slot : Option SlotState) → may_listen (option_map slot_without_packet slot) ≡ may_listen slot
    same None = refl
    same (Some slot_state) = refl
given_listens slot given false after stays is = ap may_listen (sym (OnFalse_at refl stays)) ∙ is

-- and so does one whose packets are completed
module _ (count : ℕ) (slot left : Option SlotState) (is : left ≡ option_map (slot_after_packets_completed count) slot) where
  pub completed_goes_on : WaitsForNothingNew slot left
  completed_goes_on = subst (λ (it : Option SlotState). WaitsForNothingNew slot it) (sym is) (goes slot)
    where
      goes : (slot : Option SlotState) → WaitsForNothingNew slot (option_map (slot_after_packets_completed count) slot)
      goes None = record { command = λ is. is; waiting = λ is. is; free = λ is. is }
      goes (Some slot_state) = record { command = λ is. is; waiting = λ is. is; free = λ is. is }

  pub completed_listens : may_listen left ≡ true → may_listen slot ≡ true
  completed_listens listens = sym (same slot) ∙ ap may_listen (sym is) ∙ listens
    where
      same : (slot : Option SlotState) → may_listen (option_map (slot_after_packets_completed count) slot) ≡ may_listen slot
      same None = refl
      same (Some slot_state) = refl

-- something happens to a connection by which no value comes to wait
pub happened_at : (slots : SlotStates) (place : ℕ) (slot left : Option SlotState) → place < length slots → slot ≡ get_or slots place slot
    → (change : SlotState → SlotState)
    → ((slot_state : SlotState) → waits (Some (change slot_state)) ≡ true → waits (Some slot_state) ≡ true) → left ≡ option_map change slot
    → HasNoValueMore (slot_state_at slots place) left
happened_at slots place slot left within is change keeps changes =
    subst (λ (it : Option SlotState). HasNoValueMore it left) (sym (read_at slots place slot within is))
    (subst (λ (it : Option SlotState). HasNoValueMore slot it) (sym changes) (goes slot))
  where
    goes : (slot : Option SlotState) → HasNoValueMore slot (option_map change slot)
    goes None = record { waiting = λ is. is; free = λ is. is }
    goes (Some slot_state) = record { waiting = keeps slot_state; free = λ is. is }

ended-waits : (ended : Bool) (reason : ℕ) (slot_state other : SlotState)
    → waits (let after : SlotState = if ended then slot_after_ending reason slot_state else other in Some after) ≡ true
    → waits (Some other) ≡ true
ended-waits true reason slot_state other is = cc is
ended-waits false reason slot_state other is = is

pub linked_waits : (step : Step) (slot_state : SlotState) → waits (Some (after_link_step step slot_state)) ≡ true → waits (Some slot_state) ≡ true
linked_waits step slot_state is =
    let link : Linking = after_step slot_state.link step in
    let new : SlotState = record slot_state { link = link } in
    ended-waits (lost_encryption slot_state.link.key link.key) authentication_failure new new is

answered-waits : (channel : ℕ) (answer : Option Octets) (slot_state : SlotState) → waits (Some (with_channel_answer channel answer slot_state)) ≡ true
    → waits (Some slot_state) ≡ true
answered-waits channel None slot_state is = is
answered-waits channel (Some answer) slot_state is =
    ended-waits (slot_backlog slot_state == MAX_PDUS) remote_user_terminated slot_state
    (record slot_state { outgoing = with_pdu slot_state.outgoing (channel, answer) }) is

pub other_channel_waits : (channel : ℕ) (payload : Octets) (slot_state : SlotState) → waits (Some (slot_after_other_channel channel payload slot_state)) ≡ true
    → waits (Some slot_state) ≡ true
other_channel_waits channel payload slot_state is = answered-waits channel (channel_answer channel payload) slot_state is

-- the command that was due for one is sent
module _ (slot_state : SlotState) where
  sent-waits : (ending : Bool) → waits (let after : SlotState = if ending then record slot_state { reason = None } else record slot_state { reply = None } in
      Some after) ≡ true
      → waits (Some slot_state) ≡ true
  sent-waits true is = is
  sent-waits false is = is

  sent-listens : (ending : Bool)
      → may_listen (let after : SlotState = if ending then record slot_state { reason = None } else record slot_state { reply = None } in Some after) ≡ true
      → may_listen (Some slot_state) ≡ true
  sent-listens true is = is
  sent-listens false is = is

  sent-command : (reason : Option ℕ) → has_command (Some (slot_without_command (record slot_state { reason = reason }))) ≡ true
      → has_command (Some (record slot_state { reason = reason })) ≡ true
  sent-command None is = cc is
  sent-command (Some reason) is = refl

module _ (slot left : Option SlotState) (is : left ≡ option_map slot_without_command slot) where
  pub sent_goes_on : WaitsForNothingNew slot left
  sent_goes_on = subst (λ (it : Option SlotState). WaitsForNothingNew slot it) (sym is) (goes slot)
    where
      goes : (slot : Option SlotState) → WaitsForNothingNew slot (option_map slot_without_command slot)
      goes None = record { command = λ is. is; waiting = λ is. is; free = λ is. is }
      goes (Some slot_state) = record {
        command = sent-command slot_state slot_state.reason;
        waiting = sent-waits slot_state (is_some slot_state.reason);
        free = λ is. is;
      }

  pub sent_listens : may_listen left ≡ true → may_listen slot ≡ true
  sent_listens listens = by slot (ap may_listen (sym is) ∙ listens)
    where
      by : (slot : Option SlotState) → may_listen (option_map slot_without_command slot) ≡ true → may_listen slot ≡ true
      by None is = is
      by (Some slot_state) is = sent-listens slot_state (is_some slot_state.reason) is
