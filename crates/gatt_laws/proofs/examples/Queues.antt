-- Two connections prepare writes of one value: each executes its own.
use Rattle.std.specs.Prelude.{◌≡◌, ℕ, refl, List, [], ◌∷◌, ◌++◌}
use Rattle.std.proofs.Common.{◌∙◌, sym}
use Rattle.att_pdu.specs.Form.{form_of}
use Rattle.att_reads.specs.Answer.{value_answer}
use Rattle.att_table.specs.Table.{value_at}
use Rattle.att_writes.specs.Applied.{after_entries}
use Rattle.gatt_conn.specs.Answer.{entry_at}
use Rattle.gatt_laws.proofs.policy.OwnWrites.{executes_its_own}
use Rattle.gatt_laws.proofs.policy.Preparing.{prepares_the_same}
use Rattle.gatt_laws.proofs.examples.Runs.{host, stream, initialised, command_complete}
use Rattle.gatt_laws.proofs.examples.Tables.{door, phone, tablet}
use Rattle.gatt_laws.proofs.examples.Views.{comes, sends}
use Rattle.gatt_laws.specs.machine.Controller.{commands_due}
use Rattle.gatt_laws.specs.machine.Event.{Connected, Asks, Of}
use Rattle.gatt_laws.specs.machine.Heard.{after_hearing}
use Rattle.gatt_laws.specs.machine.Input.{Item, run, after_item}
use Rattle.gatt_laws.specs.laws.OwnWrites.{IsAcceptedExecution, WritesItsOwn}
use Rattle.gatt_laws.specs.machine.Packets.{packet_event}
use Rattle.gatt_laws.specs.machine.ConnectionState.{prepared_of}
use Rattle.gatt_laws.specs.laws.Preparing.{Happens, concerns_of, IsNeverEnded}
use Rattle.gatt_laws.specs.laws.Runs.{events_of}
use Rattle.gatt_laws.specs.machine.Start.{state_at}
use Rattle.gatt_laws.specs.machine.State.{State, step, change_of}
use Rattle.gatt_laws.specs.machine.Effect.{live_effect}
use Rattle.le_acl.specs.Frame.{frame_at}
use Rattle.le_acl.specs.Packets.{pieces}
use Rattle.octet_io.specs.Number.{Octets}

prepares : ℕ → Octets
prepares digit = 0x16 ∷ 0x15 ∷ 0x00 ∷ 0x00 ∷ 0x00 ∷ digit ∷ []

executes : Octets
executes = 0x18 ∷ 0x01 ∷ []

-- the phone prepares 61, and the tablet 62 and 63, before or after it
begun : List Item
begun = stream (initialised 4 ++ comes 0x40 phone ++ command_complete 0x200A ++ comes 0x41 tablet)

phone_then_tablet : List Item
phone_then_tablet = begun ++ stream (sends 0x40 (prepares 0x61) ++ sends 0x41 (prepares 0x62) ++ sends 0x41 (prepares 0x63))

tablet_around : List Item
tablet_around = begun ++ stream (sends 0x41 (prepares 0x62) ++ sends 0x40 (prepares 0x61) ++ sends 0x41 executes ++ sends 0x41 (prepares 0x63))

-- the same concerns the phone in both runs
concerns_the_phone : concerns_of 0 (events_of (host door 2) phone_then_tablet) ≡ Happens (Connected 0x40 phone) ∷ Happens (Asks (prepares 0x61)) ∷ []
unfolding run events_of after_item packet_event step change_of live_effect after_hearing commands_due frame_at form_of pieces after_entries value_answer
    prepares executes begun phone_then_tablet tablet_around
concerns_the_phone = refl

concerns_the_phone_too : concerns_of 0 (events_of (host door 2) tablet_around) ≡ Happens (Connected 0x40 phone) ∷ Happens (Asks (prepares 0x61)) ∷ []
unfolding run events_of after_item packet_event step change_of live_effect after_hearing commands_due frame_at form_of pieces after_entries value_answer
    prepares executes begun phone_then_tablet tablet_around
concerns_the_phone_too = refl

never_ended : IsNeverEnded 0 (state_at (host door 2)) (events_of (host door 2) phone_then_tablet)
unfolding run events_of after_item packet_event step change_of live_effect after_hearing commands_due frame_at form_of pieces after_entries value_answer
    prepares executes begun phone_then_tablet tablet_around
never_ended = (refl, (refl, (refl, (refl, (refl, (refl, (refl, (refl, (refl, (refl, (refl, (refl, (refl, tt)))))))))))))

never_ended_either : IsNeverEnded 0 (state_at (host door 2)) (events_of (host door 2) tablet_around)
unfolding run events_of after_item packet_event step change_of live_effect after_hearing commands_due frame_at form_of pieces after_entries value_answer
    prepares executes begun phone_then_tablet tablet_around
never_ended_either = (refl, (refl, (refl, (refl, (refl, (refl, (refl, (refl, (refl, (refl, (refl, (refl, (refl, (refl, tt))))))))))))))

-- so it has prepared the same, which is its own part
same_prepared : prepared_of ((run (host door 2) phone_then_tablet).intake.state.connections 0)
    ≡ prepared_of ((run (host door 2) tablet_around).intake.state.connections 0)
same_prepared =
    prepares_the_same (host door 2) 0 0 phone_then_tablet tablet_around (concerns_the_phone ∙ sym concerns_the_phone_too) never_ended never_ended_either

its_own_part : prepared_of ((run (host door 2) tablet_around).intake.state.connections 0) ≡ entry_at 21 0 (0x61 ∷ []) ∷ []
unfolding run events_of after_item packet_event step change_of live_effect after_hearing commands_due frame_at form_of pieces after_entries value_answer
    prepares executes begun phone_then_tablet tablet_around
its_own_part = refl

-- and executes that
accepted : IsAcceptedExecution (run (host door 2) phone_then_tablet).intake.state 0 executes
unfolding run events_of after_item packet_event step change_of live_effect after_hearing commands_due frame_at form_of pieces after_entries value_answer
    prepares executes begun phone_then_tablet tablet_around
accepted = record { live = refl; asked = refl; has_room = refl; accepted = refl }

writes_its_own : let state : State = (run (host door 2) phone_then_tablet).intake.state in WritesItsOwn state (step state (Of 0 (Asks executes))) 0
writes_its_own = executes_its_own (run (host door 2) phone_then_tablet).intake.state 0 executes accepted

its_own_value : value_at (step (run (host door 2) phone_then_tablet).intake.state (Of 0 (Asks executes))).shared.table.values 21 ≡ 0x61 ∷ []
unfolding run events_of after_item packet_event step change_of live_effect after_hearing commands_due frame_at form_of pieces after_entries value_answer
    prepares executes begun phone_then_tablet tablet_around
its_own_value = refl
