-- How the logic stores the entries of a history.
use Rattle.std.specs.Prelude.{◌≡◌, ℕ, ◌==◌, ◌⊎◌, if◌then◌else◌, List, Option, refl}
use Rattle.std.proofs.Common.{inl, inr}
use Rattle.std.specs.Coded.{Coded, code_by, coded_list, coded_option, coded_ℕ, coded×, coded⊎}
use base.Stored.{coded_unit}
use Rattle.att_numbers.specs.Types.{Values}
use Rattle.device_loop.specs.Happenings.{DeviceInput, Came, Asked, HistoryEntry, Waited, Happened, Answered, Ended, Failed, Saved, Unsaved, SavedState, Sent, Unsent, Broken, Told}
use Rattle.gatt_laws.specs.machine.Calls.{Call, UpdateCall, AuthorizeCall, DisconnectCall, TickCall, Refused, NoSuchHandle, NotAValue, BadLength, NoSuchConnection, TimeWentBack, Stopped, NoServiceChanged}
use Rattle.gatt_subs.specs.contracts.rows.Rows as rows
use Rattle.gatt_subs.specs.Rows.{Subscriptions}
use Rattle.octet_io.specs.Number.{Octets}

abbrev coded_octets : Coded Octets
coded_octets = coded_list coded_ℕ

-- calls
abbrev Calls : Type 0
Calls = (ℕ × Octets) ⊎ ((ℕ × ℕ) ⊎ (ℕ ⊎ ℕ))

abbrev of_call : Call → Calls
of_call (UpdateCall handle value) = inl (handle, value)
of_call (AuthorizeCall handle until) = inr (inl (handle, until))
of_call (DisconnectCall handle) = inr (inr (inl handle))
of_call (TickCall time) = inr (inr (inr time))

abbrev to_call : Calls → Call
to_call (inl update) = UpdateCall update.0 update.1
to_call (inr (inl authorize)) = AuthorizeCall authorize.0 authorize.1
to_call (inr (inr (inl handle))) = DisconnectCall handle
to_call (inr (inr (inr time))) = TickCall time

pub call_back : (call : Call) → to_call (of_call call) ≡ call
call_back (UpdateCall handle value) = refl
call_back (AuthorizeCall handle until) = refl
call_back (DisconnectCall handle) = refl
call_back (TickCall time) = refl

abbrev coded_call : Coded Call
coded_call =
    code_by Calls
    (coded⊎ (coded× coded_ℕ coded_octets)
    (coded⊎ (coded× coded_ℕ coded_ℕ) (coded⊎ coded_ℕ coded_ℕ)))
    of_call to_call call_back

-- refusals, by their place
abbrev of_refused : Refused → ℕ
of_refused NoSuchHandle = 0
of_refused NotAValue = 1
of_refused BadLength = 2
of_refused NoSuchConnection = 3
of_refused TimeWentBack = 4
of_refused Stopped = 5
of_refused NoServiceChanged = 6

abbrev to_refused : ℕ → Refused
to_refused place =
    if place == 0 then NoSuchHandle
    else if place == 1 then NotAValue
    else if place == 2 then BadLength
    else if place == 3 then NoSuchConnection
    else if place == 4 then TimeWentBack else if place == 5 then Stopped else NoServiceChanged

pub refused_back : (refused : Refused) → to_refused (of_refused refused) ≡ refused
refused_back NoSuchHandle = refl
refused_back NotAValue = refl
refused_back BadLength = refl
refused_back NoSuchConnection = refl
refused_back TimeWentBack = refl
refused_back Stopped = refl
refused_back NoServiceChanged = refl

abbrev coded_refused : Coded Refused
coded_refused = code_by ℕ coded_ℕ of_refused to_refused refused_back

-- events
abbrev of_input : DeviceInput → Octets ⊎ Call
of_input (Came octets) = inl octets
of_input (Asked call) = inr call

abbrev to_input : Octets ⊎ Call → DeviceInput
to_input (inl octets) = Came octets
to_input (inr call) = Asked call

pub input_back : (happening : DeviceInput) → to_input (of_input happening) ≡ happening
input_back (Came octets) = refl
input_back (Asked call) = refl

abbrev coded_input : Coded DeviceInput
coded_input = code_by (Octets ⊎ Call) (coded⊎ coded_octets coded_call) of_input to_input input_back

-- states
abbrev of_state : SavedState → Subscriptions × Values
of_state state = (state.rows, state.values)

abbrev to_state : Subscriptions × Values → SavedState
to_state parts = record { rows = parts.0; values = parts.1 }

pub state_back : (state : SavedState) → to_state (of_state state) ≡ state
state_back state = refl

abbrev coded_state : Coded SavedState
coded_state =
    code_by (Subscriptions × Values) (coded× rows.the_row.coded (coded_list coded_octets))
    of_state to_state state_back

-- entries
abbrev Entries : Type 0
Entries =
    Option ℕ ⊎ (DeviceInput ⊎ (Option Refused ⊎ (Unit {0} ⊎ (Unit {0}
    ⊎ (SavedState ⊎ ((SavedState × List ℕ) ⊎ (Octets ⊎ (Octets ⊎ (Octets ⊎ Unit {0})))))))))

abbrev of_entry : HistoryEntry → Entries
of_entry (Waited deadline) = inl deadline
of_entry (Happened happening) = inr (inl happening)
of_entry (Answered refusal) = inr (inr (inl refusal))
of_entry Ended = inr (inr (inr (inl tt)))
of_entry Failed = inr (inr (inr (inr (inl tt))))
of_entry (Saved state) = inr (inr (inr (inr (inr (inl state)))))
of_entry (Unsaved state connections) = inr (inr (inr (inr (inr (inr (inl (state, connections)))))))
of_entry (Sent octets) = inr (inr (inr (inr (inr (inr (inr (inl octets)))))))
of_entry (Unsent octets) = inr (inr (inr (inr (inr (inr (inr (inr (inl octets))))))))
of_entry (Broken left) = inr (inr (inr (inr (inr (inr (inr (inr (inr (inl left)))))))))
of_entry Told = inr (inr (inr (inr (inr (inr (inr (inr (inr (inr tt)))))))))

abbrev to_entry : Entries → HistoryEntry
to_entry (inl deadline) = Waited deadline
to_entry (inr (inl happening)) = Happened happening
to_entry (inr (inr (inl refusal))) = Answered refusal
to_entry (inr (inr (inr (inl _)))) = Ended
to_entry (inr (inr (inr (inr (inl _))))) = Failed
to_entry (inr (inr (inr (inr (inr (inl state)))))) = Saved state
to_entry (inr (inr (inr (inr (inr (inr (inl both))))))) = Unsaved both.0 both.1
to_entry (inr (inr (inr (inr (inr (inr (inr (inl octets)))))))) = Sent octets
to_entry (inr (inr (inr (inr (inr (inr (inr (inr (inl octets))))))))) = Unsent octets
to_entry (inr (inr (inr (inr (inr (inr (inr (inr (inr (inl left)))))))))) = Broken left
to_entry (inr (inr (inr (inr (inr (inr (inr (inr (inr (inr _)))))))))) = Told

pub entry_back : (entry : HistoryEntry) → to_entry (of_entry entry) ≡ entry
entry_back (Waited deadline) = refl
entry_back (Happened happening) = refl
entry_back (Answered refusal) = refl
entry_back Ended = refl
entry_back Failed = refl
entry_back (Saved state) = refl
entry_back (Unsaved state connections) = refl
entry_back (Sent octets) = refl
entry_back (Unsent octets) = refl
entry_back (Broken left) = refl
entry_back Told = refl

abbrev coded_entry : Coded HistoryEntry
coded_entry = code_by Entries
    (coded⊎ (coded_option coded_ℕ)
    (coded⊎ coded_input
    (coded⊎ (coded_option coded_refused)
    (coded⊎ coded_unit
    (coded⊎ coded_unit
    (coded⊎ coded_state
    (coded⊎ (coded× coded_state (coded_list coded_ℕ))
    (coded⊎ coded_octets (coded⊎ coded_octets (coded⊎ coded_octets coded_unit))))))))))
    of_entry to_entry entry_back

abbrev pub coded_history : Coded (List HistoryEntry)
coded_history = coded_list coded_entry
