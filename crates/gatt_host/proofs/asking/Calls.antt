-- What a call means to a host is what it means to the state, and it is refused alike; so with a
-- table that replaces another.
use Rattle.std.proofs.Common.{◌≡◌, ℕ, Bool, true, false, Option, Some, None, Result, Ok, Err, refl}
use Rattle.std.proofs.Common.{sym, ap, subst, ◌∙◌}
use Rattle.std.specs.Prelude.{IsOkAnd, nat_lt, not, length, if◌then◌else◌}
use Rattle.att_numbers.specs.Types.{Handle}
use Rattle.att_attributes.specs.declared.attr.Attr.{Attr}
use Rattle.att_attributes.specs.Attributes.{attribute_at, is_value}
use Rattle.att_table.specs.Changer.{changer_of}
use Rattle.att_table.specs.Table.{Contents}
use Rattle.gatt_host.proofs.meaning.Refining.{IsAny, event_led, heard_coming}
use Rattle.gatt_host.proofs.meaning.Together.{is_coming}
use Rattle.gatt_host.proofs.owing.Nexts.{clash}
use Rattle.gatt_host.proofs.refinement.Names.{knows_the_same}
use Rattle.gatt_host.specs.Asked.{call_happening, replacement_happening}
use Rattle.gatt_host.specs.ServerState.{ServerState}
use Rattle.gatt_host.specs.Meaning.{IncomingFrames, context_in, frames_after, IsAfter}
use Rattle.gatt_host.specs.Notices.{last_notices}
use Rattle.gatt_host.specs.RunRefinement.{IsDrainedIn, IsPutTogether, ServerRefinesRun}
use Rattle.gatt_host.specs.StateRefinement.{place_of_connection}
use Rattle.gatt_host.specs.Telling.{noticed_in}
use Rattle.gatt_laws.proofs.runs.Meant.{MeantIfAny, call_meant, replacement_meant}
use Rattle.gatt_laws.proofs.isolation.Renaming.{calls_mean_the_same, replacements_mean_the_same}
use Rattle.gatt_laws.specs.laws.Renaming.{renamed, renamed_if}
use Rattle.gatt_laws.specs.machine.Calls.{Call, UpdateCall, AuthorizeCall, DisconnectCall, TickCall}
use Rattle.gatt_laws.specs.machine.Calls.{Refused, NotAValue, BadLength, TimeWentBack}
use Rattle.gatt_laws.specs.machine.Calls.{NoServiceChanged, has_length, update_event}
use Rattle.gatt_laws.specs.machine.Calls.{authorize_event, disconnect_event, call_event}
use Rattle.gatt_laws.specs.machine.Calls.{call_meaning, same_changer, replacement_event}
use Rattle.gatt_laws.specs.machine.Calls.{replacement_meaning}
use Rattle.gatt_laws.specs.machine.Context.{Context, context_of}
use Rattle.gatt_laws.specs.machine.Event.{Connected, Ordinal, Event, Happening, Of, Update, Tick, Replaced}
use Rattle.gatt_laws.specs.machine.Input.{Run, after_result, refusal_in}
use Rattle.gatt_laws.specs.machine.Packets.{Heard}
use Rattle.gatt_laws.specs.machine.State.{State, out, step}
use Rattle.host_connections.specs.Slots.{Place}
use Rattle.octet_io.specs.Number.{Octets}

-- no connection comes by what is asked
abbrev LeavesFrames : Result (Happening Place) Refused → Type 0
LeavesFrames (Ok happening) = is_coming happening ≡ false
LeavesFrames (Err refused) = Unit

-- so nothing that is put together is changed
frames-left : (time : ℕ) (happening : Happening Place) (frames : IncomingFrames) → is_coming happening ≡ false → frames ≡ frames_after time happening frames
frames-left time (Of place (Connected handle peer)) frames comes = absurd (clash (sym comes))
frames-left time happening frames comes = refl

heard-left : (names : Ordinal → Place) (time : ℕ) (heard : Heard) (event : Event) → is_coming (renamed names event) ≡ false
    → heard_coming time heard event ≡ heard
heard-left names time heard (Of ordinal (Connected handle peer)) comes = absurd (clash (sym comes))
heard-left names time heard event comes = refl

update-leaves : (handle : Handle) (value : Octets) (found : Option Attr)
    → LeavesFrames (update_event handle value found)
update-leaves handle value None = tt
update-leaves handle value (Some attr) =
    elim (is_value attr.role) as
    (λ (is : Bool). LeavesFrames
    (if not is then Err NotAValue else if not (has_length attr (length value)) then Err BadLength
    else Ok (Update handle value))) [
      | false ↦ tt
      | true ↦
          elim (has_length attr (length value)) as
          (λ (has : Bool). LeavesFrames
          (if not has then Err BadLength else Ok (Update handle value))) [
            | false ↦ tt
            | true ↦
                refl
          ]
    ]

authorize-leaves : (until : ℕ) (found : Option Place) → LeavesFrames (authorize_event until found)
authorize-leaves until None = tt
authorize-leaves until (Some place) = refl

disconnect-leaves : (found : Option Place) → LeavesFrames (disconnect_event found)
disconnect-leaves None = tt
disconnect-leaves (Some place) = refl

call-leaves : (context : Context Place) (call : Call) → LeavesFrames (call_meaning context call)
call-leaves context (UpdateCall handle value) =
    update-leaves handle value (attribute_at context.attributes handle)
call-leaves context (AuthorizeCall handle until) = authorize-leaves until (context.serving handle)
call-leaves context (DisconnectCall handle) = disconnect-leaves (context.serving handle)
call-leaves context (TickCall time) =
    elim (nat_lt time context.time) as
    (λ (back : Bool). LeavesFrames (if back then Err TimeWentBack else Ok (Tick time))) [
      | true ↦
          tt
      | false ↦ refl
    ]

replacement-leaves : (context : Context Place) (table : Contents)
    → LeavesFrames (replacement_meaning context table)
replacement-leaves context table =
    elim (same_changer context.changer (changer_of table)) as
    (λ (same : Bool). LeavesFrames (if same then Ok (Replaced table) else Err NoServiceChanged))
    [ true ↦ refl | false ↦ tt ]

-- where what is asked leads a host, and what is told of it
pub record Led (run : Run) (new : ServerState) (frames : IncomingFrames) (result : Result Event Refused) :
    Type 0 where
  pub refines : ServerRefinesRun (after_result run result) run.sent new frames
  pub told : last_notices new ≡ noticed_in run.intake.state result

module _ (run : Run) (server new : ServerState) (frames : IncomingFrames) (is : IsDrainedIn run server frames)
  where
    abbrev state : State
    state = run.intake.state

    abbrev Holds : Result (Happening Place) Refused → Type 0
    Holds result = IsOkAnd result (λ happening. IsAfter happening server new)

    by-result : (result : Result Event Refused) → MeantIfAny IsAny state result
        → LeavesFrames (renamed_if (place_of_connection state) result)
        → Holds (renamed_if (place_of_connection state) result) → Led run new frames result
    by-result (Ok event) meant leaves after =
        let led =
        event_led state server new run.intake.fragments run.intake.heard frames frames event is.sound is.refines
        is.together meant after (frames-left server.time (renamed (place_of_connection state) event) frames leaves) in
        record {
          refines = record {
            owed = out state event;
            all = refl;
            sound = led.sound;
            refines =
                led.refines;
            together = subst (λ (heard : Heard). IsPutTogether (step state event) run.intake.fragments heard frames)
                (heard-left (place_of_connection state) server.time run.intake.heard event leaves) led.together;
          };
          told = led.told;
        }
    by-result (Err refused) meant leaves after = absurd after

    asked-led : (result : Result Event Refused) (happening : Result (Happening Place) Refused)
        → happening ≡ renamed_if (place_of_connection state) result
        → MeantIfAny IsAny state result → LeavesFrames happening → Holds happening
        → Led run new frames result
    asked-led result happening same meant leaves after =
        by-result result meant (subst LeavesFrames same leaves) (subst Holds same after)

same-refusal : (names : Ordinal → Place) (result : Result Event Refused)
    (happening : Result (Happening Place) Refused) → happening ≡ renamed_if names result
    → refusal_in None result ≡ refusal_in None happening
same-refusal names result happening same =
    by result
    ∙ sym (ap (λ (happening : Result (Happening Place) Refused). refusal_in None happening) same)
  where
    by : (result : Result Event Refused)
        → refusal_in None result ≡ refusal_in None (renamed_if names result)
    by (Ok event) = refl
    by (Err refused) = refl

same-error : (names : Ordinal → Place) (result : Result Event Refused) (refused : Refused)
    → renamed_if names result ≡ Err refused → result ≡ Err refused
same-error names (Ok event) refused is = cc is
same-error names (Err why) refused is = let same : why ≡ refused = cc is in ap Err same

module _ (run : Run) (server : ServerState) (frames : IncomingFrames) (is : IsDrainedIn run server frames)
  where
    abbrev before : State
    before = run.intake.state

    same-call : (call : Call)
        → call_happening server call ≡ renamed_if (place_of_connection before) (call_event before call)
    same-call call =
        calls_mean_the_same Ordinal Place (place_of_connection before) (context_of before) (context_in server)
        (knows_the_same before server is.sound is.refines) call

    same-table : (table : Contents) → replacement_happening server table ≡ renamed_if (place_of_connection before)
        (replacement_event before table)
    same-table table =
        replacements_mean_the_same Ordinal Place (place_of_connection before) (context_of before)
        (context_in server) (knows_the_same before server is.sound is.refines) table

    pub call_led : (new : ServerState) (call : Call)
        → IsOkAnd (call_happening server call) (λ happening. IsAfter happening server new)
        → Led run new frames (call_event before call)
    call_led new call after =
        asked-led run server new frames is (call_event before call) (call_happening server call)
        (same-call call) (call_meant IsAny before call)
        (call-leaves (context_in server) call) after

    pub table_led : (new : ServerState) (table : Contents)
        → IsOkAnd (replacement_happening server table) (λ happening. IsAfter happening server new)
        → Led run new frames (replacement_event before table)
    table_led new table after =
        asked-led run server new frames is (replacement_event before table)
        (replacement_happening server table) (same-table table)
        (replacement_meant IsAny before table tt) (replacement-leaves (context_in server) table) after

    -- it is refused for the same reason
    pub call_is_refused : (call : Call) (refused : Refused) → call_happening server call ≡ Err refused
        → call_event before call ≡ Err refused
    call_is_refused call refused is =
        same-error (place_of_connection before) (call_event before call) refused (sym (same-call call) ∙ is)

    pub table_is_refused : (table : Contents) (refused : Refused) → replacement_happening server table
        ≡ Err refused → replacement_event before table ≡ Err refused
    table_is_refused table refused is =
        same-error (place_of_connection before) (replacement_event before table) refused (sym (same-table table)
        ∙ is)

    pub call_refusal_same : (call : Call) → refusal_in None (call_event before call)
        ≡ refusal_in None (call_happening server call)
    call_refusal_same call =
        same-refusal (place_of_connection before) (call_event before call) (call_happening server call)
        (same-call call)

    pub table_refusal_same : (table : Contents) → refusal_in None (replacement_event before table)
        ≡ refusal_in None (replacement_happening server table)
    table_refusal_same table =
        same-refusal (place_of_connection before) (replacement_event before table)
        (replacement_happening server table) (same-table table)
