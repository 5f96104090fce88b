-- What is told of a call that the host refuses.
use Rattle.std.proofs.Common.{◌≡◌, if◌then◌else◌, List, Option, Some, None, Result, Ok, Err, refl, sym, ap, subst, ◌∙◌}
use Rattle.std.specs.Prelude.{is_some, IsSome, OnErr}
use Rattle.std.specs.Option.{option_map}
use Rattle.att_table.specs.Table.{Contents}
use Rattle.gatt_host.proofs.model.Refusals.{fault_of_its_refusal}
use Rattle.gatt_host.specs.Asked.{refusal_in_result, replacing_refusal_of}
use Rattle.host_api.specs.declared.app.AppFault.{AppFault}
use Rattle.host_api.specs.declared.app.AppFault.TheVariants.{Stopped}
use Rattle.host_api.specs.Refusals.{number_of_refusal}
use Rattle.gatt_host.specs.Telling.{silent}
use Rattle.gatt_host.specs.HostModel.{RefinesRun, Takes, HostModel}
use Rattle.gatt_laws.specs.machine.Calls.{Call}
use Rattle.gatt_laws.specs.machine.Input.{Item, ACall, ATable, call_refusal, run, replacement_refusal}
use Rattle.gatt_laws.specs.machine.Start.{Start}
use Rattle.octet_io.specs.Number.{Octets}
use Rattle.gatt_commands.specs.declared.refused.Refused.{Refused}
use Rattle.gatt_commands.specs.declared.refused.Refused.TheVariants as refused
use Rattle.gatt_commands.specs.Doing.{Calls, ReplacesBy, refused_call}

-- what is told of an answer of the host
abbrev pub told_of : {A : Type 0} → Result A AppFault → Option Refused
told_of (Ok done) = None
told_of (Err fault) = Some (refused.Call (number_of_refusal fault))

abbrev pub told_by : {A B : Type 0} → Result A (AppFault × B) → Option Refused
told_by (Ok done) = None
told_by (Err fault) = Some (refused.Call (number_of_refusal fault.0))

told-why : (result : Result (Unit {0}) AppFault) → told_of result ≡ option_map refused_call (refusal_in_result result)
told-why (Ok done) = refl
told-why (Err fault) = ap (λ fault. Some (refused.Call (number_of_refusal fault))) (sym (fault_of_its_refusal fault))

told-why-not : (result : Result Contents (AppFault × Contents)) → told_by result ≡ option_map refused_call (replacing_refusal_of result)
told-why-not (Ok table) = refl
told-why-not (Err fault) = ap (λ fault. Some (refused.Call (number_of_refusal fault))) (sym (fault_of_its_refusal fault.0))

still : (old new : HostModel) (told : Option Refused) (result : Result (Unit {0}) AppFault) → told ≡ told_of result → OnErr result (new ≡ silent old)
    → IsSome told → new ≡ silent old
still old new told (Ok done) is same some = cc (is, some)
still old new told (Err fault) is same some = same

pub called : (call : Call) (told : Option Refused) (result : Result (Unit {0}) AppFault) (old new : HostModel) → told ≡ told_of result
    → (old.fault ≡ None → Takes (ACall call) old new)
    → ((start : Start) (input : List Item) (sent : List Octets) → RefinesRun (run start input) sent old → old.fault ≡ None
    → refusal_in_result result ≡ call_refusal (run start input).intake call)
    → (IsSome old.fault → result ≡ Err Stopped) → OnErr result (new ≡ silent old) → Calls call told old new
called call told result old new is takes why stopped same = record {
  takes = takes;
  refused = λ none start input sent refines. is ∙ told-why result ∙ ap (option_map refused_call) (why start input sent refines none);
  stopped = λ some. is ∙ ap told_of (stopped some);
  unchanged = still old new told result is same;
}

still-table : (old new : HostModel) (told : Option Refused) (result : Result Contents (AppFault × Contents)) → told ≡ told_by result
    → OnErr result (new ≡ silent old) → IsSome told → new ≡ silent old
still-table old new told (Ok done) is same some = cc (is, some)
still-table old new told (Err fault) is same some = same

pub replaced : (before : Option Contents) (table : Contents) (told : Option Refused) (result : Result Contents (AppFault × Contents)) (old new : HostModel)
    (next : Option Contents)
    → before ≡ Some table → told ≡ told_by result
    → (old.fault ≡ None → Takes (ATable table) old new)
    → ((start : Start) (input : List Item) (sent : List Octets) → RefinesRun (run start input) sent old → old.fault ≡ None
    → replacing_refusal_of result ≡ replacement_refusal (run start input).intake table)
    → (IsSome old.fault → result ≡ Err (Stopped, table)) → OnErr result (new ≡ silent old)
    → next ≡ Some (if is_some told then table else old.server.table) → ReplacesBy before told old new next
replaced before table told result old new next has is takes why stopped same next_is =
    subst (λ (before : Option Contents). ReplacesBy before told old new next) (sym has)
    (record {
      takes = takes;
      refused = λ none start input sent refines. is ∙ told-why-not result ∙ ap (option_map refused_call) (why start input sent refines none);
      stopped = λ some. is ∙ ap told_by (stopped some);
      unchanged = still-table old new told result is same;
      next_then = next_is;
    })
