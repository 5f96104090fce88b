-- A call behind what was owed.
use Rattle.std.proofs.Common.{◌≡◌, List, [], ◌∷◌, ◌++◌, Option, Some, None, Result, Ok, Err, sym, ap, subst, ◌∙◌, append-nil}
use Rattle.std.specs.Prelude.{is_some, IsErrAnd, MatchResult}
use Rattle.gatt_host.proofs.owing.Nexts.{clash}
use Rattle.gatt_host.proofs.model.Feeds.{feeds_then, going_takes}
use Rattle.gatt_host.proofs.model.Hearing.{hears_nothing, listens_then}
use Rattle.gatt_host.specs.Asked.{refusal_in_result}
use Rattle.gatt_host.specs.Calling.{Answers, IsCallRefusedAs, answer_told}
use Rattle.host_api.specs.declared.app.AppFault.{AppFault}
use Rattle.gatt_host.specs.declared.fault.Fault.{Fault}
use Rattle.gatt_host.specs.declared.fault.Fault.TheVariants as told
use Rattle.gatt_host.specs.declared.host_fault.HostFault.{HostFault}
use Rattle.gatt_host.specs.Feeding.{Feeds, TakesAll}
use Rattle.gatt_host.specs.Listening.{Listens}
use Rattle.gatt_host.specs.HostModel.{HostModel}
use Rattle.gatt_laws.specs.machine.Calls.{Call}
use Rattle.gatt_laws.specs.machine.Input.{Item, ACall, call_refusal, run}
use Rattle.gatt_laws.specs.machine.Notice.{Received}
use Rattle.octet_io.specs.Number.{Octets}

-- what an error is made of
pub error_told : {P : Fault → Type 0} (result : Result Unit Fault) (fault : Fault) → IsErrAnd result P → ((found : Fault) → P found → found ≡ fault)
    → result ≡ Err fault
error_told (Ok done) fault is same = absurd is
error_told (Err found) fault is same = ap (λ (found : Fault). Err found) (same found is)

-- what the host answers to the call is answered
pub answer_as : {P : AppFault → Fault → Type 0} (answer : Result Unit AppFault) (result : Result Unit Fault)
    → MatchResult answer (λ done. result ≡ Ok done) (λ refused. IsErrAnd result (P refused))
    → ((refused : AppFault) (found : Fault) → P refused found → found ≡ told.Call refused)
    → result ≡ answer_told None answer
answer_as (Ok done) result is same = is
answer_as (Err refused) result is same = error_told result (told.Call refused) is (same refused)

-- the fault for which the host has stopped is answered
pub stopped_answers : (call : Call) (old : HostModel) (found : Option HostFault) (fault : HostFault) → found ≡ Some fault → (result : Result Unit Fault)
    → result ≡ Err (told.Host fault)
    → Answers call old found result
stopped_answers call old found fault is result answered = record {
  answer = Ok tt;
  told = answered ∙ ap (λ (found : Option HostFault). answer_told found (Ok tt)) (sym is);
  refused = λ none. absurd (clash (ap (λ (found : Option HostFault). is_some found) (sym none ∙ is)));
}

-- what was owed is written, and changes nothing of the run
module _ (call : Call) (old mid new : HostModel) (before between after : Option Octets) (still : mid.fault ≡ None)
    (feeds : Feeds [] old mid before between mid.fault) where
  takes : TakesAll [] old mid before between
  takes = going_takes [] old mid before between mid.fault still feeds

  pub call_refused : (answer : Result Unit AppFault) → IsCallRefusedAs call mid answer → IsCallRefusedAs call old answer
  call_refused answer refused start input sent is =
      subst (λ (input : List Item). refusal_in_result answer ≡ call_refusal (run start input).intake call) (append-nil input)
      (refused start (input ++ []) (sent ++ takes.packets) (takes.refines start input sent is))

  pub call_behind : (fault : Option HostFault) → Feeds (ACall call ∷ []) mid new between after fault → Feeds (ACall call ∷ []) old new before after fault
  call_behind fault then_feeds = feeds_then [] (ACall call ∷ []) old mid new before between after fault takes then_feeds

  pub call_listens : (fault : Option HostFault) (known heard : Option (List Received)) → Listens (ACall call ∷ []) mid new fault known heard
      → Listens (ACall call ∷ []) old new fault known heard
  call_listens fault known heard listens =
      listens_then [] (ACall call ∷ []) takes.packets old mid new known known heard fault takes.refines (hears_nothing old known) listens
