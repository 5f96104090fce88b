-- What a controller gives is what its acts and answers tell, in their order.
use Rattle.std.proofs.Common.{◌≡◌, ℕ, List, [], ◌∷◌, ◌++◌, refl, sym, ap, ◌∙◌, append_assoc, append-nil, take-append-drop}
use Rattle.std.specs.Prelude.{Option, Some, None}
use Rattle.sim_controller.specs.declared.command.Asked.{Asked}
use Rattle.sim_controller.specs.declared.command.Asked.TheVariants.{Status, ReadBufferSize, LeReadBufferSize, Advertise, Disconnect, GiveKey, RefuseKey}
use Rattle.sim_controller.specs.declared.config.SimConfig.{SimConfig}
use Rattle.sim_controller.specs.declared.fault.SimFault.{SimFault}
use Rattle.sim_controller.specs.declared.told.Told.{Told}
use Rattle.le_acl.specs.Fragment.{Fragment}
use Rattle.sim_controller.specs.Acts.{SimulatedAct, Connect, Drop, Encrypt, Clear, Send, Hold, Done, told_of_act, act_fault, simulated_after_doing, simulated_after_act}
use Rattle.sim_controller.specs.Answers.{phone_here, answers, with_end, simulated_after_answer, after_data, host_fault, after_host}
use Rattle.sim_controller.specs.Calls.{SimulatedCall, Acts, Takes, Gives, Hears, Tells, if_accepted, after_call, after_calls, told_of_data, told_of_host, told_by, given_by_call, given_in_calls, GivesInOrder}
use Rattle.sim_controller.specs.FromHost.{Taken, Command, Data, host_packet_of}
use Rattle.sim_controller.specs.Simulated.{Simulated}

accepted : (fault : Option SimFault) (old new : Simulated) (told : List Told) → new.waiting ≡ old.waiting ++ told
    → (if_accepted fault new old).waiting ≡ old.waiting ++ if_accepted fault told []
accepted None old new told e = e
accepted (Some fault) old new told e = sym (append-nil old.waiting)

doing-waits : (old : Simulated) (act : SimulatedAct) → (simulated_after_doing old act).waiting ≡ old.waiting
doing-waits old (Connect phone peer) = refl
doing-waits old (Drop phone) = refl
doing-waits old (Encrypt phone random_number diversifier) = refl
doing-waits old (Clear phone) = refl
doing-waits old (Send phone channel payload) = refl
doing-waits old (Hold phone) = refl
doing-waits old (Done phone packets) = refl

end-waits : (old : Simulated) (found : Option ℕ) (reason : ℕ) → (with_end old found reason).waiting ≡ old.waiting
end-waits old None reason = refl
end-waits old (Some phone) reason = refl

answer-waits : (old : Simulated) (asked : Asked) → (simulated_after_answer old asked).waiting ≡ old.waiting
answer-waits old (Status code) = refl
answer-waits old ReadBufferSize = refl
answer-waits old LeReadBufferSize = refl
answer-waits old (Advertise enable) = refl
answer-waits old (Disconnect handle reason) = end-waits old (phone_here old.phones handle) reason
answer-waits old (GiveKey handle) = refl
answer-waits old (RefuseKey handle) = refl

data-waits : (old : Simulated) (found : Option ℕ) (fragment : Fragment) → (after_data old found fragment).waiting ≡ old.waiting ++ told_of_data old found
data-waits old None fragment = sym (append-nil old.waiting)
data-waits old (Some phone) fragment = refl

host-waits : (old : Simulated) (taken : Option Taken) → (after_host old taken).waiting ≡ old.waiting ++ told_of_host old taken
host-waits old None = sym (append-nil old.waiting)
host-waits old (Some (Command asked)) = ap (λ (waiting : List Told). waiting ++ answers old asked) (answer-waits old asked)
host-waits old (Some (Data handle fragment)) = data-waits old (phone_here old.phones handle) fragment

-- one call
call-waits : (old : Simulated) (call : SimulatedCall) → given_by_call old call ++ (after_call old call).waiting ≡ old.waiting ++ told_by old call
call-waits old (Acts act) =
    accepted (act_fault old act) old (simulated_after_act old act) (told_of_act old.config act)
    (ap (λ (waiting : List Told). waiting ++ told_of_act old.config act) (doing-waits old act))
call-waits old (Takes octets) =
    accepted (host_fault old (host_packet_of octets)) old (after_host old (host_packet_of octets)) (told_of_host old (host_packet_of octets))
    (host-waits old (host_packet_of octets))
call-waits old Gives = take-append-drop 1 old.waiting ∙ sym (append-nil old.waiting)
call-waits old (Hears phone) = sym (append-nil old.waiting)
call-waits old (Tells phone) = sym (append-nil old.waiting)

pub gives_in_order : (config : SimConfig) → GivesInOrder config
gives_in_order config [] = refl
gives_in_order config (call ∷ earlier) =
    let old : Simulated = after_calls config earlier in
    let given : List Told = given_in_calls config earlier in
    append_assoc given (given_by_call old call) (after_call old call).waiting
    ∙ ap (λ (told : List Told). given ++ told) (call-waits old call)
    ∙ sym (append_assoc given old.waiting (told_by old call))
    ∙ ap (λ (told : List Told). told ++ told_by old call) (gives_in_order config earlier)
