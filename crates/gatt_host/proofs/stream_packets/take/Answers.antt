use Rattle.std.proofs.Common.{◌≡◌, true, [], None, Some, Ok, Err, refl, sym, subst}
use Rattle.gatt_host.proofs.model.Items.{drained_where, frames_suffice, leads_from, reached_by, is_of_its_table}
use Rattle.gatt_host.proofs.model.StreamTold.{tells_from, up_to_from}
use Rattle.gatt_host.specs.contracts.host.Host.{the_view}
use Rattle.gatt_host.specs.Feeding.{TakesUpToAPacket, items_taken}
use Rattle.gatt_host.specs.Telling.{TellsOfAll}
use Rattle.gatt_host.specs.HostModel.{Refines, HostModel, all_out}
use Rattle.gatt_host.proofs.stream_packets.take.Goals as goal

pub take_in-requires-clause-enough : goal.take_in-requires-clause-enough
take_in-requires-clause-enough c = frames_suffice (the_view c.host.inside) c.host.invariant

pub take_in-requires-clause-of_table : goal.take_in-requires-clause-of_table
take_in-requires-clause-of_table c =
    let old : HostModel = the_view c.host.inside in
    let out : all_out old ≡ true = subst (λ (host : HostModel). all_out host ≡ true) (sym c.host.view_is) c.requires.drained in
    let none : old.fault ≡ None = subst (λ (host : HostModel). host.fault ≡ None) (sym c.host.view_is) c.requires.no_fault in
    is_of_its_table old c.host.invariant (drained_where old none out)

pub returns-in-Ok-clause-refines : goal.returns-in-Ok-clause-refines
returns-in-Ok-clause-refines c =
    let old : HostModel = the_view c.host.inside in
    let new : HostModel = record old { server = c.take_in.new.server; frames = c.take_in.new.frames; stream = c.take_in.new.stream } in
    let none : old.fault ≡ None = subst (λ (host : HostModel). host.fault ≡ None) (sym c.host.view_is) c.requires.no_fault in
    subst (λ (host : HostModel). Refines (items_taken c.args.octets.now (Ok c.in-Ok.used)) [] host new) c.host.view_is
    (leads_from old new (items_taken c.args.octets.now (Ok c.in-Ok.used)) None none none c.in-Ok.ensures.refines)

pub invariant_of-host-in-Err : goal.invariant_of-host-in-Err
invariant_of-host-in-Err c =
    let old : HostModel = the_view c.host.inside in
    let new : HostModel = record { server = c.take_in.new.server; frames = c.take_in.new.frames; stream = c.take_in.new.stream; fault = Some c.in-Err.fault } in
    let none : old.fault ≡ None = subst (λ (host : HostModel). host.fault ≡ None) (sym c.host.view_is) c.requires.no_fault in
    reached_by (items_taken c.args.octets.now (Err c.in-Err.fault)) [] old new c.host.invariant
    (leads_from old new (items_taken c.args.octets.now (Err c.in-Err.fault)) (Some c.in-Err.fault) none refl c.in-Err.ensures.refines)

pub returns-in-Err-clause-refines : goal.returns-in-Err-clause-refines
returns-in-Err-clause-refines c =
    let old : HostModel = the_view c.host.inside in
    let new : HostModel = record { server = c.take_in.new.server; frames = c.take_in.new.frames; stream = c.take_in.new.stream; fault = Some c.in-Err.fault } in
    let none : old.fault ≡ None = subst (λ (host : HostModel). host.fault ≡ None) (sym c.host.view_is) c.requires.no_fault in
    subst (λ (host : HostModel). Refines (items_taken c.args.octets.now (Err c.in-Err.fault)) [] host new) c.host.view_is
    (leads_from old new (items_taken c.args.octets.now (Err c.in-Err.fault)) (Some c.in-Err.fault) none refl c.in-Err.ensures.refines)

pub invariant_of-host : goal.invariant_of-host
invariant_of-host c =
    let old : HostModel = the_view c.host.inside in
    let new : HostModel = record old { server = c.take_in.new.server; frames = c.take_in.new.frames; stream = c.take_in.new.stream } in
    let none : old.fault ≡ None = subst (λ (host : HostModel). host.fault ≡ None) (sym c.host.view_is) c.requires.no_fault in
    reached_by (items_taken c.args.octets.now (Ok c.in-Ok.used)) [] old new c.host.invariant
    (leads_from old new (items_taken c.args.octets.now (Ok c.in-Ok.used)) None none none c.in-Ok.ensures.refines)

pub returns-in-Ok-clause-told : goal.returns-in-Ok-clause-told
returns-in-Ok-clause-told c =
    let old : HostModel = the_view c.host.inside in
    let new : HostModel = record old { server = c.take_in.new.server; frames = c.take_in.new.frames; stream = c.take_in.new.stream } in
    let none : old.fault ≡ None = subst (λ (host : HostModel). host.fault ≡ None) (sym c.host.view_is) c.requires.no_fault in
    subst (λ (host : HostModel). TellsOfAll (items_taken c.args.octets.now (Ok c.in-Ok.used)) host new) c.host.view_is
    (tells_from old new (items_taken c.args.octets.now (Ok c.in-Ok.used)) None none none c.in-Ok.ensures.told)

pub returns-in-Ok-clause-up_to : goal.returns-in-Ok-clause-up_to
returns-in-Ok-clause-up_to c =
    let old : HostModel = the_view c.host.inside in
    let none : old.fault ≡ None = subst (λ (host : HostModel). host.fault ≡ None) (sym c.host.view_is) c.requires.no_fault in
    subst (λ (host : HostModel). TakesUpToAPacket c.args.octets.now c.in-Ok.used host) c.host.view_is
    (up_to_from old c.args.octets.now c.in-Ok.used none c.in-Ok.ensures.up_to)

pub returns-in-Err-clause-told : goal.returns-in-Err-clause-told
returns-in-Err-clause-told c =
    let old : HostModel = the_view c.host.inside in
    let new : HostModel = record { server = c.take_in.new.server; frames = c.take_in.new.frames; stream = c.take_in.new.stream; fault = Some c.in-Err.fault } in
    let none : old.fault ≡ None = subst (λ (host : HostModel). host.fault ≡ None) (sym c.host.view_is) c.requires.no_fault in
    subst (λ (host : HostModel). TellsOfAll (items_taken c.args.octets.now (Err c.in-Err.fault)) host new) c.host.view_is
    (tells_from old new (items_taken c.args.octets.now (Err c.in-Err.fault)) (Some c.in-Err.fault) none refl c.in-Err.ensures.told)
