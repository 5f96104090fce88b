use Rattle.std.proofs.Common.{◌≡◌, true, ◌∷◌, [], None, refl, sym, subst, ◌∙◌}
use Rattle.std.specs.Prelude.{IsOk}
use Rattle.gatt_host.proofs.model.Items.{drained_where, frames_suffice, none_unless, reached_by, is_of_its_table}
use Rattle.gatt_host.proofs.model.Packets.{passes_long, takes_packet}
use Rattle.gatt_host.proofs.model.Told.{long_told, not_long, ok_where, told_in_run}
use Rattle.gatt_host.proofs.model.Stands.{past_none, past_stop}
use Rattle.gatt_host.proofs.Promises.{continues_apart, continues_by_the_policy}
use Rattle.gatt_host.specs.contracts.host.Host.{the_view}
use Rattle.gatt_host.specs.HostModel.{RefinesPacket, RefinesRun, Takes, HostModel, all_out}
use Rattle.gatt_laws.specs.machine.Input.{APacket, run}
use Rattle.gatt_laws.specs.machine.Packets.{packet_event}
use Rattle.le_h4.specs.Packet.{packet_of_ref}
use Rattle.gatt_host.proofs.host.Host.packet.Goals as goal

pub packet-taken-requires-clause-enough : goal.packet-taken-requires-clause-enough
packet-taken-requires-clause-enough c = frames_suffice (the_view c.self.inside) c.self.invariant

pub packet-taken-requires-clause-of_table : goal.packet-taken-requires-clause-of_table
packet-taken-requires-clause-of_table c =
    let old : HostModel = the_view c.self.inside in
    let out : all_out old ≡ true = subst (λ (host : HostModel). all_out host ≡ true) (sym c.self.view_is) c.requires.drained in
    is_of_its_table old c.self.invariant (drained_where old (none_unless old.fault c.in_default.not-Some) out)

pub invariant_of-self-2 : goal.invariant_of-self-2
invariant_of-self-2 c =
    let old : HostModel = the_view c.self.inside in
    let new : HostModel = record old { server = c.packet-taken.new.server; frames = c.packet-taken.new.frames; fault = c.err-self-inside.result } in
    reached_by (APacket (packet_of_ref c.args.packet) ∷ []) [] old new c.self.invariant
    (takes_packet (packet_of_ref c.args.packet) old new (sym c.is_long.ensures ∙ c.if-is_long.false) (none_unless old.fault c.in_default.not-Some) refl
    (subst (RefinesPacket (packet_of_ref c.args.packet) old.server old.frames new.server new.frames) (sym c.err-self-inside.ensures.value)
    c.packet-taken.ensures.refines))

pub invariant_of-self : goal.invariant_of-self
invariant_of-self c =
    let old : HostModel = the_view c.self.inside in
    let new : HostModel = record old { server = c.forget.new.self } in
    reached_by (APacket (packet_of_ref c.args.packet) ∷ []) [] old new c.self.invariant
    (passes_long (packet_of_ref c.args.packet) old new (sym c.is_long.ensures ∙ c.if-is_long.true) (none_unless old.fault c.in_default.not-Some)
    (λ i. record old { server = c.forget.ensures i }))

pub returns-then-is_long-clause-takes : goal.returns-then-is_long-clause-takes
returns-then-is_long-clause-takes c =
    let old : HostModel = the_view c.self.inside in
    let new : HostModel = record old { server = c.forget.new.self } in
    subst (λ (host : HostModel). host.fault ≡ None → Takes (APacket (packet_of_ref c.args.packet)) host new) c.self.view_is (λ none.
    passes_long (packet_of_ref c.args.packet) old new (sym c.is_long.ensures ∙ c.if-is_long.true) none (λ i. record old { server = c.forget.ensures i }))

pub returns-then-is_long-clause-told : goal.returns-then-is_long-clause-told
returns-then-is_long-clause-told c = λ start input sent is none still.
    let old : HostModel = the_view c.self.inside in
    let new : HostModel = record old { server = c.forget.new.self } in
    long_told (packet_of_ref c.args.packet) (run start input) old new (sym c.is_long.ensures ∙ c.if-is_long.true) still
    (λ i. record old { server = c.forget.ensures i })

pub returns-clause-takes : goal.returns-clause-takes
returns-clause-takes c =
    let old : HostModel = the_view c.self.inside in
    let new : HostModel = record old { server = c.packet-taken.new.server; frames = c.packet-taken.new.frames; fault = c.err-self-inside.result } in
    subst (λ (host : HostModel). host.fault ≡ None → Takes (APacket (packet_of_ref c.args.packet)) host new) c.self.view_is (λ none.
    takes_packet (packet_of_ref c.args.packet) old new (sym c.is_long.ensures ∙ c.if-is_long.false) none refl
    (subst (RefinesPacket (packet_of_ref c.args.packet) old.server old.frames new.server new.frames) (sym c.err-self-inside.ensures.value)
    c.packet-taken.ensures.refines))

pub returns-clause-told : goal.returns-clause-told
returns-clause-told c = λ start input sent is none still.
    let old : HostModel = the_view c.self.inside in
    let new : HostModel = record old { server = c.packet-taken.new.server; frames = c.packet-taken.new.frames; fault = c.err-self-inside.result } in
    let going : old.fault ≡ None = subst (λ (host : HostModel). host.fault ≡ None) (sym c.self.view_is) none in
    let done : IsOk c.packet-taken.result = ok_where c.packet-taken.result (sym c.err-self-inside.ensures.value ∙ still) in
    told_in_run (APacket (packet_of_ref c.args.packet)) (run start input) sent old new going
    (packet_event (run start input).intake.state (run start input).intake.fragments (packet_of_ref c.args.packet))
    (not_long (run start input).intake.state (run start input).intake.fragments (packet_of_ref c.args.packet) (sym c.is_long.ensures ∙ c.if-is_long.false))
    still
    (subst (λ (host : HostModel). RefinesRun (run start input) sent host) (sym c.self.view_is) is) (λ refines.
    c.packet-taken.ensures.told done (run start input) sent refines)

pub returns-in-Some-clause-takes : goal.returns-in-Some-clause-takes
returns-in-Some-clause-takes c = past_stop (the_view c.self.inside) c.args.self.now c.self.view_is c.in-Some.fault c.in-Some.is

pub returns-in-Some-clause-told : goal.returns-in-Some-clause-told
returns-in-Some-clause-told c = λ start input sent is none. past_stop (the_view c.self.inside) c.args.self.now c.self.view_is c.in-Some.fault c.in-Some.is none

pub returns-in-Some-clause-not_own : goal.returns-in-Some-clause-not_own
returns-in-Some-clause-not_own c = past_stop (the_view c.self.inside) c.args.self.now c.self.view_is c.in-Some.fault c.in-Some.is

pub returns-in-Some-clause-policy : goal.returns-in-Some-clause-policy
returns-in-Some-clause-policy c =
    continues_by_the_policy (APacket (packet_of_ref c.args.packet) ∷ []) c.args.self.now c.args.self.now (λ some. refl) (returns-in-Some-clause-takes c)

pub returns-in-Some-clause-apart : goal.returns-in-Some-clause-apart
returns-in-Some-clause-apart c =
    continues_apart (APacket (packet_of_ref c.args.packet) ∷ []) c.args.self.now c.args.self.now (λ some. refl) (returns-in-Some-clause-takes c)

pub returns-then-is_long-clause-stopped : goal.returns-then-is_long-clause-stopped
returns-then-is_long-clause-stopped c = past_none (the_view c.self.inside) c.args.self.now c.self.view_is c.in_default.is

pub returns-then-is_long-clause-policy : goal.returns-then-is_long-clause-policy
returns-then-is_long-clause-policy c =
    continues_by_the_policy (APacket (packet_of_ref c.args.packet) ∷ []) _ _ (returns-then-is_long-clause-stopped c) (returns-then-is_long-clause-takes c)

pub returns-then-is_long-clause-apart : goal.returns-then-is_long-clause-apart
returns-then-is_long-clause-apart c =
    continues_apart (APacket (packet_of_ref c.args.packet) ∷ []) _ _ (returns-then-is_long-clause-stopped c) (returns-then-is_long-clause-takes c)

pub returns-clause-stopped : goal.returns-clause-stopped
returns-clause-stopped c = past_none (the_view c.self.inside) c.args.self.now c.self.view_is c.in_default.is

pub returns-clause-policy : goal.returns-clause-policy
returns-clause-policy c =
    continues_by_the_policy (APacket (packet_of_ref c.args.packet) ∷ []) _ _ (returns-clause-stopped c) (returns-clause-takes c)

pub returns-clause-apart : goal.returns-clause-apart
returns-clause-apart c =
    continues_apart (APacket (packet_of_ref c.args.packet) ∷ []) _ _ (returns-clause-stopped c) (returns-clause-takes c)
