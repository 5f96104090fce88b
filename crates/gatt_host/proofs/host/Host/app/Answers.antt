use Rattle.std.proofs.Common.{◌≡◌, true, ◌∷◌, [], None, refl, sym, subst, ◌∙◌}
use Rattle.gatt_host.proofs.owing.Nexts.{is_none_where}
use Rattle.gatt_host.proofs.model.Calls.{call_refused, call_told, takes_call}
use Rattle.gatt_host.proofs.model.Told.{told_in_run}
use Rattle.gatt_host.proofs.model.Items.{drained_where, is_of_its_table, reached_by}
use Rattle.gatt_host.specs.Calls.{call_of}
use Rattle.gatt_host.proofs.model.Stands.{past_none, past_some}
use Rattle.gatt_host.proofs.Promises.{continues_apart, continues_by_the_policy}
use Rattle.gatt_host.specs.contracts.host.Host.{the_view}
use Rattle.gatt_host.specs.Meaning.{IsAfter}
use Rattle.gatt_host.specs.HostModel.{RefinesRun, Takes, HostModel, all_out}
use Rattle.gatt_laws.specs.machine.Calls.{call_event}
use Rattle.gatt_laws.specs.machine.Input.{ACall, run}
use Rattle.gatt_host.proofs.host.Host.app.Goals as goal

pub app-requires : goal.app-requires
app-requires c =
    let old : HostModel = the_view c.self.inside in
    let out : all_out old ≡ true = subst (λ (host : HostModel). all_out host ≡ true) (sym c.self.view_is) c.requires.drained in
    record { of_table = is_of_its_table old c.self.invariant (drained_where old (is_none_where old.fault (sym c.is_some.ensures ∙ c.if-is_some.false)) out) }

pub invariant_of-self : goal.invariant_of-self
invariant_of-self c =
    let old : HostModel = the_view c.self.inside in
    let new : HostModel = record old { server = c.app.new.self } in
    let out : all_out old ≡ true = subst (λ (host : HostModel). all_out host ≡ true) (sym c.self.view_is) c.requires.drained in
    reached_by (ACall (call_of c.args.call) ∷ []) [] old new c.self.invariant
    (takes_call (call_of c.args.call) old new (is_none_where old.fault (sym c.is_some.ensures ∙ c.if-is_some.false)) out c.app.result c.app.ensures.after
    c.app.ensures.refused
    c.app.ensures.silent (record { frames = refl; stream = refl; fault = refl }))

pub returns-clause-takes : goal.returns-clause-takes
returns-clause-takes c =
    let old : HostModel = the_view c.self.inside in
    let new : HostModel = record old { server = c.app.new.self } in
    let out : all_out old ≡ true = subst (λ (host : HostModel). all_out host ≡ true) (sym c.self.view_is) c.requires.drained in
    subst (λ (host : HostModel). host.fault ≡ None → Takes (ACall (call_of c.args.call)) host new) c.self.view_is (λ none.
    takes_call (call_of c.args.call) old new none out c.app.result c.app.ensures.after c.app.ensures.refused c.app.ensures.silent
    (record { frames = refl; stream = refl; fault = refl }))

pub returns-clause-refused : goal.returns-clause-refused
returns-clause-refused c = λ start input sent is none.
    let old : HostModel = the_view c.self.inside in
    let out : all_out old ≡ true = subst (λ (host : HostModel). all_out host ≡ true) (sym c.self.view_is) c.requires.drained in
    call_refused (call_of c.args.call) old (λ happening. IsAfter happening old.server c.app.new.self) c.app.result
    (subst (λ (host : HostModel). host.fault ≡ None) (sym c.self.view_is) none) out c.app.ensures.after c.app.ensures.refused
    (run start input) sent (subst (λ (host : HostModel). RefinesRun (run start input) sent host) (sym c.self.view_is) is)

pub returns-clause-told : goal.returns-clause-told
returns-clause-told c = λ start input sent is none still.
    let old : HostModel = the_view c.self.inside in
    let new : HostModel = record old { server = c.app.new.self } in
    let out : all_out old ≡ true = subst (λ (host : HostModel). all_out host ≡ true) (sym c.self.view_is) c.requires.drained in
    let going : old.fault ≡ None = subst (λ (host : HostModel). host.fault ≡ None) (sym c.self.view_is) none in
    told_in_run (ACall (call_of c.args.call)) (run start input) sent old new going (call_event (run start input).intake.state (call_of c.args.call))
    refl still (subst (λ (host : HostModel). RefinesRun (run start input) sent host) (sym c.self.view_is) is) (λ refines.
    call_told (call_of c.args.call) old new going out c.app.result c.app.ensures.after c.app.ensures.refused c.app.ensures.silent
    (run start input) sent refines)

pub returns-then-is_some-clause-takes : goal.returns-then-is_some-clause-takes
returns-then-is_some-clause-takes c = past_some (the_view c.self.inside) c.args.self.now c.self.view_is (sym c.is_some.ensures ∙ c.if-is_some.true)

pub returns-then-is_some-clause-told : goal.returns-then-is_some-clause-told
returns-then-is_some-clause-told c =
    λ start input sent is none. past_some (the_view c.self.inside) c.args.self.now c.self.view_is (sym c.is_some.ensures ∙ c.if-is_some.true) none

pub returns-then-is_some-clause-refused : goal.returns-then-is_some-clause-refused
returns-then-is_some-clause-refused c =
    λ start input sent is. past_some (the_view c.self.inside) c.args.self.now c.self.view_is (sym c.is_some.ensures ∙ c.if-is_some.true)

pub returns-then-is_some-clause-policy : goal.returns-then-is_some-clause-policy
returns-then-is_some-clause-policy c =
    continues_by_the_policy (ACall (call_of c.args.call) ∷ []) c.args.self.now c.args.self.now (λ some. refl) (returns-then-is_some-clause-takes c)

pub returns-then-is_some-clause-apart : goal.returns-then-is_some-clause-apart
returns-then-is_some-clause-apart c =
    continues_apart (ACall (call_of c.args.call) ∷ []) c.args.self.now c.args.self.now (λ some. refl) (returns-then-is_some-clause-takes c)

pub returns-clause-stopped : goal.returns-clause-stopped
returns-clause-stopped c =
    past_none (the_view c.self.inside) c.args.self.now c.self.view_is
    (is_none_where (the_view c.self.inside).fault (sym c.is_some.ensures ∙ c.if-is_some.false))

pub returns-clause-policy : goal.returns-clause-policy
returns-clause-policy c =
    continues_by_the_policy (ACall (call_of c.args.call) ∷ []) _ _ (past_none (the_view c.self.inside) c.args.self.now c.self.view_is
    (is_none_where (the_view c.self.inside).fault (sym c.is_some.ensures ∙ c.if-is_some.false))) (returns-clause-takes c)

pub returns-clause-apart : goal.returns-clause-apart
returns-clause-apart c =
    continues_apart (ACall (call_of c.args.call) ∷ []) _ _ (past_none (the_view c.self.inside) c.args.self.now c.self.view_is
    (is_none_where (the_view c.self.inside).fault (sym c.is_some.ensures ∙ c.if-is_some.false))) (returns-clause-takes c)
