use Rattle.std.proofs.Common.{◌≡◌, ℕ, Bool, true, false, List, [], Option, Some, ap, sym, refl, ◌∙◌}
use Rattle.std.specs.Bool.{if◌then◌else◌}
use Rattle.std.specs.Option.{option_to_list}
use Rattle.gatt_host.specs.ServerState.{ServerState, server_after_event, with_last}
use Rattle.gatt_host.proofs.server.Server.end_with_changes.Goals.{in-Some, in_default, in_default-via-in-Some+else-due, in_default-via-in_default}
use Rattle.gatt_host.proofs.server.Server.end_with_changes.Goals as goal

no_handles : (due : Bool) → ◌≡◌ {A = List ℕ} (if due then [] else []) []
no_handles true = refl
no_handles false = refl

pub returns : goal.returns
returns c =
    let old : ServerState = c.args.self.now in
    let heard : List ℕ → ServerState = λ here. server_after_event (Some c.args.place) here [] old in
    let changer : old.changer ≡ c.self.inside.changer = sym (ap (λ (server : ServerState). server.changer) c.self.view_is) in
    let handles : Bool → Option ℕ → List ℕ = λ due changer. if due then option_to_list changer else [] in
    ap (λ (server : ServerState). with_last c.args.last server) (c.self-2.view_is ∙ (elim c.match-self.branch [
      | in-Some w ↦
          w.self-is ∙ w.notify.ensures
          ∙ sym (ap (λ (due : Bool). heard (handles due old.changer)) w.if-due.true ∙ ap (λ (it : Option ℕ). heard (handles true it)) (changer ∙ w.in-Some.is))
      | in_default w ↦
          w.self-is ∙ w.notify-in_default.ensures
          ∙ sym (elim w.in_default.branch [
            | in_default-via-in-Some+else-due v ↦ ap (λ (due : Bool). heard (handles due old.changer)) v.if-due.false
            | in_default-via-in_default v ↦
                ap (λ (it : Option ℕ). heard (handles c.args.due it)) (changer ∙ v.in_default.is) ∙ ap heard (no_handles c.args.due)
          ])
    ]))
