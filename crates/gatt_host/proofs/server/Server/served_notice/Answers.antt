use Rattle.std.proofs.Common.{◌≡◌, ℕ, ◌-◌, ◌≤◌, List, [], ◌∷◌, ◌++◌, map, length, slice_get, subst, sym, ap, ◌∙◌, arith, append_assoc}
use Rattle.std.specs.Prelude.{if◌then◌else◌}
use Rattle.std.specs.Option.{option_map, option_to_list}
use Rattle.std.proofs.lemmas.Bool.{ltb-false}
use Rattle.std.proofs.lemmas.List.{length-map}
use Rattle.att_numbers.specs.Types.{Handle}
use Rattle.gatt_host.proofs.packets.Appended.{behind}
use Rattle.gatt_host.specs.contracts.server.Server.{the_view}
use Rattle.gatt_host.specs.ServerState.{ServerState}
use Rattle.gatt_host.specs.Notices.{notice_of, row_at_place, served_told}
use Rattle.gatt_laws.specs.machine.Notice.{Notice, Confirmed, Ending, write_told}
use Rattle.gatt_laws.specs.machine.Effect.{remote_user_terminated}
use Rattle.gatt_host.proofs.server.Server.served_notice.Goals as goal

pub returns-in-None-clause-notice : goal.returns-in-None-clause-notice
returns-in-None-clause-notice c =
    let server : ServerState = the_view c.self.inside in
    let at : ℕ = c.args.at in
    let written : List Handle = c.self.inside.written.items in
    let wrote : List Notice = map (write_told server.table.attributes (row_at_place server c.args.place) c.args.handle) written in
    let confirmed : List Notice = map (Confirmed c.args.handle) (option_to_list c.args.brought.confirmed) in
    let ending : List Notice = if c.args.brought.ended then Ending c.args.handle remote_user_terminated ∷ [] else [] in
    let count : length wrote ≡ length written = length-map written (write_told server.table.attributes (row_at_place server c.args.place) c.args.handle) in
    let same : length c.deref.result.now ≡ length written = ap (λ (it : List Handle). length it) c.deref.ensures.0 in
    let beyond : length c.deref.result.now ≤ at = ltb-false at (length c.deref.result.now) (sym (c.in-None.ensures.lookup.0)) in
    let past : length wrote ≤ at = omega (arith, count, same, beyond) in
    let from : at - c.len.result ≡ at - length wrote = let len : c.len.result ≡ length written = c.len.ensures.value in omega (arith, count, len) in
    subst (λ (server : ServerState). option_map notice_of c.brought_notice.result ≡ slice_get (served_told server c.args.place c.args.handle c.args.brought) at)
    c.self.view_is
    (c.brought_notice.ensures.notice
    ∙ ap (λ (k : ℕ). slice_get (confirmed ++ ending) k) from
    ∙ sym (behind wrote (confirmed ++ ending) at past)
    ∙ ap (λ (all : List Notice). slice_get all at) (sym (append_assoc wrote confirmed ending)))
