-- A connection at the end of an event.
use Rattle.std.proofs.Common.{◌≡◌, ℕ, ◌+◌, Bool, true, false, List, [], ◌∷◌, None, refl, ap, ◌∙◌, append-nil}
use Rattle.std.specs.Prelude.{is_some, nat_lt, length, if◌then◌else◌}
use Rattle.att_numbers.specs.Types.{Handle, Values}
use Rattle.att_attributes.specs.declared.attr.Attr.{Attr}
use Rattle.gatt_laws.specs.machine.Controller.{command_of_init, count_before, without_command}
use Rattle.gatt_laws.specs.machine.Heard.{Heard, heard_in_turn, hearer_of, with_heard, after_hearing}
use Rattle.gatt_laws.specs.machine.ConnectionState.{ConnectionState, is_live, after_giving}
use Rattle.gatt_laws.specs.machine.SharedState.{SharedState, share_of, fragment_size_of}
use Rattle.gatt_laws.specs.machine.Event.{Connected, Disconnected}
use Rattle.gatt_laws.specs.laws.Silence.{OnlyServesTheLive, OnlyTheLiveAct, IsAllGiven, GivesAllThatItMay}
use Rattle.gatt_laws.specs.machine.State.{Change, connections_finished, step, change_of}
use Rattle.gatt_subs.specs.Told.{Hearer}
use Rattle.le_acl.specs.History.{packets_allowed}

-- who does not serve hears nothing
abbrev nothing_heard : Hearer → Heard
nothing_heard hearer = record { responses = []; pending = hearer.pending }

hears-nothing : (attributes : List Attr) (values : Values) (hearer : Hearer) (now : ℕ) (handles : List Handle) → hearer.live ≡ false
    → heard_in_turn attributes values hearer now handles ≡ nothing_heard hearer
hears-nothing attributes values hearer now [] is = rw is refl
hears-nothing attributes values hearer now (handle ∷ handles) is =
    rw is (hears-nothing attributes values (record hearer { live = false; backlog = hearer.backlog + 0 }) now handles refl)

given-kept : (shared : SharedState) (connection : ConnectionState) → is_live connection.mark ≡ false → after_giving shared connection ≡ connection
given-kept shared connection is = rw is refl

pub only_serves_the_live : OnlyServesTheLive
unfolding after_hearing
only_serves_the_live shared bonds handles connection is =
    let hearer : Hearer = hearer_of shared (bonds connection.peer) connection in
    ap (λ (heard : Heard). after_giving shared (with_heard connection heard))
    (hears-nothing shared.table.attributes shared.table.values hearer shared.time handles is)
    ∙ ap (λ pdus. after_giving shared (record connection { pdus = pdus })) (append-nil connection.pdus)
    ∙ given-kept shared connection is

all-given : (shared : SharedState) (connection : ConnectionState) (live : Bool) → is_live connection.mark ≡ live
    → IsAllGiven shared
    (if live
    then record connection { given = packets_allowed (share_of shared.slots shared.buffers) (fragment_size_of shared.buffers) connection.pdus connection.done }
    else connection)
all-given shared connection true is lives = refl
all-given shared connection false is lives = cc (is, lives)

-- commands that are sent change nothing of it
sent-command : (shared : SharedState) (connection : ConnectionState) (has : Bool) → IsAllGiven shared connection
    → IsAllGiven shared (if has then record connection { reason = None } else record connection { reply = None })
sent-command shared connection true all = all
sent-command shared connection false all = all

sent-or-not : (shared : SharedState) (connection : ConnectionState) (sent : Bool) → IsAllGiven shared connection
    → IsAllGiven shared (if sent then without_command connection else connection)
sent-or-not shared connection true all = sent-command shared connection (is_some connection.reason) all
sent-or-not shared connection false all = all

pub gives_all_that_it_may : GivesAllThatItMay
unfolding step
gives_all_that_it_may state event ordinal =
    let change : Change = change_of state event in
    let shared : SharedState = change.state.shared in
    let heard : ConnectionState =
    after_hearing shared (change.state.bonds (change.state.connections ordinal).peer) (change.to_notify ordinal) (change.state.connections ordinal) in
    sent-or-not shared (connections_finished change ordinal)
    (nat_lt (length (command_of_init change.state.controller) + count_before ordinal (connections_finished change) change.state.slots)
    change.state.controller.credit)
    (all-given shared heard (is_live heard.mark) refl)

pub only_the_live_act : OnlyTheLiveAct
only_the_live_act shared bond owed connection (Connected handle peer) is kind = cc kind
only_the_live_act shared bond owed connection Disconnected is kind = cc kind
only_the_live_act shared bond owed connection own is kind = rw is refl
