-- The only value of an event, which is sent at once if nothing waits before it.
use Rattle.std.specs.Prelude.{Bool, true, false, ◌&&◌, if◌then◌else◌, List, [], ◌∷◌, Option, Some, None}
use Rattle.att_numbers.specs.Types.{Handle, Mtu, Row, Values}
use Rattle.att_pdu.specs.Response.{Response}
use Rattle.att_policy.specs.declared.standing.Standing.{Standing}
use Rattle.att_attributes.specs.declared.attr.Attr.{Attr}
use Rattle.gatt_subs.specs.declared.hearing.Telling.{Telling}
use Rattle.gatt_subs.specs.declared.hearing.Telling.TheVariants.{Notification, Indication}
use Rattle.gatt_subs.specs.Hearing.{wants_indications}
use Rattle.gatt_subs.specs.Indications.{Indications, Backlog, Milliseconds, after_notify, hears, is_notified, may_indicate, unconfirmed_since}
use Rattle.gatt_subs.specs.Told.{indication_of, notification_of}

abbrev pub none_waits : List Handle → Bool
none_waits [] = true
none_waits (handle ∷ handles) = false

-- The client requested indications, nothing waits, and an indication may be sent.
abbrev pub is_indicated_alone : Indications → List Attr → Row → Standing → Handle → Backlog → Bool
is_indicated_alone pending attributes row standing handle backlog =
    hears pending attributes row standing handle && wants_indications row handle
    && none_waits pending.waiting && may_indicate pending backlog

-- How the value is sent at once, and the resulting state; otherwise it waits.
abbrev pub telling_alone : Indications → List Attr → Row → Standing → Handle → Backlog
    → Option Telling
telling_alone pending attributes row standing handle backlog =
    if is_notified pending attributes row standing handle backlog then Some Notification else
    (if is_indicated_alone pending attributes row standing handle backlog then Some Indication
    else None)

abbrev pub after_notify_alone : Indications → List Attr → Row → Standing → Handle → Backlog
    → Milliseconds → Indications
after_notify_alone pending attributes row standing handle backlog now =
    if is_indicated_alone pending attributes row standing handle backlog
    then record pending { unconfirmed = Some (unconfirmed_since now handle) }
    else after_notify pending attributes row standing handle

-- The PDU of a notification or indication.
abbrev pub telling_of : Values → Handle → Mtu → Telling → Response
telling_of values handle mtu Notification = notification_of values handle mtu
telling_of values handle mtu Indication = indication_of values handle mtu
