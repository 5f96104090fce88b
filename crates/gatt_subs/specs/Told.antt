-- The notifications and indications of a connection (Core 5.0, Vol 3 Part F, 3.4.7).
use Rattle.std.specs.Prelude.{◌≡◌, ◌-◌, Bool, true, ◌&&◌, if◌then◌else◌, List, take, Option, Some, None}
use Rattle.std.specs.Option.{option_map}
use Rattle.att_numbers.specs.Types.{Handle, Mtu, Row, Values}
use Rattle.att_pdu.specs.Response.{Response}
use Rattle.att_pdu.specs.Response.Response.{HandleValueNotification, HandleValueIndication}
use Rattle.att_policy.specs.declared.standing.Standing.{Standing}
use Rattle.att_attributes.specs.declared.attr.Attr.{Attr}
use Rattle.att_table.specs.Table.{value_at}
use Rattle.octet_io.specs.Number.{Octets}
use Rattle.gatt_subs.specs.Hearing.{may_hear_at}
use Rattle.gatt_subs.specs.Indications.{Indications, Backlog, Milliseconds, is_notified, after_notify, indicated_handle, after_indicate}

-- A value is cut to what fits after opcode and handle. (P-SUB-2)
abbrev pub value_front : Values → Handle → Mtu → Octets
value_front values handle mtu = take (mtu - 3) (value_at values handle)

abbrev pub notification_of : Values → Handle → Mtu → Response
notification_of values handle mtu = HandleValueNotification handle (value_front values handle mtu)

abbrev pub indication_of : Values → Handle → Mtu → Response
indication_of values handle mtu = HandleValueIndication handle (value_front values handle mtu)

-- The state that decides, with the table, what a connection is sent; `live` excludes absent and
-- ending connections.
pub record Hearer : Type 0 where
  pub live : Bool
  pub standing : Standing
  pub row : Row
  pub mtu : Mtu
  pub backlog : Backlog
  pub pending : Indications

-- The notification of a value.
abbrev pub notify_tells : List Attr → Values → Hearer → Handle → Option Response
notify_tells attributes values hearer handle =
    if hearer.live && is_notified hearer.pending attributes hearer.row hearer.standing handle
    hearer.backlog
    then Some (notification_of values handle hearer.mtu) else None

abbrev pub pending_after_notify : List Attr → Hearer → Handle → Indications
pending_after_notify attributes hearer handle =
    if hearer.live then after_notify hearer.pending attributes hearer.row hearer.standing handle
    else hearer.pending

-- The indication at the end of an event.
abbrev pub indicate_tells : List Attr → Values → Hearer → Option Response
indicate_tells attributes values hearer =
    if hearer.live then option_map (λ handle. indication_of values handle hearer.mtu)
    (indicated_handle hearer.pending attributes hearer.row hearer.standing hearer.backlog)
    else None

abbrev pub pending_after_indicate : List Attr → Hearer → Milliseconds → Indications
pending_after_indicate attributes hearer now =
    if hearer.live
    then after_indicate hearer.pending attributes hearer.row hearer.standing hearer.backlog now
    else hearer.pending

-- The values agree if the connection may be notified of them.
abbrev pub AgreeWhereHeard : List Attr → Hearer → Values → Values → Type 0
AgreeWhereHeard attributes hearer one other =
    (handle : Handle) → may_hear_at attributes hearer.row hearer.standing handle ≡ true
    → value_at one handle ≡ value_at other handle

pub record TellsTheSame (attributes : List Attr) (hearer : Hearer) (one other : Values) : Type 0
  where
    pub raised : (handle : Handle) → notify_tells attributes one hearer handle
        ≡ notify_tells attributes other hearer handle
    pub released : indicate_tells attributes one hearer ≡ indicate_tells attributes other hearer

-- The PDUs depend on no value that the connection may not be notified of.
abbrev pub TellsOnlyWhatIsHeard : Type 0
TellsOnlyWhatIsHeard = (attributes : List Attr) (hearer : Hearer) (one other : Values)
    → AgreeWhereHeard attributes hearer one other → TellsTheSame attributes hearer one other
