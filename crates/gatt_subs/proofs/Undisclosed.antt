-- What a connection is told depends on no value that it may not hear of.
use Rattle.std.proofs.Common.{◌≡◌, ◌-◌, Bool, true, false, ◌&&◌, if◌then◌else◌, List, take, Option, Some, None, refl, ap}
use Rattle.std.specs.Prelude.{not, nat_lt}
use Rattle.std.specs.Option.{option_map}
use Rattle.std.proofs.lemmas.Bool.{and_parts}
use Rattle.octet_io.specs.Number.{Octets}
use Rattle.att_numbers.specs.Types.{Handle, Values}
use Rattle.att_pdu.specs.Response.{Response}
use Rattle.att_pdu.specs.Response.Response.{HandleValueNotification, HandleValueIndication}
use Rattle.att_attributes.specs.declared.attr.Attr.{Attr}
use Rattle.gatt_subs.specs.declared.pending.TheConstants.{MAX_BACKLOG}
use Rattle.gatt_subs.specs.Hearing.{may_hear_at, wants_indications}
use Rattle.gatt_subs.specs.Indications.{hears, is_notified, indicated_handle}
use Rattle.gatt_subs.specs.Told.{Hearer, notification_of, indication_of, AgreeWhereHeard, TellsOnlyWhatIsHeard}
use Rattle.gatt_subs.proofs.Heard.{releases_only_what_is_heard}

-- what is notified may be heard
notified_is_heard : (attributes : List Attr) (hearer : Hearer) (handle : Handle)
    → hearer.live && is_notified hearer.pending attributes hearer.row hearer.standing handle hearer.backlog ≡ true
    → may_hear_at attributes hearer.row hearer.standing handle ≡ true
notified_is_heard attributes hearer handle is =
    let heard = hears hearer.pending attributes hearer.row hearer.standing handle in
    let unwanted = not (wants_indications hearer.row handle) in
    let notified = and_parts hearer.live (is_notified hearer.pending attributes hearer.row hearer.standing handle hearer.backlog) is in
    let asked = and_parts (heard && unwanted) (nat_lt hearer.backlog MAX_BACKLOG) notified.1 in
    (and_parts (not hearer.pending.timed_out) (may_hear_at attributes hearer.row hearer.standing handle) (and_parts heard unwanted asked.0).0).1

raised_same : (attributes : List Attr) (hearer : Hearer) (one other : Values) (handle : Handle) (due : Bool) → AgreeWhereHeard attributes hearer one other
    → hearer.live && is_notified hearer.pending attributes hearer.row hearer.standing handle hearer.backlog ≡ due
    → (if due then Some (notification_of one handle hearer.mtu) else None) ≡ (if due then Some (notification_of other handle hearer.mtu) else None)
raised_same attributes hearer one other handle true agree is =
    ap (λ (value : Octets). Some (HandleValueNotification handle (take (hearer.mtu - 3) value))) (agree handle (notified_is_heard attributes hearer handle is))
raised_same attributes hearer one other handle false agree is = refl

indicated_same : (attributes : List Attr) (hearer : Hearer) (one other : Values) (found : Option Handle) → AgreeWhereHeard attributes hearer one other
    → indicated_handle hearer.pending attributes hearer.row hearer.standing hearer.backlog ≡ found
    → option_map (λ handle. indication_of one handle hearer.mtu) found ≡ option_map (λ handle. indication_of other handle hearer.mtu) found
indicated_same attributes hearer one other None agree is = refl
indicated_same attributes hearer one other (Some handle) agree is =
    let heard = releases_only_what_is_heard hearer.pending attributes hearer.row hearer.standing hearer.backlog handle is in
    ap (λ (value : Octets). Some (HandleValueIndication handle (take (hearer.mtu - 3) value))) (agree handle heard.may)

released_same : (live : Bool) (one other : Option Response) → one ≡ other → (if live then one else None) ≡ (if live then other else None)
released_same true one other same = same
released_same false one other same = refl

pub tells_only_what_is_heard : TellsOnlyWhatIsHeard
tells_only_what_is_heard attributes hearer one other agree =
    let found = indicated_handle hearer.pending attributes hearer.row hearer.standing hearer.backlog in
    record {
      raised =
          λ handle. raised_same attributes hearer one other handle
          (hearer.live && is_notified hearer.pending attributes hearer.row hearer.standing handle hearer.backlog) agree refl;
      released =
          released_same hearer.live (option_map (λ handle. indication_of one handle hearer.mtu) found)
          (option_map (λ handle. indication_of other handle hearer.mtu) found)
          (indicated_same attributes hearer one other found agree refl);
    }
