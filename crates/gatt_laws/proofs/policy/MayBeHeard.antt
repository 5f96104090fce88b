-- What a connection is told unasked it may then hear of.
use Rattle.std.proofs.Common.{◌≡◌, Bool, true, false, List, [], ◌∷◌, ◌++◌, Option, Some, None, refl}
use Rattle.std.specs.Prelude.{◌&&◌, not, nat_lt, if◌then◌else◌}
use Rattle.std.specs.Option.{option_map, option_to_list}
use Rattle.std.proofs.lemmas.Bool.{and_parts}
use Rattle.att_numbers.specs.Types.{Handle, Values}
use Rattle.att_pdu.specs.Response.{Response}
use Rattle.att_attributes.specs.declared.attr.Attr.{Attr}
use Rattle.gatt_laws.specs.laws.Headline.{Each}
use Rattle.gatt_laws.specs.machine.Heard.{Heard, heard_when_notifying, hearer_after, heard_in_turn}
use Rattle.gatt_laws.specs.laws.MayBeHeard.{handle_told, handles_told, TellsWhatMayBeHeard}
use Rattle.gatt_subs.proofs.Heard.{releases_only_what_is_heard}
use Rattle.gatt_subs.specs.Hearing.{may_hear_at, wants_indications}
use Rattle.gatt_subs.specs.Indications.{hears, is_notified, indicated_handle}
use Rattle.gatt_subs.specs.Told.{Hearer, notification_of, indication_of}

each-append : (P : Handle → Type 0) (handles more : List Handle) → Each P handles → Each P more → Each P (handles ++ more)
each-append P [] more first second = second
each-append P (handle ∷ handles) more first second = (first.0, each-append P handles more first.1 second)

each-told : (P : Handle → Type 0) (responses more : List Response) → Each P (handles_told responses) → Each P (handles_told more)
    → Each P (handles_told (responses ++ more))
each-told P [] more first second = second
each-told P (response ∷ responses) more first second =
    each-append P (handle_told response) (handles_told (responses ++ more)) (each-left P (handle_told response) (handles_told responses) first)
    (each-told P responses more (each-right P (handle_told response) (handles_told responses) first) second)
  where
    each-left : (P : Handle → Type 0) (handles rest : List Handle) → Each P (handles ++ rest) → Each P handles
    each-left P [] rest all = tt
    each-left P (handle ∷ handles) rest all = (all.0, each-left P handles rest all.1)

    each-right : (P : Handle → Type 0) (handles rest : List Handle) → Each P (handles ++ rest) → Each P rest
    each-right P [] rest all = all
    each-right P (handle ∷ handles) rest all = each-right P handles rest all.1

abbrev MayHear : List Attr → Hearer → Handle → Type 0
MayHear attributes hearer handle = may_hear_at attributes hearer.row hearer.standing handle ≡ true

raised-may : (attributes : List Attr) (values : Values) (hearer : Hearer) (handle : Handle)
    → Each (MayHear attributes hearer) (handles_told (heard_when_notifying attributes values hearer handle).responses)
raised-may attributes values hearer handle =
    elim (hearer.live && is_notified hearer.pending attributes hearer.row hearer.standing handle hearer.backlog) as
    (λ (tells : Bool). (hearer.live && is_notified hearer.pending attributes hearer.row hearer.standing handle hearer.backlog) ≡ tells
    → Each (MayHear attributes hearer) (handles_told (option_to_list (if tells then Some (notification_of values handle hearer.mtu) else None)))) [
      | true ↦ λ is.
          let notified = (and_parts hearer.live (is_notified hearer.pending attributes hearer.row hearer.standing handle hearer.backlog) is).1 in
          let heard =
          (and_parts (hears hearer.pending attributes hearer.row hearer.standing handle) (not (wants_indications hearer.row handle))
          (and_parts _ (nat_lt hearer.backlog 8) notified).0).0 in
          ((and_parts (not hearer.pending.timed_out) (may_hear_at attributes hearer.row hearer.standing handle) heard).1, tt)
      | false ↦ λ is. tt
    ] refl

released-may : (attributes : List Attr) (values : Values) (hearer : Hearer) (live : Bool)
    → Each (MayHear attributes hearer) (handles_told (option_to_list (if live then option_map (λ handle. indication_of values handle hearer.mtu)
    (indicated_handle hearer.pending attributes hearer.row hearer.standing hearer.backlog) else None)))
released-may attributes values hearer false = tt
released-may attributes values hearer true =
    elim (indicated_handle hearer.pending attributes hearer.row hearer.standing hearer.backlog) as
    (λ (found : Option Handle). indicated_handle hearer.pending attributes hearer.row hearer.standing hearer.backlog ≡ found
    → Each (MayHear attributes hearer) (handles_told (option_to_list (option_map (λ handle. indication_of values handle hearer.mtu) found)))) [
      | None ↦ λ is. tt
      | Some handle ↦ λ is. ((releases_only_what_is_heard hearer.pending attributes hearer.row hearer.standing hearer.backlog handle is).may, tt)
    ] refl

pub tells_what_may_be_heard : TellsWhatMayBeHeard
tells_what_may_be_heard attributes values hearer now [] = released-may attributes values hearer hearer.live
tells_what_may_be_heard attributes values hearer now (handle ∷ handles) =
    let first : Heard = heard_when_notifying attributes values hearer handle in
    each-told (MayHear attributes hearer) first.responses (heard_in_turn attributes values (hearer_after hearer first) now handles).responses
    (raised-may attributes values hearer handle) (tells_what_may_be_heard attributes values (hearer_after hearer first) now handles)
