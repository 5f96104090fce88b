-- Each value that a connection is sent unasked is one that `may_hear_at` then permits.
use Rattle.std.specs.Prelude.{◌≡◌, ℕ, true, List, [], ◌∷◌, ◌++◌}
use Rattle.att_numbers.specs.Types.{Handle, Values}
use Rattle.att_pdu.specs.Response.{Response, HandleValueNotification, HandleValueIndication}
use Rattle.att_attributes.specs.declared.attr.Attr.{Attr}
use Rattle.gatt_laws.specs.laws.Headline.{Each}
use Rattle.gatt_laws.specs.machine.Heard.{heard_in_turn}
use Rattle.gatt_subs.specs.Hearing.{may_hear_at}
use Rattle.gatt_subs.specs.Told.{Hearer}

abbrev pub handle_told : Response → List Handle
handle_told (HandleValueNotification handle value) = handle ∷ []
handle_told (HandleValueIndication handle value) = handle ∷ []
handle_told response = []

abbrev pub handles_told : List Response → List Handle
handles_told [] = []
handles_told (response ∷ responses) = handle_told response ++ handles_told responses

abbrev pub TellsWhatMayBeHeard : Type 0
TellsWhatMayBeHeard =
    (attributes : List Attr) (values : Values) (hearer : Hearer) (now : ℕ) (handles : List Handle) →
    Each (λ handle. may_hear_at attributes hearer.row hearer.standing handle ≡ true)
    (handles_told (heard_in_turn attributes values hearer now handles).responses)
