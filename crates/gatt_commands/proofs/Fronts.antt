-- The front of what is printed of a line of a script.
use Rattle.std.proofs.Common.{◌≡◌, ℕ, suc, zero, ◌<◌, List, [], ◌∷◌, ◌++◌, take, drop, length, slice_get, slice_index_or, Option, Some, Result, Ok, refl, sym, ap, subst, ◌∙◌, append_assoc}
use Rattle.std.specs.Prelude.{OnErr}
use Rattle.std.proofs.lemmas.List.{append-nil}
use Rattle.std.proofs.lemmas.Result.{on_err_weaker}
use Rattle.shell_files.proofs.Fronts.{front_first, front_then}
use Rattle.gatt_commands.proofs.Telling.{HasTold, HasToldPhones, any_default, heard_split, heard_then, phone_still, text_next}
use Rattle.gatt_commands.specs.declared.refused.Refused.{Refused}
use Rattle.gatt_commands.specs.declared.refused.Refused.TheVariants.{Act, Call}
use Rattle.gatt_commands.specs.Lines.{ended_line, ended_text, frame_line, frame_line_if, heard_line, heard_lines, phone_text, phones_text, refused_line, IsOfPhone}
use Rattle.le_l2cap.specs.Frame.{BasicFrame, frame_of}
use Rattle.octet_io.specs.Number.{Octets}
use Rattle.octet_io.specs.Stream.{WritesFront}
use Rattle.sim_controller.specs.Phone.{Phone, phone_after_hearing}
use Rattle.sim_controller.specs.Simulated.{Simulated, phone_at, with_phone}

-- of what is refused
pub refused_call_front : {T E : Type 0} (result : Result T E) (names : List Octets) (refused : Refused) (number : ℕ) (held holds : Option Octets)
    → refused ≡ Call number
    → OnErr result (WritesFront (refused_line names (Call number)) held holds) → OnErr result (WritesFront (refused_line names refused) held holds)
refused_call_front result names refused number held holds is =
    subst (λ (told : Refused). OnErr result (WritesFront (refused_line names told) held holds)) (sym is)

pub refused_act_front : {T E : Type 0} (result : Result T E) (names : List Octets) (refused : Refused) (phone number : ℕ) (held holds : Option Octets)
    → refused ≡ Act phone number
    → OnErr result (WritesFront (refused_line names (Act phone number)) held holds) → OnErr result (WritesFront (refused_line names refused) held holds)
refused_act_front result names refused phone number held holds is =
    subst (λ (told : Refused). OnErr result (WritesFront (refused_line names told) held holds)) (sym is)

pub name_of_act : (names : List Octets) (refused : Refused) (phone number place : ℕ) (name : Octets) → refused ≡ Act phone number
    → IsOfPhone (length names) refused
    → place ≡ phone → name ≡ slice_index_or names place name → name ≡ slice_index_or names phone []
name_of_act names refused phone number place name is of same named =
    let below : phone < length names = subst (IsOfPhone (length names)) is of in
    named ∙ ap (λ (place : ℕ). slice_index_or names place name) same ∙ any_default names phone name [] below

-- of a line of a frame
pub frame_line_front : {T E : Type 0} (result : Result T E) (name octets : Octets) (frame : BasicFrame) (held holds : Option Octets)
    → frame_of octets ≡ Ok frame → OnErr result (WritesFront (frame_line name frame) held holds)
    → OnErr result (WritesFront (heard_line name octets) held holds)
frame_line_front result name octets frame held holds is =
    subst (λ (line : Octets). OnErr result (WritesFront line held holds)) (sym (ap (frame_line_if name) is))

-- of a frame that a phone has heard
pub frame_front : (name frame : Octets) (place : ℕ) (old mid : Simulated) (held between holds : Option Octets) → HasTold name place old mid held between
    → slice_get (phone_at mid place).heard 0 ≡ Some frame → WritesFront (heard_line name frame) between holds
    → WritesFront (phone_text name (phone_at old place)) held holds
frame_front name frame place old mid held between holds so_far first front =
    front_first (heard_lines name (phone_at old place).heard) (ended_text name (phone_at old place).ended) held holds
    (subst (λ (octets : Octets). WritesFront octets held holds) (sym so_far.parts)
    (front_then so_far.told (heard_lines name (phone_at mid place).heard) held between holds so_far.appended
    (subst (λ (octets : Octets). WritesFront octets between holds) (sym (heard_split name frame (phone_at mid place).heard first))
    (front_first (heard_line name frame) (heard_lines name (drop 1 (phone_at mid place).heard)) between holds front))))

-- of the end of its connection
end-front : (name : Octets) (reason place : ℕ) (old mid : Simulated) (held between holds : Option Octets) → HasTold name place old mid held between
    → (phone_at mid place).heard ≡ [] → (phone_at mid place).ended ≡ Some reason → WritesFront (ended_line name reason) between holds
    → WritesFront (phone_text name (phone_at old place)) held holds
end-front name reason place old mid held between holds so_far none is front =
    let heard : heard_lines name (phone_at old place).heard ≡ so_far.told =
    so_far.parts ∙ ap (λ (heard : List Octets). so_far.told ++ heard_lines name heard) none ∙ append-nil so_far.told in
    let ended : ended_text name (phone_at old place).ended ≡ ended_line name reason =
    ap (λ (ended : Option ℕ). ended_text name ended) (sym so_far.ended ∙ is) in
    subst (λ (octets : Octets). WritesFront octets held holds) (sym (λ i. heard i ++ ended i))
    (front_then so_far.told (ended_line name reason) held between holds so_far.appended front)

pub end_front : {T E : Type 0} (result : Result T E) (name : Octets) (told : Option ℕ) (reason place : ℕ) (old mid new : Simulated)
    (held between holds : Option Octets)
    → HasTold name place old mid held between → (phone_at mid place).heard ≡ [] → new ≡ with_phone mid place (phone_after_hearing (phone_at mid place))
    → told ≡ (phone_at new place).ended → told ≡ Some reason → OnErr result (WritesFront (ended_line name reason) between holds)
    → OnErr result (WritesFront (phone_text name (phone_at old place)) held holds)
end_front result name told reason place old mid new held between holds so_far none after tells is =
    let hears : phone_at new place ≡ phone_after_hearing (phone_at mid place) = ap (λ (sim : Simulated). phone_at sim place) after ∙ heard_then mid.phones place
    in
    on_err_weaker result
    (end-front name reason place old mid held between holds so_far none (sym (ap (λ (phone : Phone). phone.ended) hears) ∙ sym tells ∙ is))

phones-rest : (count : ℕ) (names : List Octets) (phones : List Phone)
    → (rest : Octets) × (phones_text names phones ≡ phones_text (take count names) phones ++ rest)
phones-rest zero names phones = (phones_text names phones, refl)
phones-rest (suc count) [] phones = ([], refl)
phones-rest (suc count) (name ∷ names) [] = ([], refl)
phones-rest (suc count) (name ∷ names) (phone ∷ phones) =
    let next = phones-rest count names phones in (
      next.0,
      ap (λ (octets : Octets). phone_text name phone ++ octets) next.1
          ∙ sym (append_assoc (phone_text name phone) (phones_text (take count names) phones) next.0),
    )

-- of one phone after those that are told
pub phones_front : (count : ℕ) (names : List Octets) (name : Octets) (old mid : Simulated) (held between holds : Option Octets) → count < length names
    → name ≡ slice_index_or names count name → HasToldPhones count names old mid held between
    → WritesFront (phone_text name (phone_at mid count)) between holds → WritesFront (phones_text names old.phones) held holds
phones_front count names name old mid held between holds below named so_far front =
    let same : phone_at mid count ≡ phone_at old count = ap (λ (sim : Simulated). phone_at sim count) so_far.after ∙ phone_still count old.phones in
    let text : WritesFront (phone_text (slice_index_or names count []) (phone_at old count)) between holds =
    subst (λ (name : Octets). WritesFront (phone_text name (phone_at old count)) between holds) (named ∙ any_default names count name [] below)
    (subst (λ (phone : Phone). WritesFront (phone_text name phone) between holds) same front)
    in
    let here : WritesFront (phones_text (take (suc count) names) old.phones) held holds =
    subst (λ (octets : Octets). WritesFront octets held holds) (sym (text_next count names old.phones below))
    (front_then (phones_text (take count names) old.phones) (phone_text (slice_index_or names count []) (phone_at old count)) held between holds so_far.appended
    text)
    in
    let rest = phones-rest (suc count) names old.phones in
    subst (λ (octets : Octets). WritesFront octets held holds) (sym rest.1)
    (front_first (phones_text (take (suc count) names) old.phones) rest.0 held holds here)
