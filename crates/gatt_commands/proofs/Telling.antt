-- What a phone has heard is told, frame by frame.
use Rattle.std.proofs.Common.{◌≡◌, ℕ, zero, suc, ◌+◌, ◌<◌, List, [], ◌∷◌, ◌++◌, take, drop, length, slice_get, slice_index_or, slice_set, Option, Some, refl, sym, ap, subst, ◌∙◌, append_assoc, arith}
use Rattle.std.specs.Io.KnownBytes.{Appends}
use Rattle.std.proofs.lemmas.Grind.{common_steps}
use Rattle.std.proofs.lemmas.List.{append-nil}
use Rattle.shell_files.proofs.Appending.{appends-append}
use Rattle.gatt_commands.specs.Lines.{heard_line, heard_lines, phone_text, phones_text, told_phone, told_phones, with_told_phone, with_told_phones}
use Rattle.octet_io.specs.Number.{Octets}
use Rattle.sim_controller.specs.Phone.{Phone, absent_phone, phone_after_hearing}
use Rattle.sim_controller.specs.Simulated.{Simulated, phone_at, with_phone}

-- one phone is replaced
pub phone_set : (phones : List Phone) (place : ℕ) → slice_set phones place (slice_index_or phones place absent_phone) ≡ phones
phone_set [] place = grind (arith, common_steps)
phone_set (phone ∷ phones) zero = grind (arith, common_steps)
phone_set (phone ∷ phones) (suc place) = ap (λ (rest : List Phone). phone ∷ rest) (phone_set phones place)

pub set_twice : (phones : List Phone) (place : ℕ) (first second : Phone) → slice_set (slice_set phones place first) place second ≡ slice_set phones place second
set_twice [] place first second = grind (arith, common_steps)
set_twice (phone ∷ phones) zero first second = grind (arith, common_steps)
set_twice (phone ∷ phones) (suc place) first second = ap (λ (rest : List Phone). phone ∷ rest) (set_twice phones place first second)

-- what a phone is then, where none is still none
pub heard_then : (phones : List Phone) (place : ℕ)
    → slice_index_or (slice_set phones place (phone_after_hearing (slice_index_or phones place absent_phone))) place absent_phone
    ≡ phone_after_hearing (slice_index_or phones place absent_phone)
heard_then [] place = refl
heard_then (phone ∷ phones) zero = refl
heard_then (phone ∷ phones) (suc place) = heard_then phones place

-- a phone of the same name has heard the rest, and the others stand
pub record HasTold (name : Octets) (place : ℕ) (old new : Simulated) (held holds : Option Octets) : Type 0 where
  pub told : Octets
  pub appended : Appends held holds told
  pub parts : heard_lines name (phone_at old place).heard ≡ told ++ heard_lines name (phone_at new place).heard
  pub ended : (phone_at new place).ended ≡ (phone_at old place).ended
  pub link : (phone_at new place).link ≡ (phone_at old place).link
  pub others : (phone : Phone) → with_phone new place phone ≡ with_phone old place phone

pub heard_split : (name frame : Octets) (heard : List Octets) → slice_get heard 0 ≡ Some frame
    → heard_lines name heard ≡ heard_line name frame ++ heard_lines name (drop 1 heard)
heard_split name frame [] is = grind (arith, common_steps)
heard_split name frame (first ∷ heard) is = grind (arith, common_steps)

pub told_more : (name frame : Octets) (place : ℕ) (old mid new : Simulated) (held between holds : Option Octets) → HasTold name place old mid held between
    → slice_get (phone_at mid place).heard 0 ≡ Some frame → new ≡ with_phone mid place (phone_after_hearing (phone_at mid place))
    → Appends between holds (heard_line name frame) → HasTold name place old new held holds
told_more name frame place old mid new held between holds so_far first after appended =
    subst (λ (new : Simulated). HasTold name place old new held holds) (sym after)
    (let hears : phone_at (with_phone mid place (phone_after_hearing (phone_at mid place))) place
    ≡ phone_after_hearing (phone_at mid place) = heard_then mid.phones place in
    record {
      told = so_far.told ++ heard_line name frame;
      appended = appends-append held between holds so_far.told (heard_line name frame) so_far.appended appended;
      parts =
          so_far.parts ∙ ap (λ (octets : Octets). so_far.told ++ octets) (heard_split name frame (phone_at mid place).heard first)
          ∙ sym (append_assoc so_far.told (heard_line name frame) (heard_lines name (drop 1 (phone_at mid place).heard)))
          ∙ ap (λ (phone : Phone). (so_far.told ++ heard_line name frame) ++ heard_lines name phone.heard) (sym hears);
      ended = ap (λ (phone : Phone). phone.ended) hears ∙ so_far.ended;
      link = ap (λ (phone : Phone). phone.link) hears ∙ so_far.link;
      others =
          λ phone. ap (λ (phones : List Phone). record mid { phones = phones }) (set_twice mid.phones place (phone_after_hearing (phone_at mid place)) phone)
          ∙ so_far.others phone;
    })

-- one phone after another
pub phone_still : (count : ℕ) (phones : List Phone) → slice_index_or (told_phones count phones) count absent_phone ≡ slice_index_or phones count absent_phone
phone_still zero phones = refl
phone_still (suc count) [] = refl
phone_still (suc count) (phone ∷ phones) = phone_still count phones

pub phone_told : (count : ℕ) (phones : List Phone)
    → slice_set (told_phones count phones) count (told_phone (slice_index_or (told_phones count phones) count absent_phone)) ≡ told_phones (suc count) phones
phone_told zero [] = grind (arith, common_steps)
phone_told zero (phone ∷ phones) = grind (arith, common_steps)
phone_told (suc count) [] = grind (arith, common_steps)
phone_told (suc count) (phone ∷ phones) = ap (λ (rest : List Phone). told_phone phone ∷ rest) (phone_told count phones)

pub text_next : (count : ℕ) (names : List Octets) (phones : List Phone) → count < length names
    → phones_text (take (suc count) names) phones
    ≡ phones_text (take count names) phones ++ phone_text (slice_index_or names count []) (slice_index_or phones count absent_phone)
text_next count [] phones below = absurd (omega arith)
text_next zero (name ∷ names) [] below = refl
text_next zero (name ∷ names) (phone ∷ phones) below = append-nil (phone_text name phone)
text_next (suc count) (name ∷ names) [] below = refl
text_next (suc count) (name ∷ names) (phone ∷ phones) below =
    let next = text_next count names phones (omega arith) in
    ap (λ (octets : Octets). phone_text name phone ++ octets) next
    ∙ sym (append_assoc (phone_text name phone) (phones_text (take count names) phones)
    (phone_text (slice_index_or names count []) (slice_index_or phones count absent_phone)))

-- so many of the phones are told
pub record HasToldPhones (count : ℕ) (names : List Octets) (old new : Simulated) (held holds : Option Octets) : Type 0 where
  pub appended : Appends held holds (phones_text (take count names) old.phones)
  pub after : new ≡ with_told_phones old count

-- whatever stands past the end
pub any_default : {X : Type 0} (items : List X) (place : ℕ) (first second : X) → place < length items → slice_index_or items place first
    ≡ slice_index_or items place second
any_default [] place first second below = absurd (omega arith)
any_default (item ∷ items) zero first second below = refl
any_default (item ∷ items) (suc place) first second below = any_default items place first second (omega arith)

pub phones_more : (count : ℕ) (names : List Octets) (name : Octets) (old mid new : Simulated) (held between holds : Option Octets) → count < length names
    → name ≡ slice_index_or names count name → HasToldPhones count names old mid held between
    → Appends between holds (phone_text name (phone_at mid count)) → new ≡ with_told_phone mid count → HasToldPhones (count + 1) names old new held holds
phones_more count names name old mid new held between holds below named so_far appended after =
    let one : suc count ≡ count + 1 = omega arith in
    subst (λ (next : ℕ). HasToldPhones next names old new held holds) one
    (let same : phone_at mid count ≡ phone_at old count = ap (λ (sim : Simulated). phone_at sim count) so_far.after ∙ phone_still count old.phones in
    let text : Appends between holds (phone_text (slice_index_or names count []) (phone_at old count)) =
    subst (λ (name : Octets). Appends between holds (phone_text name (phone_at old count))) (named ∙ any_default names count name [] below)
    (subst (λ (phone : Phone). Appends between holds (phone_text name phone)) same appended)
    in
    record {
      appended =
          subst (Appends held holds) (sym (text_next count names old.phones below))
          (appends-append held between holds (phones_text (take count names) old.phones) (phone_text (slice_index_or names count []) (phone_at old count))
          so_far.appended text);
      after =
          after ∙ ap (λ (sim : Simulated). with_told_phone sim count) so_far.after
          ∙ ap (λ (phones : List Phone). record old { phones = phones }) (phone_told count old.phones);
    })
