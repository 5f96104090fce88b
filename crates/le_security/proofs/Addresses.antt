-- A text of as many characters as an address has, character by character.
use Rattle.std.proofs.Common.{◌≡◌, ℕ, zero, suc, ◌+◌, true, if◌then◌else◌, ◌==◌, ◌&&◌, None, [], ◌∷◌, length, get_or, drop, ap, drop-cons, arith}
use Rattle.std.proofs.lemmas.Grind.{common_steps}
use Rattle.octet_io.specs.Number.{Octets}
use Rattle.le_security.specs.Address.{address_octets, address_of}

-- so many characters from a place on
abbrev characters : Octets → ℕ → ℕ → Octets
characters text place zero = []
characters text place (suc count) = get_or text place 0 ∷ characters text (place + 1) count

drop_characters : (text : Octets) (place count : ℕ) → place + count ≡ length text → drop place text ≡ characters text place count
drop_characters text place zero e = grind (arith, common_steps)
drop_characters text place (suc count) e =
    let rest = drop_characters text (place + 1) count (omega arith) in
    grind (arith, common_steps, drop-cons, rest)

-- an address, by the places of its digits and colons
abbrev at : Octets → ℕ → ℕ
at text place = get_or text place 0

pub address_of_places : (text : Octets) → length text ≡ 17
    → address_of text
    ≡ (if at text 2 == 58 && (at text 5 == 58 && (at text 8 == 58 && (at text 11 == 58 && (at text 14 == 58 && true))))
    then address_octets (at text 0 ∷ at text 1 ∷ at text 3 ∷ at text 4 ∷ at text 6 ∷ at text 7 ∷ at text 9 ∷ at text 10 ∷ at text 12 ∷ at text 13 ∷ at text 15
    ∷ at text 16 ∷ [])
    else None)
address_of_places text long = ap address_of (drop_characters text 0 17 (omega arith))
