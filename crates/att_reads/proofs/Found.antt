-- How groups are listed one after another.
use Rattle.std.proofs.Common.{◌≡◌, ◌<◌, ◌≤◌, ℕ, ◌+◌, ◌-◌, ◌/◌, List, [], ◌∷◌, ◌++◌, length, take, map, zero, suc, refl, sym, ap, ◌∙◌, arith, append_assoc, length-append}
use Rattle.std.specs.List.{flat_map}
use Rattle.att_numbers.specs.Types.{Handle, Mtu}
use Rattle.att_numbers.specs.declared.opcode.TheConstants.{FIND_BY_TYPE_VALUE_REQUEST, FIND_BY_TYPE_VALUE_RESPONSE}
use Rattle.att_pdu.specs.Response.{element_octets, FindByTypeValueResponse, sent}
use Rattle.att_table.specs.Table.{Contents}
use Rattle.att_reads.specs.Answer.{group_of, with_groups}
use Rattle.att_reads.specs.Refusals.{unless_refused, not_found}
use Rattle.att_reads.proofs.Listed.{rooms}
use Rattle.octet_io.specs.Number.{Octets}

take-none : (n : ℕ) → take {A = Handle} n [] ≡ []
take-none zero = refl
take-none (suc n) = refl

-- the octets of the group that a handle begins, and of those that several begin
abbrev group_octets : Contents → Handle → Octets
group_octets table handle = element_octets (group_of table handle)

abbrev all_octets : Contents → List Handle → Octets
all_octets table handles = flat_map (group_octets table) handles

pub groups_next : (table : Contents) (mtu : Mtu) (old new : Octets) (handle : Handle) (rest : List Handle) → length old + 4 ≤ mtu
    → new ≡ old ++ element_octets (group_of table handle)
    → with_groups table mtu new rest ≡ with_groups table mtu old (handle ∷ rest)
groups_next table mtu old new handle rest fits appended =
    let room = mtu - length old in
    let grown : length new ≡ length old + 4 = ap length appended ∙ length-append old (group_octets table handle) in
    let above : 0 < 4 = omega arith in
    let enough : 4 ≤ room = omega (arith, fits) in
    let left : mtu - length new ≡ room - 4 = omega (arith, grown) in
    ap (λ octets. octets ++ all_octets table (take ((mtu - length new) / 4) rest)) appended
    ∙ append_assoc old (group_octets table handle) _
    ∙ ap (λ less. old ++ (group_octets table handle ++ all_octets table (take (less / 4) rest))) left
    ∙ ap (λ count. old ++ all_octets table (take count (handle ∷ rest))) (sym (rooms room 4 above enough))

-- the elements of a response have these octets
octets_of_groups : (table : Contents) (handles : List Handle) → all_octets table handles ≡ flat_map element_octets (map (group_of table) handles)
octets_of_groups table [] = refl
octets_of_groups table (handle ∷ rest) = ap (λ octets. group_octets table handle ++ octets) (octets_of_groups table rest)

-- with a group the answer lists what is found
pub found_groups : (table : Contents) (mtu : Mtu) (start : Handle) (found : List Handle) → (found ≡ [] → ⊥)
    → with_groups table mtu (FIND_BY_TYPE_VALUE_RESPONSE ∷ []) found
    ≡ sent (unless_refused FIND_BY_TYPE_VALUE_REQUEST (not_found start found ∷ [])
    (FindByTypeValueResponse (map (group_of table) (take ((mtu - 1) / 4) found))))
found_groups table mtu start [] some = absurd (some refl)
found_groups table mtu start (handle ∷ rest) some =
    ap (λ octets. FIND_BY_TYPE_VALUE_RESPONSE ∷ octets) (octets_of_groups table (take ((mtu - 1) / 4) (handle ∷ rest)))
