-- How types are listed one after another.
use Rattle.std.proofs.Common.{◌≡◌, ◌<◌, ℕ, ◌+◌, ◌-◌, ◌/◌, ◌^◌, Bool, true, false, List, [], ◌∷◌, ◌++◌, Option, Some, length, drop, get_or, map, ap, sym, subst, ◌∙◌}
use Rattle.std.specs.Int.{to_le_bytes, w16, w128}
use Rattle.std.specs.List.{flat_map}
use Rattle.std.specs.Option.{option_map_or}
use Rattle.std.specs.Prelude.{if◌then◌else◌, slice_get}
use Rattle.att_numbers.specs.AttributeType.{is_of_16_bits}
use Rattle.att_numbers.specs.declared.opcode.TheConstants.{FIND_INFORMATION_REQUEST, FIND_INFORMATION_RESPONSE}
use Rattle.att_numbers.specs.Types.{Handle, Mtu}
use Rattle.att_attributes.specs.declared.attr.Attr.{Attr}
use Rattle.att_pdu.specs.Response.{element_octets, FindInformationResponse, sent}
use Rattle.att_reads.specs.Answer.{information_format, information_of}
use Rattle.att_reads.specs.Listing.{candidate_size, elements, elements_within, run_within, size_of_first, with_listed, HasNext, HasNoNext}
use Rattle.att_reads.specs.Refusals.{not_found, unless_refused}
use Rattle.att_reads.proofs.Listed.{listed_next, listed_stop}
use Rattle.att_reads.proofs.Lists.{drop_next}
use Rattle.octet_io.specs.Number.{Octets, two_octets}

pub types_next : (of mtu : Mtu) (size : ℕ) (old new : Octets) (attributes : List Attr) (i : ℕ) (default : Attr) → i < length attributes → 0 < size
    → of ≡ mtu → HasNext of size (information_of (get_or attributes i default)) old new
    → with_listed mtu size new (map information_of (drop (i + 1) attributes)) ≡ with_listed mtu size old (map information_of (drop i attributes))
types_next of mtu size old new attributes i default below above same next =
    listed_next mtu size old new (information_of (get_or attributes i default)) (map information_of (drop (i + 1) attributes)) above
    (subst (λ m. HasNext m size (information_of (get_or attributes i default)) old new) same next)
    ∙ ap (λ left. with_listed mtu size old (map information_of left)) (sym (drop_next attributes i default below))

pub types_stop : (of mtu : Mtu) (size : ℕ) (old new : Octets) (attributes : List Attr) (i : ℕ) (default : Attr) → i < length attributes → 0 < size
    → of ≡ mtu → HasNoNext of size (information_of (get_or attributes i default)) old new
    → new ≡ with_listed mtu size old (map information_of (drop i attributes))
types_stop of mtu size old new attributes i default below above same stop =
    listed_stop mtu size old new (information_of (get_or attributes i default)) (map information_of (drop (i + 1) attributes))
    (subst (λ m. HasNoNext m size (information_of (get_or attributes i default)) old new) same stop) above
    ∙ ap (λ left. with_listed mtu size old (map information_of left)) (sym (drop_next attributes i default below))

-- with its handle, a type of 16 bits has 4 octets, and another one 18
abbrev size_by : Attr → Bool → ℕ
size_by attr short = length (two_octets attr.handle ++ (if short then to_le_bytes w16 (attr.kind / 2 ^ 96) else to_le_bytes w128 attr.kind))

pub short_size : (attr : Attr) → is_of_16_bits attr.kind ≡ true → candidate_size (information_of attr) ≡ 4
short_size attr short = ap (size_by attr) short

pub long_size : (attr : Attr) → is_of_16_bits attr.kind ≡ false → candidate_size (information_of attr) ≡ 18
long_size attr long = ap (size_by attr) long

-- the types of the first one's size are what is sent
pub types_sent : (mtu : Mtu) (start : Handle) (size format : ℕ) (first : Attr) (attributes : List Attr) → slice_get attributes 0 ≡ Some first
    → candidate_size (information_of first) ≡ size
    → format ≡ information_format size
    → with_listed mtu size (FIND_INFORMATION_RESPONSE ∷ format ∷ []) (map information_of attributes)
    ≡ sent (unless_refused FIND_INFORMATION_REQUEST (not_found start (map information_of attributes) ∷ [])
    (FindInformationResponse (information_format (size_of_first (map information_of attributes))) (elements_within mtu (map information_of attributes))))
types_sent mtu start size format first [] is size_is format_is = cc is
types_sent mtu start size format first (attr ∷ rest) is size_is format_is =
    let types = map information_of (attr ∷ rest) in
    let same : candidate_size (information_of attr) ≡ size =
    ap (λ (found : Option Attr). option_map_or (λ (it : Attr). candidate_size (information_of it)) found 0) is ∙ size_is in
    ap (λ (it : ℕ). FIND_INFORMATION_RESPONSE ∷ it ∷ flat_map element_octets (elements (run_within (mtu - 2) size types))) format_is
    ∙ ap (λ (it : ℕ). FIND_INFORMATION_RESPONSE ∷ information_format it ∷ flat_map element_octets (elements (run_within (mtu - 2) it types))) (sym same)
