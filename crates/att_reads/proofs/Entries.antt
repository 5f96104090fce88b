-- How the first attribute begins the list of its type.
use Rattle.std.proofs.Common.{◌≡◌, ◌<◌, ◌≤◌, ℕ, ◌+◌, List, Option, Some, None, [], ◌∷◌, length, take, map, refl, sym, ap, ◌∙◌, arith, length-take}
use Rattle.std.specs.Prelude.{min}
use Rattle.std.specs.List.{flat_map}
use Rattle.std.specs.Option.{option_map}
use Rattle.att_numbers.specs.Types.{Handle, Mtu, Row}
use Rattle.att_pdu.specs.Response.{Element, element_octets, ErrorResponse, sent}
use Rattle.att_policy.specs.declared.standing.Standing.{Standing}
use Rattle.att_table.specs.Table.{Contents}
use Rattle.att_reads.specs.declared.list.Listing.{Listing}
use Rattle.att_reads.specs.declared.list.Listing.TheVariants.{Values, Groups}
use Rattle.att_reads.specs.Access.{refusal_at, read_refusal, value_for}
use Rattle.att_reads.specs.List.{listing_request, head_of, cut_of, element_of, candidate_of, list_response, list_answer}
use Rattle.att_reads.specs.Listing.{candidate_size, size_of_first, elements_within, with_listed}
use Rattle.att_reads.specs.Refusals.{unless_refused}
use Rattle.att_reads.proofs.Listed.{list_begun}
use Rattle.octet_io.specs.Number.{Octets}

element_size : (listing : Listing) (table : Contents) (handle : Handle) (front : Octets) → length (element_octets (element_of listing table handle front))
    ≡ head_of listing + length front
element_size Values table handle front = omega arith
element_size Groups table handle front = omega arith

pub head_above : (listing : Listing) → 2 ≤ head_of listing
head_above Values = omega arith
head_above Groups = omega arith

element_fits : (listing : Listing) (mtu : Mtu) (size : ℕ) → 23 ≤ mtu → size ≤ cut_of listing mtu → 2 + (head_of listing + size) ≤ mtu
element_fits Values mtu size least cut = omega (arith, least, cut)
element_fits Groups mtu size least cut = omega (arith, least, cut)

-- so the front of a value fits beside its handles
pub front_fits : (listing : Listing) (mtu cut head : ℕ) (value front : Octets) → 23 ≤ mtu → cut ≡ cut_of listing mtu → front ≡ take cut value
    → head ≡ head_of listing
    → 2 + (head + length front) ≤ mtu
front_fits listing mtu cut head value front least cut_is front_is head_is =
    let taken : length front ≡ min cut (length value) = ap length front_is ∙ length-take cut value in
    let within : length front ≤ cut_of listing mtu = omega (arith, taken, cut_is) in
    let fits = element_fits listing mtu (length front) least within in
    omega (arith, fits, head_is)

sent_list : (listing : Listing) (size : ℕ) (listed : List Element) → sent (list_response listing size listed) ≡ (listing_request listing + 1) ∷ size
    ∷ flat_map element_octets listed
sent_list Values size listed = refl
sent_list Groups size listed = refl

pub none_refused : (table : Contents) (standing : Standing) (handle : Handle) → refusal_at table.attributes standing handle ≡ None
    → read_refusal table.attributes standing handle ≡ None
none_refused table standing handle permitted = rw permitted refl

pub list_of_first : (listing : Listing) (table : Contents) (row : Row) (standing : Standing) (mtu : Mtu) (start handle : Handle) (rest : List Handle)
    (front octets : Octets)
    → refusal_at table.attributes standing handle ≡ None → 23 ≤ mtu → front ≡ take (cut_of listing mtu) (value_for table row handle)
    → octets ≡ (listing_request listing + 1) ∷ (head_of listing + length front) ∷ element_octets (element_of listing table handle front)
    → with_listed mtu (head_of listing + length front) octets (map (candidate_of listing table row standing mtu) rest)
    ≡ sent (list_answer listing table row standing mtu start (handle ∷ rest))
list_of_first listing table row standing mtu start handle rest front octets permitted least front_is begun =
    let first = candidate_of listing table row standing mtu handle in
    let left = map (candidate_of listing table row standing mtu) rest in
    let refusal : first.refusal ≡ None = none_refused table standing handle permitted in
    let element_is : element_octets first.element ≡ element_octets (element_of listing table handle front) =
    ap (λ value. element_octets (element_of listing table handle value)) (sym front_is) in
    let size : candidate_size first ≡ head_of listing + length front = ap length element_is ∙ element_size listing table handle front in
    let cut : length front ≡ min (cut_of listing mtu) (length (value_for table row handle)) =
    ap length front_is ∙ length-take (cut_of listing mtu) (value_for table row handle) in
    let within : length front ≤ cut_of listing mtu = omega (arith, cut) in
    let fits : 2 + candidate_size first ≤ mtu = let room = element_fits listing mtu (length front) least within in omega (arith, room, size) in
    let above : 0 < candidate_size first = let head = head_above listing in omega (arith, head, size) in
    ap (λ begin. with_listed mtu (head_of listing + length front) begin left) begun
    ∙ ap (λ n. with_listed mtu n ((listing_request listing + 1) ∷ n ∷ element_octets (element_of listing table handle front)) left) (sym size)
    ∙ ap (λ element. with_listed mtu (candidate_size first) ((listing_request listing + 1) ∷ candidate_size first ∷ element) left) (sym element_is)
    ∙ list_begun (listing_request listing + 1) (candidate_size first) mtu first left refusal above fits
    ∙ sym (sent_list listing (candidate_size first) (elements_within mtu (first ∷ left)))
    ∙ ap (λ refused.
    sent (unless_refused (listing_request listing) (None ∷ refused ∷ []) (list_response listing (candidate_size first) (elements_within mtu (first ∷ left)))))
    (sym refusal)

-- and one that is refused is answered so
pub first_refused : (listing : Listing) (table : Contents) (row : Row) (standing : Standing) (mtu : Mtu) (start handle : Handle) (rest : List Handle) (code : ℕ)
    → refusal_at table.attributes standing handle ≡ Some code
    → sent (ErrorResponse (listing_request listing) handle code) ≡ sent (list_answer listing table row standing mtu start (handle ∷ rest))
first_refused listing table row standing mtu start handle rest code refused =
    let candidates = map (candidate_of listing table row standing mtu) (handle ∷ rest) in
    ap (λ (refusal : Option ℕ).
    sent (unless_refused (listing_request listing) (None ∷ option_map (λ (it : ℕ). record { handle = handle; code = it }) refusal ∷ [])
    (list_response listing (size_of_first candidates) (elements_within mtu candidates)))) (sym refused)
