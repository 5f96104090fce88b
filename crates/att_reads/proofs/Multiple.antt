-- How the values of several handles are joined, one after another.
use Rattle.std.proofs.Common.{◌≡◌, ℕ, ◌+◌, ◌-◌, List, [], ◌∷◌, ◌++◌, length, take, map, Option, Some, None, refl, sym, ap, ◌∙◌, arith, append_assoc, length-append, length-take, zero, suc}
use Rattle.std.specs.Prelude.{min}
use Rattle.std.specs.List.{flat_map}
use Rattle.att_numbers.specs.Types.{Handle, Code, Mtu, Row}
use Rattle.att_numbers.specs.declared.opcode.TheConstants.{READ_MULTIPLE_REQUEST, READ_MULTIPLE_RESPONSE}
use Rattle.att_pdu.specs.Response.{ErrorResponse, ReadMultipleResponse, sent}
use Rattle.att_policy.specs.declared.standing.Standing.{Standing}
use Rattle.att_policy.specs.Refusal.{Refusal}
use Rattle.att_table.specs.Table.{Contents}
use Rattle.att_reads.specs.Access.{refusal_at, read_refusal, value_for}
use Rattle.att_reads.specs.Answer.{multiple_answer}
use Rattle.att_reads.specs.Refusals.{unless_refused}
use Rattle.octet_io.specs.Number.{Octets}

-- octets behind others, as many as fit
abbrev pub filled : Mtu → Octets → Octets → Octets
filled mtu so_far octets = so_far ++ take (mtu - length so_far) octets

-- the values of the handles that are left, and the refusals of them
abbrev pub values_of : Contents → Row → List Handle → Octets
values_of table row handles = flat_map (value_for table row) handles

abbrev pub refusals_of : Contents → Standing → List Handle → List (Option Refusal)
refusals_of table standing handles = map (read_refusal table.attributes standing) handles

-- the answer that has these octets, unless it is refused
abbrev pub octets_unless : List (Option Refusal) → Octets → Octets
octets_unless [] octets = octets
octets_unless (Some refusal ∷ rest) octets = sent (ErrorResponse READ_MULTIPLE_REQUEST refusal.handle refusal.code)
octets_unless (None ∷ rest) octets = octets_unless rest octets

-- the answer where these octets stand and these handles are left
abbrev pub finished : Contents → Row → Standing → Mtu → Octets → List Handle → Octets
finished table row standing mtu so_far left =
    octets_unless (refusals_of table standing left) (filled mtu so_far (values_of table row left))

sent_unless : (refusals : List (Option Refusal)) (values : Octets)
    → octets_unless refusals (READ_MULTIPLE_RESPONSE ∷ values) ≡ sent (unless_refused READ_MULTIPLE_REQUEST refusals (ReadMultipleResponse values))
sent_unless [] values = refl
sent_unless (Some refusal ∷ rest) values = refl
sent_unless (None ∷ rest) values = sent_unless rest values

pub begun : (table : Contents) (row : Row) (standing : Standing) (mtu : Mtu) (handles : List Handle)
    → finished table row standing mtu (READ_MULTIPLE_RESPONSE ∷ []) handles ≡ sent (multiple_answer table row standing mtu handles)
unfolding multiple_answer
begun table row standing mtu handles = sent_unless (refusals_of table standing handles) (take (mtu - 1) (values_of table row handles))

take-nothing : (room : ℕ) → take {A = ℕ} room [] ≡ []
take-nothing zero = refl
take-nothing (suc room) = refl

-- a front of two lists is made of fronts of both
take-both : (room : ℕ) (xs ys : Octets) → take room xs ++ take (room - length xs) ys ≡ take room (xs ++ ys)
take-both room [] ys =
    let all : room - 0 ≡ room = omega arith in
    ap (λ front. front ++ take (room - 0) ys) (take-nothing room) ∙ ap (λ left. take left ys) all
take-both zero (x ∷ xs) ys =
    let none : 0 - length (x ∷ xs) ≡ 0 = omega arith in
    ap (λ left. take left ys) none
take-both (suc room) (x ∷ xs) ys =
    let less : suc room - length (x ∷ xs) ≡ room - length xs = omega arith in
    ap (λ left. take (suc room) (x ∷ xs) ++ take left ys) less ∙ ap (λ l. x ∷ l) (take-both room xs ys)

rest-of : (mtu : Mtu) (so_far first : Octets) → mtu - length (filled mtu so_far first) ≡ (mtu - length so_far) - length first
rest-of mtu so_far first =
    let joined : length (filled mtu so_far first) ≡ length so_far + length (take (mtu - length so_far) first) = length-append so_far _ in
    let cut : length (take (mtu - length so_far) first) ≡ min (mtu - length so_far) (length first) = length-take _ first in
    omega (arith, joined, cut)

filled-twice : (mtu : Mtu) (so_far first rest : Octets) → filled mtu (filled mtu so_far first) rest ≡ filled mtu so_far (first ++ rest)
filled-twice mtu so_far first rest =
    ap (λ room. filled mtu so_far first ++ take room rest) (rest-of mtu so_far first)
    ∙ append_assoc so_far _ _
    ∙ ap (λ octets. so_far ++ octets) (take-both (mtu - length so_far) first rest)

-- a handle that may be read adds its value
pub more : (table : Contents) (row : Row) (standing : Standing) (mtu : Mtu) (so_far : Octets) (handle : Handle) (left : List Handle)
    → refusal_at table.attributes standing handle ≡ None
    → finished table row standing mtu (filled mtu so_far (value_for table row handle)) left
    ≡ finished table row standing mtu so_far (handle ∷ left)
more table row standing mtu so_far handle left permitted =
    let none : read_refusal table.attributes standing handle ≡ None = rw permitted refl in
    ap (octets_unless (refusals_of table standing left)) (filled-twice mtu so_far (value_for table row handle) (values_of table row left))
    ∙ ap (λ first. octets_unless (first ∷ refusals_of table standing left) (filled mtu so_far (values_of table row (handle ∷ left)))) (sym none)

-- one that may not be read is the answer
pub refused : (table : Contents) (row : Row) (standing : Standing) (mtu : Mtu) (so_far : Octets) (handle : Handle) (left : List Handle) (code : Code)
    → refusal_at table.attributes standing handle ≡ Some code
    → sent (ErrorResponse READ_MULTIPLE_REQUEST handle code) ≡ finished table row standing mtu so_far (handle ∷ left)
refused table row standing mtu so_far handle left code is =
    let found : read_refusal table.attributes standing handle ≡ Some (record { handle = handle; code = code }) = rw is refl in
    sym (ap (λ first. octets_unless (first ∷ refusals_of table standing left) (filled mtu so_far (values_of table row (handle ∷ left)))) found)
