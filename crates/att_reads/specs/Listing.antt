-- Responses that list attributes of one size (Core 5.0, Vol 3 Part F, 3.4.3.2, 3.4.4.2 and
-- 3.4.4.10).
use Rattle.std.specs.Prelude.{◌≡◌, ◌≤◌, true, ℕ, ◌+◌, ◌-◌, ◌/◌, Bool, ◌==◌, ◌&&◌, is_none, List, [], ◌∷◌, ◌++◌, length, map, take, take_while, Option, None}
use Rattle.std.specs.Bool.{OnTrue, OnFalse}
use Rattle.std.specs.List.{flat_map}
use Rattle.att_numbers.specs.Types.{Mtu}
use Rattle.att_pdu.specs.declared.pdu_buf.PduBuf.{PduBuf}
use Rattle.att_pdu.specs.PduBuf.{contents, mtu_of, IsSameBuffer}
use Rattle.att_pdu.specs.Response.{Element, element_octets}
use Rattle.att_policy.specs.Refusal.{Refusal}
use Rattle.octet_io.specs.Number.{Octets}

-- An attribute that may be listed: the reason for its rejection, if any, and its element.
pub record Candidate : Type 0 where
  pub refusal : Option Refusal
  pub element : Element

abbrev pub candidate_size : Candidate → ℕ
candidate_size candidate = length (element_octets candidate.element)

abbrev pub is_listed : ℕ → Candidate → Bool
is_listed size candidate = is_none candidate.refusal && (candidate_size candidate == size)

-- The longest prefix of candidates that are permitted, have this size and fit.
abbrev pub run_within : ℕ → ℕ → List Candidate → List Candidate
run_within room size candidates = take (room / size) (take_while (is_listed size) candidates)

abbrev pub size_of_first : List Candidate → ℕ
size_of_first [] = 0
size_of_first (first ∷ rest) = candidate_size first

abbrev pub first_refusal : List Candidate → Option Refusal
first_refusal [] = None
first_refusal (first ∷ rest) = first.refusal

-- The elements follow the opcode and one octet of format or size.
abbrev pub elements : List Candidate → List Element
elements candidates = map (λ (candidate : Candidate). candidate.element) candidates

abbrev pub elements_within : Mtu → List Candidate → List Element
elements_within mtu candidates =
    elements (run_within (mtu - 2) (size_of_first candidates) candidates)

abbrev pub with_listed : Mtu → ℕ → Octets → List Candidate → Octets
with_listed mtu size octets candidates =
    octets ++ flat_map element_octets (elements (run_within (mtu - length octets) size candidates))

pub record HasNext (mtu : Mtu) (size : ℕ) (candidate : Candidate) (old new : Octets) : Type 0 where
  pub listed : is_listed size candidate ≡ true
  pub fits : length old + size ≤ mtu
  pub appended : new ≡ old ++ element_octets candidate.element

pub record HasNoNext (mtu : Mtu) (size : ℕ) (candidate : Candidate) (old new : Octets) : Type 0
  where
    pub not_listed : is_listed size candidate ≡ true → length old + size ≤ mtu → ⊥
    pub unchanged : new ≡ old

-- The candidate is at `place` of the PDU if it is permitted and fits; otherwise the octets before
-- stay.
pub record PutsNext (old new : PduBuf) (place size : ℕ) (candidate : Candidate)
    (result : Bool) : Type 0 where
  pub put : OnTrue result
      (HasNext (mtu_of old) size candidate (take place (contents old))
      (take (place + size) (contents new)))
  pub kept : OnFalse result
      (HasNoNext (mtu_of old) size candidate (take place (contents old))
      (take place (contents new)))
  pub held : length (contents new) ≡ length (contents old)
  pub same_buffer : IsSameBuffer old new

-- The same for octets that a PDU lends.
pub record PutsOver (old new : Octets) (place size : ℕ) (candidate : Candidate)
    (result : Bool) : Type 0 where
  pub put : OnTrue result
      (HasNext (length old) size candidate (take place old) (take (place + size) new))
  pub kept : OnFalse result
      (HasNoNext (length old) size candidate (take place old) (take place new))
  pub held : length new ≡ length old
