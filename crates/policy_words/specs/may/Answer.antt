-- The answer for each link of a peer (this profile's own).
use Rattle.std.specs.Prelude.{Bool, List, [], ◌∷◌, ◌++◌, codes, Option, Some, None}
use Rattle.std.specs.List.{flat_map, list_any}
use Rattle.octet_io.specs.Number.{Octets}
use Rattle.att_policy.specs.declared.standing.KeyFacts.{KeyFacts}
use Rattle.att_attributes.specs.declared.attr.Attr.{Attr}
use Rattle.le_security.specs.declared.entry.Entry.{Entry}
use Rattle.policy_words.specs.Legend.{strength_text}
use Rattle.policy_words.specs.declared.may.Question.{Question}
use Rattle.policy_words.specs.declared.may.verdict.Verdict.{Verdict}
use Rattle.policy_words.specs.may.Links.{has_any_key, links_of, standing_on}
use Rattle.policy_words.specs.may.Reason.{verdict_text}
use Rattle.policy_words.specs.may.Verdict.{is_yes, verdict_of}

abbrev pub verdict_on : List Attr → Question → Bool → Option KeyFacts → Verdict
verdict_on attributes question is_known link =
    verdict_of attributes (standing_on is_known question.is_authorized link) question.handle
    question.right

abbrev pub link_text : Option KeyFacts → Octets
link_text None = codes "not encrypted"
link_text (Some key) = strength_text key

unfoldable pub link_line : List Attr → Question → Bool → Option KeyFacts → Octets
link_line attributes question is_known link =
    link_text link ++ codes "  "
    ++ verdict_text attributes question.handle question.right
    (verdict_on attributes question is_known link)
    ++ 10 ∷ []

abbrev pub asked_links : List Entry → Question → List (Option KeyFacts)
asked_links keys question = links_of keys question.peer question.is_unencrypted

-- A line for each link.
abbrev pub answer_text : List Attr → List Entry → Question → Octets
answer_text attributes keys question =
    flat_map (link_line attributes question (has_any_key keys question.peer))
    (asked_links keys question)

-- One of the links has the right.
abbrev pub is_granted : List Attr → List Entry → Question → Bool
is_granted attributes keys question =
    list_any
    (λ link. is_yes (verdict_on attributes question (has_any_key keys question.peer) link))
    (asked_links keys question)
