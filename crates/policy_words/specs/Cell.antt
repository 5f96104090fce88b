-- A cell of the matrix: the rights of a link by letters (this profile's own).
use Rattle.std.specs.Prelude.{ℕ, ◌++◌, ◌&&◌, Bool, true, false, not, List, [], ◌∷◌, Option}
use Rattle.octet_io.specs.Number.{Octets}
use Rattle.att_numbers.specs.Types.{Handle}
use Rattle.att_policy.specs.declared.standing.KeyFacts.{KeyFacts}
use Rattle.att_attributes.specs.declared.attr.Attr.{Attr}
use Rattle.policy_rights.specs.declared.rights.Right.{Right}
use Rattle.policy_rights.specs.Held.{may_with}
use Rattle.policy_words.specs.declared.cell.Rights.{Rights}

abbrev pub letter_if : Bool → ℕ → Octets
letter_if true letter = letter ∷ []
letter_if false letter = []

abbrev pub rights_where : (Right → Bool) → Rights
rights_where has =
    record {
      read = has Right.Read;
      write = has Right.Write;
      command = has Right.Command;
      notify = has Right.Notify;
      indicate = has Right.Indicate;
      subscribe = has Right.Subscribe;
    }

-- Read, write, write without response (a command), notified, indicated, subscribe.
unfoldable pub letters_of : Rights → Octets
letters_of rights =
    letter_if rights.read 114 ++ letter_if rights.write 119 ++ letter_if rights.command 99
    ++ letter_if rights.notify 110 ++ letter_if rights.indicate 105
    ++ letter_if rights.subscribe 115

-- The rights that need no authorization, and those that do.
abbrev pub always_of : List Attr → Handle → Option KeyFacts → Rights
always_of attributes handle key =
    rights_where (λ right. may_with attributes key false handle right)

abbrev pub is_once : List Attr → Handle → Option KeyFacts → Right → Bool
is_once attributes handle key right =
    may_with attributes key true handle right && not (may_with attributes key false handle right)

abbrev pub once_of : List Attr → Handle → Option KeyFacts → Rights
once_of attributes handle key = rights_where (is_once attributes handle key)

abbrev pub in_parentheses : Octets → Octets
in_parentheses [] = []
in_parentheses (letter ∷ letters) = 40 ∷ (letter ∷ letters) ++ 41 ∷ []

abbrev pub or_dot : Octets → Octets
or_dot [] = 46 ∷ []
or_dot (letter ∷ letters) = letter ∷ letters

abbrev pub cell_with : Rights → Rights → Octets
cell_with always once = or_dot (letters_of always ++ in_parentheses (letters_of once))

abbrev pub cell_text : List Attr → Handle → Option KeyFacts → Octets
cell_text attributes handle key =
    cell_with (always_of attributes handle key) (once_of attributes handle key)
