-- The words of a difference: the right, the verdict, and what is meant (this profile's own).
use Rattle.std.specs.Prelude.{ℕ, Bool, true, false, [], ◌∷◌, ◌++◌, codes, Option, Some, None}
use Rattle.std.specs.Fmt.{decimal}
use Rattle.octet_io.specs.Number.{Octets}
use Rattle.att_policy.specs.declared.guard.Need.{Need}
use Rattle.policy_rights.specs.declared.rights.Right.{Right}
use Rattle.policy_words.specs.Legend.{words_if}

abbrev pub verdict_words : Bool → Octets
verdict_words true = codes " may, but should not: "
verdict_words false = codes " should, but may not: "

-- A need, by the keys of the file; each has a comma before it.
abbrev pub size_part : Option ℕ → Octets
size_part None = []
size_part (Some size) = codes ", key_size = " ++ decimal size

unfoldable pub need_parts : Need → Octets
need_parts need =
    words_if need.encrypted (codes ", encrypted")
    ++ words_if need.authenticated (codes ", authenticated")
    ++ size_part need.key_size
    ++ words_if need.secure (codes ", secure")
    ++ words_if need.authorized (codes ", authorized")

-- Without the first comma; a need without parts is met by everybody.
abbrev pub parts_text : Octets → Octets
parts_text (comma ∷ space ∷ parts) = parts
parts_text _ = codes "everybody"

abbrev pub meant_text : Option Need → Octets
meant_text None = codes "nobody"
meant_text (Some need) = parts_text (need_parts need)

abbrev pub right_word : Right → Octets
right_word Right.Read = codes " read: "
right_word Right.Write = codes " write: "
right_word Right.Command = codes " command: "
right_word Right.Notify = codes " notify: "
right_word Right.Indicate = codes " indicate: "
right_word Right.Subscribe = codes " subscribe: "
