-- All kinds of keys that a link can have (Core 5.0, Vol 3 Part H, 2.3.4 and Part C, 10.2.1).
use Rattle.std.specs.Prelude.{ℕ, zero, suc, ◌+◌, Bool, true, false, List, [], ◌∷◌, ◌++◌, Option, Some, None}
use Rattle.att_policy.specs.declared.standing.KeyFacts.{KeyFacts}

abbrev pub key_kind : ℕ → Bool → Bool → Option KeyFacts
key_kind size authenticated secure =
    Some (record { size = size; authenticated = authenticated; secure = secure })

-- The keys of so many sizes from the first one on, with these properties.
unfoldable pub kinds_from : ℕ → ℕ → Bool → Bool → List (Option KeyFacts)
kinds_from zero first authenticated secure = []
kinds_from (suc count) first authenticated secure =
    key_kind first authenticated secure ∷ kinds_from count (first + 1) authenticated secure

-- From 7 to 16 octets.
abbrev pub kinds_of_every_size : Bool → Bool → List (Option KeyFacts)
kinds_of_every_size authenticated secure = kinds_from 10 7 authenticated secure

-- No key, and each size of a key, authenticated or not, of LE Secure Connections or not.
unfoldable pub every_kind : List (Option KeyFacts)
every_kind =
    None ∷ kinds_of_every_size false false ++ kinds_of_every_size true false
    ++ kinds_of_every_size false true ++ kinds_of_every_size true true
