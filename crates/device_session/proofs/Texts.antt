-- A line that is text, and one that is not.
use Rattle.std.proofs.Common.{◌≡◌, Bool, true, false, refl}
use Rattle.std.specs.Prelude.{if◌then◌else◌, IsUtf8}
use Rattle.std.proofs.lemmas.Str.{IsUtf8-from_is_utf8, is_utf8-from_IsUtf8}
use Rattle.std.specs.Str.{is_utf8}
use Rattle.octet_io.specs.Number.{Octets}

module _ {A : Type 0} (kind other : A) where
  abbrev by_test : Bool → A
  by_test text = if text then kind else other

  read-by : (text : Bool) → text ≡ true → kind ≡ by_test text
  read-by true is = refl
  read-by false is = cc is

  not-by : (text : Bool) → (text ≡ true → ⊥) → other ≡ by_test text
  not-by true never = absurd (never refl)
  not-by false never = refl

  pub text_read : (text : Octets) → IsUtf8 text → kind ≡ (if is_utf8 text then kind else other)
  text_read text utf8 = read-by (is_utf8 text) (is_utf8-from_IsUtf8 text utf8)

  pub text_refused : (text : Octets) → ¬ (IsUtf8 text) → other ≡ (if is_utf8 text then kind else other)
  text_refused text no_utf8 = not-by (is_utf8 text) (λ is. no_utf8 (IsUtf8-from_is_utf8 text is))
