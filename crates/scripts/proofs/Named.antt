-- The phones of a script have names.
use Rattle.std.proofs.Common.{◌≡◌, ℕ, ◌+◌, ◌<◌, ◌≤◌, ◌==◌, Bool, true, false, not, nat_lt, if◌then◌else◌, List, [], ◌∷◌, ◌++◌, length, Result, Ok, Err, IfOk, refl, subst, arith}
use Rattle.std.specs.List.{All, IsDistinct, list_any, position_or_len}
use Rattle.std.specs.Str.{bytes_eq}
use Rattle.std.proofs.lemmas.Bool.Decides.{nat_tests}
use Rattle.std.proofs.lemmas.Cmp.{nat_list_eq_equiv}
use Rattle.std.proofs.lemmas.Grind.{common_steps}
use Rattle.std.proofs.lemmas.List.{length_push}
use Rattle.std.proofs.lemmas.List.Sums.{prefix_len-le-length}
use Rattle.std.proofs.lemmas.List.Elements.{All-nil, All-cons, All-head, All-tail, All-push}
use Rattle.std.proofs.lemmas.Map.Keys.{IsDistinct-push}
use Rattle.octet_io.specs.Number.{Octets}
use Rattle.octet_io.specs.Memory.{Gives}
use Rattle.toml_schema.specs.Reading.{◌>>=◌, unless, require}
use Rattle.scripts.specs.declared.act.Act.{Act}
use Rattle.scripts.specs.declared.act.Act.TheVariants as act
use Rattle.scripts.specs.declared.line.Line.{Line}
use Rattle.scripts.specs.declared.line.Line.TheVariants as line
use Rattle.scripts.specs.declared.script.TheConstants.{MAX_PHONES}
use Rattle.scripts.specs.declared.script_fault.ScriptFault.{ScriptFault}
use Rattle.scripts.specs.declared.script_fault.ScriptFault.TheVariants.{BadLine, OutOfMemory}
use Rattle.scripts.specs.Line.{line_of}
use Rattle.scripts.specs.Phones.{IsOfPhoneBelow, HasNamedPhones}
use Rattle.scripts.specs.Script.{Acts, no_acts, phone_number_in, with_name, with_act, with_act_of, script_with_said, script_with_line, script_with_lines, number_sign, script_of}
use Rattle.text_words.specs.Split.{lines_of}

missing_at_end : {X : Type 0} (test : X → Bool) (xs : List X) → position_or_len test xs ≡ length xs → list_any test xs ≡ false
missing_at_end test [] at = refl
missing_at_end test (y ∷ ys) at = grind (arith, common_steps, missing_at_end test ys)

number_within : (names : List Octets) (name : Octets) → phone_number_in names name ≤ length names
number_within names name = grind (arith, nat_tests, prefix_len-le-length (λ x. not (bytes_eq name x)) names)

-- a name that is not found has the number behind all of them
number_at_end : (names : List Octets) (name : Octets) → phone_number_in names name ≡ length names → position_or_len (bytes_eq name) names ≡ length names
number_at_end names name at = grind (arith, nat_tests, prefix_len-le-length (λ x. not (bytes_eq name x)) names)

below_more : (count more : ℕ) → count ≤ more → (one : Act) → IsOfPhoneBelow count one → IsOfPhoneBelow more one
below_more count more fits (act.Phone phone does) below = omega (arith, fits, below)
below_more count more fits (act.Authorize phone until) below = omega (arith, fits, below)
below_more count more fits (act.Update handle value) below = tt
below_more count more fits (act.Tick time) below = tt
below_more count more fits act.Replace below = tt

all_below_more : (count more : ℕ) → count ≤ more → (acts : List Act) → All (IsOfPhoneBelow count) acts → All (IsOfPhoneBelow more) acts
all_below_more count more fits [] all = All-nil (IsOfPhoneBelow more)
all_below_more count more fits (one ∷ acts) all =
    All-cons (IsOfPhoneBelow more) one acts
    (below_more count more fits one (All-head (IsOfPhoneBelow count) one acts all))
    (all_below_more count more fits acts (All-tail (IsOfPhoneBelow count) one acts all))

-- an act of the phone of a name
act_named : (script : Acts) (name : Octets) (act : ℕ → Act) → ((phone count : ℕ) → phone < count → IsOfPhoneBelow count (act phone))
    → phone_number_in script.names name < MAX_PHONES → HasNamedPhones script
    → HasNamedPhones (record { acts = script.acts ++ act (phone_number_in script.names name) ∷ []; names = with_name script.names name })
act_named script name act is below has =
    elim (phone_number_in script.names name == length script.names) as (λ new. (phone_number_in script.names name == length script.names) ≡ new
    → HasNamedPhones
    (record { acts = script.acts ++ act (phone_number_in script.names name) ∷ []; names = if new then script.names ++ name ∷ [] else script.names })) [
      | true ↦ λ new.
          let place : phone_number_in script.names name ≡ length script.names = grind (arith, nat_tests) in
          let longer = length_push script.names name in
          record {
            few = omega (arith, place, below, longer);
            distinct = IsDistinct-push nat_list_eq_equiv script.names name has.distinct
                (missing_at_end (bytes_eq name) script.names (number_at_end script.names name place));
            named = All-push (IsOfPhoneBelow (length (script.names ++ name ∷ []))) script.acts (act (phone_number_in script.names name))
                (all_below_more (length script.names) (length (script.names ++ name ∷ [])) (omega (arith, longer)) script.acts has.named)
                (is (phone_number_in script.names name) (length (script.names ++ name ∷ [])) (omega (arith, place, longer)));
          }
      | false ↦ λ old.
          let within = number_within script.names name in
          record {
            few = has.few;
            distinct = has.distinct;
            named = All-push (IsOfPhoneBelow (length script.names)) script.acts (act (phone_number_in script.names name)) has.named
                (is (phone_number_in script.names name) (length script.names) (grind (arith, nat_tests)));
          }
    ] refl

act_added : (script : Acts) (one : Act) → IsOfPhoneBelow (length script.names) one → HasNamedPhones script → HasNamedPhones (with_act script one)
act_added script one is has = record {
  few = has.few;
  distinct = has.distinct;
  named = All-push (IsOfPhoneBelow (length script.names)) script.acts one has.named is;
}

if_holds : (test : Bool) (fault : ScriptFault) (script : Acts) → (test ≡ true → HasNamedPhones script)
    → IfOk (unless test fault >>= (λ (_ : Bool). Ok script)) HasNamedPhones
if_holds true fault script has = has refl
if_holds false fault script has = tt

act_of_named : (number : ℕ) (script : Acts) (name : Octets) (act : ℕ → Act)
    → ((phone count : ℕ) → phone < count → IsOfPhoneBelow count (act phone)) → HasNamedPhones script
    → IfOk (with_act_of number script name act) HasNamedPhones
act_of_named number script name act is has =
    if_holds (nat_lt (phone_number_in script.names name) MAX_PHONES) (BadLine number) _
    (λ few. act_named script name act is (grind (arith, nat_tests)) has)

said_named : (has_next : Bool) (number : ℕ) (script : Acts) (said : Line) → HasNamedPhones script
    → IfOk (script_with_said has_next number script said) HasNamedPhones
said_named has_next number script (line.Phone name does) has = act_of_named number script name (λ phone. act.Phone phone does) (λ phone count below. below) has
said_named has_next number script (line.Authorize name until) has =
    act_of_named number script name (λ phone. act.Authorize phone until) (λ phone count below. below) has
said_named has_next number script (line.Update handle value) has = act_added script (act.Update handle value) tt has
said_named has_next number script (line.Tick time) has = act_added script (act.Tick time) tt has
said_named has_next number script line.Replace has =
    if_holds has_next (BadLine number) (with_act script act.Replace) (λ _. act_added script act.Replace tt has)

after : {A : Type 0} (first : Result A ScriptFault) (next : A → Result Acts ScriptFault) → ((x : A) → IfOk (next x) HasNamedPhones)
    → IfOk (first >>= next) HasNamedPhones
after (Ok x) next has = has x
after (Err fault) next has = tt

after_named : (first : Result Acts ScriptFault) (next : Acts → Result Acts ScriptFault) → IfOk first HasNamedPhones
    → ((script : Acts) → HasNamedPhones script → IfOk (next script) HasNamedPhones) → IfOk (first >>= next) HasNamedPhones
after_named (Ok script) next has later = later script has
after_named (Err fault) next has later = tt

either : (test : Bool) (one other : Result Acts ScriptFault) → IfOk one HasNamedPhones → IfOk other HasNamedPhones
    → IfOk (if test then one else other) HasNamedPhones
either true one other first second = first
either false one other first second = second

line_named : (has_next : Bool) (number : ℕ) (script : Acts) (line : Octets) → HasNamedPhones script
    → IfOk (script_with_line has_next number script line) HasNamedPhones
line_named has_next number script [] has = has
line_named has_next number script (octet ∷ octets) has =
    either (octet == number_sign) _ _ has
    (after (require (line_of (octet ∷ octets)) (BadLine number)) _ (λ said. said_named has_next number script said has))

lines_named : (has_next : Bool) (number : ℕ) (script : Acts) (lines : List Octets) → HasNamedPhones script
    → IfOk (script_with_lines has_next number script lines) HasNamedPhones
lines_named has_next number script [] has = has
lines_named has_next number script (line ∷ lines) has =
    after_named (script_with_line has_next number script line) _ (line_named has_next number script line has)
    (λ next named. lines_named has_next (number + 1) next lines named)

none_named : HasNamedPhones no_acts
unfolding IsDistinct
none_named = record { few = omega arith; distinct = tt; named = All-nil (IsOfPhoneBelow 0) }

script_named : (has_next : Bool) (text : Octets) → IfOk (script_of has_next text) HasNamedPhones
unfolding script_of
script_named has_next text = lines_named has_next 1 no_acts (lines_of text) none_named

pub phones_named : (has_next : Bool) (text : Octets) (result : Result Acts ScriptFault) → Gives OutOfMemory (script_of has_next text) result
    → IfOk result HasNamedPhones
phones_named has_next text (Ok script) gives = subst (λ (wanted : Result Acts ScriptFault). IfOk wanted HasNamedPhones) gives (script_named has_next text)
phones_named has_next text (Err fault) gives = tt
