-- The commands of the application (this profile's own).
use Rattle.std.specs.Prelude.{ℕ, ◌-◌, length, get_or, take, ◌^◌, ◌==◌, nat_lt, if◌then◌else◌, List, [], ◌∷◌, codes, Option, Some, None, Result, Ok, Err}
use Rattle.std.specs.Str.{bytes_eq}
use Rattle.octet_io.specs.Number.{Octets}
use Rattle.att_table.specs.file.TypeText.{type_named}
use Rattle.text_words.specs.Split.{words_of}
use Rattle.text_words.specs.Numeral.{numeral_of}
use Rattle.text_words.specs.Payload.{payload_of}
use Rattle.app_lines.specs.declared.command.Command.{Command}
use Rattle.app_lines.specs.declared.command.Command.TheVariants.{Update, Allow, Deny, Disconnect, Value, Connections, Subscriptions, Find, Application, Reload, Stop}
use Rattle.app_lines.specs.declared.wrong.WrongWord.{WrongWord}
use Rattle.app_lines.specs.declared.wrong.WordFault.{WordFault}
use Rattle.app_lines.specs.declared.wrong.WordFault.TheVariants.{NoCommand, NoHandle, NoConnection, NoValue, NoTime, NoType, NoNumber, TooFew, TooMany}

abbrev pub wrong : WordFault → ℕ → WrongWord
wrong fault place = record { fault = fault; place = place }

-- A word that is not understood has this fault.
abbrev pub understood : {A : Type 0} → WordFault → ℕ → Option A → Result A WrongWord
understood fault place (Some value) = Ok value
understood fault place None = Err (wrong fault place)

-- A handle, a connection name, a time in milliseconds, a hexadecimal value, and an attribute type.
abbrev pub handle_at : ℕ → Octets → Result ℕ WrongWord
handle_at place word = understood NoHandle place (numeral_of (2 ^ 16) word)

abbrev pub name_at : ℕ → Octets → Result ℕ WrongWord
name_at place word = understood NoConnection place (numeral_of (2 ^ 64) word)

abbrev pub time_at : ℕ → Octets → Result ℕ WrongWord
time_at place word = understood NoTime place (numeral_of (2 ^ 64) word)

abbrev pub value_at : ℕ → Octets → Result Octets WrongWord
value_at place word = understood NoValue place (payload_of word)

abbrev pub type_at : ℕ → Octets → Result ℕ WrongWord
type_at place word = understood NoType place (type_named word)

-- Counting begins at 1.
abbrev pub positive : Option ℕ → Option ℕ
positive None = None
positive (Some number) = if number == 0 then None else Some number

abbrev pub count_at : ℕ → Octets → Result ℕ WrongWord
count_at place word = understood NoNumber place (positive (numeral_of (2 ^ 16) word))

-- Reading continues after a correct word.
abbrev pub then_asks : {A : Type 0} → Result A WrongWord → (A → Result Command WrongWord)
    → Result Command WrongWord
then_asks (Ok value) asks = asks value
then_asks (Err fault) asks = Err fault

-- The maximum number of words of a command, including its own.
unfoldable pub most_words : Octets → Option ℕ
most_words word =
    if bytes_eq word (codes "update") then Some 3
    else if bytes_eq word (codes "allow") then Some 3
    else if bytes_eq word (codes "deny") then Some 2
    else if bytes_eq word (codes "disconnect") then Some 2
    else if bytes_eq word (codes "value") then Some 2
    else if bytes_eq word (codes "connections") then Some 1
    else if bytes_eq word (codes "subscriptions") then Some 2
    else if bytes_eq word (codes "find") then Some 4
    else if bytes_eq word (codes "application") then Some 1
    else if bytes_eq word (codes "reload") then Some 1
    else if bytes_eq word (codes "stop") then Some 1
    else None

-- The fault of a command with a wrong number of words: no command, too few, or too many.
abbrev pub fault_by_count : Option ℕ → ℕ → WrongWord
fault_by_count None count = wrong NoCommand 0
fault_by_count (Some most) count = if nat_lt most count then wrong TooMany most else wrong TooFew 0

abbrev pub miscounted : Octets → ℕ → Result Command WrongWord
miscounted word count = Err (fault_by_count (most_words word) count)

unfoldable pub one_word : Octets → Result Command WrongWord
one_word first =
    if bytes_eq first (codes "connections") then Ok Connections
    else if bytes_eq first (codes "application") then Ok Application
    else if bytes_eq first (codes "reload") then Ok Reload
    else if bytes_eq first (codes "stop") then Ok Stop
    else miscounted first 1

unfoldable pub two_words : Octets → Octets → Result Command WrongWord
two_words first second =
    if bytes_eq first (codes "allow")
    then then_asks (name_at 1 second) (λ name. Ok (Allow name None))
    else if bytes_eq first (codes "deny") then then_asks (name_at 1 second) (λ name. Ok (Deny name))
    else if bytes_eq first (codes "disconnect")
    then then_asks (name_at 1 second) (λ name. Ok (Disconnect name))
    else if bytes_eq first (codes "value")
    then then_asks (handle_at 1 second) (λ handle. Ok (Value handle))
    else if bytes_eq first (codes "subscriptions")
    then then_asks (name_at 1 second) (λ name. Ok (Subscriptions name))
    else miscounted first 2

-- `update HANDLE HEX`, `allow CONNECTION MS` and `find SERVICE CHARACTERISTIC`.
abbrev pub update_of : Octets → Octets → Result Command WrongWord
update_of second third =
    then_asks (handle_at 1 second) (λ handle.
    then_asks (value_at 2 third) (λ value. Ok (Update handle value)))

abbrev pub allow_of : Octets → Octets → Result Command WrongWord
allow_of second third =
    then_asks (name_at 1 second) (λ name.
    then_asks (time_at 2 third) (λ lasting. Ok (Allow name (Some lasting))))

abbrev pub find_of : Octets → Octets → ℕ → Result Command WrongWord
find_of second third count =
    then_asks (type_at 1 second) (λ service.
    then_asks (type_at 2 third) (λ characteristic. Ok (Find service characteristic count)))

unfoldable pub three_words : Octets → Octets → Octets → Result Command WrongWord
three_words first second third =
    if bytes_eq first (codes "update") then update_of second third
    else if bytes_eq first (codes "allow") then allow_of second third
    else if bytes_eq first (codes "find") then find_of second third 1
    else miscounted first 3

-- `find SERVICE CHARACTERISTIC N`.
unfoldable pub four_words : Octets → Octets → Octets → Octets → Result Command WrongWord
four_words first second third fourth =
    if bytes_eq first (codes "find") then then_asks (count_at 3 fourth) (find_of second third)
    else miscounted first 4

-- The command, or the first wrong word.
abbrev pub asked_by : List Octets → Result Command WrongWord
asked_by [] = Err (wrong NoCommand 0)
asked_by (first ∷ []) = one_word first
asked_by (first ∷ second ∷ []) = two_words first second
asked_by (first ∷ second ∷ third ∷ []) = three_words first second third
asked_by (first ∷ second ∷ third ∷ fourth ∷ []) = four_words first second third fourth
asked_by (first ∷ second ∷ third ∷ fourth ∷ fifth ∷ words) = miscounted first 5

unfoldable pub command_of : Octets → Result Command WrongWord
command_of line = asked_by (words_of line)

-- A line without its final carriage return.
abbrev pub without_return : Octets → Octets
without_return line = if get_or line (length line - 1) 0 == 13 then take (length line - 1) line
    else line
