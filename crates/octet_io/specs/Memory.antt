-- Results of a reader whose memory may be refused, which is the fault `refused`.
use Rattle.std.specs.Prelude.{◌≡◌, ◌≢◌, Result, Ok, Err}

-- The result is the wanted one, unless memory was refused.
abbrev pub Gives : {A E : Type 0} → E → Result A E → Result A E → Type 0
Gives refused wanted (Ok x) = wanted ≡ Ok x
Gives refused wanted (Err fault) = fault ≢ refused → wanted ≡ Err fault

-- The same for a part of a text, which never has the fault `unread` of the whole text.
abbrev pub GivesOf : {A E : Type 0} → E → E → Result A E → Result A E → Type 0
GivesOf unread refused wanted (Ok x) = wanted ≡ Ok x
GivesOf unread refused wanted (Err fault) =
    (fault ≢ unread) × (fault ≢ refused → wanted ≡ Err fault)

-- The new state is the wanted one, unless memory was refused.
abbrev pub Leaves : {S A E : Type 0} → E → Result S E → Result A E → S → Type 0
Leaves refused wanted (Ok _) new = wanted ≡ Ok new
Leaves refused wanted (Err fault) new = fault ≢ refused → wanted ≡ Err fault
