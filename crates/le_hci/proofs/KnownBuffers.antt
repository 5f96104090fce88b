-- What is known of the buffers is enough.
use Rattle.std.proofs.Common.{◌≡◌, ℕ, List, [], ◌∷◌, Bool, true, false, refl}
use Rattle.std.specs.Prelude.{◌==◌, ◌&&◌, nat_le, nat_lt, if◌then◌else◌, IfOk, Option, Some, None, Result, Ok, Err}
use Rattle.std.specs.Result.{result_map_both}
use Rattle.std.proofs.lemmas.Bool.{leb-true, ltb-true}
use Rattle.octet_io.specs.Number.{from_two}
use Rattle.le_hci.specs.declared.buffers.Buffers.{Buffers}
use Rattle.le_hci.specs.declared.buffers.TheConstants.{LEAST_LENGTH}
use Rattle.le_hci.specs.declared.init.Settings.{Settings}
use Rattle.le_hci.specs.declared.init.Init.{Init}
use Rattle.le_hci.specs.declared.init.Init.TheVariants.{Resetting, Masking, LeMasking, Sizing, SharedSizing, Addressing, Describing, Filling, Enabling, Ready}
use Rattle.le_hci.specs.declared.init.InitFault.{InitFault}
use Rattle.le_hci.specs.declared.init.InitFault.TheVariants.{BadBuffers}
use Rattle.le_hci.specs.Buffers.{usable_of, le_buffers_of, shared_buffers_of}
use Rattle.le_hci.specs.Init.{opcode_awaited, outcome_by, returned_values, next_by, handed_back, next, first_state, addressed_from, after_sizing, after_shared_sizing}
use Rattle.le_hci.specs.InitTold.{AreUsable, KnowsUsable, state_after, state_after_answers}
use Rattle.arrayvec.specs.ArrayVec.{ArrayVec}

-- a result that is a success knows enough
abbrev Leads : Result Init InitFault → Type 0
Leads result = IfOk result KnowsUsable

addressed : (address : Option (List ℕ)) (advertising : ArrayVec ℕ) (buffers : Buffers) → AreUsable buffers
    → KnowsUsable (addressed_from address advertising buffers)
addressed None advertising buffers usable = usable
addressed (Some address) advertising buffers usable = usable

usable-by : (buffers : Buffers) (length packets : Bool) → nat_le LEAST_LENGTH buffers.length ≡ length → nat_lt 0 buffers.packets ≡ packets
    → IfOk (let told : Result Buffers InitFault = if length && packets then Ok buffers else Err BadBuffers in told) AreUsable
usable-by buffers true true long some = record { length_least = leb-true LEAST_LENGTH buffers.length long; packets_some = ltb-true 0 buffers.packets some }
usable-by buffers true false long some = tt
usable-by buffers false packets long some = tt

usable : (buffers : Buffers) → IfOk (usable_of buffers) AreUsable
usable buffers = usable-by buffers (nat_le LEAST_LENGTH buffers.length) (nat_lt 0 buffers.packets) refl refl

shared : (returned : List ℕ) → IfOk (shared_buffers_of returned) AreUsable
shared (low ∷ high ∷ sco ∷ packets_low ∷ packets_high ∷ sco_low ∷ sco_high ∷ rest) =
    usable (record { length = from_two low high; packets = from_two packets_low packets_high })
shared _ = tt

sized-shared : (settings : Settings) (told : Result Buffers InitFault) → IfOk told AreUsable → Leads (after_shared_sizing settings told)
sized-shared settings (Err fault) are = tt
sized-shared settings (Ok buffers) are = addressed settings.address settings.advertising buffers are

sized-own : (settings : Settings) (told : Result Buffers InitFault) → IfOk told AreUsable
    → Leads (after_sizing settings (result_map_both Some (λ fault. fault) told))
sized-own settings (Err fault) are = tt
sized-own settings (Ok buffers) are = addressed settings.address settings.advertising buffers are

sized-by : (settings : Settings) (none : Bool) (buffers : Buffers)
    → Leads (after_sizing settings (if none then Ok None else result_map_both Some (λ fault. fault) (usable_of buffers)))
sized-by settings true buffers = tt
sized-by settings false buffers = sized-own settings (usable_of buffers) (usable buffers)

sized : (settings : Settings) (returned : List ℕ) → Leads (after_sizing settings (le_buffers_of returned))
sized settings (low ∷ high ∷ packets ∷ rest) = sized-by settings (from_two low high == 0) (record { length = from_two low high; packets = packets })
sized settings _ = tt

following : (state : Init) (values : List ℕ) → KnowsUsable state → Leads (next state values)
following (Resetting settings) values knows = tt
following (Masking settings) values knows = tt
following (LeMasking settings) values knows = tt
following (Sizing settings) values knows = sized settings values
following (SharedSizing settings) values knows = sized-shared settings (shared_buffers_of values) (shared values)
following (Addressing address advertising buffers) values knows = knows
following (Describing own_address_type advertising buffers) values knows = knows
following (Filling advertising buffers) values knows = knows
following (Enabling buffers) values knows = knows
following (Ready length packets) values knows = knows

-- so it is after any answers
known-back : (answers : List (List ℕ)) (state : Init) (outcome : Result Init InitFault) → KnowsUsable state → Leads outcome
    → ((next_state : Init) → KnowsUsable next_state → KnowsUsable (state_after_answers answers next_state))
    → KnowsUsable (state_after (handed_back state outcome) (state_after_answers answers))
known-back answers state (Ok next_state) knows leads later = later next_state leads
known-back answers state (Err fault) knows leads later = knows

valued : (state : Init) (values : Result (List ℕ) InitFault) → KnowsUsable state → Leads (next_by state values)
valued state (Ok values) knows = following state values knows
valued state (Err fault) knows = tt

known-by : (command_awaited : Option ℕ) (answers : List (List ℕ)) (state : Init) (returned : List ℕ) → KnowsUsable state
    → ((next_state : Init) → KnowsUsable next_state → KnowsUsable (state_after_answers answers next_state))
    → KnowsUsable (state_after (outcome_by command_awaited state returned) (state_after_answers answers))
known-by None answers state returned knows later = later state knows
known-by (Some opcode) answers state returned knows later =
    known-back answers state (next_by state (returned_values opcode returned)) knows (valued state (returned_values opcode returned) knows) later

known : (answers : List (List ℕ)) (state : Init) → KnowsUsable state → KnowsUsable (state_after_answers answers state)
known [] state knows = knows
known (returned ∷ answers) state knows = known-by (opcode_awaited state) answers state returned knows (known answers)

pub knows_usable : (address : Option (List ℕ)) (advertising : ArrayVec ℕ) (answers : List (List ℕ))
    → KnowsUsable (state_after_answers answers (first_state address advertising))
knows_usable address advertising answers = known answers (first_state address advertising) tt
