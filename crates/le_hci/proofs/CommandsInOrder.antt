-- Initialisation sends its commands in their order.
use Rattle.std.proofs.Common.{◌≡◌, ℕ, Bool, true, false, List, [], ◌∷◌, ◌++◌, refl, ap, subst, sym}
use Rattle.std.specs.Prelude.{◌==◌, ◌&&◌, nat_le, nat_lt, if◌then◌else◌, drop, Option, Some, None, Result, Ok, Err}
use Rattle.std.specs.Result.{result_map_both}
use Rattle.arrayvec.specs.ArrayVec.{ArrayVec}
use Rattle.le_hci.specs.declared.buffers.Buffers.{Buffers}
use Rattle.le_hci.specs.declared.buffers.TheConstants.{LEAST_LENGTH}
use Rattle.le_hci.specs.declared.init.Settings.{Settings}
use Rattle.le_hci.specs.declared.init.Init.{Init}
use Rattle.le_hci.specs.declared.init.Init.TheVariants.{Resetting, Masking, LeMasking, Sizing, SharedSizing, Addressing, Describing, Filling, Enabling, Ready}
use Rattle.le_hci.specs.declared.init.InitFault.{InitFault}
use Rattle.le_hci.specs.declared.init.InitFault.TheVariants.{Refused, BadBuffers}
use Rattle.le_hci.specs.Buffers.{usable_of, shared_buffers_of}
use Rattle.le_hci.specs.Command.{Commanded, SetEventMask, ReadBufferSize, LeSetEventMask, LeReadBufferSize, LeSetAdvertisingParameters, LeSetAdvertisingData, LeSetAdvertiseEnable}
use Rattle.le_hci.specs.Init.{event_mask, le_event_mask, opcode_awaited, outcome_by, init_outcome, next_by, handed_back, next, first_state, addressed_from, after_sizing, after_shared_sizing, with_buffers}
use Rattle.le_hci.specs.InitOrder.{address_commands, shared_commands, advertising_commands, commands_in_order, tell_shared, sent_after, init_commands_sent, IsPrefixOf}
use Rattle.octet_io.specs.Number.{from_two}

none_sent : (commands : List Commanded) → IsPrefixOf [] commands
none_sent commands = record { rest = commands; whole = refl }

one_more : (command : Commanded) (sent commands : List Commanded) → IsPrefixOf sent commands → IsPrefixOf (command ∷ sent) (command ∷ commands)
one_more command sent commands p = record { rest = p.rest; whole = ap (λ (cs : List Commanded). command ∷ cs) p.whole }

-- what follows on an answer is in order where what follows on a success is
after_success : (state : Init) (opcode : ℕ) → opcode_awaited state ≡ Some opcode
    → (status : ℕ) (values : List ℕ) (sent_from : Init → List Commanded) (commands : List Commanded)
    → ((following : Init) → next state values ≡ Ok following → IsPrefixOf (sent_from following) commands)
    → IsPrefixOf (sent_after (init_outcome state (status ∷ values)) sent_from) commands
after_success state opcode awaits status values sent_from commands h =
    let P : Option ℕ → Type 0 = λ command_awaited. IsPrefixOf (sent_after (outcome_by command_awaited state (status ∷ values)) sent_from) commands in
    subst P (sym awaits) (pick (status == 0))
  where
    settle : (outcome : Result Init InitFault) → ((following : Init) → outcome ≡ Ok following → IsPrefixOf (sent_from following) commands)
        → IsPrefixOf (sent_after (handed_back state outcome) sent_from) commands
    settle (Ok following) k = k following refl
    settle (Err fault) k = none_sent commands

    pick : (b : Bool) → IsPrefixOf (sent_after (handed_back state (next_by state (if b then Ok values else Err (Refused opcode status)))) sent_from) commands
    pick true = settle (next state values) h
    pick false = none_sent commands

after : (state : Init) (opcode : ℕ) → opcode_awaited state ≡ Some opcode → (returned : List ℕ) (sent_from : Init → List Commanded) (commands : List Commanded)
    → ((values : List ℕ) (following : Init) → next state values ≡ Ok following → IsPrefixOf (sent_from following) commands)
    → IsPrefixOf (sent_after (init_outcome state returned) sent_from) commands
after state opcode awaits [] sent_from commands h =
    let P : Option ℕ → Type 0 = λ command_awaited. IsPrefixOf (sent_after (outcome_by command_awaited state []) sent_from) commands in
    subst P (sym awaits) (none_sent commands)
after state opcode awaits (status ∷ values) sent_from commands h = after_success state opcode awaits status values sent_from commands (h values)

-- where one state follows whatever is returned
always : (state following : Init) (opcode : ℕ) → opcode_awaited state ≡ Some opcode → ((values : List ℕ) → next state values ≡ Ok following)
    → (returned : List ℕ) (sent_from : Init → List Commanded) (commands : List Commanded)
    → IsPrefixOf (sent_from following) commands → IsPrefixOf (sent_after (init_outcome state returned) sent_from) commands
always state following opcode awaits e returned sent_from commands p =
    after state opcode awaits returned sent_from commands (λ values other o.
    let same : following ≡ other = cc (e values) in
    subst (λ (s : Init). IsPrefixOf (sent_from s) commands) same p)

ready : (answers : List (List ℕ)) (length packets : ℕ) → IsPrefixOf (init_commands_sent answers (Ready length packets)) []
ready [] length packets = none_sent []
ready (returned ∷ answers) length packets = ready answers length packets

enabling : (answers : List (List ℕ)) (buffers : Buffers) → IsPrefixOf (init_commands_sent answers (Enabling buffers)) (LeSetAdvertiseEnable ∷ [])
enabling [] buffers = one_more _ _ _ (none_sent _)
enabling (returned ∷ answers) buffers =
    one_more _ _ _ (always (Enabling buffers) (Ready buffers.length buffers.packets) _ refl (λ _. refl) returned (init_commands_sent answers) _
    (ready answers _ _))

filling : (answers : List (List ℕ)) (advertising : ArrayVec ℕ) (buffers : Buffers)
    → IsPrefixOf (init_commands_sent answers (Filling advertising buffers)) (LeSetAdvertisingData advertising.items ∷ LeSetAdvertiseEnable ∷ [])
filling [] advertising buffers = one_more _ _ _ (none_sent _)
filling (returned ∷ answers) advertising buffers =
    one_more _ _ _
    (always (Filling advertising buffers) (Enabling buffers) _ refl (λ _. refl) returned (init_commands_sent answers) _ (enabling answers buffers))

describing : (answers : List (List ℕ)) (kind : ℕ) (advertising : ArrayVec ℕ) (buffers : Buffers)
    → IsPrefixOf (init_commands_sent answers (Describing kind advertising buffers))
    (LeSetAdvertisingParameters kind ∷ LeSetAdvertisingData advertising.items ∷ LeSetAdvertiseEnable ∷ [])
describing [] kind advertising buffers = one_more _ _ _ (none_sent _)
describing (returned ∷ answers) kind advertising buffers =
    one_more _ _ _ (always (Describing kind advertising buffers) (Filling advertising buffers) _ refl (λ _. refl) returned (init_commands_sent answers) _
    (filling answers advertising buffers))

addressing : (answers : List (List ℕ)) (address : Option (List ℕ)) (advertising : ArrayVec ℕ) (buffers : Buffers)
    → IsPrefixOf (init_commands_sent answers (addressed_from address advertising buffers))
    (address_commands address ++ advertising_commands address advertising.items)
addressing answers None advertising buffers = describing answers 0x00 advertising buffers
addressing [] (Some address) advertising buffers = one_more _ _ _ (none_sent _)
addressing (returned ∷ answers) (Some address) advertising buffers =
    one_more _ _ _
    (always (Addressing address advertising buffers) (Describing 0x01 advertising buffers) _ refl (λ _. refl) returned (init_commands_sent answers) _
    (describing answers 0x01 advertising buffers))

-- the commands after the buffers are told
abbrev rest_of : Settings → List Commanded
rest_of settings = address_commands settings.address ++ advertising_commands settings.address settings.advertising.items

shared_sizing : (answers : List (List ℕ)) (settings : Settings)
    → IsPrefixOf (init_commands_sent answers (SharedSizing settings)) (ReadBufferSize ∷ rest_of settings)
shared_sizing [] settings = one_more _ _ _ (none_sent _)
shared_sizing (returned ∷ answers) settings =
    one_more _ _ _ (after (SharedSizing settings) _ refl returned (init_commands_sent answers) (rest_of settings) (λ values following e.
    told (shared_buffers_of values) following e))
  where
    told : (buffers : Result Buffers InitFault) (following : Init) → after_shared_sizing settings buffers ≡ Ok following
        → IsPrefixOf (init_commands_sent answers following) (rest_of settings)
    told (Err fault) following e = absurd (cc)
    told (Ok buffers) following e =
        let same : with_buffers settings buffers ≡ following = cc in
        subst (λ (s : Init). IsPrefixOf (init_commands_sent answers s) (rest_of settings)) same
        (addressing answers settings.address settings.advertising buffers)

sizing : (answers : List (List ℕ)) (settings : Settings)
    → IsPrefixOf (init_commands_sent answers (Sizing settings)) (LeReadBufferSize ∷ (shared_commands (tell_shared answers) ++ rest_of settings))
sizing [] settings = one_more _ _ _ (none_sent _)
sizing (returned ∷ answers) settings = one_more _ _ _ (sized returned)
  where
    -- the buffers of LE connections
    own : (buffers : Buffers) (b : Bool) (following : Init)
        → after_sizing settings (result_map_both Some (λ fault. fault) (if b then Ok buffers else Err BadBuffers)) ≡ Ok following
        → IsPrefixOf (init_commands_sent answers following) (rest_of settings)
    own buffers false following e = absurd (cc)
    own buffers true following e =
        let same : with_buffers settings buffers ≡ following = cc in
        subst (λ (s : Init). IsPrefixOf (init_commands_sent answers s) (rest_of settings)) same
        (addressing answers settings.address settings.advertising buffers)

    pick : (b : Bool) (buffers : Buffers) (following : Init)
        → after_sizing settings (if b then Ok None else result_map_both Some (λ fault. fault) (usable_of buffers)) ≡ Ok following
        → IsPrefixOf (init_commands_sent answers following) (shared_commands b ++ rest_of settings)
    pick true buffers following e =
        let same : SharedSizing settings ≡ following = cc in
        subst (λ (s : Init). IsPrefixOf (init_commands_sent answers s) (ReadBufferSize ∷ rest_of settings)) same (shared_sizing answers settings)
    pick false buffers following e = own buffers (nat_le LEAST_LENGTH buffers.length && nat_lt 0 buffers.packets) following e

    sized : (returned : List ℕ) → IsPrefixOf (sent_after (init_outcome (Sizing settings) returned) (init_commands_sent answers))
        (shared_commands (tell_shared (returned ∷ answers)) ++ rest_of settings)
    sized [] = none_sent _
    sized (status ∷ []) = after_success (Sizing settings) _ refl status [] _ _ (λ following e. absurd (cc))
    sized (status ∷ a ∷ []) = after_success (Sizing settings) _ refl status (a ∷ []) _ _ (λ following e. absurd (cc))
    sized (status ∷ a ∷ b ∷ []) = after_success (Sizing settings) _ refl status (a ∷ b ∷ []) _ _ (λ following e. absurd (cc))
    sized (status ∷ a ∷ b ∷ packets ∷ more) =
        after_success (Sizing settings) _ refl status (a ∷ b ∷ packets ∷ more) (init_commands_sent answers) _
        (pick (from_two a b == 0) (record { length = from_two a b; packets = packets }))

le_masking : (answers : List (List ℕ)) (settings : Settings)
    → IsPrefixOf (init_commands_sent answers (LeMasking settings))
    (LeSetEventMask le_event_mask ∷ LeReadBufferSize ∷ (shared_commands (tell_shared (drop 1 answers)) ++ rest_of settings))
le_masking [] settings = one_more _ _ _ (none_sent _)
le_masking (returned ∷ answers) settings =
    one_more _ _ _ (always (LeMasking settings) (Sizing settings) _ refl (λ _. refl) returned (init_commands_sent answers) _ (sizing answers settings))

masking : (answers : List (List ℕ)) (settings : Settings)
    → IsPrefixOf (init_commands_sent answers (Masking settings))
    (SetEventMask event_mask ∷ LeSetEventMask le_event_mask ∷ LeReadBufferSize ∷ (shared_commands (tell_shared (drop 2 answers)) ++ rest_of settings))
masking [] settings = one_more _ _ _ (none_sent _)
masking (returned ∷ answers) settings =
    one_more _ _ _ (always (Masking settings) (LeMasking settings) _ refl (λ _. refl) returned (init_commands_sent answers) _ (le_masking answers settings))

pub in_order : (address : Option (List ℕ)) (advertising : ArrayVec ℕ) (answers : List (List ℕ))
    → IsPrefixOf (init_commands_sent answers (first_state address advertising)) (commands_in_order address advertising.items (tell_shared (drop 3 answers)))
in_order address advertising [] = one_more _ _ _ (none_sent _)
in_order address advertising (returned ∷ answers) =
    let settings : Settings = record { address = address; advertising = advertising } in
    one_more _ _ _ (always (Resetting settings) (Masking settings) _ refl (λ _. refl) returned (init_commands_sent answers) _ (masking answers settings))
