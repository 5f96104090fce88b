-- What a phone hears are the frames of the data that were handed in for it.
use Rattle.std.proofs.Common.{◌≡◌, ◌≢◌, ℕ, ◌<◌, Bool, true, false, List, [], ◌∷◌, ◌++◌, length, take, refl, sym, subst, ap, ◌∙◌, arith, append_assoc, append-nil, take-append-drop, length-set}
use Rattle.std.specs.Prelude.{Option, Some, None, ◌==◌, if◌then◌else◌, is_some, slice_index_or, slice_set}
use Rattle.std.specs.Option.{option_map, option_and_then, option_to_list}
use Rattle.std.proofs.lemmas.Bool.{eqb-true, eqb-false}
use Rattle.std.proofs.lemmas.List.{get_or-replicate, get_or-set_same, get_or-set_other}
use Rattle.octet_io.specs.Number.{Octets}
use Rattle.le_acl.specs.Fragment.{Fragment, Beginning, Continuation}
use Rattle.le_acl.specs.Reassembler.{Assembly, with_more, assembly_after}
use Rattle.le_acl.proofs.Frames.{assembled_frame}
use Rattle.sim_controller.specs.declared.command.Asked.{Asked}
use Rattle.sim_controller.specs.declared.command.Asked.TheVariants.{Status, ReadBufferSize, LeReadBufferSize, Advertise, Disconnect, GiveKey, RefuseKey}
use Rattle.sim_controller.specs.declared.config.SimConfig.{SimConfig}
use Rattle.sim_controller.specs.declared.fault.SimFault.{SimFault}
use Rattle.sim_controller.specs.declared.handle.TheConstants.{PHONES}
use Rattle.sim_controller.specs.Acts.{SimulatedAct, Connect, Drop, Encrypt, Clear, Send, Hold, Done, act_fault, simulated_after_doing, simulated_after_act}
use Rattle.sim_controller.specs.Answers.{here_or_none, phone_here, with_end, simulated_after_answer, after_data, host_fault, after_host}
use Rattle.sim_controller.specs.Calls.{SimulatedCall, Acts, Takes, Gives, Hears, Tells, if_accepted, after_call, after_calls}
use Rattle.sim_controller.specs.FromHost.{Taken, Command, Data, host_packet_of}
use Rattle.sim_controller.specs.Hearing.{fragment_to, fragment_in, handed_by, is_connect_of, connects, fragments_for, frames_by, frames_for, frames_heard_by, frames_heard_in, HearsItsFrames}
use Rattle.sim_controller.specs.Phone.{Link, Phone, absent_phone, new_link, held_link, assembled_in, with_assembly, phone_after_hearing, after_telling}
use Rattle.sim_controller.specs.Phones.{phone_with}
use Rattle.sim_controller.specs.Simulated.{Simulated, phone_at}

-- what a connection has of a frame is what its fragments came to
abbrev IsBehind : Option Link → List Fragment → Type 0
IsBehind None fragments = Unit {0}
IsBehind (Some link) fragments = link.unfinished ≡ (assembly_after fragments).unfinished

-- a phone before and after a call that gives some frames, and hands in fragments that make some
record Moves (before now : Phone) (given frames : List Octets) (fragments : List Fragment) : Type 0 where
  heard : given ++ now.heard ≡ before.heard ++ frames
  behind : IsBehind now.link fragments

stays : (before now : Phone) (older : List Fragment) → now ≡ before → IsBehind before.link older → Moves before now [] [] older
stays before now older e behind = record {
  heard = ap (λ (phone : Phone). phone.heard) e ∙ sym (append-nil before.heard);
  behind = subst (λ (phone : Phone). IsBehind phone.link older) (sym e) behind;
}

leaves : (before now : Phone) (older : List Fragment) → now.link ≡ None → now.heard ≡ before.heard → Moves before now [] [] older
leaves before now older gone e = record {
  heard = e ∙ sym (append-nil before.heard);
  behind = subst (λ (link : Option Link). IsBehind link older) (sym gone) tt;
}

behind-hold : (link : Option Link) (older : List Fragment) → IsBehind link older → IsBehind (option_map held_link link) older
behind-hold None older behind = tt
behind-hold (Some link) older behind = behind

-- a fragment comes to what all of them come to
same-assembly : (link : Link) (fragment : Fragment) (older : List Fragment) → link.unfinished ≡ (assembly_after older).unfinished
    → assembled_in (Some link) fragment ≡ assembly_after (fragment ∷ older)
same-assembly link (Beginning octets) older behind = refl
same-assembly link (Continuation octets) older behind = ap (λ (unfinished : Option Octets). with_more unfinished octets) behind

abbrev phone_by : Option Link → List Octets → Option ℕ → Phone
phone_by link heard ended = record { link = link; heard = heard; ended = ended }

data-moves : (link : Option Link) (heard : List Octets) (ended : Option ℕ) (fragment : Fragment) (older : List Fragment)
    → is_some link ≡ true → IsBehind link older
    → Moves (phone_by link heard ended) (with_assembly (phone_by link heard ended) (assembled_in link fragment)) [] (frames_by (Some fragment) older)
    (fragment ∷ older)
data-moves None heard ended fragment older here behind = absurd cc
data-moves (Some link) heard ended fragment older here behind =
    let same : assembled_in (Some link) fragment ≡ assembly_after (fragment ∷ older) = same-assembly link fragment older behind in
    record {
      heard =
          ap (λ (assembly : Assembly). heard ++ option_to_list assembly.frame) same
          ∙ ap (λ (frame : Option Octets). heard ++ option_to_list frame) (assembled_frame (fragment ∷ older));
      behind = ap (λ (assembly : Assembly). assembly.unfinished) same;
    }

-- a phone that is found is here
here-by : (phones : List Phone) (found : Option ℕ) (phone : ℕ) → option_and_then (here_or_none phones) found ≡ Some phone
    → is_some (slice_index_or phones phone absent_phone).link ≡ true
here-by phones None phone e = absurd cc
here-by phones (Some other) phone e = pick (is_some (slice_index_or phones other absent_phone).link) refl e
  where
    pick : (here : Bool) → is_some (slice_index_or phones other absent_phone).link ≡ here → (if here then Some other else None) ≡ Some phone
        → is_some (slice_index_or phones phone absent_phone).link ≡ true
    pick true is e =
        let same : other ≡ phone = cc in
        ap (λ (n : ℕ). is_some (slice_index_or phones n absent_phone).link) (sym same) ∙ is
    pick false is e = absurd cc

module _ (phone : ℕ) (old : Simulated) (older : List Fragment) (below : phone < length old.phones) (so_far : IsBehind (phone_at old phone).link older) where
  -- a phone is changed: this one, or another one
  own : (new : Phone) → slice_index_or (slice_set old.phones phone new) phone absent_phone ≡ new
  own new = get_or-set_same old.phones phone new absent_phone below

  abbrev put : ℕ → Phone → Phone
  put other new = slice_index_or (slice_set old.phones other new) phone absent_phone

  others : (other : ℕ) (new : Phone) → other ≢ phone → put other new ≡ phone_at old phone
  others other new differs = get_or-set_other old.phones other phone new absent_phone (λ e. differs (sym e))

  other-stays : (other : ℕ) (new : Phone) → other ≢ phone → Moves (phone_at old phone) (put other new) [] [] older
  other-stays other new differs = stays (phone_at old phone) (put other new) older (others other new differs) so_far

  by-phone : (P : Phone → Type 0) (other : ℕ) (new : ℕ → Phone) → ((now : Phone) → now ≡ new phone → P now) → (other ≢ phone → P (put other (new other)))
      → P (put other (new other))
  by-phone P other new same differs = pick (other == phone) refl
    where
      pick : (b : Bool) → (other == phone) ≡ b → P (put other (new other))
      pick true e =
          let is : other ≡ phone = eqb-true other phone e in
          same (put other (new other)) (ap (λ (n : ℕ). put n (new n)) is ∙ own (new phone))
      pick false e = differs (eqb-false other phone e)

  doing-moves : (act : SimulatedAct) → Moves (phone_at old phone) (phone_at (simulated_after_doing old act) phone) [] []
      (if is_connect_of phone act then [] else older)
  doing-moves (Connect other peer) = pick (other == phone) refl
    where
      pick : (b : Bool) → (other == phone) ≡ b → Moves (phone_at old phone) (put other (record (phone_at old other) { link = Some new_link })) [] []
          (if b then [] else older)
      pick true e =
          let is : other ≡ phone = eqb-true other phone e in
          let now : put other (record (phone_at old other) { link = Some new_link }) ≡ record (phone_at old phone) { link = Some new_link } =
          ap (λ (n : ℕ). put n (record (phone_at old n) { link = Some new_link })) is ∙ own (record (phone_at old phone) { link = Some new_link }) in
          record {
            heard = ap (λ (p : Phone). p.heard) now ∙ sym (append-nil (phone_at old phone).heard);
            behind = subst (λ (p : Phone). IsBehind p.link []) (sym now) refl;
          }
      pick false e = other-stays other (record (phone_at old other) { link = Some new_link }) (eqb-false other phone e)
  doing-moves (Drop other) =
      by-phone (λ now. Moves (phone_at old phone) now [] [] older) other (λ n. record (phone_at old n) { link = None })
      (λ now e. leaves (phone_at old phone) now older (ap (λ (p : Phone). p.link) e) (ap (λ (p : Phone). p.heard) e))
      (λ differs. other-stays other (record (phone_at old other) { link = None }) differs)
  doing-moves (Encrypt other random_number diversifier) = stays (phone_at old phone) (phone_at old phone) older refl so_far
  doing-moves (Clear other) = stays (phone_at old phone) (phone_at old phone) older refl so_far
  doing-moves (Send other channel payload) = stays (phone_at old phone) (phone_at old phone) older refl so_far
  doing-moves (Hold other) =
      by-phone (λ now. Moves (phone_at old phone) now [] [] older) other (λ n. record (phone_at old n) { link = option_map held_link (phone_at old n).link })
      (λ now e. record {
        heard = ap (λ (p : Phone). p.heard) e ∙ sym (append-nil (phone_at old phone).heard);
        behind = subst (λ (p : Phone). IsBehind p.link older) (sym e) (behind-hold (phone_at old phone).link older so_far);
      })
      (λ differs. other-stays other (record (phone_at old other) { link = option_map held_link (phone_at old other).link }) differs)
  doing-moves (Done other packets) = stays (phone_at old phone) (phone_at old phone) older refl so_far

  act-moves : (fault : Option SimFault) (act : SimulatedAct)
      → Moves (phone_at old phone) (phone_at (if_accepted fault (simulated_after_act old act) old) phone) [] []
      (if if_accepted fault (is_connect_of phone act) false then [] else older)
  act-moves None act = doing-moves act
  act-moves (Some fault) act = stays (phone_at old phone) (phone_at old phone) older refl so_far

  end-moves : (found : Option ℕ) (reason : ℕ) → Moves (phone_at old phone) (phone_at (with_end old found reason) phone) [] [] older
  end-moves None reason = stays (phone_at old phone) (phone_at old phone) older refl so_far
  end-moves (Some other) reason =
      by-phone (λ now. Moves (phone_at old phone) now [] [] older) other (λ n. record (phone_at old n) { link = None; ended = Some reason })
      (λ now e. leaves (phone_at old phone) now older (ap (λ (p : Phone). p.link) e) (ap (λ (p : Phone). p.heard) e))
      (λ differs. other-stays other (record (phone_at old other) { link = None; ended = Some reason }) differs)

  answer-moves : (asked : Asked) → Moves (phone_at old phone) (phone_at (simulated_after_answer old asked) phone) [] [] older
  answer-moves (Status code) = stays (phone_at old phone) (phone_at old phone) older refl so_far
  answer-moves ReadBufferSize = stays (phone_at old phone) (phone_at old phone) older refl so_far
  answer-moves LeReadBufferSize = stays (phone_at old phone) (phone_at old phone) older refl so_far
  answer-moves (Advertise enable) = stays (phone_at old phone) (phone_at old phone) older refl so_far
  answer-moves (Disconnect handle reason) = end-moves (phone_here old.phones handle) reason
  answer-moves (GiveKey handle) = stays (phone_at old phone) (phone_at old phone) older refl so_far
  answer-moves (RefuseKey handle) = stays (phone_at old phone) (phone_at old phone) older refl so_far

  fragment-moves : (found : Option ℕ) (fragment : Fragment) → ((other : ℕ) → found ≡ Some other → is_some (phone_at old other).link ≡ true)
      → Moves (phone_at old phone) (phone_at (after_data old found fragment) phone) [] (frames_by (fragment_to phone fragment found) older)
      (option_to_list (fragment_to phone fragment found) ++ older)
  fragment-moves None fragment here = stays (phone_at old phone) (phone_at old phone) older refl so_far
  fragment-moves (Some other) fragment here = pick (other == phone) refl
    where
      pick : (b : Bool) → (other == phone) ≡ b
          → Moves (phone_at old phone) (put other (with_assembly (phone_at old other) (assembled_in (phone_at old other).link fragment)))
          [] (frames_by (if b then Some fragment else None) older) (option_to_list (if b then Some fragment else None) ++ older)
      pick true e =
          let is : other ≡ phone = eqb-true other phone e in
          let now : put other (with_assembly (phone_at old other) (assembled_in (phone_at old other).link fragment))
          ≡ with_assembly (phone_at old phone) (assembled_in (phone_at old phone).link fragment) =
          ap (λ (n : ℕ). put n (with_assembly (phone_at old n) (assembled_in (phone_at old n).link fragment))) is
          ∙ own (with_assembly (phone_at old phone) (assembled_in (phone_at old phone).link fragment)) in
          subst (λ (p : Phone). Moves (phone_at old phone) p [] (frames_by (Some fragment) older) (fragment ∷ older)) (sym now)
          (data-moves (phone_at old phone).link (phone_at old phone).heard (phone_at old phone).ended fragment older
          (here phone (ap (λ (n : ℕ). Some n) is)) so_far)
      pick false e =
          other-stays other (with_assembly (phone_at old other) (assembled_in (phone_at old other).link fragment)) (eqb-false other phone e)

  host-moves : (taken : Option Taken) → Moves (phone_at old phone) (phone_at (after_host old taken) phone) [] (frames_by (fragment_in old phone taken) older)
      (option_to_list (fragment_in old phone taken) ++ older)
  host-moves None = stays (phone_at old phone) (phone_at old phone) older refl so_far
  host-moves (Some (Command asked)) = answer-moves asked
  host-moves (Some (Data handle fragment)) =
      fragment-moves (phone_here old.phones handle) fragment (λ other e. here-by old.phones (phone_with handle) other e)

  packet-moves : (fault : Option SimFault) (taken : Option Taken)
      → Moves (phone_at old phone) (phone_at (if_accepted fault (after_host old taken) old) phone) []
      (frames_by (if_accepted fault (fragment_in old phone taken) None) older)
      (option_to_list (if_accepted fault (fragment_in old phone taken) None) ++ older)
  packet-moves None taken = host-moves taken
  packet-moves (Some fault) taken = stays (phone_at old phone) (phone_at old phone) older refl so_far

  hears-moves : (other : ℕ) → Moves (phone_at old phone) (put other (phone_after_hearing (phone_at old other)))
      (if other == phone then take 1 (phone_at old phone).heard else []) [] older
  hears-moves other = pick (other == phone) refl
    where
      pick : (b : Bool) → (other == phone) ≡ b → Moves (phone_at old phone) (put other (phone_after_hearing (phone_at old other)))
          (if b then take 1 (phone_at old phone).heard else []) [] older
      pick true e =
          let is : other ≡ phone = eqb-true other phone e in
          let now : put other (phone_after_hearing (phone_at old other)) ≡ phone_after_hearing (phone_at old phone) =
          ap (λ (n : ℕ). put n (phone_after_hearing (phone_at old n))) is ∙ own (phone_after_hearing (phone_at old phone)) in
          record {
            heard = ap (λ (p : Phone). take 1 (phone_at old phone).heard ++ p.heard) now
                ∙ take-append-drop 1 (phone_at old phone).heard ∙ sym (append-nil (phone_at old phone).heard);
            behind = subst (λ (p : Phone). IsBehind p.link older) (sym now) so_far;
          }
      pick false e = other-stays other (phone_after_hearing (phone_at old other)) (eqb-false other phone e)

  tells-moves : (other : ℕ) → Moves (phone_at old phone) (put other (after_telling (phone_at old other))) [] [] older
  tells-moves other =
      by-phone (λ now. Moves (phone_at old phone) now [] [] older) other (λ n. after_telling (phone_at old n))
      (λ now e. record {
        heard = ap (λ (p : Phone). p.heard) e ∙ sym (append-nil (phone_at old phone).heard);
        behind = subst (λ (p : Phone). IsBehind p.link older) (sym e) so_far;
      })
      (λ differs. other-stays other (after_telling (phone_at old other)) differs)

  call-moves : (call : SimulatedCall) → Moves (phone_at old phone) (phone_at (after_call old call) phone) (frames_heard_by old phone call)
      (frames_by (handed_by old phone call) older) (if connects old phone call then [] else option_to_list (handed_by old phone call) ++ older)
  call-moves (Acts act) = act-moves (act_fault old act) act
  call-moves (Takes octets) = packet-moves (host_fault old (host_packet_of octets)) (host_packet_of octets)
  call-moves Gives = stays (phone_at old phone) (phone_at old phone) older refl so_far
  call-moves (Hears other) = hears-moves other
  call-moves (Tells other) = tells-moves other

-- there are always as many phones
doing-count : (old : Simulated) (act : SimulatedAct) → length (simulated_after_doing old act).phones ≡ length old.phones
doing-count old (Connect phone peer) = length-set old.phones phone (record (phone_at old phone) { link = Some new_link })
doing-count old (Drop phone) = length-set old.phones phone (record (phone_at old phone) { link = None })
doing-count old (Encrypt phone random_number diversifier) = refl
doing-count old (Clear phone) = refl
doing-count old (Send phone channel payload) = refl
doing-count old (Hold phone) = length-set old.phones phone (record (phone_at old phone) { link = option_map held_link (phone_at old phone).link })
doing-count old (Done phone packets) = refl

end-count : (old : Simulated) (found : Option ℕ) (reason : ℕ) → length (with_end old found reason).phones ≡ length old.phones
end-count old None reason = refl
end-count old (Some phone) reason = length-set old.phones phone (record (phone_at old phone) { link = None; ended = Some reason })

answer-count : (old : Simulated) (asked : Asked) → length (simulated_after_answer old asked).phones ≡ length old.phones
answer-count old (Status code) = refl
answer-count old ReadBufferSize = refl
answer-count old LeReadBufferSize = refl
answer-count old (Advertise enable) = refl
answer-count old (Disconnect handle reason) = end-count old (phone_here old.phones handle) reason
answer-count old (GiveKey handle) = refl
answer-count old (RefuseKey handle) = refl

data-count : (old : Simulated) (found : Option ℕ) (fragment : Fragment) → length (after_data old found fragment).phones ≡ length old.phones
data-count old None fragment = refl
data-count old (Some phone) fragment =
    length-set old.phones phone (with_assembly (phone_at old phone) (assembled_in (phone_at old phone).link fragment))

host-count : (old : Simulated) (taken : Option Taken) → length (after_host old taken).phones ≡ length old.phones
host-count old None = refl
host-count old (Some (Command asked)) = answer-count old asked
host-count old (Some (Data handle fragment)) = data-count old (phone_here old.phones handle) fragment

accepted-count : (fault : Option SimFault) (old new : Simulated) → length new.phones ≡ length old.phones
    → length (if_accepted fault new old).phones ≡ length old.phones
accepted-count None old new e = e
accepted-count (Some fault) old new e = refl

call-count : (old : Simulated) (call : SimulatedCall) → length (after_call old call).phones ≡ length old.phones
call-count old (Acts act) = accepted-count (act_fault old act) old (simulated_after_act old act) (doing-count old act)
call-count old (Takes octets) =
    accepted-count (host_fault old (host_packet_of octets)) old (after_host old (host_packet_of octets)) (host-count old (host_packet_of octets))
call-count old Gives = refl
call-count old (Hears phone) = length-set old.phones phone (phone_after_hearing (phone_at old phone))
call-count old (Tells phone) = length-set old.phones phone (after_telling (phone_at old phone))

all-count : (config : SimConfig) (calls : List SimulatedCall) → length (after_calls config calls).phones ≡ PHONES
all-count config [] = refl
all-count config (call ∷ earlier) = call-count (after_calls config earlier) call ∙ all-count config earlier

none-behind : (phone : ℕ) → phone < PHONES → (link : Option Link) → link ≡ None → IsBehind link []
none-behind phone below link e = subst (λ (l : Option Link). IsBehind l []) (sym e) tt

record Follows (config : SimConfig) (phone : ℕ) (calls : List SimulatedCall) : Type 0 where
  heard : frames_heard_in config phone calls ++ (phone_at (after_calls config calls) phone).heard ≡ frames_for config phone calls
  behind : IsBehind (phone_at (after_calls config calls) phone).link (fragments_for config phone calls)

follows : (config : SimConfig) (phone : ℕ) (calls : List SimulatedCall) → phone < PHONES → Follows config phone calls
follows config phone [] below =
    let absent-first : slice_index_or (after_calls config []).phones phone absent_phone ≡ absent_phone =
    get_or-replicate PHONES phone absent_phone absent_phone below in
    record {
      heard = ap (λ (p : Phone). p.heard) absent-first;
      behind = none-behind phone below (phone_at (after_calls config []) phone).link (ap (λ (p : Phone). p.link) absent-first);
    }
follows config phone (call ∷ earlier) below =
    let old : Simulated = after_calls config earlier in
    let before = follows config phone earlier below in
    let inside : phone < length old.phones = omega (arith, below, all-count config earlier) in
    let moves = call-moves phone old (fragments_for config phone earlier) inside before.behind call in
    let given : List Octets = frames_heard_in config phone earlier in
    let frames : List Octets = frames_by (handed_by old phone call) (fragments_for config phone earlier) in
    record {
      heard =
          append_assoc given (frames_heard_by old phone call) (phone_at (after_call old call) phone).heard
          ∙ ap (λ (heard : List Octets). given ++ heard) moves.heard
          ∙ sym (append_assoc given (phone_at old phone).heard frames)
          ∙ ap (λ (heard : List Octets). heard ++ frames) before.heard;
      behind = moves.behind;
    }

pub hears_its_frames : (config : SimConfig) → HearsItsFrames config
hears_its_frames config phone calls below = (follows config phone calls below).heard
