-- A packet that goes out is the first of what is owed where no command goes out.
use Rattle.std.proofs.Common.{◌≡◌, ℕ, ◌+◌, ◌<◌, ◌≤◌, Bool, true, false, List, [], ◌∷◌, ◌++◌, length, map, take, drop, Option, Some, None, refl, sym, ap, ◌∙◌, arith, append_assoc}
use Rattle.std.specs.Prelude.{nat_lt, ◌||◌, ◌==◌, if◌then◌else◌}
use Rattle.std.specs.List.{flat_map, list_any}
use Rattle.std.specs.Option.{option_and_then, option_map, option_to_list}
use Rattle.std.proofs.lemmas.Bool.{eq-eqb, eqb-true, ltb-false, ltb-true, or_right, or_left}
use Rattle.std.proofs.lemmas.List.{drop_all, length-drop, length-take, take-append-drop, take-take}
use Rattle.std.proofs.Math.Seq.{drop-append-add}
use Rattle.gatt_host.proofs.commands.SlotCommands.{held_there}
use Rattle.gatt_host.specs.GoingOut.{with_first, first_slot_packet}
use Rattle.gatt_host.specs.Owing.{Handed, slot_state_handed, packets_left, slot_left, IsPartway, all_given}
use Rattle.gatt_laws.specs.machine.Controller.{Slots}
use Rattle.gatt_laws.specs.machine.Event.{Ordinal}
use Rattle.gatt_laws.specs.machine.ConnectionState.{ConnectionState, is_live, is_there}
use Rattle.gatt_laws.specs.machine.SharedState.{SharedState, share_of, fragment_size_of}
use Rattle.gatt_laws.specs.laws.Settled.{has_slot, HaveOneSlotEach}
use Rattle.gatt_laws.specs.machine.State.{State, at_ordinal}
use Rattle.host_connections.specs.Commands.{gives, slot_packet, slot_without_packet}
use Rattle.host_connections.specs.SlotState.{slot_state_of, slot_state_if_there, outgoing_of}
use Rattle.le_acl.proofs.Histories.{follows_history}
use Rattle.le_acl.specs.Fragment.{Fragment}
use Rattle.le_acl.specs.History.{packets_allowed, IsAfterHistory}
use Rattle.le_acl.specs.Outgoing.{Outgoing, outgoing_after, acl_octets, after_next, may_give, next_of, without_pdus}
use Rattle.le_acl.specs.Packets.{packets_of}
use Rattle.octet_io.proofs.Choices.{or_false_left, or_false_right}
use Rattle.octet_io.specs.Number.{Octets}

-- what is left once so many are handed out
drop-taken : {A : Type 0} (xs ys : List A) (n : ℕ) → length xs ≡ n → drop n (xs ++ ys) ≡ ys
drop-taken xs ys n is =
    let e : n ≡ length xs + 0 = omega (arith, is) in
    ap (λ (m : ℕ). drop m (xs ++ ys)) e ∙ drop-append-add xs ys 0

one-left : (packets : List Fragment) (handed given : ℕ) (next : Option Fragment) → handed < given → given ≤ length packets
    → take (handed + 1) packets ≡ take handed packets ++ option_to_list next
    → drop handed (take given packets) ≡ option_to_list next ++ drop (handed + 1) (take given packets)
one-left packets handed given next less most step =
    let rest = drop (handed + 1) (take given packets) in
    let host : take given packets ≡ take handed packets ++ (option_to_list next ++ rest) =
    sym (take-append-drop (handed + 1) (take given packets))
    ∙ ap (λ first. first ++ rest) (take-take (handed + 1) given packets (omega (arith, less)) ∙ step)
    ∙ append_assoc (take handed packets) (option_to_list next) rest in
    ap (drop handed) host ∙ drop-taken (take handed packets) (option_to_list next ++ rest) handed (omega (arith, length-take handed packets, less, most))

none-left : (packets : List Fragment) (handed given : ℕ) → handed ≡ given → drop handed (take given packets) ≡ []
none-left packets handed given is = drop_all handed (take given packets) (omega (arith, is, length-take given packets))

-- one connection
module _ (shared : SharedState) (connection : ConnectionState) where
  abbrev Share : ℕ
  Share = share_of shared.slots shared.buffers

  abbrev Size : ℕ
  Size = fragment_size_of shared.buffers

  abbrev After : ℕ → Outgoing
  After handed = outgoing_after Share Size connection.pdus handed connection.done

  refines : (handed : ℕ) → is_live connection.mark ≡ true → IsPartway shared connection handed
      → IsAfterHistory (After handed) Share Size connection.pdus handed connection.done
  refines handed live way = record {
    stands = refl;
    most = omega (arith, way.serving live, way.most live);
    done_before = way.done;
  }

  kept-live : (handed : ℕ) → is_live connection.mark ≡ true → outgoing_of shared connection handed ≡ After handed
  kept-live handed live = λ i. if live i then After handed else without_pdus (After handed)

  kept-other : (handed : ℕ) → is_live connection.mark ≡ false → outgoing_of shared connection handed ≡ without_pdus (After handed)
  kept-other handed other = λ i. if other i then After handed else without_pdus (After handed)

  gives-live : (handed : ℕ) → is_live connection.mark ≡ true → IsPartway shared connection handed → may_give (outgoing_of shared connection handed)
      ≡ nat_lt handed connection.given
  gives-live handed live way =
      let given = sym (way.serving live) in
      ap may_give (kept-live handed live) ∙ (follows_history Share Size).may (After handed) connection.pdus handed connection.done (refines handed live way)
      ∙ (λ i. nat_lt handed (given i))

  -- it may give none
  pub all-handed : (handed : ℕ) (live : Bool) → is_live connection.mark ≡ live → IsPartway shared connection handed
      → may_give (outgoing_of shared connection handed) ≡ false → handed ≡ connection.given
  all-handed handed false other way none = way.others other
  all-handed handed true live way none =
      let past : nat_lt handed connection.given ≡ false = sym (gives-live handed live way) ∙ none in
      omega (arith, way.most live, ltb-false handed connection.given past)

  -- it may give one
  pub record GivesOne (handed : ℕ) : Type 0 where
    pub octets : Octets
    pub packet : slot_packet (slot_state_of shared connection handed) ≡ Some octets
    pub left : packets_left shared connection handed ≡ octets ∷ packets_left shared connection (handed + 1)
    pub kept : slot_without_packet (slot_state_of shared connection handed) ≡ slot_state_of shared connection (handed + 1)
    pub way : IsPartway shared connection (handed + 1)

  gives-one : (handed : ℕ) → is_live connection.mark ≡ true → IsPartway shared connection handed → (next : Option Fragment) → next_of (After handed).queue
      ≡ next
      → handed < connection.given → connection.given ≤ length (packets_of Size connection.pdus)
      → drop handed (take connection.given (packets_of Size connection.pdus)) ≡ option_to_list next
      ++ drop (handed + 1) (take connection.given (packets_of Size connection.pdus))
      → after_next (After handed) ≡ After (handed + 1) → GivesOne handed
  gives-one handed live way None first less most left after =
      absurd (omega (
        arith,
        less,
        most,
        ap length left,
        length-drop handed (take connection.given (packets_of Size connection.pdus)),
        length-drop (handed + 1) (take connection.given (packets_of Size connection.pdus)),
        length-take connection.given (packets_of Size connection.pdus),
      ))
  gives-one handed live way (Some fragment) first less most left after =
      let kept_now = kept-live handed live in
      let kept_then = sym (kept-live (handed + 1) live) in
      record {
        octets = acl_octets connection.handle fragment;
        packet = (λ i. option_map (acl_octets connection.handle) (next_of (kept_now i).queue)) ∙ ap (option_map (acl_octets connection.handle)) first;
        left = ap (map (acl_octets connection.handle)) left;
        kept = (λ i. record (slot_state_of shared connection handed) { outgoing = after_next (kept_now i) })
            ∙ (λ i. record (slot_state_of shared connection handed) { outgoing = after i })
            ∙ (λ i. record (slot_state_of shared connection handed) { outgoing = kept_then i });
        way = record {
          serving = way.serving;
          most = λ lives. omega (arith, less);
          done = omega (arith, way.done);
          others = λ other. cc (live, other);
        };
      }

  pub gives_one : (handed : ℕ) (live : Bool) → is_live connection.mark ≡ live → IsPartway shared connection handed
      → may_give (outgoing_of shared connection handed) ≡ true → GivesOne handed
  gives_one handed false other way may = absurd (none (sym (ap may_give (kept-other handed other)) ∙ may))
    where
      none : false ≡ true → ⊥
      none e = cc e
  gives_one handed true live way may =
      let less : handed < connection.given = ltb-true handed connection.given (sym (gives-live handed live way) ∙ may) in
      let allowed : handed < packets_allowed Share Size connection.pdus connection.done = omega (arith, less, way.serving live) in
      let steps = (follows_history Share Size).next (After handed) connection.pdus handed connection.done (refines handed live way) allowed in
      let most : connection.given ≤ length (packets_of Size connection.pdus) = omega (arith, way.serving live) in
      gives-one handed live way (next_of (After handed).queue) refl less most
      (one-left (packets_of Size connection.pdus) handed connection.given (next_of (After handed).queue) less most steps.packet) steps.then_stands.stands

-- the slots
module _ (state : State) (handed : Handed) where
  -- of one connection one packet more is handed out
  abbrev pub with_handed : Ordinal → Handed
  with_handed ordinal = at_ordinal ordinal (handed ordinal + 1) handed

  other-handed : (ordinal one : Ordinal) → (one == ordinal) ≡ false → with_handed ordinal one ≡ handed one
  other-handed ordinal one differs = λ i. if differs i then handed ordinal + 1 else handed one

  own-handed : (ordinal : Ordinal) → with_handed ordinal ordinal ≡ handed ordinal + 1
  own-handed ordinal = λ i. if eq-eqb ordinal ordinal refl i then handed ordinal + 1 else handed ordinal

  held-same : (ordinal : Ordinal) (slots : Slots) → has_slot ordinal slots ≡ false → map (slot_state_handed state handed) slots
      ≡ map (slot_state_handed state (with_handed ordinal)) slots
  held-same ordinal [] lacks = refl
  held-same ordinal (None ∷ slots) lacks = ap (λ later. None ∷ later) (held-same ordinal slots lacks)
  held-same ordinal (Some one ∷ slots) lacks =
      let same = sym (other-handed ordinal one (or_false_left (one == ordinal) (has_slot ordinal slots) lacks)) in
      λ i. slot_state_if_there state.shared (state.connections one) (same i)
      ∷ held-same ordinal slots (or_false_right (one == ordinal) (has_slot ordinal slots) lacks) i

  left-same : (ordinal : Ordinal) (slots : Slots) → has_slot ordinal slots ≡ false → flat_map (slot_left state handed) slots
      ≡ flat_map (slot_left state (with_handed ordinal)) slots
  left-same ordinal [] lacks = refl
  left-same ordinal (None ∷ slots) lacks = left-same ordinal slots lacks
  left-same ordinal (Some one ∷ slots) lacks =
      let same = sym (other-handed ordinal one (or_false_left (one == ordinal) (has_slot ordinal slots) lacks)) in
      λ i. packets_left state.shared (state.connections one) (same i)
      ++ left-same ordinal slots (or_false_right (one == ordinal) (has_slot ordinal slots) lacks) i

  pub record NonePacket (slots : Slots) : Type 0 where
    pub any : list_any gives (map (slot_state_handed state handed) slots) ≡ false
    pub none : first_slot_packet (map (slot_state_handed state handed) slots) ≡ None
    pub left : flat_map (slot_left state handed) slots ≡ []
    pub server : map (slot_state_handed state handed) slots ≡ map (slot_state_handed state (all_given state)) slots

  pub record OnePacket (slots : Slots) : Type 0 where
    pub ordinal : Ordinal
    pub octets : Octets
    pub has : has_slot ordinal slots ≡ true
    pub any : list_any gives (map (slot_state_handed state handed) slots) ≡ true
    pub found : first_slot_packet (map (slot_state_handed state handed) slots) ≡ Some octets
    pub left : flat_map (slot_left state handed) slots ≡ octets ∷ flat_map (slot_left state (with_handed ordinal)) slots
    pub server : with_first gives (option_map slot_without_packet) (map (slot_state_handed state handed) slots)
        ≡ map (slot_state_handed state (with_handed ordinal)) slots
    pub way : IsPartway state.shared (state.connections ordinal) (handed ordinal + 1)

  pub data Packeting (slots : Slots) : Type 0 where
    NoPacket : NonePacket slots → Packeting slots
    APacket : OnePacket slots → Packeting slots

  past-free : (slots : Slots) → Packeting slots → Packeting (None ∷ slots)
  past-free slots (NoPacket none) = NoPacket (record { any = none.any; none = none.none; left = none.left; server = ap (λ later. None ∷ later) none.server })
  past-free slots (APacket first) = APacket (record {
    ordinal = first.ordinal;
    octets = first.octets;
    has = first.has;
    any = first.any;
    found = first.found;
    left = first.left;
    server = ap (λ later. None ∷ later) first.server;
    way = first.way;
  })

  here : (one : Ordinal) (slots : Slots) → is_there (state.connections one).mark ≡ true → has_slot one slots ≡ false
      → IsPartway state.shared (state.connections one) (handed one)
      → may_give (outgoing_of state.shared (state.connections one) (handed one)) ≡ true → OnePacket (Some one ∷ slots)
  here one slots there lacks way may =
      let connection : ConnectionState = state.connections one in
      let kept_now = held_there state handed one there in
      let server = slot_state_handed state handed (Some one) in
      let later = map (slot_state_handed state handed) slots in
      let is : gives server ≡ true = ap gives kept_now ∙ may in
      let gave : GivesOne state.shared connection (handed one) = gives_one state.shared connection (handed one) (is_live connection.mark) refl way may in
      let own = sym (own-handed one) in
      let found : first_slot_packet (server ∷ later) ≡ option_and_then slot_packet server =
      λ i. if is i then option_and_then slot_packet server else first_slot_packet later in
      let first : with_first gives (option_map slot_without_packet) (server ∷ later) ≡ option_map slot_without_packet server ∷ later =
      λ i. if is i then option_map slot_without_packet server ∷ later else server ∷ with_first gives (option_map slot_without_packet) later in
      let same_left = left-same one slots lacks in
      let same_held = held-same one slots lacks in
      let kept_next : slot_state_if_there state.shared connection (handed one + 1) ≡ Some (slot_state_of state.shared connection (handed one + 1)) =
      λ i. if there i then Some (slot_state_of state.shared connection (handed one + 1)) else None in
      let kept_then : option_map slot_without_packet server ≡ slot_state_if_there state.shared connection (with_handed one one) =
      ap (option_map slot_without_packet) kept_now ∙ ap Some gave.kept ∙ sym kept_next ∙ ap (slot_state_if_there state.shared connection) own in
      let left_then : flat_map (slot_left state handed) (Some one ∷ slots)
      ≡ gave.octets ∷ (packets_left state.shared connection (handed one + 1) ++ flat_map (slot_left state (with_handed one)) slots) =
      λ i. gave.left i ++ same_left i in
      record {
        ordinal = one;
        octets = gave.octets;
        has = or_left (one == one) (has_slot one slots) (eq-eqb one one refl);
        any = or_left (gives server) (list_any gives later) is;
        found = found ∙ ap (option_and_then slot_packet) kept_now ∙ gave.packet;
        left = left_then ∙ (λ i. gave.octets ∷ (packets_left state.shared connection (own i) ++ flat_map (slot_left state (with_handed one)) slots));
        server = first ∙ (λ i. kept_then i ∷ same_held i);
        way = gave.way;
      }

  differs-where : (one ordinal : Ordinal) (slots : Slots) → has_slot one slots ≡ false → has_slot ordinal slots ≡ true → (one == ordinal) ≡ false
  differs-where one ordinal slots lacks has =
      elim (one == ordinal) as (λ (is : Bool). (one == ordinal) ≡ is → is ≡ false) [
        | true ↦ λ same. sym has ∙ sym (ap (λ (at : Ordinal). has_slot at slots) (eqb-true one ordinal same)) ∙ lacks
        | false ↦ λ differs. refl
      ] refl

  past-one : (one : Ordinal) (slots : Slots) → is_there (state.connections one).mark ≡ true → has_slot one slots ≡ false
      → IsPartway state.shared (state.connections one) (handed one)
      → may_give (outgoing_of state.shared (state.connections one) (handed one)) ≡ false → Packeting slots → Packeting (Some one ∷ slots)
  past-one one slots there lacks way may (NoPacket none) =
      let connection : ConnectionState = state.connections one in
      let is : gives (slot_state_handed state handed (Some one)) ≡ false = ap gives (held_there state handed one there) ∙ may in
      let all : handed one ≡ connection.given = all-handed state.shared connection (handed one) (is_live connection.mark) refl way may in
      let empty : packets_left state.shared connection (handed one) ≡ [] =
      ap (map (acl_octets connection.handle)) (none-left (packets_of (fragment_size_of state.shared.buffers) connection.pdus) (handed one) connection.given all)
      in
      NoPacket (record {
        any = λ i. is i || none.any i;
        none = (λ i. if is i then option_and_then slot_packet (slot_state_handed state handed (Some one))
            else first_slot_packet (map (slot_state_handed state handed) slots)) ∙ none.none;
        left = λ i. empty i ++ none.left i;
        server = λ i. slot_state_if_there state.shared connection (all i) ∷ none.server i;
      })
  past-one one slots there lacks way may (APacket first) =
      let connection : ConnectionState = state.connections one in
      let server = slot_state_handed state handed (Some one) in
      let later = map (slot_state_handed state handed) slots in
      let is : gives server ≡ false = ap gives (held_there state handed one there) ∙ may in
      let all : handed one ≡ connection.given = all-handed state.shared connection (handed one) (is_live connection.mark) refl way may in
      let empty : packets_left state.shared connection (handed one) ≡ [] =
      ap (map (acl_octets connection.handle)) (none-left (packets_of (fragment_size_of state.shared.buffers) connection.pdus) (handed one) connection.given all)
      in
      let same = sym (other-handed first.ordinal one (differs-where one first.ordinal slots lacks first.has)) in
      let empty_then = sym (sym (ap (packets_left state.shared connection) same) ∙ empty) in
      let before : flat_map (slot_left state handed) (Some one ∷ slots) ≡ first.octets ∷ flat_map (slot_left state (with_handed first.ordinal)) slots =
      λ i. empty i ++ first.left i in
      let past : with_first gives (option_map slot_without_packet) (server ∷ later) ≡ server ∷ with_first gives (option_map slot_without_packet) later =
      λ i. if is i then option_map slot_without_packet server ∷ later else server ∷ with_first gives (option_map slot_without_packet) later in
      APacket (record {
        ordinal = first.ordinal;
        octets = first.octets;
        has = or_right (one == first.ordinal) (has_slot first.ordinal slots) first.has;
        any = or_right (gives server) (list_any gives later) first.any;
        found = (λ i. if is i then option_and_then slot_packet server else first_slot_packet later) ∙ first.found;
        left = before ∙ (λ i. first.octets ∷ (empty_then i ++ flat_map (slot_left state (with_handed first.ordinal)) slots));
        server = past ∙ (λ i. slot_state_if_there state.shared connection (same i) ∷ first.server i);
        way = first.way;
      })

  pub search_packets : (next : Ordinal) (slots : Slots) → HaveOneSlotEach next slots
      → ((ordinal : Ordinal) → has_slot ordinal slots ≡ true → is_there (state.connections ordinal).mark ≡ true)
      → ((ordinal : Ordinal) → has_slot ordinal slots ≡ true → IsPartway state.shared (state.connections ordinal) (handed ordinal)) → Packeting slots
  search_packets next [] each there ways = NoPacket (record { any = refl; none = refl; left = refl; server = refl })
  search_packets next (None ∷ slots) each there ways = past-free slots (search_packets next slots each there ways)
  search_packets next (Some one ∷ slots) each there ways =
      let has : has_slot one (Some one ∷ slots) ≡ true = or_left (one == one) (has_slot one slots) (eq-eqb one one refl) in
      let later = search_packets next slots each.2 (λ other is. there other (or_right (one == other) (has_slot other slots) is))
      (λ other is. ways other (or_right (one == other) (has_slot other slots) is)) in
      elim (may_give (outgoing_of state.shared (state.connections one) (handed one))) as
      (λ (may : Bool). may_give (outgoing_of state.shared (state.connections one) (handed one)) ≡ may → Packeting (Some one ∷ slots)) [
        | true ↦ λ may. APacket (here one slots (there one has) each.1 (ways one has) may)
        | false ↦ λ may. past-one one slots (there one has) each.1 (ways one has) may later
      ] refl
