-- What is given is a share of what is queued.
use Rattle.std.proofs.Common.{◌≡◌, ◌≢◌, ℕ, ◌+◌, ◌-◌, ◌<◌, ◌≤◌, List, [], ◌∷◌, ◌++◌, length, take, drop, Bool, true, false, refl, sym, ◌∙◌, ap, subst, arith, append_assoc, inl, inr}
use Rattle.std.specs.Prelude.{cond, not, ◌&&◌, ◌==◌, nat_lt}
use Rattle.std.specs.Option.{option_to_list}
use Rattle.std.proofs.lemmas.Bool.{ltb-true, ltb-false, lt-ltb, le-ltb, eqb-false, ne_eqb, cases_eq, cases_lt, and_parts, not-true}
use Rattle.std.proofs.lemmas.Grind.{flat_map-append}
use Rattle.std.proofs.lemmas.List.{append-nil, length-append, length-drop, take_at, take_all, drop-drop}
use Rattle.le_acl.specs.Fragment.{Fragment}
use Rattle.le_acl.specs.Packets.{Pdu, pieces, fragments_of, all_packets, rest}
use Rattle.le_acl.specs.Outgoing.{Outgoing, none_queued, next_of, without_next, may_give, after_next}
use Rattle.le_acl.specs.Acts.{SenderAct, Push, Next, Completed, Flush, Reset, after_sender_acts, fragments_given, queued_in, done_in, GivesWithinQuota, AlwaysGivesWithinShare}

-- each PDU that is queued has a packet not yet given
abbrev pub EachSome : List (List Fragment) → Type 0
EachSome [] = Unit {0}
EachSome (packets ∷ pdus) = (0 < length packets) × EachSome pdus

each-append : (pdus : List (List Fragment)) (packets : List Fragment) → EachSome pdus → 0 < length packets → EachSome (pdus ++ packets ∷ [])
each-append [] packets each some = (some, tt)
each-append (first ∷ pdus) packets each some = (each.0, each-append pdus packets each.1 some)

each-without : (pdus : List (List Fragment)) → EachSome pdus → EachSome (without_next pdus)
each-without [] each = tt
each-without ([] ∷ pdus) each = each.1
each-without ((packet ∷ []) ∷ pdus) each = each.1
each-without ((packet ∷ second ∷ packets) ∷ pdus) each = (omega arith, each.1)

pub fragments-some : (size : ℕ) (pdu : Pdu) → 0 < length (fragments_of size pdu)
unfolding pieces
fragments-some size pdu = omega arith

-- the queue is its first packet and then the others
pub all-without : (pdus : List (List Fragment)) → all_packets pdus ≡ option_to_list (next_of pdus) ++ all_packets (without_next pdus)
all-without [] = refl
all-without ([] ∷ pdus) = refl
all-without ((packet ∷ []) ∷ pdus) = refl
all-without ((packet ∷ second ∷ packets) ∷ pdus) = refl

pub one-next : (pdus : List (List Fragment)) → EachSome pdus → length pdus ≢ 0 → length (option_to_list (next_of pdus)) ≡ 1
one-next [] each some = absurd (some refl)
one-next ([] ∷ pdus) each some = absurd (omega (arith, each.0))
one-next ((packet ∷ packets) ∷ pdus) each some = refl

-- what is left, with one packet more given
rest-none : (pdus : List (List Fragment)) → EachSome pdus → rest 0 pdus ≡ pdus
rest-none [] each = refl
rest-none (packets ∷ pdus) each = rw (lt-ltb 0 (length packets) each.0) refl

without-drop : (given : ℕ) (packets : List Fragment) (pdus : List (List Fragment)) → given + 1 < length packets
    → without_next (drop given packets ∷ pdus) ≡ drop (given + 1) packets ∷ pdus
without-drop given packets pdus more =
    two (drop given packets) (omega (arith, length-drop given packets))
    ∙ ap (λ (left : List Fragment). left ∷ pdus) (drop-drop 1 given packets)
  where
    two : (left : List Fragment) → 1 < length left → without_next (left ∷ pdus) ≡ drop 1 left ∷ pdus
    two [] h = absurd (omega arith)
    two (packet ∷ []) h = absurd (omega arith)
    two (packet ∷ second ∷ packets) h = refl

without-last : (left : List Fragment) (pdus : List (List Fragment)) → length left ≡ 1 → without_next (left ∷ pdus) ≡ pdus
without-last [] pdus h = refl
without-last (packet ∷ []) pdus h = refl
without-last (packet ∷ second ∷ packets) pdus h = absurd (omega arith)

pub rest-next : (given : ℕ) (queued : List (List Fragment)) → EachSome (rest given queued) → length (rest given queued) ≢ 0
    → without_next (rest given queued) ≡ rest (given + 1) queued
rest-next given [] each some = refl
rest-next given (packets ∷ pdus) each some = elim (cases_lt given (length packets)) [
  | inl within ↦
      let first : rest given (packets ∷ pdus) ≡ drop given packets ∷ pdus = rw (lt-ltb given (length packets) within) refl in
      let later : EachSome pdus = (subst EachSome first each).1 in
      elim (cases_lt (given + 1) (length packets)) [
        | inl more ↦
            ap without_next first ∙ without-drop given packets pdus more
            ∙ sym (let e : rest (given + 1) (packets ∷ pdus) ≡ drop (given + 1) packets ∷ pdus = rw (lt-ltb (given + 1) (length packets) more) refl in e)
        | inr last ↦
            let none : given + 1 - length packets ≡ 0 = omega arith in
            let next : rest (given + 1) (packets ∷ pdus) ≡ rest (given + 1 - length packets) pdus = rw (le-ltb (given + 1) (length packets) last) refl in
            ap without_next first ∙ without-last (drop given packets) pdus (omega (arith, length-drop given packets))
            ∙ sym (next ∙ ap (λ (n : ℕ). rest n pdus) none ∙ rest-none pdus later)
      ]
  | inr past ↦
      let over : rest given (packets ∷ pdus) ≡ rest (given - length packets) pdus = rw (le-ltb given (length packets) past) refl in
      let over_next : rest (given + 1) (packets ∷ pdus) ≡ rest (given + 1 - length packets) pdus =
      rw (le-ltb (given + 1) (length packets) (omega arith)) refl in
      let same : given - length packets + 1 ≡ given + 1 - length packets = omega arith in
      ap without_next over
      ∙ rest-next (given - length packets) pdus (subst EachSome over each) (subst (λ (left : List (List Fragment)). length left ≢ 0) over some)
      ∙ ap (λ (n : ℕ). rest n pdus) same ∙ sym over_next
]

-- what is left, with one PDU more behind those of which all may be given
pub rest-push : (given : ℕ) (queued : List (List Fragment)) (packets : List Fragment) → given ≤ length (all_packets queued) → 0 < length packets
    → rest given (queued ++ packets ∷ []) ≡ rest given queued ++ packets ∷ []
rest-push given [] packets within some =
    let none : 0 ≡ given = omega arith in
    let P : ℕ → Type 0 = λ n. rest n (packets ∷ []) ≡ packets ∷ [] in
    subst P none (rest-none (packets ∷ []) (some, tt))
rest-push given (first ∷ queued) packets within some = elim (cases_lt given (length first)) [
  | inl part ↦ rw (lt-ltb given (length first) part) refl
  | inr past ↦
      rw (le-ltb given (length first) past)
      (rest-push (given - length first) queued packets (omega (arith, length-append first (all_packets queued))) some)
]

rest-all : (given : List Fragment) → rest (length given) (given ∷ []) ≡ []
rest-all given = rw (le-ltb (length given) (length given) (omega arith)) refl

may-parts : (old : Outgoing) → may_give old ≡ true → (length old.queue ≢ 0) × (old.outstanding < old.share)
may-parts old is =
    let parts = and_parts (not (length old.queue == 0)) (nat_lt old.outstanding old.share) is in
    (eqb-false (length old.queue) 0 (not-true (length old.queue == 0) parts.0), ltb-true old.outstanding old.share parts.1)

-- what is queued, given and done, and the sender
record Keeps (queued : List (List Fragment)) (given : List Fragment) (done : ℕ) (now : Outgoing) : Type 0 where
  order : all_packets queued ≡ given ++ all_packets now.queue
  left : now.queue ≡ rest (length given) queued
  count : now.outstanding + done ≡ length given
  within : now.outstanding ≤ now.share
  each : EachSome now.queue

keeps-next : (queued : List (List Fragment)) (given : List Fragment) (done : ℕ) (old : Outgoing) (may : Bool) → may_give old ≡ may
    → Keeps queued given done old
    → Keeps queued (given ++ cond may (option_to_list (next_of old.queue)) []) done (cond may (after_next old) old)
keeps-next queued given done old true is kept =
    let parts = may-parts old is in
    let one = one-next old.queue kept.each parts.0 in
    let some : length (rest (length given) queued) ≢ 0 = subst (λ (queue : List (List Fragment)). length queue ≢ 0) kept.left parts.0 in
    let more : length given + 1 ≡ length (given ++ option_to_list (next_of old.queue)) =
    omega (arith, one, length-append given (option_to_list (next_of old.queue))) in
    record {
      order = kept.order ∙ ap (λ (packets : List Fragment). given ++ packets) (all-without old.queue)
          ∙ sym (append_assoc given (option_to_list (next_of old.queue)) (all_packets (without_next old.queue)));
      left = ap without_next kept.left ∙ rest-next (length given) queued (subst EachSome kept.left kept.each) some
          ∙ ap (λ (n : ℕ). rest n queued) more;
      count = omega (arith, kept.count, more);
      within = omega (arith, parts.1);
      each = each-without old.queue kept.each;
    }
keeps-next queued given done old false is kept = record {
  order = kept.order ∙ ap (λ (packets : List Fragment). packets ++ all_packets old.queue) (sym (append-nil given));
  left = kept.left ∙ ap (λ (packets : List Fragment). rest (length packets) queued) (sym (append-nil given));
  count = omega (arith, kept.count, length-append given []);
  within = kept.within;
  each = kept.each;
}

module _ (share size : ℕ) where
  start : Outgoing
  start = none_queued share size

  keeps : (acts : List SenderAct) → Keeps (queued_in start acts) (fragments_given start acts) (done_in start acts) (after_sender_acts start acts)
  unfolding start
  keeps [] = record { order = refl; left = refl; count = refl; within = omega arith; each = tt }
  keeps (Push pdu ∷ earlier) =
      let kept = keeps earlier in
      let old = after_sender_acts start earlier in
      let queued = queued_in start earlier in
      let given = fragments_given start earlier in
      let packets = fragments_of old.size pdu in
      let some : 0 < length packets = fragments-some old.size pdu in
      record {
        order = flat_map-append (λ (xs : List Fragment). xs) queued (packets ∷ [])
            ∙ ap (λ (xs : List Fragment). xs ++ all_packets (packets ∷ [])) kept.order
            ∙ append_assoc given (all_packets old.queue) (all_packets (packets ∷ []))
            ∙ ap (λ (xs : List Fragment). given ++ xs) (sym (flat_map-append (λ (xs : List Fragment). xs) old.queue (packets ∷ [])));
        left = ap (λ (queue : List (List Fragment)). queue ++ packets ∷ []) kept.left
            ∙ sym (rest-push (length given) queued packets (omega (arith, ap length kept.order, length-append given (all_packets old.queue))) some);
        count = kept.count;
        within = kept.within;
        each = each-append old.queue packets kept.each some;
      }
  keeps (Next ∷ earlier) =
      keeps-next (queued_in start earlier) (fragments_given start earlier) (done_in start earlier) (after_sender_acts start earlier)
      (may_give (after_sender_acts start earlier)) refl (keeps earlier)
  keeps (Completed count ∷ earlier) =
      let kept = keeps earlier in
      record { order = kept.order; left = kept.left; count = omega (arith, kept.count); within = omega (arith, kept.within); each = kept.each }
  keeps (Flush ∷ earlier) =
      let kept = keeps earlier in
      record { order = refl; left = sym (rest-all (fragments_given start earlier)); count = kept.count; within = kept.within; each = tt }
  keeps (Reset other_share other_size ∷ earlier) = record { order = refl; left = refl; count = refl; within = omega arith; each = tt }

-- once no more may be given, none is left or the share is outstanding
stopped : (now : Outgoing) → may_give now ≡ false → length now.queue ≢ 0 → now.share ≤ now.outstanding
stopped now is queued =
    ltb-false now.outstanding now.share (second (length now.queue == 0) (nat_lt now.outstanding now.share) is (ne_eqb (length now.queue) 0 queued))
  where
    second : (a b : Bool) → (not a && b) ≡ false → a ≡ false → b ≡ false
    second true b is other = cc
    second false b is other = is

none-left : (queue : List (List Fragment)) → length queue ≡ 0 → all_packets queue ≡ []
none-left [] none = refl
none-left (first ∷ queue) none = absurd (omega arith)

gives : (queued : List (List Fragment)) (given : List Fragment) (done : ℕ) (now : Outgoing) → Keeps queued given done now
    → GivesWithinQuota queued given done now
gives queued given done now kept =
    let first : given ≡ take (length given) (all_packets queued) =
    sym (ap (take (length given)) kept.order ∙ take_at given (all_packets now.queue) (length given) refl) in
    record {
      first = first;
      within = omega (arith, kept.count, kept.within);
      all = λ is. elim (cases_eq (length now.queue) 0) [
        | inl none ↦
            let whole : all_packets queued ≡ given = kept.order ∙ ap (λ (left : List Fragment). given ++ left) (none-left now.queue none) ∙ append-nil given in
            sym (ap (take (now.share + done)) whole ∙ take_all (now.share + done) given (omega (arith, kept.count, kept.within)))
        | inr queued_more ↦
            let most : length given ≡ now.share + done = omega (arith, kept.count, kept.within, stopped now is queued_more) in
            first ∙ ap (λ (n : ℕ). take n (all_packets queued)) most
      ];
      left = kept.left;
      outstanding = omega (arith, kept.count);
    }

-- whatever is done with a sender, what it gives is a share of what is queued
pub always_gives_a_share : (share size : ℕ) → AlwaysGivesWithinShare share size
unfolding start
always_gives_a_share share size acts = gives _ _ _ _ (keeps share size acts)
