-- What a sender holds follows from its history.
use Rattle.std.proofs.Common.{◌≡◌, ◌≢◌, ℕ, ◌+◌, ◌-◌, ◌<◌, ◌≤◌, min, List, [], ◌∷◌, ◌++◌, length, take, drop, map, refl, sym, ◌∙◌, ap, arith, append_assoc, inl, inr}
use Rattle.std.specs.Prelude.{nat_lt}
use Rattle.std.specs.Option.{option_to_list}
use Rattle.std.proofs.lemmas.Bool.{lt-ltb, le-ltb, eq-eqb, ne_eqb, cases_lt}
use Rattle.std.proofs.lemmas.Grind.{flat_map-append}
use Rattle.std.proofs.lemmas.List.{length-append, length-drop, length-take, take_at, take-append-drop, drop_all, drop-append-le, map-append}
use Rattle.std.proofs.Math.Seq.{drop-append-add}
use Rattle.le_acl.specs.Fragment.{Fragment}
use Rattle.le_acl.specs.Packets.{Pdu, fragments_of, all_packets, packets_of, total, rest}
use Rattle.le_acl.specs.Outgoing.{Outgoing, outgoing_after, with_pdu, next_of, without_next, may_give, after_next, with_completed}
use Rattle.le_acl.specs.History.{packets_allowed, IsAfterHistory, StepsTo, FollowsHistory}
use Rattle.le_acl.proofs.Shares.{EachSome, fragments-some, one-next, all-without, rest-next, rest-push}

drop_past : (n : ℕ) (xs ys : List Fragment) → length xs ≤ n → drop n (xs ++ ys) ≡ drop (n - length xs) ys
drop_past n xs ys h =
    let e : n ≡ length xs + (n - length xs) = omega arith in
    ap (λ (m : ℕ). drop m (xs ++ ys)) e ∙ drop-append-add xs ys (n - length xs)

joined-rest : (given : ℕ) (queued : List (List Fragment)) → all_packets (rest given queued) ≡ drop given (all_packets queued)
joined-rest given [] = let none : List Fragment = [] in sym (drop_all given none (omega arith))
joined-rest given (packets ∷ pdus) = elim (cases_lt given (length packets)) [
  | inl part ↦ rw (lt-ltb given (length packets) part) (sym (drop-append-le given packets (all_packets pdus) (omega arith)))
  | inr past ↦ rw (le-ltb given (length packets) past)
      (joined-rest (given - length packets) pdus ∙ sym (drop_past given packets (all_packets pdus) past))
]

each-rest : (given : ℕ) (queued : List (List Fragment)) → EachSome queued → EachSome (rest given queued)
each-rest given [] each = tt
each-rest given (packets ∷ pdus) each = elim (cases_lt given (length packets)) [
  | inl part ↦ rw (lt-ltb given (length packets) part) (omega (arith, length-drop given packets), each.1)
  | inr past ↦ rw (le-ltb given (length packets) past) (each-rest (given - length packets) pdus each.1)
]

each-pdu : (size : ℕ) (pdus : List Pdu) → EachSome (map (fragments_of size) pdus)
each-pdu size [] = tt
each-pdu size (pdu ∷ pdus) = (fragments-some size pdu, each-pdu size pdus)

-- packets that are left are those of a PDU that is left
some-left : (queue : List (List Fragment)) → 0 < length (all_packets queue) → length queue ≢ 0
some-left [] some = absurd (omega arith)
some-left (packets ∷ queue) some = λ none. absurd (omega arith)

none-left : (queue : List (List Fragment)) → EachSome queue → length (all_packets queue) ≡ 0 → length queue ≡ 0
none-left [] each none = refl
none-left (packets ∷ queue) each none = absurd (omega (arith, each.0, length-append packets (all_packets queue)))

module _ (share size : ℕ) where
  queue_after : List Pdu → ℕ → List (List Fragment)
  queue_after pdus given = rest given (map (fragments_of size) pdus)

  left-after : (pdus : List Pdu) (given : ℕ) → length (all_packets (queue_after pdus given)) ≡ total size pdus - given
  unfolding queue_after
  left-after pdus given =
      omega (arith, ap length (joined-rest given (map (fragments_of size) pdus)), length-drop given (packets_of size pdus))

  more-total : (pdus : List Pdu) (pdu : Pdu) → total size pdus ≤ total size (pdus ++ pdu ∷ [])
  more-total pdus pdu =
      omega (
        arith,
        ap (λ (queued : List (List Fragment)). length (all_packets queued)) (map-append (fragments_of size) pdus (pdu ∷ [])),
        ap length (flat_map-append (λ (packets : List Fragment). packets) (map (fragments_of size) pdus) (fragments_of size pdu ∷ [])),
        length-append (packets_of size pdus) (all_packets (fragments_of size pdu ∷ [])),
      )

  stands-pdu : (outgoing : Outgoing) (pdus : List Pdu) (given done : ℕ) (pdu : Pdu) → IsAfterHistory outgoing share size pdus given done
      → IsAfterHistory (with_pdu outgoing pdu) share size (pdus ++ pdu ∷ []) given done
  stands-pdu outgoing pdus given done pdu at =
      let left : rest given (map (fragments_of size) (pdus ++ pdu ∷ [])) ≡ rest given (map (fragments_of size) pdus) ++ fragments_of size pdu ∷ [] =
      ap (rest given) (map-append (fragments_of size) pdus (pdu ∷ []))
      ∙ rest-push given (map (fragments_of size) pdus) (fragments_of size pdu) (omega (arith, at.most)) (fragments-some size pdu) in
      let after : List (List Fragment) → Outgoing = λ queue. record { queue = queue; outstanding = given - done; share = share; size = size } in
      record {
        stands = ap (λ (old : Outgoing). with_pdu old pdu) at.stands ∙ ap after (sym left);
        most = omega (arith, at.most, more-total pdus pdu);
        done_before = at.done_before;
      }

  may-at : (pdus : List Pdu) (given done : ℕ) → given ≤ packets_allowed share size pdus done → done ≤ given
      → may_give (outgoing_after share size pdus given done) ≡ nat_lt given (packets_allowed share size pdus done)
  unfolding queue_after
  may-at pdus given done most before = elim (cases_lt given (total size pdus)) [
    | inl some ↦
        let left : length (queue_after pdus given) ≢ 0 = some-left (queue_after pdus given) (omega (arith, left-after pdus given)) in
        rw (ne_eqb (length (queue_after pdus given)) 0 left) (elim (cases_lt (given - done) share) [
          | inl below ↦ lt-ltb (given - done) share below ∙ sym (lt-ltb given (packets_allowed share size pdus done) (omega arith))
          | inr all ↦ le-ltb (given - done) share all ∙ sym (le-ltb given (packets_allowed share size pdus done) (omega arith))
        ])
    | inr all ↦
        let none : length (queue_after pdus given) ≡ 0 =
        none-left (queue_after pdus given) (each-rest given (map (fragments_of size) pdus) (each-pdu size pdus)) (omega (arith, left-after pdus given)) in
        rw (eq-eqb (length (queue_after pdus given)) 0 none) (sym (le-ltb given (packets_allowed share size pdus done) (omega arith)))
  ]

  stands-may : (outgoing : Outgoing) (pdus : List Pdu) (given done : ℕ) → IsAfterHistory outgoing share size pdus given done
      → may_give outgoing ≡ nat_lt given (packets_allowed share size pdus done)
  stands-may outgoing pdus given done at = ap may_give at.stands ∙ may-at pdus given done at.most at.done_before

  stands-next : (outgoing : Outgoing) (pdus : List Pdu) (given done : ℕ) → IsAfterHistory outgoing share size pdus given done
      → given < packets_allowed share size pdus done → StepsTo outgoing share size pdus given done
  unfolding queue_after
  stands-next outgoing pdus given done at more =
      let queue : List (List Fragment) = queue_after pdus given in
      let packets : List Fragment = packets_of size pdus in
      let each : EachSome queue = each-rest given (map (fragments_of size) pdus) (each-pdu size pdus) in
      let some : length queue ≢ 0 = some-left queue (omega (arith, left-after pdus given, more)) in
      let one = one-next queue each some in
      let first : List Fragment = take given packets ++ option_to_list (next_of queue) in
      let whole : packets ≡ first ++ all_packets (without_next queue) =
      sym (take-append-drop given packets)
      ∙ ap (λ (left : List Fragment). take given packets ++ left) (sym (joined-rest given (map (fragments_of size) pdus)) ∙ all-without queue)
      ∙ sym (append_assoc (take given packets) (option_to_list (next_of queue)) (all_packets (without_next queue))) in
      let so_many : length first ≡ given + 1 =
      omega (arith, one, length-append (take given packets) (option_to_list (next_of queue)), length-take given packets, more) in
      let count : given - done + 1 ≡ given + 1 - done = omega (arith, at.done_before) in
      let after : List (List Fragment) → ℕ → Outgoing = λ queue outstanding. record { queue = queue; outstanding = outstanding; share = share; size = size } in
      record {
        packet = ap (take (given + 1)) whole ∙ take_at first (all_packets (without_next queue)) (given + 1) so_many
            ∙ ap (λ (old : Outgoing). take given packets ++ option_to_list (next_of old.queue)) (sym at.stands);
        then_stands = record {
          stands = ap after_next at.stands
              ∙ ap (λ (left : List (List Fragment)). after left (given - done + 1)) (rest-next given (map (fragments_of size) pdus) each some)
              ∙ ap (after (rest (given + 1) (map (fragments_of size) pdus))) count;
          most = omega (arith, more);
          done_before = omega (arith, at.done_before);
        };
      }

  stands-completed : (outgoing : Outgoing) (pdus : List Pdu) (given done count : ℕ) → IsAfterHistory outgoing share size pdus given done
      → IsAfterHistory (with_completed outgoing count) share size pdus given (done + min count (given - done))
  stands-completed outgoing pdus given done count at =
      let left : given - done - count ≡ given - (done + min count (given - done)) = omega arith in
      let after : ℕ → Outgoing =
      λ outstanding. record { queue = rest given (map (fragments_of size) pdus); outstanding = outstanding; share = share; size = size } in
      record {
        stands = ap (λ (old : Outgoing). with_completed old count) at.stands ∙ ap after left;
        most = omega (arith, at.most);
        done_before = omega (arith, at.done_before);
      }

  pub follows_history : FollowsHistory share size
  follows_history = record {
    anew = record { stands = refl; most = omega arith; done_before = omega arith };
    queued = stands-pdu;
    may = stands-may;
    next = stands-next;
    completed = stands-completed;
  }
