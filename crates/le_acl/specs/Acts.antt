-- The packets that a sender sends (this profile's own, by Core 5.0, Vol 2 Part E, 4.1.1).
use Rattle.std.specs.Prelude.{◌≡◌, ℕ, ◌+◌, ◌-◌, ◌≤◌, min, false, if◌then◌else◌, List, [], ◌∷◌, ◌++◌, length, take}
use Rattle.std.specs.Option.{option_to_list}
use Rattle.le_acl.specs.Fragment.{Fragment}
use Rattle.le_acl.specs.Packets.{Pdu, fragments_of, all_packets, rest}
use Rattle.le_acl.specs.Outgoing.{Outgoing, none_queued, with_pdu, next_of, may_give, after_next, with_completed, without_pdus}

pub data SenderAct : Type 0 where
  Push : (pdu : Pdu) → SenderAct
  Next : SenderAct
  Completed : (count : ℕ) → SenderAct
  Flush : SenderAct
  Reset : (share size : ℕ) → SenderAct

abbrev pub sender_after_act : Outgoing → SenderAct → Outgoing
sender_after_act old (Push pdu) = with_pdu old pdu
sender_after_act old Next = if may_give old then after_next old else old
sender_after_act old (Completed count) = with_completed old count
sender_after_act old Flush = without_pdus old
sender_after_act old (Reset share size) = none_queued share size

-- The state after calls, of which the newest is first.
abbrev pub after_sender_acts : Outgoing → List SenderAct → Outgoing
after_sender_acts start [] = start
after_sender_acts start (act ∷ earlier) = sender_after_act (after_sender_acts start earlier) act

-- The packets sent since the newest reset.
abbrev pub fragments_given : Outgoing → List SenderAct → List Fragment
fragments_given start [] = []
fragments_given start (Push pdu ∷ earlier) = fragments_given start earlier
fragments_given start (Next ∷ earlier) =
    fragments_given start earlier
    ++ (if may_give (after_sender_acts start earlier)
    then option_to_list (next_of (after_sender_acts start earlier).queue) else [])
fragments_given start (Completed count ∷ earlier) = fragments_given start earlier
fragments_given start (Flush ∷ earlier) = fragments_given start earlier
fragments_given start (Reset share size ∷ earlier) = []

-- The packets of the queued PDUs; a flush retains those sent.
abbrev pub queued_in : Outgoing → List SenderAct → List (List Fragment)
queued_in start [] = []
queued_in start (Push pdu ∷ earlier) =
    queued_in start earlier ++ fragments_of (after_sender_acts start earlier).size pdu ∷ []
queued_in start (Next ∷ earlier) = queued_in start earlier
queued_in start (Completed count ∷ earlier) = queued_in start earlier
queued_in start (Flush ∷ earlier) = fragments_given start earlier ∷ []
queued_in start (Reset share size ∷ earlier) = []

-- The number of completed packets; each count is limited to the outstanding packets.
abbrev pub done_in : Outgoing → List SenderAct → ℕ
done_in start [] = 0
done_in start (Push pdu ∷ earlier) = done_in start earlier
done_in start (Next ∷ earlier) = done_in start earlier
done_in start (Completed count ∷ earlier) =
    done_in start earlier
    + min count (length (fragments_given start earlier) - done_in start earlier)
done_in start (Flush ∷ earlier) = done_in start earlier
done_in start (Reset share size ∷ earlier) = 0

-- The packets sent are a prefix of those queued, at most a share beyond those completed, and that
-- many once no packet may be sent.
pub record GivesWithinQuota (queued : List (List Fragment)) (given : List Fragment) (done : ℕ)
    (now : Outgoing) : Type 0 where
  pub first : given ≡ take (length given) (all_packets queued)
  pub within : length given ≤ now.share + done
  pub all : may_give now ≡ false → given ≡ take (now.share + done) (all_packets queued)
  pub left : now.queue ≡ rest (length given) queued
  pub outstanding : now.outstanding ≡ length given - done

-- A sender keeps to its share, whatever the calls.
abbrev pub AlwaysGivesWithinShare : ℕ → ℕ → Type 0
AlwaysGivesWithinShare share size = (acts : List SenderAct) →
    let start = none_queued share size in
    GivesWithinQuota (queued_in start acts) (fragments_given start acts) (done_in start acts)
    (after_sender_acts start acts)
