-- The state of a sender, by the PDUs queued and the packets sent and completed.
use Rattle.std.specs.Prelude.{◌≡◌, ℕ, ◌+◌, ◌-◌, ◌<◌, ◌≤◌, nat_lt, min, List, [], ◌∷◌, ◌++◌, take}
use Rattle.std.specs.Option.{option_to_list}
use Rattle.le_acl.specs.Packets.{Pdu, packets_of, total}
use Rattle.le_acl.specs.Outgoing.{Outgoing, outgoing_after, none_queued, with_pdu, next_of, may_give, after_next, with_completed}

-- The number of packets that may be sent: a share beyond those completed. (P-WIRE-6)
abbrev pub packets_allowed : ℕ → ℕ → List Pdu → ℕ → ℕ
packets_allowed share size pdus done = min (total size pdus) (share + done)

pub record IsAfterHistory (outgoing : Outgoing) (share size : ℕ) (pdus : List Pdu)
    (given done : ℕ) : Type 0 where
  pub stands : outgoing ≡ outgoing_after share size pdus given done
  pub most : given ≤ packets_allowed share size pdus done
  pub done_before : done ≤ given

pub record StepsTo (outgoing : Outgoing) (share size : ℕ) (pdus : List Pdu)
    (given done : ℕ) : Type 0 where
  pub packet : take (given + 1) (packets_of size pdus) ≡ take given (packets_of size pdus)
      ++ option_to_list (next_of outgoing.queue)
  pub then_stands : IsAfterHistory (after_next outgoing) share size pdus (given + 1) done

-- Each call preserves `IsAfterHistory`, and packets are sent up to the limit.
pub record FollowsHistory (share size : ℕ) : Type 0 where
  pub anew : IsAfterHistory (none_queued share size) share size [] 0 0
  pub queued : (outgoing : Outgoing) (pdus : List Pdu) (given done : ℕ) (pdu : Pdu)
      → IsAfterHistory outgoing share size pdus given done
      → IsAfterHistory (with_pdu outgoing pdu) share size (pdus ++ pdu ∷ []) given done
  pub may : (outgoing : Outgoing) (pdus : List Pdu) (given done : ℕ)
      → IsAfterHistory outgoing share size pdus given done
      → may_give outgoing ≡ nat_lt given (packets_allowed share size pdus done)
  pub next : (outgoing : Outgoing) (pdus : List Pdu) (given done : ℕ)
      → IsAfterHistory outgoing share size pdus given done
      → given < packets_allowed share size pdus done → StepsTo outgoing share size pdus given done
  pub completed : (outgoing : Outgoing) (pdus : List Pdu) (given done count : ℕ)
      → IsAfterHistory outgoing share size pdus given done
      → IsAfterHistory (with_completed outgoing count) share size pdus given
      (done + min count (given - done))
