-- How the logic stores the notices that a listener receives.
use Rattle.std.specs.Prelude.{◌≡◌, ℕ, ◌⊎◌, List, refl}
use Rattle.std.proofs.Common.{inl, inr}
use Rattle.std.specs.Coded.{Coded, code_by, coded_list, coded_ℕ, coded×, coded⊎}
use Rattle.att_policy.specs.contracts.standing.KeyFacts as facts
use Rattle.att_policy.specs.declared.standing.KeyFacts.{KeyFacts}
use Rattle.gatt_laws.specs.machine.Notice.{Notice, Connected, Disconnected, Secured, Unsecured, Written, Configured, Confirmed, TimedOut, Ending, Skipped, Received}
use Rattle.le_hci.specs.contracts.peer.Peer as peer
use Rattle.le_hci.specs.declared.peer.Peer.{Peer}
use Rattle.octet_io.specs.Number.{Octets}

abbrev Notices : Type 0
Notices =
    (ℕ × Peer) ⊎ (ℕ ⊎ ((ℕ × KeyFacts) ⊎ (ℕ ⊎ ((ℕ × ℕ) ⊎ ((ℕ × (ℕ × ℕ))
    ⊎ ((ℕ × ℕ) ⊎ (ℕ ⊎ ((ℕ × ℕ) ⊎ (ℕ × ℕ)))))))))

abbrev of_notice : Notice → Notices
of_notice (Connected handle phone) = inl (handle, phone)
of_notice (Disconnected handle) = inr (inl handle)
of_notice (Secured handle key) = inr (inr (inl (handle, key)))
of_notice (Unsecured handle) = inr (inr (inr (inl handle)))
of_notice (Written handle attribute) = inr (inr (inr (inr (inl (handle, attribute)))))
of_notice (Configured handle attribute bits) =
    inr (inr (inr (inr (inr (inl (handle, (attribute, bits)))))))
of_notice (Confirmed handle attribute) =
    inr (inr (inr (inr (inr (inr (inl (handle, attribute)))))))
of_notice (TimedOut handle) = inr (inr (inr (inr (inr (inr (inr (inl handle)))))))
of_notice (Ending handle reason) =
    inr (inr (inr (inr (inr (inr (inr (inr (inl (handle, reason)))))))))
of_notice (Skipped handle attribute) =
    inr (inr (inr (inr (inr (inr (inr (inr (inr (handle, attribute)))))))))

abbrev to_notice : Notices → Notice
to_notice (inl both) = Connected both.0 both.1
to_notice (inr (inl handle)) = Disconnected handle
to_notice (inr (inr (inl both))) = Secured both.0 both.1
to_notice (inr (inr (inr (inl handle)))) = Unsecured handle
to_notice (inr (inr (inr (inr (inl both))))) = Written both.0 both.1
to_notice (inr (inr (inr (inr (inr (inl all)))))) = Configured all.0 all.1.0 all.1.1
to_notice (inr (inr (inr (inr (inr (inr (inl both))))))) = Confirmed both.0 both.1
to_notice (inr (inr (inr (inr (inr (inr (inr (inl handle)))))))) = TimedOut handle
to_notice (inr (inr (inr (inr (inr (inr (inr (inr (inl both))))))))) = Ending both.0 both.1
to_notice (inr (inr (inr (inr (inr (inr (inr (inr (inr both))))))))) = Skipped both.0 both.1

pub notice_back : (notice : Notice) → to_notice (of_notice notice) ≡ notice
notice_back (Connected handle phone) = refl
notice_back (Disconnected handle) = refl
notice_back (Secured handle key) = refl
notice_back (Unsecured handle) = refl
notice_back (Written handle attribute) = refl
notice_back (Configured handle attribute bits) = refl
notice_back (Confirmed handle attribute) = refl
notice_back (TimedOut handle) = refl
notice_back (Ending handle reason) = refl
notice_back (Skipped handle attribute) = refl

abbrev coded_notice : Coded Notice
coded_notice =
    code_by Notices
    (coded⊎ (coded× coded_ℕ peer.the_row.coded)
    (coded⊎ coded_ℕ
    (coded⊎ (coded× coded_ℕ facts.the_row.coded)
    (coded⊎ coded_ℕ
    (coded⊎ (coded× coded_ℕ coded_ℕ)
    (coded⊎ (coded× coded_ℕ (coded× coded_ℕ coded_ℕ))
    (coded⊎ (coded× coded_ℕ coded_ℕ)
    (coded⊎ coded_ℕ
    (coded⊎ (coded× coded_ℕ coded_ℕ) (coded× coded_ℕ coded_ℕ))))))))))
    of_notice to_notice notice_back

abbrev of_received : Received → Notice × Octets
of_received received = (received.notice, received.value)

abbrev to_received : Notice × Octets → Received
to_received both = record { notice = both.0; value = both.1 }

pub received_back : (received : Received) → to_received (of_received received) ≡ received
received_back received = refl

abbrev pub coded_received : Coded (List Received)
coded_received =
    coded_list
    (code_by (Notice × Octets) (coded× coded_notice (coded_list coded_ℕ)) of_received to_received
    received_back)
