use Rattle.std.proofs.Common.{◌≡◌, drop, map}
use Rattle.std.specs.Borrow.{Bor}
use Rattle.octet_io.specs.Number.{Octets}
use Rattle.device_options.specs.Advertising.{with_services}
use Rattle.device_options.proofs.advertising.add_services.Given as goal

-- what is added and what is left are all
abbrev pub invariant-loop-word : goal.invariant-loop-word
invariant-loop-word l =
    with_services (record { short = l.short.items; long = l.long.items }) (map (λ (word : Bor Octets). word.now) (drop l.word-index l.words))
    ≡ with_services (record { short = l.fn.short.items; long = l.fn.long.items }) (map (λ (word : Bor Octets). word.now) l.words)
