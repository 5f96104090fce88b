use Rattle.std.proofs.Common.{◌≡◌, ◌++◌, take, drop, map}
use Rattle.device_session.specs.Links.{key_noted}
use Rattle.device_session.proofs.links.note_keys.Given as goal

-- The links so far are noted, and the others are as they were.
abbrev pub invariant-loop-place : goal.invariant-loop-place
invariant-loop-place l = l.links.items ≡ map (key_noted l.handle l.has_key) (take l.place l.fn.links.items) ++ drop l.place l.fn.links.items
