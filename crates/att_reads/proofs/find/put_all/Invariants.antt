use Rattle.std.proofs.Common.{◌≡◌, ◌+◌, ◌*◌, length, take, drop}
use Rattle.std.specs.Prelude.{map}
use Rattle.att_reads.specs.Answer.{information_of}
use Rattle.att_reads.specs.Listing.{with_listed}
use Rattle.att_reads.proofs.find.put_all.Given as goal

-- what stands before the place, and the attributes that are left, lead to the same list
abbrev pub invariant-loop-attr : goal.invariant-loop-attr
invariant-loop-attr l = record {
  held : length l.octets ≡ length l.fn.octets;
  room : l.place + l.size * length (drop l.attr-index l.attributes) ≡ 2 + l.size * length l.attributes;
  listed :
      with_listed (length l.fn.octets) l.size (take l.place l.octets) (map information_of (drop l.attr-index l.attributes))
      ≡ with_listed (length l.fn.octets) l.size (take 2 l.fn.octets) (map information_of l.attributes);
}
