-- A fragment that borrows the payload of its frame (code only).
use Rattle.std.specs.Prelude.{ℕ, ◌+◌, ◌++◌, length}
use Rattle.le_acl.specs.Fragment.{Fragment, Beginning, Continuation}
use Rattle.le_acl.specs.declared.fragment_ref.FragmentRef.{FragmentRef}
use Rattle.le_acl.specs.declared.fragment_ref.FragmentRef.TheVariants as parts

abbrev pub fragment_of_ref : FragmentRef → Fragment
fragment_of_ref (parts.Beginning header payload) = Beginning (header ++ payload.now)
fragment_of_ref (parts.Continuation payload) = Continuation payload.now

abbrev pub length_of_ref : FragmentRef → ℕ
length_of_ref (parts.Beginning header payload) = length header + length payload.now
length_of_ref (parts.Continuation payload) = length payload.now
