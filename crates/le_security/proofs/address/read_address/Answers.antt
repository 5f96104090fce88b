use Rattle.std.proofs.Common.{◌≡◌, length, arith}
use Rattle.le_security.proofs.Addresses.{address_of_places}
use Rattle.le_security.proofs.address.read_address.Goals as goal

pub returns : goal.returns
returns c =
    let all : length c.args.text.now ≡ 17 = grind arith in
    rw (address_of_places c.args.text.now all) (grind arith)
