-- `listing::text::put_bytes` meets its contract.
use native.Mathlib.Omega.{arith}
use Rattle.listing.proofs.AppendLaws.{appended-over}
use Rattle.listing.proofs.text.put_bytes.Goals as goal

pub returns : goal.returns
returns c =
    let a = c.args in
    appended-over a.text.now _ a.at _ a.out.now c.copy_from_slice.ensures.after (omega arith) c.requires
