-- `listing::list_bytes` meets its contract.
use mathlib.Core.Path.{sym}
use Prim.Native.Nat.{◌-◌}
use native.Mathlib.Omega.{arith}
use lib.ListN.{length}
use Rattle.listing.proofs.AppendLaws.{appended_as}
use Rattle.listing.proofs.LengthLaws.{refusal-room}
use Rattle.listing.proofs.PrintedLaws.{printed-part, printed-short}
use Rattle.listing.proofs.list_bytes.Goals as goal

pub put_refusal-requires : goal.put_refusal-requires
put_refusal-requires c = refusal-room (omega arith) c.requires.2

pub returns-then-input-lt6 : goal.returns-then-input-lt6
returns-then-input-lt6 c = appended_as (sym (printed-short c.args.input.now c.if-input-lt6.true)) c.put_refusal.ensures

pub returns : goal.returns
returns c =
    let i = c.args.input.now in
    appended_as (printed-part i (length i - 6) c.number-element.result (omega arith) (omega arith) c.number-element.ensures) c.list_image.ensures
