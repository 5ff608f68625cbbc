-- `listing::list` meets its contract.
use mathlib.Core.Path.{refl, sym}
use Prim.Native.Nat.{◌*◌, ℕ}
use native.Mathlib.Omega.{arith}
use lib.ListN.{length-replicate}
use Rattle.listing.specs.Printed.{side, side_bytes}
use Rattle.listing.proofs.AppendLaws.{appended-whole}
use Rattle.listing.proofs.list.Goals as goal

pub slice_bounds-list_bytes-end : goal.slice_bounds-list_bytes-end
slice_bounds-list_bytes-end c = sym (length-replicate {A = ℕ} (side * side) 0)

pub slice_bounds-list_bytes-end-2 : goal.slice_bounds-list_bytes-end-2
slice_bounds-list_bytes-end-2 c = sym (length-replicate {A = ℕ} (3 * (side * side_bytes)) 0)

pub list_bytes-requires : goal.list_bytes-requires
list_bytes-requires c = (refl, refl, omega arith)

pub returns : goal.returns
returns c = appended-whole c.list_bytes.ensures
