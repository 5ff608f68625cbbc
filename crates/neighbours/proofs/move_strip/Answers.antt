-- `neighbours::move_strip` meets its contract.
-- The move of all bytes as one row is that of each row, once its ends are cleared; a move by none needs no clearing.
use native.Mathlib.Omega.{arith}
use Prim.Native.Nat.{◌*◌}
use Rattle.neighbours.proofs.StripLaws.{strip-cleared, strip-first, strip-whole}
use Rattle.neighbours.proofs.move_strip.Goals as goal

pub returns-then-wraps : goal.returns-then-wraps
returns-then-wraps c =
    let a = c.args in
    strip-cleared a.buf.now _ a.s a.r a.m (strip-first (a.m * a.r) a.s a.buf.now a.strip.now _ c.requires.3 c.move_bytes.ensures) _
    c.clear_ends.ensures

pub returns-else-wraps : goal.returns-else-wraps
returns-else-wraps c =
    let a = c.args in
    strip-whole a.buf.now _ a.s a.r a.m (strip-first (a.m * a.r) a.s a.buf.now a.strip.now _ c.requires.3 c.move_bytes.ensures) (omega (arith, c.if-wraps.false))
