-- `neighbours::load_near` meets its contract.
-- With the three sizes known, the rows that are copied lie within the plane and within the buffer; then the law of loaded rows.
use native.Mathlib.Omega.{arith}
use mathlib.Core.Path.{ap}
use Prim.Native.Nat.{◌*◌, ◌+◌, ◌-◌, ℕ}
use lib.ListN.{length}
use Rattle.neighbours.proofs.StripLaws.{load_fits, near_loaded}
use Rattle.neighbours.proofs.load_near.Goals as goal

pub slice_bounds-copy-end : goal.slice_bounds-copy-end
slice_bounds-copy-end c =
    let a = c.args in
    let from = c.saturating_sub-from.result in
    let F = load_fits a.r a.h a.y a.n from (c.min.result - from) c.saturating_sub-blank.result c.requires.rows c.saturating_sub-blank.ensures
    c.saturating_sub-from.ensures (ap (λ (m : ℕ). m - from) c.min.ensures) in
    omega (arith, F.0, c.requires.near, c.fill.ensures.len)

pub slice_bounds-copy-end-2 : goal.slice_bounds-copy-end-2
slice_bounds-copy-end-2 c =
    let a = c.args in
    let from = c.saturating_sub-from.result in
    let F = load_fits a.r a.h a.y a.n from (c.min.result - from) c.saturating_sub-blank.result c.requires.rows c.saturating_sub-blank.ensures
    c.saturating_sub-from.ensures (ap (λ (m : ℕ). m - from) c.min.ensures) in
    omega (arith, F.1, c.requires.plane-rows)

pub returns : goal.returns
returns c =
    let a = c.args in
    let from = c.saturating_sub-from.result in
    let rows = c.min.result - from in
    let at = c.saturating_sub-blank.result * a.r + 1 in
    let b = from * a.r in
    near_loaded a.r a.h a.y a.n from rows c.saturating_sub-blank.result (at + rows * a.r - at) (b + rows * a.r - b)
    (length a.buf.now) a.plane.now _ _ c.requires.plane-rows c.requires.rows c.requires.near c.saturating_sub-blank.ensures c.saturating_sub-from.ensures
    (ap (λ (m : ℕ). m - from) c.min.ensures) (omega arith) (omega arith) (c.fill.ensures.after (λ y e. e)) c.copy.ensures
