-- `placing::place_few` meets its contract: the bytes less their padding are the word walked, and its points go back to the same bits.
use mathlib.Core.Path.{◌∙◌, ◌≡◌, ap, refl}
use Prim.Native.Nat.{◌%◌, ◌*◌, ◌+◌, ◌-◌, ◌/◌, ◌<◌, ◌^◌, ℕ}
use native.Mathlib.Nat.{zero-mul}
use native.Mathlib.Omega.{arith}
use Rattle.sections.specs.Words.{Word}
use Rattle.sections.proofs.PlaneLaws.{word_first}
use Rattle.placing.proofs.RowLaws.{bytes_same, few-sought, shifted_exact}
use Rattle.placing.proofs.place_few.Goals as goal
use Rattle.placing.proofs.place_few.Goals.{After-load_few, After-place_word-placed}

-- the word of the mask
mask_of : (c : After-load_few) → let a = c.args in Word a.plane.now (8 * a.a) a.m (c.load_few.result / 2 ^ (8 * ((a.m + 7) / 8) - a.m))
mask_of c =
    let a = c.args in
    word_first a.plane.now (8 * a.a) (8 * ((a.m + 7) / 8)) a.m c.load_few.result (omega arith) c.load_few.ensures

-- the points are not cut off
shifted : (c : After-place_word-placed)
    → let n = 8 * ((c.args.m + 7) / 8) in
    let v = c.place_word-placed.result.points * 2 ^ (n - c.args.m) in
    (v % 2 ^ 64 ≡ v) × (v % 2 ^ 64 < 2 ^ n)
shifted c =
    let m = c.args.m in
    shifted_exact ((m + 7) / 8) m c.place_word-placed.result.points c.place_word-placed.ensures.0.small (omega arith) (omega (arith, c.requires.1))

pub place_word-placed-requires : goal.place_word-placed-requires
place_word-placed-requires c =
    let p = c.requires in
    (p.0, p.1, p.2, (mask_of (goal.at.place_word-placed-requires c).After-load_few).small, p.4, p.5, p.6)

pub store-requires : goal.store-requires
store-requires c =
    (omega (arith, c.requires.3), omega (arith, c.requires.1), (shifted (goal.at.store-requires c).After-place_word-placed).1)

pub returns-then-placed-ne0 : goal.returns-then-placed-ne0
returns-then-placed-ne0 c =
    let a = c.args in
    let n = (a.m + 7) / 8 in
    let p = 8 * n - a.m in
    let v = c.place_word-placed.result.points in
    let e = c.place_word-placed.ensures in
    let g = goal.at.returns-then-placed-ne0 c in
    record {
      found =
          few-sought a.a n a.m (c.load_few.result / 2 ^ p) v ((v * 2 ^ p) % 2 ^ 64) a.plane.now c.store.new.plane (omega arith)
          (mask_of g.After-load_few) e.0 (shifted g.After-place_word-placed).0 c.store.ensures;
      moved = e.1;
    }

pub returns-else-placed-ne0 : goal.returns-else-placed-ne0
returns-else-placed-ne0 c =
    let a = c.args in
    let n = (a.m + 7) / 8 in
    let p = 8 * n - a.m in
    let v = c.place_word-placed.result.points in
    let e = c.place_word-placed.ensures in
    let z : v * 2 ^ p ≡ 0 = ap (λ (q : ℕ). q * 2 ^ p) (omega (arith, c.if-placed-ne0.false)) ∙ zero-mul (2 ^ p) in
    record {
      found =
          few-sought a.a n a.m (c.load_few.result / 2 ^ p) v (v * 2 ^ p) a.plane.now a.plane.now (omega arith)
          (mask_of (goal.at.returns-else-placed-ne0 c).After-load_few) e.0 refl (bytes_same a.a n (v * 2 ^ p) a.plane.now z);
      moved = e.1;
    }
