-- `decomposition::turn_band` meets its contract. A turn on the rows of the band, lent with the labels there, is a turn on the whole sheet.
use Prim.Native.Nat.{◌*◌, ◌+◌, ◌-◌, ◌<◌, ◌≤◌, ℕ}
use mathlib.Core.Path.{refl}
use native.Mathlib.Nat.{mul_comm}
use native.Mathlib.Omega.{arith}
use borrow.Author.Rules.{rules}
use lib.ListN.{get_or, length}
use Rattle.decomposition.proofs.BandLaws.{band_stepped}
use Rattle.iteration.proofs.BandLaws.{band-clean, band-frame, band_long, band_span}
use Rattle.decomposition.proofs.turn_band.Goals as goal

pub slice_bounds-turn-end : goal.slice_bounds-turn-end
slice_bounds-turn-end c =
    let g = band_span c.requires.1 c.args.f.w in
    let z = mul_comm c.args.f.w c.args.f.h in
    search rules

pub turn-requires : goal.turn-requires
turn-requires c =
    let a = c.args in
    let b = c.requires.0 in
    let g = band_span c.requires.1 a.f.w in
    let z = mul_comm a.f.w a.f.h in
    let e = mul_comm a.f.w (a.to - a.from) in
    let three : 3 * (a.f.h * a.f.r) ≤ length a.work.now = omega (arith, b.planes) in
    let bytes : (i : ℕ) → get_or a.work.now i 0 < 256 = search rules in
    record {
      frame = band-frame a.f.w a.f.h a.f.r a.from a.to a.element a.work.now b.frame three b.element bytes b.clean c.requires.1;
      apart = omega (arith, band_span c.requires.1 a.f.r);
      planes = band_long a.f.w a.f.h a.f.r a.from a.to a.element a.work.now b.frame three b.element bytes b.clean c.requires.1 _ refl;
      places = search rules;
      element = b.element;
      clean = band-clean a.f.w a.f.h a.f.r a.from a.to a.element a.work.now b.frame three b.element bytes b.clean c.requires.1 _ refl;
    }

pub returns-clause-turn : goal.returns-clause-turn
returns-clause-turn c =
    let a = c.args in
    let b = c.requires.0 in
    let three : 3 * (a.f.h * a.f.r) ≤ length a.work.now = omega (arith, b.planes) in
    let bytes : (i : ℕ) → get_or a.work.now i 0 < 256 = search rules in
    band_stepped a.f.w a.f.h a.f.r a.from a.to a.element a.work.now b.frame three b.element bytes b.clean c.requires.1 _ refl a.v _
    (a.from * a.f.w + (a.to - a.from) * a.f.w - a.from * a.f.w) _ a.labels.now _ (omega arith) b.places c.turn.ensures.turn
