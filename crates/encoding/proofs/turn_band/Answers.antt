-- `encoding::turn_band` meets its contract. A size on the rows of the band, after the pixels above them, is that size on the whole sheet.
use mathlib.Core.List.{List}
use mathlib.Core.Path.{refl, subst, sym}
use Prim.Native.Nat.{◌*◌, ◌+◌, ◌-◌, ◌<◌, ◌≤◌, ℕ}
use native.Mathlib.Nat.{mul_comm, mul-le-mul}
use native.Mathlib.Omega.{arith}
use lib.ListN.{get_or, length}
use Rattle.iteration.specs.Bands.{Banded}
use Rattle.raster.specs.Frames.{Frame}
use Rattle.iteration.proofs.BandLaws.{band-clean, band-eroded, band-frame, band_long, band_span}
use Rattle.sections.specs.Pens.{PenRoom}
use Rattle.sections.proofs.PenLaws.{marked_as}
use Rattle.encoding.proofs.SizeLaws.{band-runs}
use Rattle.encoding.proofs.turn_band.Goals as goal

-- the pixels above the band and its own are few
few : {h r from to : ℕ} {s : List ℕ} (w : ℕ) → Frame w h r → Banded h r from to s → from * w + (to - from) * w ≤ 1048576
few w f b =
    let m = mul-le-mul f.down f.across in
    omega (arith, band_span b w)

pub turn-requires : goal.turn-requires
turn-requires g c =
    let a = c.args in
    let b = c.requires.0 in
    let small = few a.f.w b.frame c.requires.1 in
    let e = mul_comm a.f.w (a.to - a.from) in
    let three : 3 * (a.f.h * a.f.r) ≤ length a.work.now = omega (arith, b.planes) in
    let bytes : (i : ℕ) → get_or a.work.now i 0 < 256 = λ i. (c.slice_known-2-1.given i).fits in (
      record {
        frame = band-frame a.f.w a.f.h a.f.r a.from a.to a.element a.work.now b.frame three b.element bytes b.clean c.requires.1;
        apart = omega (arith, band_span c.requires.1 a.f.r);
        planes = band_long a.f.w a.f.h a.f.r a.from a.to a.element a.work.now b.frame three b.element bytes b.clean c.requires.1 _ refl;
        element = b.element;
        clean = band-clean a.f.w a.f.h a.f.r a.from a.to a.element a.work.now b.frame three b.element bytes b.clean c.requires.1 _ refl;
      },
      omega arith,
      subst (λ (rs : List ℕ). PenRoom g.P.Pen.down a.out.now a.at rs)
          (band-runs a.f.w a.f.h a.f.r a.from a.to a.element a.work.now b.frame three b.element bytes b.clean c.requires.1 _ refl) c.requires.2,
    )

pub returns : goal.returns
returns g c =
    let a = c.args in
    let b = c.requires.0 in
    let three : 3 * (a.f.h * a.f.r) ≤ length a.work.now = omega (arith, b.planes) in
    let bytes : (i : ℕ) → get_or a.work.now i 0 < 256 = λ i. (c.slice_known-2-1.given i).fits in
    record {
      planes =
          band-eroded a.f.w a.f.h a.f.r a.from a.to a.element a.work.now b.frame three b.element bytes b.clean c.requires.1 _ refl _ c.turn.ensures.planes;
      runs =
          marked_as (sym (band-runs a.f.w a.f.h a.f.r a.from a.to a.element a.work.now b.frame three b.element bytes b.clean c.requires.1 _ refl))
          c.turn.ensures.runs;
    }
