-- `minimal::sizes::mark` meets its contract. The one bit set in an emptied plane is the pixel of place a.
use Rattle.std.proofs.Common.{◌*◌, ◌≡◌, arith, refl, replicate, rules}
use Rattle.raster.proofs.FrameLaws.{plane-few}
use Rattle.raster.proofs.PackLaws.{frame-bytes}
use Rattle.minimal.proofs.MarkLaws.{mark-at, mark-first}
use Rattle.minimal.proofs.sizes.mark.Goals as goal

pub overflow_add-work : goal.overflow_add-work
overflow_add-work c =
    let a = c.args in
    let f = a.f.sheet.frame in
    let t = mark-at a.f.w a.f.h a.a f.wide c.requires.1 (a.f.h * a.f.r) a.f.r _ (frame-bytes f) f.row refl in
    omega (arith, t.0, plane-few f)

pub bounds-work-a : goal.bounds-work-a
bounds-work-a c =
    let a = c.args in
    let f = c.args.f.sheet.frame in
    let t = mark-at a.f.w a.f.h a.a f.wide c.requires.1 (a.f.h * a.f.r) a.f.r _ (frame-bytes f) f.row refl in
    grind (arith, t.0)

pub returns : goal.returns
returns c =
    let a = c.args in
    let f = c.args.f.sheet.frame in
    let p = a.f.h * a.f.r in
    let t = mark-at a.f.w a.f.h a.a f.wide c.requires.1 p a.f.r _ (frame-bytes f) f.row refl in
    let z : c.fill.new.self ≡ replicate p 0 = search rules in
    mark-first a.f.w a.f.h a.a f.wide c.requires.1 p _ _ a.work.now _ (frame-bytes f) c.requires.0 z t.1 refl
