-- `encoding::measure_image`: the image is copied into the first plane, and its sizes are measured there.
use mathlib.Core.Path.{◌∙◌, sym}
use Prim.Native.Nat.{◌*◌}
use native.Mathlib.Omega.{arith}
use Rattle.iteration.proofs.StepLaws.{loaded, loaded-rest, sheet-bytes}
use Rattle.encoding.proofs.OutcomeLaws.{measured_as}
use Rattle.encoding.proofs.measure_image.Goals as goal

pub measure-requires : goal.measure-requires
measure-requires c =
    let a = c.args in
    let q = sheet-bytes c.args.f.sheet in
    let v = loaded a.f.w a.f.h a.f.p a.image.now a.image.now a.work.now _ q c.requires.0 c.copy.ensures in
    (omega (arith, v.size, c.requires.0.work, q), c.requires.1, c.requires.2, v.clean)

pub returns : goal.returns
returns c =
    let a = c.args in
    let q = sheet-bytes c.args.f.sheet in
    let v = loaded a.f.w a.f.h a.f.p a.image.now a.image.now a.work.now _ q c.requires.0 c.copy.ensures in
    measured_as v.set v.size (loaded-rest a.f.p (3 * a.f.p) a.image.now a.work.now _ (omega arith) (c.requires.0.image ∙ sym q) c.copy.ensures)
    c.measure.ensures
