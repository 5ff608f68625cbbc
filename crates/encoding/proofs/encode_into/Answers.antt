-- `encoding::encode_into` meets its contract. The first pass says how many bytes are needed; where they are lent the second writes them.
use mathlib.Core.List.{List, ◌++◌}
use mathlib.Core.Path.{◌∙◌, ap}
use Prim.Native.Nat.{◌*◌, ◌+◌, ◌/◌, ◌<◌, ◌^◌, ◌≤◌, ℕ}
use native.Mathlib.Nat.{le_refl}
use native.Mathlib.Omega.{arith}
use borrow.Author.Rules.{rules}
use lib.ListN.{drop}
use lib.Seq.{length-take-le}
use Rattle.morphology.proofs.ImageLaws.{image_on}
use Rattle.raster.specs.Limits.{max_frame}
use Rattle.iteration.proofs.StepLaws.{ready-again, sheet-bytes, work-cleared}
use Rattle.encoding.proofs.MeasureLaws.{sizes-few, total-small}
use Rattle.encoding.proofs.OutcomeLaws.{outcome-short, outcome-written}
use Rattle.encoding.proofs.encode_into.Goals as goal

pub overflow_add-bytes : goal.overflow_add-bytes
overflow_add-bytes c =
    let few : c.measure_image-total.result.symbols < 2 ^ 33 =
    let a = c.args in
    let m = c.measure_image-total.ensures in
    omega
    (arith, m.measured.whole, total-small c.requires.0.frame a.element c.requires.1 (image_on a.f.w a.f.h a.image.now) c.measure_image-total.result.sizes m.before) in
    omega (arith, few)

pub returns-then-out-bytes : goal.returns-then-out-bytes
returns-then-out-bytes c =
    let sheet = c.args.f.sheet in
    let a = c.args in
    let m = c.measure_image-total.ensures in
    let k = sheet in
    let p = a.f.p in
    outcome-short a.element c.requires.1 (image_on a.f.w a.f.h a.image.now) m a.out.now a.work.now _ c.if-out-bytes.true
    (c.clear_work.ensures ∙ work-cleared a.f.w a.f.h p (3 * p) a.work.now _ (sheet-bytes k) (le_refl (3 * p)) m.rest)

pub write_image-requires : goal.write_image-requires
write_image-requires c =
    let sheet = c.args.f.sheet in
    let few : c.measure_image-total.result.symbols < 2 ^ 33 =
    let a = c.args in
    let m = c.measure_image-total.ensures in
    omega
    (arith, m.measured.whole, total-small c.requires.0.frame a.element c.requires.1 (image_on a.f.w a.f.h a.image.now) c.measure_image-total.result.sizes m.before) in
    let many : c.measure_image-total.result.sizes ≤ max_frame =
    let a = c.args in
    sizes-few c.requires.0.frame a.element c.requires.1 (image_on a.f.w a.f.h a.image.now) c.measure_image-total.result.sizes
    c.measure_image-total.ensures.before in
    let m = c.measure_image-total.ensures in
    let n = many in (
      ready-again c.requires.0 m.size,
      search rules,
      c.requires.1,
      m.measured,
      omega (arith, few),
      length-take-le _ c.args.out.now (omega (arith, c.if-out-bytes.false)),
      m.gone,
    )

pub answer-requires : goal.answer-requires
answer-requires c =
    let few : c.measure_image-total.result.symbols < 2 ^ 33 =
    let a = c.args in
    let m = c.measure_image-total.ensures in
    omega
    (arith, m.measured.whole, total-small c.requires.0.frame a.element c.requires.1 (image_on a.f.w a.f.h a.image.now) c.measure_image-total.result.sizes m.before) in
    let many : c.measure_image-total.result.sizes ≤ max_frame =
    let a = c.args in
    sizes-few c.requires.0.frame a.element c.requires.1 (image_on a.f.w a.f.h a.image.now) c.measure_image-total.result.sizes
    c.measure_image-total.ensures.before in
    (many, omega (arith, few))

pub returns : goal.returns
returns c =
    let sheet = c.args.f.sheet in
    let a = c.args in
    let m = c.measure_image-total.ensures in
    let g = sheet in
    let p = a.f.p in
    outcome-written a.element c.requires.1 (image_on a.f.w a.f.h a.image.now) m _ a.out.now a.work.now _ _ (omega (arith, c.if-out-bytes.false))
    c.answer.ensures (ap (λ (l : List ℕ). l ++ drop ((c.measure_image-total.result.symbols + 3) / 4) a.out.now) c.write_image.ensures.0)
    (c.clear_work-2.ensures ∙ work-cleared a.f.w a.f.h p (3 * p) a.work.now _ (sheet-bytes g) (le_refl (3 * p)) (c.write_image.ensures.2 ∙ m.rest))
