-- `reconstruction::reconstruct_into` meets its contract. The labels gathered in an emptied plane, dilated as often as the cut says, are handed out; work is cleared.
use mathlib.Core.Bool.{◌||◌}
use mathlib.Core.Path.{◌∙◌, ap₂}
use Prim.Native.Nat.{ℕ}
use native.Mathlib.Omega.{arith}
use lib.ListN.{length-replicate, replicate}
use Rattle.morphology.specs.Element.{offsets}
use Rattle.morphology.specs.Skeleton.{reconstruction}
use Rattle.iteration.proofs.StepLaws.{sheet-bytes, wrote}
use Rattle.reconstruction.proofs.GatherLaws.{emptied, gathered_cleans, gathered-dilated, kept_on, last-stays}
use Rattle.reconstruction.proofs.reconstruct_into.Goals as goal

pub dilate_times-dilated-requires : goal.dilate_times-dilated-requires
dilate_times-dilated-requires c =
    let a = c.args in
    let k = c.args.f.sheet in
    let g = c.gather-gathered.ensures.work in (
      omega (arith, c.requires.work, sheet-bytes k),
      c.requires.labels.element,
      gathered_cleans a.f.w a.f.h a.f.p a.element a.cut (sheet-bytes k) a.labels.now c.requires.labels _ _ g,
    )

pub returns : goal.returns
returns c =
    let a = c.args in
    let p = a.f.p in
    let q = sheet-bytes c.args.f.sheet in
    let v = emptied p a.work.now _ (omega (arith, c.requires.work, q)) (c.fill.ensures.after (λ y e. e)) in
    let t = c.requires.labels in
    let g = c.gather-gathered.ensures in
    let d = c.dilate_times-dilated.ensures in
    let stays = last-stays a.f.w a.f.h p a.element a.cut q a.labels.now t _ _ g.work in
    record {
      image =
          wrote a.f.w a.f.h p _ (reconstruction a.f.w a.f.h (offsets a.element) a.cut a.labels.now) (replicate p 0) a.work.now _ _ _ _ q
          (kept_on a.f.w a.f.h p a.element a.cut q a.labels.now t) (length-replicate {A = ℕ} p 0) v
          (gathered-dilated a.f.w a.f.h p a.element a.cut q a.labels.now t _ _ _ g.work stays d.plane) c.hand_out.ensures;
      clipped = ap₂ ◌||◌ g.clipped (d.clipped ∙ stays);
    }
