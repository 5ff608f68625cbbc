-- `encoding::write_last` meets its contract. The third plane is cleared and the first is walked under it, from symbol 0 on.
use mathlib.Core.Bool.{true}
use mathlib.Core.Path.{subst, sym}
use Prim.Native.Nat.{◌*◌, ◌+◌, ◌-◌}
use native.Mathlib.Omega.{arith}
use Rattle.sections.specs.Pens.{PenRoom}
use Rattle.sections.proofs.PenLaws.{marked_as}
use Rattle.encoding.proofs.LastLaws.{third-clean, third-rest, third-runs, third-size}
use Rattle.encoding.proofs.MeasureLaws.{frame_small}
use Rattle.encoding.proofs.write_last.Goals as goal

pub walk_plane-requires : goal.walk_plane-requires
walk_plane-requires c =
    let a = c.args in
    let k = c.args.f.sheet in
    let n = 3 * a.f.p - (a.f.p + a.f.p) in (
      omega (arith, k.plane),
      omega (arith, k.plane, c.requires.0, third-size k a.work.now c.requires.0 n (omega arith) _ (c.fill.ensures.after (λ y e. e))),
      third-clean k a.work.now c.requires.0 n (omega arith) _ (c.fill.ensures.after (λ y e. e)),
      omega (arith, frame_small k.frame),
      subst (PenRoom true a.out.now 0) (sym (third-runs k a.work.now c.requires.0 n (omega arith) _ (c.fill.ensures.after (λ y e. e)))) c.requires.1,
    )

pub returns : goal.returns
returns c =
    let a = c.args in
    let k = c.args.f.sheet in
    let n = 3 * a.f.p - (a.f.p + a.f.p) in (
      marked_as (third-runs k a.work.now c.requires.0 n (omega arith) _ (c.fill.ensures.after (λ y e. e))) c.walk_plane.ensures,
      third-size k a.work.now c.requires.0 n (omega arith) _ (c.fill.ensures.after (λ y e. e)),
      third-rest k a.work.now c.requires.0 n (omega arith) _ (c.fill.ensures.after (λ y e. e)),
    )
