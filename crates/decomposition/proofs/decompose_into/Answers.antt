-- `decomposition::decompose_into` meets its contract.
-- The image is copied into an empty sheet with blank labels, from which the turns start; work is cleared after them.
use mathlib.Core.Path.{◌∙◌, ap, sym}
use Prim.Native.Nat.{ℕ}
use native.Mathlib.Omega.{arith}
use lib.ListN.{replicate}
use Rattle.decomposition.proofs.TurnLaws.{finished_as}
use Rattle.iteration.proofs.StepLaws.{loaded, rest-cleared, sheet-bytes}
use Rattle.decomposition.proofs.decompose_into.Goals as goal

pub take_turns-found-requires : goal.take_turns-found-requires
take_turns-found-requires c =
    let a = c.args in
    let k = c.args.f.sheet in
    let q = sheet-bytes k in
    let v = loaded a.f.w a.f.h a.f.p a.image.now a.image.now a.work.now _ q c.requires.0 c.copy.ensures in (
      c.requires.1,
      c.requires.2,
      omega (arith, v.size, c.requires.0.work, q),
      c.fill.ensures.after (λ y e. e) ∙ ap (λ (n : ℕ). replicate n 0) c.requires.3,
      c.requires.4,
      v.clean,
    )

pub returns : goal.returns
returns c =
    let a = c.args in
    let q = sheet-bytes c.args.f.sheet in
    let p = a.f.p in
    let v = loaded a.f.w a.f.h p a.image.now a.image.now a.work.now _ q c.requires.0 c.copy.ensures in
    let t = c.take_turns-found.ensures.turns in
    record {
      done = finished_as v.set t.finished;
      work = c.clear_work.ensures
          ∙ rest-cleared a.f.w a.f.h p a.image.now a.work.now _ c.take_turns-found.new.work q (c.requires.0.image ∙ sym q) c.copy.ensures t.rest;
      clipped = c.take_turns-found.ensures.clipped;
    }
