-- `encoding::write_image`: the image is copied into the first plane, the bytes are cleared, and its sizes are written.
use mathlib.Core.Path.{◌∙◌, ap, sym, subst}
use Prim.Native.Nat.{◌*◌, ℕ}
use mathlib.Core.Bool.{Bool}
use native.Mathlib.Omega.{arith}
use lib.ListN.{replicate}
use Rattle.coding.specs.Symbols.{pack_symbols}
use Rattle.coding.specs.Writing.{eroded_runs}
use Rattle.morphology.specs.Element.{offsets}
use Rattle.morphology.specs.Point.{Point}
use Rattle.iteration.proofs.StepLaws.{loaded, loaded-rest, sheet-bytes}
use Rattle.encoding.specs.Sizes.{Gone, Lengths, symbols_below}
use Rattle.encoding.proofs.write_image.Goals as goal

pub write_sizes-requires : goal.write_sizes-requires
write_sizes-requires c =
    let a = c.args in
    let q = sheet-bytes c.args.f.sheet in
    let v = loaded a.f.w a.f.h a.f.p a.image.now a.image.now a.work.now _ q c.requires.0 c.copy.ensures in (
      omega (arith, v.size, c.requires.0.work, q),
      c.requires.1,
      c.requires.2,
      v.clean,
      subst (λ (X : Point → Bool). Lengths a.f.w a.f.h (offsets a.element) X a.total.sizes a.lengths.now a.total.symbols) (sym v.set) c.requires.3,
      c.requires.4,
      c.fill.ensures.after (λ y e. e) ∙ ap (λ (n : ℕ). replicate n 0) c.requires.5,
      subst (λ (X : Point → Bool). Gone (offsets a.element) X a.total.sizes) (sym v.set) c.requires.6,
    )

pub returns : goal.returns
returns c =
    let a = c.args in
    let q = sheet-bytes c.args.f.sheet in
    let v = loaded a.f.w a.f.h a.f.p a.image.now a.image.now a.work.now _ q c.requires.0 c.copy.ensures in
    let e = c.write_sizes.ensures in (
      e.0 ∙ ap (λ (X : Point → Bool). pack_symbols (symbols_below (eroded_runs a.f.w a.f.h (offsets a.element) X) a.total.sizes)) v.set,
      e.1 ∙ v.size,
      e.2 ∙ loaded-rest a.f.p (3 * a.f.p) a.image.now a.work.now _ (omega arith) (c.requires.0.image ∙ sym q) c.copy.ensures,
    )
