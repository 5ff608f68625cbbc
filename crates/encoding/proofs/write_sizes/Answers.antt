use mathlib.Core.List.{List}
use mathlib.Core.Path.{◌∙◌, ◌≡◌, ap, refl, subst, sym}
use Prim.Native.Nat.{◌+◌, ◌-◌, ℕ}
use native.Mathlib.Omega.{arith}
use lib.ListN.{get_or, length, take}
use lib.Seq.{length-take-le}
use Rattle.coding.specs.Symbols.{pack_symbols}
use Rattle.coding.specs.Writing.{eroded_runs}
use Rattle.iteration.proofs.StepLaws.{first-start, sheet-bytes}
use Rattle.morphology.specs.Element.{offsets}
use Rattle.morphology.specs.Image.{image_set}
use Rattle.encoding.specs.Sizes.{symbols_below}
use Rattle.encoding.proofs.SizeLaws.{passed_start}
use Rattle.encoding.proofs.StreamLaws.{written_all, written_none}
use Rattle.encoding.proofs.WriteLaws.{Written, length-at, last_all, last-room, turn-clean, turn-fits, turn-room, turn-runs, turn_two}
use Rattle.encoding.proofs.write_sizes.Goals as goal
use Rattle.encoding.proofs.write_sizes.Goals.{then-length-eq2, else-length-eq2}

-- no size at all
pub returns-in_default : goal.returns-in_default
returns-in_default c =
    let a = c.args in
    let f = eroded_runs a.f.w a.f.h (offsets a.element) (image_set a.f.w a.f.h a.work.now) in
    let z : 0 ≡ a.total.sizes = omega (arith, c.in_default.ensures) in
    let e = ap (symbols_below f) (sym z) in
    let none = written_none f a.total.symbols a.out.now c.requires.6 in
    (written_all none (λ i. (c.type_inv.out i).fits) (c.requires.4.whole ∙ ap length e) ∙ ap pack_symbols (sym e), refl, refl)

pub loop-length-init : goal.loop-length-init
loop-length-init c =
    let a = c.args in
    let f = eroded_runs a.f.w a.f.h (offsets a.element) (image_set a.f.w a.f.h a.work.now) in
    let first = first-start a.f.w a.f.h a.f.p a.work.now (sheet-bytes c.args.f.sheet) (omega (arith, c.requires.0)) (λ i. (c.type_inv.work i).fits) c.requires.3 in
    record {
      plane = passed_start a.f.w a.f.h a.f.p a.element a.work.now first;
      stream = written_none f a.total.symbols a.out.now c.requires.6;
    }

pub overflow_sub-end : goal.overflow_sub-end
overflow_sub-end c =
    let l = c.loop-length in
    let t = length-at c.in-Some.last l.length-index c.args.lengths.now (omega (arith, c.in-Some.ensures, c.requires.1)) c.loop-length-test.true in
    turn-fits c.args.f.sheet c.requires.2 l.invariant c.requires.4 (omega (arith, t.0, c.in-Some.ensures)) t.1

pub erode_times-requires : goal.erode_times-requires
erode_times-requires c =
    let w = c.loop-length.invariant in
    (omega (arith, c.requires.0, w.plane.size), c.requires.2, turn-clean c.args.f.sheet c.requires.2 w)

pub take_size-requires : goal.take_size-requires
take_size-requires c =
    let w = c.loop-length.invariant in
    let i = c.loop-length.length-index in
    let t = length-at c.in-Some.last i c.args.lengths.now (omega (arith, c.in-Some.ensures, c.requires.1)) c.loop-length-test.true in (
      omega (arith, c.requires.0, w.plane.size),
      c.requires.2,
      turn-clean c.args.f.sheet c.requires.2 w,
      turn-room c.args.f.sheet c.requires.2 w c.requires.4 (omega (arith, t.0, c.in-Some.ensures)) t.1 c.requires.5,
    )

-- by either branch: out and work are what it left
pub loop-length-preserved : goal.loop-length-preserved
loop-length-preserved c =
    let a = c.args in
    let l = c.loop-length in
    let t = length-at c.in-Some.last l.length-index a.lengths.now (omega (arith, c.in-Some.ensures, c.requires.1)) c.loop-length-test.true in
    let end = l.end - get_or (take c.in-Some.last a.lengths.now) l.length-index 0 in
    let next : List ℕ → List ℕ → Type 0 = Written a.f.w a.f.h a.f.p a.element a.work.now (l.length-index + 1) a.total.symbols end in
    elim c.if-length-eq2.branch [
      | then-length-eq2 w ↦
          subst (next _) (sym w.out-is) (subst (λ (s : List ℕ). next s l.out) (sym w.work-is)
          (turn_two c.args.f.sheet c.requires.2 l.invariant c.requires.4 (omega (arith, t.0, c.in-Some.ensures)) t.1 w.if-length-eq2.true w.erode_times.ensures))
      | else-length-eq2 w ↦
          let p = w.take_size in
          subst (next _) (sym w.out-is) (subst (λ (s : List ℕ). next s p.new.out) (sym w.work-is)
          (turn-runs c.args.f.sheet c.requires.2 l.invariant c.requires.4 (omega (arith, t.0, c.in-Some.ensures)) t.1 p.ensures))
    ]

pub write_last-requires : goal.write_last-requires
write_last-requires c =
    let w = c.loop-length.invariant in
    let size = length-take-le c.in-Some.last c.args.lengths.now (omega (arith, c.in-Some.ensures, c.requires.1)) in
    let last : c.args.total.sizes ≡ c.loop-length.length-index + 1 = omega (arith, c.in-Some.ensures) in (
      omega (arith, c.requires.0, w.plane.size),
      last-room c.args.f.sheet c.requires.2 w c.requires.4 (omega (arith, last)) last c.requires.7 c.requires.5,
    )

pub returns : goal.returns
returns c =
    let w = c.loop-length.invariant in
    let e = c.write_last.ensures in
    let size = length-take-le c.in-Some.last c.args.lengths.now (omega (arith, c.in-Some.ensures, c.requires.1)) in
    let last : c.args.total.sizes ≡ c.loop-length.length-index + 1 = omega (arith, c.in-Some.ensures) in (
      last_all c.args.f.sheet c.requires.2 w c.requires.4 (omega (arith, last)) last c.requires.7 (λ i. (c.type_inv.out i).fits) e.0,
      e.1 ∙ w.plane.size,
      e.2 ∙ w.plane.rest,
    )
