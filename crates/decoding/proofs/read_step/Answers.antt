-- `decoding::read_step` meets its contract.
use mathlib.Core.Logic.{inl, inr}
use mathlib.Core.List.{◌++◌}
use mathlib.Core.Path.{◌∙◌, refl, sym}
use Prim.Native.Nat.{◌*◌, ◌-◌}
use native.Mathlib.Omega.{arith}
use lib.ListN.{drop, take}
use Rattle.coding.specs.Symbols.{symbols_of}
use Rattle.morphology.specs.Element.{offsets}
use Rattle.morphology.specs.Image.{image_set}
use Rattle.decoding.proofs.StepLaws.{Found, lent-clean, lent-mask, lent-size, mask-over, pair_found, part-found, part-unread, second-kept, step_done}
use Rattle.decoding.proofs.read_step.Goals as goal
use Rattle.decoding.proofs.read_step.Goals.{In_ok-end}

-- the size read, joined to the mask
found : (c : In_ok-end) → let a = c.args in
    let v = c.grow.new.work in
    let k = 2 * a.f.p - a.f.p in
    Found a.f.w a.f.h a.f.p (offsets a.element) (image_set a.f.w a.f.h a.work.now) (symbols_of a.stream.now) a.at c.in_ok-end.end a.work.now
    (take a.f.p v ++ (c.read_size.new.plane ++ drop k (drop a.f.p v)))
found c =
    let a = c.args in
    part-found c.requires.0 (sym c.grow.ensures.answer ∙ c.if-grow.false) (mask-over c.requires.0 (c.grow.ensures.grown c.if-grow.false))
    (2 * a.f.p - a.f.p) (omega arith) (symbols_of a.stream.now) c.read_size.new.plane a.at c.in_ok-end.end c.in_ok-end.ensures

pub returns-then-grow : goal.returns-then-grow
returns-then-grow c =
    let e = c.grow.ensures in
    (second-kept (record { size = e.size; first = e.first; second = refl; rest = e.rest }), inl (sym e.answer ∙ c.if-grow.true))

pub read_size-requires : goal.read_size-requires
read_size-requires c =
    let p = c.args.f.p in
    let k = c.requires.0 in
    let stays = sym c.grow.ensures.answer ∙ c.if-grow.false in
    let part_is = lent-mask k stays (2 * p - p) (omega arith) (mask-over k (c.grow.ensures.grown c.if-grow.false)) in
    (c.requires.1, lent-size k stays part_is, lent-clean k stays part_is, c.requires.2)

pub returns-in_err-end : goal.returns-in_err-end
returns-in_err-end c =
    let a = c.args in
    let k = c.requires.0 in
    let u =
    part-unread k (sym c.grow.ensures.answer ∙ c.if-grow.false) (mask-over k (c.grow.ensures.grown c.if-grow.false)) (2 * a.f.p - a.f.p) (omega arith)
    (symbols_of a.stream.now) c.read_size.new.plane a.at c.in_err-end.ensures in
    rw c.from_residual.ensures (u.0, inr u.1)

pub is_eroded-chained-requires : goal.is_eroded-chained-requires
is_eroded-chained-requires c =
    let a = c.args in
    let f = found (goal.at.is_eroded-chained-requires c).In_ok-end in
    let s = symbols_of a.stream.now in
    pair_found c.requires.0 (sym c.grow.ensures.answer ∙ c.if-grow.false) (drop a.at s) f.points (drop c.in_ok-end.end s) f.reads f.second

pub returns : goal.returns
returns c =
    let a = c.args in
    let f = found (goal.at.returns c).In_ok-end in
    let s = symbols_of a.stream.now in
    step_done c.requires.0 (sym c.grow.ensures.answer ∙ c.if-grow.false) (drop a.at s) f.points (drop c.in_ok-end.end s) f.reads f.second a.at c.in_ok-end.end
    c.is_eroded-chained.ensures c.copy_down.ensures f.near s refl refl
