-- `decoding::read_map` meets its contract.
use mathlib.Core.Bool.{not}
use mathlib.Core.Option.{some}
use mathlib.Core.Path.{ap, refl}
use native.Mathlib.Omega.{arith}
use Rattle.morphology.specs.Element.{offsets}
use Rattle.reading.proofs.SizesLaws.{sizes_large}
use Rattle.decoding.proofs.CodeLaws.{code-end, code_long, code-refused}
use Rattle.decoding.proofs.read_map.Goals as goal

pub returns-then-largest-ge-MAX_SIDE : goal.returns-then-largest-ge-MAX_SIDE
returns-then-largest-ge-MAX_SIDE c =
    let a = c.args in
    code-refused a.f.w a.f.h (offsets a.element) (some a.largest) a.stream.now {k = 5} 9 (omega arith) (record { size = refl; rest = refl })
    (sizes_large a.f.w a.f.h (offsets a.element) a.stream.now a.largest c.if-largest-ge-MAX_SIDE.true) (λ z. omega arith)

pub returns-then-not-is_padding : goal.returns-then-not-is_padding
returns-then-not-is_padding c =
    let a = c.args in
    let r = c.in-Some in
    code_long a.f.w a.f.h a.f.p (offsets a.element) a.largest a.stream.now a.work.now c.read_sizes.new.work r.field-0 r.ensures _ c.is_padding.ensures
    (ap not c.if-not-is_padding.true)

pub returns-in-None : goal.returns-in-None
returns-in-None c =
    let a = c.args in
    let e = c.in-None.ensures in
    code-refused a.f.w a.f.h (offsets a.element) (some a.largest) a.stream.now 9 (omega arith) e.0 e.1 (λ z. omega arith)

pub returns-else-not-is_padding : goal.returns-else-not-is_padding
returns-else-not-is_padding c =
    let a = c.args in
    let r = c.in-Some in
    code-end a.f.w a.f.h a.f.p (offsets a.element) a.largest a.stream.now a.work.now c.read_sizes.new.work r.field-0 r.ensures _ c.is_padding.ensures _
    (ap not c.if-not-is_padding.false) c.when.ensures
