-- `decoding::read_code` meets its contract.
use mathlib.Core.Path.{ap}
use native.Mathlib.Omega.{arith}
use Rattle.iteration.proofs.StepLaws.{sheet-bytes}
use Rattle.morphology.specs.Element.{offsets}
use Rattle.decoding.specs.Marks.{mark_of}
use Rattle.decoding.proofs.CodeLaws.{code_as, code-blank}
use Rattle.decoding.proofs.read_code.Goals as goal

pub returns-in-None : goal.returns-in-None
returns-in-None c =
    let a = c.args in
    let bytes = sheet-bytes c.args.f.sheet in
    code_as bytes (ap mark_of c.in-None.is)
    (code-blank a.f.w a.f.h _ (offsets a.element) a.stream.now a.work.now _ _ bytes (omega (arith, bytes, c.requires.1)) (c.fill.ensures.after (λ y e. e)) c.when.ensures)
