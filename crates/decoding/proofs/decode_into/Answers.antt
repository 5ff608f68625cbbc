-- `decoding::decode_into` meets its contract.
use mathlib.Core.Path.{◌∙◌, ap, refl}
use Prim.Native.Nat.{ℕ}
use native.Mathlib.Omega.{arith}
use lib.ListN.{length-take, take}
use Rattle.iteration.proofs.StepLaws.{sheet-bytes, sheet-small}
use Rattle.morphology.specs.Image.{ones_of}
use Rattle.refusals.proofs.RowLaws.{number_ne-zero}
use Rattle.decoding.proofs.CodeLaws.{code-cleared, outcome_read, outcome-refused}
use Rattle.decoding.proofs.decode_into.Goals as goal

pub returns-in-Err : goal.returns-in-Err
returns-in-Err c =
    let a = c.args in
    let bytes = sheet-bytes c.args.f.sheet in
    let d = c.in-Err.ensures in
    outcome-refused d a.image.now _
    (code-cleared a.f.w a.f.h _ a.work.now _ _ bytes d.kept (omega (arith, bytes, d.kept.size, c.requires.2)) (c.fill.ensures.after (λ y e. e)))
    (number_ne-zero c.in-Err.refusal)

pub count_ones-ones-requires : goal.count_ones-ones-requires
count_ones-ones-requires c = omega (arith, length-take c.args.f.p c.read_code-read.new.work, sheet-small c.args.f.sheet)

pub returns : goal.returns
returns c =
    let a = c.args in
    let bytes = sheet-bytes c.args.f.sheet in
    let d = c.in_default.ensures in
    let same = ap (λ (p : ℕ). take p c.read_code-read.new.work) bytes in
    outcome_read d a.image.now _
    (code-cleared a.f.w a.f.h _ a.work.now _ _ bytes d.kept (omega (arith, bytes, d.kept.size, c.requires.2)) (c.fill-2.ensures.after (λ y e. e))) _ _ refl
    (c.count_ones-ones.ensures ∙ ap ones_of same) (c.copy.ensures ∙ same)
