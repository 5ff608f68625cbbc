-- `encoding::section_length`: the commas that end a section are one where it has runs, and two where it has none.
use mathlib.Core.Path.{◌∙◌, sym}
use native.Mathlib.Omega.{arith}
use Rattle.encoding.proofs.SizeLaws.{section-none, section-some}
use Rattle.encoding.proofs.section_length.Goals as goal

pub returns-then-runs-eq0 : goal.returns-then-runs-eq0
returns-then-runs-eq0 c = ((λ rs e. sym (section-none rs (sym e ∙ c.if-runs-eq0.true))), omega arith)

pub returns : goal.returns
returns c = ((λ rs e. omega (arith, section-some rs (λ z. c.if-runs-eq0.false (e ∙ z)))), omega arith)
