-- `sections::words::Write::end_run` meets its contract: the digits are written before a comma that stands.
use native.Mathlib.Omega.{arith}
use Rattle.sections.proofs.PenLaws.{down_one, length_one}
use Rattle.sections.proofs.words.WritePen.end_run.Goals as goal

pub put_run-requires : goal.put_run-requires
put_run-requires c =
    let a = c.args in
    let r = c.requires in
    (omega (arith, r.small), omega (arith, r.inside tt, length_one a.run), λ k l. r.commas tt k (omega (arith, length_one a.run)))

pub returns : goal.returns
returns c =
    let a = c.args in
    let p = c.put_run in
    down_one a.run a.out.now a.at p.result p.ensures.next p.new.stream c.requires p.ensures.symbols
