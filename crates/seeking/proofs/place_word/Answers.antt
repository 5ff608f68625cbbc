-- `seeking::place_word` meets its contract: under a mask by `place_masked`; with no mask and a run that goes on past the word there is no point.
use Prim.Native.Nat.{◌-◌}
use Rattle.std.specs.Prelude.{Some}
use Rattle.coding.specs.Symbols.{symbols_of}
use Rattle.seeking.proofs.OnwardLaws.{run_of}
use Rattle.seeking.proofs.OpenWordLaws.{open_none, open_word}
use Rattle.seeking.proofs.place_word.Goals as goal

pub returns-then-m-run : goal.returns-then-m-run
returns-then-m-run c =
    let a = c.args in
    let b = symbols_of a.stream.now in
    open_word b a.limit a.m a.mask a.run.left a.run.at 0 (Some (run_of (a.run.left - a.m) a.run.at)) c.if-mask-ne0.false
    (open_none b a.limit a.m a.run.left a.run.at c.if-m-run.true c.requires.4)

pub returns : goal.returns
returns c =
    let a = c.args in
    let p = c.place_open.result in
    open_word (symbols_of a.stream.now) a.limit a.m a.mask a.run.left a.run.at p.points p.next c.if-mask-ne0.false c.place_open.ensures
