-- `sections::words::Measure::empty_runs` meets its contract: the place moves by two symbols a run.
use Rattle.sections.proofs.PenLaws.{up-empty}
use Rattle.sections.proofs.words.MeasurePen.empty_runs.Goals as goal

pub returns : goal.returns
returns c =
    let a = c.args in
    up-empty a.n a.out.now a.at
