-- `minimal::minimise_into` meets its contract.
-- What the rows of refusals let pass begins the count; the walk begins with what that leaves; counters and work are cleared. Neither clips a shape.
use Rattle.std.proofs.Common.{rules}
use Rattle.iteration.proofs.StepLaws.{sheet-small}
use Rattle.minimal.proofs.MinimiseLaws.{passed_begun, passed-cleared, passed-planes}
use Rattle.minimal.proofs.minimise_into.Goals as goal

pub count_up-counted-requires : goal.count_up-counted-requires
count_up-counted-requires c =
    let t = c.tallest-a in
    (passed_begun c.requires c.args.f.sheet t.result c.args.work.now t.ensures.0 t.ensures.1 (search rules) (search rules), c.requires.counters)

pub walk-walked-requires : goal.walk-walked-requires
walk-walked-requires c =
    let t = c.tallest-a in
    let u = c.count_up-counted.ensures in
    (passed_begun c.requires c.args.f.sheet t.result _ t.ensures.0 t.ensures.1 (search rules) u.work.size, u.counters)

pub clear_work-requires : goal.clear_work-requires
clear_work-requires c =
    (passed-planes c.requires c.args.f.sheet _ _ c.count_up-counted.ensures.work c.walk-walked.ensures.work, sheet-small c.args.f.sheet)

pub returns-clause-done : goal.returns-clause-done
returns-clause-done c =
    let w = c.walk-walked in
    let u = c.count_up-counted in
    record {
      labels = w.ensures.labels;
      points = c.points_of-points.ensures;
      work = passed-cleared c.requires c.args.f.sheet _ _ _ u.ensures.work w.ensures.work c.clear_work.ensures;
      counters = search rules;
    }
