-- `sieves::sieve` meets its contract: the first call's refusal alone, or the outcome of both calls.
use Rattle.sieves.proofs.RanLaws.{outcome_both, outcome_refused}
use Rattle.sieves.proofs.sieve.Goals as goal

pub returns-in_err-first : goal.returns-in_err-first
returns-in_err-first c =
    let a = c.args in
    outcome_refused a.w a.h a.element a.cut a.image.now a.labels.now a.work.now _ _ _ _ c.from_residual.ensures.1 c.in_err-first.ensures

pub returns : goal.returns
returns c =
    let a = c.args in
    outcome_both a.w a.h a.element a.cut a.image.now a.labels.now a.work.now _ _ _ _ _ _ c.in_ok-first.ensures c.reconstruct.ensures
