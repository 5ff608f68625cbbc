-- `decoding::is_padding` meets its contract.
use native.Mathlib.Omega.{arith}
use Rattle.decoding.proofs.PaddingLaws.{padding-bits, padding_last, padding_long, padding-past}
use Rattle.decoding.proofs.is_padding.Goals as goal

pub returns-then-i-stream : goal.returns-then-i-stream
returns-then-i-stream c =
    let a = c.args in
    padding-past a.stream.now a.at c.if-i-stream.true

pub returns-then-at-eq0 : goal.returns-then-at-eq0
returns-then-at-eq0 c =
    let a = c.args in
    padding_long a.stream.now a.at (omega (arith, c.if-at-eq0.true, c.if-i-stream.false))

pub returns-then-more : goal.returns-then-more
returns-then-more c =
    let a = c.args in
    padding_long a.stream.now a.at (omega (arith, c.if-more.true))

pub nonzero_rem-result-2 : goal.nonzero_rem-result-2
nonzero_rem-result-2 c = padding-bits c.args.at c.if-at-eq0.false

pub returns : goal.returns
returns c =
    let a = c.args in
    padding_last a.stream.now a.at c.if-at-eq0.false (omega (arith, c.if-more.false, c.if-i-stream.false))
