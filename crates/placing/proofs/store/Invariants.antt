-- `placing::store` meets its contract. The invariant: the first i bytes are joined.
use Rattle.placing.proofs.RowLaws.{BytesJoined}
use Rattle.placing.proofs.store.Given as goal

abbrev pub invariant-loop-i : goal.invariant-loop-i
invariant-loop-i l = BytesJoined l.a l.n l.v l.i l.initial.plane l.plane
