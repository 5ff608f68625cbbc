use Rattle.std.proofs.Common.{arith}
use Rattle.input.proofs.read_all.Goals as goal

pub loop-done-smaller-in-Ok : goal.loop-done-smaller-in-Ok
loop-done-smaller-in-Ok g c = omega arith

pub loop-done-smaller : goal.loop-done-smaller
loop-done-smaller g c = omega arith
