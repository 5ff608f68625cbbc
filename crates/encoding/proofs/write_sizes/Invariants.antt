-- `encoding::write_sizes` meets its contract.
-- The invariant: work holds the plane of size n, and out the sections of the sizes below it from `end` on. A section of two commas stands already; of any other
-- the runs are written, and the comma that ends it stands. The largest size is left to the end: no ink comes after it, so it is written without a mask, and its
-- section is what is before `end`.
use Rattle.encoding.proofs.WriteLaws.{Written}
use Rattle.encoding.proofs.write_sizes.Given as goal

abbrev pub invariant-loop-length : goal.invariant-loop-length
invariant-loop-length l = Written l.fn.f.w l.fn.f.h l.fn.f.p l.element l.initial.work l.length-index l.fn.total.symbols l.end l.work l.out
