-- `planes::morph_plane` meets its contract: the first plane and what stands from q on are lent apart.
use Rattle.std.proofs.Common.{◌++◌, List, ap, arith, ℕ}
use Rattle.planes.proofs.CentreLaws.{plane-joined, plane-lent}
use Rattle.planes.proofs.morph_plane.Goals as goal

pub returns : goal.returns
returns c =
    let a = c.args in
    let s = c.split_at_mut-first.ensures in
    plane-joined a.dilating a.q a.f.r a.f.h a.element _ a.work.now _ _ c.requires.0 (c.begin_plane-rest.ensures a.dilating)
    (plane-lent a.dilating a.q a.f.r a.f.h _ _ _ _ c.requires.0 (omega arith) (ap (λ (l : List ℕ). l ++ c.join_plane.new.out) s.front)
    (rw (s.front, s.back) at c.join_plane.ensures))
