-- `calls::call` meets its contract: in each arm the operation's own outcome, beside the buffers that it does not have, is that of the number.
use mathlib.Core.List.{[], ◌∷◌}
use mathlib.Core.Path.{refl}
use Prim.Native.Nat.{◌≤◌}
use native.Mathlib.Omega.{arith}
use Rattle.morphology.specs.Answers.{foreground}
use Rattle.dilation.specs.Dilation.{dilation}
use Rattle.encoding.specs.Encoded.{written}
use Rattle.skeleton.specs.Decomposed.{found}
use Rattle.thinning.specs.Thinned.{done}
use Rattle.calls.specs.Called.{called}
use Rattle.calls.proofs.CallLaws.{called_as, called-dilated, found-kept, kept, owed, owed-beside, written-kept}
use Rattle.calls.proofs.call.Goals as goal

pub returns-in-0-clause-outcome : goal.returns-in-0-clause-outcome
unfolding called
returns-in-0-clause-outcome c =
    let a = c.args in
    (owed-beside (_ ∷ _ ∷ []) (_ ∷ []) (kept foreground (λ v. refl) c.erode.result) c.into.ensures c.erode.ensures
    (called_as a.w a.h a.a a.b a.x.now a.y.now a.z.now a.c.now 0 c.in-0.is)).0

pub returns-in-1-clause-outcome : goal.returns-in-1-clause-outcome
unfolding called
returns-in-1-clause-outcome c =
    let a = c.args in
    (owed-beside (_ ∷ _ ∷ []) (_ ∷ []) (kept foreground (λ v. refl) c.«open».result) c.into-in-1.ensures c.«open».ensures
    (called_as a.w a.h a.a a.b a.x.now a.y.now a.z.now a.c.now 1 c.in-1.is)).0

pub returns-in-2-clause-outcome : goal.returns-in-2-clause-outcome
unfolding called
returns-in-2-clause-outcome c =
    let a = c.args in
    (owed-beside (_ ∷ _ ∷ []) (_ ∷ []) (kept found found-kept c.decompose.result) c.into-in-2.ensures c.decompose.ensures
    (called_as a.w a.h a.a a.b a.x.now a.y.now a.z.now a.c.now 2 c.in-2.is)).0

pub returns-in-3-clause-outcome : goal.returns-in-3-clause-outcome
unfolding called
returns-in-3-clause-outcome c =
    let a = c.args in
    (owed-beside (_ ∷ _ ∷ []) (_ ∷ []) (kept foreground (λ v. refl) c.reconstruct.result) c.into-in-3.ensures c.reconstruct.ensures
    (called_as a.w a.h a.a a.b a.x.now a.y.now a.z.now a.c.now 3 c.in-3.is)).0

pub returns-in-4-clause-outcome : goal.returns-in-4-clause-outcome
unfolding called
returns-in-4-clause-outcome c =
    let a = c.args in
    (owed (_ ∷ _ ∷ _ ∷ []) (kept foreground (λ v. refl) c.minimise.result) c.into-in-4.ensures c.minimise.ensures
    (called_as a.w a.h a.a a.b a.x.now a.y.now a.z.now a.c.now 4 c.in-4.is)).0

pub returns-in-5-clause-outcome : goal.returns-in-5-clause-outcome
unfolding called
returns-in-5-clause-outcome c =
    let a = c.args in
    (owed-beside (_ ∷ []) (_ ∷ _ ∷ []) (kept foreground (λ v. refl) c.hit_or_miss.result) c.into-in-5.ensures c.hit_or_miss.ensures
    (called_as a.w a.h a.a a.b a.x.now a.y.now a.z.now a.c.now 5 c.in-5.is)).0

pub returns-in-6-clause-outcome : goal.returns-in-6-clause-outcome
unfolding called
returns-in-6-clause-outcome c =
    let a = c.args in
    (owed-beside (_ ∷ _ ∷ []) (_ ∷ []) (kept done (λ v. refl) c.thin.result) c.into-in-6.ensures c.thin.ensures
    (called_as a.w a.h a.a a.b a.x.now a.y.now a.z.now a.c.now 6 c.in-6.is)).0

pub returns-in-7-clause-outcome : goal.returns-in-7-clause-outcome
unfolding called
returns-in-7-clause-outcome c =
    let a = c.args in
    (owed-beside (_ ∷ _ ∷ []) (_ ∷ []) (kept written written-kept c.encode.result) c.into-in-7.ensures c.encode.ensures
    (called_as a.w a.h a.a a.b a.x.now a.y.now a.z.now a.c.now 7 c.in-7.is)).0

pub returns-in-8-clause-outcome : goal.returns-in-8-clause-outcome
unfolding called
returns-in-8-clause-outcome c =
    let a = c.args in
    (owed-beside (_ ∷ _ ∷ []) (_ ∷ []) (kept foreground (λ v. refl) c.decode.result) c.into-in-8.ensures c.decode.ensures
    (called_as a.w a.h a.a a.b a.x.now a.y.now a.z.now a.c.now 8 c.in-8.is)).0

pub returns-in-9-clause-outcome : goal.returns-in-9-clause-outcome
unfolding called
returns-in-9-clause-outcome c =
    let a = c.args in
    (owed-beside (_ ∷ _ ∷ []) (_ ∷ []) (kept foreground (λ v. refl) c.decode-in-9.result) c.into-in-9.ensures c.decode-in-9.ensures
    (called_as a.w a.h a.a a.b a.x.now a.y.now a.z.now a.c.now 9 c.in-9.is)).0

pub returns-in_default-clause-outcome : goal.returns-in_default-clause-outcome
returns-in_default-clause-outcome c =
    let a = c.args in
    let ten : 10 ≤ a.op = omega arith in
    (owed-beside (_ ∷ _ ∷ []) (_ ∷ []) (kept dilation (λ v. refl) c.dilate.result) c.into-in_default.ensures c.dilate.ensures
    (called-dilated a.w a.h a.a a.b a.x.now a.y.now a.z.now a.c.now a.op ten)).0
