-- Passes of thinning until one is idle, in the image and the first plane of work, and the promise of the whole call.
use mathlib.Core.List.{List, [], ◌++◌, ◌∷◌}
use mathlib.Core.Path.{◌∙◌, ◌≡◌, ap, ap₂, refl, subst, sym}
use Prim.Native.Nat.{◌*◌, ◌+◌, ◌-◌, ◌<◌, ◌≤◌, ℕ}
use native.Mathlib.Nat.{mul-le-mul_right}
use native.Mathlib.Omega.{arith}
use borrow.Author.Tests.{ne_eqb}
use lib.ListN.{drop, length, replicate}
use Rattle.morphology.specs.Answers.{outcome, thinned}
use Rattle.morphology.specs.Image.{image_set, ones_of, plane_bytes}
use Rattle.morphology.specs.Operations.{thin, thin_rows}
use Rattle.morphology.specs.Refusals.{first_refusal}
use Rattle.morphology.specs.Thinning.{golay_l, thin_pass}
use Rattle.morphology.proofs.AreaLaws.{area-ones}
use Rattle.morphology.proofs.PlaneLaws.{Plane, area_le}
use Rattle.morphology.proofs.ThinningLaws.{less, points}
use Rattle.raster.specs.Limits.{max_frame}
use Rattle.raster.specs.Frames.{Frame}
use Rattle.iteration.proofs.StepLaws.{work-cleared}
use Rattle.thinning.specs.Passes.{Ended, Leaves}
use Rattle.thinning.proofs.ThinTurns.{AfterPasses, passed_bound, passed_last, passed_start, passed_turn, plane_pass, thin-outcome}

module _ (W H p : ℕ) where
  -- the area of a plane is the count of its ones
  pub counted : (s : List ℕ) (n : ℕ) → Plane W H s → n ≡ ones_of s → n ≡ points W H s
  counted s n q e = e ∙ sym (area-ones W H s q.size q.bytes q.clean)

  pub points-small : (r : ℕ) (s : List ℕ) → Frame W H r → points W H s ≤ max_frame * max_frame
  points-small r s f = let a = f.across in let b = f.down in omega (arith, area_le W H (image_set W H s), mul-le-mul_right H a)

  -- s thinned by n passes, none of them idle: t, with an area of l
  pub record Running (before : ℕ) (s t work work' : List ℕ) (n l : ℕ) : Type 0 where
    pub passed : AfterPasses W H s n t
    pub plane : Plane W H t
    pub left : l ≡ points W H t
    pub bound : n + l ≤ before
    pub size : length work' ≡ length work
    pub rest : drop p work' ≡ drop p work

  pub running-start : (s work : List ℕ) (l : ℕ) → Plane W H s → l ≡ ones_of s → Running l s s work work 0 l
  running-start s work l q e = record {
    passed = passed_start W H s;
    plane = q;
    left = counted s l q e;
    bound = omega arith;
    size = refl;
    rest = refl;
  }

  -- one pass more
  module _ (before : ℕ) (s t u work work' work'' : List ℕ) (n l k : ℕ) (a : Running before s t work work' n l)
      (b : Leaves p (thin_pass W H golay_l t) u work' work'') where
    pub pass-plane : Plane W H u
    pass-plane = subst (Plane W H) (sym b.image) (plane_pass W H golay_l t a.plane)

    after : k ≡ ones_of u → k ≡ points W H (thin_pass W H golay_l t)
    after e = counted u k pass-plane e ∙ ap (points W H) b.image

    busy : k ≡ ones_of u → (k ≡ l → ⊥) → points W H t ≡ points W H (thin_pass W H golay_l t) → ⊥
    busy e f q = f (after e ∙ sym q ∙ sym a.left)

    pub running_less : k ≡ ones_of u → (k ≡ l → ⊥) → k < l
    running_less e f =
        let x = less W H t (ne_eqb (points W H t) (points W H (thin_pass W H golay_l t)) (busy e f)) in
        omega (arith, x, after e, a.left)

    pub running_turn : k ≡ ones_of u → (k ≡ l → ⊥) → Running before s u work work'' (n + 1) k
    running_turn e f = record {
      passed = subst (AfterPasses W H s (n + 1)) (sym b.image) (passed_turn W H s n t a.passed (busy e f));
      plane = pass-plane;
      left = counted u k pass-plane e;
      bound = omega (arith, passed_bound W H n before t (omega (arith, a.bound, a.left)) (busy e f), after e);
      size = b.size ∙ a.size;
      rest = b.rest ∙ a.rest;
    }

    pub running-end : k ≡ ones_of u → k ≡ l → before ≡ points W H s → Ended W H p s u work work'' (n + 1) (before - l) l
    running-end e f q =
        let same = sym a.left ∙ sym f ∙ after e in
        let left = sym f ∙ counted u k pass-plane e in
        record {
          thinned = passed_last W H s n t a.passed same ∙ ap (λ (i : List ℕ). record { image = i; passes = n + 1 }) (sym b.image);
          removed = ap₂ (λ (a b : ℕ). a - b) q left;
          left = left;
          size = b.size ∙ a.size;
          rest = b.rest ∙ a.rest;
        }

  -- ---- the whole call

  pub thin_done : (image work t u work' : List ℕ) (n k l : ℕ) → first_refusal (thin_rows W H image work) ≡ 0 → p ≡ plane_bytes W H
      → Ended W H p image t work u n k l → work' ≡ replicate (3 * p) 0 ++ drop (3 * p) u → outcome (thinned n k l) (t ∷ work' ∷ []) ≡ thin W H image work
  thin_done image work t u work' n k l z q d e =
      let w = e ∙ work-cleared W H p p work u q (omega arith) d.rest in
      ap₂ (λ (i j : ℕ). outcome (thinned n i j) (t ∷ work' ∷ [])) d.removed d.left
      ∙ ap (λ (s : List ℕ). outcome (thinned n (points W H image - points W H t) (points W H t)) (t ∷ s ∷ [])) w
      ∙ sym (thin-outcome W H image work t n z d.thinned)
