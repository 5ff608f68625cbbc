-- A map is bad at every cut or at none: what the rows of a reconstruction and of a minimisation answer.
use mathlib.Core.Bool.{Bool, not}
use mathlib.Core.List.{List, [], ◌∷◌}
use mathlib.Core.Logic.{◌⊎◌, inl, inr}
use mathlib.Core.Path.{◌∙◌, ◌≡◌, refl}
use Prim.Native.Nat.{◌*◌, ◌≤◌, ℕ}
use borrow.Author.Tests.{le-ltb}
use lib.Dec.{T, T_not}
use lib.ListN.{length}
use Rattle.claims.specs.Claims.{Bad, Map, Sound}
use Rattle.claims.specs.Formula.{Offset}
use Rattle.claims.proofs.FormulaLaws.{bad_in, bad-out, offsets_are}
use Rattle.claims.proofs.RowLaws.{unless_number}
use Rattle.morphology.specs.Element.{offsets}
use Rattle.morphology.specs.Image.{plane_bytes}
use Rattle.morphology.specs.Minimal.{minimal_labels}
use Rattle.morphology.specs.Operations.{minimise_rows, minimised, reconstruct_rows, reconstructed, shortens, writes}
use Rattle.morphology.specs.Point.{Point}
use Rattle.morphology.specs.Refusals.{first_refusal, is_wild, max_side, row5, row7}
use Rattle.morphology.specs.Skeleton.{reconstruction}
use Rattle.morphology.proofs.ElementLaws.{Element, element}
use Rattle.morphology.proofs.RefusalLaws.{false_of, first_clear, first-hit, minimise-rows, reconstruct-rows}
use Rattle.morphology.proofs.TestLaws.{T_ext, decide}

module _ (W H e : ℕ) (m : List ℕ) (s : Map W H e m) where
  abbrev B : List Point
  B = offsets e

  abbrev wild : Bool
  wild = is_wild W H B m

  el : Element B
  el = element e s.element

  -- what is answered is left to the map, and to the cut
  rebuilt_number : (k : ℕ) (image work : List ℕ) → length image ≡ plane_bytes W H → 3 * plane_bytes W H ≤ length work
      → (reconstructed W H e k m image work).answer.refusal ≡ first_refusal (row5 W H B m ∷ row7 k ∷ [])
  unfolding reconstructed
  rebuilt_number k image work i w =
      unless_number (first_refusal (reconstruct_rows W H e k m image work)) (image ∷ work ∷ []) (writes W H (reconstruction W H B k m) work) refl
      ∙ reconstruct-rows W H e m s.sides s.element s.places k image work i w

  shortened_number : (work counters : List ℕ) → 3 * plane_bytes W H ≤ length work → length counters ≡ W * H
      → (minimised W H e m work counters).answer.refusal ≡ first_refusal (row5 W H B m ∷ [])
  unfolding minimised
  shortened_number work counters w c =
      unless_number (first_refusal (minimise_rows W H e m work counters)) (m ∷ work ∷ counters ∷ []) (shortens W H (minimal_labels W H B m) work) refl
      ∙ minimise-rows W H e m s.sides s.element s.places work counters w c

  bad : T wild → Bad W H e m
  bad t =
      let q = T_ext (λ u. tt) (λ u. t) in
      record {
        wild = bad_in B (Offset e) (offsets_are e) W H el m t;
        reconstruction = λ k image work i w. rebuilt_number k image work i w ∙ first-hit 5 wild (row7 k ∷ []) q;
        minimisation = λ work counters w c. shortened_number work counters w c ∙ first-hit 5 wild [] q;
      }

  sound : T (not wild) → Sound W H e m
  sound t =
      let q = false_of wild (T_not wild t) in
      record {
        stays = λ w. T_not wild t (bad-out B (Offset e) (offsets_are e) W H el m w);
        reconstruction = λ k image work h i w.
            rebuilt_number k image work i w ∙ first_clear (row5 W H B m ∷ row7 k ∷ []) (q, (le-ltb max_side k h, tt));
        minimisation = λ work counters w c. shortened_number work counters w c ∙ first_clear (row5 W H B m ∷ []) (q, tt);
      }

  pub bad-or_sound : Bad W H e m ⊎ Sound W H e m
  bad-or_sound = by (decide wild)
    where
      by : T wild ⊎ T (not wild) → Bad W H e m ⊎ Sound W H e m
      by (inl t) = inl (bad t)
      by (inr t) = inr (sound t)
