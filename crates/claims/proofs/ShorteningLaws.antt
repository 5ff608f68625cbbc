-- What minimisation leaves, on every accepted map, by what reconstruction at cut 0 makes of it.
use mathlib.Core.Bool.{Bool, ◌&&◌, false, not}
use mathlib.Core.List.{List, [], ◌∷◌}
use mathlib.Core.Logic.{◌≢◌}
use mathlib.Core.Path.{◌∙◌, ◌≡◌, ap, ap₂, refl, subst, sym}
use Prim.Native.Nat.{◌*◌, ◌<◌, ◌≤◌, suc, zero, zero-le, ℕ}
use native.Mathlib.Omega.{arith}
use lib.Dec.{T, eqb}
use lib.ListN.{get_or, length, length-set, set}
use Rattle.claims.specs.Claims.{Minimal}
use Rattle.claims.proofs.AcceptedLaws.{minimised-accepted}
use Rattle.morphology.specs.Answers.{Outcome, output}
use Rattle.morphology.specs.Element.{is_element, offsets}
use Rattle.morphology.specs.Image.{pack, plane_bytes}
use Rattle.morphology.specs.Lists.{greatest}
use Rattle.morphology.specs.Minimal.{minimal_labels}
use Rattle.morphology.specs.Operations.{minimised, reconstruct_rows, reconstructed, writes}
use Rattle.morphology.specs.Point.{Point}
use Rattle.morphology.specs.Refusals.{first_refusal, is_side, is_wild, not_places, not_plane, row1, row2, row3, row7, short_work, unless}
use Rattle.morphology.specs.Skeleton.{reconstruction}
use Rattle.morphology.proofs.CountLaws.{get_or-greatest}
use Rattle.morphology.proofs.CoverLaws.{of-covered, reconstruct_sub, sub_on, sub-tame, to-covered}
use Rattle.morphology.proofs.ElementLaws.{Element, element}
use Rattle.morphology.proofs.FrameLaws.{OnFrame}
use Rattle.morphology.proofs.MinimalLaws.{Sub, minimal-covered, minimal_done, minimal-length, minimal_sub, own-pixel, set_sub, sub-label}
use Rattle.morphology.proofs.MorphologyLaws.{set_ext, ⊆_of_eq}
use Rattle.morphology.proofs.PlaneLaws.{pack_inj}
use Rattle.morphology.proofs.ReconstructLaws.{reconstruction_on}
use Rattle.morphology.proofs.RefusalLaws.{T_of-not, fits-plane, lengths-out, reconstruct-passes, unless_in}

module _ (W H e : ℕ) (sides : T (is_side W && is_side H)) (te : T (is_element e)) where
  abbrev B : List Point
  B = offsets e

  -- the rows of a reconstruction at cut 0 see the length of the labels, and whether a point leaves the frame
  rows_as : (m m' image work : List ℕ) → length m' ≡ length m → is_wild W H B m' ≡ is_wild W H B m
      → first_refusal (reconstruct_rows W H e 0 m' image work) ≡ first_refusal (reconstruct_rows W H e 0 m image work)
  rows_as m m' image work =
      ap₂ (λ (n : ℕ) (wild : Bool).
      first_refusal
      (row1 W H ∷ row2 e ∷ row3 (not (eqb n (W * H)) ∷ not_plane W H image ∷ short_work W H work ∷ []) ∷ (5, wild) ∷ row7 0 ∷ []))

  -- labels that are taken are rebuilt, whatever image and work hold
  rebuilt : (m image work : List ℕ) → length m ≡ W * H → is_wild W H B m ≡ false → length image ≡ plane_bytes W H → 3 * plane_bytes W H ≤ length work
      → reconstructed W H e 0 m image work ≡ writes W H (reconstruction W H B 0 m) work
  unfolding reconstructed
  rebuilt m image work places tame i w =
      unless_in (first_refusal (reconstruct_rows W H e 0 m image work)) (image ∷ work ∷ []) (writes W H (reconstruction W H B 0 m) work)
      (reconstruct-passes W H e m sides te places 0 image work i w tame zero-le)

  minimal_of : (m : List ℕ) → length m ≡ W * H → is_wild W H B m ≡ false → Minimal W H e m (minimal_labels W H B m)
  unfolding minimal_labels reconstructed
  minimal_of m places tame = record {
    part = sub;
    unchanged = λ image work.
        ap₂ (λ (n : ℕ) (X : Point → Bool). unless n (image ∷ work ∷ []) (writes W H X work)) (rows_as m m' image work long (tame' ∙ sym tame)) same;
    accepted = λ image work i w. ap (λ (o : Outcome). o.answer.refusal) (rebuilt m' image work places' tame' i w);
    irredundant = λ image work i w j h v q.
        let less = rebuilt (set m' j 0) image work (length-set m' j 0 ∙ places') (sub-tame W H B el (set m' j 0) m' (set_sub m' j) tame') i w in
        lost j h (get_or m' j 0) refl v (sym (ap output less) ∙ q ∙ ap output (rebuilt m' image work places' tame' i w));
  }
    where
      el : Element B
      el = element e te

      m' : List ℕ
      m' = minimal_labels W H B m

      sub : Sub m' m
      sub = minimal_sub W H B (greatest m) m

      long : length m' ≡ length m
      long = minimal-length W H B (greatest m) m

      places' : length m' ≡ W * H
      places' = long ∙ places

      tame' : is_wild W H B m' ≡ false
      tame' = sub-tame W H B el m' m sub tame

      same : reconstruction W H B 0 m' ≡ reconstruction W H B 0 m
      same = set_ext (reconstruct_sub W H B el m' m sub) (λ z t. of-covered W H B el m' z (minimal-covered W H B (greatest m) m z (to-covered W H B el m z t)))

      on : OnFrame W H (reconstruction W H B 0 m')
      on = reconstruction_on W H B el m' tame' 0

      lost : (i : ℕ) → i < W * H → (v : ℕ) → get_or m' i 0 ≡ v → get_or m' i 0 ≢ 0
          → pack W H (reconstruction W H B 0 (set m' i 0)) ≡ pack W H (reconstruction W H B 0 m') → ⊥
      lost i h zero p v q = v p
      lost i h (suc n) p v q =
          let s : n < greatest m = omega (arith, get_or-greatest m i, sub-label m' m sub i n p) in
          let z = own-pixel W H B m' i n h p (minimal_done W H B (greatest m) n i m s h p) in
          let r = pack_inj W H (reconstruction W H B 0 (set m' i 0)) (reconstruction W H B 0 m') (sub_on W H B el (set m' i 0) m' (set_sub m' i) on) on q in
          z.2 (to-covered W H B el (set m' i 0) z.0 (⊆_of_eq (sym r) z.0 (of-covered W H B el m' z.0 z.1)))

-- every accepted map
pub shortening : (W H e : ℕ) (labels work counters : List ℕ) → (minimised W H e labels work counters).answer.refusal ≡ 0
    → Minimal W H e labels (output (minimised W H e labels work counters))
shortening W H e labels work counters h =
    let a = minimised-accepted W H e labels work counters h in
    let c = a.clear in
    let places = fits-plane (length labels) (W * H) (lengths-out (not_places W H labels ∷ short_work W H work ∷ not_places W H counters ∷ []) c.1.1.0).0 in
    subst (λ (k : List ℕ). Minimal W H e labels k) (sym (ap output a.is))
    (minimal_of W H e (T_of-not (is_side W && is_side H) c.0) (T_of-not (is_element e) c.1.0) labels places c.1.1.1.0)
