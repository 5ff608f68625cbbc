-- Thinning turn by turn: a pass as a walk over the masks, and passes with a counter until one leaves the area as it was.
use mathlib.Core.Bool.{Bool, ◌&&◌, false, not}
use mathlib.Core.List.{List, [], ◌++◌, ◌∷◌}
use mathlib.Core.Path.{◌∙◌, ◌≡◌, ap, refl, sym}
use Prim.Native.Nat.{◌+◌, ◌-◌, ◌<◌, ◌≤◌, suc, zero, ℕ}
use native.Mathlib.Nat.{le_refl, zero-add}
use native.Mathlib.Numerals.{add-one}
use native.Mathlib.Omega.{arith}
use borrow.Author.Tests.{eq-eqb, ne_eqb}
use lib.ListN.{get_or, take}
use lib.Seq.{take-suc}
use Rattle.morphology.specs.Answers.{Outcome, outcome, thinned}
use Rattle.morphology.specs.Image.{image_set}
use Rattle.morphology.specs.Operations.{cleared, thin, thin_rows}
use Rattle.morphology.specs.Point.{Point}
use Rattle.morphology.specs.Refusals.{first_refusal}
use Rattle.morphology.specs.Thinning.{Thinned, golay_l, hit, thin_pass, thin_passes, thin_step}
use Rattle.morphology.proofs.ImageLaws.{image_on}
use Rattle.morphology.proofs.PlaneLaws.{Plane, on_sub, plane-pack}
use Rattle.morphology.proofs.RefusalLaws.{unless_in}
use Rattle.morphology.proofs.TestLaws.{and_l}
use Rattle.morphology.proofs.ThinningLaws.{ends, less, pass, passes-suc, points, thin-enough}

module _ (W H : ℕ) where
  -- ---- a pass

  -- a step leaves a plane
  pub plane_step : (m : ℕ × ℕ) (s : List ℕ) → Plane W H (thin_step W H m s)
  unfolding thin_step
  plane_step m s =
      let X = image_set W H s in
      let Y : Point → Bool = λ z. X z && not (hit W H m X z) in
      plane-pack W H Y (on_sub W H Y X (λ z t. and_l (X z) (not (hit W H m X z)) t) (image_on W H s))

  pub plane_pass : (ms : List (ℕ × ℕ)) (s : List ℕ) → Plane W H s → Plane W H (thin_pass W H ms s)
  unfolding thin_pass
  plane_pass [] s p = p
  plane_pass (m ∷ ms) s p = plane_pass ms (thin_step W H m s) (plane_step m s)

  pass_append : (ms : List (ℕ × ℕ)) (m : ℕ × ℕ) (s : List ℕ) → thin_pass W H (ms ++ (m ∷ [])) s ≡ thin_step W H m (thin_pass W H ms s)
  unfolding thin_pass
  pass_append [] m s = refl
  pass_append (k ∷ ms) m s = pass_append ms m (thin_step W H k s)

  -- the image after the first k masks
  abbrev pub masks_below : ℕ → List ℕ → List ℕ
  masks_below k s = thin_pass W H (take k golay_l) s

  pub masks-start : (s : List ℕ) → masks_below 0 s ≡ s
  unfolding thin_pass
  masks-start s = refl

  -- one mask more
  pub masks_turn : (k : ℕ) (s : List ℕ) → k < 8 → masks_below (k + 1) s ≡ thin_step W H (get_or golay_l k (0, 0)) (masks_below k s)
  masks_turn k s h = ap (λ (ms : List (ℕ × ℕ)). thin_pass W H ms s) (ap (λ (i : ℕ). take i golay_l) (add-one k) ∙ take-suc golay_l k (0, 0) h)
      ∙ pass_append (take k golay_l) (get_or golay_l k (0, 0)) s

  -- ---- passes

  -- the image of r with another number of passes
  abbrev counted : Thinned → ℕ → Thinned
  counted r n = record { image = r.image; passes = n }

  -- n passes before those of r
  abbrev pub after : ℕ → Thinned → Thinned
  after n r = record { image = r.image; passes = n + r.passes }

  -- thinning s₀ is n passes, then thinning t
  abbrev pub AfterPasses : List ℕ → ℕ → List ℕ → Type 0
  AfterPasses s₀ n t = thin_passes (suc (points W H s₀)) W H s₀ ≡ after n (thin_passes (suc (points W H t)) W H t)

  pub passed_start : (s : List ℕ) → AfterPasses s 0 s
  passed_start s =
      let r = thin_passes (suc (points W H s)) W H s in
      ap (counted r) (sym (zero-add r.passes))

  -- a pass that is not idle
  pub passed_turn : (s₀ : List ℕ) (n : ℕ) (t : List ℕ) → AfterPasses s₀ n t → (points W H t ≡ points W H (pass W H t) → ⊥) → AfterPasses s₀ (n + 1) (pass W H t)
  passed_turn s₀ n t q f = q ∙ ap (after n) (passes-suc W H (points W H t) t
      ∙ ap (ends W H t (thin_passes (points W H t) W H u)) (ne_eqb (points W H t) (points W H u) f)) ∙ one (points W H t) refl
    where
      u : List ℕ
      u = pass W H t

      fewer : points W H u < points W H t
      fewer = less W H t (ne_eqb (points W H t) (points W H u) f)

      shift : (r : Thinned) → ◌≡◌ {A = Thinned} (record { image = r.image; passes = n + suc r.passes }) (after (n + 1) r)
      shift r = let q : n + suc r.passes ≡ n + 1 + r.passes = omega arith in ap (counted r) q

      one : (k : ℕ) → points W H t ≡ k → after n (ends W H t (thin_passes k W H u) false) ≡ after (n + 1) (thin_passes (suc (points W H u)) W H u)
      one zero e = absurd (omega (arith, fewer))
      one (suc k) e =
          ap (λ (r : Thinned). after n (ends W H t r false)) (thin-enough W H (points W H u) k u (le_refl (points W H u)) (omega (arith, fewer)))
          ∙ shift (thin_passes (suc (points W H u)) W H u)

  -- the idle pass is the last one
  pub passed_last : (s₀ : List ℕ) (n : ℕ) (t : List ℕ) → AfterPasses s₀ n t → points W H t ≡ points W H (pass W H t)
      → thin_passes (suc (points W H s₀)) W H s₀ ≡ record { image = pass W H t; passes = n + 1 }
  passed_last s₀ n t q e =
      let u = pass W H t in
      q ∙ ap (after n) (passes-suc W H (points W H t) t ∙ ap (ends W H t (thin_passes (points W H t) W H u)) (eq-eqb (points W H t) (points W H u) e))

  -- each pass that is not idle removes a point: the measure, and the bound of the counter
  pub passed_bound : (n p : ℕ) (t : List ℕ) → n + points W H t ≤ p → (points W H t ≡ points W H (pass W H t) → ⊥)
      → n + 1 + points W H (pass W H t) ≤ p
  passed_bound n p t h f = let l = less W H t (ne_eqb (points W H t) (points W H (pass W H t)) f) in omega arith

  -- ---- the promise of thinning

  -- from what the passes leave
  pub thin-outcome : (image work t : List ℕ) (n : ℕ) → first_refusal (thin_rows W H image work) ≡ 0
      → ◌≡◌ {A = Thinned} (thin_passes (suc (points W H image)) W H image) (record { image = t; passes = n })
      → thin W H image work ≡ outcome (thinned n (points W H image - points W H t) (points W H t)) (t ∷ cleared W H work ∷ [])
  unfolding thin
  thin-outcome image work t n z q =
      unless_in (first_refusal (thin_rows W H image work)) (image ∷ work ∷ []) (left (thin_passes (suc (points W H image)) W H image)) z ∙ ap left q
    where
      -- what thinning leaves
      left : Thinned → Outcome
      left r =
          let k = points W H r.image in
          outcome (thinned r.passes (points W H image - k) k) (r.image ∷ cleared W H work ∷ [])
