-- Passes of thinning end at the first that removes nothing.
use mathlib.Core.Bool.{Bool, false, true}
use mathlib.Core.List.{List}
use mathlib.Core.Logic.{◌≢◌}
use mathlib.Core.Path.{◌∙◌, ◌≡◌, ap, refl}
use Prim.Native.Nat.{◌<◌, ◌≤◌, suc, zero, ℕ}
use native.Mathlib.Omega.{arith}
use borrow.Author.Tests.{eqb-false, eqb-true}
use lib.Dec.{eqb}
use Rattle.claims.specs.Claims.{after, points_after}
use Rattle.morphology.specs.Thinning.{Thinned, thin_passes}
use Rattle.morphology.proofs.ThinningLaws.{ends, less, pass, passes-suc, points}

-- t is what the passes of s end in, the last of them idle, after n that are not
pub record Stopped (W H : ℕ) (s : List ℕ) (t : Thinned) (n : ℕ) : Type 0 where
  pub idle : points_after n W H s ≡ points_after (suc n) W H s
  pub busy : (j : ℕ) → j < n → points_after j W H s ≢ points_after (suc j) W H s
  pub left : t.image ≡ after (suc n) W H s
  pub passes : t.passes ≡ suc n

module _ (W H : ℕ) where
  -- whether the first pass is idle
  abbrev is_idle : List ℕ → Bool
  is_idle s = eqb (points W H s) (points W H (pass W H s))

  -- it is: the passes end with it
  stop_now : (f : ℕ) (s : List ℕ) → is_idle s ≡ true → Stopped W H s (thin_passes (suc f) W H s) 0
  unfolding after
  stop_now f s e =
      let t : thin_passes (suc f) W H s ≡ ends W H s (thin_passes f W H (pass W H s)) true =
      passes-suc W H f s ∙ ap (ends W H s (thin_passes f W H (pass W H s))) e in
      record {
        idle = eqb-true (points W H s) (points W H (pass W H s)) e;
        busy = λ j h. absurd (omega arith);
        left = ap (λ (t : Thinned). t.image) t;
        passes = ap (λ (t : Thinned). t.passes) t;
      }

  -- it is not: they end as those from the next image on
  stop_later : (f n : ℕ) (s : List ℕ) → is_idle s ≡ false → Stopped W H (pass W H s) (thin_passes f W H (pass W H s)) n
      → Stopped W H s (thin_passes (suc f) W H s) (suc n)
  unfolding after
  stop_later f n s e r =
      let t : thin_passes (suc f) W H s ≡ ends W H s (thin_passes f W H (pass W H s)) false =
      passes-suc W H f s ∙ ap (ends W H s (thin_passes f W H (pass W H s))) e in
      record {
        idle = r.idle;
        busy = busy;
        left = ap (λ (t : Thinned). t.image) t ∙ r.left;
        passes = ap (λ (t : Thinned). t.passes) t ∙ ap suc r.passes;
      }
    where
      busy : (j : ℕ) → j < suc n → points_after j W H s ≢ points_after (suc j) W H s
      busy zero h = eqb-false (points W H s) (points W H (pass W H s)) e
      busy (suc j) h = r.busy j (omega arith)

  pub passes_stop : (f : ℕ) (s : List ℕ) → points W H s ≤ f → (n : ℕ) × Stopped W H s (thin_passes (suc f) W H s) n
  passes_stop zero s h = by (is_idle s) refl
    where
      by : (b : Bool) → is_idle s ≡ b → (n : ℕ) × Stopped W H s (thin_passes 1 W H s) n
      by true e = (0, stop_now 0 s e)
      by false e = absurd (omega (arith, less W H s e))
  passes_stop (suc f) s h = by (is_idle s) refl (passes_stop f (pass W H s))
    where
      by : (b : Bool) → is_idle s ≡ b → (points W H (pass W H s) ≤ f → (n : ℕ) × Stopped W H (pass W H s) (thin_passes (suc f) W H (pass W H s)) n)
          → (n : ℕ) × Stopped W H s (thin_passes (suc (suc f)) W H s) n
      by true e ih = (0, stop_now (suc f) s e)
      by false e ih = let r = ih (omega (arith, less W H s e)) in (suc r.0, stop_later (suc f) r.0 s e r.1)
