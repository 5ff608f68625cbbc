-- Words that no mask covers: the state of a walk over one, between two points, and its end.
use mathlib.Core.Bool.{Bool, false}
use mathlib.Core.List.{List}
use mathlib.Core.Path.{◌∙◌, ◌≡◌, ap, refl, subst, sym}
use Prim.Native.Nat.{◌*◌, ◌+◌, ◌-◌, ◌<◌, ◌^◌, ◌≤◌, ℕ}
use native.Mathlib.Omega.{arith}
use lib.ListN.{drop, length-replicate, replicate}
use lib.Pow.{pow_mono, pow_pos}
use Rattle.std.specs.Prelude.{None, Option, Some}
use Rattle.reading.specs.Nexts.{Nearby, next_of}
use Rattle.reading.specs.Seeking.{next_run, seek}
use Rattle.reading.specs.declared.Next.{Next}
use Rattle.reading.specs.declared.Next.TheVariants.{Ended, Run}
use Rattle.reading.proofs.SeekLaws.{next-below}
use Rattle.seeking.specs.Words.{Advanced, Onward, WordSought, word_bits}
use Rattle.seeking.proofs.MaskedLaws.{MaskWalked}
use Rattle.seeking.proofs.OnwardLaws.{Over, free_open, onward-none, onward_on, onward_open, onward-over, onward-skipped, run_of, word-bits-zero}

-- a walk over m pixels from the stand of `place_open` has come to symbol j and to the last `top` pixels; v has its points
pub record OpenWalk (s : List ℕ) (limit m left at v top j : ℕ) : Type 0 where
  pub walk : Onward limit m (replicate m false) (seek left (drop at s)) v top (replicate top false) (next_run limit (drop j s))
  pub near : j + left + 2 ≤ at + 2 * (m - top)
  pub less : top < m

-- what follows at symbol j, as `next_run` says it
abbrev pub Follows : List ℕ → ℕ → ℕ → Option Next → Type 0
Follows s limit j next = (next_of s next ≡ next_run limit (drop j s)) × Nearby j next

-- how the walk ends
abbrev pub OpenWalked : List ℕ → ℕ → ℕ → ℕ → ℕ → ℕ → Option Next → Type 0
OpenWalked s limit m left at v next = WordSought s limit m (replicate m false) (seek left (drop at s)) v next × Advanced limit m left at next

-- at the first point
pub open-first : (s : List ℕ) (limit m left at : ℕ) → left < m → OpenWalk s limit m left at (2 ^ (m - left - 1)) (m - left - 1) at
open-first s limit m left at h = record { walk = onward_open limit m left (drop at s) h; near = omega arith; less = omega arith }

module _ {s : List ℕ} {limit m left at v top j : ℕ} (w : OpenWalk s limit m left at v top j) where
  -- the points fit a word
  pub open-small : m ≤ 64 → v < 2 ^ 64
  open-small h = omega (arith, w.walk.room, pow_pos top, pow_mono {i = m} {j = 64} h)

  -- over short runs
  pub open-short : (v' top' j' : ℕ)
      → Onward limit top (replicate top false) (next_run limit (drop j s)) v' top' (replicate top' false) (next_run limit (drop j' s))
      → j' + 2 * top' ≤ j + 2 * top → top' ≤ top → OpenWalk s limit m left at (v + v') top' j'
  open-short v' top' j' o n l = record { walk = onward_on w.walk o; near = omega (arith, w.near, w.less); less = omega (arith, w.less) }

  -- the size ends, or the symbols cannot be read
  pub open-over : (next : Option Next) → Over next → Follows s limit j next → OpenWalked s limit m left at v next
  open-over next o f = (onward-over s next o w.walk f.0 (length-replicate top false), near next o f.1)
    where
      near : (next : Option Next) → Over next → Nearby j next → Advanced limit m left at next
      near None o n = tt
      near (Some (Ended end)) o n = omega (arith, w.near, w.less)
      near (Some (Run run)) o n = absurd o

  module _ (k i : ℕ) (f : Follows s limit j (Some (run_of k i))) where
    -- a run goes on past the word
    pub open-skipped : top ≤ k → OpenWalked s limit m left at v (Some (run_of (k - top) i))
    open-skipped h =
        let e = free_open top in (
          subst (λ (n : ℕ). WordSought s limit m (replicate m false) (seek left (drop at s)) v (Some (run_of (k - n) i))) e
              (onward-skipped s k i w.walk (sym f.0) (length-replicate top false) (omega arith)),
          (omega (arith, w.near, w.less, f.1), omega (arith, next-below limit k (drop j s) (drop i s) f.0)),
        )

    -- it ends in the word
    pub open-run : k < top → OpenWalk s limit m left at (v + 2 ^ (top - k - 1)) (top - k - 1) i
    open-run h = record {
      walk = onward_on w.walk (rw (← f.0) (onward_open limit top k (drop i s) h));
      near = omega (arith, w.near, w.less, f.1);
      less = omega (arith, w.less);
    }

-- a run that goes past all pixels
pub open_none : (s : List ℕ) (limit m left at : ℕ) → m ≤ left → left < limit → OpenWalked s limit m left at 0 (Some (run_of (left - m) at))
open_none s limit m left at h l =
    let e = free_open m in (
      subst (λ (n : ℕ). WordSought s limit m (replicate m false) (seek left (drop at s)) 0 (Some (run_of (left - n) at))) e
          (onward-skipped s left at (onward-none limit m (replicate m false) (seek left (drop at s))) refl (length-replicate m false) (omega arith)),
      (omega arith, omega arith),
    )

-- no mask is a mask of 0
pub open_word : (s : List ℕ) (limit m mask left at v : ℕ) (next : Option Next) → mask ≡ 0 → OpenWalked s limit m left at v next
    → MaskWalked s limit m mask left at v next
open_word s limit m mask left at v next e w =
    (subst (λ (l : List Bool). WordSought s limit m l (seek left (drop at s)) v next) (sym (ap (word_bits m) e ∙ word-bits-zero m)) w.0, w.1)
