-- A walk over the pixels of a word that a mask covers in part, from one point to the next.
use mathlib.Core.Bool.{Bool, false}
use mathlib.Core.List.{List, ◌++◌, ◌∷◌}
use mathlib.Core.Path.{◌∙◌, ◌≡◌, ap, refl, subst, sym}
use Prim.Native.Nat.{◌%◌, ◌*◌, ◌+◌, ◌-◌, ◌/◌, ◌<◌, ◌^◌, ◌≤◌, ℕ}
use native.Mathlib.Nat.{div-eq_of_lt, le_of_suc-le-suc, lt_of_lt_of_le, lt_of_not-le, not-le_of_lt}
use native.Mathlib.Omega.{arith}
use lib.Bits.{bit_xor, xor_lt}
use lib.Count.{ones, ones-le}
use lib.Dec.{T, eqb}
use lib.ListN.{drop, length}
use lib.Pow.{ones_lt, pow-lt, pow_mono, shr_lt}
use Rattle.std.specs.Prelude.{None, Option, Some}
use Rattle.morphology.specs.Element.{bit}
use Rattle.reading.specs.Nexts.{Nearby, next_of}
use Rattle.reading.specs.Seeking.{next_run, seek}
use Rattle.reading.specs.declared.Next.{Next}
use Rattle.reading.specs.declared.Next.TheVariants.{Ended, Run}
use Rattle.reading.proofs.SeekLaws.{free_of, next-below}
use Rattle.sections.proofs.WordLaws.{low_lt, power, power_is}
use Rattle.seeking.specs.Words.{Advanced, Onward, WordSought, barred, word_bits}
use Rattle.seeking.proofs.BarLaws.{barred-at, barred_low, barred-mask, free-barred, length-barred}
use Rattle.seeking.proofs.OnwardLaws.{Over, onward-none, onward_on, onward-over, onward-point, onward-skipped, run_of}

-- the pixels above some height are walked; the free ones below it are in `free`
pub record MaskWalk (s : List ℕ) (limit m mask left at points free k j : ℕ) : Type 0 where
  pub top : ℕ
  pub short : top ≤ m
  pub fits : free < 2 ^ top
  pub onward : Onward limit m (word_bits m mask) (seek left (drop at s)) points top (barred top free) (seek k (drop j s))
  pub moved : j + left ≤ at + k + 2 * (m - top)
  pub below : k < limit

-- none is walked at first
pub masked-none : (s : List ℕ) (limit m all mask left at : ℕ) → all ≡ 2 ^ m - 1 → mask < 2 ^ m → left < limit
    → MaskWalk s limit m mask left at 0 (bit_xor all mask) left at
masked-none s limit m all mask left at full f h =
    let t = seek left (drop at s) in
    let l = word_bits m mask in
    record {
      top = m;
      short = omega arith;
      fits = xor_lt m all mask (subst (λ (x : ℕ). x < 2 ^ m) (sym full) (ones_lt m)) f;
      onward = subst (λ (x : List Bool). Onward limit m l t 0 m x t) (sym (barred-mask m all mask full)) (onward-none limit m l t);
      moved = omega arith;
      below = h;
    }

-- a bit that is set makes a number as large as it is
bit_le : (v h : ℕ) → T (bit v h) → 2 ^ h ≤ v
bit_le v h b = le_of_suc-le-suc (lt_of_not-le (λ (g : v < 2 ^ h). subst T (ap (λ (x : ℕ). eqb (x % 2) 1) (div-eq_of_lt g)) b))

-- and is below the height of the number
bit_below : (n v h : ℕ) → v < 2 ^ n → T (bit v h) → h < n
bit_below n v h l b = lt_of_not-le (λ (g : n ≤ h). not-le_of_lt (lt_of_lt_of_le l (pow_mono g)) (bit_le v h b))

-- a walk over the whole word: its points, and what follows it
abbrev pub MaskWalked : List ℕ → ℕ → ℕ → ℕ → ℕ → ℕ → ℕ → Option Next → Type 0
MaskWalked s limit m mask left at points next =
    WordSought s limit m (word_bits m mask) (seek left (drop at s)) points next × Advanced limit m left at next

module _ {s : List ℕ} {limit m mask left at points free k j : ℕ} (w : MaskWalk s limit m mask left at points free k j) where
  -- it ends where no more free pixels are left than the run has
  pub masked-end : (count : ℕ) → count ≡ ones free → count ≤ k → MaskWalked s limit m mask left at points (Some (run_of (k - count) j))
  masked-end count e l =
      let f : free_of (barred w.top free) ≡ count = free-barred w.top free w.fits ∙ sym e in
      let few = ones-le w.top free w.fits in
      let fits : count ≤ w.top = omega arith in (
        subst (λ (x : ℕ). WordSought s limit m (word_bits m mask) (seek left (drop at s)) points (Some (run_of (k - x) j))) f
            (onward-skipped s k j w.onward refl (length-barred w.top free) (omega arith)),
        (omega (arith, w.moved, w.short), omega (arith, w.below)),
      )

  -- the run begins in reach
  pub masked-near : m ≤ 64 → limit < 2 ^ 24 → at < 2 ^ 39 → j < 2 ^ 40
  masked-near x y z = omega (arith, w.moved, w.below)

  -- past the point at height h
  module _ (h : ℕ) (p : (h < 64) × T (bit free h) × (ones (free / 2 ^ (h + 1)) ≡ k)) where
    lower : h < w.top
    lower = bit_below w.top free h w.fits p.1

    -- the pixels that the run has are above it
    above : k + h + 1 ≤ w.top
    above =
        let n = w.top - h - 1 in
        let e : w.top ≡ n + (h + 1) = omega (arith, lower) in
        omega (arith, ones-le n (free / 2 ^ (h + 1)) (shr_lt n (h + 1) (subst (λ (x : ℕ). free < 2 ^ x) e w.fits)), p.2)

    -- the word has room for it
    pub masked-room : m ≤ 64 → points + power h < 2 ^ 64
    masked-room l =
        subst (λ (x : ℕ). points + x < 2 ^ 64) (sym (power_is h p.0))
        (lt_of_lt_of_le (omega (arith, w.onward.room, pow-lt lower)) (pow_mono l))

    past : Onward limit m (word_bits m mask) (seek left (drop at s)) (points + power h) h (barred h (free % power h)) (next_run limit (drop j s))
    past =
        let n = next_run limit (drop j s) in
        let r = barred h free in
        let here = seek k (drop j s) in
        let a = barred-at w.top free h w.fits lower p.1 in
        let size : length r ≡ h = length-barred h free in
        let one : Onward limit w.top (a.0 ++ (false ∷ r)) here (2 ^ length r) (length r) r n =
        onward-point limit w.top k a.0 r (drop j s) (omega (arith, a.3, lower)) (a.2 ∙ p.2) in
        let two : Onward limit w.top (barred w.top free) here (2 ^ h) h r n =
        subst (λ (x : ℕ). Onward limit w.top (barred w.top free) here (2 ^ x) x r n) size
        (subst (λ (l : List Bool). Onward limit w.top l here (2 ^ length r) (length r) r n) (sym a.1) one) in
        subst (λ (x : ℕ). Onward limit m (word_bits m mask) (seek left (drop at s)) (points + x) h (barred h (free % x)) n) (sym (power_is h p.0))
        (onward_on w.onward (subst (λ (l : List Bool). Onward limit w.top (barred w.top free) here (2 ^ h) h l n) (sym (barred_low h free)) two))

    -- where the size ends, or the symbols cannot be read
    pub masked-over : (next : Option Next) → Over next → next_of s next ≡ next_run limit (drop j s) → Nearby j next
        → MaskWalked s limit m mask left at (points + power h) next
    masked-over next o e n = (onward-over s next o past e (length-barred h (free % power h)), near next o n)
      where
        near : (next : Option Next) → Over next → Nearby j next → Advanced limit m left at next
        near None o n = tt
        near (Some (Ended end)) o n = omega (arith, w.moved, w.short, above)
        near (Some (Run run)) o n = absurd o

    -- where a run follows
    pub masked-run : (left' next : ℕ) → next_of s (Some (run_of left' next)) ≡ next_run limit (drop j s) → Nearby j (Some (run_of left' next))
        → MaskWalk s limit m mask left at (points + power h) (free % power h) left' next
    masked-run left' next e n = record {
      top = h;
      short = omega (arith, lower, w.short);
      fits = low_lt free h p.0;
      onward = subst (Onward limit m (word_bits m mask) (seek left (drop at s)) (points + power h) h (barred h (free % power h))) (sym e) past;
      moved = omega (arith, w.moved, w.short, above);
      below = next-below limit left' (drop j s) (drop next s) e;
    }

    -- fewer free pixels are left
    pub masked_less : free % power h < free
    masked_less = lt_of_lt_of_le (low_lt free h p.0) (bit_le free h p.1)
