-- A loop that stores f i at i, for i from 0 up, one store a turn.
use mathlib.Core.Path.{◌∙◌, ◌≡◌, refl}
use mathlib.Core.List.{List}
use Prim.Native.Nat.{◌+◌, ◌<◌, ◌≤◌, ℕ}
use native.Mathlib.Nat.{not-suc-le-zero}
use native.Mathlib.Omega.{arith}
use borrow.Author.Count.{below_more}
use lib.ListN.{get_or, length, length-set, set}
use lib.Seq.{get_or-set_other, get_or-set_same}

-- l is l₀ with its first i elements made f's
pub record Mapped (f : ℕ → ℕ) (l₀ l : List ℕ) (i : ℕ) : Type 0 where
  pub size : length l ≡ length l₀
  pub done : (j : ℕ) → j < i → get_or l j 0 ≡ f j
  pub rest : (j : ℕ) → i ≤ j → get_or l j 0 ≡ get_or l₀ j 0

pub mapped-none : (f : ℕ → ℕ) (l₀ : List ℕ) → Mapped f l₀ l₀ 0
mapped-none f l₀ = record { size = refl; done = λ j h. absurd (not-suc-le-zero h); rest = λ j h. refl }

pub mapped_more : {f : ℕ → ℕ} {l₀ l : List ℕ} {i : ℕ} (v : ℕ) → i < length l₀ → v ≡ f i → Mapped f l₀ l i → Mapped f l₀ (set l i v) (i + 1)
mapped_more {f} {l₀} {l} {i} v h e m =
    let hl : i < length l = omega (arith, m.size) in
    record {
      size = length-set l i v ∙ m.size;
      done = below_more (λ (j : ℕ). get_or (set l i v) j 0 ≡ f j) i
          (λ j lt. get_or-set_other l i j v 0 (λ p. omega arith) ∙ m.done j lt)
          (get_or-set_same l i v 0 hl ∙ e);
      rest = λ j le. get_or-set_other l i j v 0 (λ p. omega arith) ∙ m.rest j (omega arith);
    }
