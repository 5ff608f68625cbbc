-- Masks that the table of refusals takes: what each has, and row 6 as the code tests it.
use mathlib.Core.Bool.{Bool, beq, ◌&&◌, false, not, true}
use mathlib.Core.Path.{◌∙◌, ◌≡◌, ap, ap₂, refl, sym}
use Prim.Native.Nat.{◌%◌, ◌/◌, ◌<◌, ◌^◌, ◌≤◌, ℕ}
use native.Mathlib.Omega.{arith}
use borrow.Author.Tests.{eq-eqb, le-ltb, lt-ltb, ne_eqb}
use lib.Bits.{and_lt, bit_and}
use lib.Dec.{T, eqb, eqb→eq, ltb, ltb→lt}
use Rattle.morphology.specs.Element.{bit, is_mask}
use Rattle.morphology.specs.Lists.{every_of, tabulate, up_to}
use Rattle.morphology.specs.Refusals.{row6}
use Rattle.morphology.proofs.BitLaws.{bit-and, odd}
use Rattle.morphology.proofs.TestLaws.{and_l, and_r, upto-out}

pub record MaskParts (fg bg : ℕ) : Type 0 where
  pub fg-small : fg < 512
  pub bg-small : bg < 512
  pub centre : fg / 16 % 2 ≡ 1

-- no bit in both
abbrev apart : ℕ → ℕ → Bool
apart fg bg = every_of (λ i. not (bit fg i && bit bg i)) (up_to 9)

pub mask_of : (fg bg : ℕ) → T (is_mask (fg, bg)) → MaskParts fg bg
unfolding is_mask
mask_of fg bg t =
    let s = and_l (ltb fg (2 ^ 9) && ltb bg (2 ^ 9)) (bit fg 4 && apart fg bg) t in
    let c = and_l (bit fg 4) (apart fg bg) (and_r (ltb fg (2 ^ 9) && ltb bg (2 ^ 9)) (bit fg 4 && apart fg bg) t) in
    record {
      fg-small = ltb→lt fg 512 (and_l (ltb fg (2 ^ 9)) (ltb bg (2 ^ 9)) s);
      bg-small = ltb→lt bg 512 (and_r (ltb fg (2 ^ 9)) (ltb bg (2 ^ 9)) s);
      centre = eqb→eq (fg / 2 ^ 4 % 2) 1 c;
    }

-- ---- row 6

pub mask_fg-high : (fg bg : ℕ) → 512 ≤ fg → true ≡ (row6 (fg, bg)).1
unfolding is_mask
mask_fg-high fg bg h = sym (ap (λ (b : Bool). not ((b && ltb bg (2 ^ 9)) && (bit fg 4 && apart fg bg))) (le-ltb fg 512 h))

pub mask_bg-high : (fg bg : ℕ) → fg < 512 → 512 ≤ bg → true ≡ (row6 (fg, bg)).1
unfolding is_mask
mask_bg-high fg bg hf h = sym (ap₂ (λ (a b : Bool). not ((a && b) && (bit fg 4 && apart fg bg))) (lt-ltb fg 512 hf) (le-ltb bg 512 h))

-- both numbers are small: the rest of row 6
mask-small : (fg bg : ℕ) → fg < 512 → bg < 512 → not (bit fg 4 && apart fg bg) ≡ (row6 (fg, bg)).1
unfolding is_mask
mask-small fg bg hf hb = sym (ap₂ (λ (a b : Bool). not ((a && b) && (bit fg 4 && apart fg bg))) (lt-ltb fg 512 hf) (lt-ltb bg 512 hb))

pub mask-no_centre : (fg bg : ℕ) → fg < 512 → bg < 512 → fg / 16 % 2 ≡ 0 → true ≡ (row6 (fg, bg)).1
mask-no_centre fg bg hf hb o = sym (ap (λ (b : Bool). not (b && apart fg bg)) (ne_eqb (fg / 2 ^ 4 % 2) 1 (λ q. omega arith))) ∙ mask-small fg bg hf hb

-- a number of nine bits without a bit is 0
no-bit : (n : ℕ) → n < 512 → eqb n 0 ≡ every_of (λ i. not (bit n i)) (up_to 9)
unfolding tabulate
no-bit n h = same (eqb n 0) (every_of (λ i. not (bit n i)) (up_to 9)) (upto-out (λ n. beq (eqb n 0) (every_of (λ i. not (bit n i)) (up_to 9))) 512 n h tt)
  where
    same : (a b : Bool) → T (beq a b) → a ≡ b
    same true true t = refl
    same true false t = absurd t
    same false true t = absurd t
    same false false t = refl

pub mask-apart : (fg bg : ℕ) → fg < 512 → bg < 512 → (fg / 16 % 2 ≡ 0 → ⊥) → not (eqb (bit_and fg bg) 0) ≡ (row6 (fg, bg)).1
unfolding tabulate
mask-apart fg bg hf hb o =
    ap not (no-bit (bit_and fg bg) (and_lt 9 fg bg hf hb) ∙ (λ i. every_of (λ k. not (bit-and fg bg k i)) (up_to 9)))
    ∙ sym (ap (λ (b : Bool). not (b && apart fg bg)) (eq-eqb (fg / 2 ^ 4 % 2) 1 (odd (fg / 16) o))) ∙ mask-small fg bg hf hb
