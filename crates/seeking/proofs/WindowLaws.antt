-- Windows: a word that shows some symbols of a stream in its highest bits, two bits a symbol; and the runs of one or two digits that it shows.
use mathlib.Core.Bool.{false}
use mathlib.Core.List.{List}
use mathlib.Core.Path.{◌∙◌, ◌≡◌, ap, ap₂, refl, subst, sym}
use Prim.Native.Nat.{◌%◌, ◌*◌, ◌+◌, ◌-◌, ◌/◌, ◌<◌, ◌^◌, ◌≤◌, suc, zero, ℕ}
use native.Mathlib.Nat.{div-one, mod-eq_of_lt, mod-lt, zero-lt-suc}
use native.Mathlib.Omega.{arith}
use lib.Dec.{T, eqb}
use lib.ListN.{drop, get_or, length, replicate}
use lib.Pow.{field, mod-mod-pow, pow-lt, pow_mono, pow_pos, shl-shr, shr_lt, shr-shr}
use Rattle.coding.specs.Symbols.{symbols_of}
use Rattle.coding.proofs.PackLaws.{length_symbols, symbols-at}
use Rattle.morphology.specs.Element.{bit}
use Rattle.morphology.specs.Image.{bit_of}
use Rattle.raster.specs.Rows.{row_bit}
use Rattle.raster.proofs.RowLaws.{row_bit-at}
use Rattle.reading.specs.Seeking.{next_run, seek}
use Rattle.reading.proofs.TakeLaws.{digit_read, symbol-place, taken-first, taken_more, taken-run}
use Rattle.sections.specs.Words.{Word}
use Rattle.seeking.specs.Words.{Onward}
use Rattle.seeking.proofs.OnwardLaws.{onward-none, onward_on, onward_open}

-- ---- a symbol is two bits

-- a bit that is tested is known
bit_of_lem : (a b : ℕ) → a < 2 → b < 2 → eqb a 1 ≡ eqb b 1 → a ≡ b
bit_of_lem zero zero h k e = refl
bit_of_lem zero (suc zero) h k e = absurd (subst T (sym e) tt)
bit_of_lem (suc zero) zero h k e = absurd (subst T e tt)
bit_of_lem (suc zero) (suc zero) h k e = refl
bit_of_lem zero (suc (suc b)) h k e = absurd (omega arith)
bit_of_lem (suc zero) (suc (suc b)) h k e = absurd (omega arith)
bit_of_lem (suc (suc a)) b h k e = absurd (omega arith)

-- two bits at a height
two-bits : (n h : ℕ) → n / 2 ^ h % 4 ≡ n / 2 ^ (h + 1) % 2 * 2 + n / 2 ^ h % 2
two-bits n h = let x = n / 2 ^ h in let e : x / 2 ≡ n / 2 ^ (h + 1) = shr-shr n h 1 in omega arith

-- equal where both bits are
bits-same : (a b h k : ℕ) → bit a (h + 1) ≡ bit b (k + 1) → bit a h ≡ bit b k → a / 2 ^ h % 4 ≡ b / 2 ^ k % 4
bits-same a b h k p q =
    let m : (n : ℕ) → n % 2 < 2 = λ n. mod-lt n (zero-lt-suc 1) in
    two-bits a h
    ∙ ap₂ (λ (x y : ℕ). x * 2 + y) (bit_of_lem (a / 2 ^ (h + 1) % 2) (b / 2 ^ (k + 1) % 2) (m (a / 2 ^ (h + 1))) (m (b / 2 ^ (k + 1))) p)
    (bit_of_lem (a / 2 ^ h % 2) (b / 2 ^ k % 2) (m (a / 2 ^ h)) (m (b / 2 ^ k)) q)
    ∙ sym (two-bits b k)

-- ---- windows

-- the word v shows the symbols of s from j on, up to symbol e
pub record Window (s : List ℕ) (v j e : ℕ) : Type 0 where
  pub small : v < 2 ^ 64
  pub near : e ≤ j + 32
  pub inside : e ≤ length s
  pub shown : (k : ℕ) → j + k < e → get_or s (j + k) 0 ≡ v / 2 ^ (62 - 2 * k) % 4

-- symbol k of eight bytes at byte i, by the word that they are
module _ (b : List ℕ) (i v : ℕ) (w : Word b (8 * i) 64 v) (k : ℕ) (small : k < 32) where
  -- the byte, and the place there
  abbrev q : ℕ
  q = (4 * i + k) / 4

  abbrev r : ℕ
  r = (4 * i + k) % 4

  low : r < 4
  low = mod-lt (4 * i + k) (zero-lt-suc 3)

  -- both bits
  word-bit : (t : ℕ) → t < 2 → bit (get_or b q 0) (7 - (2 * r + t)) ≡ bit v (64 - 1 - (2 * k + t))
  unfolding bit_of
  word-bit t h =
      let x : 8 * q + (2 * r + t) ≡ 8 * i + (2 * k + t) = omega arith in
      sym (row_bit-at b q (2 * r + t) (omega (arith, low))) ∙ ap (row_bit b) x ∙ sym (w.pixels (2 * k + t) (omega arith))

  word_symbol : get_or (symbols_of b) (4 * i + k) 0 ≡ v / 2 ^ (62 - 2 * k) % 4
  word_symbol =
      let y : 6 - 2 * r + 1 ≡ 7 - (2 * r + 0) = omega (arith, low) in
      let y' : 6 - 2 * r ≡ 7 - (2 * r + 1) = omega arith in
      let z : 64 - 1 - (2 * k + 0) ≡ 62 - 2 * k + 1 = omega arith in
      let z' : 64 - 1 - (2 * k + 1) ≡ 62 - 2 * k = omega arith in
      symbols-at b (4 * i + k) ∙ ap (λ (n : ℕ). get_or b q 0 / n % 4) (sym (symbol-place r low))
      ∙ bits-same (get_or b q 0) v (6 - 2 * r) (62 - 2 * k) (ap (bit (get_or b q 0)) y ∙ word-bit 0 (omega arith) ∙ ap (bit v) z)
      (ap (bit (get_or b q 0)) y' ∙ word-bit 1 (omega arith) ∙ ap (bit v) z')

-- the symbols of eight bytes
word_window : (b : List ℕ) (i v : ℕ) → i + 8 ≤ length b → Word b (8 * i) 64 v → Window (symbols_of b) v (4 * i) (4 * i + 32)
word_window b i v h w = record {
  small = w.small;
  near = omega arith;
  inside = omega (arith, length_symbols b);
  shown = λ k l. word_symbol b i v w k (omega arith);
}

-- k symbols further on
pub window_shift : {s : List ℕ} {v j e : ℕ} (k : ℕ) → Window s v j e → Window s (v * 2 ^ (2 * k) % 2 ^ 64) (j + k) e
window_shift {s} {v} {j} {e} k w = record {
  small = mod-lt (v * 2 ^ (2 * k)) (pow_pos 64);
  near = omega (arith, w.near);
  inside = w.inside;
  shown = λ i l.
      let m : j + k + i ≡ j + (k + i) = omega arith in
      let a : 64 ≡ 2 * i + 2 + (62 - 2 * i) = omega (arith, w.near) in
      let b : 62 - 2 * i ≡ 2 * k + (62 - 2 * (k + i)) = omega (arith, w.near) in
      let h : ℕ = 62 - 2 * i in
      let x : ℕ = v * 2 ^ (2 * k) in
      ap (λ (n : ℕ). get_or s n 0) m ∙ w.shown (k + i) (omega arith)
      ∙ sym (ap (λ (n : ℕ). x % 2 ^ n / 2 ^ h % 4) a ∙ ap (λ (n : ℕ). n % 4) (field x (2 * i + 2) h) ∙ mod-mod-pow (x / 2 ^ h) (2 * i) 2
      ∙ ap (λ (n : ℕ). x / 2 ^ n % 4) b ∙ ap (λ (n : ℕ). n % 4) (sym (shr-shr x (2 * k) (62 - 2 * (k + i))))
      ∙ ap (λ (n : ℕ). n / 2 ^ (62 - 2 * (k + i)) % 4) (shl-shr v (2 * k)));
}

-- 29 symbols from symbol `at` on, of the eight bytes that begin with the one that has it
pub window_load : (b : List ℕ) (at v : ℕ) → at / 4 + 8 ≤ length b → Word b (8 * (at / 4)) 64 v
    → Window (symbols_of b) (v * 2 ^ (2 * (at % 4)) % 2 ^ 64) at (at + 29)
window_load b at v h w =
    let p = window_shift (at % 4) (word_window b (at / 4) v h w) in
    let i : 4 * (at / 4) + at % 4 ≡ at = omega arith in
    let u = v * 2 ^ (2 * (at % 4)) % 2 ^ 64 in
    let q = subst (λ (j : ℕ). Window (symbols_of b) u j (4 * (at / 4) + 32)) i p in
    record { small = q.small; near = omega arith; inside = omega (arith, q.inside); shown = λ k l. q.shown k (omega arith) }

-- ---- the runs that a window shows

module _ {s : List ℕ} {v j e : ℕ} (w : Window s v j e) (more : j + 3 ≤ e) where
  -- the first three symbols, in its six highest bits
  three-small : v / 2 ^ 58 < 64
  three-small = shr_lt 6 58 w.small

  three-at : (k : ℕ) → k < 3 → get_or s (j + k) 0 ≡ v / 2 ^ 58 / 2 ^ (4 - 2 * k) % 4
  three-at k h =
      let e : 62 - 2 * k ≡ 58 + (4 - 2 * k) = omega arith in
      w.shown k (omega arith) ∙ ap (λ (n : ℕ). v / 2 ^ n % 4) e ∙ ap (λ (n : ℕ). n % 4) (sym (shr-shr v 58 (4 - 2 * k)))

  first_is : get_or s j 0 ≡ v / 2 ^ 58 / 16
  first_is =
      let e : j ≡ j + 0 = omega arith in
      ap (λ (n : ℕ). get_or s n 0) e ∙ three-at 0 (omega arith) ∙ mod-eq_of_lt (omega (arith, three-small))

  second_is : get_or s (j + 1) 0 ≡ v / 2 ^ 58 / 4 % 4
  second_is = three-at 1 (omega arith)

  third_is : get_or s (j + 2) 0 ≡ v / 2 ^ 58 % 4
  third_is = three-at 2 (omega arith) ∙ ap (λ (n : ℕ). n % 4) (div-one (v / 2 ^ 58))

-- a run of one digit
next_one : (s : List ℕ) (j limit d : ℕ) → j + 2 ≤ length s → get_or s j 0 ≡ suc d → get_or s (j + 1) 0 ≡ 0 → d < limit
    → next_run limit (drop j s) ≡ seek d (drop (j + 2) s)
next_one s j limit d h a b l =
    let t = taken-first s j limit d (omega arith) a in
    let m : j + 1 + 1 ≡ j + 2 = omega arith in
    sym (taken-run s j limit d (j + 1) t (omega arith) b l) ∙ ap (λ (k : ℕ). seek d (drop k s)) m

-- a run of two digits
next_two : (s : List ℕ) (j limit d c : ℕ) → j + 3 ≤ length s → get_or s j 0 ≡ suc d → get_or s (j + 1) 0 ≡ suc c → get_or s (j + 2) 0 ≡ 0 → 0 < d
    → d * 3 + c < limit → next_run limit (drop j s) ≡ seek (d * 3 + c) (drop (j + 3) s)
next_two s j limit d c h x y z p l =
    let t = taken_more s j limit d (j + 1) (taken-first s j limit d (omega arith) x) (omega arith) c y (λ e. omega arith) in
    let m : j + 1 + 1 ≡ j + 2 = omega arith in
    let n : j + 1 + 1 + 1 ≡ j + 3 = omega arith in
    sym (taken-run s j limit (d * 3 + c) (j + 1 + 1) t (omega arith) (ap (λ (k : ℕ). get_or s k 0) m ∙ z) l) ∙ ap (λ (k : ℕ). seek (d * 3 + c) (drop k s)) n

-- n symbols, from j on, are a run of p - 1 pixels and its comma
pub record ShortRun (s : List ℕ) (j p n : ℕ) : Type 0 where
  pub point : 0 < p
  pub some : 0 < n
  pub few : n ≤ 3
  pub each : n ≤ 2 * p
  pub taken : (limit : ℕ) → p ≤ limit → next_run limit (drop j s) ≡ seek (p - 1) (drop (j + n) s)

module _ {s : List ℕ} {v j e : ℕ} (w : Window s v j e) (more : j + 3 ≤ e) where
  -- one digit and a comma
  pub shown_one : (v / 2 ^ 58 / 16 ≡ 0 → ⊥) → v / 2 ^ 58 / 4 % 4 ≡ 0 → ShortRun s j (v / 2 ^ 58 / 16) 2
  shown_one f z =
      let a : ℕ = v / 2 ^ 58 / 16 in
      let x : get_or s j 0 ≡ suc (a - 1) = digit_read a (get_or s j 0) (sym (first_is w more)) f in
      record {
        point = omega arith;
        some = omega arith;
        few = omega arith;
        each = omega arith;
        taken = λ limit l. next_one s j limit (a - 1) (omega (arith, w.inside)) x (second_is w more ∙ z) (omega arith);
      }

  -- two digits and a comma
  pub shown_two : 2 ≤ v / 2 ^ 58 / 16 → (v / 2 ^ 58 / 4 % 4 ≡ 0 → ⊥) → v / 2 ^ 58 % 4 ≡ 0
      → ShortRun s j (3 * (v / 2 ^ 58 / 16) + v / 2 ^ 58 / 4 % 4 - 3) 3
  shown_two h f z =
      let a : ℕ = v / 2 ^ 58 / 16 in
      let b : ℕ = v / 2 ^ 58 / 4 % 4 in
      let x : get_or s j 0 ≡ suc (a - 1) = digit_read a (get_or s j 0) (sym (first_is w more)) (λ e. omega arith) in
      let y : get_or s (j + 1) 0 ≡ suc (b - 1) = digit_read b (get_or s (j + 1) 0) (sym (second_is w more)) f in
      let p : (a - 1) * 3 + (b - 1) ≡ 3 * a + b - 3 - 1 = omega arith in
      record {
        point = omega arith;
        some = omega arith;
        few = omega arith;
        each = omega arith;
        taken = λ limit l.
            next_two s j limit (a - 1) (b - 1) (omega (arith, w.inside)) x y (third_is w more ∙ z) (omega arith) (omega arith)
            ∙ ap (λ (k : ℕ). seek k (drop (j + 3) s)) p;
      }

-- ---- the state of a loop over the runs that a window shows

-- from symbol `at` of s to j runs were read that end in the first of `top` pixels, none of them masked; `rest` are left, and v has the points
pub record ShortWalk (s : List ℕ) (at top v rest j window : ℕ) : Type 0 where
  pub walk : (limit : ℕ) → top ≤ limit
      → Onward limit top (replicate top false) (next_run limit (drop at s)) v rest (replicate rest false) (next_run limit (drop j s))
  pub near : j + 2 * rest ≤ at + 2 * top
  pub less : rest ≤ top
  pub symbols : Window s window j (at + 29)

-- none at first
pub short_none : (s : List ℕ) (at top window : ℕ) → Window s window at (at + 29) → ShortWalk s at top 0 top at window
short_none s at top window w = record {
  walk = λ limit l. onward-none limit top (replicate top false) (next_run limit (drop at s));
  near = omega arith;
  less = omega arith;
  symbols = w;
}

module _ {s : List ℕ} {at top v rest j window : ℕ} (t : ShortWalk s at top v rest j window) {p n : ℕ} (r : ShortRun s j p n) (fits : p ≤ rest) where
  -- there is room for one point more
  pub short-room : top ≤ 64 → v + 2 ^ (rest - p) < 2 ^ 64
  short-room h =
      let a = pow-lt {i = rest - p} {j = rest} (omega (arith, r.point)) in
      omega (arith, (t.walk top (omega arith)).room, pow_mono {i = top} {j = 64} h)

  -- one run more
  pub short_on : ShortWalk s at top (v + 2 ^ (rest - p)) (rest - p) (j + n) (window * 2 ^ (2 * n) % 2 ^ 64)
  short_on = record {
    walk = λ limit l.
        let e : rest - (p - 1) - 1 ≡ rest - p = omega (arith, r.point) in
        let o = onward_open limit rest (p - 1) (drop (j + n) s) (omega (arith, r.point)) in
        onward_on (t.walk limit l)
        (rw (r.taken limit (omega (arith, t.less)), ← e) o);
    near = omega (arith, t.near, r.each);
    less = omega (arith, t.less);
    symbols = window_shift n t.symbols;
  }
