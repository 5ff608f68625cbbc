-- Symbols and bytes: there and back, up to padding; one symbol written into its byte, or two.
use mathlib.Core.List.{List, [], ◌++◌, ◌∷◌}
use mathlib.Core.Path.{◌∙◌, ◌≡◌, ap, ap₂, refl, subst, sym}
use Prim.Native.Nat.{◌%◌, ◌*◌, ◌+◌, ◌-◌, ◌/◌, ◌<◌, ◌^◌, suc, zero, ℕ}
use native.Mathlib.Nat.{div-add-mod', div-one, mod-lt, zero-div, zero-lt-suc}
use native.Mathlib.Numerals.{add-one}
use native.Mathlib.Omega.{arith}
use lib.Dec.{T, ltb, ltb→lt}
use lib.ListN.{get_or, length, length-set, replicate, set}
use lib.Pow.{are_bytes}
use lib.Seq.{get_or-set_other, get_or-set_same, set-set, sets}
use Rattle.coding.specs.Symbols.{pack_symbols, quad, symbols_of}
use Rattle.morphology.proofs.TestLaws.{and_l, and_r}

-- ---- bytes again

quad_of : (v : ℕ) → v < 256 → quad (v / 64 % 4) (v / 16 % 4) (v / 4 % 4) (v % 4) ≡ v
quad_of v h =
    let p : v / 16 ≡ v / 4 / 4 = omega arith in
    let q : v / 64 ≡ v / 16 / 4 = omega arith in
    let a : v / 64 % 4 ≡ v / 64 = omega arith in
    let b : v / 64 * 4 + v / 16 % 4 ≡ v / 16 = omega (arith, div-add-mod' (v / 16) 4) in
    let c : v / 16 * 4 + v / 4 % 4 ≡ v / 4 = omega (arith, div-add-mod' (v / 4) 4) in
    ap (λ (k : ℕ). quad k (v / 16 % 4) (v / 4 % 4) (v % 4)) a ∙ ap (λ (k : ℕ). (k * 4 + v / 4 % 4) * 4 + v % 4) b
    ∙ ap (λ (k : ℕ). k * 4 + v % 4) c ∙ div-add-mod' v 4

pub pack-symbols : (bytes : List ℕ) → T (are_bytes bytes) → pack_symbols (symbols_of bytes) ≡ bytes
unfolding pack_symbols symbols_of
pack-symbols [] t = refl
pack-symbols (v ∷ bytes) t =
    let h = ltb→lt v 256 (and_l (ltb v 256) (are_bytes bytes) t) in
    ap₂ (λ (a : ℕ) (l : List ℕ). a ∷ l) (quad_of v h) (pack-symbols bytes (and_r (ltb v 256) (are_bytes bytes) t))

-- ---- symbols again, with the padding after them

pub four : (a b c d : ℕ) (l m : List ℕ) → a < 4 → b < 4 → c < 4 → d < 4 → l ≡ m
    → ◌≡◌ {A = List ℕ} (quad a b c d / 64 % 4 ∷ quad a b c d / 16 % 4 ∷ quad a b c d / 4 % 4 ∷ quad a b c d % 4 ∷ l) (a ∷ b ∷ c ∷ d ∷ m)
four a b c d l m ha hb hc hd e =
    let p : quad a b c d / 64 % 4 ≡ a = omega arith in
    let q : quad a b c d / 16 % 4 ≡ b = omega arith in
    let r : quad a b c d / 4 % 4 ≡ c = omega arith in
    let s : quad a b c d % 4 ≡ d = omega arith in
    cc

-- ---- padding that fills a byte changes nothing

pub pack_padded : (s : List ℕ) (n : ℕ) → n < 4 → (length s + n) % 4 ≡ 0 → pack_symbols (s ++ replicate n 0) ≡ pack_symbols s
unfolding pack_symbols
pack_padded [] n h e = let q : n ≡ 0 = omega arith in ap (λ (k : ℕ). pack_symbols (replicate k 0)) q
pack_padded (a ∷ []) n h e = let q : n ≡ 3 = omega arith in ap (λ (k : ℕ). pack_symbols (a ∷ replicate k 0)) q
pack_padded (a ∷ b ∷ []) n h e = let q : n ≡ 2 = omega arith in ap (λ (k : ℕ). pack_symbols (a ∷ b ∷ replicate k 0)) q
pack_padded (a ∷ b ∷ c ∷ []) n h e = let q : n ≡ 1 = omega arith in ap (λ (k : ℕ). pack_symbols (a ∷ b ∷ c ∷ replicate k 0)) q
pack_padded (a ∷ b ∷ c ∷ d ∷ s) n h e = ap (λ (l : List ℕ). quad a b c d ∷ l) (pack_padded s n h (omega arith))

-- ---- by index

pub length-pack-symbols : (s : List ℕ) → length (pack_symbols s) ≡ (length s + 3) / 4
unfolding pack_symbols
length-pack-symbols [] = refl
length-pack-symbols (a ∷ []) = refl
length-pack-symbols (a ∷ b ∷ []) = refl
length-pack-symbols (a ∷ b ∷ c ∷ []) = refl
length-pack-symbols (a ∷ b ∷ c ∷ d ∷ s) = let h = length-pack-symbols s in omega arith

pub length_symbols : (bytes : List ℕ) → length (symbols_of bytes) ≡ length bytes * 4
unfolding symbols_of
length_symbols [] = refl
length_symbols (v ∷ bytes) = let h = length_symbols bytes in omega arith

pub symbols-at : (bytes : List ℕ) (j : ℕ) → get_or (symbols_of bytes) j 0 ≡ get_or bytes (j / 4) 0 / 4 ^ (3 - j % 4) % 4
unfolding symbols_of
symbols-at [] j = sym (ap (λ (n : ℕ). n % 4) (zero-div (4 ^ (3 - j % 4))))
symbols-at (v ∷ bytes) zero = refl
symbols-at (v ∷ bytes) (suc zero) = refl
symbols-at (v ∷ bytes) (suc (suc zero)) = refl
symbols-at (v ∷ bytes) (suc (suc (suc zero))) = ap (λ (k : ℕ). k % 4) (sym (div-one v))
symbols-at (v ∷ bytes) (suc (suc (suc (suc j)))) =
    let p : suc (suc (suc (suc j))) / 4 ≡ suc (j / 4) = omega arith in
    let q : suc (suc (suc (suc j))) % 4 ≡ j % 4 = omega arith in
    symbols-at bytes j ∙ sym (ap₂ (λ (a b : ℕ). get_or (v ∷ bytes) a 0 / 4 ^ (3 - b) % 4) p q)

-- ---- one symbol written where there was none

-- a symbol moved to its place stays in the byte
pub shifted : (k s : ℕ) → k < 4 → s < 4 → s * 2 ^ (6 - 2 * k) % 256 ≡ s * 4 ^ (3 - k)
shifted zero s h t = omega arith
shifted (suc zero) s h t = omega arith
shifted (suc (suc zero)) s h t = omega arith
shifted (suc (suc (suc zero))) s h t = omega arith
shifted (suc (suc (suc (suc k)))) s h t = absurd (omega arith)

-- the symbols of a byte that is four symbols
byte_is : (u a b c d : ℕ) (l : List ℕ) → u ≡ quad a b c d → a < 4 → b < 4 → c < 4 → d < 4
    → ◌≡◌ {A = List ℕ} (u / 64 % 4 ∷ u / 16 % 4 ∷ u / 4 % 4 ∷ u % 4 ∷ l) (a ∷ b ∷ c ∷ d ∷ l)
byte_is u a b c d l e ha hb hc hd = ap (λ (v : ℕ). v / 64 % 4 ∷ v / 16 % 4 ∷ v / 4 % 4 ∷ v % 4 ∷ l) e ∙ four a b c d l l ha hb hc hd refl

low : (n : ℕ) → n % 4 < 4
low n = mod-lt n (zero-lt-suc 3)

-- a byte with no symbol at a place has room for one there
pub symbol-room : (v k s : ℕ) → v < 256 → k < 4 → s < 4 → v / 4 ^ (3 - k) % 4 ≡ 0 → v + s * 4 ^ (3 - k) < 256
symbol-room v zero s h k t e = omega (arith, quad_of v h, low (v / 16), low (v / 4), low v)
symbol-room v (suc zero) s h k t e = omega (arith, quad_of v h, low (v / 64), low (v / 4), low v)
symbol-room v (suc (suc zero)) s h k t e = omega (arith, quad_of v h, low (v / 64), low (v / 16), low v)
symbol-room v (suc (suc (suc zero))) s h k t e = let q : v % 4 ≡ 0 = ap (λ (n : ℕ). n % 4) (sym (div-one v)) ∙ e in omega (arith, quad_of v h, low (v / 64), low (v / 16), low (v / 4))
symbol-room v (suc (suc (suc (suc k)))) s h l t e = absurd (omega arith)

pub symbols_put : (bytes : List ℕ) (j s : ℕ) → get_or bytes (j / 4) 0 < 256 → j < 4 * length bytes → s < 4 → get_or (symbols_of bytes) j 0 ≡ 0
    → symbols_of (set bytes (j / 4) (get_or bytes (j / 4) 0 + s * 4 ^ (3 - j % 4))) ≡ set (symbols_of bytes) j s
unfolding symbols_of
symbols_put [] j s t h k e = absurd (omega arith)
symbols_put (v ∷ bytes) zero s t h k e =
    let q = quad_of v t in
    byte_is (v + s * 64) s (v / 16 % 4) (v / 4 % 4) (v % 4) (symbols_of bytes) (omega arith) k (low (v / 16)) (low (v / 4)) (low v)
symbols_put (v ∷ bytes) (suc zero) s t h k e =
    let q = quad_of v t in
    byte_is (v + s * 16) (v / 64 % 4) s (v / 4 % 4) (v % 4) (symbols_of bytes) (omega arith) (low (v / 64)) k (low (v / 4)) (low v)
symbols_put (v ∷ bytes) (suc (suc zero)) s t h k e =
    let q = quad_of v t in
    byte_is (v + s * 4) (v / 64 % 4) (v / 16 % 4) s (v % 4) (symbols_of bytes) (omega arith) (low (v / 64)) (low (v / 16)) k (low v)
symbols_put (v ∷ bytes) (suc (suc (suc zero))) s t h k e =
    let q = quad_of v t in
    byte_is (v + s * 1) (v / 64 % 4) (v / 16 % 4) (v / 4 % 4) s (symbols_of bytes) (omega arith) (low (v / 64)) (low (v / 16)) (low (v / 4)) k
symbols_put (v ∷ bytes) (suc (suc (suc (suc j)))) s t h k e =
    let p : suc (suc (suc (suc j))) / 4 ≡ suc (j / 4) = omega arith in
    let q : suc (suc (suc (suc j))) % 4 ≡ j % 4 = omega arith in
    let l = v ∷ bytes in
    ap₂ (λ (a b : ℕ). symbols_of (set l a (get_or l a 0 + s * 4 ^ (3 - b)))) p q
    ∙ ap (λ (r : List ℕ). v / 64 % 4 ∷ v / 16 % 4 ∷ v / 4 % 4 ∷ v % 4 ∷ r) (symbols_put bytes j s (subst (λ (a : ℕ). get_or l a 0 < 256) p t) (omega arith) k e)

-- ---- two symbols written into one byte

-- side by side, they move to their places together
pub shifted_two : (k s t : ℕ) → k < 3 → s < 4 → t < 4 → (4 * s + t) * 2 ^ (6 - 2 * k - 2) % 256 ≡ s * 4 ^ (3 - k) + t * 4 ^ (3 - (k + 1))
shifted_two zero s t h p q = omega arith
shifted_two (suc zero) s t h p q = omega arith
shifted_two (suc (suc zero)) s t h p q = omega arith
shifted_two (suc (suc (suc k))) s t h p q = absurd (omega arith)

-- the bytes after the first
abbrev after : List ℕ → ℕ → ℕ → List ℕ
after bytes j s = set bytes (j / 4) (get_or bytes (j / 4) 0 + s * 4 ^ (3 - j % 4))

module _ (bytes : List ℕ) (j s t : ℕ) (together : j % 4 < 3) (byte : get_or bytes (j / 4) 0 < 256) (inside : j + 1 < 4 * length bytes) (hs : s < 4) (ht : t < 4)
    (here : get_or (symbols_of bytes) j 0 ≡ 0) (next : get_or (symbols_of bytes) (j + 1) 0 ≡ 0) where
  -- the second is the next place of the same byte
  same_byte : (j + 1) / 4 ≡ j / 4
  same_byte = omega arith

  next_place : (j + 1) % 4 ≡ j % 4 + 1
  next_place = omega arith

  byte-after : get_or (after bytes j s) ((j + 1) / 4) 0 ≡ get_or bytes (j / 4) 0 + s * 4 ^ (3 - j % 4)
  byte-after =
      ap (λ (i : ℕ). get_or (after bytes j s) i 0) same_byte
      ∙ get_or-set_same bytes (j / 4) (get_or bytes (j / 4) 0 + s * 4 ^ (3 - j % 4)) 0 (omega arith)

  small-after : get_or (after bytes j s) ((j + 1) / 4) 0 < 256
  small-after =
      subst (λ (v : ℕ). v < 256) (sym byte-after)
      (symbol-room (get_or bytes (j / 4) 0) (j % 4) s byte (mod-lt j (zero-lt-suc 3)) hs (sym (symbols-at bytes j) ∙ here))

  comma-after : get_or (symbols_of (after bytes j s)) (j + 1) 0 ≡ 0
  comma-after =
      ap (λ (l : List ℕ). get_or l (j + 1) 0) (symbols_put bytes j s byte (omega arith) hs here)
      ∙ get_or-set_other (symbols_of bytes) j (j + 1) s 0 (λ e. omega arith) ∙ next

  -- a byte with neither has room for both
  pub room_two : get_or bytes (j / 4) 0 + (s * 4 ^ (3 - j % 4) + t * 4 ^ (3 - (j % 4 + 1))) < 256
  room_two =
      let r = symbol-room (get_or (after bytes j s) ((j + 1) / 4) 0) ((j + 1) % 4) t small-after (mod-lt (j + 1) (zero-lt-suc 3)) ht
      (sym (symbols-at (after bytes j s) (j + 1)) ∙ comma-after) in
      let e = ap₂ (λ (v k : ℕ). v + t * 4 ^ (3 - k)) byte-after next_place in
      omega arith

  pub symbols_put_two : symbols_of (set bytes (j / 4) (get_or bytes (j / 4) 0 + (s * 4 ^ (3 - j % 4) + t * 4 ^ (3 - (j % 4 + 1)))))
      ≡ sets (symbols_of bytes) j (s ∷ t ∷ [])
  symbols_put_two =
      let v = get_or bytes (j / 4) 0 in
      let a = s * 4 ^ (3 - j % 4) in
      let b = t * 4 ^ (3 - (j % 4 + 1)) in
      let e : v + a + b ≡ v + (a + b) = omega arith in
      let u : get_or (after bytes j s) ((j + 1) / 4) 0 + t * 4 ^ (3 - (j + 1) % 4) ≡ v + (a + b) =
      ap₂ (λ (x k : ℕ). x + t * 4 ^ (3 - k)) byte-after next_place ∙ e in
      sym (ap₂ (λ (i w : ℕ). symbols_of (set (after bytes j s) i w)) same_byte u ∙ ap symbols_of (set-set bytes (j / 4) (v + a) (v + (a + b))))
      ∙ symbols_put (after bytes j s) (j + 1) t small-after (subst (λ (n : ℕ). j + 1 < 4 * n) (sym (length-set bytes (j / 4) (v + a))) inside) ht comma-after
      ∙ ap₂ (λ (l : List ℕ) (i : ℕ). set l i t) (symbols_put bytes j s byte (omega arith) hs here) (add-one j)
