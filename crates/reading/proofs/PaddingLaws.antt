-- Symbols in bytes: bytes hold symbols below 4, and after those packed into bytes there is padding alone.
use mathlib.Core.Bool.{◌&&◌}
use mathlib.Core.List.{List, [], ◌++◌, ◌∷◌}
use mathlib.Core.Path.{◌∙◌, ◌≡◌, ap, ap₂, refl}
use Prim.Native.Nat.{◌%◌, ◌+◌, ◌/◌, ◌<◌, ℕ}
use native.Mathlib.Nat.{mod-lt, zero-lt-suc}
use native.Mathlib.Omega.{arith}
use lib.Dec.{T, eqb, eqb→eq, ltb, ltb→lt, lt→ltb}
use lib.ListN.{length, replicate}
use Rattle.coding.specs.Symbols.{comma, pack_symbols, symbols_of}
use Rattle.coding.proofs.PackLaws.{four, pack_padded}
use Rattle.reading.specs.Splits.{is_padding}
use Rattle.reading.proofs.SplitLaws.{are_symbols}
use Rattle.morphology.specs.Lists.{every_of}
use Rattle.morphology.proofs.TestLaws.{and_in, and_l, and_r}

-- what bytes hold are symbols
pub symbols_of-bytes : (bytes : List ℕ) → T (are_symbols (symbols_of bytes))
unfolding symbols_of
symbols_of-bytes [] = tt
symbols_of-bytes (v ∷ bytes) =
    let low : (n : ℕ) → T (ltb (n % 4) 4) = λ n. lt→ltb (n % 4) 4 (mod-lt n (zero-lt-suc 3)) in
    and_in (ltb (v / 64 % 4) 4) (ltb (v / 16 % 4) 4 && (ltb (v / 4 % 4) 4 && (ltb (v % 4) 4 && are_symbols (symbols_of bytes)))) (low (v / 64))
    (and_in (ltb (v / 16 % 4) 4) (ltb (v / 4 % 4) 4 && (ltb (v % 4) 4 && are_symbols (symbols_of bytes))) (low (v / 16))
    (and_in (ltb (v / 4 % 4) 4) (ltb (v % 4) 4 && are_symbols (symbols_of bytes)) (low (v / 4))
    (and_in (ltb (v % 4) 4) (are_symbols (symbols_of bytes)) (low v) (symbols_of-bytes bytes))))

-- ---- symbols again, with the padding after them

-- the first of symbols is one, and so are those after it
first : (a : ℕ) (s : List ℕ) → T (are_symbols (a ∷ s)) → a < 4
first a s t = ltb→lt a 4 (and_l (ltb a 4) (are_symbols s) t)

rest : (a : ℕ) (s : List ℕ) → T (are_symbols (a ∷ s)) → T (are_symbols s)
rest a s t = and_r (ltb a 4) (are_symbols s) t

-- the bytes of symbols hold those symbols, then padding
pub symbols-pack : (s : List ℕ) → T (are_symbols s) → (p : List ℕ) × (symbols_of (pack_symbols s) ≡ s ++ p) × T (is_padding p)
unfolding pack_symbols symbols_of
symbols-pack [] t = ([], refl, tt)
symbols-pack (a ∷ []) t = (0 ∷ 0 ∷ 0 ∷ [], four a 0 0 0 [] [] (first a [] t) (omega arith) (omega arith) (omega arith) refl, tt)
symbols-pack (a ∷ b ∷ []) t =
    (0 ∷ 0 ∷ [], four a b 0 0 [] [] (first a (b ∷ []) t) (first b [] (rest a (b ∷ []) t)) (omega arith) (omega arith) refl, tt)
symbols-pack (a ∷ b ∷ c ∷ []) t =
    let t₁ = rest a (b ∷ c ∷ []) t in
    let t₂ = rest b (c ∷ []) t₁ in
    (0 ∷ [], four a b c 0 [] [] (first a (b ∷ c ∷ []) t) (first b (c ∷ []) t₁) (first c [] t₂) (omega arith) refl, tt)
symbols-pack (a ∷ b ∷ c ∷ d ∷ s) t =
    let t₁ = rest a (b ∷ c ∷ d ∷ s) t in
    let t₂ = rest b (c ∷ d ∷ s) t₁ in
    let t₃ = rest c (d ∷ s) t₂ in
    let r = symbols-pack s (rest d s t₃) in (
      r.0,
      four a b c d (symbols_of (pack_symbols s)) (s ++ r.0) (first a (b ∷ c ∷ d ∷ s) t) (first b (c ∷ d ∷ s) t₁) (first c (d ∷ s) t₂) (first d s t₃) r.1,
      r.2,
    )

-- ---- padding that fills a byte changes nothing

-- symbols that are all 0
all-zero : (p : List ℕ) → T (every_of (λ a. eqb a comma) p) → p ≡ replicate (length p) 0
all-zero [] t = refl
all-zero (a ∷ p) t =
    ap₂ (λ (b : ℕ) (l : List ℕ). b ∷ l) (eqb→eq a comma (and_l (eqb a comma) (every_of (λ a. eqb a comma) p) t))
    (all-zero p (and_r (eqb a comma) (every_of (λ a. eqb a comma) p) t))

-- symbols and the padding that fills their last byte have the same bytes
pub pack_padding : (s p : List ℕ) → T (is_padding p) → (length s + length p) % 4 ≡ 0 → pack_symbols (s ++ p) ≡ pack_symbols s
pack_padding s p t e =
    let zeros = every_of (λ a. eqb a comma) p in
    let short = ltb (length p) 4 in
    ap (λ (l : List ℕ). pack_symbols (s ++ l)) (all-zero p (and_l zeros short t)) ∙ pack_padded s (length p) (ltb→lt (length p) 4 (and_r zeros short t)) e
