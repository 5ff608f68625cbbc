-- Runs as base-3 digits, and symbols as the bits of bytes.
use mathlib.Core.List.{List, [], ◌++◌, ◌∷◌, map}
use mathlib.Core.Path.{◌∙◌, ◌≡◌, ap, refl, sym}
use Prim.Native.Nat.{◌*◌, ◌+◌, ◌<◌, suc, zero, ℕ}
use native.Mathlib.Nat.{suc-ne-zero}
use native.Mathlib.Omega.{arith}
use lib.Dec.{T, eqb, eqb→eq, ltb, ltb→lt}
use lib.ListN.{get_or, length}
use Rattle.claims.specs.Codes.{Base3, Packed, value_from}
use Rattle.coding.specs.Symbols.{comma, numeral, pack_symbols, quad, sections, symbols_of}
use Rattle.coding.proofs.PackLaws.{length-pack-symbols, symbols-at}
use Rattle.morphology.specs.Lists.{every_of}
use Rattle.morphology.proofs.TestLaws.{all-out, and_l, and_r}
use Rattle.reading.specs.Splits.{is_numeral, value_after}
use Rattle.reading.proofs.OwnLaws.{are-digits}
use Rattle.reading.proofs.PaddingLaws.{symbols-pack}
use Rattle.reading.proofs.SplitLaws.{are_symbols, sections-symbols}
use Rattle.reading.proofs.ValueLaws.{digits-numeral, is-numeral, value-numeral}

-- ---- base 3

-- digits stand for the number that they are read as
value-from : (v : ℕ) (ds : List ℕ) → value_from v ds ≡ value_after v ds
unfolding value_from value_after
value-from v [] = refl
value-from v (d ∷ ds) = value-from (v * 3 + d) ds

-- without a leading zero the first is 0 in the one digit 0 alone
first-zero : (ds : List ℕ) → T (is_numeral ds) → get_or ds 0 0 ≡ 0 → ds ≡ 0 ∷ []
first-zero [] t q = absurd t
first-zero (d ∷ []) t q = ap (λ (k : ℕ). k ∷ []) q
first-zero (zero ∷ e ∷ ds) t q = absurd t
first-zero (suc d ∷ e ∷ ds) t q = absurd (suc-ne-zero d q)

pub numeral-base3 : (n : ℕ) → Base3 n (numeral n)
numeral-base3 n = record {
  digits = λ d m. ltb→lt d 3 (all-out (λ d. ltb d 3) (digits-numeral n) m);
  value = value-from 0 (numeral n) ∙ value-numeral n;
  first = first-zero (numeral n) (is-numeral n);
}

-- ---- bytes

-- padding reads as what is past the end
padded : (s p : List ℕ) → T (every_of (λ a. eqb a comma) p) → (j : ℕ) → get_or (s ++ p) j 0 ≡ get_or s j 0
padded [] [] t j = refl
padded [] (a ∷ p) t zero = eqb→eq a comma (and_l (eqb a comma) (every_of (λ a. eqb a comma) p) t)
padded [] (a ∷ p) t (suc j) = padded [] p (and_r (eqb a comma) (every_of (λ a. eqb a comma) p) t) j
padded (a ∷ s) p t zero = refl
padded (a ∷ s) p t (suc j) = padded s p t j

-- so the bytes of symbols hold those symbols
symbols_packed : (s : List ℕ) → T (are_symbols s) → (j : ℕ) → get_or (symbols_of (pack_symbols s)) j 0 ≡ get_or s j 0
symbols_packed s t j =
    let r = symbols-pack s t in
    ap (λ (l : List ℕ). get_or l j 0) r.1 ∙ padded s r.0 (and_l (every_of (λ a. eqb a comma) r.0) (ltb (length r.0) 4) r.2) j

-- symbols are below 4, also past the end
small : (s : List ℕ) → T (are_symbols s) → (j : ℕ) → get_or s j 0 < 4
small [] t j = omega arith
small (a ∷ s) t zero = ltb→lt a 4 (and_l (ltb a 4) (are_symbols s) t)
small (a ∷ s) t (suc j) = small s (and_r (ltb a 4) (are_symbols s) t) j

-- four of them fit a byte
quad_lt : (a b c d : ℕ) → a < 4 → b < 4 → c < 4 → d < 4 → quad a b c d < 256
quad_lt a b c d ha hb hc hd = omega arith

-- so that bytes are what is packed
packed_lt : (s : List ℕ) → ((j : ℕ) → get_or s j 0 < 4) → (i : ℕ) → get_or (pack_symbols s) i 0 < 256
unfolding pack_symbols
packed_lt [] f i = omega arith
packed_lt (a ∷ []) f zero = quad_lt a 0 0 0 (f 0) (f 1) (f 2) (f 3)
packed_lt (a ∷ b ∷ []) f zero = quad_lt a b 0 0 (f 0) (f 1) (f 2) (f 3)
packed_lt (a ∷ b ∷ c ∷ []) f zero = quad_lt a b c 0 (f 0) (f 1) (f 2) (f 3)
packed_lt (a ∷ b ∷ c ∷ d ∷ s) f zero = quad_lt a b c d (f 0) (f 1) (f 2) (f 3)
packed_lt (a ∷ []) f (suc i) = omega arith
packed_lt (a ∷ b ∷ []) f (suc i) = omega arith
packed_lt (a ∷ b ∷ c ∷ []) f (suc i) = omega arith
packed_lt (a ∷ b ∷ c ∷ d ∷ s) f (suc i) = packed_lt s (λ k. f (suc (suc (suc (suc k))))) i

pub sections_packed : (sizes : List (List ℕ)) → let s = sections (map (map numeral) sizes) in Packed s (pack_symbols s)
sections_packed sizes =
    let ws = map (map numeral) sizes in
    let s = sections ws in
    let t = sections-symbols ws (are-digits sizes) in
    record {
      size = length-pack-symbols s;
      entries = packed_lt s (small s t);
      bits = λ j. sym (symbols-at (pack_symbols s) j) ∙ symbols_packed s t j;
    }
