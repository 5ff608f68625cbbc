-- Structuring elements and hit-or-miss masks as numbers. Definitions only; proofs/ElementLaws.antt has the laws.
use Rattle.std.specs.Prelude.{Bool, ◌&&◌, cond, not, List, [], ◌∷◌, ◌%◌, ◌*◌, ◌+◌, ◌/◌, ◌^◌, suc, zero, ℕ, eqb, leb, ltb, length}
use Rattle.std.proofs.Math.IntN.{sub_ℕ}
use Rattle.morphology.specs.Lists.{every_of, up_to}
use Rattle.morphology.specs.Point.{Point, at}

-- bit i of n
abbrev pub bit : ℕ → ℕ → Bool
bit n i = eqb (n / 2 ^ i % 2) 1

-- offsets up to r each way, row after row: bit (2r + 1)(dy + r) + (dx + r) stands for (dx, dy)
unfoldable pub offset : ℕ → ℕ → Point
offset r i = at (sub_ℕ (i % (2 * r + 1)) r) (sub_ℕ (i / (2 * r + 1)) r)

-- the offsets that the ones among the lowest n bits of e stand for
unfoldable pub offsets_below : ℕ → ℕ → ℕ → List Point
offsets_below r e zero = []
offsets_below r e (suc i) = let l = offsets_below r e i in cond (bit e i) (offset r i ∷ l) l

-- ---- elements: bit 5(dy + 2) + (dx + 2) for (dx, dy), so that bit 12 is the origin

unfoldable pub offsets : ℕ → List Point
offsets e = offsets_below 2 e 25

-- no bit above 24, the origin, two points or more (`offsets-count`: its points are the ones of e)
unfoldable pub is_element : ℕ → Bool
is_element e = ltb e (2 ^ 25) && (bit e 12 && leb 2 (length (offsets e)))

-- ---- masks, a foreground and a background number ("ink" and "paper" in 01): bit 3(dy + 1) + (dx + 1) for (dx, dy)

abbrev pub mask_offsets : ℕ → List Point
mask_offsets n = offsets_below 1 n 9

-- no bit above 8, the centre in the foreground, no bit in both
unfoldable pub is_mask : ℕ × ℕ → Bool
is_mask m = (ltb m.0 (2 ^ 9) && ltb m.1 (2 ^ 9)) && (bit m.0 4 && every_of (λ i. not (bit m.0 i && bit m.1 i)) (up_to 9))
