-- Dilations in turn: what falls off of the sum is what falls off in some turn, and where nothing does no turn clips.
use mathlib.Core.Bool.{Bool, ◌||◌, false, true}
use mathlib.Core.List.Memᴰ
use mathlib.Core.List.{List, Memᴰ, [], ◌∷◌}
use mathlib.Core.Path.{◌∙◌, ◌≡◌, ap, refl, subst, sym}
use Prim.Native.Nat.{suc, zero, ℕ}
use lib.Dec.{T}
use lib.ListN.{replicate}
use Rattle.morphology.specs.Falls.{falls_off}
use Rattle.morphology.specs.InTurn.{Centred, in_turn, together}
use Rattle.morphology.specs.Morphology.{dilate, minkowski, times}
use Rattle.morphology.specs.Point.{Point, origin}
use Rattle.morphology.proofs.FallsLaws.{falls-clip, falls_on, falls-point, on-falls, point-falls}
use Rattle.morphology.proofs.FrameLaws.{OnFrame}
use Rattle.morphology.proofs.ImageLaws.{clip_on}
use Rattle.morphology.proofs.MorphologyLaws.{◌⊆◌, dilate_in, dilate-sum, dilate-zero, ⊆_of_eq}
use Rattle.morphology.proofs.PointLaws.{unit}
use Rattle.morphology.proofs.TestLaws.{T_ext, neither}

module _ (W H : ℕ) where
  -- ---- two elements, the second with the origin

  module _ (A B : List Point) (X S : Point → Bool) (on : OnFrame W H X) (ob : Memᴰ origin B) (whole : falls_off W H A X ≡ false → S ≡ dilate A X) where
    -- dilated by both, or by one after the other
    to_both : dilate B (dilate A X) ⊆ dilate (minkowski A B) X
    to_both = ⊆_of_eq (sym (dilate-sum A B X))

    -- S is X dilated by A, where nothing of that falls off
    pub falls_then : falls_off W H (minkowski A B) X ≡ (falls_off W H A X || falls_off W H B S)
    falls_then = go (falls_off W H A X) refl
      where
        go : (b : Bool) → falls_off W H A X ≡ b → falls_off W H (minkowski A B) X ≡ (b || falls_off W H B S)
        go true e = T_ext (λ t. tt) (λ t.
            let r = falls-point W H A X (subst T (sym e) tt) in
            let z = r.0 in
            let d = subst (λ (y : Point). T (dilate B (dilate A X) y)) (unit z) (dilate_in B (dilate A X) z origin r.1 ob) in
            point-falls W H (minkowski A B) X on z (to_both z d) r.2)
        go false e =
            T_ext
            (λ t.
            let r = falls-point W H (minkowski A B) X t in
            point-falls W H B (dilate A X) (falls_on W H A X on e) r.0 (⊆_of_eq (dilate-sum A B X) r.0 r.1) r.2)
            (λ t. let r = falls-point W H B (dilate A X) t in point-falls W H (minkowski A B) X on r.0 (to_both r.0 r.1) r.2)
            ∙ ap (falls_off W H B) (sym (whole e))

  -- ---- elements in turn

  pub turns_on : (Bs : List (List Point)) (X : Point → Bool) → OnFrame W H X → OnFrame W H (in_turn W H Bs X)
  unfolding in_turn
  turns_on [] X on = on
  turns_on (B ∷ Bs) X on = clip_on W H (dilate B (in_turn W H Bs X))

  module _ (X : Point → Bool) (on : OnFrame W H X) where
    -- where nothing falls off of the sum, the turns make the whole dilation
    pub turns-whole : (Bs : List (List Point)) → Centred Bs → falls_off W H (together Bs) X ≡ false → in_turn W H Bs X ≡ dilate (together Bs) X
    unfolding in_turn together times
    turns-whole [] c e = sym (dilate-zero [] X)
    turns-whole (B ∷ Bs) c e =
        let whole = turns-whole Bs (λ A m. c A (Memᴰ.tail m)) in
        let f = falls_then (together Bs) B X (in_turn W H Bs X) on (c B (Memᴰ.head refl)) whole in
        let n = neither (falls_off W H (together Bs) X) (falls_off W H B (in_turn W H Bs X)) (sym f ∙ e) in
        falls-clip W H B (in_turn W H Bs X) (turns_on Bs X on) n.1 ∙ ap (dilate B) (whole n.0) ∙ sym (dilate-sum (together Bs) B X)

    -- what falls off of the sum falls off in one of the turns
    pub turns_fall : (B : List Point) (Bs : List (List Point)) → Centred (B ∷ Bs)
        → falls_off W H (together (B ∷ Bs)) X ≡ (falls_off W H (together Bs) X || falls_off W H B (in_turn W H Bs X))
    unfolding together
    turns_fall B Bs c =
        falls_then (together Bs) B X (in_turn W H Bs X) on (c B (Memᴰ.head refl)) (turns-whole Bs (λ A m. c A (Memᴰ.tail m)))

    -- so none of them, where nothing falls off of the sum
    pub turn-stays : (B : List Point) (Bs : List (List Point)) → Centred (B ∷ Bs) → falls_off W H (together (B ∷ Bs)) X ≡ false
        → (falls_off W H (together Bs) X ≡ false) × (falls_off W H B (in_turn W H Bs X) ≡ false)
    turn-stays B Bs c e = neither (falls_off W H (together Bs) X) (falls_off W H B (in_turn W H Bs X)) (sym (turns_fall B Bs c) ∙ e)

-- ---- one element n times

pub times-together : (B : List Point) (n : ℕ) → times B n ≡ together (replicate n B)
unfolding times together
times-together B zero = refl
times-together B (suc n) = ap (λ (A : List Point). minkowski A B) (times-together B n)

-- by no step nothing falls off
pub times_none : (W H : ℕ) (B : List Point) (X : Point → Bool) → OnFrame W H X → falls_off W H (times B 0) X ≡ false
times_none W H B X on = on-falls W H (times B 0) X (subst (OnFrame W H) (sym (dilate-zero B X)) on)

centred-times : (B : List Point) → Memᴰ origin B → (n : ℕ) → Centred (replicate n B)
centred-times B ob zero A m = absurd (Memᴰ.not-nil m)
centred-times B ob (suc n) A (Memᴰ.head e) = subst (Memᴰ origin) (sym e) ob
centred-times B ob (suc n) A (Memᴰ.tail m) = centred-times B ob n A m

module _ (W H : ℕ) (B : List Point) (ob : Memᴰ origin B) (X : Point → Bool) (on : OnFrame W H X) where
  pub times-whole : (n : ℕ) → falls_off W H (times B n) X ≡ false → in_turn W H (replicate n B) X ≡ dilate (times B n) X
  times-whole n e =
      let q = times-together B n in
      turns-whole W H X on (replicate n B) (centred-times B ob n) (sym (ap (λ (A : List Point). falls_off W H A X) q) ∙ e)
      ∙ sym (ap (λ (A : List Point). dilate A X) q)

  pub times_fall : (n : ℕ) → falls_off W H (times B (suc n)) X ≡ (falls_off W H (times B n) X || falls_off W H B (in_turn W H (replicate n B) X))
  times_fall n =
      ap (λ (A : List Point). falls_off W H A X) (times-together B (suc n)) ∙ turns_fall W H X on B (replicate n B) (centred-times B ob (suc n))
      ∙ ap (λ (A : List Point). falls_off W H A X || falls_off W H B (in_turn W H (replicate n B) X)) (sym (times-together B n))
