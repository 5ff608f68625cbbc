-- The rows that a dilation can reach, as far as the frame has them: what falls off there is what falls off the frame.
use mathlib.Core.Bool.{Bool, false}
use mathlib.Core.List.{List, Memᴰ}
use mathlib.Core.Path.{◌∙◌, ◌≡◌, ap, subst, sym}
use Prim.Native.Nat.{◌+◌, ◌-◌, ◌<◌, ◌≤◌, ℕ}
use native.Mathlib.Nat.{add_comm}
use native.Mathlib.Omega.{arith}
use lib.Dec.{T, ltb→lt}
use lib.IntN.{◌+ℤ◌, negsuc, pos, ℤ}
use Rattle.morphology.specs.Falls.{falls_off}
use Rattle.morphology.specs.Image.{clip, inside}
use Rattle.morphology.specs.Morphology.{dilate}
use Rattle.morphology.specs.Point.{Point, ◌⊞◌, at, minus, origin}
use Rattle.morphology.proofs.BandLaws.{InRows, dilate-moved, moved, moved_at_lem, moved_on}
use Rattle.morphology.proofs.FallsLaws.{falls-clip, falls_on}
use Rattle.morphology.proofs.FrameLaws.{OnFrame}
use Rattle.morphology.proofs.PointLaws.{assoc, comm, inv, unit}
use Rattle.morphology.proofs.TestLaws.{T_ext}
use Rattle.elements.specs.Measures.{Reached}
use Rattle.margins.proofs.EdgeLaws.{HasRoom, falls-near, near-falls}

-- a set in some rows lies in more of them
pub rows-within : (a m b n : ℕ) (X : Point → Bool) → b ≤ a → a + m ≤ b + n → InRows a m X → InRows b n X
rows-within a m b n X l g rows z t =
    let k = rows z t in
    let q : a + k.0 ≡ b + (a - b + k.0) = omega arith in
    (a - b + k.0, omega (arith, k.1), k.2 ∙ ap pos q)

-- a set that is in the first n rows once it is moved up by a
moved-rows : (W a n : ℕ) (X : Point → Bool) → OnFrame W n (moved a X) → InRows a n X
unfolding moved ◌⊞◌ minus
moved-rows W a n X on z t =
    let d = at (pos 0) (pos a) in
    let q = z ⊞ minus d in
    let e : q ⊞ d ≡ z = assoc z (minus d) d ∙ ap (λ (k : Point). z ⊞ k) (comm (minus d) d ∙ inv d) ∙ unit z in
    by q.y (ap (λ (k : Point). k.y) e) (on.down q (subst (λ (k : Point). T (X k)) (sym e) t))
  where
    by : (k : ℤ) → k +ℤ pos a ≡ z.y → T (inside n k) → (y : ℕ) × (y < n) × (z.y ≡ pos (a + y))
    by (pos y) e u = (y, ltb→lt y n u, sym e ∙ ap pos (add_comm y a))
    by (negsuc y) e u = absurd u

-- X lies in the rows from `from` up to `to` of W by h; the n rows from top on are these, up more above and down more below, as far as the frame has them
pub record Reach (W h : ℕ) (B : List Point) (left right up down from to top n : ℕ) (X : Point → Bool) : Type 0 where
  pub centred : Memᴰ origin B
  pub sides : Reached left right up down B
  pub on : OnFrame W h X
  pub rows : InRows from (to - from) X
  pub order : from ≤ to
  pub within : to ≤ h
  pub above : top ≡ from - up
  pub below : top + n ≡ h - (h - to - down)

module _ {W h : ℕ} {B : List Point} {left right up down from to top n : ℕ} {X : Point → Bool} (c : Reach W h B left right up down from to top n X) where
  -- the rows of its points
  row_of : (x y : ℕ) → T (X (at (pos x) (pos y))) → (from ≤ y) × (y < to)
  row_of x y t = let r = c.rows (at (pos x) (pos y)) t in let q = same r.2 in (omega arith, omega (arith, r.1))
    where
      same : {k m : ℕ} → pos k ≡ pos m → k ≡ m
      same e = cc

  -- the n rows have room for the element at a point of it where the frame has
  room_out : (x y : ℕ) → HasRoom W n left right up down x y → HasRoom W h left right up down x (top + y)
  room_out x y r = record {
    before = r.before;
    after = r.after;
    above = omega (arith, r.above);
    below = omega (arith, r.below, c.below);
  }

  room_in : (x y : ℕ) → from ≤ top + y → top + y < to → HasRoom W h left right up down x (top + y) → HasRoom W n left right up down x y
  room_in x y l u r = record {
    before = r.before;
    after = r.after;
    above = omega (arith, r.above, c.above);
    below = omega (arith, r.below, c.below, c.within);
  }

  here : OnFrame W n (moved top X)
  here =
      moved_on W h top n X c.on
      (rows-within from (to - from) top n X (omega (arith, c.above)) (omega (arith, c.order, c.within, c.below)) c.rows)

  -- so what falls off them is what falls off the frame
  pub falls-reach : falls_off W n B (moved top X) ≡ falls_off W h B X
  falls-reach = T_ext out back
    where
      out : T (falls_off W n B (moved top X)) → T (falls_off W h B X)
      out t =
          let q = near-falls c.centred c.sides W n (moved top X) here t in
          let u = subst T (moved_at_lem top X q.0 q.1) q.2 in
          let r = row_of q.0 (top + q.1) u in
          falls-near c.centred c.sides W h X c.on q.0 (top + q.1) u (λ g. q.3 (room_in q.0 q.1 r.0 r.1 g))

      back : T (falls_off W h B X) → T (falls_off W n B (moved top X))
      back t =
          let q = near-falls c.centred c.sides W h X c.on t in
          let r = row_of q.0 q.1 q.2 in
          let y = q.1 - top in
          let z : top + y ≡ q.1 = omega (arith, c.above, r.0) in
          falls-near c.centred c.sides W n (moved top X) here q.0 y
          (subst T (sym (moved_at_lem top X q.0 y ∙ ap (λ (k : ℕ). X (at (pos q.0) (pos k))) z)) q.2) (λ g.
          q.3 (subst (HasRoom W h left right up down q.0) z (room_out q.0 y g)))

  -- where nothing falls off, the dilation lies in them and is not clipped there
  module _ (stays : falls_off W h B X ≡ false) where
    pub reach-rows : InRows top n (dilate B X)
    reach-rows = moved-rows W top n (dilate B X) (subst (OnFrame W n) (dilate-moved B top X) (falls_on W n B (moved top X) here (falls-reach ∙ stays)))

    pub reach-clip : clip W n (dilate B (moved top X)) ≡ moved top (dilate B X)
    reach-clip = falls-clip W n B (moved top X) here (falls-reach ∙ stays) ∙ dilate-moved B top X
