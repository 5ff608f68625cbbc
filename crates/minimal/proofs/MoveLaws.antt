-- Counters moved and tested part by part.
use mathlib.Core.Bool.{Bool, ◌&&◌, false, true}
use mathlib.Core.List.{List}
use mathlib.Core.Logic.{◌≢◌}
use mathlib.Core.Path.{◌∙◌, ◌≡◌, ap, ap₂, fun_ext, refl, subst, sym}
use Prim.Native.Nat.{◌+◌, ◌-◌, ◌<◌, ◌≤◌, ℕ}
use native.Mathlib.Decide.{dec_lt, ℕ_discrete}
use native.Mathlib.Omega.{arith}
use borrow.Author.Tests.{le-leb, le-ltb, lt-leb, lt-ltb}
use lib.Dec.{T, leb, leb→le, le→leb, ltb, ltb→lt, lt→ltb}
use lib.ListN.{get_or, length, length-set, set}
use lib.Seq.{get_or-set_other, get_or-set_same}
use Rattle.std.proofs.lemmas.List.{set-get_or}
use Rattle.morphology.proofs.RefusalLaws.{false_of}
use Rattle.morphology.proofs.TestLaws.{and_in, and_l, and_r}
use Rattle.minimal.specs.Moves.{Task, CoverMoved, Done, Free, Open, Ready, Slot, Tells, Twice, Within, after, below, count, counted, hits, passes, test}

-- ---- the first of f

pub below_in : (n : ℕ) (f : ℕ → Bool) (k : ℕ) → k < n → below n f k ≡ f k
below_in n f k h = ap (λ (b : Bool). b && f k) (lt-ltb k n h)

pub below_out : (n : ℕ) (f : ℕ → Bool) (k : ℕ) → n ≤ k → below n f k ≡ false
below_out n f k h = ap (λ (b : Bool). b && f k) (le-ltb k n h)

pub below_lt : (n : ℕ) (f : ℕ → Bool) (k : ℕ) → T (below n f k) → k < n
below_lt n f k t = ltb→lt k n (and_l (ltb k n) (f k) t)

pub below-T : (n : ℕ) (f : ℕ → Bool) (k : ℕ) → k < n → T (f k) → T (below n f k)
below-T n f k h t = and_in (ltb k n) (f k) (lt→ltb k n h) t

-- ---- f moved

pub hits_in : (f : ℕ → Bool) (at a x : ℕ) → at ≤ x + a → hits f at a x ≡ f (x + a - at)
hits_in f at a x h = ap (λ (b : Bool). b && f (x + a - at)) (le-leb at (x + a) h)

pub hits-out : (f : ℕ → Bool) (at a x : ℕ) → x + a < at → hits f at a x ≡ false
hits-out f at a x h = ap (λ (b : Bool). b && f (x + a - at)) (lt-leb at (x + a) h)

-- where k goes
pub hits_at : (f : ℕ → Bool) (at a k : ℕ) → a ≤ at + k → hits f at a (at + k - a) ≡ f k
hits_at f at a k h =
    let l : at ≤ at + k - a + a = omega arith in
    let e : at + k - a + a - at ≡ k = omega arith in
    hits_in f at a (at + k - a) l ∙ ap f e

pub hits-none : (f : ℕ → Bool) (at a x : ℕ) → ((k : ℕ) → f k ≡ false) → hits f at a x ≡ false
hits-none f at a x e = false_of (hits f at a x) (λ t. subst T (e (x + a - at)) (and_r (leb at (x + a)) (f (x + a - at)) t))

-- ---- nothing moved

pub counted_none : (up : Bool) (v : ℕ) → counted up false v ≡ v
counted_none true v = omega arith
counted_none false v = omega arith

pub moved_none : (up : Bool) (f : ℕ → Bool) (at a : ℕ) (c : List ℕ) → ((k : ℕ) → f k ≡ false) → CoverMoved up (hits f at a) c c
moved_none up f at a c e =
    record { size = refl; places = λ x l. sym (ap (λ (b : Bool). counted up b (get_or c x 0)) (hits-none f at a x e) ∙ counted_none up (get_or c x 0)) }

-- ---- one pixel

pub pixel-within : (ink : Bool) (at a n : ℕ) → ink ≡ true → Within (below 1 (λ _. ink)) at a n → (a ≤ at) × (at - a < n)
pixel-within ink at a n e w =
    let r = w 0 (below-T 1 (λ _. ink) 0 (omega arith) (subst T (sym e) tt)) in
    (omega (arith, r.0), omega (arith, r.0, r.1))

pixel-moved : (up ink : Bool) (at a v : ℕ) (c : List ℕ) → ink ≡ true → a ≤ at → at - a < length c → v ≡ counted up true (get_or c (at - a) 0)
    → CoverMoved up (hits (below 1 (λ _. ink)) at a) c (set c (at - a) v)
pixel-moved up ink at a v c e lower inside q = record { size = length-set c (at - a) v; places = λ x l. by x (ℕ_discrete x (at - a)) }
  where
    f : ℕ → Bool
    f = below 1 (λ _. ink)

    far : (x : ℕ) → x ≢ at - a → Dec (x + a < at) → hits f at a x ≡ false
    far x n (yes h) = hits-out f at a x h
    far x n (no h) = hits_in f at a x (omega arith) ∙ below_out 1 (λ _. ink) (x + a - at) (past (ℕ_discrete (x + a) at))
      where
        past : Dec (x + a ≡ at) → 1 ≤ x + a - at
        past (yes z) = absurd (n (omega arith))
        past (no z) = omega arith

    by : (x : ℕ) → Dec (x ≡ at - a) → get_or (set c (at - a) v) x 0 ≡ counted up (hits f at a x) (get_or c x 0)
    by x (yes z) =
        let h : x + a - at ≡ 0 = omega (arith, lower) in
        ap (λ (j : ℕ). get_or (set c (at - a) v) j 0) z ∙ get_or-set_same c (at - a) v 0 inside ∙ q
        ∙ ap₂ (λ (b : Bool) (j : ℕ). counted up b (get_or c j 0))
        (sym (hits_in f at a x (omega (arith, lower)) ∙ ap f h ∙ below_in 1 (λ _. ink) 0 (omega arith) ∙ e)) (sym z)
    by x (no z) =
        get_or-set_other c (at - a) x v 0 z
        ∙ sym (ap (λ (b : Bool). counted up b (get_or c x 0)) (far x z (dec_lt (x + a) at)) ∙ counted_none up (get_or c x 0))

-- ---- g is F from o on, for m

module _ (F g : ℕ → Bool) (at o m a : ℕ) (e : (k : ℕ) → k < m → g k ≡ F (o + k)) where
  more_in : (k : ℕ) → o ≤ k → below (o + m) F k ≡ below m g (k - o)
  more_in k h = by (dec_lt k (o + m))
    where
      by : Dec (k < o + m) → below (o + m) F k ≡ below m g (k - o)
      by (yes l) =
          let d : o + (k - o) ≡ k = omega arith in
          below_in (o + m) F k l ∙ ap F (sym d) ∙ sym (e (k - o) (omega arith)) ∙ sym (below_in m g (k - o) (omega arith))
      by (no l) = below_out (o + m) F k (omega arith) ∙ sym (below_out m g (k - o) (omega arith))

  more-below : (k : ℕ) → k < o → below (o + m) F k ≡ below o F k
  more-below k h = below_in (o + m) F k (omega arith) ∙ sym (below_in o F k h)

  -- a k of g is one of F
  part-T : (N k : ℕ) → o + m ≤ N → T (below m g k) → T (below N F (o + k))
  part-T N k h t =
      let l = below_lt m g k t in
      below-T N F (o + k) (omega arith) (subst T (e k l) (and_r (ltb k m) (g k) t))

  -- moved, then g moved
  pub moved_more : (up : Bool) (c u v : List ℕ) → CoverMoved up (hits (below o F) at a) c u → CoverMoved up (hits (below m g) (at + o) a) u v
      → CoverMoved up (hits (below (o + m) F) at a) c v
  moved_more up c u v p q = record { size = q.size ∙ p.size; places = λ x l. by x l (dec_lt (x + a) at) (dec_lt (x + a - at) o) }
    where
      twice : (x : ℕ) → x < length c → get_or v x 0 ≡ counted up (hits (below m g) (at + o) a x) (counted up (hits (below o F) at a x) (get_or c x 0))
      twice x l = q.places x (subst (λ (n : ℕ). x < n) (sym p.size) l) ∙ ap (counted up (hits (below m g) (at + o) a x)) (p.places x l)

      by : (x : ℕ) → x < length c → Dec (x + a < at) → Dec (x + a - at < o) → get_or v x 0 ≡ counted up (hits (below (o + m) F) at a x) (get_or c x 0)
      by x l (yes h) d =
          twice x l
          ∙ ap₂ (λ (s t : Bool). counted up s (counted up t (get_or c x 0))) (hits-out (below m g) (at + o) a x (omega arith)) (hits-out (below o F) at a x h)
          ∙ counted_none up (counted up false (get_or c x 0))
          ∙ ap (λ (s : Bool). counted up s (get_or c x 0)) (sym (hits-out (below (o + m) F) at a x h))
      by x l (no h) (yes d) =
          let i : at ≤ x + a = omega arith in
          twice x l
          ∙ ap₂ (λ (s t : Bool). counted up s (counted up t (get_or c x 0))) (hits-out (below m g) (at + o) a x (omega arith)) (hits_in (below o F) at a x i)
          ∙ counted_none up (counted up (below o F (x + a - at)) (get_or c x 0))
          ∙ ap (λ (s : Bool). counted up s (get_or c x 0)) (sym (hits_in (below (o + m) F) at a x i ∙ more-below (x + a - at) d))
      by x l (no h) (no d) =
          let i : at ≤ x + a = omega arith in
          let j : o ≤ x + a - at = omega arith in
          let z : x + a - (at + o) ≡ x + a - at - o = omega arith in
          twice x l
          ∙ ap₂ (λ (s t : Bool). counted up s (counted up t (get_or c x 0))) (hits_in (below m g) (at + o) a x (omega arith) ∙ ap (below m g) z)
          (hits_in (below o F) at a x i ∙ below_out o F (x + a - at) j)
          ∙ ap (counted up (below m g (x + a - at - o))) (counted_none up (get_or c x 0))
          ∙ ap (λ (s : Bool). counted up s (get_or c x 0)) (sym (hits_in (below (o + m) F) at a x i ∙ more_in (x + a - at) j))

  pub within-part : (N n : ℕ) → o + m ≤ N → Within (below N F) at a n → Within (below m g) (at + o) a n
  within-part N n h w k t =
      let r = w (o + k) (part-T N k h t) in
      (omega (arith, r.0), omega (arith, r.1))

  -- what is left is as it was
  pub open-part : (up : Bool) (N : ℕ) (c u : List ℕ) → o + m ≤ N → Open up (below N F) at a c → CoverMoved up (hits (below o F) at a) c u
      → Open up (below m g) (at + o) a u
  open-part up N c u h w p = record {
    within = λ k t. subst (λ (n : ℕ). (a ≤ at + o + k) × (at + o + k < a + n)) (sym p.size) (within-part N (length c) h w.within k t);
    free = λ k t.
        let s = part-T N k h t in
        let r = w.within (o + k) s in
        let z : at + (o + k) - a ≡ at + o + k - a = omega arith in
        let l : at + (o + k) - a < length c = omega (arith, r.0, r.1) in
        let i : get_or u (at + (o + k) - a) 0 ≡ get_or c (at + (o + k) - a) 0 =
        p.places (at + (o + k) - a) l
        ∙ ap (λ (b : Bool). counted up b (get_or c (at + (o + k) - a) 0)) (hits_at (below o F) at a (o + k) r.0 ∙ below_out o F (o + k) (omega arith))
        ∙ counted_none up (get_or c (at + (o + k) - a) 0) in
        subst (Free up) (sym i ∙ ap (λ (x : ℕ). get_or u x 0) z) (w.free (o + k) s);
  }

  -- tested, then g tested
  pub twice_more : (c : List ℕ) → Twice (below o F) at a c → Twice (below m g) (at + o) a c → Twice (below (o + m) F) at a c
  twice_more c p q k t = by (dec_lt k o)
    where
      by : Dec (k < o) → 2 ≤ get_or c (at + k - a) 0
      by (yes h) = p k (subst T (more-below k h) t)
      by (no h) =
          let i : o ≤ k = omega arith in
          let z : at + o + (k - o) - a ≡ at + k - a = omega arith in
          subst (λ (x : ℕ). 2 ≤ get_or c x 0) z (q (k - o) (subst T (more_in k i) t))

  pub twice-first : (c : List ℕ) → Twice (below (o + m) F) at a c → Twice (below o F) at a c
  twice-first c w k t = w k (subst T (sym (more-below k (below_lt o F k t))) t)

  pub twice-part : (N : ℕ) (c : List ℕ) → o + m ≤ N → Twice (below N F) at a c → Twice (below m g) (at + o) a c
  twice-part N c h w k t =
      let z : at + (o + k) - a ≡ at + o + k - a = omega arith in
      subst (λ (x : ℕ). 2 ≤ get_or c x 0) z (w (o + k) (part-T N k h t))

-- ---- a loop's turn and end

-- g is one pixel
pub pixel_of : (F : ℕ → Bool) (o : ℕ) (ink : Bool) → ink ≡ F o → (k : ℕ) → k < 1 → ink ≡ F (o + k)
pixel_of F o ink e k h = let z : o ≡ o + k = omega arith in e ∙ ap F z

pub none_below : (n : ℕ) (F : ℕ → Bool) → ((k : ℕ) → k < n → F k ≡ false) → (k : ℕ) → below n F k ≡ false
none_below n F e k = false_of (below n F k) (λ t. subst T (e k (below_lt n F k t)) (and_r (ltb k n) (F k) t))

-- ---- answers

pub tells-yes : {P : Type 0} → P → Tells true P
tells-yes p = record { yes = λ e. p; no = λ e q. subst T e tt }

pub tells-no : {P : Type 0} → (P → ⊥) → Tells false P
tells-no f = record { yes = λ e. absurd (subst T (sym e) tt); no = λ e q. f q }

-- two answers to the parts of R
pub tells-and : {P Q R : Type 0} (s t : Bool) → Tells s P → Tells t Q → (P → Q → R) → (R → P) → (R → Q) → Tells (s && t) R
tells-and true t p q f g h = record { yes = λ e. f (p.yes refl) (q.yes e); no = λ e r. q.no e (h r) }
tells-and false t p q f g h = record { yes = λ e. absurd (subst T (sym e) tt); no = λ e r. p.no refl (g r) }

-- the counter of one pixel
pub pixel-tells : (ink : Bool) (at a : ℕ) (c : List ℕ) → ink ≡ true → Tells (leb 2 (get_or c (at - a) 0)) (Twice (below 1 (λ _. ink)) at a c)
pixel-tells ink at a c e = record {
  yes = λ t k u.
      let l = below_lt 1 (λ _. ink) k u in
      let z : at - a ≡ at + k - a = omega arith in
      subst (λ (x : ℕ). 2 ≤ get_or c x 0) z (leb→le 2 (get_or c (at - a) 0) (subst T (sym t) tt));
  no = λ t p.
      let z : at + 0 - a ≡ at - a = omega arith in
      let h = p 0 (below-T 1 (λ _. ink) 0 (omega arith) (subst T (sym e) tt)) in
      subst T t (le→leb 2 (get_or c (at - a) 0) (subst (λ (x : ℕ). 2 ≤ get_or c x 0) z h));
}

-- ---- what is done at each counter

-- the counter of one pixel
pub pixel_slot : (k : Task) (ink : Bool) (at a : ℕ) (c : List ℕ) → ink ≡ true → Ready k (below 1 (λ _. ink)) at a c → Slot k at a c
pixel_slot (count up) ink at a c e w =
    let t = below-T 1 (λ _. ink) 0 (omega arith) (subst T (sym e) tt) in
    let r = pixel-within ink at a (length c) e w.within in
    let z : at + 0 - a ≡ at - a = omega arith in
    record { lower = r.0; inside = r.1; takes = subst (λ (x : ℕ). Free up (get_or c x 0)) z (w.free 0 t) }
pixel_slot test ink at a c e w =
    let r = pixel-within ink at a (length c) e w in
    record { lower = r.0; inside = r.1; takes = tt }

pub pixel-done : (k : Task) (ink : Bool) (at a v : ℕ) (c : List ℕ) (t : Bool) → ink ≡ true → Slot k at a c
    → (v ≡ after k (get_or c (at - a) 0)) × (t ≡ passes k (get_or c (at - a) 0)) → Done k (below 1 (λ _. ink)) at a c (set c (at - a) v) t
pixel-done (count up) ink at a v c t e s q = (q.1, pixel-moved up ink at a v c e s.lower s.inside q.0)
pixel-done test ink at a v c t e s q = (
  ap (set c (at - a)) q.0 ∙ set-get_or c (at - a) 0,
  subst (λ (b : Bool). Tells b (Twice (below 1 (λ _. ink)) at a c)) (sym q.1) (pixel-tells ink at a c e),
)

pub none-done : (k : Task) (f : ℕ → Bool) (at a : ℕ) (c : List ℕ) → ((j : ℕ) → f j ≡ false) → Done k f at a c c true
none-done (count up) f at a c e = (refl, moved_none up f at a c e)
none-done test f at a c e = (refl, tells-yes (λ j t. absurd (subst T (e j) t)))

-- as far as o, and then g, which is F from o on, for m
module _ (F g : ℕ → Bool) (at o m a : ℕ) (e : (j : ℕ) → j < m → g j ≡ F (o + j)) where
  pub part_ready : (k : Task) (N : ℕ) (c u : List ℕ) (t : Bool) → o + m ≤ N → Ready k (below N F) at a c → Done k (below o F) at a c u t
      → Ready k (below m g) (at + o) a u
  part_ready (count up) N c u t h w p = open-part F g at o m a e up N c u h w p.1
  part_ready test N c u t h w p = within-part F g at o m a e N (length u) h (subst (λ (l : List ℕ). Within (below N F) at a (length l)) (sym p.0) w)

  pub done_more : (k : Task) (c u v : List ℕ) (s t : Bool) → Done k (below o F) at a c u s → Done k (below m g) (at + o) a u v t
      → Done k (below (o + m) F) at a c v (s && t)
  done_more (count up) c u v s t p q = (ap₂ (λ (x y : Bool). x && y) p.0 q.0, moved_more F g at o m a e up c u v p.1 q.1)
  done_more test c u v s t p q = (
    q.0 ∙ p.0,
    tells-and s t p.1 (subst (λ (l : List ℕ). Tells t (Twice (below m g) (at + o) a l)) p.0 q.1) (twice_more F g at o m a e c)
        (twice-first F g at o m a e c) (twice-part F g at o m a e (o + m) c (omega arith)),
  )

  -- where g passes, and where it does not
  pub done_next : (k : Task) (N : ℕ) (c u v : List ℕ) (t : Bool) → o + m ≡ N → Done k (below o F) at a c u true → Done k (below m g) (at + o) a u v t
      → t ≡ true → Done k (below N F) at a c v true
  done_next k N c u v t z p q f =
      subst (λ (n : ℕ). Done k (below n F) at a c v true) z (subst (Done k (below (o + m) F) at a c v) f (done_more k c u v true t p q))

  pub done-fails : (k : Task) (N : ℕ) (c u v : List ℕ) (t : Bool) → o + m ≤ N → Done k (below o F) at a c u true → Done k (below m g) (at + o) a u v t
      → t ≡ false → Done k (below N F) at a c v false
  done-fails (count up) N c u v t h p q f = absurd (subst T (sym q.0 ∙ f) tt)
  done-fails test N c u v t h p q f = (
    q.0 ∙ p.0,
    tells-no (λ w. q.1.no f (subst (λ (l : List ℕ). Twice (below m g) (at + o) a l) (sym p.0) (twice-part F g at o m a e N c h w))),
  )

pub done_as : (k : Task) (f g : ℕ → Bool) (at a : ℕ) (c u : List ℕ) (t : Bool) → ((j : ℕ) → f j ≡ g j) → Done k f at a c u t → Done k g at a c u t
done_as k f g at a c u t e p = subst (λ (f : ℕ → Bool). Done k f at a c u t) (fun_ext e) p
