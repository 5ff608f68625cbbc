-- One sieve, and a list of sieves.
use mathlib.Core.Bool.{Bool, cond, false, true}
use mathlib.Core.List.Memᴰ
use mathlib.Core.List.{List, [], ◌++◌, ◌∷◌, map}
use mathlib.Core.Path.{◌∙◌, ◌≡◌, ap, refl, subst, sym}
use Prim.Native.Nat.{max, ℕ}
use native.Mathlib.Omega.{arith}
use borrow.Author.Tests.{eqb-true, not-false}
use lib.Dec.{T, eqb}
use lib.ListN.{length, length-append}
use Rattle.claims.specs.Claims.{OneFrame}
use Rattle.claims.specs.Sieves.{Sieve, accepted, is_refused, largest_cut, rebuilt, sieve_all, sieve_refused, sieved, taken_apart}
use Rattle.claims.proofs.AcceptedLaws.{decomposed-accepted, reconstructed-accepted}
use Rattle.morphology.specs.Answers.{Outcome, foreground, output}
use Rattle.morphology.specs.Element.{is_element, offsets}
use Rattle.morphology.specs.Image.{image_set, pack}
use Rattle.morphology.specs.Labels.{area}
use Rattle.morphology.specs.Lists.{greatest}
use Rattle.morphology.specs.Morphology.{opening, times}
use Rattle.morphology.specs.Point.{Point}
use Rattle.morphology.specs.Skeleton.{reconstruction}
use Rattle.morphology.proofs.ElementLaws.{element}
use Rattle.morphology.proofs.ImageLaws.{image_on, image-pack}
use Rattle.morphology.proofs.MorphologyLaws.{open-max, open-zero}
use Rattle.morphology.proofs.RefusalLaws.{or-out-false}
use Rattle.morphology.proofs.SkeletonLaws.{open_on, reconstruction_open}

-- the opening of an image by the k-fold element
abbrev opening_of : ℕ → ℕ → ℕ → ℕ → List ℕ → (Point → Bool)
opening_of W H e k image = opening (times (offsets e) k) (image_set W H image)

not-refused : (o : Outcome) → is_refused o ≡ false → o.answer.refusal ≡ 0
not-refused o h = eqb-true o.answer.refusal 0 (not-false (eqb o.answer.refusal 0) h)

-- what a sieve leaves and answers: the opening by its cut
abbrev Opens : Sieve → List ℕ → ℕ → ℕ → ℕ → Type 0
Opens s image W H e =
    (output (rebuilt s image) ≡ pack W H (opening_of W H e s.cut image)) × ((rebuilt s image).answer ≡ foreground (area W H (opening_of W H e s.cut image)))

sieve_own : (s : Sieve) (image : List ℕ) → T (is_element s.element) → sieve_refused s image ≡ false
    → Opens s image s.width s.height s.element
unfolding sieve_refused taken_apart rebuilt
sieve_own s image el h =
    let W = s.width in
    let H = s.height in
    let e = s.element in
    let k = s.cut in
    let m = output (taken_apart s image) in
    let r = or-out-false (is_refused (taken_apart s image)) (is_refused (rebuilt s image)) h in
    let a = ap output (decomposed-accepted W H e image s.labels s.first_work (not-refused (taken_apart s image) r.0)).is in
    let b = (reconstructed-accepted W H e k m image s.second_work (not-refused (rebuilt s image) r.1)).is in
    let X : reconstruction W H (offsets e) k m ≡ opening_of W H e k image =
    ap (reconstruction W H (offsets e) k) a ∙ reconstruction_open W H (offsets e) (element e el) (image_set W H image) (image_on W H image) k in
    (ap output b ∙ ap (pack W H) X, ap (λ (o : Outcome). o.answer) b ∙ ap (λ (Y : Point → Bool). foreground (area W H Y)) X)

-- a list that has a last member is not empty
nil-not_snoc : {A : Type 0} (l : List A) (a : A) → [] ≡ l ++ (a ∷ []) → ⊥
nil-not_snoc l a q = omega (arith, ap length q, length-append l (a ∷ []))

module _ (W H e : ℕ) (el : T (is_element e)) where
  sieve_open : (s : Sieve) (image : List ℕ) → (s.width ≡ W) × (s.height ≡ H) × (s.element ≡ e) → sieve_refused s image ≡ false → Opens s image W H e
  sieve_open s image q h =
      subst (λ (w : ℕ). Opens s image w H e) q.0
      (subst (λ (h : ℕ). Opens s image s.width h e) q.1
      (subst (λ (f : ℕ). Opens s image s.width s.height f) q.2
      (sieve_own s image (subst (λ (f : ℕ). T (is_element f)) (sym q.2) el) h)))

  -- a packed opening is read back
  image_open : (k : ℕ) (image : List ℕ) → image_set W H (pack W H (opening_of W H e k image)) ≡ opening_of W H e k image
  image_open k image = image-pack W H (opening_of W H e k image) (open_on W H (times (offsets e) k) (image_set W H image) (image_on W H image))

  -- what a list leaves, and what the last of those not refused answered
  abbrev pub LeavesOpening : List ℕ → ℕ → List ℕ → Type 0
  LeavesOpening image K last = last ≡ pack W H (opening_of W H e K image)

  abbrev pub Answers : List ℕ → ℕ → List (Sieve × Outcome) → Type 0
  Answers image K done =
      (before : List (Sieve × Outcome)) (a : Sieve × Outcome) → done ≡ before ++ (a ∷ []) → a.1.answer ≡ foreground (area W H (opening_of W H e K image))

  abbrev LeftAndAnswered : List Sieve → List ℕ → Type 0
  LeftAndAnswered ss image = LeavesOpening image (largest_cut (accepted ss image)) (sieve_all ss image) × Answers image (largest_cut (accepted ss image)) (accepted ss image)

  -- the last answer, one sieve more at the front
  answers_more : (s : Sieve) (o : Outcome) (rest : List (Sieve × Outcome)) (image next : List ℕ)
      → o.answer ≡ foreground (area W H (opening_of W H e s.cut image))
      → opening_of W H e (largest_cut rest) next ≡ opening_of W H e (max (largest_cut rest) s.cut) image
      → Answers next (largest_cut rest) rest → Answers image (max (largest_cut rest) s.cut) ((s, o) ∷ rest)
  unfolding largest_cut greatest
  answers_more s o rest image next q y ih [] a p =
      let r : rest ≡ [] = cc in
      let f : (s, o) ≡ a = cc in
      let k : s.cut ≡ max (greatest (map (λ (a : Sieve × Outcome). a.0.cut) rest)) s.cut =
      let z : greatest (map (λ (a : Sieve × Outcome). a.0.cut) rest) ≡ 0 = ap (λ (l : List (Sieve × Outcome)). greatest (map (λ (a : Sieve × Outcome). a.0.cut) l)) r in
      omega arith in
      sym (ap (λ (a : Sieve × Outcome). a.1.answer) f) ∙ q ∙ ap (λ (n : ℕ). foreground (area W H (opening_of W H e n image))) k
  answers_more s o rest image next q y ih (b ∷ before) a p =
      let r : rest ≡ before ++ (a ∷ []) = cc in
      ih before a r ∙ ap (λ (Y : Point → Bool). foreground (area W H Y)) y

  pub sieves_open : (ss : List Sieve) (image : List ℕ) → image ≡ pack W H (image_set W H image) → OneFrame W H e (accepted ss image) → LeftAndAnswered ss image
  unfolding sieve_all accepted largest_cut greatest sieved
  sieves_open [] image c one = (
    c ∙ ap (pack W H) (sym (open-zero (offsets e) (image_set W H image))),
    λ before a q. absurd (nil-not_snoc before a q),
  )
  sieves_open (s ∷ ss) image c one = go (sieve_refused s image) refl (λ i. sieves_open ss i)
    where
      next : Bool → List ℕ
      next b = cond b image (output (rebuilt s image))

      list : Bool → List (Sieve × Outcome)
      list b = cond b (accepted ss (next b)) ((s, rebuilt s image) ∷ accepted ss (next b))

      go : (b : Bool) → sieve_refused s image ≡ b → ((i : List ℕ) → i ≡ pack W H (image_set W H i) → OneFrame W H e (accepted ss i) → LeftAndAnswered ss i)
          → LeavesOpening image (largest_cut (list b)) (sieve_all ss (next b)) × Answers image (largest_cut (list b)) (list b)
      go true q ih = ih image c (subst (λ (b : Bool). OneFrame W H e (list b)) q one)
      go false q ih =
          let one' = subst (λ (b : Bool). OneFrame W H e (list b)) q one in
          let o = sieve_open s image (one' (s, rebuilt s image) (Memᴰ.head refl)) q in
          let i = output (rebuilt s image) in
          let Y = opening_of W H e s.cut image in
          let x : image_set W H i ≡ Y = ap (image_set W H) o.0 ∙ image_open s.cut image in
          let r = ih i (o.0 ∙ ap (pack W H) (sym x)) (λ a m. one' a (Memᴰ.tail m)) in
          let K = largest_cut (accepted ss i) in
          let y : opening_of W H e K i ≡ opening_of W H e (max K s.cut) image =
          ap (opening (times (offsets e) K)) x ∙ open-max (offsets e) K s.cut (image_set W H image) in
          (r.0 ∙ ap (pack W H) y, answers_more s (rebuilt s image) (accepted ss i) image i o.1 y r.1)
