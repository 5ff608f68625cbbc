-- The calls of a sieve are its outcome; a sieve as it runs is the claims' sieve, by cases of the first call's refusal, and so is a list, by induction.
use mathlib.Core.Bool.{Bool, ◌||◌, cond, false, not, true}
use mathlib.Core.List.{List, [], ◌∷◌}
use mathlib.Core.Path.{◌∙◌, ◌≡◌, ap, ap₂, refl, subst, sym}
use Prim.Native.Nat.{suc, zero, ℕ}
use native.Mathlib.Nat.{suc-ne-zero}
use borrow.Author.Tests.{ne_eqb}
use lib.Dec.{T, eqb}
use Rattle.std.specs.Prelude.{None, Option, Result, Some}
use Rattle.std.specs.Result.{IsErrAnd}
use Rattle.std.proofs.lemmas.Result.{err_from_is_err_and}
use Rattle.claims.specs.Sieves.{accepted, is_refused, largest_cut, rebuilt, sieve_all, sieve_refused, sieved, taken_apart}
use Rattle.claims.specs.Claims.{Sieved}
use Rattle.claims.proofs.Claims.{refuses_exactly, sieve_list}
use Rattle.morphology.specs.Answers.{Answer, Outcome, outcome, output, refused}
use Rattle.morphology.specs.Operations.{decomposed, reconstructed}
use Rattle.morphology.specs.Refusals.{unless}
use Rattle.morphology.proofs.RefusalLaws.{unless_in, unless-refused}
use Rattle.refusals.specs.Refusal.{answer_of, number_of}
use Rattle.refusals.specs.declared.Refusal.{Refusal}
use Rattle.refusals.proofs.RowLaws.{number_ne-zero}
use Rattle.skeleton.specs.Decomposed.{found}
use Rattle.skeleton.specs.declared.Skeleton.{Skeleton}
use Rattle.sieves.specs.Ran.{ListRunsAsClaimed, Ran, RunningSieveList, RunsAsClaimed, handed, handed_all, run, run_all, sieve_outcome, work_of}

-- ---- a refused call leaves its buffers

decomposed-left : (W H e : ℕ) (image labels work : List ℕ) → ((decomposed W H e image labels work).answer.refusal ≡ 0 → ⊥)
    → (decomposed W H e image labels work).lent ≡ labels ∷ work ∷ []
decomposed-left W H e image labels work f = ap (λ (o : Outcome). o.lent) ((refuses_exactly.decomposition W H e image labels work).unchanged f)

reconstructed-left : (W H e k : ℕ) (labels image work : List ℕ) → ((reconstructed W H e k labels image work).answer.refusal ≡ 0 → ⊥)
    → (reconstructed W H e k labels image work).lent ≡ image ∷ work ∷ []
reconstructed-left W H e k labels image work f = ap (λ (o : Outcome). o.lent) ((refuses_exactly.reconstruction W H e k labels image work).unchanged f)

-- ---- the calls as they are made

module _ (W H e k : ℕ) (image labels work : List ℕ) where
  -- the first call is refused
  pub outcome_refused : (r : Result ℕ Refusal) (x : Refusal) (labels' work' : List ℕ) → IsErrAnd r (λ y. y ≡ x)
      → outcome (refused (number_of x)) (labels' ∷ work' ∷ []) ≡ decomposed W H e image labels work
      → outcome (answer_of r) (image ∷ labels' ∷ work' ∷ []) ≡ sieve_outcome W H e k image labels work
  unfolding sieve_outcome
  outcome_refused r x labels' work' i q =
      let p = err_from_is_err_and r i in
      let D = decomposed W H e image labels work in
      let z : number_of x ≡ D.answer.refusal = ap (λ (o : Outcome). o.answer.refusal) q in
      let g : D.answer.refusal ≡ 0 → ⊥ = λ y. number_ne-zero x (z ∙ y) in
      ap (λ (a : Result ℕ Refusal). outcome (answer_of a) (image ∷ labels' ∷ work' ∷ [])) p.1
      ∙ ap (λ (y : Refusal). outcome (refused (number_of y)) (image ∷ labels' ∷ work' ∷ [])) p.2
      ∙ ap₂ (λ (i : ℕ) (l : List (List ℕ)). outcome (refused i) (image ∷ l)) z (ap (λ (o : Outcome). o.lent) q ∙ decomposed-left W H e image labels work g)
      ∙ sym (unless-refused D.answer.refusal (image ∷ labels ∷ work ∷ []) _ g)

  -- it is not
  pub outcome_both : (f : Option Skeleton) (b : Answer) (labels' work' left work'' : List ℕ) → outcome (found f) (labels' ∷ work' ∷ []) ≡ decomposed W H e image labels work
      → outcome b (left ∷ work'' ∷ []) ≡ reconstructed W H e k labels' image work'
      → outcome b (left ∷ labels' ∷ work'' ∷ []) ≡ sieve_outcome W H e k image labels work
  unfolding sieve_outcome
  outcome_both f b labels' work' left work'' q p =
      let D = decomposed W H e image labels work in
      let after : Outcome → Outcome → Outcome = λ first second. outcome second.answer (output second ∷ output first ∷ work_of second ∷ []) in
      ap (λ (o : Outcome). outcome o.answer (output o ∷ labels' ∷ work_of o ∷ [])) p
      ∙ ap (λ (o : Outcome). after o (reconstructed W H e k (output o) image (work_of o))) q
      ∙ sym (unless_in D.answer.refusal (image ∷ labels ∷ work ∷ []) (after D (reconstructed W H e k (output D) image (work_of D)))
      (sym (ap (λ (o : Outcome). o.answer.refusal) q) ∙ unrefused f))
    where
      unrefused : (f : Option Skeleton) → (found f).refusal ≡ 0
      unrefused None = refl
      unrefused (Some s) = refl

-- ---- the claims

-- where a call is refused the image is as it was
scan-left : (W H e k : ℕ) (labels image work : List ℕ) (t : Bool) → is_refused (reconstructed W H e k labels image work) ≡ t
    → output (reconstructed W H e k labels image work) ≡ cond t image (output (reconstructed W H e k labels image work))
scan-left W H e k labels image work true q =
    ap (λ (l : List (List ℕ)). output (outcome (refused 0) l))
    (reconstructed-left W H e k labels image work (λ z. absurd (subst T (sym q ∙ ap (λ (n : ℕ). not (eqb n 0)) z) tt)))
scan-left W H e k labels image work false q = refl

pub runs_as_claimed : RunsAsClaimed
unfolding sieve_outcome sieved sieve_refused taken_apart rebuilt
runs_as_claimed s image = go D.answer.refusal refl
  where
    D : Outcome
    D = decomposed s.width s.height s.element image s.labels s.first_work

    R : Outcome
    R = reconstructed s.width s.height s.element s.cut (output D) image (work_of D)

    go : (n : ℕ) → D.answer.refusal ≡ n
        → Ran (handed s image) image (unless n (image ∷ s.labels ∷ s.first_work ∷ []) (outcome R.answer (output R ∷ output D ∷ work_of R ∷ [])))
    go zero q =
        let one : is_refused R ≡ sieve_refused (handed s image) image = sym (ap (λ (n : ℕ). not (eqb n 0) || is_refused R) q) in
        record {
          scan = scan-left s.width s.height s.element s.cut (output D) image (work_of D) (is_refused R) refl
              ∙ ap (λ (b : Bool). cond b image (output R)) one;
          refusal = one;
          answer = λ g. refl;
        }
    go (suc n) q =
        let f = ne_eqb (suc n) 0 (suc-ne-zero n) in
        let one : true ≡ sieve_refused (handed s image) image = sym
        (ap (λ (n : ℕ). not (eqb n 0) || is_refused R) q ∙ ap (λ (b : Bool). not b || is_refused R) f) in
        record {
          scan = ap (λ (b : Bool). cond b image (output R)) one;
          refusal = ap not f ∙ one;
          answer = λ g. absurd (subst T (one ∙ g) tt);
        }

pub list-runs_as_claimed : ListRunsAsClaimed
unfolding run_all handed_all sieve_all
list-runs_as_claimed [] image = refl
list-runs_as_claimed (s ∷ ss) image =
    let next = output (run s image) in
    list-runs_as_claimed ss next ∙ ap (sieve_all (handed_all ss next)) (runs_as_claimed s image).scan

pub running_sieve_list : RunningSieveList
running_sieve_list W H e first ss i el one =
    let done = accepted (handed_all ss first) first in
    subst (λ (last : List ℕ). Sieved W H e first done (largest_cut done) last) (sym (list-runs_as_claimed ss first))
    (sieve_list W H e first (handed_all ss first) i el one)
