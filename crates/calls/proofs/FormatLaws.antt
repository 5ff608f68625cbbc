-- A reply's bytes.
use mathlib.Core.Bool.{Bool, false, not, true}
use mathlib.Core.List.{List, [], ◌++◌, ◌∷◌}
use mathlib.Core.Path.{◌∙◌, ◌≡◌, ap, ap₂, sym}
use Prim.Native.Nat.{◌*◌, ℕ}
use borrow.Author.Tests.{eq-eqb, ne_eqb}
use lib.Dec.{eqb}
use lib.ListN.{get_or, length}
use Rattle.morphology.specs.Answers.{Outcome, refused}
use Rattle.morphology.specs.Refusals.{checked, first_refusal, row3, unless}
use Rattle.numbers.specs.Numbers.{counter_bytes, counters_of, four_bytes, number_at}
use Rattle.calls.specs.Called.{called}
use Rattle.calls.specs.Format.{headed, in_bytes, replied, reply, reply_bytes}
use Rattle.calls.specs.Replies.{reply_of}
use Rattle.calls.specs.declared.Reply.{Reply}
use Rattle.calls.proofs.CallLaws.{Owed}

-- a reply's bytes from those of its values
pub bytes-replied : (r : Reply) (a b c : List ℕ) → a ≡ four_bytes r.first → b ≡ four_bytes r.second → c ≡ four_bytes r.third
    → (r.refusal ∷ r.count ∷ get_or a 0 0 ∷ get_or a 1 0 ∷ get_or a 2 0 ∷ get_or a 3 0 ∷ get_or b 0 0 ∷ get_or b 1 0 ∷ get_or b 2 0 ∷ get_or b 3 0 ∷ get_or c 0 0 ∷ get_or c 1
    0 ∷ get_or c 2 0 ∷ get_or c 3 0 ∷ [])
    ≡ reply_bytes r
bytes-replied r a b c e f g =
    ap (λ (l : List ℕ). r.refusal ∷ r.count ∷ (four l ++ (four b ++ four c))) e
    ∙ ap (λ (l : List ℕ). r.refusal ∷ r.count ∷ (four_bytes r.first ++ (four l ++ four c))) f
    ∙ ap (λ (l : List ℕ). r.refusal ∷ r.count ∷ (four_bytes r.first ++ (four_bytes r.second ++ four l))) g
  where
    four : List ℕ → List ℕ
    four l = get_or l 0 0 ∷ get_or l 1 0 ∷ get_or l 2 0 ∷ get_or l 3 0 ∷ []

-- ---- a reply is what a call leaves

module _ (s x y z c counters : List ℕ) where
  -- by whether c has a wrong length
  replied_by : (b : Bool) → not (eqb (length c) (2 * length counters)) ≡ b
      → replied s x y z c counters ≡ reply (unless (first_refusal (row3 (b ∷ []) ∷ [])) (y ∷ z ∷ c ∷ counters ∷ []) (in_bytes (headed s x y z (counters_of c))))
  unfolding replied
  replied_by b q = ap (λ (t : Bool). reply (checked (row3 (t ∷ []) ∷ []) (y ∷ z ∷ c ∷ counters ∷ []) (in_bytes (headed s x y z (counters_of c))))) q

  -- no call is made
  pub replied_wrong : (bytes : List ℕ) → (length c ≡ 2 * length counters → ⊥) → bytes ≡ reply_bytes (reply_of (refused 3))
      → bytes ∷ y ∷ z ∷ c ∷ counters ∷ [] ≡ replied s x y z c counters
  unfolding first_refusal
  replied_wrong bytes f e = ap (λ (b : List ℕ). b ∷ y ∷ z ∷ c ∷ counters ∷ []) e ∙ sym (replied_by true (ap not (ne_eqb _ _ f)))

  -- the call is made
  pub replied_made : (W H a b : ℕ) (c₁ : List ℕ) (r : Reply) (bytes y' z' c₂ c' : List ℕ) → length c ≡ 2 * length counters → W ≡ number_at s 1
      → H ≡ number_at s 5 → a ≡ number_at s 9
      → b ≡ number_at s 13 → c₁ ≡ counters_of c → Owed r (y' ∷ z' ∷ c₂ ∷ []) (called (get_or s 0 0) W H a b x y z c₁) → bytes ≡ reply_bytes r → c' ≡ counter_bytes c₂
      → bytes ∷ y' ∷ z' ∷ c' ∷ c₂ ∷ [] ≡ replied s x y z c counters
  unfolding first_refusal
  replied_made W H a b c₁ r bytes y' z' c₂ c' size eW eH ea eb ec o er e' =
      let call : called (get_or s 0 0) W H a b x y z c₁ ≡ headed s x y z (counters_of c) = cc in
      ap₂ (λ (p q : List ℕ). p ∷ y' ∷ z' ∷ q ∷ c₂ ∷ []) (er ∙ ap reply_bytes o.1) e'
      ∙ ap (λ (o : Outcome). reply (in_bytes o)) (o.0 ∙ call)
      ∙ sym (replied_by false (ap not (eq-eqb _ _ size)))
