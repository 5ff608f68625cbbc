-- A call by number is the operation's own; a reply says the answer that it was made of.
use mathlib.Core.List.{List, [], ◌++◌, ◌∷◌}
use mathlib.Core.Path.{◌∙◌, ◌≡◌, ap, refl, sym}
use Prim.Native.Nat.{◌≤◌, suc, ℕ}
use native.Mathlib.Omega.{arith}
use Rattle.std.specs.Prelude.{Err, None, Ok, Option, Result, Some}
use lib.ListN.{get_or-eq_default}
use Rattle.dilation.specs.Dilation.{dilated}
use Rattle.encoding.specs.Encoded.{written}
use Rattle.encoding.specs.declared.Stream.{Stream}
use Rattle.morphology.specs.Answers.{Answer, Outcome, outcome}
use Rattle.refusals.specs.Refusal.{answer_by}
use Rattle.refusals.specs.declared.Refusal.{Refusal}
use Rattle.skeleton.specs.Decomposed.{found}
use Rattle.skeleton.specs.declared.Skeleton.{Skeleton}
use Rattle.calls.specs.Called.{beside, called, operations}
use Rattle.calls.specs.Replies.{answer_of, reply_of}
use Rattle.calls.specs.declared.Reply.{Reply}

-- ---- an answer of at most three values, as a reply and back

abbrev pub Faithful : Answer → Type 0
Faithful a = answer_of (reply_of a) ≡ a

pub kept : {A : Type 0} (values : A → Answer) → ((v : A) → Faithful (values v)) → (r : Result A Refusal) → Faithful (answer_by values r)
kept values f (Ok v) = f v
kept values f (Err refusal) = refl

pub found-kept : (s : Option Skeleton) → Faithful (found s)
found-kept None = refl
found-kept (Some s) = refl

pub written-kept : (s : Option Stream) → Faithful (written s)
written-kept None = refl
written-kept (Some s) = refl

-- ---- what a call owes: the outcome, and a reply with 0 where it has no value

abbrev pub Owed : Reply → List (List ℕ) → Outcome → Type 0
Owed r l o = (outcome (answer_of r) l ≡ o) × (r ≡ reply_of (answer_of r))

pub owed : {a : Answer} {r : Reply} (l : List (List ℕ)) {o p : Outcome} → Faithful a → r ≡ reply_of a → outcome a l ≡ o → p ≡ o → Owed r l p
owed {a} {r} l k e q g =
    let s : answer_of r ≡ a = ap answer_of e ∙ k in (ap (λ (b : Answer). outcome b l) s ∙ q ∙ sym g, e ∙ ap reply_of (sym s))

-- the same beside buffers that the operation does not have
pub owed-beside : {a : Answer} {r : Reply} (l others : List (List ℕ)) {o p : Outcome} → Faithful a → r ≡ reply_of a → outcome a l ≡ o → p ≡ beside o others
    → Owed r (l ++ others) p
owed-beside l others k e q g = owed (l ++ others) k e (ap (λ (o : Outcome). beside o others) q) g

-- ---- the number of a call

-- no number that was tried
pub past : (n k : ℕ) → k ≤ n → (n ≡ k → ⊥) → suc k ≤ n
past n k h f = omega arith

module _ (W H a b : ℕ) (x y z c : List ℕ) where
  pub called_as : {op : ℕ} (k : ℕ) → op ≡ k → called op W H a b x y z c ≡ called k W H a b x y z c
  called_as k e = ap (λ (n : ℕ). called n W H a b x y z c) e

  pub called-dilated : (op : ℕ) → 10 ≤ op → called op W H a b x y z c ≡ beside (dilated W H a x y z) (c ∷ [])
  unfolding called
  called-dilated op h = get_or-eq_default (operations W H a b x y z c) _ h
