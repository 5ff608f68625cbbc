-- The text of an answer, piece by piece.
use mathlib.Core.List.{List, [], ◌++◌, ◌∷◌, append_assoc, append-nil}
use mathlib.Core.Path.{◌∙◌, ◌≡◌, ap}
use Prim.Native.Nat.{ℕ}
use Rattle.std.specs.Prelude.{Ok, Option, Result}
use Rattle.refusals.specs.declared.Refusal.{Refusal}
use Rattle.skeleton.specs.Decomposed.{answer_of, found}
use Rattle.skeleton.specs.declared.Skeleton.{Skeleton}
use Rattle.listing.specs.Printed.{answer_text, refusal_text, refused_word, skeleton_text}
use Rattle.listing.specs.Text.{after, decimal, line, line_feed, map_text, space, spaced}
use Rattle.listing.proofs.TextLaws.{spaced_more}

pub refusal_pieces : (n : ℕ) → refusal_text n ≡ refused_word ++ ((space ∷ decimal n) ++ (line_feed ∷ []))
unfolding refusal_text line spaced after
refusal_pieces n = ap (λ (s : List ℕ). refused_word ++ (space ∷ (s ++ (line_feed ∷ [])))) (append-nil (decimal n))

pub counts_pieces : (a b c : List ℕ) → spaced (a ∷ b ∷ c ∷ []) ≡ a ++ ((space ∷ b) ++ (space ∷ c))
unfolding spaced after
counts_pieces a b c = ap (λ (s : List ℕ). a ++ ((space ∷ b) ++ (space ∷ s))) (append-nil c)

abbrev pub counts : ℕ → ℕ → ℕ → List ℕ
counts W H points = spaced (decimal W ∷ decimal H ∷ decimal points ∷ [])

pub skeleton_pieces : (W H points : ℕ) (largest m : List ℕ)
    → skeleton_text W H points largest m ≡ counts W H points ++ ((space ∷ largest) ++ ((line_feed ∷ []) ++ map_text W H m))
unfolding skeleton_text line
skeleton_pieces W H points largest m =
    let s = counts W H points in
    let t = space ∷ largest in
    ap (λ (l : List ℕ). (l ++ (line_feed ∷ [])) ++ map_text W H m) (spaced_more (decimal W ∷ decimal H ∷ decimal points ∷ []) largest)
    ∙ append_assoc (s ++ t) (line_feed ∷ []) (map_text W H m)
    ∙ append_assoc s t ((line_feed ∷ []) ++ map_text W H m)

-- the text of an answer that is known
pub answer_is : (W H : ℕ) (m : List ℕ) {a b : Result (Option Skeleton) Refusal} → a ≡ b → answer_text W H (answer_of a) m ≡ answer_text W H (answer_of b) m
answer_is W H m e = ap (λ (a : Result (Option Skeleton) Refusal). answer_text W H (answer_of a) m) e

pub found_is : (W H : ℕ) (m : List ℕ) {a : Result (Option Skeleton) Refusal} {f g : Option Skeleton} → a ≡ Ok f → f ≡ g
    → answer_text W H (answer_of a) m ≡ answer_text W H (found g) m
found_is W H m p q = answer_is W H m p ∙ ap (λ (s : Option Skeleton). answer_text W H (found s) m) q
