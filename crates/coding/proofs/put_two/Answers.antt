-- `coding::put_two` meets its contract: in one byte two symbols move to their places together; else each has its store.
use mathlib.Core.Path.{◌∙◌, ◌≡◌, ap}
use Prim.Native.Nat.{◌%◌, ◌*◌, ◌+◌, ◌-◌, ◌/◌, ◌<◌, ◌^◌, ℕ}
use native.Mathlib.Omega.{arith}
use lib.ListN.{get_or, set}
use Rattle.coding.specs.Symbols.{symbols_of}
use Rattle.coding.proofs.PackLaws.{room_two, shifted_two, symbols_put_two}
use Rattle.coding.proofs.put_two.Goals as goal

-- both moved to their places in a byte
moved : (j s t k : ℕ) → j % 4 < 3 → s < 4 → t < 4 → k ≡ 6 - 2 * (j % 4) → (4 * s + t) * 2 ^ (k - 2) % 256 ≡ s * 4 ^ (3 - j % 4) + t * 4 ^ (3 - (j % 4 + 1))
moved j s t k l h i e = ap (λ (n : ℕ). (4 * s + t) * 2 ^ (n - 2) % 256) e ∙ shifted_two (j % 4) s t l h i

pub overflow_add-stream-then-j-lt3 : goal.overflow_add-stream-then-j-lt3
overflow_add-stream-then-j-lt3 c =
    let a = c.args in
    let q = c.requires in
    let l = c.if-j-lt3.true in
    let m = moved a.j a.s a.t c.shift.result l q.2 q.3 c.shift.ensures in
    let r = room_two a.stream.now a.j a.s a.t l (omega arith) q.1 q.2 q.3 q.4 q.5 in
    omega arith

pub returns-then-j-lt3 : goal.returns-then-j-lt3
returns-then-j-lt3 c =
    let a = c.args in
    let q = c.requires in
    let l = c.if-j-lt3.true in
    let b = a.stream.now in
    let i = a.j / 4 in
    ap (λ (n : ℕ). symbols_of (set b i (get_or b i 0 + n))) (moved a.j a.s a.t c.shift.result l q.2 q.3 c.shift.ensures)
    ∙ symbols_put_two b a.j a.s a.t l (omega arith) q.1 q.2 q.3 q.4 q.5
