-- `coding::put` meets its contract.
use mathlib.Core.Path.{◌∙◌, ◌≡◌, ap, sym}
use Prim.Native.Nat.{◌%◌, ◌*◌, ◌+◌, ◌-◌, ◌/◌, ◌<◌, ◌^◌, ℕ}
use native.Mathlib.Nat.{mod-lt, zero-lt-suc}
use native.Mathlib.Omega.{arith}
use lib.ListN.{get_or, set}
use Rattle.coding.specs.Symbols.{symbols_of}
use Rattle.coding.proofs.PackLaws.{shifted, symbol-room, symbols-at, symbols_put}
use Rattle.coding.proofs.put.Goals as goal

-- a symbol moved to its place in a byte
moved : (j s k : ℕ) → s < 4 → k ≡ 6 - 2 * (j % 4) → s * 2 ^ k % 256 ≡ s * 4 ^ (3 - j % 4)
moved j s k h e = ap (λ (n : ℕ). s * 2 ^ n % 256) e ∙ shifted (j % 4) s (mod-lt j (zero-lt-suc 3)) h

pub overflow_add-stream : goal.overflow_add-stream
overflow_add-stream c =
    let a = c.args in
    let v = get_or a.stream.now (a.j / 4) 0 in
    let p = c.requires in
    let m = moved a.j a.s c.shift.result p.1 c.shift.ensures in
    let b : v < 256 = omega arith in
    let r = symbol-room v (a.j % 4) a.s b (mod-lt a.j (zero-lt-suc 3)) p.1 (sym (symbols-at a.stream.now a.j) ∙ p.2) in
    omega arith

pub returns : goal.returns
returns c =
    let a = c.args in
    let i = a.j / 4 in
    let l = a.stream.now in
    let p = c.requires in
    let b : get_or l i 0 < 256 = omega arith in
    ap (λ (n : ℕ). symbols_of (set l i (get_or l i 0 + n))) (moved a.j a.s c.shift.result p.1 c.shift.ensures) ∙ symbols_put l a.j a.s b p.0 p.1 p.2
