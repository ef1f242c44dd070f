use Rattle.std.specs.Prelude.{◌≡◌, ℕ, suc, ◌+◌, ◌-◌, ◌*◌, ◌^◌, ◌<◌, ◌≤◌, List}
use Rattle.std.proofs.Math.Nat.{pow-le-pow_right, pow-succ'}
use Rattle.std.proofs.Common.{sym, ap, ap₂, ◌∙◌, arith}
use Rattle.file_bytes.specs.Numbers.{number_at}
use Rattle.file_bytes.proofs.number.Goals as goal

-- one more byte in front
one_more : (s : List ℕ) (k i b n : ℕ) → b ≡ number_at 1 s i → n ≡ number_at k s (suc i) → 256 * n + b ≡ number_at (suc k) s i
one_more s k i b n p q = omega arith

-- as far as seven bytes are read, there is room for one more
room : (k n : ℕ) → k < 8 → n < 256 ^ k → n < 256 ^ 7
room k n l h = let m : 256 ^ k ≤ 256 ^ 7 = pow-le-pow_right {n = 256} (omega arith) {i = k} {j = 7} (omega arith) in omega (arith, h, m)

-- and the number stays as long as its bytes
longer : (k b n : ℕ) → b < 256 → n < 256 ^ k → 256 * n + b < 256 ^ (k + 1)
longer k b n l h =
    let q : suc k ≡ k + 1 = omega arith in
    let p : 256 ^ (k + 1) ≡ 256 * 256 ^ k = ap (λ (j : ℕ). 256 ^ j) (sym q) ∙ pow-succ' 256 k in
    omega (arith, p, l, h)

pub overflow_mul-n : goal.overflow_mul-n
overflow_mul-n g c = omega (arith, room c.loop-k.k c.loop-k.n (omega (arith, c.loop-k-test.true, c.requires.0)) c.loop-k.invariant.1)

pub overflow_add-n : goal.overflow_add-n
overflow_add-n g c =
    omega (arith, room c.loop-k.k c.loop-k.n (omega (arith, c.loop-k-test.true, c.requires.0)) c.loop-k.invariant.1, c.byte_at.ensures.1)

pub loop-k-preserved : goal.loop-k-preserved
loop-k-preserved g c =
    let l = c.loop-k-test.true in
    let here : suc (c.args.i + (g.row.N - 1 - c.loop-k.k)) ≡ c.args.i + (g.row.N - c.loop-k.k) = omega (arith, l) in
    let next : suc c.loop-k.k ≡ c.loop-k.k + 1 = omega arith in
    let place : c.args.i + (g.row.N - 1 - c.loop-k.k) ≡ c.args.i + (g.row.N - (c.loop-k.k + 1)) = omega arith in (
      one_more c.args.s.now c.loop-k.k (c.args.i + (g.row.N - 1 - c.loop-k.k)) c.byte_at.result c.loop-k.n c.byte_at.ensures.0 (c.loop-k.invariant.0 ∙ ap (number_at c.loop-k.k c.args.s.now) (sym here))
          ∙ ap₂ (λ (w j : ℕ). number_at w c.args.s.now j) next place,
      longer c.loop-k.k c.byte_at.result c.loop-k.n c.byte_at.ensures.1 c.loop-k.invariant.1,
    )

pub returns : goal.returns
returns g c =
    let all : c.loop-k.k ≡ g.row.N = omega (arith, c.loop-k-test.false, c.loop-k.auto.k-end) in
    let place : c.args.i + (g.row.N - c.loop-k.k) ≡ c.args.i = omega (arith, all) in
    c.loop-k.invariant.0 ∙ ap₂ (λ (w j : ℕ). number_at w c.args.s.now j) all place
