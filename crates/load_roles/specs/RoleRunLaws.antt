-- The runs of a load, as draws that make lines of one sort, and how many bytes each has at most.
-- Assumes nothing.
use Rattle.std.specs.Prelude.{ℕ, suc, ◌+◌, ◌*◌, ◌-◌, ◌≤◌, length, List, ◌≡◌, refl}
use Rattle.std.proofs.Common.{sym, ap, ◌∙◌, subst, arith}
use Rattle.std.proofs.Math.Path.{fun_ext}
use Rattle.files.specs.Load.{Run, draw, follow, times, senior_line, assign_run, resource_run, permit_run, role_run, senior_run}
use Rattle.load_draws.specs.RunLaws.{AtMost, most-times, most-follow, most-line}
use Rattle.load_draws.specs.Runs.{Ran, drawn_lines}
use Rattle.load_draws.specs.declared.Drawn.{Drawn}
use Rattle.load_lines.specs.DrawnLines.{line_of}
use Rattle.load_lines.specs.declared.Draws.{Draws}
use Rattle.load_lines.specs.declared.Draws.TheVariants.{Users, Operations, Seniors}

-- ---- what was drawn is the run

pub ran_users : (u k : ℕ) (d r : Drawn) (out out' : List ℕ) → Ran (drawn_lines (Users k) u) d out out' r → Ran (assign_run u k) d out out' r
unfolding assign_run
ran_users u k d r out out' p = p

pub ran_operations : (o k q : ℕ) (d r : Drawn) (out out' : List ℕ) → Ran (drawn_lines (Operations k q) o) d out out' r → Ran (resource_run o k q) d out out' r
unfolding resource_run
ran_operations o k q d r out out' p = p

seniors_drawn : (k j n : ℕ) → n ≡ k - suc j → senior_run k j ≡ drawn_lines (Seniors j) n
unfolding senior_run
seniors_drawn k j n e =
    ap (λ (m : ℕ). times m (λ i. draw (senior_line j (suc j + i)))) (sym e)
    ∙ ap (times n) (fun_ext (λ i. ap (λ (s : ℕ). draw (senior_line j s)) (behind i)))
  where
    behind : (i : ℕ) → suc j + i ≡ j + 1 + i
    behind i = omega arith

pub ran_seniors : (k j n : ℕ) (d r : Drawn) (out out' : List ℕ) → n ≡ k - suc j → Ran (drawn_lines (Seniors j) n) d out out' r → Ran (senior_run k j) d out out' r
ran_seniors k j n d r out out' e p = subst (λ (f : Run). Ran f d out out' r) (sym (seniors_drawn k j n e)) p

-- ---- at most so many bytes

most-less : (a b : ℕ) (f : Run) → a ≤ b → AtMost a f → AtMost b f
most-less a b f h p x = let n = p x in omega arith

pub most_drawn : (s : Draws) (n c : ℕ) → 6 * n ≤ c → AtMost c (drawn_lines s n)
most_drawn s n c h = most-less (6 * n) c (drawn_lines s n) h (most-times 6 n (λ i. draw (line_of s i)) (λ i. most-line s i))

pub most-resource : (o k r : ℕ) → o ≤ 16 → AtMost 96 (resource_run o k r)
unfolding resource_run
most-resource o k r h = most_drawn (Operations k r) o 96 (omega arith)

pub most-permit : (r o k : ℕ) → r ≤ 64 → o ≤ 16 → AtMost 6144 (permit_run r o k)
unfolding permit_run
most-permit r o k h l = most-less (96 * r) 6144 (permit_run r o k) (omega arith) (most-times 96 r (resource_run o k) (λ i. most-resource o k i l))

pub most-role : (u r o k : ℕ) → u ≤ 64 → r ≤ 64 → o ≤ 16 → AtMost 6528 (role_run u r o k)
unfolding role_run assign_run
most-role u r o k h l m = most-follow 384 6144 (assign_run u k) (permit_run r o k) (most_drawn (Users k) u 384 (omega arith)) (most-permit r o k l m)

pub most-seniors : (k j : ℕ) → k ≤ 32 → AtMost 192 (senior_run k j)
most-seniors k j h = subst (AtMost 192) (sym (seniors_drawn k j (k - suc j) refl)) (most_drawn (Seniors j) (k - suc j) 192 (omega arith))

-- of all roles
pub most-roles : (u r o k : ℕ) → u ≤ 64 → r ≤ 64 → o ≤ 16 → k ≤ 32 → AtMost 208896 (times k (role_run u r o))
most-roles u r o k a b c d = most-less (6528 * k) 208896 (times k (role_run u r o)) (omega arith) (most-times 6528 k (role_run u r o) (λ i. most-role u r o i a b c))

pub most_all_seniors : (k : ℕ) → k ≤ 32 → AtMost 6144 (times k (senior_run k))
most_all_seniors k h = most-less (192 * k) 6144 (times k (senior_run k)) (omega arith) (most-times 192 k (senior_run k) (λ i. most-seniors k i h))
