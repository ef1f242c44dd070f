-- All runs of a load, one behind the other, and the file around them.
-- Assumes nothing.
use Rattle.std.specs.Prelude.{ℕ, ◌+◌, ◌≤◌, length, List, [], ◌∷◌, ◌++◌, ◌≡◌}
use Rattle.std.proofs.Common.{length-append, sym, ap, ap₂, ◌∙◌, add_assoc, arith}
use Rattle.std.proofs.lemmas.List.Edits.{sets}
use Rattle.files.specs.Load.{follow, times, value_run, role_run, senior_run, opening, load_run, load_bytes}
use Rattle.load_bytes.specs.Putting.{Put}
use Rattle.load_bytes.specs.StoreLaws.{sets-append}
use Rattle.load_draws.specs.RunLaws.{AtMost, ran_on, most-follow}
use Rattle.load_draws.specs.Runs.{Ran, drawn_lines}
use Rattle.load_draws.specs.declared.Drawn.{Drawn}
use Rattle.load_lines.specs.declared.Draws.TheVariants.{Values}
use Rattle.load_roles.specs.RoleRunLaws.{most_drawn, most-roles, most_all_seniors}

-- the values of a side are draws of one sort
pub ran_values : (side n : ℕ) (d r : Drawn) (out out' : List ℕ) → Ran (drawn_lines (Values side) n) d out out' r → Ran (value_run side n) d out out' r
unfolding value_run
ran_values side n d r out out' p = p

pub most_values : (side n : ℕ) → n ≤ 64 → AtMost 384 (drawn_lines (Values side) n)
most_values side n h = most_drawn (Values side) n 384 (omega arith)

-- all runs
pub ran_load : (u r o k : ℕ) (a b c d e : Drawn) (o₀ o₁ o₂ o₃ o₄ : List ℕ) → Ran (drawn_lines (Values 0) u) a o₀ o₁ b → Ran (drawn_lines (Values 1) r) b o₁ o₂ c
    → Ran (times k (role_run u r o)) c o₂ o₃ d → Ran (times k (senior_run k)) d o₃ o₄ e → Ran (load_run u r o k) a o₀ o₄ e
unfolding load_run
ran_load u r o k a b c d e o₀ o₁ o₂ o₃ o₄ p q s t =
    ran_on (value_run 0 u) (follow (value_run 1 r) (follow (times k (role_run u r o)) (times k (senior_run k)))) a b e o₀ o₁ o₄ (ran_values 0 u a b o₀ o₁ p)
    (ran_on (value_run 1 r) (follow (times k (role_run u r o)) (times k (senior_run k))) b c e o₁ o₂ o₄ (ran_values 1 r b c o₁ o₂ q)
    (ran_on (times k (role_run u r o)) (times k (senior_run k)) c d e o₂ o₃ o₄ s t))

-- the opening, the runs, the end
pub load_put : (seed u r o k at n : ℕ) (d : Drawn) (o₀ o₁ o₂ o₃ : List ℕ) → Put (opening u r o k) o₀ 0 o₁ at → Ran (load_run u r o k) (record { at = at; last = seed }) o₁ o₂ d
    → Put (0x0F ∷ []) o₂ d.at o₃ n → Put (load_bytes seed u r o k) o₀ 0 o₃ n
unfolding load_bytes
load_put seed u r o k at n d o₀ o₁ o₂ o₃ p q s = put_on (opening u r o k) ((load_run u r o k seed).0 ++ (0x0F ∷ [])) o₀ o₁ o₃ 0 at n p (put_on (load_run u r o k seed).0 (0x0F ∷ []) o₁ o₂ o₃ at d.at n q.0 s)
  where
    put_on : (a b o o' o'' : List ℕ) (at m n : ℕ) → Put a o at o' m → Put b o' m o'' n → Put (a ++ b) o at o'' n
    put_on a b o o' o'' at m n p q = (
      q.0 ∙ ap₂ (λ (l : List ℕ) (k : ℕ). sets l k b) p.0 p.1 ∙ sym (sets-append o at a b),
      q.1 ∙ ap (λ (k : ℕ). k + length b) p.1 ∙ add_assoc at (length a) (length b) ∙ ap (λ (k : ℕ). at + k) (sym (length-append a b)),
    )

-- how far the runs go at most
pub most_load : (u r o k : ℕ) → u ≤ 64 → r ≤ 64 → o ≤ 16 → k ≤ 32 → AtMost 215808 (load_run u r o k)
unfolding load_run value_run
most_load u r o k a b c d =
    most-follow 384 215424 (value_run 0 u) (follow (value_run 1 r) (follow (times k (role_run u r o)) (times k (senior_run k)))) (most_values 0 u a)
    (most-follow 384 215040 (value_run 1 r) (follow (times k (role_run u r o)) (times k (senior_run k))) (most_values 1 r b)
    (most-follow 208896 6144 (times k (role_run u r o)) (times k (senior_run k)) (most-roles u r o k a b c d) (most_all_seniors k d)))
