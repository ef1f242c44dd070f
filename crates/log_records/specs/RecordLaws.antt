-- What record i says, number by number; and when it is within the sizes.
-- Assumes nothing.
use Rattle.std.specs.Prelude.{ℕ, ◌+◌, ◌*◌, ◌≤◌, ◌<◌, ltb, get_or, Bool, false, cond, not, List, ◌≡◌}
use borrow.Author.Tests.{lt-ltb, le-ltb, ltb-true}
use Rattle.std.proofs.Math.Path.{refl}
use Rattle.std.proofs.Common.{ap, ◌∙◌}
use Rattle.files.specs.Denials.{of_record, denied_by}
use Rattle.policy.specs.Rules.{Block}
use Rattle.role_record.specs.Record.{in_sizes}
use Rattle.role_record.specs.declared.Sizes.{Sizes}
use Rattle.sets.specs.Tests.{Is}
use Rattle.sets.specs.TestLaws.{and_l, and_r}

module _ (log : List ℕ) (i u r o : ℕ) (hu : u ≡ get_or log (3 * i) 0) (hr : r ≡ get_or log (3 * i + 1) 0) (ho : o ≡ get_or log (3 * i + 2) 0) where
  pub said : (f : ℕ → ℕ → ℕ → Bool) → f u r o ≡ of_record f log i
  said f = rw (hu, hr, ho) refl

  pub denial_by : (G : Block) (b : Bool) → b ≡ G u r o → ◌≡◌ {A = ℕ} (cond (not b) 1 0) (cond (denied_by G log i) 1 0)
  denial_by G b e = ap (λ (x : Bool). cond {A = ℕ} (not x) 1 0) (e ∙ said G)

module _ (s : Sizes) (u r o : ℕ) where
  pub no_such_user : s.users ≤ u → false ≡ in_sizes s u r o
  unfolding in_sizes
  no_such_user h = rw (le-ltb u s.users h) refl

  pub no_such_resource : u < s.users → s.resources ≤ r → false ≡ in_sizes s u r o
  unfolding in_sizes
  no_such_resource h k = rw (lt-ltb u s.users h, le-ltb r s.resources k) refl

  pub by-operation : u < s.users → r < s.resources → ltb o s.operations ≡ in_sizes s u r o
  unfolding in_sizes
  by-operation h k = rw (lt-ltb u s.users h, lt-ltb r s.resources k) refl

  -- a record within the sizes has a cell in a grid
  pub user-inside : Is (in_sizes s u r o) → u < s.users
  unfolding in_sizes
  user-inside h = ltb-true u s.users (and_l (ltb u s.users) _ h)

  pub operation-inside : Is (in_sizes s u r o) → o < s.operations
  unfolding in_sizes
  operation-inside h = ltb-true o s.operations (and_r (ltb r s.resources) _ (and_r (ltb u s.users) _ h))
