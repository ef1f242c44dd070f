-- The blocks of parts by their numbers, and of groups of parts that are joined.
-- Assumes nothing.
use Rattle.std.specs.Prelude.{ℕ, suc, ◌<◌, max, List, [], ◌∷◌, ◌++◌, ◌≡◌}
use Rattle.std.proofs.Math.Bool.{or-false}
use Rattle.std.proofs.Math.Path.{fun_ext}
use Rattle.policy.proofs.ClassLaws.{part_in}
use Rattle.policy.proofs.CoverLaws.{exact-fits, fits-exact}
use Rattle.policy.specs.Covering.{cover, fits, level_of}
use Rattle.policy.specs.Merging.{union, mergeable}
use Rattle.policy.specs.Mined.{part_count, part_at, part_block}
use Rattle.policy.proofs.PartLaws.{part-some, part-fits}
use Rattle.policy.specs.Policy.{Policy, setting_of, roles_in}
use Rattle.policy.proofs.PolicyLaws.{lawful, owned}
use Rattle.policy.specs.Rules.{NotEmpty}
use Rattle.policy.proofs.ThinLaws.{cover-at, at-3}
use Rattle.sets.specs.Tests.{Is, up_to}
use Rattle.sets.specs.TestLaws.{or_l, any_out}
use Rattle.mine_groups.specs.Scratch.{blocks_of}
use Rattle.mine_theory.proofs.Words.WordLaws.{union-joined}

module _ (F : Policy) where
  -- ---- about one part

  -- its block fits level 3
  pub block-fits : (i : ℕ) → i < part_count (setting_of F) (roles_in F) → Is (fits (setting_of F) (blocks_of F i) 3)
  unfolding part_block
  block-fits i h = part-fits (setting_of F) (roles_in F) (lawful F) (owned F) (part_at (setting_of F) (roles_in F) i) (part_in (setting_of F) (roles_in F) i h)

  -- it is not empty
  pub block-some : (i : ℕ) → i < part_count (setting_of F) (roles_in F) → NotEmpty (setting_of F) (blocks_of F i)
  unfolding part_block
  block-some i h = part-some (setting_of F) (roles_in F) (part_in (setting_of F) (roles_in F) i h)

  -- and it is that of the part alone
  pub one_block : (i : ℕ) → union (setting_of F) (blocks_of F) (i ∷ []) ≡ blocks_of F i
  unfolding union
  one_block i = fun_ext λ u. fun_ext λ r. fun_ext λ o. or-false (blocks_of F i u r o)

  -- ---- about two groups that are joined

  -- groups that may be joined make one that fits level 3
  pub merged-fits : (g h : List ℕ) → Is (mergeable (setting_of F) (blocks_of F) g h) → Is (fits (setting_of F) (union (setting_of F) (blocks_of F) (g ++ h)) 3)
  unfolding mergeable
  merged-fits g h m =
      let B = union (setting_of F) (blocks_of F) (g ++ h) in
      let t = any_out (fits (setting_of F) B) (up_to (suc (max (level_of (setting_of F) (union (setting_of F) (blocks_of F) g)) (level_of (setting_of F) (union (setting_of F) (blocks_of F) h))))) m in
      exact-fits (setting_of F) (lawful F) B 3 (cover (setting_of F) B t.0) (at-3 (setting_of F) t.0 (cover (setting_of F) B t.0) (cover-at (setting_of F) B t.0)) (fits-exact (setting_of F) (lawful F) B t.0 t.2)

  -- a group that takes in another is not empty if it was not
  pub merged_some : (g h : List ℕ) → NotEmpty (setting_of F) (union (setting_of F) (blocks_of F) g) → NotEmpty (setting_of F) (union (setting_of F) (blocks_of F) (g ++ h))
  merged_some g h s = rw (union-joined (setting_of F) (blocks_of F) g h) (record { u = s.u; r = s.r; o = s.o; triple = s.triple; inside = or_l _ s.inside })
