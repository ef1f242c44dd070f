-- Roles and parts. 01, section "Roles and parts".
-- Assumes nothing.
use Rattle.std.specs.Prelude.{ℕ, Bool, ◌&&◌, not, List}
use Rattle.policy.specs.Rules.{Setting, Block, user, resource}
use Rattle.sets.specs.Sets.{mask_of}
use Rattle.sets.specs.Tests.{iff, all, any, each, only, up_to}

-- how many roles there are; who holds one; the resources and operations assigned to one, without what it inherits
pub record Roles : Type 0 where
  pub number : ℕ
  pub held : ℕ → ℕ → Bool
  pub gives : ℕ → ℕ → ℕ → Bool

-- a part is named by its role and the lowest operation of its class
pub record Part : Type 0 where
  pub role : ℕ
  pub lead : ℕ

module _ (P : Setting) (R : Roles) where
  -- two operations of a role have equal sets of assigned resources
  unfoldable pub alike : ℕ → ℕ → ℕ → Bool
  alike k o q = all (λ r. iff (R.gives k r o) (R.gives k r q)) (up_to (P.side resource).count)

  -- the operation is the lowest of a class with a non-empty set of resources
  unfoldable pub leads : ℕ → ℕ → Bool
  leads k o = any (λ r. R.gives k r o) (up_to (P.side resource).count) && not (any (λ q. alike k q o) (up_to o))

  -- "each class of a role with a holder is a part"
  unfoldable pub is_part : ℕ → ℕ → Bool
  is_part k o = any (λ u. R.held k u) (up_to (P.side user).count) && leads k o

  -- "Parts are ordered by role, then lowest operation."
  unfoldable pub parts : List Part
  parts = each (λ k. each (λ o. only (is_part k o) (record { role = k; lead = o })) (up_to P.slots)) (up_to R.number)

  -- "with block holders × resources × class"
  unfoldable pub block_of : Part → Block
  block_of p u r o = R.held p.role u && (R.gives p.role r p.lead && alike p.role p.lead o)

  -- the operations of a part's class, bit n for operation n
  unfoldable pub class_of : Part → ℕ
  class_of p = mask_of P.slots (alike p.role p.lead)

  -- "The roles grant the union of all blocks."
  unfoldable pub roles_grant : Block
  roles_grant u r o = any (λ p. block_of p u r o) parts

  -- the same, role by role: a role that the user holds is assigned the permission (PartLaws, roles-grant)
  unfoldable pub some_role_gives : Block
  some_role_gives u r o = any (λ k. R.held k u && R.gives k r o) (up_to R.number)
