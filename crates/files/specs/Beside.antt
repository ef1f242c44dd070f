-- What a rule file is read beside: what its role file states.
-- Assumes nothing.
use Rattle.std.specs.Prelude.{ℕ, length, List, [], ◌∷◌}
use Rattle.policy.specs.Policy.{Policy, setting_of, roles_in}
use Rattle.policy.specs.Roles.{Roles}
use Rattle.policy.specs.Rules.{Setting, user, resource}

pub record Beside : Type 0 where
  -- users, resources and operations; roles
  pub setting : Setting
  pub roles : Roles
  -- the operands of the command 20 that opens a rule file made for this role file
  pub shape : List ℕ

-- "users, resources, operations, roles, user attributes, resource attributes": as many as the role file declares
abbrev pub shape_of : Policy → List ℕ
shape_of F =
    (F.table user).count ∷ (F.table resource).count ∷ F.operations ∷ F.roles
    ∷ length (F.table user).kinds ∷ length (F.table resource).kinds ∷ []

abbrev pub beside_of : Policy → Beside
beside_of F = record { setting = setting_of F; roles = roles_in F; shape = shape_of F }
