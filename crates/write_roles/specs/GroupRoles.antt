-- The roles that have a part in a group, by the names of its parts, so that writing and measuring visit no others.
-- Assumes nothing.
use Rattle.std.specs.Prelude.{ℕ, ◌<◌, eqb, get_or, ◌&&◌, List, ◌≡◌}
use Rattle.mine_groups.specs.Scratch.{all_parts}
use Rattle.mine_parts.specs.Layout.{role_at}
use Rattle.sets.specs.Sets.{mask_of}
use Rattle.sets.specs.Tests.{any, up_to}
use Rattle.write_theory.specs.RuleLists.{in_group}

-- the roles that one of the parts before n has in the group
unfoldable pub roles_before : List ℕ → ℕ → ℕ → ℕ
roles_before t n head = mask_of 32 (λ r. any (λ i. in_group t head i && eqb r (role_at t i)) (up_to n))

-- the roles that have a part in it
abbrev pub roles_for : (starts t : List ℕ) → ℕ → ℕ
roles_for starts t head = roles_before t (all_parts starts) head

-- part by part
abbrev pub RolesTable : (starts t roles : List ℕ) → Type 0
RolesTable starts t roles = (i : ℕ) → i < all_parts starts → get_or roles i 0 ≡ roles_for starts t i
