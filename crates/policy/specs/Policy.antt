-- What an accepted role file says, and how roles and rules see it. 01, sections "The role file" and "Roles and parts".
-- Assumes nothing.
use Rattle.std.specs.Prelude.{ℕ, zero, suc, eqb, length, get_or, Bool, true, false, cond, ◌&&◌, ◌||◌, List}
use Rattle.std.proofs.Math.Option.{Option, some}
use Rattle.policy.specs.Roles.{Roles}
use Rattle.policy.specs.Rules.{own, Side, Which, by, Setting, user, resource}
use Rattle.sets.specs.Sets.{subset, mask_of}
use Rattle.sets.specs.Tests.{Is, any, up_to}

-- one side's size, attributes and values
pub record Table : Type 0 where
  pub count : ℕ
  -- the kinds of the attributes declared, in order: true for a set
  pub kinds : List Bool
  -- the domains of attributes: "02 means domain 0"
  pub domain : ℕ → ℕ
  -- attribute, who
  pub value : ℕ → ℕ → Option ℕ

pub record Policy : Type 0 where
  pub table : Which → Table
  pub operations : ℕ
  pub roles : ℕ
  -- role, user
  pub assigned : ℕ → ℕ → Bool
  -- role, resource, operation
  pub permitted : ℕ → ℕ → ℕ → Bool
  -- junior role, senior role: a line 07
  pub line : ℕ → ℕ → Bool

-- the kind of an attribute; one that is not declared counts as single
abbrev pub kind_of : Table → ℕ → Bool
kind_of t a = get_or t.kinds a false

-- ---- seniors

module _ (line : ℕ → ℕ → Bool) where
  -- "A role's seniors are all roles reached by one or more 07 steps."
  pub data Senior : ℕ → ℕ → Type 0 where
    one : {i j : ℕ} → Is (line i j) → Senior i j
    more : {i j k : ℕ} → Is (line i k) → Senior k j → Senior i j

  -- the test of it: from one role to another, with roles below n between them. SeniorLaws shows that the two agree. It is a
  -- definition to reason with: computed as it stands it takes 3 ^ n steps
  abbrev pub reach : ℕ → ℕ → ℕ → Bool
  reach zero i j = line i j
  reach (suc n) i j = reach n i j || (reach n i n && reach n n j)

-- side, is it a set; a listed value, somebody's value: "A single attribute must equal one value. A user set must contain one
-- listed set whole; a resource set must equal one."
abbrev pub meets_value : Which → Bool → ℕ → ℕ → Bool
meets_value user true v x = subset v x
meets_value user false v x = eqb v x
meets_value resource set v x = eqb v x

module _ (F : Policy) where
  -- role k has the senior s
  unfoldable pub senior : ℕ → ℕ → Bool
  senior k s = reach F.line F.roles k s

  -- "7 a role is its own senior"
  unfoldable pub circular : Bool
  circular = any (λ k. senior k k) (up_to F.roles)

  -- "Its holders are the users assigned to it or to a senior."
  unfoldable pub held : ℕ → ℕ → Bool
  held k u = F.assigned k u || any (λ s. senior k s && F.assigned s u) (up_to F.roles)

  -- "the set of roles they hold"
  unfoldable pub roles_of : ℕ → ℕ
  roles_of u = mask_of F.roles (λ k. held k u)

  -- the kind of an attribute, and its value for somebody; of the 255s, the user's is a set, the resource's single
  unfoldable pub is_set_at : Which → ℕ → Bool
  is_set_at w a = cond (eqb a own) (by w true false) (kind_of (F.table w) a)

  unfoldable pub value_at : Which → ℕ → ℕ → Option ℕ
  value_at w a x = cond (eqb a own) (some (by w (roles_of x) x)) ((F.table w).value a x)

  -- one side of the policy
  unfoldable pub side_of : Which → Side
  side_of w = record {
    count = (F.table w).count;
    attrs = length (F.table w).kinds;
    is_set = is_set_at w;
    domain = (F.table w).domain;
    value = value_at w;
    below = λ a. meets_value w (is_set_at w a);
  }

  unfoldable pub setting_of : Setting
  setting_of = record { side = side_of; slots = F.operations }

  -- "inherited permissions never enter a block": a role gives what the file permits it itself
  unfoldable pub roles_in : Roles
  roles_in = record { number = F.roles; held = held; gives = F.permitted }
