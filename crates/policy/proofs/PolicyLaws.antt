-- A role file as tables, and the policy and the roles that it states.
-- Assumes nothing.
use Rattle.std.specs.Prelude.{ℕ, ◌^◌, ◌<◌, length, Bool, false, ◌&&◌, ◌⊎◌, List, ◌≡◌, refl}
use Rattle.std.proofs.Common.{eqb-true, eq-eqb, ◌∙◌}
use Rattle.std.proofs.Math.Dec.{eqb}
use Rattle.std.proofs.Math.Bool.{true, or-false}
use Rattle.std.proofs.Math.Logic.{inl, inr, ⊎_elim}
use Rattle.std.proofs.Math.Path.{sym}
use Rattle.policy.proofs.MinedLaws.{MinedRules, mined-rules}
use Rattle.policy.proofs.PartLaws.{alike-out, roles-grant, Own}
use Rattle.policy.specs.Policy.{Policy, meets_value, senior, held, roles_of, is_set_at, value_at, side_of, setting_of, roles_in}
use Rattle.policy.specs.Roles.{Part, block_of, roles_grant, some_role_gives}
use Rattle.policy.proofs.RuleLaws.{Lawful}
use Rattle.policy.specs.Rules.{Which, meets, Triple, user, resource, own, attrs_of}
use Rattle.policy.proofs.SideLaws.{attribute_cases, declared_in}
use Rattle.sets.specs.Sets.{subset}
use Rattle.sets.specs.SetLaws.{subset-self, subset-chain, one-subset, bit_mask}
use Rattle.sets.specs.Tests.{Is, any, up_to, ◌is_in◌}
use Rattle.sets.specs.TestLaws.{and_in, and_l, and_r, or_r, any_in, up_to_in, any_ext, eqb_turned}

value-self : (w : Which) (set : Bool) (x : ℕ) → Is (meets_value w set x x)
value-self user true x = subset-self x
value-self user false x = eq-eqb x x refl
value-self resource set x = eq-eqb x x refl

value-chain : (w : Which) (set : Bool) (x y z : ℕ) → Is (meets_value w set x y) → Is (meets_value w set y z) → Is (meets_value w set x z)
value-chain user true x y z p q = subset-chain x y z p q
value-chain user false x y z p q = rw (eqb-true x y p) q
value-chain resource set x y z p q = rw (eqb-true x y p) q

module _ (F : Policy) where
  pub lawful : Lawful (setting_of F)
  unfolding setting_of side_of
  lawful w = record {
    self = λ a x. value-self w (is_set_at F w a) x;
    chain = λ a x y z. value-chain w (is_set_at F w a) x y z;
  }

  pub owned : Own (setting_of F) (roles_in F)
  unfolding setting_of side_of is_set_at value_at roles_in meets roles_of
  owned = record {
    one-role = λ k. 2 ^ k;
    users = λ k u lk lu. or-false (subset (2 ^ k) (roles_of F u)) ∙ one-subset k (roles_of F u) ∙ bit_mask F.roles (λ k. held F k u) k lk;
    resources = λ vs r lr. any_ext (λ v. eqb v r) (eqb r) vs (λ v m. eqb_turned v r);
  }

  -- the third demand, of the rules of every policy, with every list of cuts
  pub mined-of : (cuts : List ℕ) → MinedRules (setting_of F) (roles_in F) cuts
  mined-of cuts = mined-rules (setting_of F) (roles_in F) cuts lawful owned

  -- the roles grant what a role that the user holds is assigned itself
  pub granted : (u r o : ℕ) → Triple (setting_of F) u r o → roles_grant (setting_of F) (roles_in F) u r o ≡ any (λ k. held F k u && F.permitted k r o) (up_to F.roles)
  unfolding some_role_gives roles_in
  granted u r o t = roles-grant (setting_of F) (roles_in F) u r o t

  -- "inherited permissions never enter a block"
  pub block-own : (p : Part) (u r o : ℕ) → r < ((setting_of F).side resource).count → Is (block_of (setting_of F) (roles_in F) p u r o) → Is (F.permitted p.role r o)
  unfolding block_of roles_in
  block-own p u r o l h =
      let k = and_r (held F p.role u) _ h in
      sym (alike-out (setting_of F) (roles_in F) p.role p.lead o r l (and_r (F.permitted p.role r p.lead) _ k)) ∙ and_l (F.permitted p.role r p.lead) _ k

  -- "the users assigned to it or to a senior"
  pub holders_inherit : (k s u : ℕ) → s < F.roles → Is (senior F k s) → Is (F.assigned s u) → Is (held F k u)
  unfolding held
  holders_inherit k s u l p q = or_r (F.assigned k u) (any_in (λ s. senior F k s && F.assigned s u) (up_to_in l) (and_in p q))

  -- the attributes that a rule may use are those declared and the 255
  pub attributes-of : (w : Which) (a : ℕ) → a is_in attrs_of ((setting_of F).side w) true → (a < length (F.table w).kinds) ⊎ (a ≡ own)
  unfolding setting_of side_of
  attributes-of w a m = ⊎_elim (λ l. inl l) (λ q. inr q.1) (attribute_cases ((setting_of F).side w) true a m)

  pub attribute-of : (w : Which) (a : ℕ) → a < length (F.table w).kinds → a is_in attrs_of ((setting_of F).side w) true
  unfolding setting_of side_of
  attribute-of w a l = declared_in ((setting_of F).side w) true a l
