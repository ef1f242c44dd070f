-- The table of the roles that have a part in each group, filled part by part; and what its words say.
-- Assumes nothing.
use Rattle.std.specs.Prelude.{ℕ, ◌+◌, ◌-◌, ◌^◌, ◌≤◌, ◌<◌, length, get_or, set, Bool, false, ◌&&◌, ◌||◌, List, [], ◌≡◌, refl}
use borrow.Author.Tests.{eqb-true, eqb-false, eq-eqb, ne_eqb, ltb-false}
use Rattle.std.proofs.Math.Dec.{eqb, ltb}
use Rattle.std.proofs.Common.{get_or-set_same, get_or-set_other, ◌∙◌, arith}
use Rattle.std.proofs.Math.Bool.{or-false}
use Rattle.std.proofs.Math.Path.{sym, ap, ap₂}
use Rattle.mine_groups.specs.Scratch.{all_parts, Stands}
use Rattle.mine_parts.specs.Layout.{rest_at, head_in, role_at}
use Rattle.sets.specs.LoopLaws.{any-more}
use Rattle.sets.specs.MaskLaws.{mask_lt, bit-mask_of, mask_same, mask_wide, mask_none}
use Rattle.sets.specs.Sets.{bit, mask_of}
use Rattle.sets.specs.SetLaws.{bit_mask}
use Rattle.sets.specs.Tests.{any, up_to}
use Rattle.sets.specs.TestLaws.{and_in, never, test, fails, any_in, from_out, up_to_in}
use Rattle.write_theory.proofs.ListingLaws.{classes_none}
use Rattle.write_theory.specs.RuleLists.{in_group, classes_at}
use Rattle.write_roles.specs.GroupRoles.{roles_before, roles_for}

-- ---- the table, part by part

module _ (t : List ℕ) where
  abbrev here : ℕ → ℕ → ℕ → Bool
  here head r i = in_group t head i && eqb r (role_at t i)

  -- before the first part no role is marked
  pub none-marked : (head : ℕ) → 0 ≡ roles_before t 0 head
  unfolding roles_before
  none-marked head = sym (mask_none 32 (λ r. any (here head r) (up_to 0)) (λ r l. refl))

  -- a part changes nothing for other groups
  other-marked : (n head : ℕ) → (head_in (rest_at t n) ≡ head → ⊥) → roles_before t n head ≡ roles_before t (n + 1) head
  unfolding roles_before in_group
  other-marked n head d = mask_same 32 (λ r. any (here head r) (up_to n)) (λ r. any (here head r) (up_to (n + 1))) λ r l.
      sym (any-more (here head r) n ∙ ap (λ (b : Bool). any (here head r) (up_to n) || (b && eqb r (role_at t n))) (ne_eqb (head_in (rest_at t n)) head d) ∙ or-false (any (here head r) (up_to n)))

  -- and its role is one of its own group's
  own-marked : (n head v : ℕ) → head_in (rest_at t n) ≡ head → v ≡ mask_of 64 (λ k. bit (roles_before t n head) k || eqb k (role_at t n)) → v ≡ roles_before t (n + 1) head
  unfolding roles_before in_group
  own-marked n head v h e =
      e ∙ mask_same 64 (λ k. bit (roles_before t n head) k || eqb k (role_at t n)) (λ k. ltb k 32 && any (here head k) (up_to (n + 1))) joined
      ∙ sym (mask_wide 32 64 (λ r. any (here head r) (up_to (n + 1))) (omega arith))
    where
      put_together : (k : ℕ) → ((ltb k 32 && any (here head k) (up_to n)) || eqb k (role_at t n)) ≡ (ltb k 32 && (any (here head k) (up_to n) || eqb k (role_at t n)))
      put_together k = test (ltb k 32)
          (λ p. rw p refl)
          (λ p. let d = ltb-false k 32 p in
          ap₂ (λ (a b : Bool). (a && any (here head k) (up_to n)) || b) p (ne_eqb k (role_at t n) (λ z. omega arith))
          ∙ sym (ap (λ (a : Bool). a && (any (here head k) (up_to n) || eqb k (role_at t n))) p))

      joined : (k : ℕ) → k < 64 → (bit (roles_before t n head) k || eqb k (role_at t n)) ≡ (ltb k 32 && any (here head k) (up_to (n + 1)))
      joined k m =
          ap (λ (b : Bool). b || eqb k (role_at t n)) (bit-mask_of 32 (λ r. any (here head r) (up_to n)) k)
          ∙ put_together k
          ∙ ap (λ (b : Bool). ltb k 32 && b) (sym (any-more (here head k) n ∙ ap (λ (b : Bool). any (here head k) (up_to n) || (b && eqb k (role_at t n))) (eq-eqb (head_in (rest_at t n)) head h)))

  -- the table has the roles of the parts before n, for so many groups
  abbrev pub Marking : ℕ → List ℕ → ℕ → Type 0
  Marking parts out n = (h : ℕ) → h < parts → get_or out h 0 ≡ roles_before t n h

  module _ (parts : ℕ) (out : List ℕ) (n head : ℕ) (e : head ≡ head_in (rest_at t n)) (M : Marking parts out n) where
    -- a part is looked at, and its role joined to its group's
    pub mark_more : (v : ℕ) → head < parts → parts ≤ length out → v ≡ mask_of 64 (λ k. bit (get_or out head 0) k || eqb k (role_at t n)) → Marking parts (set out head v) (n + 1)
    mark_more v l room w h b = test (eqb h head)
        (λ q. let z = eqb-true h head q in
        ap (λ (x : ℕ). get_or (set out head v) x 0) z ∙ get_or-set_same out head v 0 (omega arith)
        ∙ own-marked n head v (sym e) (w ∙ ap (λ (m : ℕ). mask_of 64 (λ k. bit m k || eqb k (role_at t n))) (M head l)) ∙ ap (roles_before t (n + 1)) (sym z))
        (λ q. get_or-set_other out head h v 0 (eqb-false h head q) ∙ M h b ∙ other-marked n h (λ z. eqb-false h head q (sym z ∙ sym e)))

    -- or it is of no group
    pub mark_past : parts ≤ head → Marking parts out (n + 1)
    mark_past l h b = M h b ∙ other-marked n h (λ z. omega arith)

-- ---- what its words say

-- the roles are below 32
pub roles-low : (starts t : List ℕ) (head : ℕ) → roles_for starts t head < 2 ^ 32
unfolding roles_before
roles-low starts t head = mask_lt 32 _

-- one that is not among them lists nothing
pub none-listed : (permissions : List ℕ) (operations : ℕ) (starts t : List ℕ) → Stands t starts → (head k : ℕ) → k < 32 → bit (roles_for starts t head) k ≡ false → classes_at permissions operations starts t head k ≡ []
unfolding roles_before
none-listed permissions operations starts t S head k l h = classes_none permissions operations starts t head k λ i m.
    let r = from_out (get_or starts k 0) (get_or starts (k + 1) 0 - get_or starts k 0) m in
    let b = S.begun.between i k l r.0 (omega arith) in
    fails (in_group t head i) (λ g. never
    (bit_mask 32 (λ r. any (here t head r) (up_to (all_parts starts))) k l ∙ any_in (here t head k) (up_to_in b.0) (and_in g (eq-eqb k (role_at t i) (sym b.1)))) h)
