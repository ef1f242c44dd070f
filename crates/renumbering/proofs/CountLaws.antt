-- The number of users that a role file states is told by its first command, and stays.
-- Assumes nothing.
use Rattle.std.specs.Prelude.{ℕ, eqb, length, Bool, false, ◌&&◌, List, ◌≡◌}
use Rattle.std.proofs.Math.Dec.{ltb}
use Rattle.std.proofs.Math.Bool.{not}
use Rattle.std.proofs.Math.Path.{refl}
use Rattle.std.proofs.Common.{◌∙◌}
use Rattle.files.specs.Answer.{Answer, and_then, out_of_place, beyond, wrong_kind, refused, accepted}
use Rattle.files.specs.Bytes.{read_on}
use Rattle.files.proofs.BytesLaws.{Carries, unless_carries, then_carries, any-carried, carried, read_carries}
use Rattle.files.specs.RoleFile.{RoleCommand, Phase, Loading, side_by, with_table, with_kind, with_value, with_assigned, with_permitted, with_line, is_nothing, is_declaring, enter, take_kind, take_value, take_assignment, take_permission, take_line, take_sizes, obey_role, role_format, sizes, declare, give, assign, permit, line, end, declaring, telling}
use Rattle.policy.specs.Policy.{Table, Policy, kind_of}
use Rattle.policy.specs.Rules.{Which, user, resource}
use Rattle.sets.specs.Tests.{iff, is_some}
use Rattle.sets.specs.TestLaws.{never}

-- what a command makes of a state: something was read, and the users are as many as before if something had been
abbrev pub Kept : Loading → Loading → Type 0
Kept s s' = (is_nothing s'.phase ≡ false) × (is_nothing s.phase ≡ false → (s'.policy.table user).count ≡ (s.policy.table user).count)

module _ (F : Policy) where
  abbrev AsMany : Policy → Type 0
  AsMany G = (G.table user).count ≡ (F.table user).count

  table_kept : (w : Which) (t : Table) → t.count ≡ (F.table w).count → AsMany (with_table F w t)
  unfolding with_table
  table_kept user t e = e
  table_kept resource t e = refl

  kind_kept : (side kind domain : ℕ) → Carries AsMany (take_kind F side kind domain)
  unfolding take_kind with_kind
  kind_kept side kind domain =
      unless_carries AsMany (ltb side 2 && ltb kind 2 && ltb (length (F.table (side_by side)).kinds) 6) beyond (accepted (with_kind F (side_by side) (eqb kind 1) domain)) λ q.
      table_kept (side_by side) _ refl

  value-kept : (set : Bool) (side a x v : ℕ) → Carries AsMany (take_value F set side a x v)
  unfolding take_value with_value
  value-kept set side a x v =
      let t = F.table (side_by side) in
      unless_carries AsMany (ltb side 2 && ltb a (length t.kinds) && ltb x t.count) beyond _ λ p.
      unless_carries AsMany (iff (kind_of t a) set && not (is_some (t.value a x))) wrong_kind (accepted (with_value F (side_by side) a x v)) λ q.
      table_kept (side_by side) _ refl

  assignment-kept : (k u : ℕ) → Carries AsMany (take_assignment F k u)
  unfolding take_assignment with_assigned
  assignment-kept k u = unless_carries AsMany (ltb k F.roles && ltb u (F.table user).count) beyond (accepted (with_assigned F k u)) λ q. refl

  permission_kept : (k r o : ℕ) → Carries AsMany (take_permission F k r o)
  unfolding take_permission with_permitted
  permission_kept k r o =
      unless_carries AsMany (ltb k F.roles && ltb r (F.table resource).count && ltb o F.operations) beyond (accepted (with_permitted F k r o)) λ q. refl

  line_kept : (j k : ℕ) → Carries AsMany (take_line F j k)
  unfolding take_line with_line
  line_kept j k = unless_carries AsMany (ltb j F.roles && ltb k F.roles) beyond (accepted (with_line F j k)) λ q. refl

enter-kept : (s : Loading) (place : Bool) (phase : Phase) (r : Answer Policy) → is_nothing phase ≡ false → Carries (AsMany s.policy) r → Carries (Kept s) (enter place phase r)
enter-kept s place phase r e h =
    unless_carries (Kept s) place out_of_place (and_then r (λ F. accepted (record { phase = phase; policy = F }))) λ p.
    then_carries (AsMany s.policy) (Kept s) r (λ F. accepted (record { phase = phase; policy = F })) h (λ F k. (e, λ b. k))

module _ (W : ℕ) where
  -- the first command
  sizes-kept : (s : Loading) (u r o k : ℕ) → Carries (Kept s) (enter (is_nothing s.phase) declaring (take_sizes W u r o k))
  sizes-kept s u r o k =
      unless_carries (Kept s) (is_nothing s.phase) out_of_place _ λ p.
      then_carries (λ F. Unit {0}) (Kept s) (take_sizes W u r o k) (λ F. accepted (record { phase = declaring; policy = F }))
      (any-carried (take_sizes W u r o k)) (λ F k. (refl, λ b. never p b))

  pub obey-kept : (s : Loading) (c : RoleCommand) → Carries (Kept s) (obey_role W s c)
  unfolding obey_role
  obey-kept s (sizes u r o k) = sizes-kept s u r o k
  obey-kept s (declare side kind domain) = enter-kept s (is_declaring s.phase) declaring (take_kind s.policy side kind domain) refl (kind_kept s.policy side kind domain)
  obey-kept s (give set side a x v) = enter-kept s (not (is_nothing s.phase)) telling (take_value s.policy set side a x v) refl (value-kept s.policy set side a x v)
  obey-kept s (assign k u) = enter-kept s (not (is_nothing s.phase)) telling (take_assignment s.policy k u) refl (assignment-kept s.policy k u)
  obey-kept s (permit k r o) = enter-kept s (not (is_nothing s.phase)) telling (take_permission s.policy k r o) refl (permission_kept s.policy k r o)
  obey-kept s (line j k) = enter-kept s (not (is_nothing s.phase)) telling (take_line s.policy j k) refl (line_kept s.policy j k)
  obey-kept s end = enter-kept s (not (is_nothing s.phase)) telling (accepted s.policy) refl refl

  -- of states with so many users
  abbrev Begun : ℕ → Loading → Type 0
  Begun m s = (is_nothing s.phase ≡ false) × ((s.policy.table user).count ≡ m)

  begun_kept : (m : ℕ) (s : Loading) (c : RoleCommand) → Begun m s → Carries (Begun m) (obey_role W s c)
  begun_kept m s c b = go (obey_role W s c) (obey-kept s c)
    where
      go : (r : Answer Loading) → Carries (Kept s) r → Carries (Begun m) r
      go (refused e) k = tt
      go (accepted t) k = (k.0, k.1 b.0 ∙ b.1)

  -- reading on does not change how many there are
  pub users-kept : (n : ℕ) (over : Bool) (s z : Loading) (bs : List ℕ) → is_nothing s.phase ≡ false → read_on (role_format W) n over s bs ≡ accepted z
      → (z.policy.table user).count ≡ (s.policy.table user).count
  unfolding role_format
  users-kept n over s z bs b h =
      (carried (Begun (s.policy.table user).count) (read_on (role_format W) n over s bs)
      (read_carries (role_format W) (Begun (s.policy.table user).count) (begun_kept (s.policy.table user).count) n over s bs (b, refl)) h).1
