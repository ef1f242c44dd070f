-- What every accepted role file keeps to, whatever its bytes: the sizes that the record has room for.
-- Assumes nothing.
use Rattle.std.specs.Prelude.{ℕ, suc, leb, length, set, not, false, List, ◌≡◌, refl}
use Rattle.std.proofs.Common.{◌∙◌, subst, arith}
use Rattle.role_record.specs.Record.{Sized, record_of}
use Rattle.role_commands.specs.DecodeLaws.{meaning}
use Rattle.files.specs.Answer.{Answer, and_then, map_answer, too_long, own_senior, refused, accepted}
use Rattle.files.proofs.AnswerLaws.{map-accepted}
use Rattle.files.specs.Bytes.{read_on, read}
use Rattle.files.proofs.BytesLaws.{Carries, unless_carries, then_carries, read_carries}
use Rattle.files.specs.RoleFile.{RoleCommand, Loading, blank, fresh, settle, obey_role, role_format, read_roles, sizes, declare, give, assign, permit, line, end, nothing}
use Rattle.policy.specs.Policy.{circular, Policy}
use Rattle.role_file.specs.ReadLaws.{After, blank-sized, obeyed}
use Rattle.role_commands.specs.declared.Command.{Command}
use Rattle.role_record.specs.declared.RoleFile.{RoleFile}
use Rattle.role_commands.specs.declared.Command.TheVariants.{Sizes, Declare, Give, Assign, Permit, Line, End}

-- every command of the definitions is one of the code
code_for : RoleCommand → Command
code_for (sizes u r o k) = Sizes u r o k
code_for (declare side kind domain) = Declare side kind domain
code_for (give set side a x v) = Give set side a x v
code_for (assign k u) = Assign k u
code_for (permit k r o) = Permit k r o
code_for (line j s) = Line j s
code_for end = End

same-command : (c : RoleCommand) → meaning (code_for c) ≡ c
unfolding code_for
same-command (sizes u r o k) = refl
same-command (declare side kind domain) = refl
same-command (give set side a x v) = refl
same-command (assign k u) = refl
same-command (permit k r o) = refl
same-command (line j s) = refl
same-command end = refl

record Kept (L : Loading) : Type 0 where
  sized : Sized L.policy
  unread : L.phase ≡ nothing → L.policy ≡ blank 0 0 0 0

kept : (L : Loading) (c : RoleCommand) → Kept L → Carries Kept (obey_role 2 L c)
kept L c K = go (obey_role 2 L c) (subst (λ (d : RoleCommand). Carries (After L (code_for c)) (obey_role 2 L d)) (same-command c) (obeyed L (code_for c) K.sized K.unread))
  where
    go : (r : Answer Loading) → Carries (After L (code_for c)) r → Carries Kept r
    go (refused e) a = tt
    go (accepted M) a = record { sized = a.sized; unread = λ y. absurd (a.begun y) }

-- reading keeps what every command keeps
read_kept : (n : ℕ) (L : Loading) (bs : List ℕ) → Kept L → Carries Kept (read_on (role_format 2) n false L bs)
unfolding role_format
read_kept n L bs K = read_carries (role_format 2) Kept kept n false L bs K

-- THE LAW
pub accepted-sized : (bytes : List ℕ) → Carries Sized (read_roles 2 bytes)
unfolding read_roles
accepted-sized bytes =
    unless_carries Sized (leb (length bytes) 65535) too_long (and_then (read (role_format 2) fresh bytes) settle) λ p.
    then_carries Kept Sized (read (role_format 2) fresh bytes) settle (read_kept (suc (length bytes)) fresh bytes begun)
    λ M k. unless_carries Sized (not (circular M.policy)) own_senior (accepted M.policy) λ q. k.sized
  where
    begun : Kept fresh
    begun = record { sized = blank-sized 0 0 0 0 (omega arith) (omega arith) (omega arith) (omega arith); unread = λ e. refl }

-- a role file that was read: its policy, and the record of it
pub read_policy : (file : List ℕ) (f : RoleFile) → accepted f ≡ map_answer record_of (read_roles 2 file) → (F : Policy) × Sized F × (read_roles 2 file ≡ accepted F) × (f ≡ record_of F)
read_policy file f e = go (read_roles 2 file) refl (accepted-sized file) e
  where
    go : (r : Answer Policy) → read_roles 2 file ≡ r → Carries Sized r → accepted f ≡ map_answer record_of r → (F : Policy) × Sized F × (read_roles 2 file ≡ accepted F) × (f ≡ record_of F)
    go r q z p = let t = map-accepted record_of f r p in (t.value, subst (Carries Sized) t.is z, q ∙ t.is, t.made)
