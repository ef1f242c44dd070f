-- What the code admits is what the definitions obey.
-- Assumes nothing.
use Rattle.std.specs.Prelude.{ℕ, zero, suc, ◌+◌, ◌*◌, ◌%◌, ◌<◌, eqb, ltb, leb, length, get_or, set, Bool, true, false, cond, ◌&&◌, not, ◌≡◌, refl, Result}
use Rattle.std.specs.Result.{result_and}
use Rattle.std.proofs.Common.{ltb-true, lt-ltb, le-leb, leb-true, ap, ap₂, ◌∙◌, arith}
use Rattle.role_admit.specs.Admit.{checked, below_of, sizes_admitted, kind_admitted, size_of, value_admitted, is_first, is_early, operands_admitted, admit_of}
use Rattle.role_admit.specs.declared.phase.Phase.{Phase as Place}
use Rattle.role_admit.specs.declared.phase.Phase.TheVariants.{Nothing, Declaring, Telling}
use Rattle.role_commands.specs.DecodeLaws.{meaning}
use Rattle.role_commands.specs.declared.Command.{Command}
use Rattle.role_commands.specs.declared.Command.TheVariants.{Sizes, Declare, Give, Assign, Permit, Line, End}
use Rattle.files.specs.Answer.{Answer, unless, map_answer, beyond, wrong_kind, refused, accepted}
use Rattle.files.specs.Cause.{answer_of}
use Rattle.files.specs.declared.refusal.Refusal.{Refusal}
use Rattle.files.specs.declared.refusal.Refusal.TheVariants.{OutOfPlace, Beyond, WrongKind}
use Rattle.files.specs.RoleFile.{Phase, Loading, blank, side_by, with_kind, with_value, with_assigned, with_permitted, with_line, is_nothing, is_declaring, enter, take_kind, take_value, take_assignment, take_permission, take_line, take_sizes, obey_role, nothing, declaring, telling}
use Rattle.role_record.specs.Record.{column_side, known_table, attribute_table, kind_table, record_with, record_so_far, Sized}
use Rattle.role_record.specs.RecordLaws.{table_get, column-side}
use Rattle.policy.specs.Policy.{Policy, kind_of}
use Rattle.policy.specs.Rules.{Which, user, resource}
use Rattle.sets.specs.SetLaws.{bit_mask}
use Rattle.sets.specs.Sets.{bit, mask_of}
use Rattle.sets.specs.TestLaws.{test, same}
use Rattle.sets.specs.Tests.{iff, is_some}

-- the code's name of a phase
abbrev pub phase_of : Phase → Place
phase_of nothing = Nothing
phase_of declaring = Declaring
phase_of telling = Telling

-- that something was accepted, and no more
abbrev pub passed : {A : Type 0} → Answer A → Answer (Unit {0})
passed r = map_answer (λ a. tt) r

-- ---- tests one after the other

pub both_tests : {A : Type 0} (a b : Bool) (x y : A) → cond (a && b) x y ≡ cond a (cond b x y) y
both_tests true b x y = refl
both_tests false b x y = refl

pub two-tests : {A : Type 0} (a b : Bool) (x : A) → answer_of (result_and (checked a Beyond) (checked b Beyond)) ≡ passed (unless (a && b) beyond (accepted x))
two-tests true true x = refl
two-tests true false x = refl
two-tests false b x = refl

three-tests : {A : Type 0} (a b c : Bool) (x : A) → answer_of (result_and (checked a Beyond) (result_and (checked b Beyond) (checked c Beyond))) ≡ passed (unless (a && b && c) beyond (accepted x))
three-tests true true true x = refl
three-tests true true false x = refl
three-tests true false c x = refl
three-tests false b c x = refl

four-tests : {A : Type 0} (a b c d : Bool) (x : A)
    → answer_of (result_and (checked a Beyond) (result_and (checked b Beyond) (result_and (checked c Beyond) (checked d Beyond)))) ≡ passed (unless (a && b && c && d) beyond (accepted x))
four-tests true true true true x = refl
four-tests true true true false x = refl
four-tests true true false d x = refl
four-tests true false c d x = refl
four-tests false b c d x = refl

-- the place comes before what is said
entered : (place : Bool) (ph : Phase) (v : Result (Unit {0}) Refusal) (r : Answer Policy) → answer_of v ≡ passed r → answer_of (result_and (checked place OutOfPlace) v) ≡ passed (enter place ph r)
entered false ph v r e = refl
entered true ph v (refused d) e = e
entered true ph v (accepted F) e = e

-- ---- places

stands_first : (ph : Phase) → is_first (phase_of ph) ≡ is_nothing ph
stands_first nothing = refl
stands_first declaring = refl
stands_first telling = refl

stands_early : (ph : Phase) → is_early (phase_of ph) ≡ is_declaring ph
stands_early nothing = refl
stands_early declaring = refl
stands_early telling = refl

first-place : (ph after : Phase) (v : Result (Unit {0}) Refusal) (r : Answer Policy) → answer_of v ≡ passed r → answer_of (result_and (checked (is_first (phase_of ph)) OutOfPlace) v) ≡ passed (enter (is_nothing ph) after r)
first-place ph after v r e = ap (λ (b : Bool). answer_of (result_and (checked b OutOfPlace) v)) (stands_first ph) ∙ entered (is_nothing ph) after v r e

early-place : (ph after : Phase) (v : Result (Unit {0}) Refusal) (r : Answer Policy) → answer_of v ≡ passed r → answer_of (result_and (checked (is_early (phase_of ph)) OutOfPlace) v) ≡ passed (enter (is_declaring ph) after r)
early-place ph after v r e = ap (λ (b : Bool). answer_of (result_and (checked b OutOfPlace) v)) (stands_early ph) ∙ entered (is_declaring ph) after v r e

later-place : (ph after : Phase) (v : Result (Unit {0}) Refusal) (r : Answer Policy) → answer_of v ≡ passed r → answer_of (result_and (checked (not (is_first (phase_of ph))) OutOfPlace) v) ≡ passed (enter (not (is_nothing ph)) after r)
later-place ph after v r e = ap (λ (b : Bool). answer_of (result_and (checked (not b) OutOfPlace) v)) (stands_first ph) ∙ entered (not (is_nothing ph)) after v r e

-- ---- each command's own tests

-- the tables of a side
pub side-attributes : (F : Policy) (side : ℕ) → side < 2 → get_or (attribute_table F) side 0 ≡ length (F.table (side_by side)).kinds
unfolding attribute_table
side-attributes F zero h = refl
side-attributes F (suc zero) h = refl
side-attributes F (suc (suc n)) h = absurd (omega arith)

pub side-kinds : (F : Policy) (side : ℕ) → side < 2 → get_or (kind_table F) side 0 ≡ mask_of 64 (kind_of (F.table (side_by side)))
unfolding kind_table
side-kinds F zero h = refl
side-kinds F (suc zero) h = refl
side-kinds F (suc (suc n)) h = absurd (omega arith)

side-count : (F : Policy) (side : ℕ) → side < 2 → size_of side (record_so_far F) ≡ (F.table (side_by side)).count
unfolding record_so_far record_with
side-count F zero h = refl
side-count F (suc zero) h = refl
side-count F (suc (suc n)) h = absurd (omega arith)

pub column-known : (F : Policy) (side a x : ℕ) → side < 2 → a < 6 → x < 64 → bit (get_or (known_table F) (6 * side + a) 0) x ≡ is_some ((F.table (side_by side)).value a x)
unfolding known_table
column-known F side a x hs ha hx =
    ap (λ (m : ℕ). bit m x) (table_get 12 (λ s. mask_of 64 (λ y. is_some ((F.table (column_side s)).value (s % 6) y))) (6 * side + a) (omega arith))
    ∙ bit_mask 64 (λ y. is_some ((F.table (column_side (6 * side + a))).value ((6 * side + a) % 6) y)) x hx
    ∙ ap₂ (λ (w : Which) (b : ℕ). is_some ((F.table w).value b x)) (column-side side a hs ha) (let e : (6 * side + a) % 6 ≡ a = omega arith in e)

at_most : (a b : ℕ) → leb a b ≡ ltb a (suc b)
at_most a b = same (leb a b) (ltb a (suc b)) (λ h. let k = leb-true a b h in lt-ltb a (suc b) (omega arith)) (λ h. let k = ltb-true a (suc b) h in le-leb a b (omega arith))

-- the limits of the sizes
pub limits : {A : Type 0} (u r o k : ℕ) (a : A) → answer_of (sizes_admitted (record { users = u; resources = r; operations = o; roles = k })) ≡ passed (unless (leb u 64 && leb r 64 && leb o 16 && leb k 32) beyond (accepted a))
unfolding sizes_admitted
limits u r o k a = four-tests (ltb u 65) (ltb r 65) (ltb o 17) (ltb k 33) a ∙ rw (at_most u 64, at_most r 64, at_most o 16, at_most k 32) refl

pub sizes-admitted : (u r o k : ℕ) → answer_of (sizes_admitted (record { users = u; resources = r; operations = o; roles = k })) ≡ passed (take_sizes 2 u r o k)
unfolding take_sizes
sizes-admitted u r o k = limits u r o k (blank u r o k)

module _ (F : Policy) where
  kind-admitted : (side kind domain : ℕ) → answer_of (kind_admitted side kind (record_so_far F)) ≡ passed (take_kind F side kind domain)
  unfolding take_kind kind_admitted record_so_far record_with
  kind-admitted side kind domain = test (ltb side 2) (λ h. rw (side-attributes F side (ltb-true side 2 h)) whole) (λ h. rw h refl)
    where
      whole : answer_of (result_and (below_of side 2) (result_and (below_of kind 2) (below_of (length (F.table (side_by side)).kinds) 6))) ≡ passed (unless (ltb side 2 && ltb kind 2 && ltb (length (F.table (side_by side)).kinds) 6) beyond (accepted (with_kind F (side_by side) (eqb kind 1) domain)))
      whole = three-tests (ltb side 2) (ltb kind 2) (ltb (length (F.table (side_by side)).kinds) 6) (with_kind F (side_by side) (eqb kind 1) domain)

  value-admitted : Sized F → (set : Bool) (side a x v : ℕ) → answer_of (value_admitted set side a x (record_so_far F)) ≡ passed (take_value F set side a x v)
  unfolding take_value value_admitted record_so_far record_with
  value-admitted Z set side a x v =
      test (ltb side 2) there (λ h. rw h refl)
    where
      there : ltb side 2 ≡ true → answer_of (value_admitted set side a x (record_so_far F)) ≡ passed (take_value F set side a x v)
      there h =
          let s = ltb-true side 2 h in
          rw (h, side-attributes F side s, side-count F side s)
          (test (ltb a (length (F.table (side_by side)).kinds)) (λ p. test (ltb x (F.table (side_by side)).count)
          (λ q. let la = ltb-true a (length (F.table (side_by side)).kinds) p in
          let lx = ltb-true x (F.table (side_by side)).count q in
          let n = Z.declared (side_by side) in
          let m = Z.many (side_by side) in
          rw (p, q, side-kinds F side s, bit_mask 64 (kind_of (F.table (side_by side))) a (omega arith), column-known F side a x s (omega arith) (omega arith)) (last (iff (kind_of (F.table (side_by side)) a) set) (is_some ((F.table (side_by side)).value a x))))
          (λ q. rw (p, q) refl)) (λ p. rw p refl))
        where
          last : (b k : Bool) → answer_of (result_and (checked b WrongKind) (checked (not k) WrongKind)) ≡ passed (unless (b && not k) wrong_kind (accepted (with_value F (side_by side) a x v)))
          last true true = refl
          last true false = refl
          last false k = refl

  assignment-admitted : (k u : ℕ) → answer_of (result_and (below_of k (record_so_far F).roles) (below_of u (record_so_far F).users)) ≡ passed (take_assignment F k u)
  unfolding take_assignment record_so_far record_with
  assignment-admitted k u = two-tests (ltb k F.roles) (ltb u (F.table user).count) (with_assigned F k u)

  permission-admitted : (k r o : ℕ) → answer_of (result_and (below_of k (record_so_far F).roles) (result_and (below_of r (record_so_far F).resources) (below_of o (record_so_far F).operations))) ≡ passed (take_permission F k r o)
  unfolding take_permission record_so_far record_with
  permission-admitted k r o = three-tests (ltb k F.roles) (ltb r (F.table resource).count) (ltb o F.operations) (with_permitted F k r o)

  line-admitted : (j s : ℕ) → answer_of (result_and (below_of j (record_so_far F).roles) (below_of s (record_so_far F).roles)) ≡ passed (take_line F j s)
  unfolding take_line record_so_far record_with
  line-admitted j s = two-tests (ltb j F.roles) (ltb s F.roles) (with_line F j s)

-- ---- THE LAW: a command is admitted where it is obeyed, and refused for the same cause

pub admit_means : (L : Loading) (c : Command) → Sized L.policy → answer_of (admit_of c (phase_of L.phase) (record_so_far L.policy)) ≡ passed (obey_role 2 L (meaning c))
unfolding admit_of operands_admitted obey_role
admit_means L (Sizes u r o k) Z = first-place L.phase declaring _ (take_sizes 2 u r o k) (sizes-admitted u r o k)
admit_means L (Declare side kind domain) Z = early-place L.phase declaring _ (take_kind L.policy side kind domain) (kind-admitted L.policy side kind domain)
admit_means L (Give set side a x v) Z = later-place L.phase telling _ (take_value L.policy set side a x v) (value-admitted L.policy Z set side a x v)
admit_means L (Assign k u) Z = later-place L.phase telling _ (take_assignment L.policy k u) (assignment-admitted L.policy k u)
admit_means L (Permit k r o) Z = later-place L.phase telling _ (take_permission L.policy k r o) (permission-admitted L.policy k r o)
admit_means L (Line j s) Z = later-place L.phase telling _ (take_line L.policy j s) (line-admitted L.policy j s)
admit_means L End Z = later-place L.phase telling _ (accepted L.policy) refl
