-- The standing summary of rights, and the edits of assignments that come with it. 02, request 8.
-- Assumes nothing.
use Rattle.std.specs.Prelude.{ℕ, ◌/◌, ◌%◌, eqb, ltb, leb, Bool, cond, ◌&&◌, List, [], ◌∷◌, map}
use Rattle.files.specs.Answer.{Answer, unless, left_by, beyond, wrong_table, accepted}
use Rattle.policy.specs.Policy.{Policy, setting_of, roles_in}
use Rattle.policy.specs.Roles.{roles_grant}
use Rattle.policy.specs.Rules.{user, resource}
use Rattle.sets.specs.Sets.{mask_of}
use Rattle.sets.specs.Tests.{up_to}

-- "Two edits come with it: assign a user to a role, and take the assignment away"
pub record Edit : Type 0 where
  -- true assigns, false takes away
  pub gives : Bool
  pub role : ℕ
  pub user : ℕ

-- "17 for a table of other than 1,024 words, then 5 for a record whose sizes pass the limits": of the table's words, and of the users,
-- resources, operations and roles
abbrev pub may_fill : {A : Type 0} → ℕ → ℕ → ℕ → ℕ → ℕ → Answer A → Answer A
may_fill words u r o k next = unless (eqb words 1024) wrong_table (unless (leb u 64 && leb r 64 && leb o 16 && leb k 32) beyond next)

-- "or for numbers beyond its sizes"
abbrev pub may_edit : {A : Type 0} → ℕ → ℕ → ℕ → ℕ → ℕ → Edit → Answer A → Answer A
may_edit words u r o k e next = may_fill words u r o k (unless (ltb e.role k && ltb e.user u) beyond next)

module _ (F : Policy) where
  -- the policy with one assignment as the edit wants it; "repeating one, or taking away what isn't there, changes nothing"
  unfoldable pub with_edit : Edit → Policy
  with_edit e = record {
    table = F.table;
    operations = F.operations;
    roles = F.roles;
    assigned = λ k u. cond (eqb k e.role && eqb u e.user) e.gives (F.assigned k u);
    permitted = F.permitted;
    line = F.line;
  }

  -- what an edit comes to beside a table of so many words
  unfoldable pub edit_answer : ℕ → Edit → Answer Policy
  edit_answer words e = may_edit words (F.table user).count (F.table resource).count F.operations F.roles e (accepted (with_edit e))

  -- "each the set of resources granted": for a user and an operation; a user or an operation beyond the sizes has none
  unfoldable pub summary_word : ℕ → ℕ → ℕ
  summary_word u o =
      cond (ltb u (F.table user).count && ltb o F.operations)
      (mask_of (F.table resource).count (λ r. roles_grant (setting_of F) (roles_in F) u r o)) 0

  -- "a lent table of 1,024 words, one for each user and operation, ... word 16 × user + operation"
  unfoldable pub summary : List ℕ
  summary = map (λ i. summary_word (i / 16) (i % 16)) (up_to 1024)

  -- what filling a table of so many words comes to
  unfoldable pub summary_answer : ℕ → Answer (List ℕ)
  summary_answer words = may_fill words (F.table user).count (F.table resource).count F.operations F.roles (accepted summary)

-- "the assignments that the list leaves": a refused edit "leaves record and table untouched"
abbrev pub edited_by : Policy → List Edit → Policy
edited_by F [] = F
edited_by F (e ∷ es) = edited_by (left_by F (edit_answer F 1024 e)) es
