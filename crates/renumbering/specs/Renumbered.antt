-- Users renumbered: two role files, and what is said of mining them. 02, request 12, "New staff numbers, same rules".
-- Assumes nothing.
use Rattle.std.specs.Prelude.{ℕ, zero, suc, ◌≤◌, ◌<◌, eqb, length, get_or, take, drop, set, cond, ◌&&◌, ◌||◌, List, [], ◌∷◌, ◌++◌, ◌≡◌}
use Rattle.std.proofs.Math.Option.{Option, none, some}
use Rattle.files.specs.Answer.{accepted}
use Rattle.files.specs.Calls.{Counts, cuts_ok, least_scratch, mine_answer, mine_output}
use Rattle.files.specs.RoleFile.{role_widths, read_roles}
use Rattle.policy.specs.Policy.{Policy}
use Rattle.policy.specs.Rules.{user, resource}
use Rattle.policy.specs.declared.Weights.{Weights}
use Rattle.sets.specs.Tests.{Is, sum}

-- new numbers for n users
pub record Renumbering (n : ℕ) : Type 0 where
  pub to : ℕ → ℕ
  -- each is the number of a user
  pub low : (u : ℕ) → u < n → to u < n
  -- "any renumbering that loses nobody": no two users get the same
  pub apart : (u v : ℕ) → u < n → v < n → to u ≡ to v → u ≡ v

-- "one is the other with its users renumbered": of what the two files state, in whatever order their commands stand
pub record Renumbered (to : ℕ → ℕ) (F G : Policy) : Type 0 where
  -- "in assignments and attribute values alike": what a user of the one has, that of the other with the new number has
  pub assigned : (k u : ℕ) → u < (F.table user).count → G.assigned k (to u) ≡ F.assigned k u
  pub value : (a u : ℕ) → u < (F.table user).count → (G.table user).value a (to u) ≡ (F.table user).value a u
  -- all else is the same
  pub count : (G.table user).count ≡ (F.table user).count
  pub kinds : (G.table user).kinds ≡ (F.table user).kinds
  pub domain : (G.table user).domain ≡ (F.table user).domain
  pub resources : G.table resource ≡ F.table resource
  pub operations : G.operations ≡ F.operations
  pub roles : G.roles ≡ F.roles
  pub permitted : G.permitted ≡ F.permitted
  pub line : G.line ≡ F.line

-- ---- the same of bytes, so that nobody has to take the relation on trust

-- where among the bytes of a command's operands the number of a user stands: third in "03 side, attribute, who, value"
-- and "04 side, attribute, who, set" if the side is 0, for "Who is a user or resource number by side"; second in "05
-- role, user"
abbrev pub user_place : ℕ → List ℕ → Option ℕ
user_place b xs = cond (eqb b 0x05) (some 1) (cond ((eqb b 0x03 || eqb b 0x04) && eqb (get_or xs 0 0) 0) (some 2) none)

module _ (to : ℕ → ℕ) where
  -- the operands' bytes with the one at that place replaced, and no other
  abbrev pub replaced_at : Option ℕ → List ℕ → List ℕ
  replaced_at none xs = xs
  replaced_at (some i) xs = set xs i (to (get_or xs i 0))

  -- command by command: the bytes of its operands, and those behind it. n is more than the number of commands
  abbrev pub renumber_on : ℕ → List ℕ → List ℕ
  renumber_on zero bs = bs
  renumber_on (suc n) [] = []
  renumber_on (suc n) (b ∷ bs) =
      elim (role_widths b) [
        | none ↦ b ∷ bs
        | some ws ↦ let w = sum (λ v. v) ws in b ∷ (replaced_at (user_place b bs) (take w bs) ++ renumber_on n (drop w bs))
      ]

  -- a role file with the users' numbers replaced
  unfoldable pub renumber : List ℕ → List ℕ
  renumber bytes = renumber_on (suc (length bytes)) bytes

-- ---- what is said; an operation set is W bytes wide
module _ (W : ℕ) where
  -- with these cuts a role file mines to these bytes and, by the weights handed in, to these counts, "given outputs and
  -- scratch that are long enough", whatever they hold
  abbrev pub MinesTo : List ℕ → List ℕ → List ℕ → (Weights → Counts) → Type 0
  MinesTo file cuts bytes counts =
      (weights : Weights) (scratch : ℕ) (former : List ℕ) → least_scratch ≤ scratch → length bytes ≤ length former
      → (mine_answer W file cuts weights scratch (length former) ≡ accepted (counts weights))
      × (take (counts weights).size (mine_output W file cuts scratch former) ≡ bytes)

  -- "both mine to the same bytes and the same counts", "with equal cuts", which are legal for so many roles; "weights
  -- are equal on both sides"
  abbrev pub MineAlike : ℕ → List ℕ → List ℕ → Type 0
  MineAlike roles file other =
      (cuts : List ℕ) → Is (cuts_ok cuts roles)
      → (bytes : List ℕ) × (counts : Weights → Counts) × MinesTo file cuts bytes counts × MinesTo other cuts bytes counts

  -- and whatever is handed in beside them, refused or not, both are answered alike and leave the same output
  abbrev pub AnsweredAlike : List ℕ → List ℕ → Type 0
  AnsweredAlike file other =
      (cuts : List ℕ) (weights : Weights) (scratch : ℕ) (former : List ℕ)
      → (mine_answer W other cuts weights scratch (length former) ≡ mine_answer W file cuts weights scratch (length former))
      × (mine_output W other cuts scratch former ≡ mine_output W file cuts scratch former)

  -- "of two accepted role files of which one is the other with its users renumbered, any renumbering that loses nobody,
  -- in assignments and attribute values alike, both mine to the same bytes and the same counts"
  abbrev pub SameRules : Type 0
  SameRules =
      (file other : List ℕ) (F G : Policy) → read_roles W file ≡ accepted F → read_roles W other ≡ accepted G
      → (π : Renumbering (F.table user).count) → Renumbered π.to F G
      → MineAlike F.roles file other × AnsweredAlike file other

  -- the bytes are an accepted role file, which is the one that states F with its users renumbered
  abbrev pub ReadsAs : (ℕ → ℕ) → Policy → List ℕ → Type 0
  ReadsAs to F bytes = (G : Policy) × (read_roles W bytes ≡ accepted G) × Renumbered to F G

  -- so are the bytes of an accepted role file with its users' numbers replaced
  abbrev pub NewNumbers : Type 0
  NewNumbers =
      (file : List ℕ) (F : Policy) → read_roles W file ≡ accepted F
      → (π : Renumbering (F.table user).count) → ReadsAs π.to F (renumber π.to file)
