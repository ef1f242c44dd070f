-- A role file made from a seed. 02, request 6: "role files that anyone can make again from a seed".
-- Assumes nothing.
use Rattle.std.specs.Prelude.{ℕ, zero, suc, ◌+◌, ◌*◌, ◌-◌, ◌/◌, ◌%◌, ◌^◌, eqb, leb, length, drop, Bool, cond, not, List, [], ◌∷◌, ◌++◌, ◌≡◌}
use Rattle.std.specs.Int.Bits.{bit_xor}
use Rattle.files.specs.Answer.{Answer, unless, and_then, too_long, short_output, zero_seed, refused, accepted}
use Rattle.files.specs.RoleFile.{take_sizes, read_roles}
use Rattle.policy.specs.Policy.{Policy}
use Rattle.policy.specs.Rules.{user, resource}

-- "the 32-bit xorshift generator published by Marsaglia in 2003 with shifts left 13, right 17, left 5": the output after this one
unfoldable pub xorshift : ℕ → ℕ
xorshift x =
    let a = bit_xor x (x * 2 ^ 13 % 2 ^ 32) in
    let b = bit_xor a (a / 2 ^ 17) in
    bit_xor b (b * 2 ^ 5 % 2 ^ 32)

-- ---- draws

-- a run of draws: from the generator's last output, the bytes of the lines that the draws make, and its last output then
abbrev pub Run : Type 0
Run = ℕ → List ℕ × ℕ

-- "each draw being the next output": one draw, and the bytes that it makes
abbrev pub draw : (ℕ → List ℕ) → Run
draw f x = let y = xorshift x in (f y, y)

-- one run, and then another: "its lines stand in the order of the draws"
abbrev pub follow : Run → Run → Run
follow f g x = let a = f x in let b = g a.1 in (a.0 ++ b.0, b.1)

-- a run for each number below n, one after the other
abbrev pub times : ℕ → (ℕ → Run) → Run
times zero f x = ([], x)
times (suc n) f x = follow (times n f) (f n) x

-- a line that is written where a test passes
abbrev pub line_if : Bool → List ℕ → List ℕ
line_if b l = cond b l []

-- ---- the lines

-- 03 side, attribute 0, who, value in two bytes: "every user's value, draw mod 8", and likewise of resources
abbrev pub value_line : (side who draw : ℕ) → List ℕ
value_line side who x = 0x03 ∷ side ∷ 0 ∷ who ∷ x % 8 ∷ 0 ∷ []

-- 05: "each user assigned if draw mod 4 is 0"
abbrev pub assign_line : (role user draw : ℕ) → List ℕ
assign_line k u x = line_if (eqb (x % 4) 0) (0x05 ∷ k ∷ u ∷ [])

-- 06: "a permission if draw mod 2 is 0"
abbrev pub permit_line : (role resource operation draw : ℕ) → List ℕ
permit_line k r o x = line_if (eqb (x % 2) 0) (0x06 ∷ k ∷ r ∷ o ∷ [])

-- 07: "a line if draw mod 16 is 0"
abbrev pub senior_line : (junior senior draw : ℕ) → List ℕ
senior_line j s x = line_if (eqb (x % 16) 0) (0x07 ∷ j ∷ s ∷ [])

-- ---- the file

-- 01 and the sizes; "The file declares by 02 one single attribute a side, the user side first"
abbrev pub opening : (users resources operations roles : ℕ) → List ℕ
opening u r o k = 0x01 ∷ u ∷ r ∷ o ∷ k ∷ 0x02 ∷ 0 ∷ 0 ∷ 0x02 ∷ 1 ∷ 0 ∷ []

-- "every user's value ...; every resource's value ..."
unfoldable pub value_run : (side count : ℕ) → Run
value_run side n = times n (λ who. draw (value_line side who))

-- "for each role, each user assigned ..., then for each resource and, within it, each operation a permission"
unfoldable pub assign_run : (users role : ℕ) → Run
assign_run u k = times u (λ who. draw (assign_line k who))

unfoldable pub resource_run : (operations role resource : ℕ) → Run
resource_run o k r = times o (λ op. draw (permit_line k r op))

unfoldable pub permit_run : (resources operations role : ℕ) → Run
permit_run r o k = times r (resource_run o k)

unfoldable pub role_run : (users resources operations role : ℕ) → Run
role_run u r o k = follow (assign_run u k) (permit_run r o k)

-- "for each junior and each higher-numbered senior, juniors outermost"
unfoldable pub senior_run : (roles junior : ℕ) → Run
senior_run k j = times (k - suc j) (λ i. draw (senior_line j (suc j + i)))

-- all draws, in 02's order
unfoldable pub load_run : (users resources operations roles : ℕ) → Run
load_run u r o k = follow (value_run 0 u) (follow (value_run 1 r) (follow (times k (role_run u r o)) (times k (senior_run k))))

-- the file: the seed stands for the output before the first
unfoldable pub load_bytes : (seed users resources operations roles : ℕ) → List ℕ
load_bytes seed u r o k = opening u r o k ++ (load_run u r o k seed).0 ++ (0x0F ∷ [])

-- ---- the call

-- how many bytes are written: "15 for seed 0, then 5 for sizes, 1 if the file would pass 65,535 bytes, 9 for short output". An operation set is W
-- bytes wide in the rule file, so 8 × W is the most operations; room is the bytes of the output
unfoldable pub load_answer : (W seed users resources operations roles room : ℕ) → Answer ℕ
load_answer W seed u r o k room =
    unless (not (eqb seed 0)) zero_seed
    (and_then (take_sizes W u r o k) (λ F.
    let n = length (load_bytes seed u r o k) in
    unless (leb n 65535) too_long (unless (leb n room) short_output (accepted n))))

-- the output afterwards: the former bytes after a refusal; else the file, and behind it the former ones
unfoldable pub load_output : (W seed users resources operations roles : ℕ) → List ℕ → List ℕ
load_output W seed u r o k former =
    elim (load_answer W seed u r o k (length former)) [ refused e ↦ former | accepted n ↦ load_bytes seed u r o k ++ drop n former ]

-- "Whatever it writes, the reader accepts", with the sizes asked for
pub record Readable (W users resources operations roles : ℕ) (bytes : List ℕ) : Type 0 where
  pub policy : Policy
  pub taken : read_roles W bytes ≡ accepted policy
  pub users_asked : (policy.table user).count ≡ users
  pub resources_asked : (policy.table resource).count ≡ resources
  pub operations_asked : policy.operations ≡ operations
  pub roles_asked : policy.roles ≡ roles
