-- A load is a role file that the reader accepts, with the sizes asked for. 02, request 6: "Whatever it writes, the reader accepts."
-- Assumes nothing.
use Rattle.std.specs.Prelude.{ℕ, zero, suc, ◌+◌, ◌*◌, ◌-◌, ◌%◌, ◌≤◌, ◌<◌, drop, take, Bool, true, false, cond, ◌&&◌, not, List, [], ◌∷◌, ◌++◌, ◌⊎◌, ◌≡◌}
use borrow.Author.Tests.{eqb-true, lt-ltb, leb-true, le-leb, ne_eqb}
use Rattle.std.proofs.Math.Dec.{eqb, leb}
use Rattle.std.proofs.Math.ListN.{length}
use Rattle.std.proofs.Math.Seq.{take-append_seam}
use Rattle.std.proofs.lemmas.Bool.{false≢true}
use Rattle.std.proofs.Common.{append_assoc, inl, inr, add-zero}
use Rattle.std.proofs.Math.Option.{some}
use Rattle.std.proofs.Math.Path.{refl}
use native.Mathlib.Omega.{arith}
use Rattle.files.specs.Answer.{Refusal, Answer, unless, and_then, too_long, beyond, short_output, zero_seed, refused, accepted}
use Rattle.files.specs.Bytes.{operands, Format}
use Rattle.files.proofs.BytesLaws.{Reads, reads_command, reads_end, unless_carries, then_carries, carried}
use Rattle.files.specs.Load.{xorshift, Run, draw, follow, times, line_if, value_line, assign_line, permit_line, senior_line, opening, value_run, assign_run, resource_run, permit_run, role_run, senior_run, load_run, load_bytes, load_answer, load_output, Readable}
use Rattle.files.specs.RoleFile.{RoleCommand, Loading, blank, side_by, with_table, with_kind, with_value, with_assigned, with_permitted, with_line, is_nothing, take_kind, take_value, take_assignment, take_permission, take_line, fresh, take_sizes, obey_role, role_format, read_roles, declaring, telling}
use Rattle.policy.specs.Policy.{Table, Policy, Senior, senior, circular, one, more}
use Rattle.policy.specs.Rules.{Which, by, user, resource}
use Rattle.policy.proofs.SeniorLaws.{reach-out}
use Rattle.sets.specs.Tests.{Is, is_some, up_to}
use Rattle.sets.specs.TestLaws.{and_l, and_r, or_out, fails, any_out}

-- ---- reading runs of draws

module _ {Command State : Type 0} (T : Format Command State) where
  -- from every state of the first kind there is one of the second: what comes of the bytes and a rest is what comes of the rest from there
  abbrev Passes : (State → Type 0) → (State → Type 0) → List ℕ → Type 0
  Passes I J bytes = (s : State) → I s → (t : State) × J t × ((rest : List ℕ) (a : Answer State) → Reads T t rest a → Reads T s (bytes ++ rest) a)

  passes_none : (I : State → Type 0) → Passes I I []
  passes_none I s i = (s, i, λ rest a r. r)

  passes-both : (I J K : State → Type 0) (b c : List ℕ) → Passes I J b → Passes J K c → Passes I K (b ++ c)
  passes-both I J K b c p q s i =
      let t = p s i in
      let v = q t.0 t.1 in
      (v.0, v.1, λ rest a r. rw append_assoc (t.2 (c ++ rest) a (v.2 rest a r)))

  passes_if : (I : State → Type 0) (b : Bool) (l : List ℕ) → Passes I I l → Passes I I (line_if b l)
  passes_if I true l p = p
  passes_if I false l p = passes_none I

  -- a command that is obeyed, and is not the end
  passes-command : (I J : State → Type 0) (b : ℕ) (ws xs bytes : List ℕ) → T.widths b ≡ some ws → ((rest : List ℕ) → operands ws (bytes ++ rest) ≡ some (xs, rest))
      → T.ends (T.command b xs) ≡ false → ((s : State) → I s → (t : State) × J t × (T.obey s (T.command b xs) ≡ accepted t)) → Passes I J (b ∷ bytes)
  passes-command I J b ws xs bytes w p e o s i =
      let t = o s i in
      (t.0, t.1, λ rest a r. reads_command T s t.0 b ws xs bytes rest a w (p rest) t.2 e r)

  -- the same of a run, whatever its draws are
  abbrev Runs : (State → Type 0) → (State → Type 0) → Run → Type 0
  Runs I J f = (x : ℕ) → Passes I J (f x).0

  runs_follow : (I J K : State → Type 0) (f g : Run) → Runs I J f → Runs J K g → Runs I K (follow f g)
  runs_follow I J K f g p q x = passes-both I J K (f x).0 (g (f x).1).0 (p x) (q (f x).1)

  -- each turn leads from its own kind of state to the next one's
  runs_times : (I : ℕ → State → Type 0) (n : ℕ) (f : ℕ → Run) → ((i : ℕ) → i < n → Runs (I i) (I (suc i)) (f i)) → Runs (I 0) (I n) (times n f)
  runs_times I zero f h x = passes_none (I 0)
  runs_times I (suc n) f h x = runs_follow (I 0) (I n) (I (suc n)) (times n f) (f n) (runs_times I n f (λ i l. h i (omega arith))) (h n (omega arith)) x

  -- a draw a turn
  runs_draws : (I : ℕ → State → Type 0) (n : ℕ) (f : ℕ → ℕ → List ℕ) → ((i y : ℕ) → i < n → Passes (I i) (I (suc i)) (f i y)) → Runs (I 0) (I n) (times n (λ i. draw (f i)))
  runs_draws I n f p = runs_times I n (λ i. draw (f i)) (λ i l x. p i (xorshift x) l)

-- ---- seniority

-- where lines go from lower to higher roles, so do all seniors, and no role is its own
senior-above : (line : ℕ → ℕ → Bool) → ((i j : ℕ) → Is (line i j) → i < j) → {i j : ℕ} → Senior line i j → i < j
senior-above line up (one {i = i} {j = j} h) = up i j h
senior-above line up (more {i = i} {j = j} {k = k} h p) = let a = up i k h in let b = senior-above line up p in omega arith

not_circular : (F : Policy) → ((i j : ℕ) → Is (F.line i j) → i < j) → circular F ≡ false
unfolding circular senior
not_circular F up = fails (circular F) λ h.
    let t = any_out (λ k. senior F k k) (up_to F.roles) h in
    let l = senior-above F.line up (reach-out F.line F.roles t.0 t.0 t.2) in
    omega arith

-- ---- the states in which a load is read

-- one side: its size, one single attribute, and no value given from a number on
record SideRead (count given : ℕ) (t : Table) : Type 0 where
  many : t.count ≡ count
  single : t.kinds ≡ false ∷ []
  left : (x : ℕ) → given ≤ x → is_some (t.value 0 x) ≡ false

side-kept : {count given given' : ℕ} {t : Table} → given ≤ given' → SideRead count given t → SideRead count given' t
side-kept l p = record { many = p.many; single = p.single; left = λ x h. p.left x (omega arith) }

-- a value for somebody below the new number
side-given : {count given given' : ℕ} {t : Table} (who n : ℕ) → given ≤ given' → who < given' → SideRead count given t
    → SideRead count given' (record { count = t.count; kinds = t.kinds; domain = t.domain; value = λ a x. cond (eqb a 0 && eqb x who) (some n) (t.value a x) })
side-given who n l m p = record { many = p.many; single = p.single; left = λ x h. rw (ne_eqb x who (omega arith)) (p.left x (omega arith)) }

module _ (W u r o k : ℕ) where
  -- behind the opening, with values given to the users below v and to the resources below w
  record LoadRead (v w : ℕ) (s : Loading) : Type 0 where
    begun : is_nothing s.phase ≡ false
    sides : (z : Which) → SideRead (by z u r) (by z v w) (s.policy.table z)
    operable : s.policy.operations ≡ o
    many-roles : s.policy.roles ≡ k
    upward : (i j : ℕ) → Is (s.policy.line i j) → i < j

  -- all values are given
  abbrev Valued : Loading → Type 0
  Valued = LoadRead u r

  abbrev T : Format RoleCommand Loading
  T = role_format W

  -- ---- the opening

  abbrev sized : Loading
  sized = record { phase = declaring; policy = blank u r o k }

  abbrev declared : Loading
  declared = record { phase = declaring; policy = with_kind (blank u r o k) user false 0 }

  abbrev both-declared : Loading
  both-declared = record { phase = declaring; policy = with_kind (with_kind (blank u r o k) user false 0) resource false 0 }

  sizes_pass : take_sizes W u r o k ≡ accepted (blank u r o k) → Passes T (λ s. s ≡ fresh) (λ s. s ≡ sized) (0x01 ∷ u ∷ r ∷ o ∷ k ∷ [])
  unfolding role_format obey_role
  sizes_pass h =
      passes-command T (λ s. s ≡ fresh) (λ s. s ≡ sized) 0x01 (1 ∷ 1 ∷ 1 ∷ 1 ∷ []) (u ∷ r ∷ o ∷ k ∷ []) (u ∷ r ∷ o ∷ k ∷ []) refl (λ rest. simp add-zero) refl
      (λ s e. (sized, refl, rw (e, h) refl))

  users-declared : Passes T (λ s. s ≡ sized) (λ s. s ≡ declared) (0x02 ∷ 0 ∷ 0 ∷ [])
  unfolding role_format obey_role take_kind blank
  users-declared =
      passes-command T (λ s. s ≡ sized) (λ s. s ≡ declared) 0x02 (1 ∷ 1 ∷ []) (0 ∷ 0 ∷ []) (0 ∷ 0 ∷ []) refl (λ rest. refl) refl (λ s e. (declared, refl, rw e refl))

  resources-declared : Passes T (λ s. s ≡ declared) (LoadRead 0 0) (0x02 ∷ 1 ∷ 0 ∷ [])
  unfolding role_format obey_role take_kind with_kind with_table blank
  resources-declared =
      passes-command T (λ s. s ≡ declared) (LoadRead 0 0) 0x02 (1 ∷ 1 ∷ []) (1 ∷ 0 ∷ []) (1 ∷ 0 ∷ []) refl (λ rest. refl) refl
      (λ s e. (both-declared, record { begun = refl; sides = sides; operable = refl; many-roles = refl; upward = λ i j h. absurd (false≢true h) }, rw e refl))
    where
      sides : (z : Which) → SideRead (by z u r) (by z 0 0) (both-declared.policy.table z)
      sides user = record { many = refl; single = refl; left = λ x h. refl }
      sides resource = record { many = refl; single = refl; left = λ x h. refl }

  opening-passes : take_sizes W u r o k ≡ accepted (blank u r o k) → Passes T (λ s. s ≡ fresh) (LoadRead 0 0) (opening u r o k)
  opening-passes h =
      passes-both T (λ s. s ≡ fresh) (λ s. s ≡ sized) (LoadRead 0 0) (0x01 ∷ u ∷ r ∷ o ∷ k ∷ []) (0x02 ∷ 0 ∷ 0 ∷ 0x02 ∷ 1 ∷ 0 ∷ []) (sizes_pass h)
      (passes-both T (λ s. s ≡ sized) (λ s. s ≡ declared) (LoadRead 0 0) (0x02 ∷ 0 ∷ 0 ∷ []) (0x02 ∷ 1 ∷ 0 ∷ []) users-declared resources-declared)

  -- ---- the lines

  value-stored : (v w v' w' : ℕ) (q : Which) (who n : ℕ) → v ≤ v' → w ≤ w' → who < by q v' w' → (s : Loading) → LoadRead v w s → LoadRead v' w' (record { phase = telling; policy = with_value s.policy q 0 who n })
  unfolding with_value with_table
  value-stored v w v' w' q who n hv hw next s i = record { begun = refl; sides = stored q next; operable = i.operable; many-roles = i.many-roles; upward = i.upward }
    where
      stored : (q : Which) → who < by q v' w' → (z : Which) → SideRead (by z u r) (by z v' w') ((with_value s.policy q 0 who n).table z)
      stored user l user = side-given who n hv l (i.sides user)
      stored user l resource = side-kept hw (i.sides resource)
      stored resource l user = side-kept hv (i.sides user)
      stored resource l resource = side-given who n hw l (i.sides resource)

  -- a value for somebody who has none
  value_passes : (v w v' w' side who y : ℕ) → side < 2 → v ≤ v' → w ≤ w' → by (side_by side) v w ≤ who → who < by (side_by side) v' w' → who < by (side_by side) u r
      → Passes T (LoadRead v w) (LoadRead v' w') (value_line side who y)
  unfolding role_format obey_role take_value
  value_passes v w v' w' side who y hs hv hw free next small =
      passes-command T (LoadRead v w) (LoadRead v' w') 0x03 (1 ∷ 1 ∷ 1 ∷ 2 ∷ []) (side ∷ 0 ∷ who ∷ y % 8 ∷ []) (side ∷ 0 ∷ who ∷ y % 8 ∷ 0 ∷ []) refl (λ rest. simp add-zero) refl
      (λ s i.
      let p = i.sides (side_by side) in (
        record { phase = telling; policy = with_value s.policy (side_by side) 0 who (y % 8) },
        value-stored v w v' w' (side_by side) who (y % 8) hv hw next s i,
        rw (i.begun, p.single, p.many, p.left who free, lt-ltb side 2 hs, lt-ltb who (by (side_by side) u r) small) refl,
      ))

  assign-passes : (j who y : ℕ) → j < k → who < u → Passes T Valued Valued (assign_line j who y)
  unfolding role_format obey_role take_assignment with_assigned
  assign-passes j who y hj hw =
      passes_if T Valued (eqb (y % 4) 0) (0x05 ∷ j ∷ who ∷ [])
      (passes-command T Valued Valued 0x05 (1 ∷ 1 ∷ []) (j ∷ who ∷ []) (j ∷ who ∷ []) refl (λ rest. simp add-zero) refl
      (λ s i. (
        record { phase = telling; policy = with_assigned s.policy j who },
        record { begun = refl; sides = i.sides; operable = i.operable; many-roles = i.many-roles; upward = i.upward },
        rw (i.begun, i.many-roles, (i.sides user).many, lt-ltb j k hj, lt-ltb who u hw) refl,
      )))

  permit-passes : (j q p y : ℕ) → j < k → q < r → p < o → Passes T Valued Valued (permit_line j q p y)
  unfolding role_format obey_role take_permission with_permitted
  permit-passes j q p y hj hq hp =
      passes_if T Valued (eqb (y % 2) 0) (0x06 ∷ j ∷ q ∷ p ∷ [])
      (passes-command T Valued Valued 0x06 (1 ∷ 1 ∷ 1 ∷ []) (j ∷ q ∷ p ∷ []) (j ∷ q ∷ p ∷ []) refl (λ rest. simp add-zero) refl
      (λ s i. (
        record { phase = telling; policy = with_permitted s.policy j q p },
        record { begun = refl; sides = i.sides; operable = i.operable; many-roles = i.many-roles; upward = i.upward },
        rw (i.begun, i.many-roles, (i.sides resource).many, i.operable, lt-ltb j k hj, lt-ltb q r hq, lt-ltb p o hp) refl,
      )))

  -- a line from a lower to a higher role
  senior-passes : (j h y : ℕ) → j < h → h < k → Passes T Valued Valued (senior_line j h y)
  unfolding role_format obey_role take_line with_line
  senior-passes j h y up hk =
      passes_if T Valued (eqb (y % 16) 0) (0x07 ∷ j ∷ h ∷ [])
      (passes-command T Valued Valued 0x07 (1 ∷ 1 ∷ []) (j ∷ h ∷ []) (j ∷ h ∷ []) refl (λ rest. simp add-zero) refl
      (λ s i. (
        record { phase = telling; policy = with_line s.policy j h },
        record { begun = refl; sides = i.sides; operable = i.operable; many-roles = i.many-roles; upward = λ a b l. rises (s.policy.line a b) a b (i.upward a b) (or_out (eqb a j && eqb b h) (s.policy.line a b) l) },
        rw (i.begun, i.many-roles, lt-ltb j k (omega arith), lt-ltb h k hk) refl,
      )))
    where
      rises : (before : Bool) (a b : ℕ) → (Is before → a < b) → Is (eqb a j && eqb b h) ⊎ Is before → a < b
      rises before a b f (inl l) = let p = eqb-true a j (and_l (eqb a j) (eqb b h) l) in let q = eqb-true b h (and_r (eqb a j) (eqb b h) l) in omega arith
      rises before a b f (inr l) = f l

  -- ---- the runs

  -- all draws, in 02's order
  load_runs : Runs T (LoadRead 0 0) Valued (load_run u r o k)
  unfolding load_run value_run assign_run resource_run permit_run role_run senior_run
  load_runs =
      runs_follow T (LoadRead 0 0) (LoadRead u 0) Valued (value_run 0 u) (follow (value_run 1 r) (follow (times k (role_run u r o)) (times k (senior_run k)))) users
      (runs_follow T (LoadRead u 0) Valued Valued (value_run 1 r) (follow (times k (role_run u r o)) (times k (senior_run k))) resources
      (runs_follow T Valued Valued Valued (times k (role_run u r o)) (times k (senior_run k)) (runs_times T (λ i. Valued) k (role_run u r o) role) (runs_times T (λ i. Valued) k (senior_run k) seniors)))
    where
      users : Runs T (LoadRead 0 0) (LoadRead u 0) (value_run 0 u)
      users = runs_draws T (λ i. LoadRead i 0) u (value_line 0) (λ i y l. value_passes i 0 (suc i) 0 0 i y (omega arith) (omega arith) (omega arith) (omega arith) (omega arith) l)

      resources : Runs T (LoadRead u 0) Valued (value_run 1 r)
      resources = runs_draws T (λ i. LoadRead u i) r (value_line 1) (λ i y l. value_passes u i u (suc i) 1 i y (omega arith) (omega arith) (omega arith) (omega arith) (omega arith) l)

      role : (j : ℕ) → j < k → Runs T Valued Valued (role_run u r o j)
      role j h =
          runs_follow T Valued Valued Valued (assign_run u j) (permit_run r o j) (runs_draws T (λ i. Valued) u (assign_line j) (λ i y l. assign-passes j i y h l))
          (runs_times T (λ i. Valued) r (resource_run o j) (λ q l. runs_draws T (λ i. Valued) o (permit_line j q) (λ p y m. permit-passes j q p y h l m)))

      seniors : (j : ℕ) → j < k → Runs T Valued Valued (senior_run k j)
      seniors j h = runs_draws T (λ i. Valued) (k - suc j) (λ i. senior_line j (suc j + i)) (λ i y l. senior-passes j (suc j + i) y (omega arith) (omega arith))

  -- ---- the file

  file-passes : (seed : ℕ) → take_sizes W u r o k ≡ accepted (blank u r o k) → (t : Loading) × Valued t × Reads T fresh (load_bytes seed u r o k) (accepted t)
  unfolding load_bytes role_format obey_role
  file-passes seed h =
      let p = passes-both T (λ s. s ≡ fresh) (LoadRead 0 0) Valued (opening u r o k) (load_run u r o k seed).0 (opening-passes h) (load_runs seed) fresh refl in
      let t : Loading = record { phase = telling; policy = p.0.policy } in
      let i = p.1 in (
        t,
        record { begun = refl; sides = i.sides; operable = i.operable; many-roles = i.many-roles; upward = i.upward },
        p.2 (0x0F ∷ []) (accepted t) (reads_end T p.0 t 0x0F refl (rw i.begun refl) refl),
      )

  file-read : (seed : ℕ) → take_sizes W u r o k ≡ accepted (blank u r o k) → length (load_bytes seed u r o k) ≤ 65535 → Readable W u r o k (load_bytes seed u r o k)
  unfolding read_roles
  file-read seed h l =
      let p = file-passes seed h in
      let bytes = load_bytes seed u r o k in
      record {
        policy = p.0.policy;
        taken = rw (le-leb (length bytes) 65535 l, p.2 (suc (length bytes)) (omega arith), not_circular p.0.policy p.1.upward) refl;
        users_asked = (p.1.sides user).many;
        resources_asked = (p.1.sides resource).many;
        operations_asked = p.1.operable;
        roles_asked = p.1.many-roles;
      }

-- ---- the call

module _ (W seed u r o k : ℕ) where
  abbrev bytes : List ℕ
  bytes = load_bytes seed u r o k

  -- what an acceptance says
  record Made (room n : ℕ) : Type 0 where
    fits : take_sizes W u r o k ≡ accepted (blank u r o k)
    short : length bytes ≤ 65535
    inside : length bytes ≤ room
    size : n ≡ length bytes

  made : (room n : ℕ) → load_answer W seed u r o k room ≡ accepted n → Made room n
  unfolding load_answer take_sizes
  made room n =
      let n = length bytes in
      carried (Made room) (load_answer W seed u r o k room)
      (unless_carries (Made room) (not (eqb seed 0)) zero_seed (and_then (take_sizes W u r o k) (λ F. unless (leb n 65535) too_long (unless (leb n room) short_output (accepted n)))) λ z.
      then_carries (λ F. take_sizes W u r o k ≡ accepted (blank u r o k)) (Made room) (take_sizes W u r o k) (λ F. unless (leb n 65535) too_long (unless (leb n room) short_output (accepted n)))
      (unless_carries (λ F. take_sizes W u r o k ≡ accepted (blank u r o k)) (leb u 64 && leb r 64 && leb o (8 * W) && leb k 32) beyond (accepted (blank u r o k)) (λ h. rw h refl))
      (λ F f. unless_carries (Made room) (leb n 65535) too_long (unless (leb n room) short_output (accepted n)) λ s.
      unless_carries (Made room) (leb n room) short_output (accepted n) λ l.
      record { fits = f; short = leb-true n 65535 s; inside = leb-true n room l; size = refl }))

-- "Whatever it writes, the reader accepts", with the sizes asked for
pub load_reads : (W seed u r o k room n : ℕ) → load_answer W seed u r o k room ≡ accepted n → Readable W u r o k (load_bytes seed u r o k)
load_reads W seed u r o k room n h = let m = made W seed u r o k room n h in file-read W u r o k seed m.fits m.short

-- after a refusal the output holds its former bytes
pub load_kept : (W seed u r o k : ℕ) (former : List ℕ) (e : Refusal) → load_answer W seed u r o k (length former) ≡ refused e → load_output W seed u r o k former ≡ former
unfolding load_output
load_kept W seed u r o k former e h = rw (h, load_output)

-- else it begins with the file, whose length is the answer, and holds the former bytes behind it
pub load_written : (W seed u r o k : ℕ) (former : List ℕ) (n : ℕ) → load_answer W seed u r o k (length former) ≡ accepted n
    → (n ≡ length (load_bytes seed u r o k)) × (n ≤ length former) × (load_output W seed u r o k former ≡ load_bytes seed u r o k ++ drop (length (load_bytes seed u r o k)) former)
unfolding load_output
load_written W seed u r o k former n h =
    let m = made W seed u r o k (length former) n h in
    (m.size, omega arith, rw (h, load_output, m.size))

-- THE LAW: the reader accepts what stands in the output
pub load_demand : (W seed u r o k : ℕ) (former : List ℕ) (n : ℕ) → load_answer W seed u r o k (length former) ≡ accepted n → Readable W u r o k (take n (load_output W seed u r o k former))
load_demand W seed u r o k former n h =
    let w = load_written W seed u r o k former n h in
    let bytes = load_bytes seed u r o k in
    rw (w.2, w.0, take-append_seam bytes (drop (length bytes) former)) (load_reads W seed u r o k (length former) n h)
