-- The laws of the words of scratch memory: what is packed into the last word of a part, its members by their side, and what a store and a change
-- of heads leave.
-- Assumes nothing.
use Rattle.std.specs.Prelude.{ℕ, ◌+◌, ◌*◌, ◌/◌, ◌%◌, ◌^◌, ◌<◌, length, get_or, set, List, ◌≡◌, refl}
use Rattle.std.proofs.Common.{length-set, get_or-set_same, get_or-set_other, ◌∙◌, ap, mod-lt, arith}
use Rattle.mine_parts.specs.Layout.{users_at, resources_at, operations_at, rest_at, atoms_in, level_in, head_in, rest_of, words_at, stored_part, low_in, head_taken, Kept, members_at, room_in, name_in, name_of, named_at}
use Rattle.mine_theory.specs.Words.Words.{Words}
use Rattle.role_record.specs.Cells.{most_operations}

-- ---- the last word of a part

module _ (atoms level name head : ℕ) (a : atoms < 2 ^ 36) (l : level < 4) (n : name < 2 ^ 11) where
  -- its atoms
  pub atoms_packed : atoms_in (rest_of atoms level name head) ≡ atoms
  atoms_packed = omega arith

  -- its level
  pub level_packed : level_in (rest_of atoms level name head) ≡ level
  level_packed = omega arith

  -- its name
  pub name_packed : name_in (rest_of atoms level name head) ≡ name
  name_packed = omega arith

  -- its head
  pub head_packed : head_in (rest_of atoms level name head) ≡ head
  head_packed = omega arith

-- a name is small, and it is the part's
module _ (role lead : ℕ) (r : role < 32) (l : lead < most_operations) where
  pub name-low : name_of role lead < 2 ^ 11
  name-low = omega arith

  role-back : (n : ℕ) → n ≡ name_of role lead → n % 32 ≡ role
  role-back n e = omega arith

  lead-back : (n : ℕ) → n ≡ name_of role lead → n / 32 % most_operations ≡ lead
  lead-back n e = omega arith

  pub named-so : (t : List ℕ) (i : ℕ) → name_in (rest_at t i) ≡ name_of role lead → named_at t i ≡ record { role = role; lead = lead }
  named-so t i e = rw (role-back (name_in (rest_at t i)) e, lead-back (name_in (rest_at t i)) e) refl

-- parts of one name are the same
pub named-same : (u t : List ℕ) (i : ℕ) → name_in (rest_at u i) ≡ name_in (rest_at t i) → named_at u i ≡ named_at t i
named-same u t i e = ap (λ (n : ℕ). record { role = n % 32; lead = n / 32 % most_operations }) e

-- the atoms of a part are 36
pub atoms-low : {W : Words} (t : List ℕ) (i : ℕ) → W ≡ words_at t i → W.atoms < 2 ^ 36
atoms-low t i e = rw e (mod-lt (rest_at t i) {m = 2 ^ 36} (omega arith))

-- ---- its members by their side

module _ (t : List ℕ) (i side : ℕ) where
  -- the users on side 0
  pub users-first : side ≡ 0 → members_at t i side ≡ users_at t i
  users-first e = let n : 4 * i + side ≡ 4 * i = omega arith in ap (λ (k : ℕ). get_or t k 0) n

  -- the resources on side 1
  pub resources-second : side ≡ 1 → members_at t i side ≡ resources_at t i
  resources-second e = ap (members_at t i) e

-- ---- the four words of a part stored

module _ (t : List ℕ) (i a b c d : ℕ) where
  -- scratch is as long as it was
  pub stored-long : length (stored_part t i a b c d) ≡ length t
  stored-long =
      length-set (set (set (set t (4 * i) a) (4 * i + 1) b) (4 * i + 2) c) (4 * i + 3) d
      ∙ length-set (set (set t (4 * i) a) (4 * i + 1) b) (4 * i + 2) c
      ∙ length-set (set t (4 * i) a) (4 * i + 1) b
      ∙ length-set t (4 * i) a

  -- the words of other parts are as they were
  pub stored_other : (w : ℕ) → (w / 4 ≡ i → ⊥) → get_or (stored_part t i a b c d) w 0 ≡ get_or t w 0
  stored_other w n =
      get_or-set_other (set (set (set t (4 * i) a) (4 * i + 1) b) (4 * i + 2) c) (4 * i + 3) w d 0 (λ e. n (omega arith))
      ∙ get_or-set_other (set (set t (4 * i) a) (4 * i + 1) b) (4 * i + 2) w c 0 (λ e. n (omega arith))
      ∙ get_or-set_other (set t (4 * i) a) (4 * i + 1) w b 0 (λ e. n (omega arith))
      ∙ get_or-set_other t (4 * i) w a 0 (λ e. n (omega arith))

  module _ (l : i < room_in t) where
    long-1 : length (set t (4 * i) a) ≡ length t
    long-1 = length-set t (4 * i) a

    long-2 : length (set (set t (4 * i) a) (4 * i + 1) b) ≡ length t
    long-2 = length-set (set t (4 * i) a) (4 * i + 1) b ∙ long-1

    long-3 : length (set (set (set t (4 * i) a) (4 * i + 1) b) (4 * i + 2) c) ≡ length t
    long-3 = length-set (set (set t (4 * i) a) (4 * i + 1) b) (4 * i + 2) c ∙ long-2

    -- the second store is within scratch
    pub room-2 : 4 * i + 1 < length (set t (4 * i) a)
    room-2 = let n = long-1 in omega arith

    -- the third
    pub room-3 : 4 * i + 2 < length (set (set t (4 * i) a) (4 * i + 1) b)
    room-3 = let n = long-2 in omega arith

    -- and the fourth
    pub room-4 : 4 * i + 3 < length (set (set (set t (4 * i) a) (4 * i + 1) b) (4 * i + 2) c)
    room-4 = let n = long-3 in omega arith

    -- the part has the words stored: users
    pub stored-users : users_at (stored_part t i a b c d) i ≡ a
    stored-users =
        get_or-set_other (set (set (set t (4 * i) a) (4 * i + 1) b) (4 * i + 2) c) (4 * i + 3) (4 * i) d 0 (λ e. omega arith)
        ∙ get_or-set_other (set (set t (4 * i) a) (4 * i + 1) b) (4 * i + 2) (4 * i) c 0 (λ e. omega arith)
        ∙ get_or-set_other (set t (4 * i) a) (4 * i + 1) (4 * i) b 0 (λ e. omega arith)
        ∙ get_or-set_same t (4 * i) a 0 (omega arith)

    -- resources
    pub stored-resources : resources_at (stored_part t i a b c d) i ≡ b
    stored-resources =
        get_or-set_other (set (set (set t (4 * i) a) (4 * i + 1) b) (4 * i + 2) c) (4 * i + 3) (4 * i + 1) d 0 (λ e. omega arith)
        ∙ get_or-set_other (set (set t (4 * i) a) (4 * i + 1) b) (4 * i + 2) (4 * i + 1) c 0 (λ e. omega arith)
        ∙ get_or-set_same (set t (4 * i) a) (4 * i + 1) b 0 room-2

    -- operations
    pub stored-operations : operations_at (stored_part t i a b c d) i ≡ c
    stored-operations =
        get_or-set_other (set (set (set t (4 * i) a) (4 * i + 1) b) (4 * i + 2) c) (4 * i + 3) (4 * i + 2) d 0 (λ e. omega arith)
        ∙ get_or-set_same (set (set t (4 * i) a) (4 * i + 1) b) (4 * i + 2) c 0 room-3

    -- and the rest
    pub stored-rest : rest_at (stored_part t i a b c d) i ≡ d
    stored-rest = get_or-set_same (set (set (set t (4 * i) a) (4 * i + 1) b) (4 * i + 2) c) (4 * i + 3) d 0 room-4

  -- another part keeps its words
  pub stored-kept : (k : ℕ) → (k ≡ i → ⊥) → Kept t (stored_part t i a b c d) k
  stored-kept k n = record {
    users = stored_other (4 * k) (λ e. n (omega arith));
    resources = stored_other (4 * k + 1) (λ e. n (omega arith));
    operations = stored_other (4 * k + 2) (λ e. n (omega arith));
  }

  -- and its last word
  pub stored_kept_rest : (k : ℕ) → (k ≡ i → ⊥) → rest_at (stored_part t i a b c d) k ≡ rest_at t k
  stored_kept_rest k n = stored_other (4 * k + 3) (λ e. n (omega arith))

-- ---- the head that another part names

module _ (t : List ℕ) (k p : ℕ) where
  abbrev word : ℕ
  word = low_in (rest_at t k) + 2 ^ 49 * head_in (rest_at t p)

  -- scratch is as long as it was
  pub taken-long : length (head_taken t k p) ≡ length t
  taken-long = length-set t (4 * k + 3) word

  -- every part keeps its words, apart from its last
  pub taken-kept : (n : ℕ) → Kept t (head_taken t k p) n
  taken-kept n = record {
    users = get_or-set_other t (4 * k + 3) (4 * n) word 0 (λ q. omega arith);
    resources = get_or-set_other t (4 * k + 3) (4 * n + 1) word 0 (λ q. omega arith);
    operations = get_or-set_other t (4 * k + 3) (4 * n + 2) word 0 (λ q. omega arith);
  }

  -- another part keeps that too
  pub taken-other : (n : ℕ) → (n ≡ k → ⊥) → rest_at (head_taken t k p) n ≡ rest_at t n
  taken-other n d = get_or-set_other t (4 * k + 3) (4 * n + 3) word 0 (λ q. d (omega arith))

  module _ (l : k < room_in t) where
    taken_word : rest_at (head_taken t k p) k ≡ word
    taken_word = get_or-set_same t (4 * k + 3) word 0 (omega arith)

    -- the part keeps its atoms, its level and its name
    pub taken-low : low_in (rest_at (head_taken t k p) k) ≡ low_in (rest_at t k)
    taken-low = let e = taken_word in omega arith

    -- and has the head that p names
    pub taken-head : head_in (rest_at (head_taken t k p) k) ≡ head_in (rest_at t p)
    taken-head = let e = taken_word in omega arith
