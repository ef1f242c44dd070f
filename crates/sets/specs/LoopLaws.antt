-- The laws of loops over the numbers below a bound: a test of some or of all of them, and a table with a word for each.
-- A loop counts by `i + 1`, so the laws do.
-- Assumes nothing.
use Rattle.std.specs.Prelude.{ℕ, zero, suc, ◌+◌, ◌^◌, ◌≤◌, ◌<◌, length, get_or, set, Bool, true, false, ◌&&◌, ◌||◌, List, map, ◌≡◌, refl}
use Rattle.std.proofs.Common.{below_more, ext_get_or, get_or-set_same, get_or-set_other, sym, ap, ap₂, ◌∙◌, add-zero, add-suc, suc-add, zero-add, arith}
use Rattle.std.proofs.lemmas.List.{length-map}
use Rattle.std.proofs.Math.Bool.{and_assoc, and-true, or-false, or_assoc}
use Rattle.sets.specs.ListLaws.{all-last, any_last, from-length, up_to-more}
use Rattle.sets.specs.MaskLaws.{mask_unique, mask_same}
use Rattle.sets.specs.Sets.{bit, mask_of, joining, narrowing}
use Rattle.sets.specs.SetLaws.{bit_mask}
use Rattle.sets.specs.Tests.{imp, all, any, from, up_to}
use Rattle.sets.specs.TestLaws.{never, fails, all-out, any_in, up_to_in}

-- one turn more is still within the bound. Said once, since a proof's `omega` reads every fact at hand and long ones cost it time
pub turn-within : (i n : ℕ) → i < n → i + 1 ≤ n
turn-within i n h = omega arith

-- ---- any

pub any-more : (f : ℕ → Bool) (n : ℕ) → any f (up_to (n + 1)) ≡ (any f (up_to n) || f n)
any-more f n = ap (any f) (up_to-more n) ∙ any_last f (up_to n) n

-- a loop that looks for one: it begins with none, goes on past one that fails, is left at one that passes, or ends
pub any_none : (f : ℕ → Bool) → any f (up_to 0) ≡ false
any_none f = refl

pub any-on : (f : ℕ → Bool) (n : ℕ) → any f (up_to n) ≡ false → f n ≡ false → any f (up_to (n + 1)) ≡ false
any-on f n h e = any-more f n ∙ ap₂ ◌||◌ h e

pub any_found : (f : ℕ → Bool) (i n : ℕ) → i < n → f i ≡ true → any f (up_to n) ≡ true
any_found f i n l e = any_in f (up_to_in l) e

pub any-end : (f : ℕ → Bool) (i n : ℕ) → any f (up_to i) ≡ false → i ≡ n → any f (up_to n) ≡ false
any-end f i n h e = ap (λ (x : ℕ). any f (up_to x)) (sym e) ∙ h

-- ---- all

pub all_more : (f : ℕ → Bool) (n : ℕ) → all f (up_to (n + 1)) ≡ (all f (up_to n) && f n)
all_more f n = ap (all f) (up_to-more n) ∙ all-last f (up_to n) n

-- a loop that tests all: it begins with all, goes on past one that passes, is left at one that fails, or ends
pub all_none : (f : ℕ → Bool) → all f (up_to 0) ≡ true
all_none f = refl

pub all-on : (f : ℕ → Bool) (n : ℕ) → all f (up_to n) ≡ true → f n ≡ true → all f (up_to (n + 1)) ≡ true
all-on f n h e = all_more f n ∙ ap₂ ◌&&◌ h e

pub all_found : (f : ℕ → Bool) (i n : ℕ) → i < n → f i ≡ false → all f (up_to n) ≡ false
all_found f i n l e = fails (all f (up_to n)) (λ h. never (all-out f h (up_to_in l)) e)

pub all_end : (f : ℕ → Bool) (i n : ℕ) → all f (up_to i) ≡ true → i ≡ n → all f (up_to n) ≡ true
all_end f i n h e = ap (λ (x : ℕ). all f (up_to x)) (sym e) ∙ h

-- ---- a loop that joins sets to a set (Sets, joining)

pub join-none : (a : ℕ) (f : ℕ → Bool) (g : ℕ → ℕ) → a < 2 ^ 64 → a ≡ mask_of 64 (joining a f g 0)
join-none a f g h = mask_unique 64 a (joining a f g 0) h (λ u l. sym (or-false (bit a u)))

one_more_lem : (a : ℕ) (f : ℕ → Bool) (g : ℕ → ℕ) (n u : ℕ) → joining a f g (n + 1) u ≡ (joining a f g n u || (f n && bit (g n) u))
one_more_lem a f g n u = ap (λ (b : Bool). bit a u || b) (any-more (λ j. f j && bit (g j) u) n) ∙ sym (or_assoc (bit a u) _ (f n && bit (g n) u))

-- a turn that takes one in by a call, `m = union(m, g)`
pub join_in : (a : ℕ) (f : ℕ → Bool) (g : ℕ → ℕ) (n m m' : ℕ) → m ≡ mask_of 64 (joining a f g n) → f n ≡ true → m' ≡ mask_of 64 (λ k. bit m k || bit (g n) k)
    → m' ≡ mask_of 64 (joining a f g (n + 1))
join_in a f g n m m' h e q = q ∙ mask_same 64 (λ k. bit m k || bit (g n) k) (joining a f g (n + 1)) at
  where
    at : (u : ℕ) → u < 64 → (bit m u || bit (g n) u) ≡ joining a f g (n + 1) u
    at u l = ap₂ ◌||◌ (ap (λ (x : ℕ). bit x u) h ∙ bit_mask 64 (joining a f g n) u l) (sym (ap (λ (b : Bool). b && bit (g n) u) e)) ∙ sym (one_more_lem a f g n u)

-- a turn that passes one by
pub join-out : (a : ℕ) (f : ℕ → Bool) (g : ℕ → ℕ) (n m m' : ℕ) → m ≡ mask_of 64 (joining a f g n) → f n ≡ false → m' ≡ m → m' ≡ mask_of 64 (joining a f g (n + 1))
join-out a f g n m m' h e q = q ∙ h ∙ mask_same 64 (joining a f g n) (joining a f g (n + 1)) at
  where
    at : (u : ℕ) → u < 64 → joining a f g n u ≡ joining a f g (n + 1) u
    at u l = sym (one_more_lem a f g n u ∙ ap (λ (b : Bool). joining a f g n u || (b && bit (g n) u)) e ∙ or-false (joining a f g n u))

pub join-end : (a : ℕ) (f : ℕ → Bool) (g : ℕ → ℕ) (i n m : ℕ) → m ≡ mask_of 64 (joining a f g i) → i ≡ n → m ≡ mask_of 64 (joining a f g n)
join-end a f g i n m h e = h ∙ ap (λ (x : ℕ). mask_of 64 (joining a f g x)) e

-- ---- a loop that narrows a set (Sets, narrowing)

pub narrow-none : (a : ℕ) (f : ℕ → Bool) (g : ℕ → ℕ) → a < 2 ^ 64 → a ≡ mask_of 64 (narrowing a f g 0)
narrow-none a f g h = mask_unique 64 a (narrowing a f g 0) h (λ u l. sym (and-true (bit a u)))

narrow_one : (a : ℕ) (f : ℕ → Bool) (g : ℕ → ℕ) (n u : ℕ) → narrowing a f g (n + 1) u ≡ (narrowing a f g n u && imp (f n) (bit (g n) u))
narrow_one a f g n u = ap (λ (b : Bool). bit a u && b) (all_more (λ j. imp (f j) (bit (g j) u)) n) ∙ sym (and_assoc (bit a u) (all (λ j. imp (f j) (bit (g j) u)) (up_to n)) (imp (f n) (bit (g n) u)))

-- a turn that narrows by a call, `m = meet(m, g)`
pub narrow_in : (a : ℕ) (f : ℕ → Bool) (g : ℕ → ℕ) (n m m' : ℕ) → m ≡ mask_of 64 (narrowing a f g n) → f n ≡ true → m' ≡ mask_of 64 (λ k. bit m k && bit (g n) k)
    → m' ≡ mask_of 64 (narrowing a f g (n + 1))
narrow_in a f g n m m' h e q = q ∙ mask_same 64 (λ k. bit m k && bit (g n) k) (narrowing a f g (n + 1)) at
  where
    at : (u : ℕ) → u < 64 → (bit m u && bit (g n) u) ≡ narrowing a f g (n + 1) u
    at u l = ap (λ (b : Bool). b && bit (g n) u) (ap (λ (x : ℕ). bit x u) h ∙ bit_mask 64 (narrowing a f g n) u l) ∙ sym (narrow_one a f g n u ∙ ap (λ (b : Bool). narrowing a f g n u && imp b (bit (g n) u)) e)

-- a turn that passes one by
pub narrow-out : (a : ℕ) (f : ℕ → Bool) (g : ℕ → ℕ) (n m m' : ℕ) → m ≡ mask_of 64 (narrowing a f g n) → f n ≡ false → m' ≡ m → m' ≡ mask_of 64 (narrowing a f g (n + 1))
narrow-out a f g n m m' h e q = q ∙ h ∙ mask_same 64 (narrowing a f g n) (narrowing a f g (n + 1)) at
  where
    at : (u : ℕ) → u < 64 → narrowing a f g n u ≡ narrowing a f g (n + 1) u
    at u l = sym (narrow_one a f g n u ∙ ap (λ (b : Bool). narrowing a f g n u && imp b (bit (g n) u)) e ∙ and-true (narrowing a f g n u))

pub narrow-end : (a : ℕ) (f : ℕ → Bool) (g : ℕ → ℕ) (i n m : ℕ) → m ≡ mask_of 64 (narrowing a f g i) → i ≡ n → m ≡ mask_of 64 (narrowing a f g n)
narrow-end a f g i n m h e = h ∙ ap (λ (x : ℕ). mask_of 64 (narrowing a f g x)) e

-- ---- tables

pub table-long : (n : ℕ) (f : ℕ → ℕ) → length (map f (up_to n)) ≡ n
table-long n f = length-map (up_to n) f ∙ from-length 0 n

pub table_at : (n : ℕ) (f : ℕ → ℕ) (i : ℕ) → i < n → get_or (map f (up_to n)) i 0 ≡ f i
table_at n f i h = go 0 n i h ∙ ap f (zero-add i)
  where
    go : (k n i : ℕ) → i < n → get_or (map f (from k n)) i 0 ≡ f (k + i)
    go k zero i h = absurd (omega arith)
    go k (suc n) zero h = ap f (sym (add-zero k))
    go k (suc n) (suc i) h = go (suc k) n i (omega arith) ∙ ap f (suc-add k i ∙ sym (add-suc k i))

pub table-unique : (n : ℕ) (l : List ℕ) (f : ℕ → ℕ) → length l ≡ n → ((i : ℕ) → i < n → get_or l i 0 ≡ f i) → l ≡ map f (up_to n)
table-unique n l f e h =
    ext_get_or 0 l (map f (up_to n)) (e ∙ sym (table-long n f)) (λ i k. h i (omega arith) ∙ sym (table_at n f i (omega arith)))

pub table_same : (n : ℕ) (f g : ℕ → ℕ) → ((i : ℕ) → i < n → f i ≡ g i) → map f (up_to n) ≡ map g (up_to n)
table_same n f g h = table-unique n (map f (up_to n)) g (table-long n f) (λ i k. table_at n f i k ∙ h i k)

-- a loop that stores a word at each place: the words below i are right, and the store at i makes one more right
pub store_next : (l : List ℕ) (i v : ℕ) (f : ℕ → ℕ) → ((j : ℕ) → j < i → get_or l j 0 ≡ f j) → v ≡ f i → i < length l
    → (j : ℕ) → j < i + 1 → get_or (set l i v) j 0 ≡ f j
store_next l i v f h e k =
    below_more (λ (j : ℕ). get_or (set l i v) j 0 ≡ f j) i (λ j q. get_or-set_other l i j v 0 (λ z. omega arith) ∙ h j q) (get_or-set_same l i v 0 k ∙ e)

-- and leaves the words behind it as they were
pub store_rest : (l l₀ : List ℕ) (i v : ℕ) → ((j : ℕ) → i ≤ j → get_or l j 0 ≡ get_or l₀ j 0) → (j : ℕ) → i + 1 ≤ j → get_or (set l i v) j 0 ≡ get_or l₀ j 0
store_rest l l₀ i v h j q = get_or-set_other l i j v 0 (λ z. omega arith) ∙ h j (omega arith)
