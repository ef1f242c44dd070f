-- Tables of relations: what turns come to that spread sets over words.
-- Assumes nothing.
use Rattle.std.specs.Prelude.{ℕ, zero, suc, ◌/◌, ◌%◌, ◌<◌, eqb, get_or, Bool, true, false, cond, ◌&&◌, ◌||◌, List, [], ◌∷◌, ◌≡◌, refl}
use Rattle.std.proofs.Common.{eqb-true, eq-eqb, ne_eqb, sym, ap, ap₂, ◌∙◌, add-one}
use Rattle.std.proofs.lemmas.Bool.{eqb-false}
use Rattle.std.proofs.Math.Bool.{or-false, or_assoc, and-false}
use Rattle.grant_grids.specs.Updates.{updated}
use Rattle.role_record.specs.Record.{table_of}
use Rattle.role_record.specs.RecordLaws.{table_get, table_ext}
use Rattle.sets.specs.LoopLaws.{any-more}
use Rattle.sets.specs.MaskLaws.{mask_same, mask_none}
use Rattle.sets.specs.Sets.{bit, mask_of}
use Rattle.sets.specs.SetLaws.{bit_mask}
use Rattle.sets.specs.Tests.{any, up_to}
use Rattle.sets.specs.TestLaws.{never, test, same, any_in, any_out, any_ext, up_to_in}
use Rattle.grant_joins.specs.Tables.{meet_of, turns, spread_of}

-- ---- tables whose word i is the set of those who stand to i in a relation

abbrev pub rel_table : ℕ → (ℕ → ℕ → Bool) → List ℕ
rel_table n f = table_of n (λ i. mask_of 64 (f i))

rel_ext : (n : ℕ) (f g : ℕ → ℕ → Bool) → ((i x : ℕ) → i < n → x < 64 → f i x ≡ g i x) → rel_table n f ≡ rel_table n g
rel_ext n f g h = table_ext n (λ i. mask_of 64 (f i)) (λ i. mask_of 64 (g i)) (λ i l. mask_same 64 (f i) (g i) (λ x k. h i x l k))

rel_none : (n : ℕ) → table_of n (λ i. 0) ≡ rel_table n (λ i x. false)
rel_none n = table_ext n (λ i. 0) (λ i. mask_of 64 (λ x. false)) (λ i l. sym (mask_none 64 (λ x. false) (λ x k. refl)))

-- a set spread over some words
rel_spread : (n block members word : ℕ) (f : ℕ → ℕ → Bool) → spread_of n block members word (rel_table n f) ≡ rel_table n (λ i x. f i x || (eqb (i / 64) block && (bit members (i % 64) && bit word x)))
unfolding spread_of updated
rel_spread n block members word f =
    table_ext n (λ i. cond (eqb (i / 64) block && bit members (i % 64)) (mask_of 64 (λ x. bit (get_or (rel_table n f) i 0) x || bit word x)) (get_or (rel_table n f) i 0))
    (λ i. mask_of 64 (λ x. f i x || (eqb (i / 64) block && (bit members (i % 64) && bit word x))))
    (λ i l. ap (λ (o : ℕ). cond (eqb (i / 64) block && bit members (i % 64)) (mask_of 64 (λ x. bit o x || bit word x)) o) (table_get n (λ i. mask_of 64 (f i)) i l) ∙ go i (eqb (i / 64) block) (bit members (i % 64)))
  where
    stays : (i : ℕ) → mask_of 64 (f i) ≡ mask_of 64 (λ x. f i x || false)
    stays i = mask_same 64 (f i) (λ x. f i x || false) (λ x l. sym (or-false (f i x)))

    go : (i : ℕ) (a b : Bool) → cond (a && b) (mask_of 64 (λ x. bit (mask_of 64 (f i)) x || bit word x)) (mask_of 64 (f i)) ≡ mask_of 64 (λ x. f i x || (a && (b && bit word x)))
    go i true true = mask_same 64 (λ x. bit (mask_of 64 (f i)) x || bit word x) (λ x. f i x || bit word x) (λ x l. ap (λ (c : Bool). c || bit word x) (bit_mask 64 (f i) x l))
    go i true false = stays i
    go i false b = stays i

-- turns each of which joins a relation
rel_turns : (n : ℕ) (step : ℕ → List ℕ → List ℕ) (r : ℕ → ℕ → ℕ → Bool) → ((k : ℕ) (f : ℕ → ℕ → Bool) → step k (rel_table n f) ≡ rel_table n (λ i x. f i x || r k i x)) → (m : ℕ) (f : ℕ → ℕ → Bool)
    → turns step m (rel_table n f) ≡ rel_table n (λ i x. f i x || any (λ k. r k i x) (up_to m))
rel_turns n step r h zero f = rel_ext n f (λ i x. f i x || false) (λ i x l k. sym (or-false (f i x)))
rel_turns n step r h (suc m) f =
    ap (step m) (rel_turns n step r h m f) ∙ h m (λ i x. f i x || any (λ k. r k i x) (up_to m))
    ∙ rel_ext n (λ i x. (f i x || any (λ k. r k i x) (up_to m)) || r m i x) (λ i x. f i x || any (λ k. r k i x) (up_to (suc m)))
    (λ i x l q. or_assoc (f i x) (any (λ k. r k i x) (up_to m)) (r m i x)
    ∙ ap (λ (b : Bool). f i x || b) (sym (any-more (λ k. r k i x) m) ∙ ap (λ (k : ℕ). any (λ j. r j i x) (up_to k)) (add-one m)))

-- ---- tests of some numbers

-- one that no other than j passes
any-one : (f : ℕ → Bool) (j n : ℕ) → j < n → ((k : ℕ) → (k ≡ j → ⊥) → f k ≡ false) → any f (up_to n) ≡ f j
any-one f j n l h = same (any f (up_to n)) (f j)
    (λ p. let t = any_out f (up_to n) p in test (eqb t.0 j) (λ e. ap f (sym (eqb-true t.0 j e)) ∙ t.2) (λ e. never t.2 (h t.0 (eqb-false t.0 j e))))
    (λ p. any_in f (up_to_in l) p)

any_false : (l : List ℕ) → any (λ k. false) l ≡ false
any_false [] = refl
any_false (k ∷ l) = any_false l

-- what does not depend on the number is tested once
any-both : (a b : Bool) (h u : ℕ → Bool) (l : List ℕ) → any (λ k. (a && h k) && (b && u k)) l ≡ (a && (b && any (λ k. h k && u k) l))
any-both false b h u l = any_false l
any-both true true h u l = refl
any-both true false h u l = any_ext (λ k. h k && false) (λ k. false) l (λ k m. and-false (h k)) ∙ any_false l

any-block : (b : Bool) (f : ℕ → Bool) (l : List ℕ) → any (λ k. b && f k) l ≡ (b && any f l)
any-block true f l = refl
any-block false f l = any_false l

-- the relations of one block, and of the block of each word
rel_blocks : (n block : ℕ) (f : ℕ → ℕ → Bool) (r : ℕ → ℕ → ℕ → Bool) (m : ℕ)
    → rel_table n (λ i x. f i x || any (λ k. eqb (i / 64) block && r k (i % 64) x) (up_to m)) ≡ rel_table n (λ i x. f i x || (eqb (i / 64) block && any (λ k. r k (i % 64) x) (up_to m)))
rel_blocks n block f r m =
    rel_ext n (λ i x. f i x || any (λ k. eqb (i / 64) block && r k (i % 64) x) (up_to m)) (λ i x. f i x || (eqb (i / 64) block && any (λ k. r k (i % 64) x) (up_to m)))
    (λ i x l q. ap (λ (b : Bool). f i x || b) (any-block (eqb (i / 64) block) (λ k. r k (i % 64) x) (up_to m)))

rel_picked : (n blocks : ℕ) (r : ℕ → ℕ → ℕ → Bool) → ((i : ℕ) → i < n → i / 64 < blocks) → rel_table n (λ i x. false || any (λ b. eqb (i / 64) b && r b (i % 64) x) (up_to blocks)) ≡ rel_table n (λ i x. r (i / 64) (i % 64) x)
rel_picked n blocks r h =
    rel_ext n (λ i x. any (λ b. eqb (i / 64) b && r b (i % 64) x) (up_to blocks)) (λ i x. r (i / 64) (i % 64) x)
    (λ i x l q. any-one (λ b. eqb (i / 64) b && r b (i % 64) x) (i / 64) blocks (h i l) (λ b d. ap (λ (c : Bool). c && r b (i % 64) x) (ne_eqb (i / 64) b (λ e. d (sym e))))
    ∙ ap (λ (c : Bool). c && r (i / 64) (i % 64) x) (eq-eqb (i / 64) (i / 64) refl))

-- ---- what the turns come to

-- turns of a block that spread, for each number k of the block, a word over members
pub turned-block : (n block : ℕ) (step : ℕ → List ℕ → List ℕ) (members word : ℕ → ℕ) → ((k : ℕ) (t : List ℕ) → step k t ≡ spread_of n block (members k) (word k) t) → (m : ℕ) (f : ℕ → ℕ → Bool)
    → turns step m (rel_table n f) ≡ rel_table n (λ i x. f i x || (eqb (i / 64) block && any (λ k. bit (members k) (i % 64) && bit (word k) x) (up_to m)))
turned-block n block step members word h m f =
    rel_turns n step (λ k i x. eqb (i / 64) block && (bit (members k) (i % 64) && bit (word k) x)) (λ k f. h k (rel_table n f) ∙ rel_spread n block (members k) (word k) f) m f
    ∙ rel_blocks n block f (λ k y x. bit (members k) y && bit (word k) x) m

-- turns of all blocks, of a table of no word
pub turned-all : (n blocks : ℕ) (step : ℕ → List ℕ → List ℕ) (r : ℕ → ℕ → ℕ → Bool) → ((b : ℕ) (f : ℕ → ℕ → Bool) → step b (rel_table n f) ≡ rel_table n (λ i x. f i x || (eqb (i / 64) b && r b (i % 64) x)))
    → ((i : ℕ) → i < n → i / 64 < blocks) → turns step blocks (table_of n (λ i. 0)) ≡ rel_table n (λ i x. r (i / 64) (i % 64) x)
turned-all n blocks step r h room =
    ap (turns step blocks) (rel_none n) ∙ rel_turns n step (λ b i x. eqb (i / 64) b && r b (i % 64) x) h blocks (λ i x. false) ∙ rel_picked n blocks r room

-- ---- sets that are met

pub bit_meet : (a b x : ℕ) → x < 64 → bit (meet_of a b) x ≡ (bit a x && bit b x)
bit_meet a b x l = bit_mask 64 (λ k. bit a k && bit b k) x l

-- members and words that are met with a set
pub any_met : (a b : ℕ) (h u : ℕ → ℕ) (y x : ℕ) → y < 64 → x < 64 → (l : List ℕ)
    → any (λ k. bit (meet_of a (h k)) y && bit (meet_of b (u k)) x) l ≡ (bit a y && (bit b x && any (λ k. bit (h k) y && bit (u k) x) l))
any_met a b h u y x hy hx l =
    any_ext (λ k. bit (meet_of a (h k)) y && bit (meet_of b (u k)) x) (λ k. (bit a y && bit (h k) y) && (bit b x && bit (u k) x)) l
    (λ k m. ap₂ ◌&&◌ (bit_meet a (h k) y hy) (bit_meet b (u k) x hx))
    ∙ any-both (bit a y) (bit b x) (λ k. bit (h k) y) (λ k. bit (u k) x) l

-- words that are met with a set
pub any-there : (b : ℕ) (h u : ℕ → ℕ) (y x : ℕ) → x < 64 → (l : List ℕ) → any (λ k. bit (h k) y && bit (meet_of b (u k)) x) l ≡ (bit b x && any (λ k. bit (h k) y && bit (u k) x) l)
any-there b h u y x hx l =
    any_ext (λ k. bit (h k) y && bit (meet_of b (u k)) x) (λ k. bit (h k) y && (bit b x && bit (u k) x)) l (λ k m. ap (λ (c : Bool). bit (h k) y && c) (bit_meet b (u k) x hx))
    ∙ any-both true (bit b x) (λ k. bit (h k) y) (λ k. bit (u k) x) l
