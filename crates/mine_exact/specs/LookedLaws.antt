-- Which users need no look in the comparison of two groups with the covering rule of both: they have the same triples on both sides.
-- Assumes nothing.
use Rattle.std.specs.Prelude.{ℕ, ◌≤◌, ◌<◌, Bool, true, false, cond, ◌&&◌, ◌||◌, List, ◌≡◌, refl}
use Rattle.std.proofs.Math.Bool.{and-false}
use Rattle.std.proofs.lemmas.Bool.{false≢true}
use Rattle.std.proofs.Common.{sym, ap, ap₂, ◌∙◌, arith}
use Rattle.grant_links.specs.Linked.{linked_with, row_of}
use Rattle.sets.specs.Sets.{bit, subset, mask_of}
use Rattle.sets.specs.SetLaws.{bit-none, subset-out, bit_mask}
use Rattle.sets.specs.Tests.{Is}
use Rattle.sets.specs.TestLaws.{never, test}
use Rattle.mine_theory.specs.Words.Words.{Words, joined}
use Rattle.mine_exact.specs.ExactLaws.{Keeps, user_exactly}
use Rattle.mine_corners.specs.Pairing.{table_spans, covering, OthersSame, may_join, changed_users}

-- who is in neither of two sets
neither : (a b : Bool) → (a || b) ≡ false → (a ≡ false) × (b ≡ false)
neither true b k = absurd (false≢true (sym k))
neither false b k = (refl, k)

union-none : (a b k : ℕ) → k < 64 → bit (mask_of 64 (λ k. bit a k || bit b k)) k ≡ false → (bit a k ≡ false) × (bit b k ≡ false)
union-none a b k l h = neither (bit a k) (bit b k) (sym (bit_mask 64 (λ k. bit a k || bit b k) k l) ∙ h)

-- ---- a user of none of the sets

-- who is not a user of a group has no triple of it
no_triples : (links : List ℕ) (W : Words) (u r o : ℕ) → bit W.users u ≡ false → table_spans links W u r o ≡ false
unfolding table_spans row_of
no_triples links W u r o e =
    ap (λ (b : Bool). bit W.ops o && bit (cond b (linked_with links W.atoms u W.resources) 0) r) e ∙ ap (λ (b : Bool). bit W.ops o && b) (bit-none r) ∙ and-false (bit W.ops o)

pub strangers_same : (links : List ℕ) (W X : Words) (who what us v m : ℕ) → us ≤ 64 → v ≡ mask_of 64 (λ k. bit W.users k || bit X.users k) → m ≡ mask_of 64 (λ k. bit who k || bit v k)
    → OthersSame links W X m who what us
unfolding OthersSame covering
strangers_same links W X who what us v m mu e q u lu h r o _ _ =
    let p = union-none who v u (omega arith) (ap (λ (x : ℕ). bit x u) (sym q) ∙ h) in
    let t = union-none W.users X.users u (omega arith) (ap (λ (x : ℕ). bit x u) (sym e) ∙ p.1) in
    no_triples links (covering W X who what) u r o p.0 ∙ sym (ap₂ ◌||◌ (no_triples links W u r o t.0) (no_triples links X u r o t.1))

-- ---- a user whose atoms all are in the atoms of both groups

keeps_all : (b : Bool) (m n : ℕ) → Is (subset m n) → Keeps b m n
keeps_all b m n h _ i k = subset-out m n h i k

keeps_none : (b : Bool) (m n : ℕ) → b ≡ false → Keeps b m n
keeps_none b m n e h = never h e

changed_keeps : (W X : Words) (u : ℕ) → u < 64 → bit (changed_users W X) u ≡ false → Keeps (bit W.users u) W.atoms X.atoms × Keeps (bit X.users u) X.atoms W.atoms
unfolding changed_users
changed_keeps W X u l h = test (subset W.atoms X.atoms)
    (λ p. (keeps_all (bit W.users u) W.atoms X.atoms p, keeps_none (bit X.users u) X.atoms W.atoms (rw p at h)))
    (λ p. test (subset X.atoms W.atoms)
    (λ q. (keeps_none (bit W.users u) W.atoms X.atoms (rw (p, q) at h), keeps_all (bit X.users u) X.atoms W.atoms q))
    (λ q. let t = union-none W.users X.users u l (rw (p, q) at h) in
    (keeps_none (bit W.users u) W.atoms X.atoms t.0, keeps_none (bit X.users u) X.atoms W.atoms t.1)))

-- THE LAW: of two groups that may become one only those users need a look
pub unchanged_same : (links : List ℕ) (W X : Words) (us m v n : ℕ) → Is (may_join links W X) → us ≤ 64 → m ≡ changed_users W X → v ≡ mask_of 64 (λ k. bit W.users k || bit X.users k)
    → n ≡ mask_of 64 (λ k. bit W.resources k || bit X.resources k) → OthersSame links W X m v n us
unfolding OthersSame joined
unchanged_same links W X us m v n j mu e p q u lu h r o lr lo =
    let k = changed_keeps W X u (omega arith) (ap (λ (x : ℕ). bit x u) (sym e) ∙ h) in
    rw (p, q) (user_exactly links W X j u r o (omega arith) lr lo k.0 k.1)
