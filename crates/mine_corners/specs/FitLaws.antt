-- What the comparison of two groups with the covering rule of both says of a policy: whether they fit a level together.
-- Assumes nothing.
use Prim.Native.Nat.{ℕ, ◌+◌, ◌*◌, ◌/◌, ◌%◌, ◌^◌, ◌≤◌, ◌<◌}
use Rattle.std.proofs.Common.{ltb-true, sym, ◌∙◌}
use Rattle.std.specs.Prelude.{ltb, get_or, Bool, ◌&&◌, ◌≡◌, refl}
use Rattle.std.proofs.Math.Bool.{◌||◌, or_self, and_self}
use mathlib.Core.List.{List}
use Rattle.std.proofs.Math.Path.{ap, ap₂}
use native.Mathlib.Omega.{arith}
use Rattle.grant_links.specs.Linked.{linked_with, row_of}
use Rattle.files.specs.Calls.{first}
use Rattle.grant_grids.specs.Grid.{differ_at, difference_of, is_same}
use Rattle.grant_grids.proofs.GridLaws.{triples-same, same_means}
use Rattle.grant_grids.proofs.LinkLaws.{link_means}
use Rattle.grant_grids.specs.Links.{links_of}
use Rattle.role_record.specs.Record.{Sized}
use Rattle.mine_corners.specs.Pairing.{table_spans, covering, covered, grouped, first_beyond}
use Rattle.policy.specs.Covering.{op_in, stands_in}
use Rattle.policy.specs.Policy.{Policy, side_of, setting_of}
use Rattle.policy.specs.Rules.{Setting, Which, Block, attrs_of, own_at, Triple, user, resource}
use Rattle.sets.specs.ListLaws.{all_ext}
use Rattle.sets.specs.MaskLaws.{bit-mask_of, mask_lt, mask_same, mask_bits, mask_wide}
use Rattle.sets.specs.SetLaws.{bit-none, bit_mask}
use Rattle.sets.specs.Sets.{narrowing, bit, mask_of}
use Rattle.sets.specs.TestLaws.{and_l, and_r, test}
use Rattle.sets.specs.Tests.{Is, imp, all, up_to}
use Rattle.mine_theory.proofs.Words.WordLaws.{same_tests, words_same}
use Rattle.mine_theory.specs.Words.Words.{Words, members_of, Roomy, passes, joined, together, atom_in, words_of, atoms_hold, cover_grants, spans, pair_fits, own_fits}

-- every atom of a word is over declared attributes
abbrev pub Declared : Setting → ℕ → Type 0
Declared P m = (i : ℕ) → Is (bit m i) → (i < 36) × (i / 6 < (P.side user).attrs) × (i % 6 < (P.side resource).attrs)

-- who passes the conjuncts of the covering rule of two groups together at a level
abbrev pub passers_at : Setting → Which → ℕ → Words → ℕ
passers_at P w l W = mask_of (P.side w).count (passes (P.side w) (attrs_of (P.side w) (own_at w l)) (bit (members_of W w)))

-- the atoms of two groups together are declared if those of one are
pub declared-joined : (P : Setting) (W X : Words) → Declared P W.atoms → Declared P (joined W X).atoms
unfolding joined
declared-joined P W X d i h = d i (and_l (bit W.atoms i) _ (and_r (ltb i 64) _ (sym (bit-mask_of 64 (λ k. bit W.atoms k && bit X.atoms k) i) ∙ h)))

-- a row, resource by resource
pub row-bit : (links : List ℕ) (m us rs u r : ℕ) → r < 64 → bit (row_of links m us rs u) r ≡ (bit us u && (bit rs r && all (λ i. imp (bit m i) (bit (get_or links (64 * i + u) 0) r)) (up_to 36)))
unfolding row_of linked_with
row-bit links m us rs u r l = test (bit us u)
    (λ e. rw e (bit_mask 64 (narrowing rs (bit m) (λ i. get_or links (64 * i + u) 0) 36) r l))
    (λ e. rw e (bit-none r))

module _ (F : Policy) (Z : Sized F) where
  -- the table of links says which atoms of a word hold
  pub atoms-linked : (m u r : ℕ) → Declared (setting_of F) m → u < (F.table user).count → r < (F.table resource).count
      → all (λ i. imp (bit m i) (bit (get_or (links_of F) (64 * i + u) 0) r)) (up_to 36) ≡ atoms_hold (setting_of F) m u r
  unfolding atoms_hold setting_of side_of
  atoms-linked m u r d lu lr = all_ext _ _ (up_to 36) λ i q. test (bit m i)
      (λ e. let k = d i e in
      let n : 64 * (6 * (i / 6) + i % 6) + u ≡ 64 * i + u = omega arith in
      ap (imp (bit m i)) (ap (λ (x : ℕ). bit (get_or (links_of F) x 0) r) (sym n) ∙ link_means F Z (i / 6) (i % 6) u r k.1 k.2 lu lr))
      (λ e. rw e refl)

  -- what the table of links has of a group is what its words span
  pub table-spans : (W : Words) → Declared (setting_of F) W.atoms → (u r o : ℕ) → Triple (setting_of F) u r o → table_spans (links_of F) W u r o ≡ spans (setting_of F) W u r o
  unfolding table_spans spans setting_of side_of
  table-spans W d u r o t =
      let lr = t.resource in
      let m = Z.many resource in
      ap (λ (x : Bool). bit W.ops o && x)
      (row-bit (links_of F) W.atoms W.users W.resources u r (omega arith)
      ∙ ap (λ (x : Bool). bit W.users u && (bit W.resources r && x)) (atoms-linked W.atoms u r d t.user t.resource))

  module _ (W X : Words) (d : Declared (setting_of F) W.atoms) (e : Declared (setting_of F) X.atoms) (l : ℕ) where
    abbrev cover_table : Block
    cover_table = covered (links_of F) W X (passers_at (setting_of F) user l (joined W X)) (passers_at (setting_of F) resource l (joined W X))

    -- what it has of the covering rule of both is what that grants
    cover-spans : (u r o : ℕ) → Triple (setting_of F) u r o → cover_table u r o ≡ cover_grants (setting_of F) (joined W X) l u r o
    unfolding cover_grants covering spans
    cover-spans u r o t =
        table-spans (covering W X (passers_at (setting_of F) user l (joined W X)) (passers_at (setting_of F) resource l (joined W X))) (declared-joined (setting_of F) W X d) u r o t
        ∙ ap₂ (λ (x y : Bool). bit (joined W X).ops o && (x && (y && atoms_hold (setting_of F) (joined W X).atoms u r)))
        (bit_mask ((setting_of F).side user).count (passes ((setting_of F).side user) (attrs_of ((setting_of F).side user) (own_at user l)) (bit (joined W X).users)) u t.user)
        (bit_mask ((setting_of F).side resource).count (passes ((setting_of F).side resource) (attrs_of ((setting_of F).side resource) (own_at resource l)) (bit (joined W X).resources)) r t.resource)

    -- THE LAW: no triple differs where the two fit the level together
    pub beyond_means : is_same (difference_of (first_beyond (links_of F) W X (passers_at (setting_of F) user l (joined W X)) (passers_at (setting_of F) resource l (joined W X)) (F.table user).count (F.table resource).count F.operations))
        ≡ pair_fits (setting_of F) W X l
    unfolding first_beyond differ_at setting_of side_of pair_fits
    beyond_means =
        ap (λ (ts : List (ℕ × ℕ × ℕ)). is_same (difference_of (first (differ_at cover_table (grouped (links_of F) W X)) ts))) (sym (triples-same (setting_of F)))
        ∙ same_means (setting_of F) cover_table (grouped (links_of F) W X)
        ∙ same_tests (setting_of F) cover_table (grouped (links_of F) W X) (cover_grants (setting_of F) (joined W X) l) (together (spans (setting_of F) W) (spans (setting_of F) X))
        cover-spans (λ u r o t. ap₂ ◌||◌ (table-spans W d u r o t) (table-spans X e u r o t))

-- ---- one group

-- words of at most 64 members
pub record Bounded (W : Words) : Type 0 where
  pub users : W.users < 2 ^ 64
  pub resources : W.resources < 2 ^ 64
  pub ops : W.ops < 2 ^ 64
  pub atoms : W.atoms < 2 ^ 64

mask_self : (m : ℕ) (f : Bool → Bool) → ((b : Bool) → f b ≡ b) → m < 2 ^ 64 → mask_of 64 (λ k. f (bit m k)) ≡ m
mask_self m f e l = mask_same 64 (λ k. f (bit m k)) (bit m) (λ k _. e (bit m k)) ∙ sym (mask_bits 64 m l)

-- a group joined to itself
pub joined-self : (W : Words) → Bounded W → joined W W ≡ W
unfolding joined
joined-self W b =
    words_same (mask_self W.users (λ x. x || x) or_self b.users) (mask_self W.resources (λ x. x || x) or_self b.resources) (mask_self W.ops (λ x. x || x) or_self b.ops)
    (mask_self W.atoms (λ x. x && x) and_self b.atoms)

-- a group fits a level where it does so together with itself
pub own-fits : (P : Setting) (W : Words) → Bounded W → (l : ℕ) → own_fits P W l ≡ pair_fits P W W l
unfolding pair_fits own_fits
own-fits P W b l =
    same_tests P (cover_grants P W l) (spans P W) (cover_grants P (joined W W) l) (together (spans P W) (spans P W))
    (λ u r o t. sym (ap (λ (X : Words). cover_grants P X l u r o) (joined-self W b))) (λ u r o t. sym (or_self (spans P W u r o)))

-- ---- the words of a set of triples

-- they have at most 64 members
pub words-bounded : (P : Setting) → Roomy P → (B : Block) → Bounded (words_of P B)
unfolding words_of
words-bounded P Z B = record {
  users = narrow (P.side user).count (stands_in P B user) (Z.many user);
  resources = narrow (P.side resource).count (stands_in P B resource) (Z.many resource);
  ops = narrow P.slots (op_in P B) Z.operable;
  atoms = narrow 36 (λ i. atom_in P B (i / 6) (i % 6)) (omega arith);
}
  where
    narrow : (n : ℕ) (f : ℕ → Bool) → n ≤ 64 → mask_of n f < 2 ^ 64
    narrow n f l = rw (mask_wide n 64 f l) (mask_lt 64 (λ i. ltb i n && f i))

-- their atoms are over declared attributes
pub words-declared : (P : Setting) (B : Block) → Declared P (words_of P B).atoms
unfolding words_of atom_in
words-declared P B i h =
    let k = sym (bit-mask_of 36 (λ i. atom_in P B (i / 6) (i % 6)) i) ∙ h in
    let d = and_r (ltb i 36) _ k in
    (ltb-true i 36 (and_l (ltb i 36) _ k), ltb-true _ _ (and_l (ltb (i / 6) (P.side user).attrs) _ d), ltb-true _ _ (and_l (ltb (i % 6) (P.side resource).attrs) _ (and_r (ltb (i / 6) (P.side user).attrs) _ d)))
