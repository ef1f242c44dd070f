-- After the filling every part stands alone in scratch memory.
-- Assumes nothing.
use Rattle.std.specs.Prelude.{ℕ, ◌^◌, ◌<◌, eqb, length, Bool, List, [], ◌∷◌, ◌≡◌}
use borrow.Author.Tests.{eqb-true, eq-eqb}
use Rattle.std.proofs.Math.Bool.{cond, or-false}
use Rattle.std.proofs.Math.Path.{sym, ap}
use Rattle.std.proofs.Common.{ap₂, ◌∙◌, subst, arith}
use Rattle.grant_grids.specs.Links.{links_of}
use Rattle.grant_parts.specs.PartTableLaws.{part-role, part-lead}
use Rattle.mine_fill.specs.Fill.{parts_before, part_words, level_for, FilledWith, FilledBy}
use Rattle.mine_groups.specs.PartBlockLaws.{block-fits, block-some, one_block}
use Rattle.mine_groups.specs.Scratch.{blocks_of}
use Rattle.mine_merge.proofs.FilledLaws.{count-tabled, part-tabled}
use Rattle.mine_merge.proofs.PairLaws.{level-most}
use Rattle.mine_merge.specs.Steps.{Tables}
use Rattle.mine_merge.specs.Traced.{Traced, alone}
use Rattle.mine_pairs.specs.PairLevelLaws.{group_means}
use Rattle.mine_pairs.specs.PairLevels.{group_level}
use Rattle.mine_parts.specs.Layout.{users_at, resources_at, operations_at, rest_at, atoms_in, level_in, name_in, head_in, rest_of, name_of, words_at}
use Rattle.mine_parts.specs.LayoutLaws.{atoms_packed, level_packed, name_packed, head_packed, name-low, named-so}
use Rattle.mine_theory.proofs.Words.WordLaws.{words_same}
use Rattle.mine_theory.specs.Words.Words.{Words, words_of}
use Rattle.mine_words.specs.PartWordLaws.{table-words}
use Rattle.policy.proofs.ClassLaws.{part_in}
use Rattle.policy.specs.Covering.{fits, level_of}
use Rattle.policy.specs.Merging.{union}
use Rattle.policy.specs.Mined.{part_count, part_at, part_block}
use Rattle.policy.specs.Policy.{Policy, setting_of, roles_in}
use Rattle.policy.specs.Roles.{Part, parts}
use Rattle.policy.specs.Rules.{Block, NotEmpty}
use Rattle.role_record.specs.Record.{Sized, record_of}
use Rattle.sets.specs.MaskLaws.{mask_lt}
use Rattle.sets.specs.Tests.{Is, ◌is_in◌, elem}

-- the words of a part
part-words : (F : Policy) → Sized F → (k : ℕ) → k < part_count (setting_of F) (roles_in F)
    → part_words (links_of F) (record_of F).attributes (record_of F).holders (record_of F).permissions (record_of F).operations (part_at (setting_of F) (roles_in F) k) ≡ words_of (setting_of F) (union (setting_of F) (blocks_of F) (k ∷ []))
unfolding part_words part_block
part-words F Z k h = table-words F Z (part_at (setting_of F) (roles_in F) k) (part_in (setting_of F) (roles_in F) k h) ∙ sym (ap (words_of (setting_of F)) (one_block F k))

module _ (F : Policy) (Z : Sized F) {links matches known attributes holders permissions : List ℕ} {users resources operations roles : ℕ} (T : Tables F links matches known attributes holders permissions users resources operations roles) (n : ℕ) (t : List ℕ) (e : n ≡ length (parts_before holders permissions operations 32)) (f : FilledBy links matches known attributes holders permissions users resources operations t (parts_before holders permissions operations 32)) where
  abbrev block : ℕ → Block
  block k = union (setting_of F) (blocks_of F) (k ∷ [])

  abbrev part : ℕ → Part
  part = part_at (setting_of F) (roles_in F)

  counted : n ≡ part_count (setting_of F) (roles_in F)
  counted = e ∙ rw (T.of-holders, T.of-permissions, T.of-operations) (count-tabled F Z)

  below : (k : ℕ) → k < n → k < part_count (setting_of F) (roles_in F)
  below k h = let c = counted in omega arith

  listed : (k : ℕ) → k < n → part k is_in parts (setting_of F) (roles_in F)
  listed k h = part_in (setting_of F) (roles_in F) k (below k h)

  filled : (k : ℕ) → k < n → FilledWith links matches known attributes holders permissions users resources operations (part k) k (users_at t k) (resources_at t k) (operations_at t k) (rest_at t k)
  filled k h =
      subst (λ (p : Part). FilledWith links matches known attributes holders permissions users resources operations p k (users_at t k) (resources_at t k) (operations_at t k) (rest_at t k))
      (rw (T.of-holders, T.of-permissions, T.of-operations) (part-tabled F Z k)) (f k (omega arith))

  here-words : (k : ℕ) → k < n → part_words links attributes holders permissions operations (part k) ≡ words_of (setting_of F) (block k)
  here-words k h = rw (T.of-links, T.of-attributes, T.of-holders, T.of-permissions, T.of-operations) (part-words F Z k (below k h))

  here-fits : (k : ℕ) → k < n → Is (fits (setting_of F) (block k) 3)
  here-fits k h = rw (one_block F k) (block-fits F k (below k h))

  here-some : (k : ℕ) → k < n → NotEmpty (setting_of F) (block k)
  here-some k h = rw (one_block F k) (block-some F k (below k h))

  here-level : (k : ℕ) → k < n → level_for links matches known attributes holders permissions users resources operations (part k) ≡ level_of (setting_of F) (block k)
  here-level k h =
      ap (group_level links matches known attributes users resources operations) (here-words k h)
      ∙ rw (T.of-links, T.of_matches, T.of-known, T.of-attributes, T.of-users, T.of-resources, T.of-operations) (group_means F Z (block k) (here-fits k h))

  abbrev name : ℕ → ℕ
  name k = name_of (part k).role (part k).lead

  -- the last word of a part
  here-rest : (k : ℕ) → k < n → rest_at t k ≡ rest_of (words_of (setting_of F) (block k)).atoms (level_of (setting_of F) (block k)) (name k) k
  here-rest k h = (filled k h).rest_in ∙ ap₂ (λ (a l : ℕ). rest_of a l (name k) k) (ap (λ (W : Words). W.atoms) (here-words k h)) (here-level k h)

  few : (k : ℕ) → (words_of (setting_of F) (block k)).atoms < 2 ^ 36
  unfolding words_of
  few k = mask_lt 36 _

  low : (k : ℕ) → level_of (setting_of F) (block k) < 4
  low k = let m = level-most (setting_of F) (block k) in omega arith

  short : (k : ℕ) → k < n → name k < 2 ^ 11
  short k h = name-low (part k).role (part k).lead (part-role F Z (listed k h)) (part-lead F Z (listed k h))

  shown-words : (k : ℕ) → k < n → words_at t k ≡ words_of (setting_of F) (block k)
  shown-words k h =
      words_same (filled k h).users_in (filled k h).resources_in (filled k h).operations-in
      (ap atoms_in (here-rest k h) ∙ atoms_packed (words_of (setting_of F) (block k)).atoms (level_of (setting_of F) (block k)) (name k) k (few k) (low k) (short k h) ∙ sym (ap (λ (W : Words). W.atoms) (here-words k h)))
      ∙ here-words k h

  shown-head : (k : ℕ) → k < n → head_in (rest_at t k) ≡ k
  shown-head k h = ap head_in (here-rest k h) ∙ head_packed (words_of (setting_of F) (block k)).atoms (level_of (setting_of F) (block k)) (name k) k (few k) (low k) (short k h)

  -- THE LAW of the filling
  pub alone_traced : Traced F n t alone
  unfolding alone
  alone_traced = record {
    all = counted;
    named = λ k h. named-so (part k).role (part k).lead (part-role F Z (listed k h)) (part-lead F Z (listed k h)) t k (ap name_in (here-rest k h) ∙ name_packed (words_of (setting_of F) (block k)).atoms (level_of (setting_of F) (block k)) (name k) k (few k) (low k) (short k h));
    heads = λ k h. eq-eqb (head_in (rest_at t k)) k (shown-head k h);
    words = λ k h p. shown-words k h;
    level = λ k h p. ap level_in (here-rest k h) ∙ level_packed (words_of (setting_of F) (block k)).atoms (level_of (setting_of F) (block k)) (name k) k (few k) (low k) (short k h);
    fitting = λ k h p. here-fits k h;
    filled = λ k h p. here-some k h;
    earlier = λ k h. let s = shown-head k h in omega arith;
    members = λ i k _ h p. or-false (eqb k i) ∙ sym (ap (λ (b : Bool). cond b (eqb k i) (elem (head_in (rest_at t k)) (i ∷ []))) (eq-eqb (head_in (rest_at t k)) k (shown-head k h)));
    low = λ i k h p q. let s = eqb-true k i (sym (or-false (eqb k i)) ∙ q) in omega arith;
  }
