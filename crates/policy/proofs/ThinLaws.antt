-- The rule that is written for a set of triples: its covering rule at its level, thinned. What no other rule can do.
-- Assumes nothing.
use Rattle.std.specs.Prelude.{ℕ, ◌≤◌, ◌<◌, length, Bool, ◌⊎◌, ◌≡◌}
use Rattle.std.proofs.Common.{lt-ltb, inl, inr, ◌∙◌, arith}
use Rattle.std.proofs.Math.Bool.{true}
use mathlib.Core.List.Memᴰ
use mathlib.Core.List.{List, [], ◌++◌, map}
use Rattle.std.proofs.Math.Path.{refl}
use Rattle.std.proofs.Math.Nat.{le_antisymm}
use Rattle.policy.proofs.CoverLaws.{conjuncts-out, atom_conds-out, cover_cases, exact-fits, fits-exact}
use Rattle.policy.specs.Covering.{conjuncts, atom_conds, cover, fits, level_of}
use Rattle.policy.proofs.RuleLaws.{Lawful, grants_in, grants-op, grants-cond, same_in, same_out}
use Rattle.policy.specs.Rules.{own, Side, Which, Setting, Cond, Rule, Block, meets, attrs_of, own_at, holds, grants, allowed, at, rule_level, Within, Same, struck, user, resource, conjunct, atom}
use Rattle.policy.proofs.SideLaws.{admits-out, admits_in}
use Rattle.policy.proofs.StrikeLaws.{◌⊑◌, strike-within, strike-passes, strike_final}
use Rattle.policy.specs.Thinning.{trim, trim_cond, grants_just, thinned, written}
use Rattle.policy.proofs.TrimLaws.{trim-out, trim_in}
use Rattle.sets.specs.LowestLaws.{lowest-passes, lowest-least}
use Rattle.sets.specs.Tests.{Is, ◌is_in◌, only, up_to, elem}
use Rattle.sets.specs.TestLaws.{and_in, never, same, all-out, all_in, only_out, elem_in, elem_out, map_in, map-out}

module _ (P : Setting) where
  -- the conditions of a covering rule are of its level, and trimming leaves them there
  pub cover-allowed : (B : Block) (l : ℕ) {c : Cond} → c is_in (cover P B l).conds → Is (allowed P l c)
  unfolding allowed
  cover-allowed B l {c} m = go (cover_cases P B l m)
    where
      go : ((w : Which) × (c is_in conjuncts P B l w)) ⊎ (c is_in atom_conds P B) → Is (allowed P l c)
      go (inl k) = let t = conjuncts-out P B l k.0 k.1 in rw t.3 (elem_in t.1)
      go (inr k) = let t = atom_conds-out P B k in rw t.5 (and_in (lt-ltb t.0 _ t.2) (lt-ltb t.1 _ t.3))

  pub cover-at : (B : Block) (l : ℕ) → Is (at P l (cover P B l))
  unfolding at
  cover-at B l = all_in (allowed P l) _ λ c m. cover-allowed B l m

  pub trim-allowed : (l : ℕ) (c : Cond) → Is (allowed P l c) → Is (allowed P l (trim_cond P c))
  unfolding allowed trim_cond
  trim-allowed l (conjunct w a vs) h = h
  trim-allowed l (atom a b) h = h

  -- level 3 allows all that any level allows
  attrs-3 : (S : Side) (b : Bool) (a : ℕ) → Is (elem a (attrs_of S b)) → Is (elem a (attrs_of S true))
  unfolding attrs_of
  attrs-3 S b a h = go (Memᴰ.append_cases (up_to S.attrs) (elem_out a _ h))
    where
      go : (a is_in up_to S.attrs) ⊎ (a is_in only b own) → Is (elem a (up_to S.attrs ++ only true own))
      go (inl k) = elem_in (Memᴰ.append_left (only true own) k)
      go (inr k) = elem_in (Memᴰ.append_right (up_to S.attrs) (Memᴰ.head (only_out b k).1))

  allowed-3 : (l : ℕ) (c : Cond) → Is (allowed P l c) → Is (allowed P 3 c)
  unfolding allowed
  allowed-3 l (conjunct user a vs) h = attrs-3 (P.side user) (own_at user l) a h
  allowed-3 l (conjunct resource a vs) h = attrs-3 (P.side resource) (own_at resource l) a h
  allowed-3 l (atom a b) h = h

  pub at-3 : (l : ℕ) (ρ : Rule) → Is (at P l ρ) → Is (at P 3 ρ)
  unfolding at
  at-3 l ρ h = all_in (allowed P 3) ρ.conds λ c m. allowed-3 l c (all-out (allowed P l) h m)

  -- fewer conditions grant no less
  pub grants-fewer : (f : ℕ) (s t : List Cond) → s ⊑ t → Within P (grants P (record { ops = f; conds = t })) (grants P (record { ops = f; conds = s }))
  grants-fewer f s t h u r o k g = grants_in P _ u r o (grants-op P (record { ops = f; conds = t }) u r o g) λ c m. grants-cond P (record { ops = f; conds = t }) u r o g (h c m)

  pub between : (B : Block) (f : ℕ) (s t v : List Cond) → s ⊑ t → t ⊑ v → Is (grants_just P B f s) → Is (grants_just P B f v) → Is (grants_just P B f t)
  unfolding grants_just
  between B f s t v p q hs hv =
      same_in P _ B λ u r o k. same _ (B u r o)
      (λ g. rw (← same_out P (grants P (record { ops = f; conds = s })) B hs u r o k) (grants-fewer f s t p u r o k g))
      (λ b. grants-fewer f t v q u r o k (rw (same_out P (grants P (record { ops = f; conds = v })) B hv u r o k) b))

  module _ (L : Lawful P) where
    -- trimming changes nothing
    pub holds-trim : (c : Cond) (u r : ℕ) → holds P (trim_cond P c) u r ≡ holds P c u r
    unfolding holds trim_cond meets
    holds-trim (conjunct user a vs) u r =
        same _ _
        (λ h. let t = admits-out ((P.side user).below a) (trim ((P.side user).below a) vs) ((P.side user).value a u) h in
        admits_in ((P.side user).below a) t.1 (trim-out ((P.side user).below a) vs t.3) t.4)
        (λ h. let t = admits-out ((P.side user).below a) vs ((P.side user).value a u) h in
        let m = trim_in ((P.side user).below a) ((L user).self a) ((L user).chain a) vs t.3 in
        admits_in ((P.side user).below a) t.1 m.1 ((L user).chain a m.0 t.2 t.0 m.2 t.4))
    holds-trim (conjunct resource a vs) u r = refl
    holds-trim (atom a b) u r = refl

    pub grants-trim : (ρ : Rule) (u r o : ℕ) → grants P (record { ops = ρ.ops; conds = map (trim_cond P) ρ.conds }) u r o ≡ grants P ρ u r o
    grants-trim ρ u r o =
        same _ _
        (λ g. grants_in P ρ u r o (grants-op P (record { ops = ρ.ops; conds = map (trim_cond P) ρ.conds }) u r o g)
        λ c m. rw (← holds-trim c u r) (grants-cond P (record { ops = ρ.ops; conds = map (trim_cond P) ρ.conds }) u r o g (map_in (trim_cond P) m)))
        (λ g. grants_in P _ u r o (grants-op P ρ u r o g)
        λ c m. let t = map-out (trim_cond P) ρ.conds m in rw (t.2, holds-trim t.0 u r) (grants-cond P ρ u r o g t.1))

    module _ (B : Block) (fit : Is (fits P B (level_of P B))) where
      start : Is (grants_just P B (cover P B (level_of P B)).ops (map (trim_cond P) (cover P B (level_of P B)).conds))
      unfolding grants_just
      start = same_in P _ B λ u r o t. grants-trim (cover P B (level_of P B)) u r o ∙ fits-exact P L B (level_of P B) fit u r o t

      -- the written rule grants just B
      pub written-exact : Same P (grants P (written P B)) B
      unfolding written thinned grants_just
      written-exact = same_out P _ B (strike-passes (grants_just P B (cover P B (level_of P B)).ops) [] (map (trim_cond P) (cover P B (level_of P B)).conds) start)

      -- striking any one conjunct or atom would change what it grants
      pub written-thin : (i : ℕ) → i < length (written P B).conds → Same P (grants P (struck i (written P B))) (grants P (written P B)) → ⊥
      unfolding written thinned struck grants_just
      written-thin i l e =
          never (same_in P (grants P (struck i (written P B))) B (λ u r o t. e u r o t ∙ written-exact u r o t))
          (strike_final (grants_just P B (cover P B (level_of P B)).ops) (between B (cover P B (level_of P B)).ops) [] (map (trim_cond P) (cover P B (level_of P B)).conds) start i l)

      pub written_at : Is (at P (level_of P B) (written P B))
      unfolding at written thinned
      written_at =
          all_in (allowed P (level_of P B)) _ λ c m.
          let t = map-out (trim_cond P) (cover P B (level_of P B)).conds (strike-within (grants_just P B (cover P B (level_of P B)).ops) [] (map (trim_cond P) (cover P B (level_of P B)).conds) c m) in
          rw t.2 (trim-allowed (level_of P B) t.0 (cover-allowed B (level_of P B) t.1))

    -- fitting a level goes by the triples alone
    pub fits-same : (A B : Block) (l : ℕ) → Same P A B → Is (fits P A l) → Is (fits P B l)
    fits-same A B l e h = exact-fits P L B l (cover P A l) (cover-at A l) (λ u r o t. fits-exact P L A l h u r o t ∙ e u r o t)

    -- a rule that grants just B has no lower level than B
    pub level-least : (B : Block) (ρ : Rule) → Is (at P 3 ρ) → Same P (grants P ρ) B → level_of P B ≤ rule_level P ρ
    unfolding level_of rule_level
    level-least B ρ a e = lowest-least (fits P B) (rule_level P ρ) (exact-fits P L B (rule_level P ρ) ρ (lowest-passes (λ l. at P l ρ) a) e)

    module _ (B : Block) (fit : Is (fits P B (level_of P B))) where
      -- the written rule is of the level of B
      pub written-level : rule_level P (written P B) ≡ level_of P B
      unfolding rule_level
      written-level = le_antisymm (lowest-least (λ l. at P l (written P B)) (level_of P B) (written_at B fit))
          (level-least B (written P B) (at-3 (level_of P B) (written P B) (written_at B fit)) (written-exact B fit))

      -- and no rule of a lower level grants the same
      pub no_lower : (ρ : Rule) → Is (at P 3 ρ) → rule_level P ρ < rule_level P (written P B) → Same P (grants P ρ) (grants P (written P B)) → ⊥
      no_lower ρ a l e =
          let h = level-least B ρ a (λ u r o t. e u r o t ∙ written-exact B fit u r o t) in
          let k = written-level in
          omega arith
