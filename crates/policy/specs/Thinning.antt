-- Thinning a covering rule. 01, section "Covering, merging, striking".
-- Assumes nothing.
use Rattle.std.specs.Prelude.{ℕ, Bool, cond, ◌&&◌, not, List, [], ◌∷◌, ◌++◌, map}
use Rattle.policy.specs.Covering.{cover, level_of}
use Rattle.policy.specs.Rules.{by, Setting, Cond, Rule, Block, grants, same_block, conjunct, atom}
use Rattle.sets.specs.Tests.{any, keep}

-- ---- sets that strictly contain another listed set

module _ (le : ℕ → ℕ → Bool) where
  abbrev pub strictly : ℕ → ℕ → Bool
  strictly w v = le w v && not (le v w)

  -- the values that lie strictly above no other listed one
  unfoldable pub trim : List ℕ → List ℕ
  trim vs = keep (λ v. not (any (λ w. strictly w v) vs)) vs

-- ---- striking one at a time

-- One pass: each condition is struck where the test still passes without it. `pre` is what was kept before.
abbrev pub strike : {C : Type 0} → (List C → Bool) → List C → List C → List C
strike ok pre [] = []
strike ok pre (c ∷ t) =
    let goes = strike ok pre t in
    let stays = c ∷ strike ok (pre ++ (c ∷ [])) t in
    cond (ok (pre ++ t)) goes stays

module _ (P : Setting) where
  -- "In user set conjuncts each set that strictly contains another listed set goes." (Among single values none does.)
  unfoldable pub trim_cond : Cond → Cond
  trim_cond (conjunct w a vs) = conjunct w a (by w (trim ((P.side w).below a) vs) vs)
  trim_cond (atom a b) = atom a b

  -- the rule with these operations and conditions grants just B
  unfoldable pub grants_just : Block → ℕ → List Cond → Bool
  grants_just B f cs = same_block P (grants P (record { ops = f; conds = cs })) B

  -- "Then conjuncts, users' first, each side by attribute number, and then atoms by user and resource attribute, are
  -- struck one at a time where the grants stay the same." That is the order in which a covering rule has them; it grants B,
  -- since B fits its level.
  unfoldable pub thinned : Block → Rule → Rule
  thinned B ρ = record { ops = ρ.ops; conds = strike (grants_just B ρ.ops) [] (map trim_cond ρ.conds) }

  -- "Each group's covering rule at its level is then thinned."
  unfoldable pub written : Block → Rule
  written B = thinned B (cover P B (level_of P B))
