-- The table of who meets the values of a group's members.
-- Assumes nothing.
use Rattle.std.specs.Prelude.{ℕ, max, min, ltb, drop, List, ◌≡◌}
use Rattle.std.proofs.Common.{ltb-false, ltb-true, arith}
use Rattle.mine_matches.specs.Matches.{Met, both_members, SidesMet}
use Rattle.mine_widen.specs.MetLaws.{met-first, met_turned}
use Rattle.mine_search.specs.PartnerSearch.{GroupMet}
use Rattle.mine_parts.specs.Layout.{users_at, resources_at}
use Rattle.sets.specs.TestLaws.{test}

-- the members of two heads' groups, in the order of the heads
pub beside_met : (matches : List ℕ) (side : ℕ) (f : ℕ → ℕ) (c k : ℕ) (met : List ℕ) {i j : ℕ} → i ≡ min c k → j ≡ max c k → Met matches side (both_members (f c) (f k)) met → Met matches side (both_members (f i) (f j)) met
beside_met matches side f c k met {i} {j} p q h = test (ltb c k)
    (λ e. let l = ltb-true c k e in
    let a : i ≡ c = omega arith in
    let b : j ≡ k = omega arith in
    rw (a, b) h)
    (λ e. let l = ltb-false c k e in
    let a : i ≡ k = omega arith in
    let b : j ≡ c = omega arith in
    rw (a, b) (met_turned matches side (f c) (f k) met h))

-- the first group's members alone
pub group-begun : (matches t : List ℕ) (c : ℕ) (met : List ℕ) → SidesMet matches (both_members 0 (users_at t c)) (both_members 0 (resources_at t c)) met → GroupMet matches t c met
group-begun matches t c met h = (met-first matches 0 (users_at t c) met h.0, met-first matches 1 (resources_at t c) (drop 6 met) h.1)
