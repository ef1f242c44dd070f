-- What the loops that fill the table of sets strictly within write, said of any tables.
-- Assumes nothing.
use Rattle.std.specs.Prelude.{ℕ, ◌+◌, ◌*◌, eqb, get_or, cond, ◌&&◌, not, List}
use Rattle.policy.specs.Thinning.{strictly}
use Rattle.sets.specs.Sets.{joining, subset, mask_of}
use Rattle.grant_listed.specs.Values.{lists_least}

-- who has one of the values before number k that it strictly contains
unfoldable pub within_before : (distinct having : List ℕ) → ℕ → ℕ → ℕ
within_before distinct having i k =
    mask_of 64 (joining 0 (λ l. strictly subset (get_or distinct (64 * i + l) 0) (get_or distinct (64 * i + k) 0)) (λ l. get_or having (64 * i + l) 0) k)

-- the same, where only the least sets are listed and somebody has number k
unfoldable pub inside_word : (kinds distinct having : List ℕ) → ℕ → ℕ → ℕ
inside_word kinds distinct having i k = cond (lists_least kinds i && not (eqb (get_or having (64 * i + k) 0) 0)) (within_before distinct having i k) 0
