-- Whether operands are legal, from the record's tables: the form in which code works it out.
-- Assumes nothing.
use Rattle.std.specs.Prelude.{ℕ, ◌^◌, eqb, ltb, get_or, Bool, true, false, cond, not, List}
use Rattle.grant_parts.specs.Parts.{class_row}
use Rattle.policy.specs.Rules.{own}
use Rattle.role_record.specs.Cells.{permission_at}
use Rattle.role_record.specs.Record.{same_domain}
use Rattle.sets.specs.Lowest.{lowest_from}
use Rattle.sets.specs.Sets.{bit}
use Rattle.sets.specs.Tests.{iff}

unfoldable pub own_legal : ℕ → Bool → ℕ → ℕ → ℕ → Bool
own_legal side set v roles resources = cond (eqb side 0) (cond set (ltb v (2 ^ roles)) false) (cond set false (ltb v resources))

unfoldable pub value_legal : ℕ → Bool → ℕ → ℕ → ℕ → ℕ → List ℕ → List ℕ → Bool
value_legal side set a v roles resources attributes kinds =
    cond (eqb a own) (own_legal side set v roles resources) (cond (ltb a (get_or attributes side 0)) (iff (bit (get_or kinds side 0) a) set) false)

unfoldable pub link_legal : ℕ → ℕ → List ℕ → List ℕ → List ℕ → Bool
link_legal a b attributes kinds domains =
    cond (ltb a (get_or attributes 0 0)) (cond (ltb b (get_or attributes 1 0)) (cond (same_domain domains a b) (cond (bit (get_or kinds 0 0) a) true (not (bit (get_or kinds 1 0) b))) false) false) false

unfoldable pub part_legal : ℕ → ℕ → ℕ → ℕ → List ℕ → List ℕ → Bool
part_legal role m roles ops holders permissions =
    let o = lowest_from (bit m) 0 64 in
    cond (ltb role roles)
    (cond (eqb (get_or holders role 0) 0) false
    (cond (ltb o ops)
    (cond (eqb (get_or permissions (permission_at role o) 0) 0) false (eqb (class_row permissions role ops o) m)) false)) false
