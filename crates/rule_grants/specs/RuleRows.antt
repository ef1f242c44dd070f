-- What a rule summed up grants: by user the resources that it leaves the user, at each of its operations.
-- Assumes nothing.
use Rattle.std.specs.Prelude.{ℕ, ◌&&◌, List}
use Rattle.rule_conjuncts.specs.Summary.{met_by_all}
use Rattle.grant_links.specs.Linked.{linked_with, row_of}
use Rattle.role_record.specs.Record.{table_of}
use Rattle.policy.specs.Rules.{Block}
use Rattle.sets.specs.Sets.{bit}

-- a row for each user: none of the resources for one who does not meet all user conjuncts, and for another those that meet all resource conjuncts and,
-- with the user, all atoms
unfoldable pub rule_rows : List ℕ → ℕ → ℕ → List ℕ → ℕ → ℕ → List ℕ
rule_rows met asked atoms links users resources = table_of 64 (row_of links atoms (met_by_all met asked 0 users) (met_by_all met asked 1 resources))

-- the triples: the rule has the operation, the user meets all user conjuncts, the resource all resource conjuncts and, with the user, all atoms
unfoldable pub summary_grants : List ℕ → ℕ → ℕ → ℕ → List ℕ → ℕ → ℕ → Block
summary_grants met asked atoms acts links users resources u r o =
    bit acts o && (bit (met_by_all met asked 0 users) u && bit (linked_with links atoms u (met_by_all met asked 1 resources)) r)
