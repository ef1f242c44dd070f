-- The tables by which groups are merged, and how many heads there are.
-- Assumes nothing.
use Rattle.std.specs.Prelude.{ℕ, length, List, ◌≡◌}
use Rattle.grant_grids.specs.Links.{links_of}
use Rattle.role_record.specs.Record.{record_of}
use Rattle.mine_matches.specs.Matches.{known_in, matches_in}
use Rattle.policy.specs.Policy.{Policy}
use Rattle.mine_parts.specs.Layout.{most_parts, is_head_at}
use Rattle.sets.specs.Tests.{keep, up_to}

-- the tables by which pairs are tested are those of the policy
pub record Paired (F : Policy) (links matches known attributes : List ℕ) (users resources operations : ℕ) : Type 0 where
  pub of-links : links ≡ links_of F
  pub of_matches : matches ≡ matches_in F
  pub of-known : known ≡ known_in F
  pub of-attributes : attributes ≡ (record_of F).attributes
  pub of-users : users ≡ (record_of F).users
  pub of-resources : resources ≡ (record_of F).resources
  pub of-operations : operations ≡ (record_of F).operations

-- and all tables are
pub record Tables (F : Policy) (links matches known attributes holders permissions : List ℕ) (users resources operations roles : ℕ) : Type 0 where
  pub of-links : links ≡ links_of F
  pub of_matches : matches ≡ matches_in F
  pub of-known : known ≡ known_in F
  pub of-attributes : attributes ≡ (record_of F).attributes
  pub of-holders : holders ≡ (record_of F).holders
  pub of-permissions : permissions ≡ (record_of F).permissions
  pub of-users : users ≡ (record_of F).users
  pub of-resources : resources ≡ (record_of F).resources
  pub of-operations : operations ≡ (record_of F).operations
  pub of-roles : roles ≡ (record_of F).roles

-- how many parts name themselves, of as many as there may be
unfoldable pub head_count : List ℕ → ℕ
head_count t = length (keep (is_head_at t) (up_to most_parts))
