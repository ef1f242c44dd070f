-- The stages of mining: what each is handed of a policy, and what it leaves.
-- Assumes nothing.
use Rattle.std.specs.Prelude.{ℕ, ◌≤◌, leb, length, cond, List, Result, ◌≡◌}
use Rattle.mine_distinct.specs.InsideValues.{distinct_in, having_in, inside_in}
use Rattle.files.specs.Answer.{Answer, map_answer, refused, accepted}
use Rattle.files.specs.Beside.{shape_of}
use Rattle.files.specs.Calls.{cuts_ok, least_scratch, mined_bytes, mine_answer, mine_output}
use Rattle.files.specs.Cause.{answer_of}
use Rattle.files.specs.RoleFile.{read_roles}
use Rattle.files.specs.declared.refusal.Refusal.{Refusal}
use Rattle.role_record.specs.Record.{record_of}
use Rattle.role_record.specs.declared.Sizes.{Sizes}
use Rattle.rule_opening.specs.Opening.{shape_in}
use Rattle.policy.specs.Policy.{Policy}
use Rattle.policy.specs.declared.Weights.{Weights}
use Rattle.write_answer.specs.MinedNumbers.{mined_of, weighed_by}
use Rattle.write_answer.specs.declared.Written.{Written}
use Rattle.grant_grids.specs.Links.{links_of}
use Rattle.mine_groups.specs.Scratch.{Merged, all_parts}
use Rattle.mine_matches.specs.Matches.{known_in, matches_in}
use Rattle.sets.specs.Tests.{Is}
use Rattle.write_kept.specs.Kept.{KeptTable}

-- how long the rule file is: 0 where the role file or the cuts are refused
abbrev pub bytes_for : List ℕ → Answer Policy → ℕ
bytes_for cuts (refused e) = 0
bytes_for cuts (accepted F) = cond (cuts_ok cuts F.roles) (length (mined_bytes 2 F cuts)) 0

-- and where scratch is too small
unfoldable pub needed_bytes : (file cuts : List ℕ) → ℕ → ℕ
needed_bytes file cuts scratch = cond (leb least_scratch scratch) (bytes_for cuts (read_roles 2 file)) 0

-- the tables and numbers are those of the policy's record
pub record OfRecord (F : Policy) (known values kinds domains attributes holders permissions : List ℕ) (users resources operations roles : ℕ) : Type 0 where
  pub of-known : known ≡ (record_of F).known
  pub of_values : values ≡ (record_of F).values
  pub of-kinds : kinds ≡ (record_of F).kinds
  pub of_domains : domains ≡ (record_of F).domains
  pub of-attributes : attributes ≡ (record_of F).attributes
  pub of-holders : holders ≡ (record_of F).holders
  pub of-permissions : permissions ≡ (record_of F).permissions
  pub of-users : users ≡ (record_of F).users
  pub of-resources : resources ≡ (record_of F).resources
  pub of-operations : operations ≡ (record_of F).operations
  pub of-roles : roles ≡ (record_of F).roles

-- parts are merged by tables of the policy's record and by those of its distinct values
pub record MergedBy (F : Policy) (known kinds domains attributes holders permissions distinct having : List ℕ) (users resources operations roles : ℕ) : Type 0 where
  pub of-known : known ≡ (record_of F).known
  pub of-kinds : kinds ≡ (record_of F).kinds
  pub of_domains : domains ≡ (record_of F).domains
  pub of-attributes : attributes ≡ (record_of F).attributes
  pub of-holders : holders ≡ (record_of F).holders
  pub of-permissions : permissions ≡ (record_of F).permissions
  pub of-distinct : distinct ≡ distinct_in F
  pub of-having : having ≡ having_in F
  pub of-users : users ≡ (record_of F).users
  pub of-resources : resources ≡ (record_of F).resources
  pub of-operations : operations ≡ (record_of F).operations
  pub of-roles : roles ≡ (record_of F).roles

-- the table has the places that the rule of each group in scratch memory keeps
abbrev pub KeptFor : Policy → (starts t kept : List ℕ) → Type 0
KeptFor F starts = KeptTable (links_of F) (matches_in F) (known_in F) (record_of F).attributes (record_of F).users (record_of F).resources (record_of F).operations (all_parts starts)

-- rules are written by what they keep of the merged groups, and by tables of the policy, its sizes and its numbers of attributes
pub record WrittenBy (F : Policy) (cuts kept distinct having inside kinds permissions : List ℕ) (sizes : Sizes) (attributes starts t : List ℕ) : Type 0 where
  pub merged : Merged F cuts (all_parts starts) t
  pub of-kept : KeptFor F starts t kept
  pub of-distinct : distinct ≡ distinct_in F
  pub of-having : having ≡ having_in F
  pub of-inside : inside ≡ inside_in F
  pub of-kinds : kinds ≡ (record_of F).kinds
  pub of-permissions : permissions ≡ (record_of F).permissions
  pub of-operations : sizes.operations ≡ (record_of F).operations
  pub of-shape : shape_in sizes attributes ≡ shape_of F

-- what was written and the output, from the file, the cuts, the words of scratch and the former output: the answer by whatever weights
abbrev pub Outcome : (file cuts : List ℕ) → ℕ → List ℕ → Result Written Refusal → List ℕ → Type 0
Outcome file cuts scratch former r out =
    ((weights : Weights) → map_answer (weighed_by weights) (answer_of r) ≡ map_answer mined_of (mine_answer 2 file cuts weights scratch (length former))) × (out ≡ mine_output 2 file cuts scratch former)

-- the same for every file that states a policy whose roles the cuts may part
abbrev pub OutcomeFor : Policy → (cuts former : List ℕ) → Result Written Refusal → List ℕ → Type 0
OutcomeFor F cuts former r out = (file : List ℕ) (n : ℕ) → least_scratch ≤ n → read_roles 2 file ≡ accepted F → Is (cuts_ok cuts F.roles) → Outcome file cuts n former r out
