-- Atoms as a table of sets: word 64 * (6 * a + b) + user is the set of the resources of which, with the user, the atom over user
-- attribute a and resource attribute b holds.
-- Assumes nothing.
use Rattle.std.specs.Prelude.{ℕ, ◌+◌, ◌*◌, ◌/◌, ◌%◌, get_or, Bool, cond, List}
use Rattle.std.proofs.Math.Option.{Option, none, some}
use Rattle.role_record.specs.Record.{table_of, record_of, same_domain}
use Rattle.policy.specs.Policy.{Policy}
use Rattle.policy.specs.Rules.{Form, form_of, linked, both}
use Rattle.sets.specs.Sets.{bit, mask_of}

-- the value in an attribute column for somebody, from the table of who knows it and that of values
unfoldable pub value_in : List ℕ → List ℕ → ℕ → ℕ → Option ℕ
value_in known values column who = cond (bit (get_or known column 0) who) (some (get_or values (64 * column + who) 0)) none

-- the form that the kinds of a user's and a resource's attribute give, if both have one domain
unfoldable pub form_in : List ℕ → List ℕ → ℕ → ℕ → Option Form
form_in kinds domains a b = cond (same_domain domains a b) (form_of (bit (get_or kinds 0 0) a) (bit (get_or kinds 1 0) b)) none

-- the atom holds of a user and a resource. The resource attributes' columns stand behind the six of the user attributes
unfoldable pub link_holds : List ℕ → List ℕ → List ℕ → List ℕ → ℕ → ℕ → ℕ → ℕ → Bool
link_holds known values kinds domains a b u r = both (linked (form_in kinds domains a b)) (value_in known values a u) (value_in known values (6 + b) r)

-- the resources, of that many, of which it holds with a user
unfoldable pub link_word : List ℕ → List ℕ → List ℕ → List ℕ → ℕ → ℕ → ℕ → ℕ → ℕ
link_word known values kinds domains resources a b u = mask_of resources (link_holds known values kinds domains a b u)

unfoldable pub link_table : List ℕ → List ℕ → List ℕ → List ℕ → ℕ → List ℕ
link_table known values kinds domains resources = table_of 2304 (λ i. link_word known values kinds domains resources (i / 384) (i / 64 % 6) (i % 64))

-- a policy's table of links, from its record
abbrev pub links_of : Policy → List ℕ
links_of F = link_table (record_of F).known (record_of F).values (record_of F).kinds (record_of F).domains (record_of F).resources
