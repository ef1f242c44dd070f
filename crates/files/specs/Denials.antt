-- Denials in a usage log: what the call answers. 02, request 10, "Denials in the usage log".
-- Assumes nothing.
use Rattle.std.specs.Prelude.{ℕ, ◌+◌, ◌*◌, ◌/◌, ◌%◌, eqb, leb, length, get_or, Bool, ◌&&◌, not, List}
use Rattle.files.specs.Answer.{Answer, unless, and_then, beyond, wrong_window, ragged_log, accepted}
use Rattle.files.specs.Calls.{is_triple, rules_grant, read_both}
use Rattle.files.specs.RoleFile.{read_roles}
use Rattle.files.specs.RuleFile.{Lines}
use Rattle.files.specs.Windows.{Worst, worst}
use Rattle.policy.specs.Policy.{Policy, setting_of, roles_in}
use Rattle.policy.specs.Roles.{roles_grant}
use Rattle.policy.specs.Rules.{Setting, Block}
use Rattle.sets.specs.Tests.{all, up_to}

-- "The log is a run of records of three bytes: user, resource, operation": f of what record i says
abbrev pub of_record : {A : Type 0} → (ℕ → ℕ → ℕ → A) → List ℕ → ℕ → A
of_record f log i = f (get_or log (3 * i) 0) (get_or log (3 * i + 1) 0) (get_or log (3 * i + 2) 0)

abbrev pub record_count : List ℕ → ℕ
record_count log = length log / 3

-- "records that the rules deny": record i asks for what they do not grant. G is what they grant, or what the roles do
abbrev pub denied_by : Block → List ℕ → ℕ → Bool
denied_by G log i = not (of_record G log i)

-- "19 for w outside 1 to 64, then 20 for a length not divisible by three, then 5 for a record": for any of the log's records, whatever the
-- window
unfoldable pub log_answer : Setting → Block → List ℕ → ℕ → Answer Worst
log_answer P G log w =
    unless (leb 1 w && leb w 64) wrong_window
    (unless (eqb (length log % 3) 0) ragged_log
    (unless (all (of_record (is_triple P) log) (up_to (record_count log))) beyond
    (accepted (worst (denied_by G log) (record_count log) w))))

module _ (W : ℕ) where
  -- by the rules: "all after the files' refusals"
  unfoldable pub denial_answer : List ℕ → List ℕ → List ℕ → ℕ → Answer Worst
  denial_answer file rules log w =
      and_then (read_both W file rules) (λ (p : Policy × List Lines). log_answer (setting_of p.0) (rules_grant (setting_of p.0) p.1) log w)

  -- "the count by the roles"
  unfoldable pub role_denials : List ℕ → List ℕ → ℕ → Answer Worst
  role_denials file log w = and_then (read_roles W file) (λ F. log_answer (setting_of F) (roles_grant (setting_of F) (roles_in F)) log w)
