-- What counting a log comes to, as code hands it back, by any grid and sizes.
-- Assumes nothing.
use Rattle.std.specs.Prelude.{ℕ, ◌-◌, leb, Bool, cond, List, [], ◌∷◌, Result, Ok, Err}
use Rattle.files.specs.Denials.{of_record, record_count, denied_by}
use Rattle.files.specs.Windows.{Worst as WorstWindow, worst}
use Rattle.files.specs.declared.refusal.Refusal.{Refusal}
use Rattle.files.specs.declared.refusal.Refusal.TheVariants.{Beyond}
use Rattle.policy.specs.Rules.{Block}
use Rattle.role_record.specs.Record.{in_sizes}
use Rattle.role_record.specs.declared.Sizes.{Sizes}
use Rattle.sets.specs.Tests.{all, up_to}
use Rattle.log_windows.specs.declared.Worst.{Worst}

-- the worst window, and its values: the most denials, and where it starts
abbrev pub worst_of : WorstWindow → Worst
worst_of x = record { most = x.most; start = x.start }

abbrev pub worst_numbers : Worst → List ℕ
worst_numbers x = x.most ∷ x.start ∷ []

-- every record is within the sizes, and then the worst window; else one is beyond them
unfoldable pub counted_of : Block → Sizes → List ℕ → ℕ → Result Worst Refusal
counted_of G s log w = cond (all (of_record (in_sizes s) log) (up_to (record_count log))) (Ok (worst_of (worst (denied_by G log) (record_count log) w))) (Err Beyond)

-- what leaves the window of w records when record i comes: 1 for a denial
unfoldable pub leaving_of : (ℕ → Bool) → ℕ → ℕ → ℕ
leaving_of f w i = cond (leb w i) (cond (f (i - w)) 1 0) 0
