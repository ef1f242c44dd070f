-- What holds of denials: of a log only the records within the sizes are counted, so that two sets of triples that agree there have one answer;
-- and so for mined bytes the rules deny what the roles do.
-- Assumes nothing.
use Rattle.std.specs.Prelude.{ℕ, ◌%◌, eqb, length, take, Bool, true, false, ◌&&◌, List, ◌≡◌, refl}
use Rattle.std.proofs.Math.Dec.{leb}
use Rattle.std.proofs.Math.Bool.{not}
use Rattle.std.proofs.Math.Path.{ap}
use Rattle.files.specs.Answer.{Answer, unless, beyond, wrong_window, ragged_log, accepted}
use Rattle.files.proofs.BytesLaws.{Bytes}
use Rattle.files.proofs.CallLaws.{triple-of, third_demand}
use Rattle.files.specs.Calls.{Counts, is_triple, rules_grant, mine_answer, mine_output, read_both}
use Rattle.files.specs.Denials.{of_record, record_count, denied_by, log_answer, denial_answer, role_denials}
use Rattle.files.proofs.WindowLaws.{worst_ext}
use Rattle.files.specs.Windows.{Worst, worst}
use Rattle.policy.specs.Policy.{setting_of, roles_in}
use Rattle.policy.specs.Roles.{roles_grant}
use Rattle.policy.specs.Rules.{Setting, Block, Triple}
use Rattle.policy.specs.declared.Weights.{Weights}
use Rattle.sets.specs.Tests.{Is, all, up_to}
use Rattle.sets.specs.TestLaws.{all-out, up_to_in}

-- an answer that is only given after a test
unless-same : {A : Type 0} (b : Bool) (x y : Answer A) → (Is b → x ≡ y) → unless b beyond x ≡ unless b beyond y
unless-same true x y h = h refl
unless-same false x y h = refl

module _ (P : Setting) (G H : Block) (same : (u r o : ℕ) → Triple P u r o → G u r o ≡ H u r o) where
  pub log_same : (log : List ℕ) (w : ℕ) → log_answer P G log w ≡ log_answer P H log w
  unfolding log_answer
  log_same log w =
      ap (λ (x : Answer Worst). unless (leb 1 w && leb w 64) wrong_window (unless (eqb (length log % 3) 0) ragged_log x))
      (unless-same (all (of_record (is_triple P) log) (up_to (record_count log))) (accepted (worst (denied_by G log) (record_count log) w)) (accepted (worst (denied_by H log) (record_count log) w))
      (λ k. ap accepted (worst_ext (denied_by G log) (denied_by H log) (record_count log) w (λ i l. ap not (same _ _ _ (triple-of P _ _ _ (all-out (of_record (is_triple P) log) k (up_to_in l))))))))

-- "For a mined file beside its own role file it is also the count by the roles": of the bytes that mining wrote, whatever memory it was lent
pub mined_denials : (W : ℕ) (file : List ℕ) → Bytes file → (cuts : List ℕ) (weights : Weights) (scratch : ℕ) (former : List ℕ) (c : Counts) → mine_answer W file cuts weights scratch (length former) ≡ accepted c
    → (log : List ℕ) (w : ℕ) → denial_answer W file (take c.size (mine_output W file cuts scratch former)) log w ≡ role_denials W file log w
unfolding denial_answer role_denials read_both
mined_denials W file b cuts weights scratch former c h log w =
    let t = third_demand W file b cuts weights scratch former c h in
    rw (t.1, t.2.taken)
    (log_same (setting_of t.0) (rules_grant (setting_of t.0) t.2.rules) (roles_grant (setting_of t.0) (roles_in t.0)) t.2.same log w)
