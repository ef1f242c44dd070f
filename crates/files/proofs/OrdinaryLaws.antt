-- "An empty list of cuts writes the ordinary file byte for byte": mining without a cut is 01's mining, in bytes, counts and
-- refusals (request 11).
-- Assumes nothing.
use Prim.Native.Nat.{ℕ}
use Rattle.std.specs.Prelude.{leb, length, ◌≡◌}
use Rattle.std.proofs.Math.ListN.{drop}
use mathlib.Core.List.{List, [], ◌++◌, map}
use Rattle.std.proofs.Math.Path.{refl, ap, fun_ext}
use Rattle.std.proofs.Common.{◌∙◌}
use Rattle.files.specs.Answer.{Answer, unless, and_then, small_scratch, short_output, refused, accepted}
use Rattle.files.specs.Beside.{shape_of}
use Rattle.files.specs.Calls.{Counts, mined_lines, cuts_ok, least_scratch, mined_bytes, mined_counts, may_mine, mine_answer, mine_output}
use Rattle.files.specs.Ordinary.{ordinary_groups, ordinary_merges, ordinary_bytes, ordinary_counts, may_mine_ordinary, ordinary_answer, ordinary_output}
use Rattle.files.specs.RoleFile.{read_roles}
use Rattle.files.specs.RuleFile.{lines_of, encode_file}
use Rattle.policy.specs.Mined.{mined_groups, merge_count, rule_of}
use Rattle.policy.specs.Policy.{Policy, setting_of, roles_in}
use Rattle.policy.specs.Roles.{Roles}
use Rattle.policy.specs.Rules.{Setting}
use Rattle.policy.proofs.SegmentLaws.{no_cuts}
use Rattle.policy.specs.declared.Weights.{Weights}

module _ (P : Setting) (R : Roles) where
  pub no_cuts_groups : mined_groups P R [] ≡ ordinary_groups P R
  unfolding ordinary_groups
  no_cuts_groups = (no_cuts P R).0

  pub no_cuts_merges : merge_count P R [] ≡ ordinary_merges P R
  unfolding ordinary_merges
  no_cuts_merges = (no_cuts P R).1

module _ (W : ℕ) where
  pub no_cuts_bytes : (F : Policy) → mined_bytes W F [] ≡ ordinary_bytes W F
  unfolding mined_bytes mined_lines ordinary_bytes
  no_cuts_bytes F = ap (λ gs. encode_file W (shape_of F) (map (λ g. lines_of (setting_of F) (roles_in F) (rule_of (setting_of F) (roles_in F) g) g) gs)) (no_cuts_groups (setting_of F) (roles_in F))

  pub no_cuts_counts : (F : Policy) (weights : Weights) → mined_counts W F [] weights ≡ ordinary_counts W F weights
  unfolding mined_counts ordinary_counts
  no_cuts_counts F weights = rw (no_cuts_bytes F, no_cuts_groups (setting_of F) (roles_in F), no_cuts_merges (setting_of F) (roles_in F)) refl

  may-mine : (file : List ℕ) (scratch room : ℕ) → may_mine W file [] scratch room ≡ may_mine_ordinary W file scratch room
  unfolding may_mine may_mine_ordinary cuts_ok
  may-mine file scratch room =
      ap (λ (next : Policy → Answer Policy). unless (leb least_scratch scratch) small_scratch (and_then (read_roles W file) next))
      (fun_ext λ F. ap (λ bytes. unless (leb (length bytes) room) short_output (accepted F)) (no_cuts_bytes F))

  -- THE EMPTY LIST: the same refusal or the same counts
  pub no_cuts_answer : (file : List ℕ) (weights : Weights) (scratch room : ℕ) → mine_answer W file [] weights scratch room ≡ ordinary_answer W file weights scratch room
  unfolding mine_answer ordinary_answer
  no_cuts_answer file weights scratch room =
      ap (λ (r : Answer Policy). and_then r (λ F. accepted (mined_counts W F [] weights))) (may-mine file scratch room)
      ∙ ap (λ (next : Policy → Answer Counts). and_then (may_mine_ordinary W file scratch room) next) (fun_ext λ F. ap accepted (no_cuts_counts F weights))

  -- and the same bytes in the output
  pub no_cuts_output : (file : List ℕ) (scratch : ℕ) (former : List ℕ) → mine_output W file [] scratch former ≡ ordinary_output W file scratch former
  unfolding mine_output ordinary_output
  no_cuts_output file scratch former =
      ap (after (λ F. mined_bytes W F [])) (may-mine file scratch (length former))
      ∙ ap (λ (bytes : Policy → List ℕ). after bytes (may_mine_ordinary W file scratch (length former))) (fun_ext λ F. no_cuts_bytes F)
    where
      after : (Policy → List ℕ) → Answer Policy → List ℕ
      after bytes r = elim r as (λ _. List ℕ) [ refused e ↦ former | accepted F ↦ bytes F ++ drop (length (bytes F)) former ]
