-- What holds of two files that were accepted: the sizes are within the limits, and every line is legal.
-- Assumes nothing.
use Rattle.std.specs.Prelude.{ℕ, suc, length, true, ◌≡◌}
use Rattle.std.proofs.Math.Bool.{false}
use mathlib.Core.List.Memᴰ
use mathlib.Core.List.{List, [], ◌∷◌, ◌++◌}
use Rattle.std.proofs.Common.{⊎_elim, sym, ap, subst}
use Rattle.std.proofs.Math.Option.{Option, none, some}
use Rattle.role_record.specs.Record.{Sized, record_with, record_of, sizes_of, attribute_table, WithinLimits, FewAttributes}
use Rattle.role_record.specs.declared.RoleFile.{RoleFile}
use Rattle.files.specs.Beside.{Beside, beside_of}
use Rattle.files.specs.Answer.{Answer, and_then, map_answer, unless, rules_order, rules_operand, wrong_level, accepted, refused}
use Rattle.files.proofs.AnswerLaws.{From, map-accepted}
use Rattle.files.specs.Bytes.{read}
use Rattle.files.proofs.BytesLaws.{Carries, unless_carries, then_carries, any-carried, read_carries}
use Rattle.files.specs.Calls.{read_both}
use Rattle.files.specs.RoleFile.{read_roles}
use Rattle.files.specs.RuleFile.{RuleCommand as Line, Lines, Reading, whole, finished, follows, legal, levelled, add_line, obey_rule, rule_format, opened, read_body, read_rules, reshapes, opens, value, operations, link, part, level, ends}
use Rattle.policy.specs.Policy.{Policy}
use Rattle.policy.specs.Rules.{user, resource}
use Rattle.role_file.specs.SizedLaws.{accepted-sized}
use Rattle.rule_reading.specs.BothFiles.{both_of}
use Rattle.rule_reading.proofs.RuleStateLaws.{open_lines, start}
use Rattle.rule_satisfaction.specs.Satisfaction.{Legal}
use Rattle.sets.specs.Tests.{Is, ◌is_in◌}
use Rattle.sets.specs.TestLaws.{only_out}
use Rattle.rule_reading.specs.declared.BothFiles.{BothFiles}

module _ (B : Beside) where
  abbrev pub AllLegal : List Lines → Type 0
  AllLegal rules = (ls : Lines) → ls is_in rules → Legal B ls

  record LegalSoFar (s : Reading) : Type 0 where
    before : AllLegal s.complete
    current : Legal B (open_lines s.current)

  none-legal : Legal B []
  none-legal c m = absurd (Memᴰ.not-nil m)

  one_more_lem : (rules : List Lines) (ls : Lines) → AllLegal rules → Legal B ls → AllLegal (rules ++ (ls ∷ []))
  one_more_lem rules ls h k t m = ⊎_elim (λ i. h t i) (λ i. subst (Legal B) (sym (only_out true i).1) k) (Memᴰ.append_cases rules m)

  line-more : (ls : Lines) (c : Line) → Legal B ls → Is (legal B c) → Legal B (ls ++ (c ∷ []))
  line-more ls c h k d m = ⊎_elim (λ i. h d i) (λ i. subst (λ (t : Line). Is (legal B t)) (sym (only_out true i).1) k) (Memᴰ.append_cases ls m)

  finished-legal : (s : Reading) → LegalSoFar s → Carries AllLegal (finished s)
  unfolding finished
  finished-legal s h = go s.current h.current
    where
      go : (o : Option Lines) → Legal B (open_lines o) → Carries AllLegal (elim o [ none ↦ accepted s.complete | some ls ↦ unless (whole ls) rules_order (accepted (s.complete ++ (ls ∷ []))) ])
      go none k = h.before
      go (some ls) k = unless_carries AllLegal (whole ls) rules_order (accepted (s.complete ++ (ls ∷ []))) (λ w. one_more_lem s.complete ls h.before k)

  abbrev with_line : Reading → Lines → Line → Reading
  with_line s ls c = record { complete = s.complete; current = some (ls ++ (c ∷ [])) }

  added-legal : (s : Reading) (c : Line) → LegalSoFar s → Carries LegalSoFar (add_line B s c)
  unfolding add_line
  added-legal s c h = go s.current h.current
    where
      go : (o : Option Lines) → Legal B (open_lines o)
          → Carries LegalSoFar (elim o [ none ↦ refused rules_order | some ls ↦ unless (follows ls c) rules_order (unless (legal B c) rules_operand (unless (levelled B ls c) wrong_level (accepted (with_line s ls c)))) ])
      go none k = tt
      go (some ls) k =
          unless_carries LegalSoFar (follows ls c) rules_order (unless (legal B c) rules_operand (unless (levelled B ls c) wrong_level (accepted (with_line s ls c)))) λ f.
          unless_carries LegalSoFar (legal B c) rules_operand (unless (levelled B ls c) wrong_level (accepted (with_line s ls c))) λ l.
          unless_carries LegalSoFar (levelled B ls c) wrong_level (accepted (with_line s ls c)) λ v. record { before = h.before; current = line-more ls c k l }

  obeyed-legal : (s : Reading) (c : Line) → LegalSoFar s → Carries LegalSoFar (obey_rule B s c)
  unfolding obey_rule
  obeyed-legal s reshapes h = tt
  obeyed-legal s opens h = then_carries AllLegal LegalSoFar (finished s) (λ done. accepted (record { complete = done; current = some [] })) (finished-legal s h) (λ done k. record { before = k; current = none-legal })
  obeyed-legal s (value w x a v) h = added-legal s (value w x a v) h
  obeyed-legal s (operations m) h = added-legal s (operations m) h
  obeyed-legal s (link a b) h = added-legal s (link a b) h
  obeyed-legal s (part j m) h = added-legal s (part j m) h
  obeyed-legal s (level l) h = added-legal s (level l) h
  obeyed-legal s ends h = then_carries AllLegal LegalSoFar (finished s) (λ done. accepted (record { complete = done; current = none })) (finished-legal s h) (λ done k. record { before = k; current = none-legal })

  body_legal : (bytes : List ℕ) → Carries AllLegal (read_body 2 B bytes)
  unfolding read_body rule_format
  body_legal bytes =
      then_carries LegalSoFar AllLegal (read (rule_format 2 B) start bytes) (λ s. accepted s.complete) (read_carries (rule_format 2 B) LegalSoFar obeyed-legal (suc (length bytes)) false start bytes (record { before = λ ls m. absurd (Memᴰ.not-nil m); current = none-legal }))
      (λ s h. h.before)

  -- THE LAW
  pub rules-legal : (bytes : List ℕ) → Carries AllLegal (read_rules 2 B bytes)
  unfolding read_rules
  rules-legal bytes = then_carries (λ rest. Unit {0}) AllLegal (opened 2 B.shape bytes) (read_body 2 B) (any-carried (opened 2 B.shape bytes)) (λ rest k. body_legal rest)

-- of both files
pub record Sound (p : Policy × List Lines) : Type 0 where
  pub sized : Sized p.0
  pub lines-legal : AllLegal (beside_of p.0) p.1

pub both-sound : (file rules : List ℕ) → Carries Sound (read_both 2 file rules)
unfolding read_both
both-sound file rules =
    then_carries Sized Sound (read_roles 2 file) (λ F. and_then (read_rules 2 (beside_of F) rules) (pair F)) (accepted-sized file)
    (λ F z. then_carries (AllLegal (beside_of F)) Sound (read_rules 2 (beside_of F) rules) (pair F) (rules-legal (beside_of F) rules) (λ ls h. record { sized = z; lines-legal = h }))
  where
    pair : Policy → List Lines → Answer (Policy × List Lines)
    pair F ls = accepted (F, ls)

-- what was made of two files that were accepted: the policy and the rules that it was made of, and what its record keeps to
pub record Accepted (file rules : List ℕ) (b : BothFiles) : Type 0 where
  pub from : From both_of b (read_both 2 file rules)
  pub sound : Sound from.value
  pub sizes : WithinLimits (sizes_of b.file)
  pub attributes : FewAttributes b.file.attributes

-- THE LAW
pub both-accepted : (file rules : List ℕ) (b : BothFiles) → accepted b ≡ map_answer both_of (read_both 2 file rules) → Accepted file rules b
unfolding both_of record_of record_with attribute_table
both-accepted file rules b e =
    let t = map-accepted both_of b (read_both 2 file rules) e in
    let z : Sound t.value = subst (Carries Sound) t.is (both-sound file rules) in
    let f = ap (λ (c : BothFiles). c.file) (sym t.made) in
    record {
      from = t;
      sound = z;
      sizes = subst (λ (g : RoleFile). WithinLimits (sizes_of g)) f (z.sized.many user, z.sized.many resource, z.sized.operable, z.sized.few);
      attributes = subst (λ (g : RoleFile). FewAttributes g.attributes) f (z.sized.declared user, z.sized.declared resource);
    }
