-- A command is refused just where its operands are illegal, and the command made is the one that the numbers stand for.
-- Assumes nothing.
use Rattle.std.specs.Prelude.{ℕ, ◌<◌, get_or, Bool, cond, ◌≡◌, Some, None}
use borrow.Author.Tests.{ne_eqb}
use Rattle.std.proofs.Math.Bool.{true, false}
use Rattle.std.proofs.Math.Path.{refl, sym, ap}
use Rattle.std.proofs.Common.{◌∙◌, subst, arith}
use Rattle.role_record.specs.Record.{Sized, attribute_table, kind_table, record_with, record_of}
use Rattle.role_record.specs.declared.RoleFile.{RoleFile}
use Rattle.files.specs.Beside.{beside_of}
use Rattle.files.specs.RoleFile.{side_by}
use Rattle.files.specs.RuleFile.{legal, value, link}
use Rattle.rule_operands.specs.Checked.{legal_if, value_command, atom_of, checked_value, checked_operations, checked_link, checked_part, checked_of}
use Rattle.rule_legal.specs.OperandLaws.{value_means, link_means}
use Rattle.rule_operands.specs.PartLegalLaws.{part_means}
use Rattle.policy.specs.Policy.{Policy, setting_of}
use Rattle.policy.specs.Rules.{resource}
use Rattle.rule_commands.specs.Raw.{line, command_of, link_meaning, rule_meaning, Sided, Shape, shape-opens, shape_user_single, shape_user_set, shape_resource_single, shape_resource_set, shape-operations, shape-link, shape-part, shape-level, shape-ends}
use Rattle.sets.specs.Sets.{bit}
use Rattle.sets.specs.Tests.{Is}
use Rattle.rule_commands.specs.declared.Raw.{Raw}
use Rattle.rule_commands.specs.declared.Atom.TheVariants.{SetContainsSet, SetContainsSingle, SingleEqualsSingle}
use Rattle.rule_commands.specs.declared.RuleCommand.{RuleCommand}
use Rattle.rule_commands.specs.declared.RuleCommand.TheVariants.{Opens, Operations, Link, Part, Level, Ends}

-- ---- what the code works out

-- a test that the code has made, and the command that it makes behind it
pub made : (t p : Bool) (c d : RuleCommand) → p ≡ t → Is p → c ≡ d → Some c ≡ legal_if t d
made t p c d e h k = rw (← e, h, k) refl

pub not_made : (t p : Bool) (d : RuleCommand) → p ≡ t → p ≡ false → None ≡ legal_if t d
not_made t p d e h = rw (← e, h) refl

-- what each byte comes to
module _ (a : Raw) (f : RoleFile) where
  pub at-opens : a.byte ≡ 0x21 → Some Opens ≡ checked_of a f
  unfolding checked_of
  at-opens e = rw e refl

  pub at_user_single : a.byte ≡ 0x22 → checked_value 0 false a.first a.second f.roles f.resources f.attributes f.kinds ≡ checked_of a f
  unfolding checked_of
  at_user_single e = rw e refl

  pub at_user_set : a.byte ≡ 0x23 → checked_value 0 true a.first a.second f.roles f.resources f.attributes f.kinds ≡ checked_of a f
  unfolding checked_of
  at_user_set e = rw e refl

  pub at_resource_single : a.byte ≡ 0x24 → checked_value 1 false a.first a.second f.roles f.resources f.attributes f.kinds ≡ checked_of a f
  unfolding checked_of
  at_resource_single e = rw e refl

  pub at_resource_set : a.byte ≡ 0x25 → checked_value 1 true a.first a.second f.roles f.resources f.attributes f.kinds ≡ checked_of a f
  unfolding checked_of
  at_resource_set e = rw e refl

  pub at-operations : a.byte ≡ 0x26 → checked_operations a.first f.operations ≡ checked_of a f
  unfolding checked_of
  at-operations e = rw e refl

  pub at-link : a.byte ≡ 0x27 → checked_link a.first a.second f.attributes f.kinds f.domains ≡ checked_of a f
  unfolding checked_of
  at-link e = rw e refl

  pub at_part : a.byte ≡ 0x28 → checked_part a.first a.second f.roles f.operations f.holders f.permissions ≡ checked_of a f
  unfolding checked_of
  at_part e = rw e refl

  pub at_level : a.byte ≡ 0x29 → Some (Level a.first) ≡ checked_of a f
  unfolding checked_of
  at_level e = rw e refl

  pub at_rest : (a.byte ≡ 0x21 → ⊥) → (a.byte ≡ 0x22 → ⊥) → (a.byte ≡ 0x23 → ⊥) → (a.byte ≡ 0x24 → ⊥) → (a.byte ≡ 0x25 → ⊥) → (a.byte ≡ 0x26 → ⊥) → (a.byte ≡ 0x27 → ⊥) → (a.byte ≡ 0x28 → ⊥) → (a.byte ≡ 0x29 → ⊥)
      → Some Ends ≡ checked_of a f
  unfolding checked_of
  at_rest n1 n2 n3 n4 n5 n6 n7 n8 n9 =
      rw (ne_eqb a.byte 0x21 n1, ne_eqb a.byte 0x22 n2, ne_eqb a.byte 0x23 n3, ne_eqb a.byte 0x24 n4, ne_eqb a.byte 0x25 n5, ne_eqb a.byte 0x26 n6, ne_eqb a.byte 0x27 n7, ne_eqb a.byte 0x28 n8, ne_eqb a.byte 0x29 n9) refl

-- ---- what an answer says

answer-illegal : (t : Bool) (c : RuleCommand) → legal_if t c ≡ None → t ≡ false
answer-illegal true c e = let z : ◌≡◌ {A = ℕ} 0 1 = cc in absurd (omega arith)
answer-illegal false c e = refl

answer-legal : (t : Bool) (c d : RuleCommand) → legal_if t c ≡ Some d → Is t × (c ≡ d)
answer-legal true c d e = (refl, cc)
answer-legal false c d e = let z : ◌≡◌ {A = ℕ} 0 1 = cc in absurd (omega arith)

-- ---- atoms
-- an atom joins the two attributes, whatever its form
atom-joins : (x y : Bool) (a b : ℕ) → link_meaning (cond x (cond y (SetContainsSet a b) (SetContainsSingle a b)) (SingleEqualsSingle a b)) ≡ link a b
atom-joins true true a b = refl
atom-joins true false a b = refl
atom-joins false y a b = refl

module _ (F : Policy) (Z : Sized F) where
  -- the command made of a line stands for it, and is the answer if it is legal
  record Answered (a : Raw) : Type 0 where
    command : RuleCommand
    stands : rule_meaning command ≡ command_of a
    sided : Sided command
    answer : checked_of a (record_of F) ≡ legal_if (legal (beside_of F) (command_of a)) command

  -- a line that lists a value
  value-answered : (side : ℕ) (set : Bool) (a : Raw) → side < 2 → command_of a ≡ value (side_by side) set a.first a.second
      → checked_of a (record_of F) ≡ checked_value side set a.first a.second F.roles (F.table resource).count (attribute_table F) (kind_table F) → Answered a
  unfolding checked_value Sided
  value-answered side set a h e k = record {
    command = value_command side set a.first a.second;
    stands = sym e;
    sided = h;
    answer = k ∙ ap (λ (t : Bool). legal_if t (value_command side set a.first a.second)) (value_means F Z side set a.first a.second h ∙ ap (legal (beside_of F)) (sym e));
  }

  answered : {a : Raw} → Shape a → Answered a
  unfolding checked_of checked_operations checked_link checked_part atom_of command_of legal setting_of Sided record_of record_with
  answered shape-opens = record { command = Opens; stands = refl; sided = tt; answer = refl }
  answered (shape_user_single a v) = value-answered 0 false (line 0x22 a v) (omega arith) refl refl
  answered (shape_user_set a v) = value-answered 0 true (line 0x23 a v) (omega arith) refl refl
  answered (shape_resource_single a v) = value-answered 1 false (line 0x24 a v) (omega arith) refl refl
  answered (shape_resource_set a v) = value-answered 1 true (line 0x25 a v) (omega arith) refl refl
  answered (shape-operations m) = record { command = Operations m; stands = refl; sided = tt; answer = refl }
  answered (shape-link a b) = record {
    command = Link (atom_of a b (kind_table F));
    stands = atom-joins (bit (get_or (kind_table F) 0 0) a) (bit (get_or (kind_table F) 1 0) b) a b;
    sided = tt;
    answer = ap (λ (t : Bool). legal_if t (Link (atom_of a b (kind_table F)))) (link_means F Z a b);
  }
  answered (shape-part k m) = record { command = Part k m; stands = refl; sided = tt; answer = ap (λ (t : Bool). legal_if t (Part k m)) (part_means F Z k m) }
  answered (shape-level l) = record { command = Level l; stands = refl; sided = tt; answer = refl }
  answered shape-ends = record { command = Ends; stands = refl; sided = tt; answer = refl }

  -- THE LAWS
  pub checked-illegal : {a : Raw} → Shape a → checked_of a (record_of F) ≡ None → legal (beside_of F) (command_of a) ≡ false
  checked-illegal {a} s e = let t = answered s in answer-illegal (legal (beside_of F) (command_of a)) t.command (sym t.answer ∙ e)

  pub checked-legal : {a : Raw} → Shape a → (c : RuleCommand) → checked_of a (record_of F) ≡ Some c
      → Is (legal (beside_of F) (command_of a)) × (rule_meaning c ≡ command_of a) × Sided c
  checked-legal {a} s c e =
      let t = answered s in
      let k = answer-legal (legal (beside_of F) (command_of a)) t.command c (sym t.answer ∙ e) in
      (k.0, ap rule_meaning (sym k.1) ∙ t.stands, subst Sided k.1 t.sided)
