-- What each turn says of the command in front.
-- Assumes nothing.
use Rattle.std.specs.Prelude.{ℕ, length, Bool, cond, List, ◌≡◌, Option, Some, None, Result, Ok, Err}
use borrow.Author.Tests.{eqb-true, eqb-false, eq-eqb, ne_eqb}
use Rattle.std.proofs.Math.Dec.{eqb}
use Rattle.std.proofs.Math.Bool.{true, false}
use Rattle.std.proofs.Common.{⊎_elim, sym, ◌∙◌}
use Rattle.std.proofs.Math.Path.{refl, ap, subst}
use Rattle.rule_commands.specs.Raw.{raw_of}
use Rattle.rule_reading.specs.Turns.{closes_rule, closing_turn, line_turn, turn_by, turn_of}
use Rattle.rule_operands.specs.Checked.{checked_of}
use Rattle.rule_notes.specs.Tally.{may_close, follows_with, levelled_with}
use Rattle.sets.specs.TestLaws.{or_out}
use Rattle.files.specs.declared.refusal.Refusal.{Refusal}
use Rattle.files.specs.declared.refusal.Refusal.TheVariants.{RulesOrder, RulesOperand, WrongLevel}
use Rattle.role_record.specs.declared.RoleFile.{RoleFile}
use Rattle.rule_commands.specs.declared.Raw.{Raw}
use Rattle.rule_commands.specs.declared.RuleCommand.{RuleCommand}
use Rattle.rule_reading.specs.declared.Turn.{Turn}
use Rattle.rule_reading.specs.declared.Turn.TheVariants.{Opens, Ends, Line}
use Rattle.rule_notes.specs.declared.Tally.{Tally}

-- ---- the code's ways to a turn

module _ (k : Tally) (b w left : ℕ) where
  pub close_refused : may_close k ≡ false → Err RulesOrder ≡ closing_turn k b w left
  unfolding closing_turn
  close_refused e = rw e refl

  pub close_opens : may_close k ≡ true → b ≡ 0x21 → Ok (Opens w) ≡ closing_turn k b w left
  unfolding closing_turn
  close_opens e h = rw (e, h) refl

  pub close_late : may_close k ≡ true → (b ≡ 0x21 → ⊥) → (w ≡ left → ⊥) → Err RulesOrder ≡ closing_turn k b w left
  unfolding closing_turn
  close_late e h n = rw (e, ne_eqb b 0x21 h, ne_eqb w left n) refl

  pub close_ends : may_close k ≡ true → (b ≡ 0x21 → ⊥) → w ≡ left → Ok Ends ≡ closing_turn k b w left
  unfolding closing_turn
  close_ends e h n = rw (e, ne_eqb b 0x21 h, eq-eqb w left n) refl

-- a legal line, which tells no wrong level, and which does
pub line-right : {o : Option RuleCommand} {l : Bool} (c : RuleCommand) (a : Raw) (w : ℕ) → o ≡ Some c → l ≡ true → Ok (Line c a w) ≡ line_turn o l a w
unfolding line_turn
line-right c a w e f = rw (e, f) refl

pub line-wrong : {o : Option RuleCommand} {l : Bool} (c : RuleCommand) (a : Raw) (w : ℕ) → o ≡ Some c → l ≡ false → Err WrongLevel ≡ line_turn o l a w
unfolding line_turn
line-wrong c a w e f = rw (e, f) refl

module _ (k : Tally) (s : List ℕ) (f : RoleFile) where
  pub turn-fails : (e : Refusal) → raw_of s ≡ Err e → Err e ≡ turn_of k s f
  unfolding turn_of turn_by
  turn-fails e h = rw h refl

  module _ (a : Raw) (w : ℕ) (e : raw_of s ≡ Ok (a, w)) where
    pub turn-closing : closes_rule a.byte ≡ true → closing_turn k a.byte w (length s) ≡ turn_of k s f
    unfolding turn_of turn_by
    turn-closing h = rw (e, h) refl

    pub turn-misplaced : closes_rule a.byte ≡ false → follows_with k a ≡ false → Err RulesOrder ≡ turn_of k s f
    unfolding turn_of turn_by
    turn-misplaced h p = rw (e, h, p) refl

    pub turn-line : closes_rule a.byte ≡ false → follows_with k a ≡ true → line_turn (checked_of a f) (levelled_with k a) a w ≡ turn_of k s f
    unfolding turn_of turn_by
    turn-line h p = rw (e, h, p) refl

-- ---- what a turn says

module _ (k : Tally) (s : List ℕ) (f : RoleFile) where
  -- why a line is refused
  pub data Refuses : Refusal → Type 0 where
    failed : (e : Refusal) → raw_of s ≡ Err e → Refuses e
    unfinished : (a : Raw) (w : ℕ) → raw_of s ≡ Ok (a, w) → closes_rule a.byte ≡ true → may_close k ≡ false → Refuses RulesOrder
    late : (a : Raw) (w : ℕ) → raw_of s ≡ Ok (a, w) → may_close k ≡ true → a.byte ≡ 0x2F → (w ≡ length s → ⊥) → Refuses RulesOrder
    misplaced : (a : Raw) (w : ℕ) → raw_of s ≡ Ok (a, w) → closes_rule a.byte ≡ false → follows_with k a ≡ false → Refuses RulesOrder
    illegal : (a : Raw) (w : ℕ) → raw_of s ≡ Ok (a, w) → closes_rule a.byte ≡ false → follows_with k a ≡ true → checked_of a f ≡ None → Refuses RulesOperand
    unlevelled : (a : Raw) (w : ℕ) (c : RuleCommand) → raw_of s ≡ Ok (a, w) → closes_rule a.byte ≡ false → follows_with k a ≡ true → checked_of a f ≡ Some c → levelled_with k a ≡ false → Refuses WrongLevel

  -- a 21 or 2F
  pub record Closing (b w : ℕ) : Type 0 where
    pub line : Raw
    pub front : raw_of s ≡ Ok (line, w)
    pub closes : line.byte ≡ b
    pub closable : may_close k ≡ true

  -- a line of the open rule
  pub record Lining (c : RuleCommand) (a : Raw) (w : ℕ) : Type 0 where
    pub front : raw_of s ≡ Ok (a, w)
    pub lines : closes_rule a.byte ≡ false
    pub placed : follows_with k a ≡ true
    pub made : checked_of a f ≡ Some c
    pub told : levelled_with k a ≡ true

  unfoldable pub Turned : Result Turn Refusal → Type 0
  Turned (Err e) = Refuses e
  Turned (Ok (Opens w)) = Closing 0x21 w
  Turned (Ok Ends) = Closing 0x2F (length s)
  Turned (Ok (Line c a w)) = Lining c a w

  -- a command that closes and is no 21 is a 2F
  is-ending : (b : ℕ) → closes_rule b ≡ true → eqb b 0x21 ≡ false → b ≡ 0x2F
  is-ending b h n = ⊎_elim (λ p. absurd (eqb-false b 0x21 n (eqb-true b 0x21 p))) (λ p. eqb-true b 0x2F p) (or_out (eqb b 0x21) (eqb b 0x2F) h)

  module _ (a : Raw) (w : ℕ) (e : raw_of s ≡ Ok (a, w)) where
    closing-turned : closes_rule a.byte ≡ true → Turned (closing_turn k a.byte w (length s))
    unfolding closing_turn Turned
    closing-turned h = go (may_close k) (eqb a.byte 0x21) (eqb w (length s)) refl refl refl
      where
        go : (m o l : Bool) → may_close k ≡ m → eqb a.byte 0x21 ≡ o → eqb w (length s) ≡ l → Turned (cond m (cond o (Ok (Opens w)) (cond l (Ok Ends) (Err RulesOrder))) (Err RulesOrder))
        go true true l p q r = record { line = a; front = e; closes = eqb-true a.byte 0x21 q; closable = p }
        go true false true p q r = record { line = a; front = e ∙ ap (λ (n : ℕ). Ok (a, n)) (eqb-true w (length s) r); closes = is-ending a.byte h q; closable = p }
        go true false false p q r = late a w e p (is-ending a.byte h q) (eqb-false w (length s) r)
        go false o l p q r = unfinished a w e h p

    whole-turned : Turned (turn_by k s f (Ok (a, w)))
    unfolding turn_by line_turn Turned
    whole-turned = go (closes_rule a.byte) (follows_with k a) (checked_of a f) (levelled_with k a) refl refl refl refl
      where
        go : (o t : Bool) (m : Option RuleCommand) (l : Bool) → closes_rule a.byte ≡ o → follows_with k a ≡ t → checked_of a f ≡ m → levelled_with k a ≡ l
            → Turned (cond o (closing_turn k a.byte w (length s)) (cond t (line_turn m l a w) (Err RulesOrder)))
        go true t m l p q r v = closing-turned p
        go false true (Some c) true p q r v = record { front = e; lines = p; placed = q; made = r; told = v }
        go false true (Some c) false p q r v = unlevelled a w c e p q r v
        go false true None l p q r v = illegal a w e p q r
        go false false m l p q r v = misplaced a w e p q

  turned : Turned (turn_of k s f)
  unfolding turn_of turn_by Turned
  turned = go (raw_of s) refl
    where
      go : (r : Result (Raw × ℕ) Refusal) → raw_of s ≡ r → Turned (turn_by k s f r)
      go (Err e) h = failed e h
      go (Ok p) h = whole-turned p.0 p.1 h

  -- THE LAWS, of a turn that the code has taken
  module _ (r : Result Turn Refusal) (h : r ≡ turn_of k s f) where
    pub turned-refused : (e : Refusal) → r ≡ Err e → Refuses e
    unfolding Turned
    turned-refused e g = subst Turned (sym h ∙ g) turned

    pub turned-opens : (w : ℕ) → r ≡ Ok (Opens w) → Closing 0x21 w
    unfolding Turned
    turned-opens w g = subst Turned (sym h ∙ g) turned

    pub turned-ends : r ≡ Ok Ends → Closing 0x2F (length s)
    unfolding Turned
    turned-ends g = subst Turned (sym h ∙ g) turned

    pub turned-line : (c : RuleCommand) (a : Raw) (w : ℕ) → r ≡ Ok (Line c a w) → Lining c a w
    unfolding Turned
    turned-line c a w g = subst Turned (sym h ∙ g) turned
