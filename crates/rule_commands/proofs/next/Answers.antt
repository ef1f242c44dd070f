use borrow.Author.Tests.{ne_eqb}
use lib.ListN.{length}
use mathlib.Core.List.{[], List, ◌∷◌}
use mathlib.Core.Logic.{inl, inr, ⊎_elim}
use mathlib.Core.Option.{none, some}
use mathlib.Core.Path.{◌≡◌, refl, sym, ap, ◌∙◌}
use Prim.Native.Nat.{ℕ}
use Rattle.std.proofs.lemmas.Bool.{eqb-false}
use Rattle.files.specs.RuleFile.{rule_widths}
use Rattle.rule_commands.specs.Raw.{taken_by, raw_by, raw_of}
use Rattle.rule_commands.specs.RawLaws.{raw_at}
use Rattle.rule_commands.proofs.next.Goals as goal
use Rattle.rule_commands.proofs.next.Goals.{After-byte_at-b}

-- some bytes are there
there : (c : After-byte_at-b) → length c.args.s.now ≡ 0 → ⊥
there c = eqb-false (length c.args.s.now) 0 (sym c.is_empty.ensures ∙ c.if-is_empty.false)

-- the widths of the command's operands decide
known : (c : After-byte_at-b) (ws : List ℕ) → rule_widths 2 c.byte_at-b.result ≡ some ws → taken_by ws c.byte_at-b.result c.args.s.now ≡ raw_of c.args.s.now
unfolding raw_by
known c ws e = raw_at c.args.s.now c.byte_at-b.result (some ws) (there c) c.byte_at-b.ensures.0 e

pub returns-then-is_empty : goal.returns-then-is_empty
unfolding raw_of
returns-then-is_empty c = rw (sym c.is_empty.ensures ∙ c.if-is_empty.true) refl

pub returns-in-33 : goal.returns-in-33
unfolding taken_by
returns-in-33 c = c.taken.ensures ∙ known (goal.at.returns-in-33 c).After-byte_at-b [] (⊎_elim (ap (rule_widths 2)) (ap (rule_widths 2)) c.in-33.is)

pub returns-in-34 : goal.returns-in-34
unfolding taken_by
returns-in-34 c =
    c.taken-in-34.ensures
    ∙ known (goal.at.returns-in-34 c).After-byte_at-b (1 ∷ 2 ∷ []) (⊎_elim (ap (rule_widths 2)) (⊎_elim (ap (rule_widths 2)) (ap (rule_widths 2))) c.in-34.is)

pub returns-in-35 : goal.returns-in-35
unfolding taken_by
returns-in-35 c = c.taken-in-35.ensures ∙ known (goal.at.returns-in-35 c).After-byte_at-b (1 ∷ 8 ∷ []) (⊎_elim (ap (rule_widths 2)) (ap (rule_widths 2)) c.in-35.is)

pub returns-in-38 : goal.returns-in-38
unfolding taken_by
returns-in-38 c = c.taken-in-38.ensures ∙ known (goal.at.returns-in-38 c).After-byte_at-b (2 ∷ []) (ap (rule_widths 2) c.in-38.is)

pub returns-in-39 : goal.returns-in-39
unfolding taken_by
returns-in-39 c = c.taken-in-39.ensures ∙ known (goal.at.returns-in-39 c).After-byte_at-b (1 ∷ 1 ∷ []) (ap (rule_widths 2) c.in-39.is)

pub returns-in-32 : goal.returns-in-32
unfolding taken_by
returns-in-32 c = c.taken-in-32.ensures ∙ known (goal.at.returns-in-32 c).After-byte_at-b (1 ∷ 1 ∷ 1 ∷ 1 ∷ 1 ∷ 1 ∷ []) (ap (rule_widths 2) c.in-32.is)

pub returns-in-41 : goal.returns-in-41
unfolding taken_by
returns-in-41 c = c.taken-in-41.ensures ∙ known (goal.at.returns-in-41 c).After-byte_at-b (1 ∷ []) (ap (rule_widths 2) c.in-41.is)

pub returns-in_default : goal.returns-in_default
unfolding raw_by
returns-in_default c =
    let at = (goal.at.returns-in_default c).After-byte_at-b in
    let other = c.in_default.in_default-own.rest in
    let bare = other.0.0.0.0.0.0.1 in
    let pairs = other.0.0.0.0.0.1 in
    let words = other.0.0.0.0.1 in
    raw_at c.args.s.now c.byte_at-b.result none (there at) c.byte_at-b.ensures.0
    (simp
    (ne_eqb _ _ (λ e. bare (inl e)), ne_eqb _ _ (λ e. bare (inr e)), ne_eqb _ _ (λ e. pairs (inl e)), ne_eqb _ _ (λ e. pairs (inr (inl e))), ne_eqb _ _ (λ e. pairs (inr (inr e))), ne_eqb _ _ (λ e. words (inl e)), ne_eqb _ _ (λ e. words (inr e)), ne_eqb _ _ other.0.0.0.1, ne_eqb _ _ other.0.0.1, ne_eqb _ _ other.0.1, ne_eqb _ _ other.1))
