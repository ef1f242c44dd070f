-- What the first command of a rule file comes to, by what is taken from its front; and what stands behind it.
-- Assumes nothing.
use Rattle.std.specs.Prelude.{ℕ, suc, ◌≤◌, eqb, length, drop, Bool, ◌&&◌, ◌≡◌, Result, Ok, Err}
use Rattle.std.proofs.Common.{eqb-true, eq-eqb, ne_eqb, sym, ◌∙◌, subst, arith}
use Rattle.std.proofs.lemmas.Bool.{eqb-false}
use Rattle.std.proofs.Math.Bool.{true, false, and-true}
use mathlib.Core.List.{List, [], ◌∷◌}
use Rattle.std.proofs.Math.Option.{Option, none, some}
use Rattle.std.proofs.Math.Path.{refl, ap}
use Rattle.file_bytes.specs.Numbers.{number_at, total_of, numbers_at}
use Rattle.files.specs.Answer.{Refusal as Cause, Answer, map_answer, unless, and_then, rules_unknown, rules_order, wrong_shape, refused, accepted}
use Rattle.files.specs.Beside.{Beside, shape_of}
use Rattle.files.specs.Bytes.{operands}
use Rattle.files.specs.Cause.{cause}
use Rattle.files.specs.declared.refusal.Refusal.{Refusal}
use Rattle.files.specs.declared.refusal.Refusal.TheVariants.{RulesCutOff}
use Rattle.files.specs.RuleFile.{same_numbers, opened_by, widths_or, rule_widths, Lines, opened, read_body, read_rules}
use Rattle.policy.specs.Policy.{Policy}
use Rattle.role_record.specs.Record.{attribute_table, record_with, record_of}
use Rattle.rule_commands.specs.Raw.{raw_of}
use Rattle.rule_commands.specs.RawLaws.{raw_none, Fails, cut, strange, front-fails, front-whole, front-taken}
use Rattle.rule_commands.specs.declared.Raw.{Raw}
use Rattle.rule_opening.specs.Opening.{shape_in, opening_of}
use Rattle.sets.specs.TestLaws.{test}

-- six operands of one byte each
abbrev pub six : List ℕ
six = 1 ∷ 1 ∷ 1 ∷ 1 ∷ 1 ∷ 1 ∷ []

-- six bytes that are compared one by one
pub same-six : (l : List ℕ) (a b c d e f u r o k m n : ℕ) → a ≡ number_at 1 l 1 → b ≡ number_at 1 l 2 → c ≡ number_at 1 l 3 → d ≡ number_at 1 l 4 → e ≡ number_at 1 l 5 → f ≡ number_at 1 l 6
    → (eqb a u && (eqb b r && (eqb c o && (eqb d k && (eqb e m && eqb f n))))) ≡ same_numbers (numbers_at six l 1) (u ∷ r ∷ o ∷ k ∷ m ∷ n ∷ [])
same-six l a b c d e f u r o k m n p1 p2 p3 p4 p5 p6 = rw (p1, p2, p3, p4, p5, p6, and-true (eqb (number_at 1 l 6) n)) refl

-- the record's shape is the policy's
pub shape-so : (F : Policy) → shape_in (record { users = (record_of F).users; resources = (record_of F).resources; operations = (record_of F).operations; roles = (record_of F).roles }) (record_of F).attributes ≡ shape_of F
unfolding record_of record_with attribute_table
shape-so F = refl

module _ (shape : List ℕ) where
  -- by the widths of the first byte
  abbrev by_widths : ℕ → List ℕ → Option (List ℕ) → Answer (List ℕ)
  by_widths b bs none = refused rules_unknown
  by_widths b bs (some ws) = opened_by shape b (operands ws bs)

  opened-by : (b : ℕ) (bs : List ℕ) (o : Option (List ℕ)) → rule_widths 2 b ≡ o → opened 2 shape (b ∷ bs) ≡ by_widths b bs o
  unfolding opened
  opened-by b bs o e = by_option (rule_widths 2 b) ∙ ap (by_widths b bs) e
    where
      by_option : (o : Option (List ℕ)) → (elim o as (λ _. Answer (List ℕ)) [ none ↦ refused rules_unknown | some ws ↦ opened_by shape b (operands ws bs) ]) ≡ by_widths b bs o
      by_option none = refl
      by_option (some ws) = refl

  -- nothing, less than a line, or an unknown command
  opened-fails : (l : List ℕ) (e : Refusal) → raw_of l ≡ Err e → opened 2 shape l ≡ refused (cause e)
  unfolding opened
  opened-fails [] e h = let q = sym raw_none ∙ h in let c : RulesCutOff ≡ e = cc in ap (λ (d : Refusal). refused (cause d)) c
  opened-fails (b ∷ bs) e h = go (front-fails b bs e h)
    where
      go : Fails b bs e → opened 2 shape (b ∷ bs) ≡ refused (cause e)
      go (cut ws o p q) = opened-by b bs (some ws) o ∙ ap (opened_by shape b) p ∙ ap (λ (d : Refusal). refused (cause d)) q
      go (strange o q) = opened-by b bs none o ∙ ap (λ (d : Refusal). refused (cause d)) q

  -- a known command other than 20
  opened-other : (l : List ℕ) (a : Raw) (w : ℕ) → raw_of l ≡ Ok (a, w) → (a.byte ≡ 0x20 → ⊥) → opened 2 shape l ≡ refused rules_order
  opened-other [] a w e n = let q = sym raw_none ∙ e in let z : ◌≡◌ {A = ℕ} 0 1 = cc in absurd (omega arith)
  opened-other (c ∷ cs) a w e n =
      let f = front-whole c cs a w e in
      let k : c ≡ a.byte = ap (λ (t : Raw). t.byte) f.is in
      opened-by c cs (some f.widths) f.known ∙ ap (opened_by shape c) (front-taken c cs a w f)
      ∙ ap (λ (t : Bool). unless t rules_order (unless (same_numbers (numbers_at f.widths (c ∷ cs) 1) shape) wrong_shape (accepted (drop w (c ∷ cs))))) (ne_eqb c 0x20 (λ z. n (sym k ∙ z)))

  -- a 20: its operands decide
  pub record Shaping (l : List ℕ) : Type 0 where
    pub long : 7 ≤ length l
    pub comes : opened 2 shape l ≡ unless (same_numbers (numbers_at six l 1) shape) wrong_shape (accepted (drop 7 l))

  shaping : (l : List ℕ) (a : Raw) (w : ℕ) → raw_of l ≡ Ok (a, w) → a.byte ≡ 0x20 → Shaping l
  shaping [] a w e n = let q = sym raw_none ∙ e in let z : ◌≡◌ {A = ℕ} 0 1 = cc in absurd (omega arith)
  shaping (c ∷ cs) a w e n =
      let f = front-whole c cs a w e in
      let k : c ≡ 0x20 = ap (λ (t : Raw). t.byte) f.is ∙ n in
      let ws : six ≡ f.widths = ap widths_or (ap (rule_widths 2) (sym k) ∙ f.known) in
      go f.widths ws f.fits f.size k (opened-by c cs (some f.widths) f.known ∙ ap (opened_by shape c) (front-taken c cs a w f))
    where
      go : (v : List ℕ) → six ≡ v → suc (total_of v) ≤ suc (length cs) → suc (total_of v) ≡ w → c ≡ 0x20 → opened 2 shape (c ∷ cs) ≡ opened_by shape c (some (numbers_at v (c ∷ cs) 1, drop w (c ∷ cs))) → Shaping (c ∷ cs)
      go v q h s k t =
          let m : suc (total_of six) ≤ suc (length cs) = subst (λ (u : List ℕ). suc (total_of u) ≤ suc (length cs)) (sym q) h in
          let r : 7 ≡ w = ap (λ (u : List ℕ). suc (total_of u)) q ∙ s in
          record {
            long = m;
            comes =
                t
                ∙ ap (λ (d : Bool). unless d rules_order (unless (same_numbers (numbers_at v (c ∷ cs) 1) shape) wrong_shape (accepted (drop w (c ∷ cs))))) (eq-eqb c 0x20 k)
                ∙ ap (λ (u : List ℕ). unless (same_numbers (numbers_at u (c ∷ cs) 1) shape) wrong_shape (accepted (drop w (c ∷ cs)))) (sym q)
                ∙ ap (λ (u : ℕ). unless (same_numbers (numbers_at six (c ∷ cs) 1) shape) wrong_shape (accepted (drop u (c ∷ cs)))) (sym r);
          }

  -- ---- as the code works it out

  pub opening-fails : (l : List ℕ) (e : Refusal) → raw_of l ≡ Err e → refused (cause e) ≡ opening_of shape l
  opening-fails l e h = ap (map_answer (λ rest. tt)) (sym (opened-fails l e h))

  module _ (l : List ℕ) (a : Raw) (w : ℕ) (e : raw_of l ≡ Ok (a, w)) where
    pub opening-other : (a.byte ≡ 0x20 → ⊥) → refused rules_order ≡ opening_of shape l
    opening-other n = ap (map_answer (λ rest. tt)) (sym (opened-other l a w e n))

    module _ (n : a.byte ≡ 0x20) where
      by-operands : (t : Bool) → same_numbers (numbers_at six l 1) shape ≡ t → opened 2 shape l ≡ unless t wrong_shape (accepted (drop 7 l))
      by-operands t q = (shaping l a w e n).comes ∙ ap (λ (u : Bool). unless u wrong_shape (accepted (drop 7 l))) q

      pub opening-unlike : same_numbers (numbers_at six l 1) shape ≡ false → refused wrong_shape ≡ opening_of shape l
      opening-unlike q = ap (map_answer (λ rest. tt)) (sym (by-operands false q))

      pub opening-alike : same_numbers (numbers_at six l 1) shape ≡ true → accepted tt ≡ opening_of shape l
      opening-alike q = ap (map_answer (λ rest. tt)) (sym (by-operands true q))

  -- THE LAW: behind a first command that is taken, and that takes seven bytes, reading goes on
  pub opened-rest : (l r : List ℕ) → opened 2 shape l ≡ accepted r → (7 ≤ length l) × (opened 2 shape l ≡ accepted (drop 7 l))
  opened-rest l r h = go (raw_of l) refl
    where
      unlike : {e : Cause} → opened 2 shape l ≡ refused e → (7 ≤ length l) × (opened 2 shape l ≡ accepted (drop 7 l))
      unlike q = let t = sym q ∙ h in let z : ◌≡◌ {A = ℕ} 0 1 = cc in absurd (omega arith)

      go : (t : Result (Raw × ℕ) Refusal) → raw_of l ≡ t → (7 ≤ length l) × (opened 2 shape l ≡ accepted (drop 7 l))
      go (Err e) o = unlike (opened-fails l e o)
      go (Ok p) o =
          test (eqb p.0.byte 0x20)
          (λ s. test (same_numbers (numbers_at six l 1) shape)
          (λ t. ((shaping l p.0 p.1 o (eqb-true p.0.byte 0x20 s)).long, by-operands l p.0 p.1 o (eqb-true p.0.byte 0x20 s) true t))
          (λ t. unlike (by-operands l p.0 p.1 o (eqb-true p.0.byte 0x20 s) false t)))
          (λ s. unlike (opened-other l p.0 p.1 o (eqb-false p.0.byte 0x20 s)))

-- of an accepted file what stands behind the first command was read
pub accepted_body : (B : Beside) (s : List ℕ) (rules : List Lines) → read_rules 2 B s ≡ accepted rules → (7 ≤ length s) × (read_body 2 B (drop 7 s) ≡ accepted rules)
unfolding read_rules
accepted_body B s rules e = go (opened 2 B.shape s) refl e
  where
    go : (a : Answer (List ℕ)) → opened 2 B.shape s ≡ a → and_then a (read_body 2 B) ≡ accepted rules → (7 ≤ length s) × (read_body 2 B (drop 7 s) ≡ accepted rules)
    go (refused d) o k = let z : ◌≡◌ {A = ℕ} 0 1 = cc in absurd (omega arith)
    go (accepted r) o k =
        let t = opened-rest B.shape s r o in
        (t.0, ap (λ (a : Answer (List ℕ)). and_then a (read_body 2 B)) (sym t.1) ∙ e)
