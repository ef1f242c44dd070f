-- Telling a legal rule file line by line: behind each 21 that is met stand the lines of the rule whose number is told.
-- Assumes nothing.
use Prim.Native.Nat.{ℕ, zero, suc, ◌+◌, ◌≤◌}
use Rattle.std.specs.Prelude.{length, drop, Bool, ◌⊎◌, ◌≡◌, Result, Ok, Err}
use Rattle.std.proofs.Common.{length-drop, ap, ◌∙◌, arith}
use Rattle.std.proofs.Math.Bool.{true, false}
use mathlib.Core.List.{List, [], ◌∷◌, ◌++◌}
use Rattle.std.proofs.Math.Logic.{inl, inr}
use Rattle.std.proofs.Math.Option.{Option, none, some}
use Rattle.std.proofs.Math.Path.{refl, sym, subst}
use Rattle.rule_words.specs.Telling.{AcceptedRules}
use Rattle.files.specs.Beside.{beside_of}
use Rattle.files.specs.Answer.{Answer, and_then, unless, rules_order, rules_operand, wrong_level, refused, accepted}
use Rattle.files.specs.Calls.{read_both}
use Rattle.files.specs.RoleFile.{read_roles}
use Rattle.files.specs.RuleFile.{RuleCommand, Lines, Reading, whole, finished, follows, legal, levelled, add_line, obey_rule, ends_file, read_body, read_rules, opens, ends}
use Rattle.policy.specs.Policy.{Policy, setting_of, roles_in}
use Rattle.rule_commands.specs.Raw.{raw_of, command_of, Shape, shape-opens, shape_user_single, shape_user_set, shape_resource_single, shape_resource_set, shape-operations, shape-link, shape-part, shape-level, shape-ends}
use Rattle.rule_opening.specs.OpeningLaws.{accepted_body}
use Rattle.rule_commands.specs.RawLaws.{raw_whole, accepted-shape, raw_none}
use Rattle.rule_commands.specs.declared.Raw.{Raw}
use Rattle.sets.specs.ListLaws.{length_last}
use Rattle.rule_headings.specs.Headings.{RuleAt}
use Rattle.rule_headings.specs.RuleLevelLaws.{comes_to, on_from, refuted}

-- how many rules were opened
abbrev begun_of : List Lines → Option Lines → ℕ
begun_of complete none = length complete
begun_of complete (some ls) = suc (length complete)

module _ (F : Policy) (rules : List Lines) where
  -- the reader goes on from here and comes to the rules, having opened so many; or the file is over
  pub data Onward (n number : ℕ) (rest : List ℕ) : Type 0 where
    going : (complete : List Lines) (current : Option Lines) → number ≡ begun_of complete current → comes_to F n (record { complete = complete; current = current }) rest ≡ accepted rules → Onward n number rest
    over : rest ≡ [] → Onward n number rest

  -- what a command makes of it: it opens rule `number`, or is another
  abbrev Next : ℕ → ℕ → ℕ → List ℕ → Type 0
  Next n number b rest =
      ((b ≡ 0x21) × (earlier : List Lines) × (length earlier ≡ number) × (comes_to F n (record { complete = earlier; current = some [] }) rest ≡ accepted rules))
      ⊎ ((b ≡ 0x21 → ⊥) × Onward n number rest)

  module _ (n number : ℕ) (complete : List Lines) (current : Option Lines) (c : number ≡ begun_of complete current) where
    abbrev now : Reading
    now = record { complete = complete; current = current }

    opening : (rest : List ℕ) → on_from F n opens rest (obey_rule (beside_of F) now opens) ≡ accepted rules → Next n number 0x21 rest
    unfolding obey_rule finished
    opening rest q = go current c q
      where
        closing : (ls : Lines) (b : Bool) → number ≡ suc (length complete)
            → on_from F n opens rest (and_then (unless b rules_order (accepted (complete ++ (ls ∷ [])))) (λ done. accepted (record { complete = done; current = some [] }))) ≡ accepted rules → Next n number 0x21 rest
        closing ls true e k = inl (refl, complete ++ (ls ∷ []), length_last complete ls ∙ sym e, k)
        closing ls false e k = refuted F k

        go : (o : Option Lines) → number ≡ begun_of complete o
            → on_from F n opens rest (and_then (elim o [ none ↦ accepted complete | some ls ↦ unless (whole ls) rules_order (accepted (complete ++ (ls ∷ []))) ]) (λ done. accepted (record { complete = done; current = some [] }))) ≡ accepted rules → Next n number 0x21 rest
        go none e k = inl (refl, complete, sym e, k)
        go (some ls) e k = closing ls (whole ls) e k

    ending : (rest : List ℕ) → on_from F n ends rest (obey_rule (beside_of F) now ends) ≡ accepted rules → Next n number 0x2F rest
    unfolding obey_rule
    ending rest q = inr ((λ z. omega arith), over (go n (finished now) rest q))
      where
        go : (n : ℕ) (a : Answer (List Lines)) (r : List ℕ) → on_from F n ends r (and_then a (λ done. accepted (record { complete = done; current = none }))) ≡ accepted rules → r ≡ []
        go n (refused e) r k = refuted F k
        go n (accepted d) [] k = refl
        go zero (accepted d) (x ∷ xs) k = refuted F k
        go (suc n) (accepted d) (x ∷ xs) k = refuted F k

    lining : (b : ℕ) (d : RuleCommand) (rest : List ℕ) → (b ≡ 0x21 → ⊥) → ends_file d ≡ false → on_from F n d rest (add_line (beside_of F) now d) ≡ accepted rules → Next n number b rest
    unfolding add_line
    lining b d rest other e q = inr (other, go current c q)
      where
        added : (ls : Lines) (f l v : Bool) → number ≡ suc (length complete)
            → on_from F n d rest (unless f rules_order (unless l rules_operand (unless v wrong_level (accepted (record { complete = complete; current = some (ls ++ (d ∷ [])) }))))) ≡ accepted rules → Onward n number rest
        added ls true true true h k = going complete (some (ls ++ (d ∷ []))) h (sym (rw e refl) ∙ k)
        added ls true true false h k = refuted F k
        added ls true false v h k = refuted F k
        added ls false l v h k = refuted F k

        go : (o : Option Lines) → number ≡ begun_of complete o
            → on_from F n d rest (elim o [ none ↦ refused rules_order | some ls ↦ unless (follows ls d) rules_order (unless (legal (beside_of F) d) rules_operand (unless (levelled (beside_of F) ls d) wrong_level (accepted (record { complete = complete; current = some (ls ++ (d ∷ [])) })))) ]) ≡ accepted rules → Onward n number rest
        go none h k = refuted F k
        go (some ls) h k = added ls (follows ls d) (legal (beside_of F) d) (levelled (beside_of F) ls d) h k

    by_shape : {a : Raw} → Shape a → (rest : List ℕ) → on_from F n (command_of a) rest (obey_rule (beside_of F) now (command_of a)) ≡ accepted rules → Next n number a.byte rest
    unfolding command_of obey_rule
    by_shape shape-opens rest q = opening rest q
    by_shape (shape_user_single a v) rest q = lining 0x22 _ rest (λ z. omega arith) refl q
    by_shape (shape_user_set a v) rest q = lining 0x23 _ rest (λ z. omega arith) refl q
    by_shape (shape_resource_single a v) rest q = lining 0x24 _ rest (λ z. omega arith) refl q
    by_shape (shape_resource_set a v) rest q = lining 0x25 _ rest (λ z. omega arith) refl q
    by_shape (shape-operations m) rest q = lining 0x26 _ rest (λ z. omega arith) refl q
    by_shape (shape-link a b) rest q = lining 0x27 _ rest (λ z. omega arith) refl q
    by_shape (shape-part k m) rest q = lining 0x28 _ rest (λ z. omega arith) refl q
    by_shape (shape-level l) rest q = lining 0x29 _ rest (λ z. omega arith) refl q
    by_shape shape-ends rest q = ending rest q

    -- whatever line stands in front
    in_front : (s : List ℕ) → comes_to F (suc n) now s ≡ accepted rules → (a : Raw) (w : ℕ) → raw_of s ≡ Ok (a, w) → Next n number a.byte (drop w s)
    in_front s q a w e =
        let f = raw_whole (beside_of F) n now s a w e in
        by_shape (accepted-shape (beside_of F) n now s a w f (λ u. accepted u.complete) rules q) (drop w s) (sym (ap (λ (t : Answer Reading). and_then t (λ u. accepted u.complete)) f.turned) ∙ q)

-- the state of telling: so many rules were told, and these bytes are left
pub record Telling (number : ℕ) (rest : List ℕ) : Type 0 where
  pub policy : Policy
  pub rules : List Lines
  pub fuel : ℕ
  pub onward : Onward policy rules fuel number rest

pub telling-begun : (s : List ℕ) → AcceptedRules s → Telling 0 s
unfolding read_body
telling-begun s l = record { policy = l.policy; rules = l.rules; fuel = suc (length s); onward = going [] none refl l.accepts }

module _ (number : ℕ) (rest : List ℕ) (t : Telling number rest) (a : Raw) (w : ℕ) (e : raw_of rest ≡ Ok (a, w)) where
  next : (n : ℕ) × Next t.policy t.rules n number a.byte (drop w rest)
  next = go t.fuel t.onward
    where
      go : (n : ℕ) → Onward t.policy t.rules n number rest → (n : ℕ) × Next t.policy t.rules n number a.byte (drop w rest)
      go n (over z) = let q = sym raw_none ∙ ap raw_of (sym z) ∙ e in let k : ◌≡◌ {A = ℕ} 0 1 = cc in absurd (omega arith)
      go zero (going complete current c q) = refuted t.policy q
      go (suc n) (going complete current c q) = (n, in_front t.policy t.rules n number complete current c rest q a w e)

  -- a 21: behind it stand the lines of the rule of this number
  pub heads : a.byte ≡ 0x21 → (F : Policy) × (rules : List Lines) × RuleAt F rules number (drop w rest)
  heads k = go next.0 next.1
    where
      go : (n : ℕ) → Next t.policy t.rules n number a.byte (drop w rest) → (F : Policy) × (rules : List Lines) × RuleAt F rules number (drop w rest)
      go n (inl m) = (t.policy, t.rules, record { earlier = m.1; number = m.2; fuel = n; accepts = m.3 })
      go n (inr m) = absurd (m.0 k)

  pub headed_on : a.byte ≡ 0x21 → Telling (number + 1) (drop w rest)
  headed_on k = go next.0 next.1
    where
      go : (n : ℕ) → Next t.policy t.rules n number a.byte (drop w rest) → Telling (number + 1) (drop w rest)
      go n (inl m) = let l = m.2 in record { policy = t.policy; rules = t.rules; fuel = n; onward = going m.1 (some []) (omega arith) m.3 }
      go n (inr m) = absurd (m.0 k)

  -- another line
  pub told-on : (a.byte ≡ 0x21 → ⊥) → Telling number (drop w rest)
  told-on k = go next.0 next.1
    where
      go : (n : ℕ) → Next t.policy t.rules n number a.byte (drop w rest) → Telling number (drop w rest)
      go n (inl m) = absurd (k m.0)
      go n (inr m) = record { policy = t.policy; rules = t.rules; fuel = n; onward = m.1 }

-- two files that were read: behind the seven bytes of the first command stand the rules
pub both-legal : (file s : List ℕ) (b : Policy × List Lines) → read_both 2 file s ≡ accepted b → (7 ≤ length s) × AcceptedRules (drop 7 s)
unfolding read_both
both-legal file s b e = roles (read_roles 2 file) refl e
  where
    rules : (F : Policy) (a : Answer (List Lines)) → read_rules 2 (beside_of F) s ≡ a → and_then a (λ ls. accepted (F, ls)) ≡ accepted b → (7 ≤ length s) × AcceptedRules (drop 7 s)
    rules F (refused d) k z = refuted F z
    rules F (accepted ls) k z = let r = accepted_body (beside_of F) s ls k in (r.0, record { policy = F; rules = ls; accepts = r.1 })

    roles : (a : Answer Policy) → read_roles 2 file ≡ a → and_then a (λ F. and_then (read_rules 2 (beside_of F) s) (λ ls. accepted (F, ls))) ≡ accepted b → (7 ≤ length s) × AcceptedRules (drop 7 s)
    roles (refused d) q z = let k : ◌≡◌ {A = ℕ} 0 1 = cc in absurd (omega arith)
    roles (accepted F) q z = rules F (read_rules 2 (beside_of F) s) refl z
