-- The level in a rule's heading is the rule's level: what is noted of the lines in front is what the reader reads there.
-- Assumes nothing.
use Prim.Native.Nat.{ℕ, zero, suc, ◌≤◌, ◌<◌}
use Rattle.std.specs.Prelude.{length, drop, Bool, ◌⊎◌, Result, Ok, Err}
use Rattle.std.proofs.Math.ListN.{get_or, get_or-append}
use Rattle.std.proofs.Common.{length-drop, inl, inr, ap, ◌∙◌, arith}
use Rattle.std.proofs.Math.Seq.{get_or-append_seam}
use Rattle.std.proofs.Math.Bool.{true, false}
use mathlib.Core.List.{List, [], ◌∷◌, ◌++◌}
use Rattle.std.proofs.Math.Option.{Option, none, some}
use Rattle.std.proofs.Math.Path.{◌≡◌, refl, sym, subst}
use Rattle.files.specs.Answer.{Refusal, Answer, and_then, unless, rules_order, rules_operand, wrong_level, refused, accepted}
use Rattle.files.specs.Beside.{beside_of}
use Rattle.files.specs.declared.refusal.Refusal.{Refusal as CodeRefusal}
use Rattle.files.specs.Bytes.{read_on}
use Rattle.files.proofs.BytesLaws.{read_behind, follow, Carries, unless_carries, then_carries, read_carries}
use Rattle.files.proofs.LevelLineLaws.{told_by, told-kept, told-first, Tells, tells_more, tells-whole}
use Rattle.files.specs.RuleFile.{RuleCommand, Lines, levels_in, rule_in, Reading, whole, finished, follows, legal, levelled, add_line, obey_rule, ends_file, rule_format, reshapes, opens, value, operations, link, part, level, ends}
use Rattle.policy.specs.Policy.{Policy, setting_of}
use Rattle.policy.specs.Rules.{rule_level}
use Rattle.rule_commands.specs.Raw.{raw_of, command_of, Shape, shape-opens, shape_user_single, shape_user_set, shape_resource_single, shape_resource_set, shape-operations, shape-link, shape-part, shape-level, shape-ends}
use Rattle.rule_commands.specs.RawLaws.{RawFront, raw_refused, raw_whole, accepted-shape}
use Rattle.rule_headings.specs.Headings.{in_rule, noted, heading_on, heading_of, RuleAt}
use Rattle.sets.specs.ListLaws.{length_last}
use Rattle.sets.specs.Tests.{Is}
use Rattle.rule_commands.specs.declared.Raw.{Raw}
use Rattle.rule_headings.specs.declared.Heading.{Heading}

-- ---- one line more

-- a line that tells no level leaves the one noted, and a 29 tells its own
line-noted : (h : Heading) {a : Raw} → Shape a → ((told_by (command_of a) ≡ []) × ((noted h a).level ≡ h.level)) ⊎ ((command_of a ≡ level a.first) × ((noted h a).level ≡ a.first))
unfolding command_of noted
line-noted h shape-opens = inl (refl, refl)
line-noted h (shape_user_single a v) = inl (refl, refl)
line-noted h (shape_user_set a v) = inl (refl, refl)
line-noted h (shape_resource_single a v) = inl (refl, refl)
line-noted h (shape_resource_set a v) = inl (refl, refl)
line-noted h (shape-operations m) = inl (refl, refl)
line-noted h (shape-link a b) = inl (refl, refl)
line-noted h (shape-part k m) = inl (refl, refl)
line-noted h (shape-level l) = inr (refl, refl)
line-noted h shape-ends = inl (refl, refl)

module _ (F : Policy) where
  -- what is noted of lines that a rule may have: the level, once they tell it
  record Agrees (h : Heading) (ls : Lines) : Type 0 where
    tells : Tells (beside_of F) ls
    heard : (l : ℕ) → levels_in ls ≡ l ∷ [] → h.level ≡ l

  agrees_more : (h : Heading) (ls : Lines) (a : Raw) → Shape a → Is (follows ls (command_of a)) → Is (levelled (beside_of F) ls (command_of a)) → Agrees h ls → Agrees (noted h a) (ls ++ (command_of a ∷ []))
  agrees_more h ls a p f v n = record {
    tells = tells_more (beside_of F) ls (command_of a) f v n.tells;
    heard = go (line-noted h p);
  }
    where
      go : ((told_by (command_of a) ≡ []) × ((noted h a).level ≡ h.level)) ⊎ ((command_of a ≡ level a.first) × ((noted h a).level ≡ a.first)) → (l : ℕ) → levels_in (ls ++ (command_of a ∷ [])) ≡ l ∷ [] → (noted h a).level ≡ l
      go (inl q) l k = q.1 ∙ n.heard l (sym (told-kept ls (command_of a) q.0) ∙ k)
      go (inr q) l k =
          let e = told-first ls a.first (rw q.0 at f) in
          q.1 ∙ ap (λ (t : List ℕ). get_or t 0 0) (sym e ∙ ap (λ (c : RuleCommand). levels_in (ls ++ (c ∷ []))) (sym q.0) ∙ k)

  -- of a rule that may be closed it is the level
  agrees_whole : (h : Heading) (ls : Lines) → Is (whole ls) → Agrees h ls → h.level ≡ rule_level (setting_of F) (rule_in (setting_of F) ls)
  agrees_whole h ls w n = n.heard (rule_level (setting_of F) (rule_in (setting_of F) ls)) (tells-whole (beside_of F) ls w n.tells)

  -- ---- what the reader reads

  -- reading on, and the rules that come of it
  abbrev pub comes_to : ℕ → Reading → List ℕ → Answer (List Lines)
  comes_to n t s = and_then (read_on (rule_format 2 (beside_of F)) n false t s) (λ u. accepted u.complete)

  abbrev pub on_from : ℕ → RuleCommand → List ℕ → Answer Reading → Answer (List Lines)
  on_from n c rest a = and_then (and_then a (follow (rule_format 2 (beside_of F)) (ends_file c) n rest)) (λ u. accepted u.complete)

  -- a rule that is complete stays as it is
  module _ (i : ℕ) (ls : Lines) where
    record Done (rules : List Lines) : Type 0 where
      here : i < length rules
      it : get_or rules i [] ≡ ls

    done_more : (rules : List Lines) (k : Lines) → Done rules → Done (rules ++ (k ∷ []))
    done_more rules k d = let l = length_last rules k in let h = d.here in record { here = omega arith; it = get_or-append rules (k ∷ []) [] i d.here ∙ d.it }

    abbrev DoneIn : Reading → Type 0
    DoneIn t = Done t.complete

    finished-done : (t : Reading) → DoneIn t → Carries Done (finished t)
    unfolding finished
    finished-done t d = go t.current
      where
        go : (o : Option Lines) → Carries Done (elim o [ none ↦ accepted t.complete | some ks ↦ unless (whole ks) rules_order (accepted (t.complete ++ (ks ∷ []))) ])
        go none = d
        go (some ks) = unless_carries Done (whole ks) rules_order (accepted (t.complete ++ (ks ∷ []))) (λ w. done_more t.complete ks d)

    abbrev with_line : Reading → Lines → RuleCommand → Reading
    with_line t ks c = record { complete = t.complete; current = some (ks ++ (c ∷ [])) }

    added-done : (t : Reading) (c : RuleCommand) → DoneIn t → Carries DoneIn (add_line (beside_of F) t c)
    unfolding add_line
    added-done t c d = go t.current
      where
        go : (o : Option Lines)
            → Carries DoneIn (elim o [ none ↦ refused rules_order | some ks ↦ unless (follows ks c) rules_order (unless (legal (beside_of F) c) rules_operand (unless (levelled (beside_of F) ks c) wrong_level (accepted (with_line t ks c)))) ])
        go none = tt
        go (some ks) =
            unless_carries DoneIn (follows ks c) rules_order (unless (legal (beside_of F) c) rules_operand (unless (levelled (beside_of F) ks c) wrong_level (accepted (with_line t ks c)))) λ f.
            unless_carries DoneIn (legal (beside_of F) c) rules_operand (unless (levelled (beside_of F) ks c) wrong_level (accepted (with_line t ks c))) λ l.
            unless_carries DoneIn (levelled (beside_of F) ks c) wrong_level (accepted (with_line t ks c)) λ v. d

    obeyed-done : (t : Reading) (c : RuleCommand) → DoneIn t → Carries DoneIn (obey_rule (beside_of F) t c)
    unfolding obey_rule
    obeyed-done t reshapes d = tt
    obeyed-done t opens d = then_carries Done DoneIn (finished t) (λ done. accepted (record { complete = done; current = some [] })) (finished-done t d) (λ done k. k)
    obeyed-done t (value w x a v) d = added-done t (value w x a v) d
    obeyed-done t (operations m) d = added-done t (operations m) d
    obeyed-done t (link a b) d = added-done t (link a b) d
    obeyed-done t (part j m) d = added-done t (part j m) d
    obeyed-done t (level l) d = added-done t (level l) d
    obeyed-done t ends d = then_carries Done DoneIn (finished t) (λ done. accepted (record { complete = done; current = none })) (finished-done t d) (λ done k. k)

    stays : (n : ℕ) (t : Reading) (s : List ℕ) (rules : List Lines) → DoneIn t → comes_to n t s ≡ accepted rules → get_or rules i [] ≡ ls
    unfolding rule_format
    stays n t s rules d e = go (read_on (rule_format 2 (beside_of F)) n false t s) (read_carries (rule_format 2 (beside_of F)) DoneIn obeyed-done n false t s d) e
      where
        go : (a : Answer Reading) → Carries DoneIn a → and_then a (λ u. accepted u.complete) ≡ accepted rules → get_or rules i [] ≡ ls
        go (refused r) k q = let z : ◌≡◌ {A = ℕ} 0 1 = cc in absurd (omega arith)
        go (accepted u) k q = let z : u.complete ≡ rules = cc in subst (λ (l : List Lines). get_or l i [] ≡ ls) z k.it

  -- ---- the lines in front

  pub refuted : {A B : Type 0} {e : Refusal} {a : A} → ◌≡◌ {A = Answer A} (refused e) (accepted a) → B
  refuted q = let z : ◌≡◌ {A = ℕ} 0 1 = cc in absurd (omega arith)

  module _ (rules : List Lines) where
    -- a rule that is closed is the one that was read
    closed-so : (n : ℕ) (earlier : List Lines) (ls : Lines) (t : Reading) (s : List ℕ) → t.complete ≡ earlier ++ (ls ∷ []) → comes_to n t s ≡ accepted rules → get_or rules (length earlier) [] ≡ ls
    closed-so n earlier ls t s c q = stays (length earlier) ls n t s rules (subst (Done (length earlier) ls) (sym c) (record { here = let l = length_last earlier ls in omega arith; it = get_or-append_seam earlier ls [] [] })) q

    module _ (earlier : List Lines) where
      abbrev opened : Lines → Reading
      opened ls = record { complete = earlier; current = some ls }

      -- the rule's level is the one noted
      abbrev Told : Heading → Type 0
      Told h = h.level ≡ rule_level (setting_of F) (rule_in (setting_of F) (get_or rules (length earlier) []))

      told_of : (h : Heading) (ls : Lines) → Is (whole ls) → Agrees h ls → get_or rules (length earlier) [] ≡ ls → Told h
      told_of h ls w g e = agrees_whole h ls w g ∙ ap (λ (k : Lines). rule_level (setting_of F) (rule_in (setting_of F) k)) (sym e)

      -- a 21 closes it
      opening : (n : ℕ) (ls : Lines) (h : Heading) (rest : List ℕ) → Agrees h ls → on_from n opens rest (obey_rule (beside_of F) (opened ls) opens) ≡ accepted rules → Told h
      unfolding obey_rule finished
      opening n ls h rest g q = go (whole ls) refl q
        where
          go : (b : Bool) → whole ls ≡ b → on_from n opens rest (and_then (unless b rules_order (accepted (earlier ++ (ls ∷ [])))) (λ done. accepted (record { complete = done; current = some [] }))) ≡ accepted rules → Told h
          go true w k = told_of h ls w g (closed-so n earlier ls (record { complete = earlier ++ (ls ∷ []); current = some [] }) rest refl k)
          go false w k = refuted k

      -- and so does a 2F
      ending : (n : ℕ) (ls : Lines) (h : Heading) (rest : List ℕ) → Agrees h ls → on_from n ends rest (obey_rule (beside_of F) (opened ls) ends) ≡ accepted rules → Told h
      unfolding obey_rule finished
      ending n ls h rest g q = go n (whole ls) rest refl q
        where
          -- however far reading may go on behind the end
          go : (n : ℕ) (b : Bool) (rest : List ℕ) → whole ls ≡ b → on_from n ends rest (and_then (unless b rules_order (accepted (earlier ++ (ls ∷ [])))) (λ done. accepted (record { complete = done; current = none }))) ≡ accepted rules → Told h
          go n true [] w k = told (sym (ap (λ (r : Answer Reading). and_then r (λ u. accepted u.complete)) (read_behind (rule_format 2 (beside_of F)) n (record { complete = earlier ++ (ls ∷ []); current = none }) [])) ∙ k)
            where
              told : ◌≡◌ {A = Answer (List Lines)} (accepted (earlier ++ (ls ∷ []))) (accepted rules) → Told h
              told e = let z : earlier ++ (ls ∷ []) ≡ rules = cc in told_of h ls w g (ap (λ (l : List Lines). get_or l (length earlier) []) (sym z) ∙ get_or-append_seam earlier ls [] [])
          go zero true (x ∷ xs) w k = refuted k
          go (suc n) true (x ∷ xs) w k = refuted k
          go n false rest w k = refuted k

      -- a line is added to it
      lining : (n : ℕ) (ls : Lines) (c : RuleCommand) (rest : List ℕ) → ends_file c ≡ false → on_from n c rest (add_line (beside_of F) (opened ls) c) ≡ accepted rules
          → Is (follows ls c) × Is (levelled (beside_of F) ls c) × (comes_to n (opened (ls ++ (c ∷ []))) rest ≡ accepted rules)
      unfolding add_line
      lining n ls c rest e q = go (follows ls c) (legal (beside_of F) c) (levelled (beside_of F) ls c) refl refl q
        where
          go : (f l v : Bool) → follows ls c ≡ f → levelled (beside_of F) ls c ≡ v
              → on_from n c rest (unless f rules_order (unless l rules_operand (unless v wrong_level (accepted (opened (ls ++ (c ∷ []))))))) ≡ accepted rules
              → Is (follows ls c) × Is (levelled (beside_of F) ls c) × (comes_to n (opened (ls ++ (c ∷ []))) rest ≡ accepted rules)
          go true true true p r k = (p, r, sym (rw e refl) ∙ k)
          go true true false p r k = refuted k
          go true false v p r k = refuted k
          go false l v p r k = refuted k

      -- what is noted from here on is noted of the rule that the reader comes to
      abbrev Noting : ℕ → ℕ → Type 0
      Noting n m = (ls : Lines) (h : Heading) (s : List ℕ) → length s < m → Agrees h ls → comes_to n (opened ls) s ≡ accepted rules → Told (heading_on m h s)

      read_notes : (n m : ℕ) → Noting n m
      unfolding command_of obey_rule
      read_notes zero m ls h s l g q = refuted q
      read_notes (suc n) zero ls h s l g q = absurd (omega arith)
      read_notes (suc n) (suc m) ls h s l g q = go (read_notes n m) (raw_of s) refl
        where
          stops : (a : Raw) (w : ℕ) → raw_of s ≡ Ok (a, w) → in_rule a.byte ≡ false → Told h → Told (heading_on (suc m) h s)
          stops a w e k t = subst Told {x = h} {y = heading_on (suc m) h s} (sym (rw (heading_on, e, k) refl)) t

          goes : (a : Raw) (w : ℕ) → raw_of s ≡ Ok (a, w) → in_rule a.byte ≡ true → Told (heading_on m (noted h a) (drop w s)) → Told (heading_on (suc m) h s)
          goes a w e k t = subst Told {x = heading_on m (noted h a) (drop w s)} {y = heading_on (suc m) h s} (sym (rw (heading_on, e, k) refl)) t

          inside : Noting n m → (a : Raw) (w : ℕ) → raw_of s ≡ Ok (a, w) → RawFront (beside_of F) n (opened ls) s a w → Shape a → in_rule a.byte ≡ true → ends_file (command_of a) ≡ false
              → obey_rule (beside_of F) (opened ls) (command_of a) ≡ add_line (beside_of F) (opened ls) (command_of a) → Told (heading_on (suc m) h s)
          inside again a w e f p k d o =
              let r = lining n ls (command_of a) (drop w s) d (sym (ap (on_from n (command_of a) (drop w s)) o) ∙ sym (ap (λ (t : Answer Reading). and_then t (λ u. accepted u.complete)) f.turned) ∙ q) in
              let b = f.some_bytes in
              let i = f.inside in
              let z = length-drop w s in
              goes a w e k (again (ls ++ (command_of a ∷ [])) (noted h a) (drop w s) (omega arith) (agrees_more h ls a p r.0 r.1 g) r.2)

          by_shape : Noting n m → {a : Raw} → Shape a → (w : ℕ) → raw_of s ≡ Ok (a, w) → RawFront (beside_of F) n (opened ls) s a w → Told (heading_on (suc m) h s)
          by_shape again shape-opens w e f = stops _ w e refl (opening n ls h (drop w s) g (sym (ap (λ (t : Answer Reading). and_then t (λ u. accepted u.complete)) f.turned) ∙ q))
          by_shape again shape-ends w e f = stops _ w e refl (ending n ls h (drop w s) g (sym (ap (λ (t : Answer Reading). and_then t (λ u. accepted u.complete)) f.turned) ∙ q))
          by_shape again (shape_user_single a v) w e f = inside again _ w e f (shape_user_single a v) refl refl refl
          by_shape again (shape_user_set a v) w e f = inside again _ w e f (shape_user_set a v) refl refl refl
          by_shape again (shape_resource_single a v) w e f = inside again _ w e f (shape_resource_single a v) refl refl refl
          by_shape again (shape_resource_set a v) w e f = inside again _ w e f (shape_resource_set a v) refl refl refl
          by_shape again (shape-operations k) w e f = inside again _ w e f (shape-operations k) refl refl refl
          by_shape again (shape-link a b) w e f = inside again _ w e f (shape-link a b) refl refl refl
          by_shape again (shape-part k o) w e f = inside again _ w e f (shape-part k o) refl refl refl
          by_shape again (shape-level l) w e f = inside again _ w e f (shape-level l) refl refl refl

          go : Noting n m → (r : Result (Raw × ℕ) CodeRefusal) → raw_of s ≡ r → Told (heading_on (suc m) h s)
          go again (Err d) e = refuted (sym (ap (λ (t : Answer Reading). and_then t (λ u. accepted u.complete)) (raw_refused (beside_of F) n (opened ls) s d e)) ∙ q)
          go again (Ok p) e = let f = raw_whole (beside_of F) n (opened ls) s p.0 p.1 e in by_shape again (accepted-shape (beside_of F) n (opened ls) s p.0 p.1 f (λ u. accepted u.complete) rules q) p.1 e f

-- THE LAW: the level in the heading is that of the rule
pub heading_level : (s : List ℕ) (h : Heading) → h ≡ heading_of s → (F : Policy) (rules : List Lines) (n : ℕ) → RuleAt F rules n s → h.level ≡ rule_level (setting_of F) (rule_in (setting_of F) (get_or rules n []))
unfolding heading_of
heading_level s h e F rules n at =
    ap (λ (t : Heading). t.level) e
    ∙ read_notes F rules at.earlier at.fuel (suc (length s)) [] (record { operations = 0; level = 0 }) s (omega arith) (record { tells = inl refl; heard = λ l k. ap (λ (t : List ℕ). get_or t 0 0) k }) at.accepts
    ∙ ap (λ (k : ℕ). rule_level (setting_of F) (rule_in (setting_of F) (get_or rules k []))) at.number
