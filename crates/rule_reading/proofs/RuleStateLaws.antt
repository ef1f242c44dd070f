-- The state of the reader's loop, and what each turn makes of it.
-- Assumes nothing.
use Rattle.std.specs.Prelude.{ℕ, zero, suc, ◌+◌, ◌≤◌, ◌<◌, ◌-◌, eqb, replicate, Bool, false, ◌&&◌, ◌||◌, not, ◌≡◌, Some, None, Ok, Err}
use borrow.Author.Tests.{eqb-true, eqb-false, eq-eqb, ne_eqb, le-ltb}
use Rattle.std.proofs.Math.Dec.{ltb}
use Rattle.std.proofs.Math.ListN.{length, drop, length-drop}
use Rattle.std.proofs.Common.{length-append, drop-drop, sym, ap₂, ◌∙◌, arith}
use Rattle.std.proofs.Math.Bool.{true, cond, false≢true}
use mathlib.Core.List.{List, [], ◌∷◌, ◌++◌}
use Rattle.std.proofs.Math.Option.{Option, none, some}
use Rattle.std.proofs.Math.Path.{refl, ap, subst}
use Rattle.role_record.specs.Record.{Sized, known_table, value_table, permission_table, record_of}
use Rattle.files.specs.Beside.{Beside, beside_of}
use Rattle.files.specs.Answer.{Answer, unless, and_then, map_answer, rules_order, rules_operand, wrong_level, refused, accepted}
use Rattle.files.specs.Cause.{cause}
use Rattle.files.specs.declared.refusal.Refusal.{Refusal}
use Rattle.files.proofs.BytesLaws.{read_behind, follow}
use Rattle.files.specs.Bytes.{behind, read_on, read}
use Rattle.files.specs.RuleFile.{RuleCommand as Line, Lines, is_operations, is_level, precedes, Reading, ends_file, whole, finished, no_second, follows, legal, levelled, add_line, obey_rule, rule_format, read_body, opens, ends}
use Rattle.grant_grids.specs.Grid.{grid_of}
use Rattle.role_record.specs.RecordLaws.{table_none}
use Rattle.rule_operands.specs.Checked.{checked_of}
use Rattle.rule_operands.specs.CheckedLaws.{checked-illegal, checked-legal}
use Rattle.grant_blocks.specs.Rows.{added_rows}
use Rattle.policy.specs.Policy.{Policy}
use Rattle.policy.specs.Rules.{user, resource}
use Rattle.rule_commands.specs.CommandOrderLaws.{order-more}
use Rattle.rule_commands.specs.Raw.{InOrder, raw_of, raw_before, command_of, rule_meaning, Shape, shape-opens, shape_user_single, shape_user_set, shape_resource_single, shape_resource_set, shape-operations, shape-link, shape-part, shape-level, shape-ends, Sided}
use Rattle.rule_commands.specs.RawLaws.{raw_refused, RawFront, raw_whole, again-refused}
use Rattle.rule_reading.specs.BothFiles.{both_of, GridShown}
use Rattle.rule_notes.specs.Tally.{begun_with, opened_with, open_rows, closed_with, finished_with, finished_grid, may_close, is_second, follows_with, levelled_with}
use Rattle.rule_notes.specs.KeptLaws.{finish-inside, finish-outside}
use Rattle.rule_notes.specs.LineSteps.{noted_with, met_after, listed_after, seen_by, again_by}
use Rattle.rule_steps.specs.Shows.{Stored, Shows}
use Rattle.grant_grids.specs.Links.{links_of}
use Rattle.rule_steps.specs.ShowsLaws.{stored-begun, shows-opened, stored-closed, stored-outside, may_close_means, follows_means, levelled_means, shows-line}
use Rattle.sets.specs.ListLaws.{length_none}
use Rattle.sets.specs.Tests.{Is, all, any, is_some}
use Rattle.sets.specs.TestLaws.{and_l, and_r, or_l, or_r, never, test, fails}
use Rattle.rule_commands.specs.declared.RuleCommand.{RuleCommand}
use Rattle.rule_notes.specs.declared.Tally.{Tally}
use Rattle.role_record.specs.declared.RoleFile.{RoleFile}
use Rattle.rule_commands.specs.declared.Raw.{Raw}
use Rattle.rule_reading.specs.Turns.{read_beside}
use Rattle.rule_reading.specs.declared.BothFiles.{BothFiles}
use Rattle.rule_commands.specs.declared.RuleCommand.TheVariants.{Opens, Value, Operations, Link, Part, Level, Ends}

-- the lines of the open rule; none if none is open
abbrev pub open_lines : Option Lines → Lines
open_lines none = []
open_lines (some ls) = ls

abbrev pub start : Reading
start = record { complete = []; current = none }

-- reading on from here gives what the whole file gives
pub record State (F : Policy) (s : List ℕ) (k : Tally) (met listed grid seen again : List ℕ) (at : ℕ) : Type 0 where
  pub reading : Reading
  pub fuel : ℕ
  pub enough : length s - at ≤ fuel
  pub within : at ≤ length s
  pub few : k.rules ≤ at
  -- no command in a rule stands before its 21: a 20 cannot follow
  pub last : 0x21 ≤ k.last.byte
  pub inside : k.inside ≡ is_some reading.current
  pub shows : Shows F reading.complete (open_lines reading.current) k met listed grid seen again
  pub same : read_on (rule_format 2 (beside_of F)) (suc fuel) false reading (drop at s) ≡ read (rule_format 2 (beside_of F)) start s

-- what reading the rule file comes to beside a policy
unfoldable pub outcome : Policy → Answer Reading → Answer (Policy × List Lines)
outcome F r = and_then r (λ t. accepted (F, t.complete))

module _ (F : Policy) (rules : List ℕ) where
  pub outcome_beside : outcome F (read (rule_format 2 (beside_of F)) start rules) ≡ read_beside F rules
  unfolding outcome read_beside read_body
  outcome_beside = go (read (rule_format 2 (beside_of F)) start rules)
    where
      pair : List Lines → Answer (Policy × List Lines)
      pair ls = accepted (F, ls)

      go : (r : Answer Reading) → and_then r (λ t. pair t.complete) ≡ and_then (and_then r (λ t. accepted t.complete)) pair
      go (refused d) = refl
      go (accepted t) = refl

-- ---- the beginning

pub begin : (F : Policy) (s listed grid : List ℕ) → listed ≡ grid_of F.operations (λ u r o. false) → grid ≡ grid_of F.operations (λ u r o. false) → State F s begun_with (replicate 14 0) listed grid (replicate 32 0) (replicate 32 0) 0
unfolding begun_with
begin F s listed grid p q = record {
  reading = start;
  fuel = length s;
  enough = omega arith;
  within = omega arith;
  few = omega arith;
  last = omega arith;
  inside = refl;
  shows = shows-opened F [] begun_with begun_with (replicate 14 0) listed grid (replicate 32 0) (replicate 32 0) (stored-begun F grid q) (table_none 14) p refl refl refl refl refl refl refl refl;
  same = refl;
}

-- ---- commands by their bytes

-- another 20, a 21, a 2F, or a line of a rule
pub data Kind (line : Raw) : Type 0 where
  reshaping : line.byte ≡ 0x20 → Kind line
  opening : line.byte ≡ 0x21 → command_of line ≡ opens → Kind line
  ending : line.byte ≡ 0x2F → command_of line ≡ ends → Kind line
  lining : 0x22 ≤ line.byte → line.byte ≤ 0x29 → ends_file (command_of line) ≡ false → ((B : Beside) (t : Reading) → obey_rule B t (command_of line) ≡ add_line B t (command_of line)) → Kind line

kind-of : {line : Raw} → Shape line → Kind line
unfolding command_of obey_rule
kind-of shape-opens = opening refl refl
kind-of (shape_user_single a v) = lining (omega arith) (omega arith) refl (λ B t. refl)
kind-of (shape_user_set a v) = lining (omega arith) (omega arith) refl (λ B t. refl)
kind-of (shape_resource_single a v) = lining (omega arith) (omega arith) refl (λ B t. refl)
kind-of (shape_resource_set a v) = lining (omega arith) (omega arith) refl (λ B t. refl)
kind-of (shape-operations m) = lining (omega arith) (omega arith) refl (λ B t. refl)
kind-of (shape-link a b) = lining (omega arith) (omega arith) refl (λ B t. refl)
kind-of (shape-part j m) = lining (omega arith) (omega arith) refl (λ B t. refl)
kind-of (shape-level l) = lining (omega arith) (omega arith) refl (λ B t. refl)
kind-of shape-ends = ending refl refl

kind_at : {line : Raw} → ((line.byte ≡ 0x20 → ⊥) → Shape line) → Kind line
kind_at {line} s = test (eqb line.byte 0x20) (λ e. reshaping (eqb-true line.byte 0x20 e)) (λ e. kind-of (s (eqb-false line.byte 0x20 e)))

-- ---- steps between rules

moved : (F : Policy) (rules : List Lines) (n m : Tally) (g h seen again : List ℕ) → n ≡ m → g ≡ h → Stored F rules n g seen again → Stored F rules m h seen again
moved F rules n m g h seen again p q s = subst (λ (l : List ℕ). Stored F rules m l seen again) q (subst (λ (k : Tally). Stored F rules k g seen again) p s)

opened-shows : (F : Policy) (rules : List Lines) (n : Tally) (grid seen again : List ℕ) → Stored F rules n grid seen again → Shows F rules [] (opened_with n) (replicate 14 0) (grid_of F.operations (λ u r o. false)) grid seen again
unfolding opened_with
opened-shows F rules n grid seen again s = shows-opened F rules n (opened_with n) (replicate 14 0) (grid_of F.operations (λ u r o. false)) grid seen again s (table_none 14) refl refl refl refl refl refl refl refl refl

opened-kept : (n : Tally) → ((opened_with n).rules ≡ n.rules) × ((opened_with n).inside ≡ true) × ((opened_with n).last.byte ≡ 0x21)
unfolding opened_with
opened-kept n = (refl, refl, refl)

noted-kept : (k : Tally) (c : RuleCommand) (line : Raw) → ((noted_with k c line).rules ≡ k.rules) × ((noted_with k c line).inside ≡ k.inside) × ((noted_with k c line).last.byte ≡ line.byte)
unfolding noted_with
noted-kept k Opens line = (refl, refl, refl)
noted-kept k (Value v) line = (refl, refl, refl)
noted-kept k (Operations m) line = (refl, refl, refl)
noted-kept k (Link t) line = (refl, refl, refl)
noted-kept k (Part j m) line = (refl, refl, refl)
noted-kept k (Level l) line = (refl, refl, refl)
noted-kept k Ends line = (refl, refl, refl)

-- what is handed back of a rule file that was read to its end
abbrev pub both_with : RoleFile → Tally → List ℕ → List ℕ → BothFiles
both_with f k seen again = record { file = f; rules = k.rules; stray = k.stray; seen = seen; again = again }

-- ---- a turn

module _ (F : Policy) (Z : Sized F) (s : List ℕ) (k : Tally) (met listed grid seen again : List ℕ) (at : ℕ) (t : State F s k met listed grid seen again at) where
  -- what comes of the whole file
  abbrev answer : Answer (Policy × List Lines)
  answer = outcome F (read (rule_format 2 (beside_of F)) start s)

  pub turn-fails : (e : Refusal) → raw_of (drop at s) ≡ Err e → refused (cause e) ≡ outcome F (read (rule_format 2 (beside_of F)) start s)
  unfolding outcome
  turn-fails e h = ap (outcome F) (sym (raw_refused (beside_of F) t.fuel t.reading (drop at s) e h) ∙ t.same)

  module _ (line : Raw) (w : ℕ) (e : raw_of (drop at s) ≡ Ok (line, w)) where
    front : RawFront (beside_of F) t.fuel t.reading (drop at s) line w
    front = raw_whole (beside_of F) t.fuel t.reading (drop at s) line w e

    pub some_bytes : 0 < w
    some_bytes = front.some_bytes

    pub not_past : w ≤ length s - at
    not_past = rw length-drop at front.inside

    -- what follows the command
    abbrev onward : Reading → Answer Reading
    onward = follow (rule_format 2 (beside_of F)) (ends_file (command_of line)) t.fuel (drop w (drop at s))

    turned : outcome F (and_then (obey_rule (beside_of F) t.reading (command_of line)) onward) ≡ answer
    turned = ap (outcome F) (sym front.turned ∙ t.same)

    -- the state after a command that is not the end. Each command is at least one byte, so the fuel lasts
    stepped : (M : Reading) (n : Tally) (met₁ listed₁ grid₁ seen₁ again₁ : List ℕ) → ends_file (command_of line) ≡ false → obey_rule (beside_of F) t.reading (command_of line) ≡ accepted M
        → n.rules ≤ at + w → 0x21 ≤ n.last.byte → n.inside ≡ is_some M.current → Shows F M.complete (open_lines M.current) n met₁ listed₁ grid₁ seen₁ again₁
        → State F s n met₁ listed₁ grid₁ seen₁ again₁ (at + w)
    stepped M n met₁ listed₁ grid₁ seen₁ again₁ on so few last inside shows = next t.fuel t.enough refl
      where
        reached : read_on (rule_format 2 (beside_of F)) t.fuel false M (drop w (drop at s)) ≡ read (rule_format 2 (beside_of F)) start s
        reached =
            sym (front.turned
            ∙ ap (λ (r : Answer Reading). and_then r onward) so
            ∙ ap (λ (c : Bool). follow (rule_format 2 (beside_of F)) c t.fuel (drop w (drop at s)) M) on)
            ∙ t.same

        next : (m : ℕ) → length s - at ≤ m → t.fuel ≡ m → State F s n met₁ listed₁ grid₁ seen₁ again₁ (at + w)
        next zero h z = let a = some_bytes in let p = not_past in absurd (omega arith)
        next (suc m) h z =
            let a = some_bytes in
            let p = not_past in
            let i = t.within in
            record {
              reading = M;
              fuel = m;
              enough = omega arith;
              within = omega arith;
              few = few;
              last = last;
              inside = inside;
              shows = shows;
              same = ap (read_on (rule_format 2 (beside_of F)) (suc m) false M) (sym (drop-drop w at s)) ∙ ap (λ (f : ℕ). read_on (rule_format 2 (beside_of F)) f false M (drop w (drop at s))) (sym z) ∙ reached;
            }

    -- ---- closing the open rule, if there is one

    -- the numbers and the grid then
    abbrev pub done_with : Tally
    done_with = finished_with k met listed (links_of F) (F.table user).count (F.table resource).count F.operations

    abbrev pub done_grid : List ℕ
    done_grid = finished_grid k met (links_of F) (F.table user).count (F.table resource).count F.operations grid

    pub record Done : Type 0 where
      pub rules : List Lines
      pub so : finished t.reading ≡ accepted rules
      pub stored : Stored F rules done_with done_grid seen again
      pub few : done_with.rules ≤ at + w

    -- the open rule's lines
    shows-lines : (o : Option Lines) → t.reading.current ≡ o → Shows F t.reading.complete (open_lines o) k met listed grid seen again
    shows-lines o q = subst (λ (p : Option Lines). Shows F t.reading.complete (open_lines p) k met listed grid seen again) q t.shows

    inside_is : (o : Option Lines) → t.reading.current ≡ o → k.inside ≡ is_some o
    inside_is o q = t.inside ∙ ap is_some q

    finished-none : t.reading.current ≡ none → finished t.reading ≡ accepted t.reading.complete
    unfolding finished
    finished-none q = rw q refl

    finished-some : (ls : Lines) → t.reading.current ≡ some ls → finished t.reading ≡ unless (whole ls) rules_order (accepted (t.reading.complete ++ (ls ∷ [])))
    unfolding finished
    finished-some ls q = rw q refl

    pub closed : may_close k ≡ true → Done
    closed h = go t.reading.current refl
      where
        outside : t.reading.current ≡ none → Done
        outside q =
            let f = finish-outside k met listed (links_of F) (F.table user).count (F.table resource).count F.operations grid (inside_is none q) in
            let a = t.few in
            let r = ap (λ (n : Tally). n.rules) f.0 in
            record {
              rules = t.reading.complete;
              so = finished-none q;
              stored = moved F t.reading.complete k done_with grid done_grid seen again f.0 f.1 (stored-outside F Z t.reading.complete [] k met listed grid seen again (shows-lines none q) refl);
              few = omega arith;
            }

        inside : (ls : Lines) → t.reading.current ≡ some ls → Done
        inside ls q =
            let f = finish-inside k met listed (links_of F) (F.table user).count (F.table resource).count F.operations grid (inside_is (some ls) q) in
            let v = shows-lines (some ls) q in
            let z : Stored F (t.reading.complete ++ (ls ∷ [])) done_with done_grid seen again = moved F (t.reading.complete ++ (ls ∷ [])) (closed_with k met listed (links_of F) (F.table user).count (F.table resource).count F.operations) done_with (added_rows F.operations (open_rows k met (links_of F) (F.table user).count (F.table resource).count) k.operations grid) done_grid seen again f.0 f.1 (stored-closed F Z t.reading.complete ls k met listed grid seen again v) in
            let a = t.few in
            let c = v.rules-counted in
            let d = z.rules-counted in
            let l = length-append t.reading.complete (ls ∷ []) in
            let p = some_bytes in
            record {
              rules = t.reading.complete ++ (ls ∷ []);
              so = finished-some ls q ∙ ap (λ (u : Bool). unless u rules_order (accepted (t.reading.complete ++ (ls ∷ [])))) (sym (may_close_means F Z t.reading.complete ls k met listed grid seen again v (inside_is (some ls) q)) ∙ h);
              stored = z;
              few = omega arith;
            }

        go : (o : Option Lines) → t.reading.current ≡ o → Done
        go none q = outside q
        go (some ls) q = inside ls q

    -- it is not whole
    unfinished : may_close k ≡ false → finished t.reading ≡ refused rules_order
    unfolding may_close
    unfinished h = go t.reading.current refl
      where
        go : (o : Option Lines) → t.reading.current ≡ o → finished t.reading ≡ refused rules_order
        go none q = absurd (false≢true (sym h ∙ ap (λ (u : Bool). cond u (not (eqb k.operations 0) && (k.listing && k.telling)) true) (inside_is none q)))
        go (some ls) q = finished-some ls q ∙ ap (λ (u : Bool). unless u rules_order (accepted (t.reading.complete ++ (ls ∷ [])))) (sym (may_close_means F Z t.reading.complete ls k met listed grid seen again (shows-lines (some ls) q) (inside_is (some ls) q)) ∙ h)

    obey-opens : command_of line ≡ opens → (a : Answer (List Lines)) → finished t.reading ≡ a → obey_rule (beside_of F) t.reading (command_of line) ≡ and_then a (λ done. accepted (record { complete = done; current = some [] }))
    unfolding obey_rule
    obey-opens q a f = rw q (rw f refl)

    obey-ends : command_of line ≡ ends → (a : Answer (List Lines)) → finished t.reading ≡ a → obey_rule (beside_of F) t.reading (command_of line) ≡ and_then a (λ done. accepted (record { complete = done; current = none }))
    unfolding obey_rule
    obey-ends q a f = rw q (rw f refl)

    -- a refused command
    refused-by : obey_rule (beside_of F) t.reading (command_of line) ≡ refused rules_order → refused rules_order ≡ answer
    unfolding outcome
    refused-by q = ap (λ (r : Answer Reading). outcome F (and_then r onward)) (sym q) ∙ turned

    pub close_refused : (eqb line.byte 0x21 || eqb line.byte 0x2F) ≡ true → may_close k ≡ false → refused rules_order ≡ outcome F (read (rule_format 2 (beside_of F)) start s)
    close_refused h m = go (kind_at front.shape)
      where
        go : Kind line → refused rules_order ≡ answer
        go (reshaping p) = refused-by (again-refused (beside_of F) t.reading line p)
        go (opening p q) = refused-by (obey-opens q (refused rules_order) (unfinished m))
        go (ending p q) = refused-by (obey-ends q (refused rules_order) (unfinished m))
        go (lining p q u v) = absurd (false≢true (sym (ap₂ ◌||◌ (ne_eqb line.byte 0x21 (λ z. omega arith)) (ne_eqb line.byte 0x2F (λ z. omega arith))) ∙ h))

    -- ---- behind it: a new rule, or the end

    module _ (h : may_close k ≡ true) where
      pub opened : line.byte ≡ 0x21 → State F s (opened_with done_with) (replicate 14 0) (grid_of F.operations (λ u r o. false)) done_grid seen again (at + w)
      opened z = go (kind_at front.shape)
        where
          d : Done
          d = closed h

          go : Kind line → State F s (opened_with done_with) (replicate 14 0) (grid_of F.operations (λ u r o. false)) done_grid seen again (at + w)
          go (reshaping p) = absurd (omega arith)
          go (opening p q) =
              stepped (record { complete = d.rules; current = some [] }) (opened_with done_with) (replicate 14 0) (grid_of F.operations (λ u r o. false)) done_grid seen again (ap ends_file q) (obey-opens q (accepted d.rules) d.so)
              (let l = d.few in let r = (opened-kept done_with).0 in omega arith) (let r = (opened-kept done_with).2 in omega arith) (opened-kept done_with).1 (opened-shows F d.rules done_with done_grid seen again d.stored)
          go (ending p q) = absurd (omega arith)
          go (lining p q u v) = absurd (omega arith)

      -- what follows a 2F
      followed : (q : command_of line ≡ ends) → outcome F (behind (rule_format 2 (beside_of F)) (record { complete = (closed h).rules; current = none }) (drop w (drop at s))) ≡ answer
      followed q =
          ap (outcome F) (sym (read_behind (rule_format 2 (beside_of F)) t.fuel (record { complete = (closed h).rules; current = none }) (drop w (drop at s))))
          ∙ ap (λ (c : Bool). outcome F (follow (rule_format 2 (beside_of F)) c t.fuel (drop w (drop at s)) (record { complete = (closed h).rules; current = none }))) (sym (ap ends_file q))
          ∙ ap (λ (r : Answer Reading). outcome F (and_then r onward)) (sym (obey-ends q (accepted (closed h).rules) (closed h).so))
          ∙ turned

      is-end : Kind line → line.byte ≡ 0x2F → command_of line ≡ ends
      is-end (reshaping p) z = absurd (omega arith)
      is-end (opening p q) z = absurd (omega arith)
      is-end (ending p q) z = q
      is-end (lining p q u v) z = absurd (omega arith)

      -- bytes behind the end
      pub ended-late : line.byte ≡ 0x2F → (at + w ≡ length s → ⊥) → refused rules_order ≡ outcome F (read (rule_format 2 (beside_of F)) start s)
      unfolding outcome rule_format
      ended-late z d = go (drop w (drop at s)) refl (followed (is-end (kind_at front.shape) z))
        where
          go : (l : List ℕ) → drop w (drop at s) ≡ l → outcome F (behind (rule_format 2 (beside_of F)) (record { complete = (closed h).rules; current = none }) l) ≡ answer → refused rules_order ≡ answer
          go [] q o = let n = ap length q in let a = not_past in let i = t.within in let c = length-drop w (drop at s) in let g = length-drop at s in absurd (d (omega arith))
          go (y ∷ l) q o = o

      -- the end
      at_the_end : line.byte ≡ 0x2F → at + w ≡ length s → accepted (F, (closed h).rules) ≡ outcome F (read (rule_format 2 (beside_of F)) start s)
      unfolding outcome
      at_the_end z d =
          ap (λ (l : List ℕ). outcome F (behind (rule_format 2 (beside_of F)) (record { complete = (closed h).rules; current = none }) l)) (sym nothing_left)
          ∙ followed (is-end (kind_at front.shape) z)
        where
          nothing_left : drop w (drop at s) ≡ []
          nothing_left = length_none (drop w (drop at s)) (let a = length-drop w (drop at s) in let c = length-drop at s in omega arith)

      -- what is kept is what the rules come to, and the grid has what they grant
      pub ended : line.byte ≡ 0x2F → at + w ≡ length s → (accepted (both_with (record_of F) done_with seen again) ≡ map_answer both_of (outcome F (read (rule_format 2 (beside_of F)) start s))) × GridShown (outcome F (read (rule_format 2 (beside_of F)) start s)) done_grid
      unfolding both_of GridShown
      ended z d = (
        ap accepted (shown (closed h).rules done_with done_grid (closed h).stored) ∙ ap (map_answer both_of) (at_the_end z d),
        subst (λ (a : Answer (Policy × List Lines)). GridShown a done_grid) (at_the_end z d) (closed h).stored.grid_shown,
      )
        where
          shown : (rules : List Lines) (n : Tally) (g : List ℕ) → Stored F rules n g seen again → both_with (record_of F) n seen again ≡ both_of (F, rules)
          shown rules n g v = rw (v.rules-counted, v.stray_shown, v.seen-shown, v.again-shown) refl

    -- ---- a line of the open rule

    -- the reading with it
    abbrev with-line : Lines → Reading
    with-line ls = record { complete = t.reading.complete; current = some (ls ++ (command_of line ∷ [])) }

    add_none : t.reading.current ≡ none → add_line (beside_of F) t.reading (command_of line) ≡ refused rules_order
    unfolding add_line
    add_none q = rw q refl

    add_some : (ls : Lines) → t.reading.current ≡ some ls → add_line (beside_of F) t.reading (command_of line)
        ≡ unless (follows ls (command_of line)) rules_order (unless (legal (beside_of F) (command_of line)) rules_operand (unless (levelled (beside_of F) ls (command_of line)) wrong_level (accepted (with-line ls))))
    unfolding add_line
    add_some ls q = rw q refl

    module _ (n : (eqb line.byte 0x21 || eqb line.byte 0x2F) ≡ false) where
      -- what a line is
      pub record OfRule : Type 0 where
        pub low : 0x22 ≤ line.byte
        pub high : line.byte ≤ 0x29
        pub goes_on : ends_file (command_of line) ≡ false
        pub adds : obey_rule (beside_of F) t.reading (command_of line) ≡ add_line (beside_of F) t.reading (command_of line)

      of-rule : (line.byte ≡ 0x20 → ⊥) → OfRule
      of-rule other = go (kind-of (front.shape other))
        where
          go : Kind line → OfRule
          go (reshaping p) = absurd (other p)
          go (opening p q) = absurd (false≢true (sym n ∙ or_l (eqb line.byte 0x2F) (eq-eqb line.byte 0x21 p)))
          go (ending p q) = absurd (false≢true (sym n ∙ or_r (eqb line.byte 0x21) (eq-eqb line.byte 0x2F p)))
          go (lining p q u v) = record { low = p; high = q; goes_on = u; adds = v (beside_of F) t.reading }

      follows_is : (line.byte ≡ 0x20 → ⊥) → (ls : Lines) → t.reading.current ≡ some ls → follows_with k line ≡ follows ls (command_of line)
      follows_is other ls q = follows_means F Z t.reading.complete ls k met listed grid seen again (shows-lines (some ls) q) line (inside_is (some ls) q) (front.shape other) (of-rule other).low (of-rule other).high

      pub line_refused : follows_with k line ≡ false → refused rules_order ≡ outcome F (read (rule_format 2 (beside_of F)) start s)
      line_refused h = test (eqb line.byte 0x20)
          (λ e. refused-by (again-refused (beside_of F) t.reading line (eqb-true line.byte 0x20 e)))
          (λ e. refused-by ((of-rule (eqb-false line.byte 0x20 e)).adds ∙ go (eqb-false line.byte 0x20 e) t.reading.current refl))
        where
          go : (line.byte ≡ 0x20 → ⊥) → (o : Option Lines) → t.reading.current ≡ o → add_line (beside_of F) t.reading (command_of line) ≡ refused rules_order
          go other none q = add_none q
          go other (some ls) q = add_some ls q ∙ ap (λ (u : Bool). unless u rules_order (unless (legal (beside_of F) (command_of line)) rules_operand (unless (levelled (beside_of F) ls (command_of line)) wrong_level (accepted (with-line ls))))) (sym (follows_is other ls q) ∙ h)

      module _ (h : follows_with k line ≡ true) where
        -- the open rule
        pub record Open : Type 0 where
          pub lines : Lines
          pub current : t.reading.current ≡ some lines
          pub follow : follows lines (command_of line) ≡ true
          pub after : raw_before k.last line ≡ true

        parts-of : (k.inside ≡ true) × (raw_before k.last line ≡ true)
        unfolding follows_with
        parts-of = (and_l k.inside _ h, and_r (not (is_second k line.byte)) _ (and_r k.inside _ h))

        -- it is no 20
        other : line.byte ≡ 0x20 → ⊥
        unfolding raw_before
        other z =
            let l = t.last in
            let r : (ltb k.last.byte line.byte || (eqb k.last.byte line.byte && (ltb k.last.first line.first || (eqb k.last.first line.first && ltb k.last.second line.second)))) ≡ true = parts-of.1 in
            false≢true (rw (le-ltb k.last.byte line.byte (omega arith), ne_eqb k.last.byte line.byte (λ q. omega arith)) at r)

        open_rule : Open
        open_rule = go t.reading.current refl
          where
            go : (o : Option Lines) → t.reading.current ≡ o → Open
            go none q = absurd (false≢true (sym (inside_is none q) ∙ parts-of.0))
            go (some ls) q = record { lines = ls; current = q; follow = sym (follows_is other ls q) ∙ h; after = parts-of.1 }

        -- what comes of it
        abbrev tested : Bool → Answer Reading
        tested l = unless l rules_operand (unless (levelled (beside_of F) open_rule.lines (command_of line)) wrong_level (accepted (with-line open_rule.lines)))

        added : obey_rule (beside_of F) t.reading (command_of line) ≡ tested (legal (beside_of F) (command_of line))
        added = (of-rule other).adds ∙ add_some open_rule.lines open_rule.current ∙ ap (λ (u : Bool). unless u rules_order (tested (legal (beside_of F) (command_of line)))) open_rule.follow

        operand_refused : obey_rule (beside_of F) t.reading (command_of line) ≡ refused rules_operand → refused rules_operand ≡ answer
        unfolding outcome
        operand_refused q = ap (λ (r : Answer Reading). outcome F (and_then r onward)) (sym q) ∙ turned

        pub line-illegal : checked_of line (record_of F) ≡ None → refused rules_operand ≡ outcome F (read (rule_format 2 (beside_of F)) start s)
        line-illegal i = operand_refused (added ∙ ap tested (checked-illegal F Z (front.shape other) i))

        -- the level of a 29, tested behind that
        level-is : levelled_with k line ≡ levelled (beside_of F) open_rule.lines (command_of line)
        level-is = levelled_means F Z t.reading.complete open_rule.lines k met listed grid seen again (shows-lines (some open_rule.lines) open_rule.current) (front.shape other)

        level-tested : Is (legal (beside_of F) (command_of line)) → obey_rule (beside_of F) t.reading (command_of line) ≡ unless (levelled_with k line) wrong_level (accepted (with-line open_rule.lines))
        level-tested l = added ∙ ap tested l ∙ ap (λ (u : Bool). unless u wrong_level (accepted (with-line open_rule.lines))) (sym level-is)

        level-refused : obey_rule (beside_of F) t.reading (command_of line) ≡ refused wrong_level → refused wrong_level ≡ answer
        unfolding outcome
        level-refused q = ap (λ (r : Answer Reading). outcome F (and_then r onward)) (sym q) ∙ turned

        pub line-unlevelled : (c : RuleCommand) → checked_of line (record_of F) ≡ Some c → levelled_with k line ≡ false → refused wrong_level ≡ outcome F (read (rule_format 2 (beside_of F)) start s)
        line-unlevelled c g v =
            level-refused (level-tested (checked-legal F Z (front.shape other) c g).0 ∙ ap (λ (u : Bool). unless u wrong_level (accepted (with-line open_rule.lines))) v)

        -- no second 26
        only_one : {p q : Bool} → Is (not (p && q)) → p ≡ true → q ≡ false
        only_one {p} {q} i j = fails q (λ u. never i (ap not (ap₂ ◌&&◌ j u)))

        no_second_lem : is_operations (command_of line) ≡ true → any is_operations open_rule.lines ≡ false
        unfolding follows
        no_second_lem j =
            only_one (and_l (no_second is_operations open_rule.lines (command_of line)) (no_second is_level open_rule.lines (command_of line))
            (and_r (all (λ d. precedes d (command_of line)) open_rule.lines) _ open_rule.follow)) j

        module _ (c : RuleCommand) (g : checked_of line (record_of F) ≡ Some c) where
          legal-line : Is (legal (beside_of F) (command_of line)) × (rule_meaning c ≡ command_of line) × Sided c
          legal-line = checked-legal F Z (front.shape other) c g

          pub line-sided : Sided c
          line-sided = legal-line.2

          -- the command as the code has it is legal too
          pub line-legal : Is (legal (beside_of F) (rule_meaning c))
          line-legal = subst (λ (d : Line). Is (legal (beside_of F) d)) (sym legal-line.1) legal-line.0

          line-shows : Shows F t.reading.complete (open_rule.lines ++ (command_of line ∷ [])) (noted_with k c line)
              (met_after (F.table user).count (F.table resource).count F.roles (known_table F) (value_table F) (record_of F).holders met c)
              (listed_after F.operations (record_of F).holders (permission_table F) listed c) grid (seen_by seen c) (again_by seen again c)
          line-shows =
              subst
              (λ (d : Line). Shows F t.reading.complete (open_rule.lines ++ (d ∷ [])) (noted_with k c line)
              (met_after (F.table user).count (F.table resource).count F.roles (known_table F) (value_table F) (record_of F).holders met c)
              (listed_after F.operations (record_of F).holders (permission_table F) listed c) grid (seen_by seen c) (again_by seen again c))
              legal-line.1
              (shows-line F Z t.reading.complete open_rule.lines k met listed grid seen again (shows-lines (some open_rule.lines) open_rule.current) line c line-sided line-legal
              (subst (λ (d : Line). InOrder line (open_rule.lines ++ (d ∷ []))) (sym legal-line.1) (order-more k.last line open_rule.lines (shows-lines (some open_rule.lines) open_rule.current).ordered (front.shape other) (of-rule other).low (of-rule other).high open_rule.after))
              (λ j. no_second_lem (ap is_operations (sym legal-line.1) ∙ j)))

          pub line-added : levelled_with k line ≡ true → State F s (noted_with k c line) (met_after (F.table user).count (F.table resource).count F.roles (known_table F) (value_table F) (record_of F).holders met c)
              (listed_after F.operations (record_of F).holders (permission_table F) listed c) grid (seen_by seen c) (again_by seen again c) (at + w)
          line-added v =
              stepped (record { complete = t.reading.complete; current = some (open_rule.lines ++ (command_of line ∷ [])) }) (noted_with k c line)
              (met_after (F.table user).count (F.table resource).count F.roles (known_table F) (value_table F) (record_of F).holders met c) (listed_after F.operations (record_of F).holders (permission_table F) listed c) grid (seen_by seen c) (again_by seen again c)
              (of-rule other).goes_on
              (level-tested legal-line.0 ∙ ap (λ (u : Bool). unless u wrong_level (accepted (with-line open_rule.lines))) v)
              (let l = t.few in let r = (noted-kept k c line).0 in omega arith)
              (let r = (noted-kept k c line).2 in let q = (of-rule other).low in omega arith)
              ((noted-kept k c line).1 ∙ inside_is (some open_rule.lines) open_rule.current)
              line-shows
