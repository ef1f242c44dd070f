-- The bytes of an accepted rule file are the encoding of the rules that were read, and the part that shows a rule is the encoding of its
-- lines. Where a rule begins, and the laws of a loop that looks for it.
-- Assumes nothing.
use Prim.Native.Nat.{ℕ, zero, suc, ◌+◌, ◌*◌, ◌/◌, ◌%◌, ◌-◌, ◌≤◌, ◌<◌}
use borrow.Author.Tests.{eqb-true, lt-ltb}
use Rattle.std.specs.Prelude.{eqb, Bool, true, cond, ◌&&◌, ◌||◌, ◌≡◌}
use Rattle.std.proofs.Math.ListN.{length, get_or, take, drop}
use Rattle.std.proofs.Common.{length-append, length-drop, drop_of_length-le, take-suc, drop-cons, drop-drop, ◌∙◌, add-zero, zero-add, arith}
use Rattle.std.proofs.Math.Seq.{split_at, take-append_seam, drop-append_seam}
use Rattle.std.proofs.Math.Bool.{false}
use Rattle.std.proofs.lemmas.Bool.{false≢true}
use mathlib.Core.List.Memᴰ
use mathlib.Core.List.{List, [], ◌∷◌, ◌++◌, append_assoc, append-nil}
use Rattle.std.proofs.Math.Option.{Option, none, some, map}
use Rattle.std.proofs.Math.Path.{refl, sym, ap, ap₂, subst}
use Rattle.files.specs.Answer.{Answer, unless, and_then, rules_unknown, rules_order, rules_operand, wrong_shape, wrong_level, refused, accepted}
use Rattle.files.specs.Beside.{Beside, shape_of, beside_of}
use Rattle.files.specs.Bytes.{number, one_more, operands, spread, spread_all, Format, turn, decode, read_on, read}
use Rattle.files.proofs.BytesLaws.{Bytes, Carries, unless_carries, then_carries, any-carried, carried, read_carries}
use Rattle.files.specs.Calls.{read_both, show_answer, shown_place, shown_part}
use Rattle.files.proofs.ReadBackLaws.{inner, ones}
use Rattle.files.specs.RoleFile.{read_roles}
use Rattle.files.specs.RuleFile.{RuleCommand, byte_of, operands_of, rule_command, Lines, Reading, ends_file, whole, finished, follows, legal, levelled, add_line, obey_rule, same_numbers, opened_by, widths_or, rule_widths, encode, encode_all, encode_file, opened, rule_format, read_body, read_rules, reshapes, opens, value, operations, link, part, level, ends}
use Rattle.files.specs.RulePart.{size_of, marks_on, rule_start}
use Rattle.policy.specs.Policy.{Policy}
use Rattle.policy.specs.Rules.{user, resource}
use Rattle.sets.specs.ListLaws.{length_none, all-last, each_append, each_last}
use Rattle.sets.specs.Tests.{Is, ◌is_in◌, all, each, only, is_some, sum}
use Rattle.sets.specs.TestLaws.{and_in, and_l, and_r, test}

-- ---- numbers and operands, back as bytes

-- the bytes behind others are bytes
bytes-behind : (s t : List ℕ) {bs : List ℕ} → s ++ t ≡ bs → Bytes bs → Bytes t
bytes-behind s t e h c m = h c (subst (λ (l : List ℕ). c is_in l) e (Memᴰ.append_right s m))

-- a number and the bytes behind it, written again, are these bytes
abbrev NumberBack : ℕ → List ℕ → Option (ℕ × List ℕ) → Type 0
NumberBack w bs none = Unit {0}
NumberBack w bs (some p) = spread w p.0 ++ p.1 ≡ bs

-- a number that was read, written again, gives the bytes that it was read from
number-back : (w : ℕ) (bs : List ℕ) → Bytes bs → NumberBack w bs (number w bs)
number-back zero bs h = refl
number-back (suc w) [] h = tt
number-back (suc w) (b ∷ bs) h = go (number w bs) (number-back w bs (λ c m. h c (Memᴰ.tail m)))
  where
    go : (o : Option (ℕ × List ℕ)) → NumberBack w bs o → NumberBack (suc w) (b ∷ bs) (map (λ (p : ℕ × List ℕ). (b + 256 * p.0, p.1)) o)
    go none k = tt
    go (some p) k =
        let l = h b (Memᴰ.head refl) in
        let low : (b + 256 * p.0) % 256 ≡ b = omega arith in
        let high : (b + 256 * p.0) / 256 ≡ p.0 = omega arith in
        ap₂ ◌∷◌ low (ap (λ (x : ℕ). spread w x ++ p.1) high ∙ k)

-- operands are as many as their widths, and with the bytes behind them, written again, they are these bytes
abbrev OperandsBack : List ℕ → List ℕ → Option (List ℕ × List ℕ) → Type 0
OperandsBack ws bs none = Unit {0}
OperandsBack ws bs (some p) = (length p.0 ≡ length ws) × (spread_all ws p.0 ++ p.1 ≡ bs)

-- operands that were read, written again, give the bytes that they were read from
operands-back : (ws bs : List ℕ) → Bytes bs → OperandsBack ws bs (operands ws bs)
operands-back [] bs h = (refl, refl)
operands-back (w ∷ ws) bs h = go (number w bs) (number-back w bs h) (operands-back ws)
  where
    rest : (x : ℕ) (r : List ℕ) → spread w x ++ r ≡ bs → (o : Option (List ℕ × List ℕ)) → OperandsBack ws r o → OperandsBack (w ∷ ws) bs (map (λ (q : List ℕ × List ℕ). (x ∷ q.0, q.1)) o)
    rest x r e none k = tt
    rest x r e (some q) k = (ap suc k.0, append_assoc (spread w x) (spread_all ws q.0) q.1 ∙ ap (λ (l : List ℕ). spread w x ++ l) k.1 ∙ e)

    go : (o : Option (ℕ × List ℕ)) → NumberBack w bs o → ((bs : List ℕ) → Bytes bs → OperandsBack ws bs (operands ws bs)) → OperandsBack (w ∷ ws) bs (one_more (operands ws) o)
    go none k r = tt
    go (some p) k r = rest p.0 p.1 k (operands ws p.1) (r p.1 (bytes-behind (spread w p.0) p.1 k h))

-- ---- what is read, back as bytes

-- bytes that end in a command, and what stands behind it
seam : (x s t r bs : List ℕ) (b : ℕ) → x ≡ s ++ (b ∷ t) → t ++ r ≡ bs → x ++ r ≡ s ++ (b ∷ bs)
seam x s t r bs b e d = ap (λ (l : List ℕ). l ++ r) e ∙ append_assoc s (b ∷ t) r ∙ ap (λ (l : List ℕ). s ++ (b ∷ l)) d

-- states show bytes, by whether the end was read
module _ {Command State : Type 0} (T : Format Command State) (shows : Bool → State → List ℕ) where
  -- what a state shows and the bytes that are left are what the last state shows
  abbrev Shown : ℕ → Bool → State → List ℕ → Type 0
  Shown n over s bs = Carries (λ t. shows over s ++ bs ≡ shows true t) (read_on T n over s bs)

  -- where each command that is obeyed adds its own bytes
  module _ (adds : (s : State) (b : ℕ) (ws xs : List ℕ) → T.widths b ≡ some ws → length xs ≡ length ws
      → Carries (λ t. shows (T.ends (T.command b xs)) t ≡ shows false s ++ (b ∷ spread_all ws xs)) (T.obey s (T.command b xs))) where
    -- all bytes that were read are shown in the end
    read-shows : (n : ℕ) (over : Bool) (s : State) (bs : List ℕ) → Bytes bs → Shown n over s bs
    read-shows zero true s [] h = append-nil (shows true s)
    read-shows zero true s (b ∷ bs) h = tt
    read-shows zero false s bs h = tt
    read-shows (suc n) true s [] h = append-nil (shows true s)
    read-shows (suc n) false s [] h = tt
    read-shows (suc n) true s (b ∷ bs) h = tt
    read-shows (suc n) false s (b ∷ bs) h = decoded (read-shows n) (T.widths b) refl
      where
        turned : ((over : Bool) (s : State) (bs : List ℕ) → Bytes bs → Shown n over s bs) → (ws : List ℕ) → T.widths b ≡ some ws → (o : Option (List ℕ × List ℕ)) → OperandsBack ws bs o
            → Carries (λ t. shows false s ++ (b ∷ bs) ≡ shows true t) (turn T (read_on T n) s b o)
        turned r ws e none k = tt
        turned r ws e (some p) k =
            let over = T.ends (T.command b p.0) in
            then_carries (λ u. shows over u ≡ shows false s ++ (b ∷ spread_all ws p.0)) (λ t. shows false s ++ (b ∷ bs) ≡ shows true t) (T.obey s (T.command b p.0))
            (λ u. read_on T n over u p.1) (adds s b ws p.0 e k.0)
            (λ u j.
            subst (λ (l : List ℕ). Carries (λ t. l ≡ shows true t) (read_on T n over u p.1)) (seam (shows over u) (shows false s) (spread_all ws p.0) p.1 bs b j k.1)
            (r over u p.1 (bytes-behind (spread_all ws p.0) p.1 k.1 (λ c m. h c (Memᴰ.tail m)))))

        decoded : ((over : Bool) (s : State) (bs : List ℕ) → Bytes bs → Shown n over s bs) → (o : Option (List ℕ)) → T.widths b ≡ o
            → Carries (λ t. shows false s ++ (b ∷ bs) ≡ shows true t) (decode T (read_on T n) s b bs o)
        decoded r none e = tt
        decoded r (some ws) e = turned r ws e (operands ws bs) (operands-back ws bs (λ c m. h c (Memᴰ.tail m)))

-- ---- commands

-- a list of one number is its first
first_one : (xs : List ℕ) → length xs ≡ 1 → get_or xs 0 0 ∷ [] ≡ xs
first_one [] l = absurd (omega arith)
first_one (a ∷ []) l = refl
first_one (a ∷ b ∷ xs) l = absurd (omega arith)

-- a list of two numbers is its first two
first_two_lem : (xs : List ℕ) → length xs ≡ 2 → get_or xs 0 0 ∷ get_or xs 1 0 ∷ [] ≡ xs
first_two_lem [] l = absurd (omega arith)
first_two_lem (a ∷ []) l = absurd (omega arith)
first_two_lem (a ∷ b ∷ []) l = refl
first_two_lem (a ∷ b ∷ c ∷ xs) l = absurd (omega arith)

-- how long a number is that is written in w bytes
spread-long : (w n : ℕ) → length (spread w n) ≡ w
spread-long zero n = refl
spread-long (suc w) n = ap suc (spread-long w (n / 256))

-- how long operands are that are as many as their widths
spread_all_long : (ws xs : List ℕ) → length xs ≡ length ws → length (spread_all ws xs) ≡ sum (λ w. w) ws
spread_all_long [] xs h = refl
spread_all_long (w ∷ ws) [] h = absurd (omega arith)
spread_all_long (w ∷ ws) (x ∷ xs) h = length-append (spread w x) (spread_all ws xs) ∙ ap₂ ◌+◌ (spread-long w x) (spread_all_long ws xs (omega arith))

module _ (W : ℕ) where
  -- a byte that has widths, other than 20, is one of ten
  known : (Q : ℕ → Type 0) (b : ℕ) → Is (is_some (rule_widths W b)) → eqb b 0x20 ≡ false → Q 0x21 → Q 0x22 → Q 0x23 → Q 0x24 → Q 0x25 → Q 0x26 → Q 0x27 → Q 0x28 → Q 0x29 → Q 0x2F → Q b
  known Q b h e0 q1 q2 q3 q4 q5 q6 q7 q8 q9 q10 =
      test (eqb b 0x21) (is 0x21 q1) λ e1.
      test (eqb b 0x22) (is 0x22 q2) λ e2.
      test (eqb b 0x23) (is 0x23 q3) λ e3.
      test (eqb b 0x24) (is 0x24 q4) λ e4.
      test (eqb b 0x25) (is 0x25 q5) λ e5.
      test (eqb b 0x26) (is 0x26 q6) λ e6.
      test (eqb b 0x27) (is 0x27 q7) λ e7.
      test (eqb b 0x28) (is 0x28 q8) λ e8.
      test (eqb b 0x29) (is 0x29 q9) λ e9.
      test (eqb b 0x2F) (is 0x2F q10) λ e10.
      absurd (false≢true (rw (e0, e1, e2, e3, e4, e5, e6, e7, e8, e9, e10) at h))
    where
      is : (x : ℕ) → Q x → Is (eqb b x) → Q b
      is x q e = subst Q (sym (eqb-true b x e)) q

  -- a command made of a known byte, other than 20, and as many operands as it has widths has this byte and these operands
  command-back : (b : ℕ) → Is (is_some (rule_widths W b)) → eqb b 0x20 ≡ false → (xs : List ℕ) → length xs ≡ length (widths_or (rule_widths W b)) → (byte_of (rule_command b xs) ≡ b) × (operands_of (rule_command b xs) ≡ xs)
  command-back b h n =
      known (λ b. (xs : List ℕ) → length xs ≡ length (widths_or (rule_widths W b)) → (byte_of (rule_command b xs) ≡ b) × (operands_of (rule_command b xs) ≡ xs)) b h n
      (λ xs l. (refl, sym (length_none xs l)))
      (λ xs l. (refl, first_two_lem xs l))
      (λ xs l. (refl, first_two_lem xs l))
      (λ xs l. (refl, first_two_lem xs l))
      (λ xs l. (refl, first_two_lem xs l))
      (λ xs l. (refl, first_one xs l))
      (λ xs l. (refl, first_two_lem xs l))
      (λ xs l. (refl, first_two_lem xs l))
      (λ xs l. (refl, first_one xs l))
      (λ xs l. (refl, sym (length_none xs l)))

  -- such a command is encoded as its byte and its operands in their widths
  encode-back : (b : ℕ) (ws xs : List ℕ) → rule_widths W b ≡ some ws → eqb b 0x20 ≡ false → length xs ≡ length ws → encode W (rule_command b xs) ≡ b ∷ spread_all ws xs
  unfolding encode
  encode-back b ws xs e n l =
      let k = command-back b (ap is_some e) n xs (l ∙ ap (λ (o : Option (List ℕ)). length (widths_or o)) (sym e)) in
      ap₂ (λ (x : ℕ) (ys : List ℕ). x ∷ spread_all (widths_or (rule_widths W x)) ys) k.0 k.1 ∙ ap (λ (o : Option (List ℕ)). b ∷ spread_all (widths_or o) xs) e

  -- every command but another 20 has as many operands as its byte has widths
  as_many : (c : RuleCommand) → eqb (byte_of c) 0x20 ≡ false → length (operands_of c) ≡ length (widths_or (rule_widths W (byte_of c)))
  as_many reshapes n = absurd (false≢true (sym n))
  as_many opens n = refl
  as_many (value user false a v) n = refl
  as_many (value user true a v) n = refl
  as_many (value resource false a v) n = refl
  as_many (value resource true a v) n = refl
  as_many (operations m) n = refl
  as_many (link a b) n = refl
  as_many (part k m) n = refl
  as_many (level l) n = refl
  as_many ends n = refl

  -- a command is as long as its byte says
  command-size : (c : RuleCommand) → eqb (byte_of c) 0x20 ≡ false → size_of W (byte_of c) ≡ length (encode W c)
  unfolding encode
  command-size c n = ap suc (sym (spread_all_long (widths_or (rule_widths W (byte_of c))) (operands_of c) (as_many c n)))

-- ---- the first command, back as bytes

-- operands of one byte each, and the bytes behind them, are the bytes that they were read from
abbrev OnesBack : List ℕ → Option (List ℕ × List ℕ) → Type 0
OnesBack bs none = Unit {0}
OnesBack bs (some p) = p.0 ++ p.1 ≡ bs

ones-back : (n : ℕ) (bs : List ℕ) → OnesBack bs (operands (ones n) bs)
ones-back zero bs = refl
ones-back (suc n) [] = tt
ones-back (suc n) (b ∷ bs) = go (operands (ones n) bs) (ones-back n bs)
  where
    go : (o : Option (List ℕ × List ℕ)) → OnesBack bs o → OnesBack (b ∷ bs) (map (λ (q : List ℕ × List ℕ). ((b + 256 * 0) ∷ q.0, q.1)) o)
    go none k = tt
    go (some q) k = ap₂ ◌∷◌ (omega arith) k

numbers-out : (xs ys : List ℕ) → Is (same_numbers xs ys) → xs ≡ ys
numbers-out [] [] h = refl
numbers-out [] (y ∷ ys) h = absurd (false≢true h)
numbers-out (x ∷ xs) [] h = absurd (false≢true h)
numbers-out (x ∷ xs) (y ∷ ys) h = ap₂ ◌∷◌ (eqb-true x y (and_l (eqb x y) (same_numbers xs ys) h)) (numbers-out xs ys (and_r (eqb x y) (same_numbers xs ys) h))

-- the bytes of a file whose first command was taken: 20, the shape, and those behind
opened-back : (W : ℕ) (shape bytes : List ℕ) → Carries (λ rest. bytes ≡ 0x20 ∷ (shape ++ rest)) (opened W shape bytes)
unfolding opened
opened-back W shape [] = tt
opened-back W shape (b ∷ bs) = known_so (rule_widths W b) refl
  where
    taken-so : (ws : List ℕ) → rule_widths W b ≡ some ws → (o : Option (List ℕ × List ℕ)) → operands ws bs ≡ o → Carries (λ rest. b ∷ bs ≡ 0x20 ∷ (shape ++ rest)) (opened_by shape b o)
    taken-so ws e none q = tt
    taken-so ws e (some p) q =
        unless_carries (λ rest. b ∷ bs ≡ 0x20 ∷ (shape ++ rest)) (eqb b 0x20) rules_order (unless (same_numbers p.0 shape) wrong_shape (accepted p.1)) λ y.
        unless_carries (λ rest. b ∷ bs ≡ 0x20 ∷ (shape ++ rest)) (same_numbers p.0 shape) wrong_shape (accepted p.1) λ z.
        let six : ones 6 ≡ ws = ap widths_or (ap (rule_widths W) (sym (eqb-true b 0x20 y)) ∙ e) in
        let back : p.0 ++ p.1 ≡ bs = subst (OnesBack bs) q (subst (λ (l : List ℕ). OnesBack bs (operands l bs)) six (ones-back 6 bs)) in
        ap₂ ◌∷◌ (eqb-true b 0x20 y) (sym back ∙ ap (λ (l : List ℕ). l ++ p.1) (numbers-out p.0 shape z))

    known_so : (o : Option (List ℕ)) → rule_widths W b ≡ o → Carries (λ rest. b ∷ bs ≡ 0x20 ∷ (shape ++ rest)) (elim o [ none ↦ refused rules_unknown | some ws ↦ opened_by shape b (operands ws bs) ])
    known_so none e = tt
    known_so (some ws) e = taken-so ws e (operands ws bs) refl

-- ---- the state of the reader

-- the rules that are complete, and the one that is open
abbrev with_open : List Lines → Option Lines → List Lines
with_open done none = done
with_open done (some ls) = done ++ (ls ∷ [])

-- the rules so far, complete or open
abbrev so_far : Reading → List Lines
so_far s = with_open s.complete s.current

-- closing the open rule gives the rules so far
closed : (s : Reading) → Carries (λ done. done ≡ so_far s) (finished s)
unfolding finished
closed s = go s.complete s.current
  where
    go : (done : List Lines) (o : Option Lines) → Carries (λ k. k ≡ with_open done o) (elim o [ none ↦ accepted done | some ls ↦ unless (whole ls) rules_order (accepted (done ++ (ls ∷ []))) ])
    go done none = refl
    go done (some ls) = unless_carries (λ k. k ≡ done ++ (ls ∷ [])) (whole ls) rules_order (accepted (done ++ (ls ∷ []))) (λ w. refl)

module _ (B : Beside) where
  -- a line that is added stands behind those of the open rule
  added : (Q : Reading → Type 0) (s : Reading) (c : RuleCommand) → ((ls : Lines) → s.current ≡ some ls → Q (record { complete = s.complete; current = some (ls ++ (c ∷ [])) })) → Carries Q (add_line B s c)
  unfolding add_line
  added Q s c = go s.current
    where
      go : (o : Option Lines) → ((ls : Lines) → o ≡ some ls → Q (record { complete = s.complete; current = some (ls ++ (c ∷ [])) }))
          → Carries Q (elim o [ none ↦ refused rules_order | some ls ↦ unless (follows ls c) rules_order (unless (legal B c) rules_operand (unless (levelled B ls c) wrong_level (accepted (record { complete = s.complete; current = some (ls ++ (c ∷ [])) })))) ])
      go none k = tt
      go (some ls) k =
          unless_carries Q (follows ls c) rules_order (unless (legal B c) rules_operand (unless (levelled B ls c) wrong_level (accepted (record { complete = s.complete; current = some (ls ++ (c ∷ [])) })))) λ f.
          unless_carries Q (legal B c) rules_operand (unless (levelled B ls c) wrong_level (accepted (record { complete = s.complete; current = some (ls ++ (c ∷ [])) }))) λ l.
          unless_carries Q (levelled B ls c) wrong_level (accepted (record { complete = s.complete; current = some (ls ++ (c ∷ [])) })) λ v. k ls refl

  -- what holds of a command and the state after it, if it holds of a 21, a 2F and a line
  obeyed : (Q : RuleCommand → Reading → Type 0) (s : Reading) → Q opens (record { complete = so_far s; current = some [] }) → Q ends (record { complete = so_far s; current = none })
      → ((c : RuleCommand) → Is (inner c) → ends_file c ≡ false → (ls : Lines) → s.current ≡ some ls → Q c (record { complete = s.complete; current = some (ls ++ (c ∷ [])) }))
      → (c : RuleCommand) → Carries (Q c) (obey_rule B s c)
  unfolding obey_rule
  obeyed Q s o e l reshapes = tt
  obeyed Q s o e l opens =
      then_carries (λ done. done ≡ so_far s) (Q opens) (finished s) (λ done. accepted (record { complete = done; current = some [] })) (closed s)
      (λ done d. subst (λ (k : List Lines). Q opens (record { complete = k; current = some [] })) (sym d) o)
  obeyed Q s o e l (value w set a v) = added (Q (value w set a v)) s (value w set a v) (l (value w set a v) refl refl)
  obeyed Q s o e l (operations m) = added (Q (operations m)) s (operations m) (l (operations m) refl refl)
  obeyed Q s o e l (link a b) = added (Q (link a b)) s (link a b) (l (link a b) refl refl)
  obeyed Q s o e l (part k m) = added (Q (part k m)) s (part k m) (l (part k m) refl refl)
  obeyed Q s o e l (level n) = added (Q (level n)) s (level n) (l (level n) refl refl)
  obeyed Q s o e l ends =
      then_carries (λ done. done ≡ so_far s) (Q ends) (finished s) (λ done. accepted (record { complete = done; current = none })) (closed s)
      (λ done d. subst (λ (k : List Lines). Q ends (record { complete = k; current = none })) (sym d) e)

module _ (W : ℕ) where
  -- a rule's bytes: its 21 and its lines
  abbrev pub rule_bytes : Lines → List ℕ
  rule_bytes ls = each (encode W) (opens ∷ ls)

  -- the bytes that a state shows: those of the rules so far, and the 2F once it was read
  abbrev state_bytes : Bool → Reading → List ℕ
  state_bytes over s = cond over (encode_all W s.complete) (each rule_bytes (so_far s))

  -- a line more in the open rule
  line-shown : (done : List Lines) (ls : Lines) (c : RuleCommand) → each rule_bytes (done ++ ((ls ++ (c ∷ [])) ∷ [])) ≡ each rule_bytes (done ++ (ls ∷ [])) ++ encode W c
  line-shown done ls c =
      each_last rule_bytes done (ls ++ (c ∷ []))
      ∙ ap (λ (k : List ℕ). each rule_bytes done ++ k) (each_last (encode W) (opens ∷ ls) c)
      ∙ sym (append_assoc (each rule_bytes done) (rule_bytes ls) (encode W c))
      ∙ ap (λ (k : List ℕ). k ++ encode W c) (sym (each_last rule_bytes done ls))

  module _ (B : Beside) where
    -- a 20 is not obeyed
    again-refused : (s : Reading) (ws xs : List ℕ) → Carries (λ t. state_bytes (ends_file (rule_command 0x20 xs)) t ≡ state_bytes false s ++ (0x20 ∷ spread_all ws xs)) (obey_rule B s (rule_command 0x20 xs))
    unfolding obey_rule
    again-refused s ws xs = tt

    -- a command that is obeyed adds its bytes
    command-shown : (s : Reading) (c : RuleCommand) → Carries (λ t. state_bytes (ends_file c) t ≡ state_bytes false s ++ encode W c) (obey_rule B s c)
    unfolding encode_all
    command-shown s =
        obeyed B (λ c t. state_bytes (ends_file c) t ≡ state_bytes false s ++ encode W c) s
        (each_last rule_bytes (so_far s) [] ∙ ap (λ (k : List ℕ). each rule_bytes (so_far s) ++ k) (append-nil (encode W opens)))
        refl
        (λ c i q ls e.
        ap (λ (over : Bool). state_bytes over (record { complete = s.complete; current = some (ls ++ (c ∷ [])) })) q
        ∙ line-shown s.complete ls c
        ∙ ap (λ (o : Option Lines). each rule_bytes (with_open s.complete o) ++ encode W c) (sym e))

    -- what stands behind the first command is the encoding of the rules that were read
    body_written : (bytes : List ℕ) (rules : List Lines) → Bytes bytes → read_body W B bytes ≡ accepted rules → bytes ≡ encode_all W rules
    unfolding read_body rule_format
    body_written bytes rules h e =
        carried (λ ls. bytes ≡ encode_all W ls) (read_body W B bytes)
        (then_carries (λ t. bytes ≡ encode_all W t.complete) (λ ls. bytes ≡ encode_all W ls) (read (rule_format W B) (record { complete = []; current = none }) bytes) (λ s. accepted s.complete)
        (read-shows (rule_format W B) state_bytes
        (λ s b ws xs w l. test (eqb b 0x20)
        (λ y. subst (λ (c : ℕ). Carries (λ t. state_bytes (ends_file (rule_command c xs)) t ≡ state_bytes false s ++ (c ∷ spread_all ws xs)) (obey_rule B s (rule_command c xs))) (sym (eqb-true b 0x20 y)) (again-refused s ws xs))
        (λ n. subst (λ (k : List ℕ). Carries (λ t. state_bytes (ends_file (rule_command b xs)) t ≡ state_bytes false s ++ k) (obey_rule B s (rule_command b xs))) (encode-back W b ws xs w n l) (command-shown s (rule_command b xs))))
        (suc (length bytes)) false (record { complete = []; current = none }) bytes h)
        (λ t k. k))
        e

    -- THE LAW: bytes that the reader accepts are the encoding of the shape and of the rules that it read
    pub written_back : (bytes : List ℕ) (rules : List Lines) → Bytes bytes → read_rules W B bytes ≡ accepted rules → bytes ≡ encode_file W B.shape rules
    unfolding read_rules encode_file
    written_back bytes rules h e =
        carried (λ ls. bytes ≡ 0x20 ∷ (B.shape ++ encode_all W ls)) (and_then (opened W B.shape bytes) (read_body W B))
        (then_carries (λ rest. bytes ≡ 0x20 ∷ (B.shape ++ rest)) (λ ls. bytes ≡ 0x20 ∷ (B.shape ++ encode_all W ls)) (opened W B.shape bytes) (read_body W B) (opened-back W B.shape bytes)
        (λ rest k. then_so rest k (read_body W B rest) refl))
        e
      where
        then_so : (rest : List ℕ) → bytes ≡ 0x20 ∷ (B.shape ++ rest) → (a : Answer (List Lines)) → read_body W B rest ≡ a → Carries (λ ls. bytes ≡ 0x20 ∷ (B.shape ++ encode_all W ls)) a
        then_so rest k (refused d) q = tt
        then_so rest k (accepted ls) q =
            k ∙ ap (λ (l : List ℕ). 0x20 ∷ (B.shape ++ l)) (body_written rest ls (bytes-behind (0x20 ∷ B.shape) rest (sym k) h) q)

    -- the lines so far stand within rules
    abbrev Within : Reading → Type 0
    Within s = Is (all (all inner) (so_far s))

    -- with each command that is obeyed they still do
    command-within : (s : Reading) (c : RuleCommand) → Within s → Carries Within (obey_rule B s c)
    command-within s c h =
        obeyed B (λ c t. Within t) s
        (all-last (all inner) (so_far s) [] ∙ and_in {a = all (all inner) (so_far s)} {b = true} h refl)
        h
        (λ c i q ls e.
        let k : Is (all (all inner) s.complete && all inner ls) = sym (all-last (all inner) s.complete ls) ∙ ap (λ (o : Option Lines). all (all inner) (with_open s.complete o)) (sym e) ∙ h in
        all-last (all inner) s.complete (ls ++ (c ∷ []))
        ∙ and_in (and_l (all (all inner) s.complete) (all inner ls) k) (all-last inner ls c ∙ and_in (and_r (all (all inner) s.complete) (all inner ls) k) i))
        c

    -- the complete rules are among those so far
    complete-within : (s : Reading) → Within s → Is (all (all inner) s.complete)
    complete-within s = go s.complete s.current
      where
        go : (done : List Lines) (o : Option Lines) → Is (all (all inner) (with_open done o)) → Is (all (all inner) done)
        go done none h = h
        go done (some ls) h = and_l (all (all inner) done) (all inner ls) (sym (all-last (all inner) done ls) ∙ h)

    -- the lines of rules that were read are neither a 20, nor a 21, nor a 2F
    body_within : (bytes : List ℕ) → Carries (λ ls. Is (all (all inner) ls)) (read_body W B bytes)
    unfolding read_body rule_format
    body_within bytes =
        then_carries Within (λ ls. Is (all (all inner) ls)) (read (rule_format W B) (record { complete = []; current = none }) bytes) (λ s. accepted s.complete)
        (read_carries (rule_format W B) Within command-within (suc (length bytes)) false (record { complete = []; current = none }) bytes refl)
        complete-within

    -- and so are those of an accepted file
    pub lines-within : (bytes : List ℕ) (rules : List Lines) → read_rules W B bytes ≡ accepted rules → Is (all (all inner) rules)
    unfolding read_rules
    lines-within bytes rules e =
        carried (λ ls. Is (all (all inner) ls)) (and_then (opened W B.shape bytes) (read_body W B))
        (then_carries (λ rest. Unit {0}) (λ ls. Is (all (all inner) ls)) (opened W B.shape bytes) (read_body W B) (any-carried (opened W B.shape bytes)) (λ rest k. body_within rest))
        e

-- ---- marks: the places of the commands 21 and 2F

-- a first byte 21 or 2F
abbrev pub is_mark : ℕ → Bool
is_mark b = eqb b 0x21 || eqb b 0x2F

-- a line within a rule is no mark
inner_mark : (c : RuleCommand) → Is (inner c) → is_mark (byte_of c) ≡ false
inner_mark reshapes h = refl
inner_mark opens h = sym h
inner_mark (value user false a v) h = refl
inner_mark (value user true a v) h = refl
inner_mark (value resource false a v) h = refl
inner_mark (value resource true a v) h = refl
inner_mark (operations m) h = refl
inner_mark (link a b) h = refl
inner_mark (part k m) h = refl
inner_mark (level l) h = refl
inner_mark ends h = sym h

-- nor is it a 20
inner-other : (c : RuleCommand) → Is (inner c) → eqb (byte_of c) 0x20 ≡ false
inner-other reshapes h = sym h
inner-other opens h = refl
inner-other (value user false a v) h = refl
inner-other (value user true a v) h = refl
inner-other (value resource false a v) h = refl
inner-other (value resource true a v) h = refl
inner-other (operations m) h = refl
inner-other (link a b) h = refl
inner-other (part k m) h = refl
inner-other (level l) h = refl
inner-other ends h = refl

-- two steps on are one step by both lists
further : (at : ℕ) (s t : List ℕ) → at + length s + length t ≡ at + length (s ++ t)
further at s t = omega (arith, length-append s t)

module _ (W : ℕ) where
  -- bytes without their first command are fewer
  behind-shorter : (b : ℕ) (bs : List ℕ) → length (drop (size_of W b) (b ∷ bs)) ≤ length bs
  behind-shorter b bs = omega (arith, length-drop (sum (λ w. w) (widths_or (rule_widths W b))) bs)

  -- the marks do not depend on the fuel, once it is more than the bytes
  pub marks-fuel : (n m at : ℕ) (bs : List ℕ) → length bs < n → length bs < m → marks_on W n at bs ≡ marks_on W m at bs
  marks-fuel zero m at bs h k = absurd (omega arith)
  marks-fuel (suc n) zero at bs h k = absurd (omega arith)
  marks-fuel (suc n) (suc m) at [] h k = refl
  marks-fuel (suc n) (suc m) at (b ∷ bs) h k =
      let l = behind-shorter b bs in
      ap (λ (r : List ℕ). only (is_mark b) at ++ r) (marks-fuel n m (at + size_of W b) (drop (size_of W b) (b ∷ bs)) (omega arith) (omega arith))

  -- the marks of bytes that begin at a place
  abbrev pub marks_from : ℕ → List ℕ → List ℕ
  marks_from at bs = marks_on W (suc (length bs)) at bs

  -- the marks of a command and of the bytes behind it
  marks-first : (at b : ℕ) (bs : List ℕ) → marks_from at (b ∷ bs) ≡ only (is_mark b) at ++ marks_from (at + size_of W b) (drop (size_of W b) (b ∷ bs))
  marks-first at b bs =
      let l = behind-shorter b bs in
      ap (λ (r : List ℕ). only (is_mark b) at ++ r)
      (marks-fuel (suc (length bs)) (suc (length (drop (size_of W b) (b ∷ bs)))) (at + size_of W b) (drop (size_of W b) (b ∷ bs)) (omega arith) (omega arith))

  -- one turn: the marks from a place on are that place, if a 21 or 2F stands there, and those from behind the command on
  pub marks-turn : (bs : List ℕ) (at b : ℕ) → at < length bs → b ≡ get_or bs at 0 → marks_from at (drop at bs) ≡ only (is_mark b) at ++ marks_from (at + size_of W b) (drop (at + size_of W b) bs)
  marks-turn bs at b h e =
      ap (marks_from at) front
      ∙ marks-first at b (drop (suc at) bs)
      ∙ ap (λ (r : List ℕ). only (is_mark b) at ++ marks_from (at + size_of W b) r) (ap (drop (size_of W b)) (sym front) ∙ drop-drop (size_of W b) at bs)
    where
      front : drop at bs ≡ b ∷ drop (suc at) bs
      front = drop-cons bs at 0 h ∙ ap (λ (x : ℕ). x ∷ drop (suc at) bs) (sym e)

  -- at the end of the bytes, or behind it, there are no marks
  pub marks-none : (bs : List ℕ) (at : ℕ) → length bs ≤ at → marks_from at (drop at bs) ≡ []
  marks-none bs at h = ap (marks_from at) (drop_of_length-le bs h)

  -- ---- the marks of rules that are written

  -- a command that is written has a mark if it is 21 or 2F
  marks-command : (at : ℕ) (c : RuleCommand) (rest : List ℕ) → eqb (byte_of c) 0x20 ≡ false → marks_from at (encode W c ++ rest) ≡ only (is_mark (byte_of c)) at ++ marks_from (at + length (encode W c)) rest
  unfolding encode
  marks-command at c rest n =
      marks-first at (byte_of c) (spread_all (widths_or (rule_widths W (byte_of c))) (operands_of c) ++ rest)
      ∙ ap (λ (k : ℕ). only (is_mark (byte_of c)) at ++ marks_from (at + k) (drop k (encode W c ++ rest))) (command-size W c n)
      ∙ ap (λ (r : List ℕ). only (is_mark (byte_of c)) at ++ marks_from (at + length (encode W c)) r) (drop-append_seam (encode W c) rest)

  -- lines within a rule have none
  marks-lines : (at : ℕ) (ls : Lines) (rest : List ℕ) → Is (all inner ls) → marks_from at (each (encode W) ls ++ rest) ≡ marks_from (at + length (each (encode W) ls)) rest
  marks-lines at [] rest h = ap (λ (k : ℕ). marks_from k rest) (sym (add-zero at))
  marks-lines at (c ∷ ls) rest h =
      ap (marks_from at) (append_assoc (encode W c) (each (encode W) ls) rest)
      ∙ marks-command at c (each (encode W) ls ++ rest) (inner-other c (and_l (inner c) (all inner ls) h))
      ∙ ap (λ (m : Bool). only m at ++ marks_from (at + length (encode W c)) (each (encode W) ls ++ rest)) (inner_mark c (and_l (inner c) (all inner ls) h))
      ∙ marks-lines (at + length (encode W c)) ls rest (and_r (inner c) (all inner ls) h)
      ∙ ap (λ (k : ℕ). marks_from k rest) (further at (encode W c) (each (encode W) ls))

  -- a rule has one mark, where it begins
  marks-rule : (at : ℕ) (ls : Lines) (rest : List ℕ) → Is (all inner ls) → marks_from at (rule_bytes W ls ++ rest) ≡ at ∷ marks_from (at + length (rule_bytes W ls)) rest
  marks-rule at ls rest h =
      ap (marks_from at) (append_assoc (encode W opens) (each (encode W) ls) rest)
      ∙ marks-command at opens (each (encode W) ls ++ rest) refl
      ∙ ap (λ (l : List ℕ). at ∷ l) (marks-lines (at + length (encode W opens)) ls rest h ∙ ap (λ (k : ℕ). marks_from k rest) (further at (encode W opens) (each (encode W) ls)))

  -- the first rule of a file has one, and then come those of the others
  marks-more : (at : ℕ) (ls : Lines) (rules : List Lines) → Is (all (all inner) (ls ∷ rules))
      → marks_from at (each (rule_bytes W) (ls ∷ rules) ++ encode W ends) ≡ at ∷ marks_from (at + length (rule_bytes W ls)) (each (rule_bytes W) rules ++ encode W ends)
  marks-more at ls rules h =
      ap (marks_from at) (append_assoc (rule_bytes W ls) (each (rule_bytes W) rules) (encode W ends))
      ∙ marks-rule at ls (each (rule_bytes W) rules ++ encode W ends) (and_l (all inner ls) (all (all inner) rules) h)

  -- mark n of a file that begins at a place stands behind its first n rules
  marks-rules : (at n d : ℕ) (rules : List Lines) → Is (all (all inner) rules) → n ≤ length rules
      → get_or (marks_from at (each (rule_bytes W) rules ++ encode W ends)) n d ≡ at + length (each (rule_bytes W) (take n rules))
  unfolding encode
  marks-rules at zero d [] h k = sym (add-zero at)
  marks-rules at (suc n) d [] h k = absurd (omega arith)
  marks-rules at zero d (ls ∷ rules) h k = ap (λ (l : List ℕ). get_or l 0 d) (marks-more at ls rules h) ∙ sym (add-zero at)
  marks-rules at (suc n) d (ls ∷ rules) h k =
      ap (λ (l : List ℕ). get_or l (suc n) d) (marks-more at ls rules h)
      ∙ marks-rules (at + length (rule_bytes W ls)) n d rules (and_r (all inner ls) (all (all inner) rules) h) (omega arith)
      ∙ further at (rule_bytes W ls) (each (rule_bytes W) (take n rules))

  -- the marks of a file are those of what stands behind the 20
  marks-file : (shape body : List ℕ) → length shape ≡ 6 → marks_from 0 (0x20 ∷ (shape ++ body)) ≡ marks_from 7 body
  marks-file shape body l =
      marks-first 0 0x20 (shape ++ body)
      ∙ ap (marks_from 7) (ap (λ (k : ℕ). drop k (shape ++ body)) (sym l) ∙ drop-append_seam shape body)

  -- where a rule begins in a file that was written: behind the 20 and the rules before it; the last place is that of the 2F
  pub start-encoded : (shape : List ℕ) (rules : List Lines) (n : ℕ) → length shape ≡ 6 → Is (all (all inner) rules) → n ≤ length rules
      → rule_start W (encode_file W shape rules) n ≡ 7 + length (each (λ ls. each (encode W) (opens ∷ ls)) (take n rules))
  unfolding rule_start encode_file encode_all
  start-encoded shape rules n l h k =
      ap (λ (m : List ℕ). get_or m n (length (encode_file W shape rules))) (marks-file shape (encode_all W rules) l)
      ∙ marks-rules 7 n (length (encode_file W shape rules)) rules h k

-- ---- the part that shows a rule

-- the middle of three lists
middle : (s t r : List ℕ) → take (length (s ++ t) - length s) (drop (length s) (s ++ (t ++ r))) ≡ t
middle s t r =
    let e : length (s ++ t) - length s ≡ length t = omega (arith, length-append s t) in
    ap₂ (λ (k : ℕ) (l : List ℕ). take k l) e (drop-append_seam s (t ++ r)) ∙ take-append_seam t r

-- the middle, cut out from its begin to its end
middle-at : (a b : ℕ) (l s t r : List ℕ) → a ≡ length s → b ≡ length (s ++ t) → l ≡ s ++ (t ++ r) → take (b - a) (drop a l) ≡ t
middle-at a b l s t r d e f = rw (d, e, f) (middle s t r)

module _ (W : ℕ) where
  -- the bytes of a file: the 20 and those of the rules before one, its own, and those behind
  encoded_around : (shape : List ℕ) (rules : List Lines) (n : ℕ) → n < length rules
      → encode_file W shape rules ≡ (0x20 ∷ (shape ++ each (rule_bytes W) (take n rules))) ++ (rule_bytes W (get_or rules n []) ++ (each (rule_bytes W) (drop (suc n) rules) ++ encode W ends))
  unfolding encode_file encode_all
  encoded_around shape rules n h =
      ap (λ (l : List ℕ). 0x20 ∷ (shape ++ l))
      (ap (λ (k : List Lines). each (rule_bytes W) k ++ encode W ends) (split_at rules n [] h)
      ∙ ap (λ (l : List ℕ). l ++ encode W ends) (each_append (rule_bytes W) (take n rules) (get_or rules n [] ∷ drop (suc n) rules))
      ∙ append_assoc (each (rule_bytes W) (take n rules)) (rule_bytes W (get_or rules n []) ++ each (rule_bytes W) (drop (suc n) rules)) (encode W ends)
      ∙ ap (λ (l : List ℕ). each (rule_bytes W) (take n rules) ++ l) (append_assoc (rule_bytes W (get_or rules n [])) (each (rule_bytes W) (drop (suc n) rules)) (encode W ends)))
      ∙ ap (λ (l : List ℕ). 0x20 ∷ l) (sym (append_assoc shape (each (rule_bytes W) (take n rules)) (rule_bytes W (get_or rules n []) ++ (each (rule_bytes W) (drop (suc n) rules) ++ encode W ends))))

  -- the place behind the 20 and other bytes
  behind-shape : (shape l : List ℕ) → length shape ≡ 6 → 7 + length l ≡ length (0x20 ∷ (shape ++ l))
  behind-shape shape l h = omega (arith, length-append shape l)

  -- from a rule's begin to the next one's stand its own bytes
  part-encoded : (shape : List ℕ) (rules : List Lines) (n : ℕ) → length shape ≡ 6 → Is (all (all inner) rules) → n < length rules
      → take (rule_start W (encode_file W shape rules) (suc n) - rule_start W (encode_file W shape rules) n) (drop (rule_start W (encode_file W shape rules) n) (encode_file W shape rules)) ≡ rule_bytes W (get_or rules n [])
  part-encoded shape rules n l h k =
      middle-at (rule_start W (encode_file W shape rules) n) (rule_start W (encode_file W shape rules) (suc n)) (encode_file W shape rules) (0x20 ∷ (shape ++ each (rule_bytes W) (take n rules))) (rule_bytes W (get_or rules n [])) (each (rule_bytes W) (drop (suc n) rules) ++ encode W ends)
      (start-encoded W shape rules n l h (omega arith) ∙ behind-shape shape (each (rule_bytes W) (take n rules)) l)
      (start-encoded W shape rules (suc n) l h k
      ∙ behind-shape shape (each (rule_bytes W) (take (suc n) rules)) l
      ∙ ap (λ (t : List Lines). length (0x20 ∷ (shape ++ each (rule_bytes W) t))) (take-suc rules n [] k)
      ∙ ap (λ (t : List ℕ). length (0x20 ∷ (shape ++ t))) (each_last (rule_bytes W) (take n rules) (get_or rules n []))
      ∙ ap (λ (t : List ℕ). length (0x20 ∷ t)) (sym (append_assoc shape (each (rule_bytes W) (take n rules)) (rule_bytes W (get_or rules n [])))))
      (encoded_around shape rules n k)

  module _ (file bytes : List ℕ) (F : Policy) (ls : List Lines) (h : read_both W file bytes ≡ accepted (F, ls)) where
    -- the rules that both files give are those that the rule file gives
    both-rules : read_rules W (beside_of F) bytes ≡ accepted ls
    unfolding read_both
    both-rules = carried (λ (p : Policy × List Lines). read_rules W (beside_of p.0) bytes ≡ accepted p.1) (read_both W file bytes) (roles (read_roles W file)) h
      where
        rules : (G : Policy) (r : Answer (List Lines)) → read_rules W (beside_of G) bytes ≡ r
            → Carries (λ (p : Policy × List Lines). read_rules W (beside_of p.0) bytes ≡ accepted p.1) (and_then r (λ ls. accepted (G, ls)))
        rules G (refused e) q = tt
        rules G (accepted k) q = q

        roles : (r : Answer Policy)
            → Carries (λ (p : Policy × List Lines). read_rules W (beside_of p.0) bytes ≡ accepted p.1) (and_then r (λ G. and_then (read_rules W (beside_of G) bytes) (λ ls. accepted (G, ls))))
        roles (refused e) = tt
        roles (accepted G) = rules G (read_rules W (beside_of G) bytes) refl

    module _ (n : ℕ) (k : n < length ls) where
      -- a rule that there is: where it begins, and where the next one does
      pub show_accepted : show_answer W file bytes n ≡ accepted (rule_start W bytes n, rule_start W bytes (suc n))
      unfolding show_answer
      show_accepted = rw (h, lt-ltb n (length ls) k) refl

      -- the part begins where the rule does, and ends where the next one begins
      shown-place : shown_place W file bytes n ≡ (rule_start W bytes n, rule_start W bytes (suc n))
      unfolding shown_place
      shown-place = ap (λ (r : Answer (ℕ × ℕ)). elim r as (λ _. ℕ × ℕ) [ refused e ↦ (0, 0) | accepted p ↦ p ]) show_accepted

      -- the part is the bytes between these two places
      shown-bytes : shown_part W file bytes n ≡ take (rule_start W bytes (suc n) - rule_start W bytes n) (drop (rule_start W bytes n) bytes)
      unfolding shown_part
      shown-bytes = ap (λ (p : ℕ × ℕ). take (p.1 - p.0) (drop p.0 bytes)) shown-place

  -- THE LAW: of an accepted file the part that shows rule n is the encoding of the reader's rule n
  pub shown-lines : (file rules : List ℕ) (n : ℕ) (F : Policy) (ls : List Lines) → Bytes rules → read_both W file rules ≡ accepted (F, ls) → n < length ls
      → shown_part W file rules n ≡ each (encode W) (opens ∷ get_or ls n [])
  shown-lines file rules n F ls b h k =
      let r = both-rules file rules F ls h in
      shown-bytes file rules F ls h n k
      ∙ ap (λ (l : List ℕ). take (rule_start W l (suc n) - rule_start W l n) (drop (rule_start W l n) l)) (written_back W (beside_of F) rules ls b r)
      ∙ part-encoded (shape_of F) ls n refl (lines-within W (beside_of F) rules ls r) k

-- ---- the places rise, whatever the bytes are

-- numbers that do not fall, from one bound to another
abbrev Ascends : ℕ → ℕ → List ℕ → Type 0
Ascends low high [] = low ≤ high
Ascends low high (m ∷ ms) = (low ≤ m) × Ascends m high ms

-- one of them is no more than the next, and that no more than the upper bound, which stands behind the last
ascends-at : (low high : ℕ) (l : List ℕ) → Ascends low high l → (i : ℕ) → (low ≤ get_or l i high) × (get_or l i high ≤ get_or l (suc i) high) × (get_or l (suc i) high ≤ high)
ascends-at low high [] h i = (h, omega arith, omega arith)
ascends-at low high (m ∷ ms) h zero = let r = ascends-at m high ms h.1 zero in (h.0, r.0, omega arith)
ascends-at low high (m ∷ ms) h (suc i) = let r = ascends-at m high ms h.1 i in (omega arith, r.1, r.2)

module _ (W : ℕ) where
  -- marks do not fall, and lie within the bytes
  marks-ascend : (n low at high : ℕ) (bs : List ℕ) → low ≤ at → low ≤ high → (0 < length bs → at + length bs ≤ high) → Ascends low high (marks_on W n at bs)
  marks-ascend zero low at high bs a b h = b
  marks-ascend (suc n) low at high [] a b h = b
  marks-ascend (suc n) low at high (x ∷ bs) a b h = go (is_mark x) (λ k p q. marks-ascend n k (at + size_of W x) high (drop (size_of W x) (x ∷ bs)) p q room)
    where
      all_room : at + suc (length bs) ≤ high
      all_room = h (omega arith)

      room : 0 < length (drop (size_of W x) (x ∷ bs)) → at + size_of W x + length (drop (size_of W x) (x ∷ bs)) ≤ high
      room q = let l = length-drop (sum (λ w. w) (widths_or (rule_widths W x))) bs in let r = all_room in omega arith

      go : (mark : Bool) → ((k : ℕ) → k ≤ at + size_of W x → k ≤ high → Ascends k high (marks_on W n (at + size_of W x) (drop (size_of W x) (x ∷ bs))))
          → Ascends low high (only mark at ++ marks_on W n (at + size_of W x) (drop (size_of W x) (x ∷ bs)))
      go true r = (a, r at (omega arith) (let q = all_room in omega arith))
      go false r = r low (omega arith) b

  -- a rule begins no later than the next, and that within the bytes
  pub starts-rise : (bs : List ℕ) (n : ℕ) → (rule_start W bs n ≤ rule_start W bs (suc n)) × (rule_start W bs (suc n) ≤ length bs)
  unfolding rule_start
  starts-rise bs n =
      let r = ascends-at 0 (length bs) (marks_from W 0 bs) (marks-ascend (suc (length bs)) 0 0 (length bs) bs (omega arith) (omega arith) (λ q. omega arith)) n in
      (r.1, r.2)

-- ---- a loop that looks for where rule n begins

-- from this place on it begins at the mark number `left`
pub record Seeking (W : ℕ) (bs : List ℕ) (n left at : ℕ) : Type 0 where
  pub rest : get_or (marks_from W at (drop at bs)) left (length bs) ≡ rule_start W bs n

module _ (W : ℕ) (bs : List ℕ) (n : ℕ) where
  -- at the first byte all marks are still ahead
  pub begun : Seeking W bs n n 0
  unfolding rule_start
  begun = record { rest = refl }

  module _ (left at : ℕ) (s : Seeking W bs n left at) where
    -- at the end of the bytes: there is no such mark, and it is the end
    pub ended : length bs ≤ at → length bs ≡ rule_start W bs n
    ended h = sym (ap (λ (l : List ℕ). get_or l left (length bs)) (marks-none W bs at h)) ∙ s.rest

    module _ (b size : ℕ) (inside : at < length bs) (e : b ≡ get_or bs at 0) (d : size ≡ size_of W b) where
      -- it is among the command in front, if that is a mark, and the marks behind
      ahead : (mark : Bool) → is_mark b ≡ mark → get_or (only mark at ++ marks_from W (at + size) (drop (at + size) bs)) left (length bs) ≡ rule_start W bs n
      ahead mark q =
          ap₂ (λ (k : ℕ) (m : Bool). get_or (only m at ++ marks_from W (at + k) (drop (at + k) bs)) left (length bs)) d (sym q)
          ∙ sym (ap (λ (l : List ℕ). get_or l left (length bs)) (marks-turn W bs at b inside e))
          ∙ s.rest

      -- a command that is neither 21 nor 2F is passed
      pub passed : is_mark b ≡ false → Seeking W bs n left (at + size)
      passed q = record { rest = ahead false q }

      -- a mark before the one that is looked for is counted
      pub counted : is_mark b ≡ true → 0 < left → Seeking W bs n (left - 1) (at + size)
      counted q l =
          let f : suc (left - 1) ≡ left = omega arith in
          record { rest = ap (λ (k : ℕ). get_or (at ∷ marks_from W (at + size) (drop (at + size) bs)) k (length bs)) f ∙ ahead true q }

      -- the mark that is looked for is where rule n begins
      pub found : is_mark b ≡ true → left ≡ 0 → at ≡ rule_start W bs n
      found q z = ap (λ (k : ℕ). get_or (at ∷ marks_from W (at + size) (drop (at + size) bs)) k (length bs)) (sym z) ∙ ahead true q
