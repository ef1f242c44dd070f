-- The bytes of a command with the number of a user replaced are the command with this number replaced.
-- Assumes nothing.
use Rattle.std.specs.Prelude.{ℕ, zero, suc, ◌+◌, ◌*◌, eqb, length, get_or, take, drop, set, Bool, true, false, cond, List, [], ◌∷◌, ◌++◌, ◌≡◌, refl}
use Rattle.std.proofs.Common.{eqb-true, length-append, length-set, take-append-drop, take-add, drop-drop, append_assoc, sym, ap, ◌∙◌, subst, add-zero, arith}
use Rattle.std.proofs.lemmas.Bool.{false≢true}
use Rattle.std.proofs.Math.Option.{Option, none, some, map}
use Rattle.files.specs.Bytes.{number, one_more, operands}
use Rattle.files.specs.RoleFile.{RoleCommand, role_widths, role_command, is_end, sizes, declare, give, assign, permit, line, end}
use Rattle.files.specs.RuleFile.{widths_or}
use Rattle.renumbering.specs.Renumbered.{user_place, replaced_at, renumber_on}
use Rattle.sets.specs.Tests.{Is, is_some, sum}
use Rattle.sets.specs.TestLaws.{test}

-- ---- operands, and the bytes that they are read from

abbrev pub total : List ℕ → ℕ
total ws = sum (λ w. w) ws

-- a number is read from the first w bytes, whatever stands behind them
abbrev NumberFront : ℕ → List ℕ → Option (ℕ × List ℕ) → Type 0
NumberFront w bs none = Unit {0}
NumberFront w bs (some p) = (p.1 ≡ drop w bs) × ((more : List ℕ) → number w (take w bs ++ more) ≡ some (p.0, more))

number-front : (w : ℕ) (bs : List ℕ) → NumberFront w bs (number w bs)
number-front zero bs = (refl, λ more. refl)
number-front (suc w) [] = tt
number-front (suc w) (b ∷ bs) = go (number w bs) (number-front w bs)
  where
    go : (o : Option (ℕ × List ℕ)) → NumberFront w bs o → NumberFront (suc w) (b ∷ bs) (map (λ (p : ℕ × List ℕ). (b + 256 * p.0, p.1)) o)
    go none k = tt
    go (some p) k = (k.0, λ more. rw (k.1 more) refl)

-- an operand in front of others
abbrev ahead : ℕ → Option (List ℕ × List ℕ) → Option (List ℕ × List ℕ)
ahead x o = map (λ (q : List ℕ × List ℕ). (x ∷ q.0, q.1)) o

-- operands too
abbrev OperandsFront : List ℕ → List ℕ → Option (List ℕ × List ℕ) → Type 0
OperandsFront ws bs none = Unit {0}
OperandsFront ws bs (some p) = (p.1 ≡ drop (total ws) bs) × ((more : List ℕ) → operands ws (take (total ws) bs ++ more) ≡ some (p.0, more))

operands-front : (ws bs : List ℕ) → OperandsFront ws bs (operands ws bs)
operands-front [] bs = (refl, λ more. refl)
operands-front (w ∷ ws) bs = go (number w bs) (number-front w bs) (operands-front ws)
  where
    rest : (p : ℕ × List ℕ) → NumberFront w bs (some p) → (q : Option (List ℕ × List ℕ)) → OperandsFront ws p.1 q → OperandsFront (w ∷ ws) bs (ahead p.0 q)
    rest p h none k = tt
    rest p h (some q) k = (
      k.0 ∙ ap (drop (total ws)) h.0 ∙ drop-drop (total ws) w bs,
      λ more.
          let e : take (w + total ws) bs ++ more ≡ take w bs ++ (take (total ws) p.1 ++ more) =
          ap (λ (l : List ℕ). l ++ more) (take-add w (total ws) bs ∙ ap (λ (l : List ℕ). take w bs ++ take (total ws) l) (sym h.0)) ∙ append_assoc (take w bs) (take (total ws) p.1) more in
          ap (λ (l : List ℕ). one_more (operands ws) (number w l)) e
          ∙ ap (one_more (operands ws)) (h.1 (take (total ws) p.1 ++ more))
          ∙ ap (ahead p.0) (k.1 more),
    )

    go : (o : Option (ℕ × List ℕ)) → NumberFront w bs o → ((bs : List ℕ) → OperandsFront ws bs (operands ws bs)) → OperandsFront (w ∷ ws) bs (one_more (operands ws) o)
    go none h r = tt
    go (some p) h r = rest p h (operands ws p.1) (r p.1)

-- ---- commands

module _ (to : ℕ → ℕ) where
  -- a command with the number of its user replaced
  abbrev pub renamed : RoleCommand → RoleCommand
  renamed (sizes u r o k) = sizes u r o k
  renamed (declare side kind domain) = declare side kind domain
  renamed (give set side a x v) = give set side a (cond (eqb side 0) (to x) x) v
  renamed (assign k u) = assign k (to u)
  renamed (permit k r o) = permit k r o
  renamed (line j k) = line j k
  renamed end = end

  pub ends_same : (c : RoleCommand) → is_end (renamed c) ≡ is_end c
  ends_same (sizes u r o k) = refl
  ends_same (declare side kind domain) = refl
  ends_same (give set side a x v) = refl
  ends_same (assign k u) = refl
  ends_same (permit k r o) = refl
  ends_same (line j k) = refl
  ends_same end = refl

  -- the operands of a command are read from its first bytes, and from these with the number of the user replaced those
  -- of the command with it replaced
  abbrev pub Replaced : List ℕ → ℕ → List ℕ → Option (List ℕ × List ℕ) → Type 0
  Replaced ws b bs none = Unit {0}
  Replaced ws b bs (some p) =
      (p.1 ≡ drop (total ws) bs)
      × (ys : List ℕ)
      × ((more : List ℕ) → operands ws (replaced_at to (user_place b bs) (take (total ws) bs) ++ more) ≡ some (ys, more))
      × (role_command b ys ≡ renamed (role_command b p.0))

  abbrev Read : ℕ → Type 0
  Read b = (bs : List ℕ) → Replaced (widths_or (role_widths b)) b bs (operands (widths_or (role_widths b)) bs)

  -- a command without a user stays
  stays : (ws : List ℕ) (b : ℕ) (bs : List ℕ) → user_place b bs ≡ none → ((xs : List ℕ) → role_command b xs ≡ renamed (role_command b xs)) → Replaced ws b bs (operands ws bs)
  stays ws b bs e h = go (operands ws bs) (operands-front ws bs)
    where
      go : (o : Option (List ℕ × List ℕ)) → OperandsFront ws bs o → Replaced ws b bs o
      go none k = tt
      go (some p) k = (k.0, p.0, λ more. rw e (k.1 more), h p.0)

  -- three operands of a byte each and a fourth: the third is replaced where the first is 0
  third : (c : Bool) (s a x : ℕ) (l : List ℕ) → replaced_at to (cond c (some 2) none) (s ∷ a ∷ x ∷ l) ≡ s ∷ a ∷ cond c (to x) x ∷ l
  third true s a x l = refl
  third false s a x l = refl

  three : (s a x : ℕ) (ws bs : List ℕ) → operands (1 ∷ 1 ∷ 1 ∷ ws) (s ∷ a ∷ x ∷ bs) ≡ ahead s (ahead a (ahead x (operands ws bs)))
  three s a x ws bs = simp add-zero

  give-read : (w s a x : ℕ) (bs : List ℕ) (q : List ℕ × List ℕ) → OperandsFront (w ∷ []) bs (some q) → (more : List ℕ)
      → operands (1 ∷ 1 ∷ 1 ∷ w ∷ []) (replaced_at to (cond (eqb s 0) (some 2) none) (s ∷ a ∷ x ∷ take (total (w ∷ [])) bs) ++ more) ≡ some (s ∷ a ∷ cond (eqb s 0) (to x) x ∷ q.0, more)
  give-read w s a x bs q k more =
      ap (λ (l : List ℕ). operands (1 ∷ 1 ∷ 1 ∷ w ∷ []) (l ++ more)) (third (eqb s 0) s a x (take (total (w ∷ [])) bs))
      ∙ three s a (cond (eqb s 0) (to x) x) (w ∷ []) (take (total (w ∷ [])) bs ++ more)
      ∙ ap (λ (o : Option (List ℕ × List ℕ)). ahead s (ahead a (ahead (cond (eqb s 0) (to x) x) o))) (k.1 more)

  -- 03 and 04, which differ in the width of the value
  value_read : (w b : ℕ) (set : Bool) → ((bs : List ℕ) → user_place b bs ≡ cond (eqb (get_or bs 0 0) 0) (some 2) none)
      → ((xs : List ℕ) → role_command b xs ≡ give set (get_or xs 0 0) (get_or xs 1 0) (get_or xs 2 0) (get_or xs 3 0))
      → (bs : List ℕ) → Replaced (1 ∷ 1 ∷ 1 ∷ w ∷ []) b bs (operands (1 ∷ 1 ∷ 1 ∷ w ∷ []) bs)
  value_read w b set place command [] = tt
  value_read w b set place command (s ∷ []) = tt
  value_read w b set place command (s ∷ a ∷ []) = tt
  value_read w b set place command (s ∷ a ∷ x ∷ bs) =
      subst (Replaced (1 ∷ 1 ∷ 1 ∷ w ∷ []) b (s ∷ a ∷ x ∷ bs)) (sym (three s a x (w ∷ []) bs)) (go (operands (w ∷ []) bs) (operands-front (w ∷ []) bs))
    where
      widths : total (1 ∷ 1 ∷ 1 ∷ w ∷ []) ≡ suc (suc (suc (total (w ∷ []))))
      widths = omega arith

      go : (o : Option (List ℕ × List ℕ)) → OperandsFront (w ∷ []) bs o → Replaced (1 ∷ 1 ∷ 1 ∷ w ∷ []) b (s ∷ a ∷ x ∷ bs) (ahead s (ahead a (ahead x o)))
      go none k = tt
      go (some q) k =
          let ys = s ∷ a ∷ cond (eqb s 0) (to x) x ∷ q.0 in
          rw (widths, place (s ∷ a ∷ x ∷ bs)) (k.0, ys, give-read w s a x bs q k, command ys ∙ sym (ap renamed (command (s ∷ a ∷ x ∷ q.0))))

  -- the second of two
  two : (k u : ℕ) (bs : List ℕ) → operands (1 ∷ 1 ∷ []) (k ∷ u ∷ bs) ≡ some (k ∷ u ∷ [], bs)
  two k u bs = simp add-zero

  assign-read : Read 0x05
  assign-read [] = tt
  assign-read (k ∷ []) = tt
  assign-read (k ∷ u ∷ bs) = subst (Replaced (1 ∷ 1 ∷ []) 0x05 (k ∷ u ∷ bs)) (sym (two k u bs)) (refl, k ∷ to u ∷ [], λ more. two k (to u) more, refl)

  -- every command that is known
  read_known : (b : ℕ) → Is (is_some (role_widths b)) → Read b
  read_known b h =
      test (eqb b 0x01) (λ e. is 0x01 e (λ bs. stays (1 ∷ 1 ∷ 1 ∷ 1 ∷ []) 0x01 bs refl (λ xs. refl))) λ n1.
      test (eqb b 0x02) (λ e. is 0x02 e (λ bs. stays (1 ∷ 1 ∷ []) 0x02 bs refl (λ xs. refl))) λ n2.
      test (eqb b 0x03) (λ e. is 0x03 e (value_read 2 0x03 false (λ bs. refl) (λ xs. refl))) λ n3.
      test (eqb b 0x04) (λ e. is 0x04 e (value_read 8 0x04 true (λ bs. refl) (λ xs. refl))) λ n4.
      test (eqb b 0x05) (λ e. is 0x05 e assign-read) λ n5.
      test (eqb b 0x06) (λ e. is 0x06 e (λ bs. stays (1 ∷ 1 ∷ 1 ∷ []) 0x06 bs refl (λ xs. refl))) λ n6.
      test (eqb b 0x07) (λ e. is 0x07 e (λ bs. stays (1 ∷ 1 ∷ []) 0x07 bs refl (λ xs. refl))) λ n7.
      test (eqb b 0x08) (λ e. is 0x08 e (λ bs. stays (1 ∷ 1 ∷ 1 ∷ []) 0x08 bs refl (λ xs. refl))) λ n8.
      test (eqb b 0x0F) (λ e. is 0x0F e (λ bs. stays [] 0x0F bs refl (λ xs. refl))) λ n15.
      absurd (false≢true (rw (n1, n2, n3, n4, n5, n6, n7, n8, n15) at h))
    where
      is : (c : ℕ) → Is (eqb b c) → Read c → Read b
      is c e r = subst Read (sym (eqb-true b c e)) r

  pub command-read : (b : ℕ) (ws bs : List ℕ) → role_widths b ≡ some ws → Replaced ws b bs (operands ws bs)
  command-read b ws bs e =
      subst (λ (o : Option (List ℕ)). Replaced (widths_or o) b bs (operands (widths_or o) bs)) e (read_known b (rw e refl) bs)

  -- ---- as many bytes as before

  replaced_long : (p : Option ℕ) (xs : List ℕ) → length (replaced_at to p xs) ≡ length xs
  replaced_long none xs = refl
  replaced_long (some i) xs = length-set xs i (to (get_or xs i 0))

  pub renumber-long : (n : ℕ) (bs : List ℕ) → length (renumber_on to n bs) ≡ length bs
  renumber-long zero bs = refl
  renumber-long (suc n) [] = refl
  renumber-long (suc n) (b ∷ bs) = go (role_widths b) (renumber-long n)
    where
      go : (o : Option (List ℕ)) → ((bs : List ℕ) → length (renumber_on to n bs) ≡ length bs)
          → length {A = ℕ} (elim o as (λ _. List ℕ) [ none ↦ b ∷ bs | some ws ↦ b ∷ (replaced_at to (user_place b bs) (take (total ws) bs) ++ renumber_on to n (drop (total ws) bs)) ]) ≡ suc (length bs)
      go none r = refl
      go (some ws) r =
          let a = length-append (replaced_at to (user_place b bs) (take (total ws) bs)) (renumber_on to n (drop (total ws) bs)) in
          let b = replaced_long (user_place b bs) (take (total ws) bs) in
          let c = r (drop (total ws) bs) in
          let d = length-append (take (total ws) bs) (drop (total ws) bs) in
          let e = ap length (take-append-drop (total ws) bs) in
          omega (arith, a, b, c, d, e)
