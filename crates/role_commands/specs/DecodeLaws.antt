-- What the code decodes by place is what the reader of commands takes from the front.
-- Assumes nothing.
use Prim.Native.Nat.{ℕ, zero, suc, ◌+◌, ◌*◌, ◌≤◌, ◌<◌}
use Rattle.std.proofs.Common.{ne_eqb, ltb-true, ltb-false, leb-true, leb-false, drop_of_length-le, drop-cons, sym, ap₂, ◌∙◌, subst, arith}
use Rattle.std.proofs.Math.Dec.{eqb, ltb}
use Rattle.std.specs.Prelude.{leb, length, get_or, drop, set, Bool, ◌≡◌, Some, None, Result, Ok, Err}
use Rattle.std.specs.Prelude.{Option as Width}
use Rattle.std.specs.Result.{result_unwrap_or}
use Rattle.std.proofs.Math.Bool.{true, false, cond}
use mathlib.Core.List.{List, [], ◌∷◌}
use Rattle.std.proofs.Math.Option.{Option, none, some, map}
use Rattle.std.proofs.Math.Path.{refl, ap}
use Rattle.file_bytes.specs.Numbers.{number_at, total_of, numbers_at}
use Rattle.role_commands.specs.Decode.{width_of, command_by, first_command, decoded_of}
use Rattle.role_commands.specs.declared.Command.{Command}
use Rattle.role_commands.specs.declared.Command.TheVariants.{Sizes, Declare, Give, Assign, Permit, Line, End}
use Rattle.files.specs.declared.refusal.Refusal.{Refusal}
use Rattle.files.specs.declared.refusal.Refusal.TheVariants.{CutOff}
use Rattle.files.specs.Answer.{Answer, and_then, cut_off, unknown_command, refused}
use Rattle.files.specs.Cause.{cause}
use Rattle.files.proofs.BytesLaws.{follow}
use Rattle.files.specs.Bytes.{number, one_more, operands, turn, decode, read_on}
use Rattle.files.specs.RoleFile.{RoleCommand, role_widths, role_command, Loading, is_end, obey_role, role_format, sizes, declare, give, assign, permit, line, end}
use Rattle.files.specs.RuleFile.{widths_or}
use Rattle.sets.specs.TestLaws.{test}

-- ---- numbers and operands by place

number-at : (w i : ℕ) (l : List ℕ) → i + w ≤ length l → number w (drop i l) ≡ some (number_at w l i, drop (i + w) l)
number-at zero i l h = let e : i ≡ i + 0 = omega arith in ap (λ (k : ℕ). some (0, drop k l)) e
number-at (suc w) i l h =
    ap (number (suc w)) (drop-cons l i 0 (omega arith))
    ∙ ap (map (λ (p : ℕ × List ℕ). (get_or l i 0 + 256 * p.0, p.1))) (number-at w (suc i) l (omega arith))
    ∙ (let e : suc i + w ≡ i + suc w = omega arith in ap (λ (k : ℕ). some (get_or l i 0 + 256 * number_at w l (suc i), drop k l)) e)

number_short : (w i : ℕ) (l : List ℕ) → i ≤ length l → length l < i + w → number w (drop i l) ≡ none
number_short zero i l h k = absurd (omega arith)
number_short (suc w) i l h k =
    test (ltb i (length l))
    (λ e. let p = ltb-true i (length l) e in
    ap (number (suc w)) (drop-cons l i 0 p) ∙ ap (map (λ (p : ℕ × List ℕ). (get_or l i 0 + 256 * p.0, p.1))) (number_short w (suc i) l (omega arith) (omega arith)))
    (λ e. ap (number (suc w)) (drop_of_length-le l {i = i} (ltb-false i (length l) e)))

pub operands-at : (ws : List ℕ) (i : ℕ) (l : List ℕ) → i + total_of ws ≤ length l → operands ws (drop i l) ≡ some (numbers_at ws l i, drop (i + total_of ws) l)
operands-at [] i l h = let e : i ≡ i + 0 = omega arith in ap (λ (k : ℕ). some ([], drop k l)) e
operands-at (w ∷ ws) i l h =
    ap (one_more (operands ws)) (number-at w i l (omega arith))
    ∙ ap (map (λ (q : List ℕ × List ℕ). (number_at w l i ∷ q.0, q.1))) (operands-at ws (i + w) l (omega arith))
    ∙ (let e : i + w + total_of ws ≡ i + (w + total_of ws) = omega arith in ap (λ (k : ℕ). some (number_at w l i ∷ numbers_at ws l (i + w), drop k l)) e)

pub operands_short : (ws : List ℕ) (i : ℕ) (l : List ℕ) → i ≤ length l → length l < i + total_of ws → operands ws (drop i l) ≡ none
operands_short [] i l h k = absurd (omega arith)
operands_short (w ∷ ws) i l h k =
    test (leb (i + w) (length l))
    (λ e. let p = leb-true (i + w) (length l) e in
    ap (one_more (operands ws)) (number-at w i l p)
    ∙ ap (map (λ (q : List ℕ × List ℕ). (number_at w l i ∷ q.0, q.1))) (operands_short ws (i + w) l p (omega arith)))
    (λ e. ap (one_more (operands ws)) (number_short w i l h (leb-false (i + w) (length l) e)))

-- ---- the commands

-- a command of the code, as the definitions have it
abbrev pub meaning : Command → RoleCommand
meaning (Sizes u r o k) = sizes u r o k
meaning (Declare side kind domain) = declare side kind domain
meaning (Give set side a x v) = give set side a x v
meaning (Assign k u) = assign k u
meaning (Permit k r o) = permit k r o
meaning (Line j s) = line j s
meaning End = end

-- the bytes of a known command
abbrev span_of : Option (List ℕ) → Width ℕ
span_of none = None
span_of (some ws) = Some (suc (total_of ws))

span-width : (b : ℕ) → span_of (role_widths b) ≡ width_of b
unfolding width_of
span-width b = go (eqb b 1) (eqb b 2) (eqb b 3) (eqb b 4) (eqb b 5) (eqb b 6) (eqb b 7) (eqb b 8) (eqb b 15)
  where
    go : (b1 b2 b3 b4 b5 b6 b7 b8 b15 : Bool)
        → span_of (cond b1 (some (1 ∷ 1 ∷ 1 ∷ 1 ∷ [])) (cond b2 (some (1 ∷ 1 ∷ [])) (cond b3 (some (1 ∷ 1 ∷ 1 ∷ 2 ∷ [])) (cond b4 (some (1 ∷ 1 ∷ 1 ∷ 8 ∷ [])) (cond b5 (some (1 ∷ 1 ∷ [])) (cond b6 (some (1 ∷ 1 ∷ 1 ∷ [])) (cond b7 (some (1 ∷ 1 ∷ [])) (cond b8 (some (1 ∷ 1 ∷ 1 ∷ [])) (cond b15 (some []) none)))))))))
        ≡ cond b1 (Some 5) (cond b2 (Some 3) (cond b3 (Some 6) (cond b4 (Some 12) (cond b5 (Some 3) (cond b6 (Some 4) (cond b7 (Some 3) (cond b8 (Some 4) (cond b15 (Some 1) None))))))))
    go true b2 b3 b4 b5 b6 b7 b8 b15 = refl
    go false true b3 b4 b5 b6 b7 b8 b15 = refl
    go false false true b4 b5 b6 b7 b8 b15 = refl
    go false false false true b5 b6 b7 b8 b15 = refl
    go false false false false true b6 b7 b8 b15 = refl
    go false false false false false true b7 b8 b15 = refl
    go false false false false false false true b8 b15 = refl
    go false false false false false false false true b15 = refl
    go false false false false false false false false true = refl
    go false false false false false false false false false = refl

meaning-by : (b : ℕ) (l : List ℕ) → role_command b (numbers_at (widths_or (role_widths b)) l 1) ≡ meaning (command_by b l)
unfolding command_by
meaning-by b l = go (eqb b 1) (eqb b 2) (eqb b 3) (eqb b 4) (eqb b 5) (eqb b 6) (eqb b 7) (eqb b 8) (eqb b 15)
  where
    known : (b1 b2 b3 b4 b5 b6 b7 b8 b15 : Bool) → List ℕ
    known b1 b2 b3 b4 b5 b6 b7 b8 b15 = widths_or (cond b1 (some (1 ∷ 1 ∷ 1 ∷ 1 ∷ [])) (cond b2 (some (1 ∷ 1 ∷ [])) (cond b3 (some (1 ∷ 1 ∷ 1 ∷ 2 ∷ [])) (cond b4 (some (1 ∷ 1 ∷ 1 ∷ 8 ∷ [])) (cond b5 (some (1 ∷ 1 ∷ [])) (cond b6 (some (1 ∷ 1 ∷ 1 ∷ [])) (cond b7 (some (1 ∷ 1 ∷ [])) (cond b8 (some (1 ∷ 1 ∷ 1 ∷ [])) (cond b15 (some []) none)))))))))

    said : (b1 b2 b3 b4 b5 b6 b7 b8 : Bool) → List ℕ → RoleCommand
    said b1 b2 b3 b4 b5 b6 b7 b8 xs =
        cond b1 (sizes (get_or xs 0 0) (get_or xs 1 0) (get_or xs 2 0) (get_or xs 3 0)) (cond b2 (declare (get_or xs 0 0) (get_or xs 1 0) 0) (cond b3 (give false (get_or xs 0 0) (get_or xs 1 0) (get_or xs 2 0) (get_or xs 3 0)) (cond b4 (give true (get_or xs 0 0) (get_or xs 1 0) (get_or xs 2 0) (get_or xs 3 0)) (cond b5 (assign (get_or xs 0 0) (get_or xs 1 0)) (cond b6 (permit (get_or xs 0 0) (get_or xs 1 0) (get_or xs 2 0)) (cond b7 (line (get_or xs 0 0) (get_or xs 1 0)) (cond b8 (declare (get_or xs 0 0) (get_or xs 1 0) (get_or xs 2 0)) end)))))))

    go : (b1 b2 b3 b4 b5 b6 b7 b8 b15 : Bool) → said b1 b2 b3 b4 b5 b6 b7 b8 (numbers_at (known b1 b2 b3 b4 b5 b6 b7 b8 b15) l 1)
        ≡ meaning (cond b1 (Sizes (number_at 1 l 1) (number_at 1 l 2) (number_at 1 l 3) (number_at 1 l 4)) (cond b2 (Declare (number_at 1 l 1) (number_at 1 l 2) 0) (cond b3 (Give false (number_at 1 l 1) (number_at 1 l 2) (number_at 1 l 3) (number_at 2 l 4)) (cond b4 (Give true (number_at 1 l 1) (number_at 1 l 2) (number_at 1 l 3) (number_at 8 l 4)) (cond b5 (Assign (number_at 1 l 1) (number_at 1 l 2)) (cond b6 (Permit (number_at 1 l 1) (number_at 1 l 2) (number_at 1 l 3)) (cond b7 (Line (number_at 1 l 1) (number_at 1 l 2)) (cond b8 (Declare (number_at 1 l 1) (number_at 1 l 2) (number_at 1 l 3)) End))))))))
    go true b2 b3 b4 b5 b6 b7 b8 b15 = refl
    go false true b3 b4 b5 b6 b7 b8 b15 = refl
    go false false true b4 b5 b6 b7 b8 b15 = refl
    go false false false true b5 b6 b7 b8 b15 = refl
    go false false false false true b6 b7 b8 b15 = refl
    go false false false false false true b7 b8 b15 = refl
    go false false false false false false true b8 b15 = refl
    go false false false false false false false true b15 = refl
    go false false false false false false false false b15 = refl

-- ---- what was decoded

pub first_byte : (b : ℕ) (bs : List ℕ) → number_at 1 (b ∷ bs) 0 ≡ b
first_byte b bs = omega arith

-- what a width tells: it is the same one, and there is one
same-width : {v w : ℕ} → Some v ≡ Some w → v ≡ w
same-width e = cc

no-width : {w : ℕ} → None ≡ Some w → ⊥
no-width e = cc

-- and what a decoded command tells, or a refusal
pub same-decoded : {t u : Command × ℕ} → ◌≡◌ {A = Result (Command × ℕ) Refusal} (Ok t) (Ok u) → t ≡ u
same-decoded {t} {u} h = ap (λ (r : Result (Command × ℕ) Refusal). result_unwrap_or r u) h

pub same-refusal : {e d : Refusal} → ◌≡◌ {A = Result (Command × ℕ) Refusal} (Err e) (Err d) → e ≡ d
same-refusal h = cc

pub not-refused : {t : Command × ℕ} {e : Refusal} → ◌≡◌ {A = Result (Command × ℕ) Refusal} (Err e) (Ok t) → ⊥
not-refused h = cc

decoded-cons : (b : ℕ) (bs : List ℕ) → decoded_of (b ∷ bs) ≡ first_command (b ∷ bs) (width_of b)
unfolding decoded_of
decoded-cons b bs = rw (ne_eqb (suc (length bs)) 0 (omega arith), first_byte b bs) refl

-- one turn of reading, by what was decoded at the front
module _ (n : ℕ) (s : Loading) where
  read-unknown : (b : ℕ) (bs : List ℕ) → width_of b ≡ None → read_on (role_format 2) (suc n) false s (b ∷ bs) ≡ refused unknown_command
  unfolding role_format
  read-unknown b bs e = go (role_widths b) (span-width b ∙ e)
    where
      go : (o : Option (List ℕ)) → span_of o ≡ None → decode (role_format 2) (read_on (role_format 2) n) s b bs o ≡ refused unknown_command
      go none k = refl
      go (some ws) k = absurd (no-width (sym k))

  read_short : (b : ℕ) (bs : List ℕ) (w : ℕ) → width_of b ≡ Some w → suc (length bs) < w → read_on (role_format 2) (suc n) false s (b ∷ bs) ≡ refused cut_off
  unfolding role_format
  read_short b bs w e h = go (role_widths b) (span-width b ∙ e)
    where
      go : (o : Option (List ℕ)) → span_of o ≡ Some w → decode (role_format 2) (read_on (role_format 2) n) s b bs o ≡ refused cut_off
      go none k = absurd (no-width k)
      go (some ws) k = let d = same-width k in ap (turn (role_format 2) (read_on (role_format 2) n) s b) (operands_short ws 1 (b ∷ bs) (omega arith) (omega arith))

  -- a whole command stands at the front
  pub record Front (l : List ℕ) (c : Command) (w : ℕ) : Type 0 where
    pub some_bytes : 0 < w
    pub inside : w ≤ length l
    pub turned : read_on (role_format 2) (suc n) false s l ≡ and_then (obey_role 2 s (meaning c)) (follow (role_format 2) (is_end (meaning c)) n (drop w l))

  read_whole : (b : ℕ) (bs : List ℕ) (w : ℕ) → width_of b ≡ Some w → w ≤ suc (length bs) → Front (b ∷ bs) (command_by b (b ∷ bs)) w
  unfolding role_format
  read_whole b bs w e h = go (role_widths b) refl (span-width b ∙ e) (meaning-by b (b ∷ bs))
    where
      on : RoleCommand → List ℕ → Answer Loading
      on c rest = and_then (obey_role 2 s c) (follow (role_format 2) (is_end c) n rest)

      go : (o : Option (List ℕ)) → role_widths b ≡ o → span_of o ≡ Some w → role_command b (numbers_at (widths_or o) (b ∷ bs) 1) ≡ meaning (command_by b (b ∷ bs)) → Front (b ∷ bs) (command_by b (b ∷ bs)) w
      go none q k m = absurd (no-width k)
      go (some ws) q k m =
          let d = same-width k in
          let rest : 1 + total_of ws ≡ w = omega arith in
          record {
            some_bytes = omega arith;
            inside = h;
            turned = ap (decode (role_format 2) (read_on (role_format 2) n) s b bs) q
                ∙ ap (turn (role_format 2) (read_on (role_format 2) n) s b) (operands-at ws 1 (b ∷ bs) (omega arith))
                ∙ ap₂ on m (ap (λ (x : ℕ). drop x (b ∷ bs)) rest);
          }

  -- what refuses the bytes refuses the file
  pub turn-refused : (l : List ℕ) (e : Refusal) → decoded_of l ≡ Err e → read_on (role_format 2) (suc n) false s l ≡ refused (cause e)
  unfolding role_format decoded_of
  turn-refused [] e h = ap (λ (d : Refusal). refused (cause d)) (same-refusal h)
  turn-refused (b ∷ bs) e h = go (width_of b) refl (sym (decoded-cons b bs) ∙ h)
    where
      short : (w : ℕ) → width_of b ≡ Some w → (x : Bool) → ltb (suc (length bs)) w ≡ x → cond {A = Result (Command × ℕ) Refusal} x (Err CutOff) (Ok (command_by (number_at 1 (b ∷ bs) 0) (b ∷ bs), w)) ≡ Err e → read_on (role_format 2) (suc n) false s (b ∷ bs) ≡ refused (cause e)
      short w p true q k = read_short b bs w p (ltb-true (suc (length bs)) w q) ∙ ap (λ (d : Refusal). refused (cause d)) (same-refusal k)
      short w p false q k = absurd (not-refused (sym k))

      go : (o : Width ℕ) → width_of b ≡ o → first_command (b ∷ bs) o ≡ Err e → read_on (role_format 2) (suc n) false s (b ∷ bs) ≡ refused (cause e)
      go None p k = read-unknown b bs p ∙ ap (λ (d : Refusal). refused (cause d)) (same-refusal k)
      go (Some w) p k = short w p (ltb (suc (length bs)) w) refl k

  pub turn-whole : (l : List ℕ) (c : Command) (w : ℕ) → decoded_of l ≡ Ok (c, w) → Front l c w
  unfolding decoded_of
  turn-whole [] c w e = absurd (not-refused e)
  turn-whole (b ∷ bs) c w e = go (width_of b) refl (sym (decoded-cons b bs) ∙ e)
    where
      found : (t : Command × ℕ) → t ≡ (c, w) → Front (b ∷ bs) t.0 t.1 → Front (b ∷ bs) c w
      found t e f = subst (λ (u : Command × ℕ). Front (b ∷ bs) u.0 u.1) e f

      long : (v : ℕ) → width_of b ≡ Some v → (x : Bool) → ltb (suc (length bs)) v ≡ x → cond {A = Result (Command × ℕ) Refusal} x (Err CutOff) (Ok (command_by (number_at 1 (b ∷ bs) 0) (b ∷ bs), v)) ≡ Ok (c, w) → Front (b ∷ bs) c w
      long v p true q k = absurd (not-refused k)
      long v p false q k =
          found (command_by b (b ∷ bs), v) (same-decoded (ap (λ (x : ℕ). Ok (command_by x (b ∷ bs), v)) (sym (first_byte b bs)) ∙ k))
          (read_whole b bs v p (ltb-false (suc (length bs)) v q))

      go : (o : Width ℕ) → width_of b ≡ o → first_command (b ∷ bs) o ≡ Ok (c, w) → Front (b ∷ bs) c w
      go None p k = absurd (not-refused k)
      go (Some v) p k = long v p (ltb (suc (length bs)) v) refl k
