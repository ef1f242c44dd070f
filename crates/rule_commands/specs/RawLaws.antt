-- The numbers taken from the front are the command that the reader of rule files takes; their order is that of commands.
-- Assumes nothing.
use Rattle.std.specs.Prelude.{ℕ, suc, ◌+◌, ◌*◌, ◌≤◌, ◌<◌, eqb, length, get_or, drop, Bool, ◌&&◌, ◌||◌, Result, Ok, Err}
use borrow.Author.Tests.{eq-eqb, eqb-true, eqb-false, ne_eqb, ltb-true, ltb-false, lt-ltb, le-ltb}
use Rattle.std.proofs.Math.Dec.{ltb}
use Rattle.std.proofs.Math.Bool.{true, false, cond}
use Rattle.std.proofs.Math.Bool.{or-false}
use Rattle.std.proofs.lemmas.Bool.{false≢true}
use mathlib.Core.List.{List, [], ◌∷◌}
use Rattle.std.proofs.Math.Option.{Option, none, some}
use Rattle.std.proofs.Math.Path.{◌≡◌, refl, sym, ap}
use Rattle.std.proofs.Common.{◌∙◌, subst}
use native.Mathlib.Omega.{arith}
use Rattle.file_bytes.specs.Numbers.{number_at, total_of, numbers_at}
use Rattle.role_commands.specs.DecodeLaws.{operands-at, operands_short, first_byte}
use Rattle.files.specs.Answer.{Answer, and_then, rules_order, refused, accepted}
use Rattle.files.specs.Beside.{Beside}
use Rattle.files.specs.Cause.{cause}
use Rattle.files.specs.declared.refusal.Refusal.{Refusal}
use Rattle.files.specs.declared.refusal.Refusal.TheVariants.{RulesCutOff, RulesUnknown}
use Rattle.files.specs.Bytes.{operands, turn, decode, read_on}
use Rattle.files.proofs.BytesLaws.{follow}
use Rattle.files.specs.RuleFile.{RuleCommand, byte_of, rule_command, precedes, Reading, ends_file, obey_rule, rule_widths, rule_format}
use Rattle.rule_commands.specs.Raw.{shape-opens, shape_user_single, shape_user_set, shape_resource_single, shape_resource_set, shape-operations, shape-link, shape-part, shape-level, shape-ends, line, taken_by, raw_by, raw_of, raw_before, command_of, Shape}
use Rattle.rule_commands.specs.declared.Raw.{Raw}
use Rattle.sets.specs.TestLaws.{test}
use Rattle.sets.specs.Tests.{Is}

-- two bytes, low byte first
pub pair-number : (l : List ℕ) (i low high : ℕ) → low ≡ number_at 1 l i → high ≡ number_at 1 l (suc i) → low + 256 * high ≡ number_at 2 l i
pair-number l i low high p q = omega arith

-- 26 and 29 have one operand
abbrev pub is_short : ℕ → Bool
is_short b = eqb b 0x26 || eqb b 0x29

pub shape-second : {a : Raw} → Shape a → Is (is_short a.byte) → a.second ≡ 0
shape-second shape-opens e = refl
shape-second (shape_user_single a v) e = absurd (false≢true e)
shape-second (shape_user_set a v) e = absurd (false≢true e)
shape-second (shape_resource_single a v) e = absurd (false≢true e)
shape-second (shape_resource_set a v) e = absurd (false≢true e)
shape-second (shape-operations m) e = refl
shape-second (shape-link a b) e = absurd (false≢true e)
shape-second (shape-part k m) e = absurd (false≢true e)
shape-second (shape-level l) e = refl
shape-second shape-ends e = refl

-- ---- what was taken

-- whatever line was taken, its command is a known one: a 20, or one of those that may stand behind it
abbrev Shaped : Result (Raw × ℕ) Refusal → Type 0
Shaped (Ok p) = (p.0.byte ≡ 0x20 → ⊥) → Shape p.0
Shaped (Err e) = Unit {0}

taken_shaped : (ws : List ℕ) (b : ℕ) (l : List ℕ) → ((b ≡ 0x20 → ⊥) → Shape (line b (get_or (numbers_at ws l 1) 0 0) (get_or (numbers_at ws l 1) 1 0))) → Shaped (taken_by ws b l)
unfolding taken_by
taken_shaped ws b l h = go (ltb (length l) (suc (total_of ws)))
  where
    go : (short : Bool) → Shaped (cond short (Err RulesCutOff) (Ok (line b (get_or (numbers_at ws l 1) 0 0) (get_or (numbers_at ws l 1) 1 0), suc (total_of ws))))
    go true = tt
    go false = h

by_shaped : (b : ℕ) (l : List ℕ) → Shaped (raw_by (rule_widths 2 b) b l)
unfolding raw_by
by_shaped b l =
    test (eqb b 0x20) (at 0x20 (taken_shaped (1 ∷ 1 ∷ 1 ∷ 1 ∷ 1 ∷ 1 ∷ []) 0x20 l (λ n. absurd (n refl)))) λ n0.
    test (eqb b 0x21) (at 0x21 (taken_shaped [] 0x21 l (λ n. shape-opens))) λ n1.
    test (eqb b 0x22) (at 0x22 (taken_shaped (1 ∷ 2 ∷ []) 0x22 l (λ n. (shape_user_single _ _)))) λ n2.
    test (eqb b 0x23) (at 0x23 (taken_shaped (1 ∷ 8 ∷ []) 0x23 l (λ n. (shape_user_set _ _)))) λ n3.
    test (eqb b 0x24) (at 0x24 (taken_shaped (1 ∷ 2 ∷ []) 0x24 l (λ n. (shape_resource_single _ _)))) λ n4.
    test (eqb b 0x25) (at 0x25 (taken_shaped (1 ∷ 8 ∷ []) 0x25 l (λ n. (shape_resource_set _ _)))) λ n5.
    test (eqb b 0x26) (at 0x26 (taken_shaped (2 ∷ []) 0x26 l (λ n. (shape-operations _)))) λ n6.
    test (eqb b 0x27) (at 0x27 (taken_shaped (1 ∷ 1 ∷ []) 0x27 l (λ n. (shape-link _ _)))) λ n7.
    test (eqb b 0x28) (at 0x28 (taken_shaped (1 ∷ 2 ∷ []) 0x28 l (λ n. (shape-part _ _)))) λ n8.
    test (eqb b 0x29) (at 0x29 (taken_shaped (1 ∷ []) 0x29 l (λ n. (shape-level _)))) λ n9.
    test (eqb b 0x2F) (at 0x2F (taken_shaped [] 0x2F l (λ n. shape-ends))) λ n10.
    rw (n0, n1, n2, n3, n4, n5, n6, n7, n8, n9, n10) tt
  where
    at : (c : ℕ) → Shaped (raw_by (rule_widths 2 c) c l) → eqb b c ≡ true → Shaped (raw_by (rule_widths 2 b) b l)
    at c h k = subst (λ (d : ℕ). Shaped (raw_by (rule_widths 2 d) d l)) (sym (eqb-true b c k)) h

raw_cons : (b : ℕ) (bs : List ℕ) → raw_of (b ∷ bs) ≡ raw_by (rule_widths 2 b) b (b ∷ bs)
unfolding raw_of
raw_cons b bs = rw (ne_eqb (suc (length bs)) 0 (omega arith), first_byte b bs) refl

pub raw_shape : (l : List ℕ) (a : Raw) (w : ℕ) → raw_of l ≡ Ok (a, w) → (a.byte ≡ 0x20 → ⊥) → Shape a
unfolding raw_of
raw_shape [] a w e = let z : ◌≡◌ {A = ℕ} 0 1 = cc in absurd (omega arith)
raw_shape (c ∷ cs) a w e = subst Shaped (sym (raw_cons c cs) ∙ e) (by_shaped c (c ∷ cs))

-- ---- what the code works out

pub taken-short : (ws : List ℕ) (b : ℕ) (l : List ℕ) → length l < suc (total_of ws) → Err RulesCutOff ≡ taken_by ws b l
unfolding taken_by
taken-short ws b l h = rw (lt-ltb (length l) (suc (total_of ws)) h) refl

pub taken-whole : (ws : List ℕ) (b : ℕ) (l : List ℕ) (x y : ℕ) → suc (total_of ws) ≤ length l → x ≡ get_or (numbers_at ws l 1) 0 0 → y ≡ get_or (numbers_at ws l 1) 1 0
    → Ok (line b x y, suc (total_of ws)) ≡ taken_by ws b l
unfolding taken_by
taken-whole ws b l x y h p q = rw (le-ltb (length l) (suc (total_of ws)) h, p, q) refl

-- the first byte of bytes that are there, then its widths
pub raw_at : (l : List ℕ) (b : ℕ) (o : Option (List ℕ)) → (length l ≡ 0 → ⊥) → b ≡ number_at 1 l 0 → rule_widths 2 b ≡ o → raw_by o b l ≡ raw_of l
unfolding raw_of
raw_at l b o h e k = rw (ne_eqb (length l) 0 h, ← e, k) refl

-- ---- what was taken from the front, as the one reader of bytes takes it

module _ (b : ℕ) (bs : List ℕ) where
  -- what the operands of these widths make of it
  abbrev taken_here : List ℕ → Bool → Result (Raw × ℕ) Refusal
  taken_here ws short =
      cond short (Err RulesCutOff) (Ok (line b (get_or (numbers_at ws (b ∷ bs) 1) 0 0) (get_or (numbers_at ws (b ∷ bs) 1) 1 0), suc (total_of ws)))

  -- less than a line, or an unknown command
  pub data Fails (e : Refusal) : Type 0 where
    cut : (ws : List ℕ) → rule_widths 2 b ≡ some ws → operands ws bs ≡ none → RulesCutOff ≡ e → Fails e
    strange : rule_widths 2 b ≡ none → RulesUnknown ≡ e → Fails e

  pub front-fails : (e : Refusal) → raw_of (b ∷ bs) ≡ Err e → Fails e
  unfolding raw_by taken_by
  front-fails e h = go (rule_widths 2 b) refl (sym (raw_cons b bs) ∙ h)
    where
      short : (ws : List ℕ) → rule_widths 2 b ≡ some ws → (t : Bool) → ltb (suc (length bs)) (suc (total_of ws)) ≡ t → taken_here ws t ≡ Err e → Fails e
      short ws o true h k = let m = ltb-true (suc (length bs)) (suc (total_of ws)) h in cut ws o (operands_short ws 1 (b ∷ bs) (omega arith) (omega arith)) cc
      short ws o false h k = let z : ◌≡◌ {A = ℕ} 0 1 = cc in absurd (omega arith)

      go : (o : Option (List ℕ)) → rule_widths 2 b ≡ o → raw_by o b (b ∷ bs) ≡ Err e → Fails e
      go none q k = strange q cc
      go (some ws) q k = short ws q (ltb (suc (length bs)) (suc (total_of ws))) refl k

  -- a line, of w bytes
  pub record Front (a : Raw) (w : ℕ) : Type 0 where
    pub widths : List ℕ
    pub known : rule_widths 2 b ≡ some widths
    pub fits : suc (total_of widths) ≤ suc (length bs)
    pub is : line b (get_or (numbers_at widths (b ∷ bs) 1) 0 0) (get_or (numbers_at widths (b ∷ bs) 1) 1 0) ≡ a
    pub size : suc (total_of widths) ≡ w

  pub front-whole : (a : Raw) (w : ℕ) → raw_of (b ∷ bs) ≡ Ok (a, w) → Front a w
  unfolding raw_by taken_by
  front-whole a w e = go (rule_widths 2 b) refl (sym (raw_cons b bs) ∙ e)
    where
      whole : (ws : List ℕ) → rule_widths 2 b ≡ some ws → (short : Bool) → ltb (suc (length bs)) (suc (total_of ws)) ≡ short → taken_here ws short ≡ Ok (a, w) → Front a w
      whole ws o true h k = let z : ◌≡◌ {A = ℕ} 0 1 = cc in absurd (omega arith)
      whole ws o false h k =
          let q : (line b (get_or (numbers_at ws (b ∷ bs) 1) 0 0) (get_or (numbers_at ws (b ∷ bs) 1) 1 0), suc (total_of ws)) ≡ (a, w) = cc in
          record { widths = ws; known = o; fits = ltb-false (suc (length bs)) (suc (total_of ws)) h; is = ap (λ (t : Raw × ℕ). t.0) q; size = ap (λ (t : Raw × ℕ). t.1) q }

      go : (o : Option (List ℕ)) → rule_widths 2 b ≡ o → raw_by o b (b ∷ bs) ≡ Ok (a, w) → Front a w
      go none o k = let z : ◌≡◌ {A = ℕ} 0 1 = cc in absurd (omega arith)
      go (some ws) o k = whole ws o (ltb (suc (length bs)) (suc (total_of ws))) refl k

  -- its operands, and the bytes behind it
  pub front-taken : (a : Raw) (w : ℕ) (f : Front a w) → operands f.widths bs ≡ some (numbers_at f.widths (b ∷ bs) 1, drop w (b ∷ bs))
  front-taken a w f =
      let h = f.fits in
      let k = f.size in
      let e : 1 + total_of f.widths ≡ w = omega arith in
      operands-at f.widths 1 (b ∷ bs) (omega arith) ∙ ap (λ (k : ℕ). some (numbers_at f.widths (b ∷ bs) 1, drop k (b ∷ bs))) e

-- a command has no more than two operands that are looked at
same-command : (xs : List ℕ) (b : ℕ) (a : Raw) → line b (get_or xs 0 0) (get_or xs 1 0) ≡ a → rule_command b xs ≡ command_of a
unfolding command_of
same-command xs b a e = rw (← e) refl

-- nothing stands at the front of nothing
pub raw_none : raw_of [] ≡ Err RulesCutOff
unfolding raw_of
raw_none = refl

-- ---- one turn of reading, by what was taken from the front

module _ (B : Beside) (n : ℕ) (s : Reading) where
  pub raw_refused : (l : List ℕ) (e : Refusal) → raw_of l ≡ Err e → read_on (rule_format 2 B) (suc n) false s l ≡ refused (cause e)
  unfolding rule_format
  raw_refused [] e h = let q = sym raw_none ∙ h in let c : RulesCutOff ≡ e = cc in ap (λ (d : Refusal). refused (cause d)) c
  raw_refused (b ∷ bs) e h = go (front-fails b bs e h)
    where
      go : Fails b bs e → read_on (rule_format 2 B) (suc n) false s (b ∷ bs) ≡ refused (cause e)
      go (cut ws o p q) =
          ap (decode (rule_format 2 B) (read_on (rule_format 2 B) n) s b bs) o ∙ ap (turn (rule_format 2 B) (read_on (rule_format 2 B) n) s b) p
          ∙ ap (λ (d : Refusal). refused (cause d)) q
      go (strange o q) = ap (decode (rule_format 2 B) (read_on (rule_format 2 B) n) s b bs) o ∙ ap (λ (d : Refusal). refused (cause d)) q

  -- a line stands at the front
  pub record RawFront (l : List ℕ) (a : Raw) (w : ℕ) : Type 0 where
    pub some_bytes : 0 < w
    pub inside : w ≤ length l
    pub shape : (a.byte ≡ 0x20 → ⊥) → Shape a
    pub turned : read_on (rule_format 2 B) (suc n) false s l ≡ and_then (obey_rule B s (command_of a)) (follow (rule_format 2 B) (ends_file (command_of a)) n (drop w l))

  pub raw_whole : (l : List ℕ) (a : Raw) (w : ℕ) → raw_of l ≡ Ok (a, w) → RawFront l a w
  unfolding rule_format
  raw_whole [] a w e = let q = sym raw_none ∙ e in let z : ◌≡◌ {A = ℕ} 0 1 = cc in absurd (omega arith)
  raw_whole (c ∷ cs) a w e =
      let f = front-whole c cs a w e in
      let h = f.fits in
      let k = f.size in
      record {
        some_bytes = omega arith;
        inside = omega arith;
        shape = raw_shape (c ∷ cs) a w e;
        turned =
            ap (decode (rule_format 2 B) (read_on (rule_format 2 B) n) s c cs) f.known
            ∙ ap (turn (rule_format 2 B) (read_on (rule_format 2 B) n) s c) (front-taken c cs a w f)
            ∙ ap (λ (d : RuleCommand). and_then (obey_rule B s d) (follow (rule_format 2 B) (ends_file d) n (drop w (c ∷ cs)))) (same-command (numbers_at f.widths (c ∷ cs) 1) c a f.is);
      }

-- a 20 is refused wherever it is read on
pub again-refused : (B : Beside) (s : Reading) (a : Raw) → a.byte ≡ 0x20 → obey_rule B s (command_of a) ≡ refused rules_order
unfolding command_of obey_rule
again-refused B s a e = rw e refl

-- so where reading on is accepted another command stands at the front
pub accepted-shape : {A : Type 0} (B : Beside) (n : ℕ) (s : Reading) (l : List ℕ) (a : Raw) (w : ℕ) → RawFront B n s l a w → (g : Reading → Answer A) (r : A)
    → and_then (read_on (rule_format 2 B) (suc n) false s l) g ≡ accepted r → Shape a
accepted-shape B n s l a w f g r e = f.shape λ z.
    let q = sym (ap (λ (t : Answer Reading). and_then t g) (f.turned ∙ ap (λ (t : Answer Reading). and_then t (follow (rule_format 2 B) (ends_file (command_of a)) n (drop w l))) (again-refused B s a z))) ∙ e in
    let t : ◌≡◌ {A = ℕ} 0 1 = cc in omega arith

-- ---- the order

-- nothing is left to compare behind the last operand
last : (p q : Bool) → (p || (q && false)) ≡ p
last true q = refl
last false true = refl
last false false = refl

-- the first number that differs decides
module _ (a b : Raw) where
  pub byte_decides : (a.byte ≡ b.byte → ⊥) → ltb a.byte b.byte ≡ raw_before a b
  unfolding raw_before
  byte_decides h = rw (ne_eqb a.byte b.byte h) (sym (or-false (ltb a.byte b.byte)))

  pub first_decides : a.byte ≡ b.byte → (a.first ≡ b.first → ⊥) → ltb a.first b.first ≡ raw_before a b
  unfolding raw_before
  first_decides e h = rw (le-ltb a.byte b.byte (omega arith), eq-eqb a.byte b.byte e, ne_eqb a.first b.first h) (sym (or-false (ltb a.first b.first)))

  pub second_decides : a.byte ≡ b.byte → a.first ≡ b.first → ltb a.second b.second ≡ raw_before a b
  unfolding raw_before
  second_decides e k = rw (le-ltb a.byte b.byte (omega arith), eq-eqb a.byte b.byte e, le-ltb a.first b.first (omega arith), eq-eqb a.first b.first k) refl

-- 21, after which a rule's lines stand, and the bytes of lines
data LineByte : ℕ → Type 0 where
  at-21 : LineByte 0x21
  at-22 : LineByte 0x22
  at-23 : LineByte 0x23
  at-24 : LineByte 0x24
  at-25 : LineByte 0x25
  at-26 : LineByte 0x26
  at-27 : LineByte 0x27
  at-28 : LineByte 0x28
  at-29 : LineByte 0x29

line-byte : (b : ℕ) → 0x21 ≤ b → b ≤ 0x29 → LineByte b
line-byte b h k =
    test (eqb b 0x21) (at 0x21 at-21) λ n1.
    test (eqb b 0x22) (at 0x22 at-22) λ n2.
    test (eqb b 0x23) (at 0x23 at-23) λ n3.
    test (eqb b 0x24) (at 0x24 at-24) λ n4.
    test (eqb b 0x25) (at 0x25 at-25) λ n5.
    test (eqb b 0x26) (at 0x26 at-26) λ n6.
    test (eqb b 0x27) (at 0x27 at-27) λ n7.
    test (eqb b 0x28) (at 0x28 at-28) λ n8.
    test (eqb b 0x29) (at 0x29 at-29) λ n9.
    let beyond = above 0x29 n9 (above 0x28 n8 (above 0x27 n7 (above 0x26 n6 (above 0x25 n5 (above 0x24 n4 (above 0x23 n3 (above 0x22 n2 (above 0x21 n1 h)))))))) in
    absurd (omega arith)
  where
    at : (c : ℕ) → LineByte c → eqb b c ≡ true → LineByte b
    at c l e = subst LineByte (sym (eqb-true b c e)) l

    above : (c : ℕ) → eqb b c ≡ false → c ≤ b → c < b
    above c e l = omega (arith, eqb-false b c e)

line-is : (a : Raw) → LineByte a.byte → byte_of (command_of a) ≡ a.byte
unfolding command_of
line-is a l = go a.byte l
  where
    go : (b : ℕ) → LineByte b → byte_of (rule_command b (a.first ∷ a.second ∷ [])) ≡ b
    go _ at-21 = refl
    go _ at-22 = refl
    go _ at-23 = refl
    go _ at-24 = refl
    go _ at-25 = refl
    go _ at-26 = refl
    go _ at-27 = refl
    go _ at-28 = refl
    go _ at-29 = refl

-- of two lines of one byte the operands decide
same_line : {b : ℕ} (x y z w : ℕ) → LineByte b → (b ≡ 0x21 → ⊥) → (Is (is_short b) → w ≡ 0) → raw_before (line b x y) (line b z w) ≡ precedes (command_of (line b x y)) (command_of (line b z w))
unfolding raw_before command_of
same_line x y z w at-21 l h = absurd (l refl)
same_line x y z w at-22 l h = rw (last (ltb y w) (eqb y w)) refl
same_line x y z w at-23 l h = rw (last (ltb y w) (eqb y w)) refl
same_line x y z w at-24 l h = rw (last (ltb y w) (eqb y w)) refl
same_line x y z w at-25 l h = rw (last (ltb y w) (eqb y w)) refl
same_line x y z w at-26 l h = rw (le-ltb y w (let e = h refl in omega arith)) refl
same_line x y z w at-27 l h = rw (last (ltb y w) (eqb y w)) refl
same_line x y z w at-28 l h = rw (last (ltb y w) (eqb y w)) refl
same_line x y z w at-29 l h = rw (le-ltb y w (let e = h refl in omega arith)) refl

-- of two lines of other bytes the bytes decide
other-lines : (a b : Raw) → LineByte a.byte → LineByte b.byte → eqb a.byte b.byte ≡ false → raw_before a b ≡ precedes (command_of a) (command_of b)
unfolding raw_before
other-lines a b l m e = rw (line-is a l, line-is b m, e) refl

-- the order of the numbers is the order of commands, for two lines of a rule, and for 21 and a line
pub raw-before : (a b : Raw) → 0x21 ≤ a.byte → a.byte ≤ 0x29 → 0x22 ≤ b.byte → b.byte ≤ 0x29 → (Is (is_short b.byte) → b.second ≡ 0) → raw_before a b ≡ precedes (command_of a) (command_of b)
raw-before a b ha ka hb kb h =
    test (eqb a.byte b.byte)
    (λ e. subst (λ (d : ℕ). raw_before (line d a.first a.second) b ≡ precedes (command_of (line d a.first a.second)) (command_of b)) (sym (eqb-true a.byte b.byte e)) (same_line a.first a.second b.first b.second (line-byte b.byte (omega arith) kb) (λ k. omega arith) h))
    (λ e. other-lines a b (line-byte a.byte ha ka) (line-byte b.byte (omega arith) kb) e)
