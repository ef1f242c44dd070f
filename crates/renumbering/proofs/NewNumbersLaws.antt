-- A role file with its users' numbers replaced is accepted where the file is, and states the same of the users with the
-- new numbers. 02, request 12.
-- Assumes nothing.
use Prim.Native.Nat.{ℕ, zero, suc}
use Rattle.std.specs.Prelude.{leb, length, drop, take, Bool, not, ◌≡◌}
use Rattle.std.proofs.Math.Bool.{true, false}
use mathlib.Core.List.{List, [], ◌∷◌, ◌++◌}
use Rattle.std.proofs.Math.Option.{Option, none, some}
use Rattle.std.proofs.Math.Path.{refl}
use Rattle.std.proofs.Common.{sym, ap, ◌∙◌, subst}
use Rattle.files.specs.Answer.{Answer, code_of, unless, and_then, too_long, cut_off, unknown_command, out_of_place, own_senior, refused, accepted}
use Rattle.files.specs.Bytes.{operands, turn, decode, read_on, read}
use Rattle.files.proofs.BytesLaws.{Carries, number_positive}
use Rattle.files.specs.RoleFile.{RoleCommand, role_widths, role_command, Loading, is_end, fresh, settle, obey_role, role_format, read_roles}
use Rattle.policy.specs.Policy.{Policy, circular}
use Rattle.policy.specs.Rules.{user}
use Rattle.renumbering.proofs.CommandLaws.{LoadingAs, fresh_as, Follows, obey_as}
use Rattle.renumbering.proofs.CountLaws.{Kept, obey-kept, users-kept}
use Rattle.renumbering.proofs.OperandLaws.{total, renamed, ends_same, Replaced, command-read, renumber-long}
use Rattle.renumbering.specs.Renumbered.{Renumbering, Renumbered, user_place, replaced_at, renumber_on, renumber, MineAlike, AnsweredAlike, ReadsAs, NewNumbers}
use Rattle.renumbering.proofs.SameRulesLaws.{circular-same, same-rules}
use Rattle.sets.specs.Tests.{Is}

module _ (N : ℕ) (π : Renumbering N) (W : ℕ) where
  abbrev to : ℕ → ℕ
  to = π.to

  -- a command, the end or another, and what stands behind it
  read-command : (n : ℕ) (t s : Loading) (b : ℕ) (ws ys bytes rest : List ℕ) (c : RoleCommand) (a : Answer Loading) → role_widths b ≡ some ws → operands ws (bytes ++ rest) ≡ some (ys, rest)
      → role_command b ys ≡ c → obey_role W t c ≡ accepted s → read_on (role_format W) n (is_end c) s rest ≡ a → read_on (role_format W) (suc n) false t (b ∷ (bytes ++ rest)) ≡ a
  unfolding role_format
  read-command n t s b ws ys bytes rest c a w p e o r = rw (w, p, e, o) r

  -- the same of one with its number replaced
  read_replaced : (n : ℕ) (t s : Loading) (b : ℕ) (ws bs : List ℕ) (p : List ℕ × List ℕ) (a : Answer Loading) → role_widths b ≡ some ws → Replaced to ws b bs (some p)
      → obey_role W t (renamed to (role_command b p.0)) ≡ accepted s → read_on (role_format W) n (is_end (role_command b p.0)) s (renumber_on to n p.1) ≡ a
      → read_on (role_format W) (suc n) false t (renumber_on to (suc n) (b ∷ bs)) ≡ a
  read_replaced n t s b ws bs p a w R o r =
      let c = renamed to (role_command b p.0) in
      let bytes = replaced_at to (user_place b bs) (take (total ws) bs) in
      let rest = renumber_on to n (drop (total ws) bs) in
      let cut : renumber_on to (suc n) (b ∷ bs) ≡ b ∷ (bytes ++ rest) = rw (renumber_on, w) refl in
      ap (read_on (role_format W) (suc n) false t) cut
      ∙ read-command n t s b ws R.1 bytes rest c a w (R.2 rest) R.3 o (rw (ends_same to (role_command b p.0), ← R.0) r)

  -- where reading accepts, the bytes with the numbers replaced are accepted too
  abbrev ReadAs : ℕ → Bool → Loading → List ℕ → Loading → Type 0
  ReadAs n over t bs z = (y : Loading) × (read_on (role_format W) n over t (renumber_on to n bs) ≡ accepted y) × LoadingAs N π z y

  abbrev AllRead : ℕ → Type 0
  AllRead n =
      (over : Bool) (s t z : Loading) (bs : List ℕ) → LoadingAs N π s t → (z.policy.table user).count ≡ N
      → read_on (role_format W) n over s bs ≡ accepted z → ReadAs n over t bs z

  read_as : (n : ℕ) → AllRead n
  unfolding role_format
  read_as zero true s t z [] A m h = (t, refl, let e : s ≡ z = cc in rw e at A)
  read_as zero true s t z (b ∷ bs) A m h = absurd (number_positive out_of_place (ap code_of h))
  read_as zero false s t z bs A m h = absurd (number_positive cut_off (ap code_of h))
  read_as (suc n) true s t z [] A m h = (t, refl, let e : s ≡ z = cc in rw e at A)
  read_as (suc n) false s t z [] A m h = absurd (number_positive cut_off (ap code_of h))
  read_as (suc n) true s t z (b ∷ bs) A m h = absurd (number_positive out_of_place (ap code_of h))
  read_as (suc n) false s t z (b ∷ bs) A m h = decoded (read_as n) (role_widths b) refl h
    where
      obeyed : AllRead n → (ws : List ℕ) → role_widths b ≡ some ws → (p : List ℕ × List ℕ) → Replaced to ws b bs (some p) → (r : Answer Loading)
          → Carries (Kept s) r → Carries (Follows N π (obey_role W t (renamed to (role_command b p.0)))) r
          → and_then r (λ s. read_on (role_format W) n (is_end (role_command b p.0)) s p.1) ≡ accepted z → ReadAs (suc n) false t (b ∷ bs) z
      obeyed go ws e p R (refused d) K k h = absurd (number_positive d (ap code_of h))
      obeyed go ws e p R (accepted s) K k h =
          let f = k (sym (users-kept W n (is_end (role_command b p.0)) s z p.1 K.0 h) ∙ m) in
          let g = go (is_end (role_command b p.0)) s f.0 z p.1 f.2 m h in
          (g.0, read_replaced n t f.0 b ws bs p (accepted g.0) e R f.1 g.1, g.2)

      turned : AllRead n → (ws : List ℕ) → role_widths b ≡ some ws → (o : Option (List ℕ × List ℕ)) → Replaced to ws b bs o → turn (role_format W) (read_on (role_format W) n) s b o ≡ accepted z → ReadAs (suc n) false t (b ∷ bs) z
      turned go ws e none R h = absurd (number_positive cut_off (ap code_of h))
      turned go ws e (some p) R h = obeyed go ws e p R (obey_role W s (role_command b p.0)) (obey-kept W s (role_command b p.0)) (obey_as N π W s t A (role_command b p.0)) h

      decoded : AllRead n → (o : Option (List ℕ)) → role_widths b ≡ o → decode (role_format W) (read_on (role_format W) n) s b bs o ≡ accepted z → ReadAs (suc n) false t (b ∷ bs) z
      decoded go none e h = absurd (number_positive unknown_command (ap code_of h))
      decoded go (some ws) e h = turned go ws e (operands ws bs) (command-read to b ws bs e) h

-- ---- the file

-- what makes a role file an accepted one
readable : (W : ℕ) (bytes : List ℕ) (n : ℕ) (y : Loading) → length bytes ≡ n → Is (leb n 65535) → read_on (role_format W) (suc n) false fresh bytes ≡ accepted y → circular y.policy ≡ false
    → read_roles W bytes ≡ accepted y.policy
unfolding read_roles
readable W bytes n y e l r c = rw (e, l, r, c) refl

-- THE LAW: the file with the users' numbers replaced is accepted if the file is, and stands in the relation to it
pub new-numbers : (W : ℕ) → NewNumbers W
unfolding read_roles renumber
new-numbers W file F h π = short (leb (length file) 65535) refl h
  where
    stands : (z y : Loading) → z.policy ≡ F → circular z.policy ≡ false → Is (leb (length file) 65535)
        → read_on (role_format W) (suc (length file)) false fresh (renumber_on π.to (suc (length file)) file) ≡ accepted y → Renumbered π.to z.policy y.policy → ReadsAs W π.to F (renumber π.to file)
    stands z y e c l r A =
        let d : circular y.policy ≡ false = circular-same π.to z.policy y.policy A ∙ c in
        (y.policy, readable W (renumber_on π.to (suc (length file)) file) (length file) y (renumber-long π.to (suc (length file)) file) l r d, subst (λ (H : Policy). Renumbered π.to H y.policy) e A)

    settled : (z : Loading) → Is (leb (length file) 65535) → read (role_format W) fresh file ≡ accepted z → (c : Bool) → circular z.policy ≡ c → unless (not c) own_senior (accepted z.policy) ≡ accepted F
        → ReadsAs W π.to F (renumber π.to file)
    settled z l r true c h = absurd (number_positive own_senior (ap code_of h))
    settled z l r false c h =
        let e : z.policy ≡ F = cc in
        let g = read_as (F.table user).count π W (suc (length file)) false fresh fresh z file (fresh_as (F.table user).count π) (ap (λ (H : Policy). (H.table user).count) e) r in
        stands z g.0 e c l g.1 g.2.policy

    whole : Is (leb (length file) 65535) → (r : Answer Loading) → read (role_format W) fresh file ≡ r → and_then r settle ≡ accepted F → ReadsAs W π.to F (renumber π.to file)
    whole l (refused d) r h = absurd (number_positive d (ap code_of h))
    whole l (accepted z) r h = settled z l r (circular z.policy) refl h

    short : (b : Bool) → leb (length file) 65535 ≡ b → unless b too_long (and_then (read (role_format W) fresh file) settle) ≡ accepted F → ReadsAs W π.to F (renumber π.to file)
    short true l h = whole l (read (role_format W) fresh file) refl h
    short false l h = absurd (number_positive too_long (ap code_of h))

-- so payroll may replace the numbers in the file itself: it mines as before
pub renumbered_alike : (W : ℕ) (file : List ℕ) (F : Policy) → read_roles W file ≡ accepted F → (π : Renumbering (F.table user).count)
    → MineAlike W F.roles file (renumber π.to file) × AnsweredAlike W file (renumber π.to file)
renumbered_alike W file F h π = let t = new-numbers W file F h π in same-rules W file (renumber π.to file) F t.0 h t.1 π t.2
