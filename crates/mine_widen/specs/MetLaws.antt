-- The table of who meets the values of some members, widened member by member.
-- Assumes nothing.
use Prim.Native.Nat.{ℕ, ◌+◌, ◌*◌, ◌^◌, ◌<◌, suc, zero}
use Rattle.std.specs.Prelude.{get_or, length, drop, replicate, take, ◌&&◌, ◌||◌, List, ◌++◌, ◌≡◌, refl}
use Rattle.std.proofs.Math.Bool.{Bool, or_self, or_comm}
use Rattle.std.proofs.Common.{⊎_elim, ◌∙◌, arith, take_at, drop_at, get_or-take}
use Rattle.std.proofs.Math.Path.{sym, ap, subst}
use Rattle.mine_matches.specs.Matches.{met_of, both_members, Met, MemberAdded, SidesMet}
use Rattle.sets.specs.MemberLaws.{join-begin, join-turn, join-done}
use Rattle.sets.specs.Sets.{joining, bit, mask_of, less_one}
use Rattle.sets.specs.MaskLaws.{mask_lt, mask_same}
use Rattle.sets.specs.SetLaws.{bit-none, bit_mask}
use Rattle.sets.specs.Tests.{Is, any, up_to}
use Rattle.sets.specs.TestLaws.{and_in, and_l, and_r, or_l, or_r, or_out, same, any_in, any_out, any_ext, up_to-out}

module _ (matches : List ℕ) (side : ℕ) where
  -- who meets the value of a member at an attribute
  abbrev word : ℕ → ℕ → ℕ
  word a y = get_or matches (64 * (7 * side + a) + y) 0

  -- a table of zeros is that of nobody
  met-nobody : (met : List ℕ) → ((a : ℕ) → a < 6 → get_or met a 0 ≡ 0) → Met matches side 0 met
  unfolding met_of
  met-nobody met h a l = h a l ∙ sym (sym (join-begin 0 (word a)) ∙ join-done (word a) 0 0 (omega arith) refl)

  -- the table of the same members, by another word
  pub met-alike : (m n : ℕ) (met : List ℕ) → ((y : ℕ) → y < 64 → bit m y ≡ bit n y) → Met matches side m met → Met matches side n met
  unfolding met_of
  met-alike m n met e h a l =
      h a l
      ∙ mask_same 64 (λ x. any (λ y. bit m y && bit (word a y) x) (up_to 64)) (λ x. any (λ y. bit n y && bit (word a y) x) (up_to 64))
      (λ x _. any_ext _ _ (up_to 64) λ y q. ap (λ (b : Bool). b && bit (word a y) x) (e y (up_to-out 64 q)))

  -- nobody and some members are these
  pub met-first : (m : ℕ) (met : List ℕ) → Met matches side (both_members 0 m) met → Met matches side m met
  unfolding both_members
  met-first m met = met-alike (both_members 0 m) m met (λ y l. bit_mask 64 (λ k. bit 0 k || bit m k) y l ∙ ap (λ (b : Bool). b || bit m y) (bit-none y))

  -- some members with themselves are the same
  pub met-alone : (m : ℕ) (met : List ℕ) → Met matches side m met → Met matches side (both_members m m) met
  unfolding both_members
  met-alone m met = met-alike m (both_members m m) met (λ y l. sym (bit_mask 64 (λ k. bit m k || bit m k) y l ∙ or_self (bit m y)))

  -- whichever come first
  pub met_turned : (m n : ℕ) (met : List ℕ) → Met matches side (both_members m n) met → Met matches side (both_members n m) met
  unfolding both_members
  met_turned m n met = met-alike (both_members m n) (both_members n m) met (λ y l. bit_mask 64 (λ k. bit m k || bit n k) y l ∙ or_comm (bit m y) (bit n y) ∙ sym (bit_mask 64 (λ k. bit n k || bit m k) y l))

  -- who meets a value of some members or of others meets one of both together
  met-both : (a m n u : ℕ) → u < 64 → joining (met_of matches (7 * side + a) m) (bit n) (word a) 64 u ≡ any (λ y. bit (both_members m n) y && bit (word a y) u) (up_to 64)
  unfolding met_of both_members
  met-both a m n u l = same (joining (met_of matches (7 * side + a) m) (bit n) (word a) 64 u) (any (λ y. bit (both_members m n) y && bit (word a y) u) (up_to 64)) there back
    where
      meets : ℕ → Bool
      meets x = any (λ y. bit m y && bit (word a y) x) (up_to 64)

      joined : (y : ℕ) → y < 64 → bit (mask_of 64 (λ k. bit m k || bit n k)) y ≡ (bit m y || bit n y)
      joined y h = bit_mask 64 (λ k. bit m k || bit n k) y h

      there : Is (joining (mask_of 64 meets) (bit n) (word a) 64 u) → Is (any (λ y. bit (mask_of 64 (λ k. bit m k || bit n k)) y && bit (word a y) u) (up_to 64))
      there p = ⊎_elim
          (λ q. let t = any_out (λ y. bit m y && bit (word a y) u) (up_to 64) (sym (bit_mask 64 meets u l) ∙ q) in
          any_in (λ y. bit (mask_of 64 (λ k. bit m k || bit n k)) y && bit (word a y) u) t.1 (and_in (joined t.0 (up_to-out 64 t.1) ∙ or_l (bit n t.0) (and_l (bit m t.0) _ t.2)) (and_r (bit m t.0) _ t.2)))
          (λ q. let t = any_out (λ y. bit n y && bit (word a y) u) (up_to 64) q in
          any_in (λ y. bit (mask_of 64 (λ k. bit m k || bit n k)) y && bit (word a y) u) t.1 (and_in (joined t.0 (up_to-out 64 t.1) ∙ or_r (bit m t.0) (and_l (bit n t.0) _ t.2)) (and_r (bit n t.0) _ t.2)))
          (or_out (bit (mask_of 64 meets) u) (any (λ y. bit n y && bit (word a y) u) (up_to 64)) p)

      back : Is (any (λ y. bit (mask_of 64 (λ k. bit m k || bit n k)) y && bit (word a y) u) (up_to 64)) → Is (joining (mask_of 64 meets) (bit n) (word a) 64 u)
      back p =
          let t = any_out (λ y. bit (mask_of 64 (λ k. bit m k || bit n k)) y && bit (word a y) u) (up_to 64) p in
          let w = and_r (bit (mask_of 64 (λ k. bit m k || bit n k)) t.0) _ t.2 in
          ⊎_elim
          (λ q. or_l (any (λ y. bit n y && bit (word a y) u) (up_to 64)) (bit_mask 64 meets u l ∙ any_in (λ y. bit m y && bit (word a y) u) t.1 (and_in q w)))
          (λ q. or_r (bit (mask_of 64 meets) u) (any_in (λ y. bit n y && bit (word a y) u) t.1 (and_in q w)))
          (or_out (bit m t.0) (bit n t.0) (sym (joined t.0 (up_to-out 64 t.1)) ∙ and_l (bit (mask_of 64 (λ k. bit m k || bit n k)) t.0) _ t.2))

  -- the members left, joined to the table as it is, give the table of the goal
  abbrev pub Adds : List ℕ → ℕ → ℕ → Type 0
  Adds t rest goal = (a : ℕ) → a < 6 → (get_or t a 0 < 2 ^ 64) × (mask_of 64 (joining (get_or t a 0) (bit rest) (word a) 64) ≡ met_of matches (7 * side + a) goal)

  pub adds-begin : (t : List ℕ) (m members : ℕ) → Met matches side m t → Adds t members (both_members m members)
  unfolding met_of
  adds-begin t m members h a l = (
    subst (λ (x : ℕ). x < 2 ^ 64) (sym (h a l)) (mask_lt 64 (λ x. any (λ y. bit m y && bit (word a y) x) (up_to 64))),
    ap (λ (x : ℕ). mask_of 64 (joining x (bit members) (word a) 64)) (h a l) ∙ mask_same 64 (joining (met_of matches (7 * side + a) m) (bit members) (word a) 64) (λ x. any (λ y. bit (both_members m members) y && bit (word a y) x) (up_to 64)) (λ u lu. met-both a m members u lu),
  )

  pub adds-turn : (t t' : List ℕ) (rest rest' goal y : ℕ) → rest < 2 ^ 64 → y < 64 → Is (bit rest y) → MemberAdded matches side y t t' → rest' ≡ less_one rest y → Adds t rest goal → Adds t' rest' goal
  adds-turn t t' rest rest' goal y h l b w e n a la = (
    subst (λ (x : ℕ). x < 2 ^ 64) (sym (w a la)) (mask_lt 64 (λ k. bit (get_or t a 0) k || bit (word a y) k)),
    ap (λ (x : ℕ). mask_of 64 (joining (get_or t' a 0) (bit x) (word a) 64)) e ∙ join-turn rest h (word a) y (get_or t a 0) (get_or t' a 0) l b (w a la) ∙ (n a la).1,
  )

  pub adds-end : (t : List ℕ) (rest goal : ℕ) → rest ≡ 0 → Adds t rest goal → Met matches side goal t
  adds-end t rest goal e n a l = sym (join-done (word a) rest (get_or t a 0) (n a l).0 e) ∙ (n a l).1

-- ---- one table for both sides

zeros : (n a : ℕ) → ◌≡◌ {A = ℕ} (get_or (replicate n 0) a 0) 0
zeros zero a = refl
zeros (suc n) zero = refl
zeros (suc n) (suc a) = zeros n a

module _ (matches : List ℕ) where
  -- a table of zeros is that of nobody
  pub none-met : SidesMet matches 0 0 (replicate 12 0)
  none-met = (met-nobody matches 0 (replicate 12 0) (λ a l. zeros 12 a), met-nobody matches 1 (replicate 6 0) (λ a l. zeros 6 a))

  -- a side's words alone
  pub met-cut : (side m : ℕ) (met : List ℕ) → Met matches side m met → Met matches side m (take 6 met)
  met-cut side m met h a l = get_or-take 6 met a 0 l ∙ h a l

  -- and with others behind them
  met-ahead : (side m : ℕ) (met rest : List ℕ) → length met ≡ 6 → Met matches side m met → Met matches side m (met ++ rest)
  met-ahead side m met rest e h a l = sym (get_or-take 6 (met ++ rest) a 0 l) ∙ ap (λ (t : List ℕ). get_or t a 0) (take_at met rest 6 e) ∙ h a l

  -- the resources' words once those of the users are replaced
  pub met-behind : (n : ℕ) (met front : List ℕ) → length front ≡ 6 → Met matches 1 n (drop 6 met) → Met matches 1 n (take 6 (drop 6 (front ++ drop 6 met)))
  met-behind n met front e h = met-cut 1 n (drop 6 (front ++ drop 6 met)) (subst (Met matches 1 n) (sym (drop_at front (drop 6 met) 6 e)) h)

  -- the words of both sides replaced
  pub sides-met : (m n : ℕ) (met front back rest : List ℕ) → length front ≡ 6 → length back ≡ 6 → Met matches 0 m front → Met matches 1 n back → SidesMet matches m n (take 6 (front ++ drop 6 met) ++ (back ++ rest))
  sides-met m n met front back rest e f h k =
      subst (λ (t : List ℕ). SidesMet matches m n (t ++ (back ++ rest))) (sym (take_at front (drop 6 met) 6 e))
      (met-ahead 0 m front (back ++ rest) e h, subst (Met matches 1 n) (sym (drop_at front (back ++ rest) 6 e)) (met-ahead 1 n back rest f k))
