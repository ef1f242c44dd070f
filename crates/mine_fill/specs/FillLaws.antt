-- The laws of the filling: part by part, role by role.
-- Assumes nothing.
use Prim.Native.Nat.{ℕ, suc, ◌+◌, ◌*◌, ◌^◌, ◌≤◌, ◌<◌}
use Rattle.std.proofs.Common.{eqb-true, length-append, sym, ap₂, ◌∙◌}
use Rattle.std.proofs.lemmas.Bool.{eqb-false}
use Rattle.std.specs.Prelude.{eqb, get_or, set, Bool, true, false, ◌≡◌, refl}
use Rattle.std.proofs.Math.ListN.{length, get_or-append}
use mathlib.Core.List.{List, [], ◌∷◌, ◌++◌, append-nil, append_assoc}
use Rattle.std.proofs.Math.Path.{ap, subst}
use native.Mathlib.Omega.{arith}
use Rattle.grant_parts.specs.Parts.{is_part_in}
use Rattle.mine_fill.specs.Fill.{leads_before, parts_before, StartsTo, part_words, FilledWith, FilledBy, RoleTo, FilledTo}
use Rattle.mine_pairs.specs.PairLevels.{tables_fit, group_level}
use Rattle.mine_parts.specs.Layout.{room_in, users_at, resources_at, operations_at, rest_at, rest_of, name_of, stored_part}
use Rattle.mine_parts.specs.LayoutLaws.{stored-long, stored-users, stored-resources, stored-operations, stored-rest, stored-kept, stored_kept_rest}
use Rattle.mine_theory.specs.Words.Words.{Words}
use Rattle.mine_words.specs.PartWords.{atoms_of}
use Rattle.policy.specs.Roles.{Part}
use Rattle.role_record.specs.Cells.{most_operations}
use Rattle.sets.specs.ListLaws.{each_more, length-each, sum-most, from-length}
use Rattle.sets.specs.LoopLaws.{store_next}
use Rattle.sets.specs.LowestLaws.{lowest-most}
use Rattle.sets.specs.MaskLaws.{mask_lt}
use Rattle.sets.specs.Tests.{only, up_to}
use Rattle.sets.specs.TestLaws.{test}

-- ---- lists

-- what stands behind a list in a longer one
pub get_d_behind : {A : Type 0} (l m : List A) (d : A) (j : ℕ) → get_or (l ++ m) (length l + j) d ≡ get_or m j d
get_d_behind [] m d j = let e : 0 + j ≡ j = omega arith in ap (λ (k : ℕ). get_or m k d) e
get_d_behind (x ∷ l) m d j = let e : suc (length l) + j ≡ suc (length l + j) = omega arith in ap (λ (k : ℕ). get_or (x ∷ (l ++ m)) k d) e ∙ get_d_behind l m d j

-- ---- how many parts there are

only-most : {A : Type 0} (b : Bool) (x : A) → length (only b x) ≤ 1
only-most true x = omega arith
only-most false x = omega arith

module _ (holders permissions : List ℕ) (operations : ℕ) where
  -- of a role no more than there are operations
  pub leads-most : (k o : ℕ) → length (leads_before holders permissions operations k o) ≤ o
  unfolding leads_before
  leads-most k o =
      within (length-each part (up_to o)) (sum-most 1 (λ q. length (part q)) (up_to o) (λ q _. only-most (is_part_in holders permissions operations k q) (record { role = k; lead = q }))) (from-length 0 o)
    where
      part : ℕ → List Part
      part q = only (is_part_in holders permissions operations k q) (record { role = k; lead = q })

      within : {a b c : ℕ} → a ≡ b → b ≤ 1 * c → c ≡ o → a ≤ o
      within p q r = omega arith

  -- one more operation leads a part, or does not
  pub leads-part : (k o : ℕ) → is_part_in holders permissions operations k o ≡ true → leads_before holders permissions operations k (o + 1) ≡ leads_before holders permissions operations k o ++ (record { role = k; lead = o } ∷ [])
  unfolding leads_before
  leads-part k o e = each_more (λ q. only (is_part_in holders permissions operations k q) (record { role = k; lead = q })) o ∙ ap (λ (b : Bool). leads_before holders permissions operations k o ++ only b (record { role = k; lead = o })) e

  pub leads-none : (k o : ℕ) → is_part_in holders permissions operations k o ≡ false → leads_before holders permissions operations k (o + 1) ≡ leads_before holders permissions operations k o
  unfolding leads_before
  leads-none k o e = each_more (λ q. only (is_part_in holders permissions operations k q) (record { role = k; lead = q })) o ∙ ap (λ (b : Bool). leads_before holders permissions operations k o ++ only b (record { role = k; lead = o })) e ∙ append-nil (leads_before holders permissions operations k o)

  -- one more role
  pub parts_more : (k : ℕ) → parts_before holders permissions operations (k + 1) ≡ parts_before holders permissions operations k ++ leads_before holders permissions operations k operations
  unfolding parts_before
  parts_more k = each_more (λ j. leads_before holders permissions operations j operations) k

  -- of all roles no more than this
  pub parts-most : (k : ℕ) → operations ≤ most_operations → length (parts_before holders permissions operations k) ≤ most_operations * k
  unfolding parts_before
  parts-most k h =
      within (length-each (λ j. leads_before holders permissions operations j operations) (up_to k))
      (sum-most most_operations (λ j. length (leads_before holders permissions operations j operations)) (up_to k) (λ j _. let m = leads-most j operations in omega arith)) (from-length 0 k)
    where
      within : {a b c : ℕ} → a ≡ b → b ≤ most_operations * c → c ≡ k → a ≤ most_operations * k
      within p q r = omega arith

module _ (links matches known attributes holders permissions : List ℕ) (users resources operations : ℕ) where
  -- ---- one part

  -- its words are 36 atoms
  pub part-atoms : {W : Words} (p : Part) → W ≡ part_words links attributes holders permissions operations p → W.atoms < 2 ^ 36
  unfolding part_words atoms_of
  part-atoms p e = rw e (mask_lt 36 _)

  -- and its level is no higher than 3
  pub part-level : {l : ℕ} (W : Words) → l ≡ group_level links matches known attributes users resources operations W → l < 4
  unfolding group_level
  part-level W e = let m = lowest-most (tables_fit links matches known attributes users resources operations W W) in omega arith

  -- what is worked out of it
  pub filled_with : {W : Words} {l n d : ℕ} (p : Part) (i : ℕ) → W ≡ part_words links attributes holders permissions operations p → l ≡ group_level links matches known attributes users resources operations W → n ≡ name_of p.role p.lead → d ≡ rest_of W.atoms l n i
      → FilledWith links matches known attributes holders permissions users resources operations p i W.users W.resources W.ops d
  filled_with {W} {l} {n} {d} p i e f g h = record {
    users_in = ap (λ (X : Words). X.users) e;
    resources_in = ap (λ (X : Words). X.resources) e;
    operations-in = ap (λ (X : Words). X.ops) e;
    rest_in = h ∙ ap₂ (λ (a b : ℕ). rest_of a b n i) (ap (λ (X : Words). X.atoms) e) (f ∙ ap (group_level links matches known attributes users resources operations) e)
        ∙ ap (λ (m : ℕ). rest_of (part_words links attributes holders permissions operations p).atoms (group_level links matches known attributes users resources operations (part_words links attributes holders permissions operations p)) m i) g;
  }

  abbrev Filled : List ℕ → List Part → Type 0
  Filled = FilledBy links matches known attributes holders permissions users resources operations

  abbrev nobody : Part
  nobody = record { role = 0; lead = 0 }

  -- one more is stored behind those that stand there
  filled_more : (u : List ℕ) (l : List Part) (p : Part) (n a b c d : ℕ) → length l ≡ n → n < room_in u → Filled u l → FilledWith links matches known attributes holders permissions users resources operations p n a b c d → Filled (stored_part u n a b c d) (l ++ (p ∷ []))
  filled_more u l p n a b c d e r f w i h = test (eqb i n) (λ q. here (eqb-true i n q)) (λ q. there (eqb-false i n q))
    where
      At : List ℕ → Part → ℕ → Type 0
      At t x k = FilledWith links matches known attributes holders permissions users resources operations x k (users_at t k) (resources_at t k) (operations_at t k) (rest_at t k)

      new : At (stored_part u n a b c d) p n
      new = record {
        users_in = stored-users u n a b c d r ∙ w.users_in;
        resources_in = stored-resources u n a b c d r ∙ w.resources_in;
        operations-in = stored-operations u n a b c d r ∙ w.operations-in;
        rest_in = stored-rest u n a b c d r ∙ w.rest_in;
      }

      here : i ≡ n → At (stored_part u n a b c d) (get_or (l ++ (p ∷ [])) i nobody) i
      here q =
          let k : n ≡ length l + 0 = omega arith in
          let s : get_or (l ++ (p ∷ [])) i nobody ≡ p = ap (λ (x : ℕ). get_or (l ++ (p ∷ [])) x nobody) (q ∙ k) ∙ get_d_behind l (p ∷ []) nobody 0 in
          rw (s, q) new

      there : (i ≡ n → ⊥) → At (stored_part u n a b c d) (get_or (l ++ (p ∷ [])) i nobody) i
      there q =
          let m = length-append l (p ∷ []) in
          let k : i < length l = omega arith in
          let old = f i k in
          let o = stored-kept u n a b c d i q in
          rw (get_or-append l (p ∷ []) nobody i k) (record {
            users_in = o.users ∙ old.users_in;
            resources_in = o.resources ∙ old.resources_in;
            operations-in = o.operations ∙ old.operations-in;
            rest_in = stored_kept_rest u n a b c d i q ∙ old.rest_in;
          })

  -- ---- the parts of a role

  -- no more than operations were looked at
  pub role-most : {t u : List ℕ} {k first n o : ℕ} → RoleTo links matches known attributes holders permissions users resources operations t u k first n o → n ≤ first + o
  role-most {t} {u} {k} {first} {n} {o} R = let m = leads-most holders permissions operations k o in let e = R.count in omega arith

  pub role-begin : (t : List ℕ) (k first : ℕ) → RoleTo links matches known attributes holders permissions users resources operations t t k first first 0
  unfolding leads_before
  role-begin t k first = record { long = refl; count = omega arith; filled = λ l e f. subst (Filled t) (sym (append-nil l)) f }

  pub role_skip : {t u : List ℕ} {k first n o : ℕ} → is_part_in holders permissions operations k o ≡ false → RoleTo links matches known attributes holders permissions users resources operations t u k first n o → RoleTo links matches known attributes holders permissions users resources operations t u k first n (o + 1)
  role_skip {t} {u} {k} {first} {n} {o} e R =
      let s = sym (leads-none holders permissions operations k o e) in
      record { long = R.long; count = R.count ∙ ap (λ (l : List Part). first + length l) s; filled = λ l g f. subst (λ (m : List Part). Filled u (l ++ m)) s (R.filled l g f) }

  pub role-store : {t u v : List ℕ} {k first n o a b c d : ℕ} → is_part_in holders permissions operations k o ≡ true → n < room_in u → RoleTo links matches known attributes holders permissions users resources operations t u k first n o
      → FilledWith links matches known attributes holders permissions users resources operations (record { role = k; lead = o }) n a b c d → v ≡ stored_part u n a b c d → RoleTo links matches known attributes holders permissions users resources operations t v k first (n + 1) (o + 1)
  role-store {t} {u} {v} {k} {first} {n} {o} {a} {b} {c} {d} e r R w z =
      let s = sym (leads-part holders permissions operations k o e) in
      let leads = leads_before holders permissions operations k o in
      let one : Part = record { role = k; lead = o } in
      let x = R.count in
      let y = length-append leads (one ∷ []) in
      let q : n + 1 ≡ first + length (leads ++ (one ∷ [])) = omega arith in
      rw z (record {
        long = stored-long u n a b c d ∙ R.long;
        count = q ∙ ap (λ (l : List Part). first + length l) s;
        filled = λ l g f.
            let j = length-append l leads in
            subst (λ (m : List Part). Filled (stored_part u n a b c d) (l ++ m)) s
            (subst (Filled (stored_part u n a b c d)) (append_assoc l leads (one ∷ [])) (filled_more u (l ++ leads) one n a b c d (omega arith) r (R.filled l g f) w));
      })

  pub role-end : {t u : List ℕ} {k first n o end : ℕ} → o ≡ end → RoleTo links matches known attributes holders permissions users resources operations t u k first n o → RoleTo links matches known attributes holders permissions users resources operations t u k first n end
  role-end {t} {u} {k} {first} {n} e R = subst (RoleTo links matches known attributes holders permissions users resources operations t u k first n) e R

  -- ---- role by role

  pub fill_begin : (t starts : List ℕ) → FilledTo links matches known attributes holders permissions users resources operations t starts 0 0
  unfolding parts_before
  fill_begin t starts = record { count = refl; filled = λ i h. absurd (omega arith); begins = λ j h. absurd (omega arith) }

  -- a role's start is noted
  start-noted : {t starts : List ℕ} {n k : ℕ} → k < length starts → FilledTo links matches known attributes holders permissions users resources operations t starts n k → StartsTo holders permissions operations (set starts k n) (k + 1)
  start-noted {t} {starts} {n} {k} l F = store_next starts k n (λ j. length (parts_before holders permissions operations j)) F.begins F.count l

  -- and its parts are stored
  pub fill-role : {t u starts : List ℕ} {n m k : ℕ} → k < length starts → FilledTo links matches known attributes holders permissions users resources operations t starts n k → RoleTo links matches known attributes holders permissions users resources operations t u k n m operations → FilledTo links matches known attributes holders permissions users resources operations u (set starts k n) m (k + 1)
  fill-role {t} {u} {starts} {n} {m} {k} l F R =
      let s = sym (parts_more holders permissions operations k) in
      let before = parts_before holders permissions operations k in
      let leads = leads_before holders permissions operations k operations in
      record {
        count = R.count ∙ ap (λ (x : ℕ). x + length leads) F.count ∙ sym (length-append before leads) ∙ ap length s;
        filled = subst (Filled u) s (R.filled before (sym F.count) F.filled);
        begins = start-noted l F;
      }

  -- at the end all are stored, and the table of starts has one entry more
  pub fill_end : {t starts : List ℕ} {n k end : ℕ} → k ≡ end → end < length starts → FilledTo links matches known attributes holders permissions users resources operations t starts n k
      → (n ≡ length (parts_before holders permissions operations end)) × FilledBy links matches known attributes holders permissions users resources operations t (parts_before holders permissions operations end) × StartsTo holders permissions operations (set starts end n) (end + 1)
  fill_end {t} {starts} {n} {k} {end} e l F = ends (subst (FilledTo links matches known attributes holders permissions users resources operations t starts n) e F)
    where
      ends : FilledTo links matches known attributes holders permissions users resources operations t starts n end
          → (n ≡ length (parts_before holders permissions operations end)) × FilledBy links matches known attributes holders permissions users resources operations t (parts_before holders permissions operations end) × StartsTo holders permissions operations (set starts end n) (end + 1)
      ends G = (G.count, G.filled, start-noted l G)

  -- so many parts there may be
  pub fill_most : {t starts : List ℕ} {n k : ℕ} → operations ≤ most_operations → FilledTo links matches known attributes holders permissions users resources operations t starts n k → n ≤ most_operations * k
  fill_most {t} {starts} {n} {k} h F = let m = parts-most holders permissions operations k h in let e = F.count in omega arith
