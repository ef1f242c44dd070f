-- What is worked out head by head in scratch is what the groups that merging leaves come to.
-- Assumes nothing.
use Rattle.std.specs.Prelude.{ℕ, ◌+◌, ◌<◌, length, List, [], ◌∷◌, ◌++◌, map, ◌≡◌, refl}
use Rattle.std.proofs.lemmas.List.{length-map}
use mathlib.Core.List.Memᴰ
use Rattle.std.proofs.Common.{ap, ap₂, ◌∙◌, sym}
use Rattle.mine_theory.specs.Search.Frontier.{groups_in}
use Rattle.policy.specs.Mined.{mined_groups}
use Rattle.policy.specs.Policy.{Policy, setting_of, roles_in}
use Rattle.sets.specs.ListLaws.{keep_ext}
use Rattle.sets.specs.Tests.{Is, ◌is_in◌, keep, each, up_to, sum}
use Rattle.sets.specs.TestLaws.{keep_out, up_to-out}
use Rattle.mine_parts.specs.Layout.{is_head_at}
use Rattle.mine_groups.specs.Scratch.{Merged}

-- ---- lists

each_map : {A B C : Type 0} (f : B → List C) (g : A → B) (h : A → List C) (l : List A) → ((x : A) → x is_in l → h x ≡ f (g x)) → each h l ≡ each f (map g l)
each_map f g h [] e = refl
each_map f g h (x ∷ l) e = ap₂ ◌++◌ (e x (Memᴰ.head refl)) (each_map f g h l (λ y m. e y (Memᴰ.tail m)))

sum-map : {A B : Type 0} (f : B → ℕ) (g : A → B) (h : A → ℕ) (l : List A) → ((x : A) → x is_in l → h x ≡ f (g x)) → sum h l ≡ sum f (map g l)
sum-map f g h [] e = refl
sum-map f g h (x ∷ l) e = ap₂ ◌+◌ (e x (Memᴰ.head refl)) (sum-map f g h l (λ y m. e y (Memᴰ.tail m)))

-- the heads that scratch has
abbrev pub heads_in : ℕ → List ℕ → List ℕ
heads_in parts t = keep (is_head_at t) (up_to parts)

module _ (F : Policy) (cuts : List ℕ) (parts : ℕ) (t : List ℕ) (M : Merged F cuts parts t) where
  heads-alive : heads_in parts t ≡ keep M.groups.alive (up_to parts)
  heads-alive = keep_ext (is_head_at t) M.groups.alive (up_to parts) (λ i m. M.shown.heads i (up_to-out parts m))

  groups-listed : map M.groups.group (keep M.groups.alive (up_to parts)) ≡ mined_groups (setting_of F) (roles_in F) cuts
  unfolding groups_in
  groups-listed = M.left

  -- what is listed head by head
  pub heads-each : {C : Type 0} (f : List ℕ → List C) (h : ℕ → List C) → ((i : ℕ) → i < parts → Is (M.groups.alive i) → h i ≡ f (M.groups.group i)) → each h (heads_in parts t) ≡ each f (mined_groups (setting_of F) (roles_in F) cuts)
  heads-each f h e = ap (each h) heads-alive ∙ each_map f M.groups.group h (keep M.groups.alive (up_to parts)) (λ i m. let k = keep_out M.groups.alive (up_to parts) m in e i (up_to-out parts k.0) k.1) ∙ ap (each f) groups-listed

  -- what is added up
  pub heads-sum : (f : List ℕ → ℕ) (h : ℕ → ℕ) → ((i : ℕ) → i < parts → Is (M.groups.alive i) → h i ≡ f (M.groups.group i)) → sum h (heads_in parts t) ≡ sum f (mined_groups (setting_of F) (roles_in F) cuts)
  heads-sum f h e = ap (sum h) heads-alive ∙ sum-map f M.groups.group h (keep M.groups.alive (up_to parts)) (λ i m. let k = keep_out M.groups.alive (up_to parts) m in e i (up_to-out parts k.0) k.1) ∙ ap (sum f) groups-listed

  -- and how many there are
  pub heads-count : length (heads_in parts t) ≡ length (mined_groups (setting_of F) (roles_in F) cuts)
  heads-count = ap length heads-alive ∙ sym (length-map (keep M.groups.alive (up_to parts)) M.groups.group) ∙ ap length groups-listed
