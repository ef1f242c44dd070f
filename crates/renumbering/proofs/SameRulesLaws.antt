-- Role files that differ in their users' numbers alone mine to the same bytes and the same counts. 02, request 12.
-- Assumes nothing.
use Prim.Native.Nat.{ℕ, ◌<◌}
use borrow.Author.Tests.{le-leb}
use Rattle.std.specs.Prelude.{eqb, leb, drop, Bool, ◌&&◌, ◌||◌, List, ◌≡◌}
use Rattle.std.proofs.Math.ListN.{length}
use Rattle.std.proofs.Math.Seq.{take-append_seam}
use Rattle.std.proofs.Math.Bool.{true, false, cond}
use Rattle.std.proofs.Math.Option.{Option, some}
use Rattle.std.proofs.Math.Path.{refl, ap, ap₂, fun_ext}
use Rattle.files.specs.Answer.{Answer, unless, small_scratch, short_output, bad_cuts, accepted}
use Rattle.files.specs.Calls.{cuts_ok, least_scratch, mined_bytes, mined_counts, may_mine, mine_answer, mine_output}
use Rattle.files.specs.RoleFile.{read_roles}
use Rattle.policy.specs.Policy.{Policy, meets_value, senior, circular, held, roles_of, is_set_at, value_at, side_of, setting_of, roles_in}
use Rattle.policy.specs.Rules.{own, Which, user, resource}
use Rattle.renumbering.specs.Renumbered.{Renumbering, Renumbered, MinesTo, MineAlike, AnsweredAlike, SameRules}
use Rattle.renumbering.proofs.SettingLaws.{SettingAs, RolesAs, cost-same, count_same, mined-same, rule-same, mined_lines_same}
use Rattle.sets.specs.Sets.{mask_of}
use Rattle.sets.specs.Tests.{Is, up_to}
use Rattle.sets.specs.TestLaws.{any_ext}

-- ---- policies

module _ (to : ℕ → ℕ) (F G : Policy) (A : Renumbered to F G) where
  senior-same : senior G ≡ senior F
  unfolding senior
  senior-same = fun_ext λ k. fun_ext λ s. rw (A.line, A.roles) refl

  pub circular-same : circular G ≡ circular F
  unfolding circular
  circular-same = rw (senior-same, A.roles) refl

module _ (F G : Policy) (π : Renumbering (F.table user).count) (A : Renumbered π.to F G) where
  held_same : (k u : ℕ) → u < (F.table user).count → held G k (π.to u) ≡ held F k u
  unfolding held
  held_same k u l =
      rw (A.assigned k u l, senior-same π.to F G A, A.roles)
      (ap (λ (b : Bool). F.assigned k u || b)
      (any_ext (λ s. senior F k s && G.assigned s (π.to u)) (λ s. senior F k s && F.assigned s u) (up_to F.roles) (λ s m. ap (λ (b : Bool). senior F k s && b) (A.assigned s u l))))

  own_same : (u : ℕ) → u < (F.table user).count → roles_of G (π.to u) ≡ roles_of F u
  unfolding roles_of
  own_same u l = ap₂ mask_of A.roles (fun_ext λ k. held_same k u l)

  user-value : (a u : ℕ) → u < (F.table user).count → value_at G user a (π.to u) ≡ value_at F user a u
  unfolding value_at
  user-value a u l = ap₂ (λ (m : ℕ) (v : Option ℕ). cond (eqb a own) (some m) v) (own_same u l) (A.value a u l)

  set_same : (w : Which) → is_set_at G w ≡ is_set_at F w
  unfolding is_set_at
  set_same user = fun_ext λ a. rw A.kinds refl
  set_same resource = fun_ext λ a. rw A.resources refl

  resource-value : value_at G resource ≡ value_at F resource
  unfolding value_at
  resource-value = fun_ext λ a. fun_ext λ x. rw A.resources refl

  resources-same : side_of G resource ≡ side_of F resource
  unfolding side_of
  resources-same = rw (set_same resource, resource-value, A.resources) refl

  setting_as : unfold setting_of side_of in (SettingAs (setting_of F) (setting_of G) π)
  unfolding setting_of side_of
  setting_as = record {
    count = A.count;
    attrs = ap length A.kinds;
    is_set = set_same user;
    domain = A.domain;
    below = fun_ext λ a. ap (λ (f : ℕ → Bool). meets_value user (f a)) (set_same user);
    value = user-value;
    resources = resources-same;
    slots = A.operations;
  }

  roles_as : RolesAs (F.table user).count π (roles_in F) (roles_in G)
  unfolding roles_in
  roles_as = record { number = A.roles; gives = A.permitted; held = held_same }

  -- both are mined to the same bytes
  bytes_same : (W : ℕ) → mined_bytes W G ≡ mined_bytes W F
  unfolding mined_bytes setting_of side_of
  bytes_same W = fun_ext λ cuts.
      rw (mined_lines_same (setting_of F) (setting_of G) π setting_as (roles_in F) (roles_in G) roles_as, A.count, A.resources, A.operations, A.roles, A.kinds) refl

  -- and to the same counts
  counts_same : (W : ℕ) → mined_counts W G ≡ mined_counts W F
  unfolding mined_counts setting_of side_of
  counts_same W = fun_ext λ cuts. fun_ext λ weights.
      let P = setting_of F in
      let S = setting_of G in
      let R = roles_in F in
      let T = roles_in G in
      rw (
        bytes_same W,
        count_same P S π setting_as R T roles_as,
        (mined-same P S π setting_as R T roles_as).0,
        (mined-same P S π setting_as R T roles_as).1,
        rule-same P S π setting_as R T roles_as,
        cost-same P S π setting_as weights,
      ) refl

-- ---- the call

module _ (W : ℕ) where
  -- what an accepted role file mines to with legal cuts
  mines : (file cuts : List ℕ) (F : Policy) → read_roles W file ≡ accepted F → Is (cuts_ok cuts F.roles) → MinesTo W file cuts (mined_bytes W F cuts) (mined_counts W F cuts)
  unfolding mine_answer mine_output may_mine mined_counts
  mines file cuts F h c weights scratch former s r =
      let bytes = mined_bytes W F cuts in
      let may : may_mine W file cuts scratch (length former) ≡ accepted F = rw (le-leb least_scratch scratch s, h, c, le-leb (length bytes) (length former) r) refl in
      (rw may refl, rw (mine_output, may) (take-append_seam bytes (drop (length bytes) former)))

  -- a policy, unless one of mining's three tests of what is handed in beside the file fails
  abbrev tested : Bool → Bool → Bool → Policy → Answer Policy
  tested scratch cuts room H = unless scratch small_scratch (unless cuts bad_cuts (unless room short_output (accepted H)))

  module _ (file other : List ℕ) (F G : Policy) (f : read_roles W file ≡ accepted F) (g : read_roles W other ≡ accepted G) (π : Renumbering (F.table user).count) (A : Renumbered π.to F G) where
    mined-alike : MineAlike W F.roles file other
    mined-alike cuts c =
        (mined_bytes W F cuts, mined_counts W F cuts, mines file cuts F f c, rw (bytes_same F G π A W, counts_same F G π A W) at (mines other cuts G g (rw A.roles c)))

    -- the tests come out alike
    answered-alike : AnsweredAlike W file other
    unfolding mine_answer mine_output may_mine
    answered-alike cuts weights scratch former =
        go (leb least_scratch scratch) (cuts_ok cuts F.roles) (leb (length (mined_bytes W F cuts)) (length former)) (rw f refl) (rw (g, bytes_same F G π A W, A.roles) refl)
      where
        go : (s c r : Bool) → may_mine W file cuts scratch (length former) ≡ tested s c r F → may_mine W other cuts scratch (length former) ≡ tested s c r G
            → (mine_answer W other cuts weights scratch (length former) ≡ mine_answer W file cuts weights scratch (length former)) × (mine_output W other cuts scratch former ≡ mine_output W file cuts scratch former)
        go false c r p q = (rw (p, q) refl, rw (mine_output, p, q) refl)
        go true false r p q = (rw (p, q) refl, rw (mine_output, p, q) refl)
        go true true false p q = (rw (p, q) refl, rw (mine_output, p, q) refl)
        go true true true p q = (rw (p, q, counts_same F G π A W) refl, rw (mine_output, p, q, bytes_same F G π A W) refl)

  -- THE LAW: "both mine to the same bytes and the same counts"
  pub same-rules : SameRules W
  same-rules file other F G f g π A = (mined-alike file other F G f g π A, answered-alike file other F G f g π A)
