-- A command with the number of its user replaced does to a state with new numbers what the command does to the state.
-- Assumes nothing.
use Rattle.std.specs.Prelude.{ℕ, ◌*◌, ◌<◌, eqb, length, Bool, cond, ◌&&◌, ◌≡◌}
use borrow.Author.Tests.{eqb-true, eq-eqb, ltb-true, lt-ltb}
use Rattle.std.proofs.Math.Dec.{ltb, leb}
use Rattle.std.proofs.Math.Bool.{true, false, not}
use mathlib.Core.List.{List, [], ◌∷◌, ◌++◌}
use Rattle.std.proofs.Math.Path.{refl, fun_ext}
use Rattle.std.proofs.Common.{ap, ◌∙◌}
use Rattle.files.specs.Answer.{Answer, unless, and_then, out_of_place, beyond, wrong_kind, accepted}
use Rattle.files.proofs.BytesLaws.{Carries, unless_carries, then_carries}
use Rattle.files.specs.RoleFile.{RoleCommand, Phase, Loading, blank, side_by, with_table, with_kind, with_value, with_assigned, with_permitted, with_line, is_nothing, is_declaring, enter, take_kind, take_value, take_assignment, take_permission, take_line, fresh, take_sizes, obey_role, sizes, declare, give, assign, permit, line, end, declaring, telling}
use Rattle.policy.specs.Policy.{Table, Policy, kind_of}
use Rattle.policy.specs.Rules.{Which, user, resource}
use Rattle.renumbering.proofs.OperandLaws.{renamed}
use Rattle.renumbering.specs.Renumbered.{Renumbering, Renumbered}
use Rattle.sets.specs.Tests.{Is, iff, is_some}
use Rattle.sets.specs.TestLaws.{and_in, and_l, and_r, same, and_three}

module _ (N : ℕ) (π : Renumbering N) where
  abbrev to : ℕ → ℕ
  to = π.to

  -- no two users have one new number
  same_number : (u v : ℕ) → u < N → v < N → eqb (to u) (to v) ≡ eqb u v
  same_number u v l m =
      same (eqb (to u) (to v)) (eqb u v)
      (λ h. eq-eqb u v (π.apart u v l m (eqb-true (to u) (to v) h)))
      (λ h. eq-eqb (to u) (to v) (ap to (eqb-true u v h)))

  -- ---- what a command adds

  blank_as : (u r o k : ℕ) → Renumbered to (blank u r o k) (blank u r o k)
  unfolding blank
  blank_as u r o k = record {
    assigned = λ k u l. refl;
    value = λ a u l. refl;
    count = refl;
    kinds = refl;
    domain = refl;
    resources = refl;
    operations = refl;
    roles = refl;
    permitted = refl;
    line = refl;
  }

  module _ (F G : Policy) (A : Renumbered to F G) where
    kinds_as : (w : Which) → (G.table w).kinds ≡ (F.table w).kinds
    kinds_as user = A.kinds
    kinds_as resource = rw A.resources refl

    -- another table of one side
    users_as : (T U : Table) → T.count ≡ (F.table user).count → U.count ≡ T.count → U.kinds ≡ T.kinds → U.domain ≡ T.domain
        → ((a u : ℕ) → u < T.count → U.value a (to u) ≡ T.value a u) → Renumbered to (with_table F user T) (with_table G user U)
    unfolding with_table
    users_as T U e c k d v = record {
      assigned = λ k u l. A.assigned k u (rw e at l);
      value = v;
      count = c;
      kinds = k;
      domain = d;
      resources = A.resources;
      operations = A.operations;
      roles = A.roles;
      permitted = A.permitted;
      line = A.line;
    }

    resources_as : (T U : Table) → U ≡ T → Renumbered to (with_table F resource T) (with_table G resource U)
    unfolding with_table
    resources_as T U e = record {
      assigned = A.assigned;
      value = A.value;
      count = A.count;
      kinds = A.kinds;
      domain = A.domain;
      resources = e;
      operations = A.operations;
      roles = A.roles;
      permitted = A.permitted;
      line = A.line;
    }

    kind_as : (w : Which) (k : Bool) (d : ℕ) → Renumbered to (with_kind F w k d) (with_kind G w k d)
    unfolding with_kind
    kind_as user k d = users_as _ _ refl A.count (ap (λ (l : List Bool). l ++ (k ∷ [])) A.kinds) (fun_ext λ a. rw (A.kinds, A.domain) refl) A.value
    kind_as resource k d = resources_as _ _ (rw A.resources refl)

    resource_value_as : (a x v : ℕ) → Renumbered to (with_value F resource a x v) (with_value G resource a x v)
    unfolding with_value
    resource_value_as a x v = resources_as _ _ (rw A.resources refl)

    permitted_as : (k r o : ℕ) → Renumbered to (with_permitted F k r o) (with_permitted G k r o)
    unfolding with_permitted
    permitted_as k r o = record {
      assigned = A.assigned;
      value = A.value;
      count = A.count;
      kinds = A.kinds;
      domain = A.domain;
      resources = A.resources;
      operations = A.operations;
      roles = A.roles;
      permitted = rw A.permitted refl;
      line = A.line;
    }

    line_as : (j k : ℕ) → Renumbered to (with_line F j k) (with_line G j k)
    unfolding with_line
    line_as j k = record {
      assigned = A.assigned;
      value = A.value;
      count = A.count;
      kinds = A.kinds;
      domain = A.domain;
      resources = A.resources;
      operations = A.operations;
      roles = A.roles;
      permitted = A.permitted;
      line = rw A.line refl;
    }

    module _ (m : (F.table user).count ≡ N) where
      user_value_as : (a x v : ℕ) → x < N → Renumbered to (with_value F user a x v) (with_value G user a (to x) v)
      unfolding with_value
      user_value_as a x v l = users_as _ _ refl A.count A.kinds A.domain (λ b y k. rw (same_number y x (rw m at k) l, A.value b y k) refl)

      assigned-as : (k u : ℕ) → u < N → Renumbered to (with_assigned F k u) (with_assigned G k (to u))
      unfolding with_assigned
      assigned-as k u l = record {
        assigned = λ j v q. rw (same_number v u (rw m at q) l, A.assigned j v q) refl;
        value = A.value;
        count = A.count;
        kinds = A.kinds;
        domain = A.domain;
        resources = A.resources;
        operations = A.operations;
        roles = A.roles;
        permitted = A.permitted;
        line = A.line;
      }

  -- ---- what a command asks

  -- where an answer is accepted, another is, and what they accept stands in the relation, once the users are N
  abbrev Taken : Answer Policy → Policy → Type 0
  Taken q F = (F.table user).count ≡ N → (G : Policy) × (q ≡ accepted G) × Renumbered to F G

  sizes-taken : (W u r o k : ℕ) → Carries (Taken (take_sizes W u r o k)) (take_sizes W u r o k)
  unfolding take_sizes
  sizes-taken W u r o k =
      unless_carries (Taken (take_sizes W u r o k)) (leb u 64 && leb r 64 && leb o (8 * W) && leb k 32) beyond (accepted (blank u r o k)) λ q m.
      (blank u r o k, rw q refl, blank_as u r o k)

  module _ (F G : Policy) (A : Renumbered to F G) where
    kind_taken : (side kind domain : ℕ) → Carries (Taken (take_kind G side kind domain)) (take_kind F side kind domain)
    unfolding take_kind
    kind_taken side kind domain =
        unless_carries (Taken (take_kind G side kind domain)) (ltb side 2 && ltb kind 2 && ltb (length (F.table (side_by side)).kinds) 6) beyond (accepted (with_kind F (side_by side) (eqb kind 1) domain)) λ q m.
        (with_kind G (side_by side) (eqb kind 1) domain, rw (kinds_as F G A (side_by side), q) refl, kind_as F G A (side_by side) (eqb kind 1) domain)

    -- a value, by the side
    abbrev value_on : Policy → Which → Bool → (side a x v : ℕ) → Answer Policy
    value_on H w set side a x v =
        unless (ltb side 2 && ltb a (length (H.table w).kinds) && ltb x (H.table w).count) beyond
        (unless (iff (kind_of (H.table w) a) set && not (is_some ((H.table w).value a x))) wrong_kind
        (accepted (with_value H w a x v)))

    value_taken : (set : Bool) (side a x v : ℕ) → Carries (Taken (take_value G set side a (cond (eqb side 0) (to x) x) v)) (take_value F set side a x v)
    unfolding take_value with_value with_table
    value_taken set side a x v = go (eqb side 0)
      where
        go : (c : Bool) → Carries (Taken (value_on G (cond c user resource) set side a (cond c (to x) x) v)) (value_on F (cond c user resource) set side a x v)
        go true =
            let t = F.table user in
            unless_carries (Taken (value_on G user set side a (to x) v)) (ltb side 2 && ltb a (length t.kinds) && ltb x t.count) beyond _ λ p.
            unless_carries (Taken (value_on G user set side a (to x) v)) (iff (kind_of t a) set && not (is_some (t.value a x))) wrong_kind (accepted (with_value F user a x v)) λ q m.
            let k = and_three (ltb side 2) (ltb a (length t.kinds)) (ltb x t.count) p in
            let l : x < (F.table user).count = ltb-true x t.count k.2 in
            let low : x < N = rw m at l in
            let size : (G.table user).count ≡ N = A.count ∙ m in
            let first : Is (ltb side 2 && ltb a (length (G.table user).kinds) && ltb (to x) (G.table user).count) =
            and_in (and_in k.0 (rw A.kinds k.1)) (rw size (lt-ltb (to x) N (π.low x low))) in
            let second : Is (iff (kind_of (G.table user) a) set && not (is_some ((G.table user).value a (to x)))) = rw (A.kinds, A.value a x l) q in
            (with_value G user a (to x) v, rw (first, second) refl, user_value_as F G A m a x v low)
        go false =
            let t = F.table resource in
            unless_carries (Taken (value_on G resource set side a x v)) (ltb side 2 && ltb a (length t.kinds) && ltb x t.count) beyond _ λ p.
            unless_carries (Taken (value_on G resource set side a x v)) (iff (kind_of t a) set && not (is_some (t.value a x))) wrong_kind (accepted (with_value F resource a x v)) λ q m.
            (with_value G resource a x v, rw (A.resources, p, q) refl, resource_value_as F G A a x v)

    assignment-taken : (k u : ℕ) → Carries (Taken (take_assignment G k (to u))) (take_assignment F k u)
    unfolding take_assignment with_assigned
    assignment-taken k u =
        unless_carries (Taken (take_assignment G k (to u))) (ltb k F.roles && ltb u (F.table user).count) beyond (accepted (with_assigned F k u)) λ q m.
        let low : u < N = rw m at (ltb-true u (F.table user).count (and_r (ltb k F.roles) (ltb u (F.table user).count) q)) in
        let size : (G.table user).count ≡ N = A.count ∙ m in
        let role : Is (ltb k G.roles) = rw A.roles (and_l (ltb k F.roles) (ltb u (F.table user).count) q) in
        let who : Is (ltb (to u) (G.table user).count) = rw size (lt-ltb (to u) N (π.low u low)) in
        (with_assigned G k (to u), rw (role, who) refl, assigned-as F G A m k u low)

    permission_taken : (k r o : ℕ) → Carries (Taken (take_permission G k r o)) (take_permission F k r o)
    unfolding take_permission
    permission_taken k r o =
        unless_carries (Taken (take_permission G k r o)) (ltb k F.roles && ltb r (F.table resource).count && ltb o F.operations) beyond (accepted (with_permitted F k r o)) λ q m.
        (with_permitted G k r o, rw (A.roles, A.resources, A.operations, q) refl, permitted_as F G A k r o)

    line_taken : (j k : ℕ) → Carries (Taken (take_line G j k)) (take_line F j k)
    unfolding take_line
    line_taken j k =
        unless_carries (Taken (take_line G j k)) (ltb j F.roles && ltb k F.roles) beyond (accepted (with_line F j k)) λ q m.
        (with_line G j k, rw (A.roles, q) refl, line_as F G A j k)

  -- ---- from state to state

  pub record LoadingAs (s t : Loading) : Type 0 where
    pub phase : t.phase ≡ s.phase
    pub policy : Renumbered to s.policy t.policy

  pub fresh_as : LoadingAs fresh fresh
  fresh_as = record { phase = refl; policy = blank_as 0 0 0 0 }

  -- where a state is accepted, the other answer accepts one that stands in the relation to it, once the users are N
  abbrev pub Follows : Answer Loading → Loading → Type 0
  Follows q s = (s.policy.table user).count ≡ N → (t : Loading) × (q ≡ accepted t) × LoadingAs s t

  enter_as : (place again : Bool) (phase : Phase) (r q : Answer Policy) → again ≡ place → Carries (Taken q) r → Carries (Follows (enter again phase q)) (enter place phase r)
  enter_as place again phase r q e h =
      unless_carries (Follows (enter again phase q)) place out_of_place (and_then r (λ F. accepted (record { phase = phase; policy = F }))) λ p.
      then_carries (Taken q) (Follows (enter again phase q)) r (λ F. accepted (record { phase = phase; policy = F })) h λ F k m.
      let g = k m in
      (record { phase = phase; policy = g.0 }, rw (e, p, g.1) refl, record { phase = refl; policy = g.2 })

  module _ (W : ℕ) where
    pub obey_as : (s t : Loading) → LoadingAs s t → (c : RoleCommand) → Carries (Follows (obey_role W t (renamed to c))) (obey_role W s c)
    unfolding obey_role
    obey_as s t A (sizes u r o k) = enter_as (is_nothing s.phase) (is_nothing t.phase) declaring (take_sizes W u r o k) (take_sizes W u r o k) (ap is_nothing A.phase) (sizes-taken W u r o k)
    obey_as s t A (declare side kind domain) =
        enter_as (is_declaring s.phase) (is_declaring t.phase) declaring (take_kind s.policy side kind domain) (take_kind t.policy side kind domain) (ap is_declaring A.phase)
        (kind_taken s.policy t.policy A.policy side kind domain)
    obey_as s t A (give set side a x v) =
        enter_as (not (is_nothing s.phase)) (not (is_nothing t.phase)) telling (take_value s.policy set side a x v) (take_value t.policy set side a (cond (eqb side 0) (to x) x) v) (ap (λ (p : Phase). not (is_nothing p)) A.phase)
        (value_taken s.policy t.policy A.policy set side a x v)
    obey_as s t A (assign k u) =
        enter_as (not (is_nothing s.phase)) (not (is_nothing t.phase)) telling (take_assignment s.policy k u) (take_assignment t.policy k (to u)) (ap (λ (p : Phase). not (is_nothing p)) A.phase)
        (assignment-taken s.policy t.policy A.policy k u)
    obey_as s t A (permit k r o) =
        enter_as (not (is_nothing s.phase)) (not (is_nothing t.phase)) telling (take_permission s.policy k r o) (take_permission t.policy k r o) (ap (λ (p : Phase). not (is_nothing p)) A.phase)
        (permission_taken s.policy t.policy A.policy k r o)
    obey_as s t A (line j k) =
        enter_as (not (is_nothing s.phase)) (not (is_nothing t.phase)) telling (take_line s.policy j k) (take_line t.policy j k) (ap (λ (p : Phase). not (is_nothing p)) A.phase)
        (line_taken s.policy t.policy A.policy j k)
    obey_as s t A end =
        enter_as (not (is_nothing s.phase)) (not (is_nothing t.phase)) telling (accepted s.policy) (accepted t.policy) (ap (λ (p : Phase). not (is_nothing p)) A.phase)
        (λ m. (t.policy, refl, A.policy))
