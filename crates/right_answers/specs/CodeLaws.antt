-- What the code has worked out is what the calls answer; and what a 0 says.
-- Assumes nothing.
use Rattle.std.specs.Prelude.{ℕ, ◌<◌, eqb, leb, Bool, ◌&&◌, ◌≡◌, Result}
use Rattle.std.specs.Result.{result_and}
use borrow.Author.Tests.{eq-eqb, ne_eqb, eqb-true, ltb-true, leb-true}
use Rattle.std.proofs.Math.Dec.{ltb}
use Rattle.std.proofs.Math.Bool.{true, false}
use Rattle.std.proofs.Math.Path.{refl, sym, ap₂}
use Rattle.std.proofs.Common.{ap, ◌∙◌}
use Rattle.files.specs.Answer.{unless, code_of, wrong_table, beyond, accepted}
use Rattle.files.proofs.AnswerLaws.{unless-passed, map-code}
use Rattle.files.specs.Cause.{answer_of}
use Rattle.files.specs.Edits.{Edit, may_fill, may_edit}
use Rattle.right_answers.specs.Codes.{fill_code, edit_code}
use Rattle.files.specs.declared.refusal.Refusal.{Refusal}
use Rattle.files.specs.declared.refusal.Refusal.TheVariants.{Beyond}
use Rattle.role_admit.specs.Admit.{checked, below_of, sizes_admitted}
use Rattle.role_admit.specs.AdmitLaws.{limits as size_limits}
use Rattle.role_record.specs.Record.{WithinLimits}
use Rattle.role_record.specs.declared.Sizes.{Sizes}
use Rattle.sets.specs.TestLaws.{and_l, and_r, and_three}

-- three tests one after the other, with any refusals
module _ {A : Type 0} (a : A) where
  both-passed : (x y : Bool) → code_of (unless x wrong_table (unless y beyond (accepted a))) ≡ 0 → (x ≡ true) × (y ≡ true)
  both-passed x y h =
      let p = unless-passed x wrong_table (unless y beyond (accepted a)) h in
      (p.0, (unless-passed y beyond (accepted a) p.1).0)

  all-passed : (x y z : Bool) → code_of (unless x wrong_table (unless y beyond (unless z beyond (accepted a)))) ≡ 0 → (x ≡ true) × (y ≡ true) × (z ≡ true)
  all-passed x y z h =
      let p = unless-passed x wrong_table (unless y beyond (unless z beyond (accepted a))) h in
      let q = unless-passed y beyond (unless z beyond (accepted a)) p.1 in
      (p.0, q.0, (unless-passed z beyond (accepted a) q.1).0)

-- the number does not depend on what would be accepted
same_code : {A B : Type 0} (a : A) (b : B) (x y z : Bool) → code_of (unless x wrong_table (unless y beyond (unless z beyond (accepted a)))) ≡ code_of (unless x wrong_table (unless y beyond (unless z beyond (accepted b))))
same_code a b true true true = refl
same_code a b true true false = refl
same_code a b true false z = refl
same_code a b false y z = refl

-- of sizes that are admitted nothing more is said
abbrev nothing_more : Sizes → Unit {0}
nothing_more n = tt

module _ (n : Sizes) (words : ℕ) where
  -- the limits of the sizes
  abbrev limits : Bool
  limits = leb n.users 64 && leb n.resources 64 && leb n.operations 16 && leb n.roles 32

  limits-out : limits ≡ true → WithinLimits n
  limits-out h =
      let a = and_three (leb n.users 64) (leb n.resources 64) (leb n.operations 16) (and_l (leb n.users 64 && leb n.resources 64 && leb n.operations 16) (leb n.roles 32) h) in
      (leb-true n.users 64 a.0, leb-true n.resources 64 a.1, leb-true n.operations 16 a.2, leb-true n.roles 32 (and_r (leb n.users 64 && leb n.resources 64 && leb n.operations 16) (leb n.roles 32) h))

  -- ---- filling

  -- the answer by the outcome of the table's test
  pub fill_wrong : (words ≡ 1024 → ⊥) → 17 ≡ fill_code n words
  unfolding fill_code
  fill_wrong h = rw (ne_eqb words 1024 h) refl

  pub fill_right : (v : Result (Unit {0}) Refusal) → words ≡ 1024 → v ≡ sizes_admitted n → code_of (answer_of v) ≡ fill_code n words
  unfolding fill_code
  fill_right v h e =
      ap (λ (w : Result (Unit {0}) Refusal). code_of (answer_of w)) e
      ∙ ap code_of (size_limits n.users n.resources n.operations n.roles n) ∙ map-code nothing_more (unless limits beyond (accepted n))
      ∙ sym (ap (λ (b : Bool). code_of (unless b wrong_table (unless limits beyond (accepted n)))) (eq-eqb words 1024 h))

  pub fill-code : {A : Type 0} (a : A) → code_of (may_fill words n.users n.resources n.operations n.roles (accepted a)) ≡ fill_code n words
  unfolding fill_code
  fill-code a = same_code a n (eqb words 1024) limits true

  -- what 0 says
  pub fill_passed : fill_code n words ≡ 0 → (words ≡ 1024) × WithinLimits n
  unfolding fill_code
  fill_passed h = let p = both-passed n (eqb words 1024) limits h in (eqb-true words 1024 p.0, limits-out p.1)

  pub fill_accepted : {A : Type 0} (a : A) → fill_code n words ≡ 0 → may_fill words n.users n.resources n.operations n.roles (accepted a) ≡ accepted a
  unfolding fill_code
  fill_accepted a h = let p = both-passed n (eqb words 1024) limits h in ap₂ (λ (x y : Bool). unless x wrong_table (unless y beyond (accepted a))) p.0 p.1

  -- ---- an edit

  module _ (e : Edit) where
    -- its numbers are within the sizes
    abbrev numbers : Bool
    numbers = ltb e.role n.roles && ltb e.user n.users

    pub edit-code : {A : Type 0} (a : A) → code_of (may_edit words n.users n.resources n.operations n.roles e (accepted a)) ≡ edit_code n words e.role e.user
    unfolding edit_code
    edit-code a = same_code a n (eqb words 1024) limits numbers

    pub edit_passed : edit_code n words e.role e.user ≡ 0 → (words ≡ 1024) × WithinLimits n × (e.role < n.roles) × (e.user < n.users)
    unfolding edit_code
    edit_passed h =
        let p = all-passed n (eqb words 1024) limits numbers h in
        (eqb-true words 1024 p.0, limits-out p.1, ltb-true e.role n.roles (and_l (ltb e.role n.roles) (ltb e.user n.users) p.2), ltb-true e.user n.users (and_r (ltb e.role n.roles) (ltb e.user n.users) p.2))

    pub edit_accepted : {A : Type 0} (a : A) → edit_code n words e.role e.user ≡ 0 → may_edit words n.users n.resources n.operations n.roles e (accepted a) ≡ accepted a
    unfolding edit_code
    edit_accepted a h = go (eqb words 1024) limits numbers (all-passed n (eqb words 1024) limits numbers h)
      where
        go : (x y z : Bool) → (x ≡ true) × (y ≡ true) × (z ≡ true) → unless x wrong_table (unless y beyond (unless z beyond (accepted a))) ≡ accepted a
        go x y z p = rw (p.0, p.1, p.2) refl

  -- as the code works it out: the table and the sizes first, then the numbers
  module _ (role user : ℕ) where
    pub edit_first : (fill_code n words ≡ 0 → ⊥) → fill_code n words ≡ edit_code n words role user
    unfolding fill_code edit_code
    edit_first h = go (eqb words 1024) limits (ltb role n.roles && ltb user n.users) h
      where
        go : (x y z : Bool) → (code_of (unless x wrong_table (unless y beyond (accepted n))) ≡ 0 → ⊥) → code_of (unless x wrong_table (unless y beyond (accepted n))) ≡ code_of (unless x wrong_table (unless y beyond (unless z beyond (accepted n))))
        go true true z h = absurd (h refl)
        go true false z h = refl
        go false y z h = refl

    pub edit_then : (v : Result (Unit {0}) Refusal) → fill_code n words ≡ 0 → v ≡ result_and (below_of role n.roles) (below_of user n.users) → code_of (answer_of v) ≡ edit_code n words role user
    unfolding fill_code edit_code
    edit_then v h e =
        ap (λ (w : Result (Unit {0}) Refusal). code_of (answer_of w)) e ∙ both-below (ltb role n.roles) (ltb user n.users)
        ∙ go (eqb words 1024) limits (both-passed n (eqb words 1024) limits h)
      where
        both-below : (a b : Bool) → code_of (answer_of (result_and (checked a Beyond) (checked b Beyond))) ≡ code_of (unless (a && b) beyond (accepted n))
        both-below true true = refl
        both-below true false = refl
        both-below false b = refl

        go : (x y : Bool) → (x ≡ true) × (y ≡ true)
            → code_of (unless (ltb role n.roles && ltb user n.users) beyond (accepted n)) ≡ code_of (unless x wrong_table (unless y beyond (unless (ltb role n.roles && ltb user n.users) beyond (accepted n))))
        go x y p = rw (p.0, p.1) refl
