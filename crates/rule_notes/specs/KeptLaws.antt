-- The steps of the code make what the definitions say of the numbers kept.
-- Assumes nothing.
use Rattle.std.specs.Prelude.{ℕ, ◌+◌, ◌*◌, ◌≤◌, ◌<◌, eqb, ltb, get_or, set, Bool, true, false, ◌&&◌, ◌||◌, not, List, Some, is_none, ◌≡◌}
use borrow.Author.Tests.{ne_eqb, lt-ltb, le-ltb, ltb-true}
use Rattle.std.proofs.Math.Bool.{and-true, and-false, or-false}
use Rattle.std.proofs.Math.Path.{refl, sym}
use Rattle.std.proofs.Common.{ap, ap₂, ◌∙◌, arith}
use Rattle.role_record.specs.Record.{marked}
use Rattle.grant_blocks.specs.Rows.{added_rows, same_rows}
use Rattle.rule_commands.specs.Raw.{raw_before}
use Rattle.rule_levels.specs.Levels.{level_for}
use Rattle.rule_notes.specs.Tally.{tallied, counted_with, open_rows, closed_with, finished_with, finished_grid, may_close, is_second, follows_with, levelled_with}
use Rattle.rule_notes.specs.LineSteps.{place_by, pair_number, tally_with, noted_with, met_more, met_after, listed_after, seen_by, again_by}
use Rattle.sets.specs.Sets.{bit, mask_of}
use Rattle.sets.specs.TestLaws.{test}
use Rattle.rule_commands.specs.declared.Atom.{Atom}
use Rattle.rule_commands.specs.declared.Raw.{Raw}
use Rattle.rule_commands.specs.declared.RuleCommand.{RuleCommand}
use Rattle.rule_commands.specs.declared.RuleCommand.TheVariants.{Opens, Value, Operations, Link, Part, Level, Ends}
use Rattle.rule_commands.specs.declared.ListedValue.{ListedValue}
use Rattle.rule_notes.specs.declared.Tally.{Tally}

-- one more rule: no stray one, one behind the first that was, and the first
pub counted_same : (k : Tally) (b : Bool) → b ≡ true → tallied k k.stray ≡ counted_with k b
unfolding counted_with
counted_same k b e = rw e refl

pub counted-late : (k : Tally) (b : Bool) → b ≡ false → is_none k.stray ≡ false → tallied k k.stray ≡ counted_with k b
unfolding counted_with
counted-late k b e f = rw e (rw f refl)

pub counted-first : (k : Tally) (b : Bool) → b ≡ false → is_none k.stray ≡ true → tallied k (Some k.rules) ≡ counted_with k b
unfolding counted_with
counted-first k b e f = rw e (rw f refl)

-- the same of rows that are the rule's
pub closed-by : (k : Tally) (met listed links : List ℕ) (users resources n : ℕ) (rows : List ℕ) (b : Bool) (r : Tally) → rows ≡ open_rows k met links users resources
    → b ≡ same_rows n rows k.operations listed → r ≡ counted_with k b → r ≡ closed_with k met listed links users resources n
unfolding closed_with
closed-by k met listed links users resources n rows b r e f g = g ∙ ap (counted_with k) (f ∙ ap (λ t. same_rows n t k.operations listed) e)

-- ---- where commands may stand

module _ (k : Tally) where
  pub close_outside : k.inside ≡ false → true ≡ may_close k
  unfolding may_close
  close_outside e = rw e refl

  pub close_bare : k.inside ≡ true → k.operations ≡ 0 → false ≡ may_close k
  unfolding may_close
  close_bare e z = rw (e, z) refl

  pub close_untold : k.inside ≡ true → k.telling ≡ false → false ≡ may_close k
  unfolding may_close
  close_untold e l = rw (e, l, and-false k.listing) (sym (and-false (not (eqb k.operations 0))))

  pub close_inside : k.inside ≡ true → (k.operations ≡ 0 → ⊥) → k.telling ≡ true → k.listing ≡ may_close k
  unfolding may_close
  close_inside e z l = rw (e, ne_eqb k.operations 0 z, l) (sym (and-true k.listing))

  module _ (met listed links : List ℕ) (users resources n : ℕ) (grid : List ℕ) where
    pub finish-inside : k.inside ≡ true → (closed_with k met listed links users resources n ≡ finished_with k met listed links users resources n) × (added_rows n (open_rows k met links users resources) k.operations grid ≡ finished_grid k met links users resources n grid)
    unfolding finished_with finished_grid
    finish-inside e = (rw e refl, rw e refl)

    pub finish-outside : k.inside ≡ false → (k ≡ finished_with k met listed links users resources n) × (grid ≡ finished_grid k met links users resources n grid)
    unfolding finished_with finished_grid
    finish-outside e = (rw e refl, rw e refl)

  module _ (a : Raw) where
    pub follow-outside : k.inside ≡ false → false ≡ follows_with k a
    unfolding follows_with
    follow-outside e = rw e refl

    pub follow-second : k.inside ≡ true → is_second k a.byte ≡ true → false ≡ follows_with k a
    unfolding follows_with
    follow-second e s = sym (ap₂ (λ (p q : Bool). p && (not q && raw_before k.last a)) e s)

    pub follow-inside : k.inside ≡ true → is_second k a.byte ≡ false → raw_before k.last a ≡ follows_with k a
    unfolding follows_with
    follow-inside e s = sym (ap₂ (λ (p q : Bool). p && (not q && raw_before k.last a)) e s)

-- ---- places and numbers

pub place-low : (side a : ℕ) → a < 6 → 7 * side + a ≡ place_by side a
unfolding place_by
place-low side a h = rw (lt-ltb a 6 h) refl

pub place-own : (side a : ℕ) → 6 ≤ a → 7 * side + 6 ≡ place_by side a
unfolding place_by
place-own side a h = rw (le-ltb a 6 h) refl

pub place-within : (side a : ℕ) → side < 2 → place_by side a < 14
unfolding place_by
place-within side a h = test (ltb a 6) (λ e. rw e (let l = ltb-true a 6 e in omega arith)) (λ e. rw e (omega arith))

pub pair-within : (a b : ℕ) → a < 6 → b < 6 → 6 * a + b ≡ pair_number a b
unfolding pair_number
pair-within a b h k = rw (lt-ltb a 6 h, lt-ltb b 6 k) refl

pub pair-beyond : (a b : ℕ) → a < 6 → 6 ≤ b → 64 ≡ pair_number a b
unfolding pair_number
pair-beyond a b h k = rw (lt-ltb a 6 h, le-ltb b 6 k) refl

pub pair-none : (a b : ℕ) → 6 ≤ a → 64 ≡ pair_number a b
unfolding pair_number
pair-none a b h = rw (le-ltb a 6 h) refl

-- ---- the numbers after a line

module _ (k : Tally) (c : RuleCommand) (line : Raw) (i p m : ℕ) where
  pub noted-value : p ≡ i → m ≡ marked k.asked p → noted_with k c line ≡ tally_with k (marked k.asked i) k.atoms k.operations k.listing k.telling line → tally_with k m k.atoms k.operations k.listing k.telling line ≡ noted_with k c line
  noted-value e f g = ap (λ t. tally_with k t k.atoms k.operations k.listing k.telling line) (f ∙ ap (marked k.asked) e) ∙ sym g

  pub noted-link : p ≡ i → m ≡ marked k.atoms p → noted_with k c line ≡ tally_with k k.asked (marked k.atoms i) k.operations k.listing k.telling line → tally_with k k.asked m k.operations k.listing k.telling line ≡ noted_with k c line
  noted-link e f g = ap (λ t. tally_with k k.asked t k.operations k.listing k.telling line) (f ∙ ap (marked k.atoms) e) ∙ sym g

-- a line that is only the last one
pub noted-other : (k : Tally) (line : Raw) (c : RuleCommand) → ((v : ListedValue) → c ≡ Value v → ⊥) → ((m : ℕ) → c ≡ Operations m → ⊥) → ((t : Atom) → c ≡ Link t → ⊥) → ((j m : ℕ) → c ≡ Part j m → ⊥) → ((l : ℕ) → c ≡ Level l → ⊥)
    → tally_with k k.asked k.atoms k.operations k.listing k.telling line ≡ noted_with k c line
unfolding noted_with
noted-other k line Opens nv nm nl np nt = refl
noted-other k line (Value v) nv nm nl np nt = absurd (nv v refl)
noted-other k line (Operations m) nv nm nl np nt = absurd (nm m refl)
noted-other k line (Link t) nv nm nl np nt = absurd (nl t refl)
noted-other k line (Part j m) nv nm nl np nt = absurd (np j m refl)
noted-other k line (Level l) nv nm nl np nt = absurd (nt l refl)
noted-other k line Ends nv nm nl np nt = refl

module _ (k : Tally) (b : ℕ) where
  pub second-operations : b ≡ 0x26 → not (eqb k.operations 0) ≡ is_second k b
  unfolding is_second
  second-operations e = rw e (sym (or-false (not (eqb k.operations 0))))

  pub second-level : b ≡ 0x29 → k.telling ≡ is_second k b
  unfolding is_second
  second-level e = rw e refl

  pub second_none : (b ≡ 0x26 → ⊥) → (b ≡ 0x29 → ⊥) → false ≡ is_second k b
  unfolding is_second
  second_none e f = rw (ne_eqb b 0x26 e, ne_eqb b 0x29 f) refl

-- ---- the level that a 29 tells

module _ (k : Tally) (a : Raw) where
  pub levelled-other : (a.byte ≡ 0x29 → ⊥) → true ≡ levelled_with k a
  unfolding levelled_with
  levelled-other e = rw (ne_eqb a.byte 0x29 e) refl

  pub levelled-29 : (l : ℕ) (roles numbers : Bool) → a.byte ≡ 0x29 → roles ≡ bit k.asked 6 → numbers ≡ bit k.asked 13 → l ≡ level_for roles numbers → eqb a.first l ≡ levelled_with k a
  unfolding levelled_with
  levelled-29 l roles numbers e p q f = rw (e, f, p, q) refl

-- the table of who meets which attribute's values, with one word stored
pub met-stored : (met : List ℕ) (at who v i j : ℕ) → at ≡ i → who ≡ j → v ≡ mask_of 64 (λ k. bit (get_or met at 0) k || bit who k) → set met at v ≡ met_more met i j
unfolding met_more
met-stored met at who v i j e f g = ap (set met at) g ∙ ap₂ (λ (p q : ℕ). set met p (mask_of 64 (λ k. bit (get_or met p 0) k || bit q k))) e f

-- ---- lines that leave a table as it was

module _ (users resources roles : ℕ) (known values holders met : List ℕ) where
  pub met-other : (c : RuleCommand) → ((v : ListedValue) → c ≡ Value v → ⊥) → met ≡ met_after users resources roles known values holders met c
  unfolding met_after
  met-other Opens h = refl
  met-other (Value v) h = absurd (h v refl)
  met-other (Operations m) h = refl
  met-other (Link t) h = refl
  met-other (Part k m) h = refl
  met-other (Level l) h = refl
  met-other Ends h = refl

module _ (n : ℕ) (holders permissions listed : List ℕ) where
  pub listed-other : (c : RuleCommand) → ((k m : ℕ) → c ≡ Part k m → ⊥) → listed ≡ listed_after n holders permissions listed c
  unfolding listed_after
  listed-other Opens h = refl
  listed-other (Value v) h = refl
  listed-other (Operations m) h = refl
  listed-other (Link t) h = refl
  listed-other (Part k m) h = absurd (h k m refl)
  listed-other (Level l) h = refl
  listed-other Ends h = refl

pub seen-other : (seen : List ℕ) (c : RuleCommand) → ((k m : ℕ) → c ≡ Part k m → ⊥) → seen ≡ seen_by seen c
unfolding seen_by
seen-other seen Opens h = refl
seen-other seen (Value v) h = refl
seen-other seen (Operations m) h = refl
seen-other seen (Link t) h = refl
seen-other seen (Part k m) h = absurd (h k m refl)
seen-other seen (Level l) h = refl
seen-other seen Ends h = refl

pub again-other : (seen again : List ℕ) (c : RuleCommand) → ((k m : ℕ) → c ≡ Part k m → ⊥) → again ≡ again_by seen again c
unfolding again_by
again-other seen again Opens h = refl
again-other seen again (Value v) h = refl
again-other seen again (Operations m) h = refl
again-other seen again (Link t) h = refl
again-other seen again (Part k m) h = absurd (h k m refl)
again-other seen again (Level l) h = refl
again-other seen again Ends h = refl
