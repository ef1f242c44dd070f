-- Assumes nothing.
use Prim.Native.Nat.{ℕ, ◌-◌, ◌≤◌, ◌<◌}
use borrow.Author.Rules.{rules}
use lib.ListN.{length, drop, take}
use mathlib.Core.List.{List}
use mathlib.Core.Path.{◌≡◌, sym, ap, ◌∙◌}
use native.Mathlib.Omega.{arith}
use Rattle.std.specs.Prelude.{Result, Ok, Err}
use Rattle.std.proofs.lemmas.Result.{err_from_is_err_and}
use Rattle.files.specs.Cause.{answer_of}
use Rattle.files.specs.declared.refusal.Refusal.{Refusal}
use Rattle.role_file.specs.RoleStateLaws.{tail}
use Rattle.role_record.specs.Cells.{grid_cells}
use Rattle.role_record.specs.Record.{sizes_of, WithinLimits, FewAttributes}
use Rattle.role_record.specs.declared.RoleFile.{RoleFile}
use Rattle.rule_commands.specs.Raw.{Sided}
use Rattle.rule_reading.proofs.ReadsLaws.{reads_begun, within-limits, inside, tables-long, command-bytes, reads_refused, reads_opened, reads_ended, line-within, reads_line, few-attributes}
use Rattle.rule_reading.proofs.RuleStateLaws.{State}
use Rattle.rule_reading.proofs.TurnLaws.{Closing, Lining, turned-refused, turned-opens, turned-ends, turned-line}
use Rattle.rule_reading.specs.Turns.{turn_of}
use Rattle.rule_reading.specs.declared.Turn.{Turn}
use Rattle.rule_notes.specs.LineSteps.{PartWithin}
use Rattle.rule_notes.specs.declared.Tally.{Tally}
use Rattle.rule_file.proofs.read_rules.Goals as goal
use Rattle.rule_file.proofs.read_rules.Goals.{At-loop-w, In-Opens, In-Line}

limits : (c : At-loop-w) → WithinLimits (sizes_of c.args.f)
limits c = within-limits c.requires.0.0 _ _ c.requires.0.1

few : (c : At-loop-w) → FewAttributes c.args.f.attributes
few c = few-attributes c.requires.0.0 _ _ c.requires.0.1

-- the state beside the policy that there is
state : (c : At-loop-w) → State c.requires.0.0 c.args.rules.now c.loop-w.k c.loop-w.met c.loop-w.listed c.loop-w.grid c.loop-w.seen c.loop-w.again c.loop-w.at
state c = c.loop-w.invariant c.requires.0.0 c.requires.0.1

-- the place is not past the end, and there were no more rules than bytes
within : (c : At-loop-w) → (c.loop-w.at ≤ length c.args.rules.now) × (c.loop-w.k.rules ≤ c.loop-w.at)
within c = inside _ _ _ c.requires.0.1 _ _ _ _ _ _ _ _ (state c)

-- the grids have the words of the operations declared
long : (c : At-loop-w) → (length c.loop-w.listed ≡ grid_cells c.args.f.operations) × (length c.loop-w.grid ≡ grid_cells c.args.f.operations)
long c = tables-long _ _ _ c.requires.0.1 _ _ _ _ _ _ _ _ (state c)

-- a turn on the bytes that are left
found : (f : RoleFile) (k : Tally) (source : List ℕ) (at : ℕ) (r : Result Turn Refusal) → r ≡ turn_of k (take (length source - at) (drop at source)) f → r ≡ turn_of k (drop at source) f
found f k source at r e = e ∙ ap (λ (s : List ℕ). turn_of k s f) (tail at source)

-- ---- a 21

opening : (c : In-Opens) → Closing c.loop-w.k (drop c.loop-w.at c.args.rules.now) c.args.f 0x21 c.in-Opens.w
opening c = turned-opens _ _ _ _ (found c.args.f _ c.args.rules.now c.loop-w.at _ c.next_turn.ensures) _ (c.in_ok-w.was ∙ ap Ok c.in-Opens.is)

-- its bytes are there
opening-bytes : (c : In-Opens) → (0 < c.in-Opens.w) × (c.in-Opens.w ≤ length c.args.rules.now - c.loop-w.at)
opening-bytes c = command-bytes _ _ _ c.requires.0.1 _ _ _ _ _ _ _ _ (c.loop-w.invariant c.requires.0.0 c.requires.0.1) _ _ (opening c).front

-- ---- a line

lining : (c : In-Line) → Lining c.loop-w.k (drop c.loop-w.at c.args.rules.now) c.args.f c.in-Line.c c.in-Line.line c.in-Line.w
lining c = turned-line _ _ _ _ (found c.args.f _ c.args.rules.now c.loop-w.at _ c.next_turn.ensures) _ _ _ (c.in_ok-w.was ∙ ap Ok c.in-Line.is)

-- its bytes are there
line-bytes : (c : In-Line) → (0 < c.in-Line.w) × (c.in-Line.w ≤ length c.args.rules.now - c.loop-w.at)
line-bytes c = command-bytes _ _ _ c.requires.0.1 _ _ _ _ _ _ _ _ (c.loop-w.invariant c.requires.0.0 c.requires.0.1) _ _ (lining c).front

-- its numbers are within the tables
lined : (c : In-Line) → Sided c.in-Line.c × PartWithin c.in-Line.c
lined c = line-within _ _ _ c.requires.0.1 _ _ _ _ _ _ _ _ (c.loop-w.invariant c.requires.0.0 c.requires.0.1) _ _ _ (lining c)

-- ---- the answers

pub loop-w-init : goal.loop-w-init
loop-w-init c =
    λ F v. reads_begun F _ _ v _ c.begun-k.result c.args.listed.now c.args.grid.now _ _ c.begun-k.ensures c.requires.1 c.requires.2 c.clear.ensures c.clear-2.ensures

pub slice_bounds-next_turn-count : goal.slice_bounds-next_turn-count
slice_bounds-next_turn-count c = let i = within (goal.at.slice_bounds-next_turn-count c).At-loop-w in omega (arith, i)

pub slice_bounds-next_turn-start : goal.slice_bounds-next_turn-start
slice_bounds-next_turn-start c = let i = within (goal.at.slice_bounds-next_turn-start c).At-loop-w in omega (arith, i)

pub slice_bounds-next_turn-end : goal.slice_bounds-next_turn-end
slice_bounds-next_turn-end c = let i = within (goal.at.slice_bounds-next_turn-end c).At-loop-w in omega (arith, i)

pub next_turn-requires : goal.next_turn-requires
next_turn-requires c = (limits (goal.at.next_turn-requires c).At-loop-w, few (goal.at.next_turn-requires c).At-loop-w)

pub shape_of-listed-in_err-w : goal.shape_of-listed-in_err-w
shape_of-listed-in_err-w c = (long (goal.at.shape_of-listed-in_err-w c).At-loop-w).0 ∙ sym c.requires.1

pub shape_of-grid-in_err-w : goal.shape_of-grid-in_err-w
shape_of-grid-in_err-w c = (long (goal.at.shape_of-grid-in_err-w c).At-loop-w).1 ∙ sym c.requires.2

pub returns-in_err-w : goal.returns-in_err-w
returns-in_err-w c =
    let p = err_from_is_err_and c.from_residual.result c.from_residual.ensures.1 in
    let why = turned-refused _ _ _ _ (found c.args.f _ c.args.rules.now c.loop-w.at _ c.next_turn.ensures) _ c.in_err-w.was in
    λ F v. let r = reads_refused F _ _ v _ _ _ _ _ _ _ _ (c.loop-w.invariant F v) _ why _ in (ap answer_of (p.1 ∙ ap Err p.2) ∙ r.0, r.1)

pub overflow_add-at : goal.overflow_add-at
overflow_add-at c =
    let a = opening-bytes (goal.at.overflow_add-at c).In-Opens in
    let i = within (goal.at.overflow_add-at c).At-loop-w in
    omega (arith, a, i, c.well_formed)

pub finish-k-requires : goal.finish-k-requires
finish-k-requires c =
    let h = (goal.at.finish-k-requires c).At-loop-w in
    let a = opening-bytes (goal.at.finish-k-requires c).In-Opens in
    let i = within h in
    (limits h, omega (arith, a, i, c.well_formed), (long h).0, (long h).1)

pub loop-w-smaller-in-Opens : goal.loop-w-smaller-in-Opens
loop-w-smaller-in-Opens c = let a = opening-bytes (goal.at.loop-w-smaller-in-Opens c).In-Opens in omega (arith, a)

pub loop-w-preserved-in-Opens : goal.loop-w-preserved-in-Opens
loop-w-preserved-in-Opens c =
    λ F v. reads_opened F _ _ v _ _ _ _ _ _ _ _ (c.loop-w.invariant F v) c.finish-k.result _ c.finish-k.ensures.0 c.finish-k.ensures.1 _ (opening (goal.at.loop-w-preserved-in-Opens c).In-Opens) c.opened-k.result _ c.opened-k.ensures c.clear-in-Opens.ensures

pub finish-k-requires-in-Ends : goal.finish-k-requires-in-Ends
finish-k-requires-in-Ends c =
    let h = (goal.at.finish-k-requires-in-Ends c).At-loop-w in
    let ending = turned-ends _ _ _ _ (found c.args.f _ c.args.rules.now c.loop-w.at _ c.next_turn.ensures) (c.in_ok-w.was ∙ ap Ok c.in-Ends.is) in
    let a = command-bytes _ _ _ c.requires.0.1 _ _ _ _ _ _ _ _ (state h) _ _ ending.front in
    let i = within h in
    (limits h, omega (arith, a, i, c.well_formed), (long h).0, (long h).1)

pub shape_of-listed-in-Ends : goal.shape_of-listed-in-Ends
shape_of-listed-in-Ends c = (long (goal.at.shape_of-listed-in-Ends c).At-loop-w).0 ∙ sym c.requires.1

pub shape_of-grid-in-Ends : goal.shape_of-grid-in-Ends
shape_of-grid-in-Ends c =
    let l = (long (goal.at.shape_of-grid-in-Ends c).At-loop-w).1 in
    let p = c.requires.2 in
    search rules

pub returns-in-Ends : goal.returns-in-Ends
returns-in-Ends c =
    let ending = turned-ends _ _ _ _ (found c.args.f _ c.args.rules.now c.loop-w.at _ c.next_turn.ensures) (c.in_ok-w.was ∙ ap Ok c.in-Ends.is) in
    λ F v. reads_ended F _ _ v _ _ _ _ _ _ _ _ (c.loop-w.invariant F v) c.finish-k-in-Ends.result _ c.finish-k-in-Ends.ensures.0 c.finish-k-in-Ends.ensures.1 ending

pub overflow_add-at-in-Line : goal.overflow_add-at-in-Line
overflow_add-at-in-Line c =
    let a = line-bytes (goal.at.overflow_add-at-in-Line c).In-Line in
    let i = within (goal.at.overflow_add-at-in-Line c).At-loop-w in
    omega (arith, a, i, c.well_formed)

pub note-k-requires : goal.note-k-requires
note-k-requires c = (lined (goal.at.note-k-requires c).In-Line).0

pub meet_line-requires : goal.meet_line-requires
meet_line-requires c = ((lined (goal.at.meet_line-requires c).In-Line).0, limits (goal.at.meet_line-requires c).At-loop-w)

pub join_part-requires : goal.join_part-requires
join_part-requires c =
    let h = (goal.at.join_part-requires c).At-loop-w in
    ((lined (goal.at.join_part-requires c).In-Line).1, (limits h).2, (long h).0)

pub list_part-requires : goal.list_part-requires
list_part-requires c = (lined (goal.at.list_part-requires c).In-Line).1

pub loop-w-smaller : goal.loop-w-smaller
loop-w-smaller c = let a = line-bytes (goal.at.loop-w-smaller c).In-Line in omega (arith, a)

pub loop-w-preserved : goal.loop-w-preserved
loop-w-preserved c =
    λ F v. reads_line F _ _ v _ _ _ _ _ _ _ _ (c.loop-w.invariant F v) _ _ _ (lining (goal.at.loop-w-preserved c).In-Line) c.note-k.result _ _ _ _ c.note-k.ensures c.meet_line.ensures c.join_part.ensures c.list_part.ensures.0 c.list_part.ensures.1
