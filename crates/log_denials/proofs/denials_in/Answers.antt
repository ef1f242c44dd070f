-- Assumes nothing.
use Rattle.std.proofs.Common.{List, ℕ, ◌-◌, take, sym, ap, ◌∙◌, arith}
use Rattle.std.proofs.lemmas.Result.{err_from_is_err_and}
use Rattle.files.specs.Cause.{cause}
use Rattle.grant_grids.specs.Grid.{in_grid}
use Rattle.log_windows.specs.Counting.{counted_of}
use Rattle.role_record.specs.Cells.{grid_cells}
use Rattle.role_record.specs.Record.{WithinLimits, sizes_of}
use Rattle.role_record.specs.declared.Sizes.{Sizes}
use Rattle.rule_file.specs.LegalLaws.{both-accepted}
use Rattle.rule_file.specs.OpenedLaws.{first-words, first-long}
use Rattle.log_denials.specs.DenialsLaws.{files-refused, no_window, ragged, whole}
use Rattle.log_denials.proofs.denials_in.Goals as goal
use Rattle.log_denials.proofs.denials_in.Goals.{In_ok-b}

-- the sizes are within the limits
limits : (c : In_ok-b) → WithinLimits (sizes_of c.in_ok-b.b.file)
limits c = (both-accepted c.args.file.now c.args.rules.now c.in_ok-b.b c.in_ok-b.ensures.0).sizes

pub returns-in_err-b : goal.returns-in_err-b
returns-in_err-b c =
    let p = err_from_is_err_and c.from_residual.result c.from_residual.ensures.1 in
    let a = c.args in
    rw (p.1, p.2) (files-refused a.file.now a.rules.now a.log.now a.window _ c.in_err-b.ensures.0)

pub returns-then-not-fits : goal.returns-then-not-fits
returns-then-not-fits c =
    let a = c.args in
    no_window a.file.now a.rules.now a.log.now a.window c.in_ok-b.b c.in_ok-b.ensures.0 (sym c.fits.ensures ∙ c.if-not-fits.true)

pub returns-then-log-ne0 : goal.returns-then-log-ne0
returns-then-log-ne0 c =
    let a = c.args in
    ragged a.file.now a.rules.now a.log.now a.window c.in_ok-b.b c.in_ok-b.ensures.0 (sym c.fits.ensures ∙ c.if-not-fits.false) c.if-log-ne0.true

pub overflow_mul-words : goal.overflow_mul-words
overflow_mul-words c = let few = (limits (goal.at.overflow_mul-words c).In_ok-b).2 in omega (arith, few)

pub slice_bounds-count-end : goal.slice_bounds-count-end
slice_bounds-count-end c =
    let few = (limits (goal.at.slice_bounds-count-end c).In_ok-b).2 in
    let long = c.requires in
    omega (arith, few, long.0, long.1)

pub count-requires : goal.count-requires
count-requires c =
    let few = limits (goal.at.count-requires c).In_ok-b in
    let long = c.requires in
    rw c.sizes.ensures (few.0, first-long _ _ (omega (arith, few.2, long.0, long.1)))

pub returns : goal.returns
returns c =
    let a = c.args in
    let b = c.in_ok-b.b in
    let words = c.read_into.new.grid in
    let n = grid_cells b.file.operations in
    whole a.file.now a.rules.now a.log.now a.window b c.in_ok-b.ensures.0 (sym c.fits.ensures ∙ c.if-not-fits.false) c.if-log-ne0.false words c.in_ok-b.ensures.1 c.count.result
    (c.count.ensures ∙ ap (λ (s : Sizes). counted_of (in_grid (take (n - 0) words)) s a.log.now a.window) c.sizes.ensures
    ∙ ap (λ (g : List ℕ). counted_of (in_grid g) (sizes_of b.file) a.log.now a.window) (first-words n words))
