-- By the sort of the draws. Assumes nothing.
use Prim.Native.Nat.{ℕ}
use mathlib.Core.List.{List}
use mathlib.Core.Path.{◌≡◌, sym, subst}
use native.Mathlib.Omega.{arith}
use Rattle.load_bytes.specs.Putting.{Put}
use Rattle.load_lines.specs.DrawnLines.{line_of, Fits}
use Rattle.load_lines.specs.declared.Draws.{Draws}
use Rattle.load_lines.proofs.line.Goals as goal

-- what holds of the draws handed in holds of their sort, and the other way round
fitting : (i : ℕ) {d e : Draws} → d ≡ e → Fits d i → Fits e i
fitting i p f = subst (λ (x : Draws). Fits x i) p f

putting : (i x at r : ℕ) (out out' : List ℕ) {d e : Draws} → d ≡ e → Put (line_of e i x) out at out' r → Put (line_of d i x) out at out' r
putting i x at r out out' p h = subst (λ (y : Draws). Put (line_of y i x) out at out' r) (sym p) h

pub value_line-requires : goal.value_line-requires
value_line-requires c =
    let f = fitting c.args.i c.in-Values.is c.requires.0 in
    (f.0, f.1, c.requires.1)

pub user_line-requires : goal.user_line-requires
user_line-requires c =
    let f = fitting c.args.i c.in-Users.is c.requires.0 in
    (f.0, f.1, c.requires.1)

pub operation_line-requires : goal.operation_line-requires
operation_line-requires c =
    let f = fitting c.args.i c.in-Operations.is c.requires.0 in
    (f.0, f.1, f.2, c.requires.1)

pub overflow_add-junior : goal.overflow_add-junior
overflow_add-junior c =
    let f = (fitting c.args.i c.in-Seniors.is c.requires.0).0 in
    omega (arith, f)

pub overflow_add-junior-in-Seniors : goal.overflow_add-junior-in-Seniors
overflow_add-junior-in-Seniors c =
    let f = (fitting c.args.i c.in-Seniors.is c.requires.0).1 in
    omega (arith, f)

pub senior_line-requires : goal.senior_line-requires
senior_line-requires c =
    let f = fitting c.args.i c.in-Seniors.is c.requires.0 in
    let g = f.1 in
    (f.0, omega (arith, g), c.requires.1)

pub returns-in-Values : goal.returns-in-Values
returns-in-Values c =
    let a = c.args in
    putting a.i a.x a.at _ a.out.now _ c.in-Values.is c.value_line.ensures

pub returns-in-Users : goal.returns-in-Users
returns-in-Users c =
    let a = c.args in
    putting a.i a.x a.at _ a.out.now _ c.in-Users.is c.user_line.ensures

pub returns-in-Operations : goal.returns-in-Operations
returns-in-Operations c =
    let a = c.args in
    putting a.i a.x a.at _ a.out.now _ c.in-Operations.is c.operation_line.ensures

pub returns-in-Seniors : goal.returns-in-Seniors
returns-in-Seniors c =
    let a = c.args in
    putting a.i a.x a.at _ a.out.now _ c.in-Seniors.is c.senior_line.ensures
