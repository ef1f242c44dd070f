-- The roles listed lie within the memory that is lent. Assumes nothing.
use Rattle.std.proofs.Common.{length, length-take-le, ◌≤◌, ◌≡◌, ℕ, List, arith}
use Rattle.files.specs.Answer.{accepted, map_answer}
use Rattle.files.specs.Calls.{circle_answer}
use Rattle.files.proofs.AnswerLaws.{map-accepted}
use Rattle.files.proofs.CircleCallLaws.{circle_listed}
use Rattle.circle.proofs.answer.Goals as goal

-- no more roles are listed than there is room for
listed-within : (file : List ℕ) (room n : ℕ) → accepted n ≡ map_answer length (circle_answer 2 file room) → n ≤ room
listed-within file room n h =
    let t = map-accepted length n (circle_answer 2 file room) h in
    let fits = (circle_listed 2 file room t.value t.is).3 in
    let counted = t.made in
    omega (arith, fits, counted)

pub slice_bounds-roles-end : goal.slice_bounds-roles-end
slice_bounds-roles-end c = let l = listed-within c.args.file.now _ c.in-Ok.n c.in-Ok.ensures.0 in omega (arith, l)

pub slice_bounds-say_circle-end : goal.slice_bounds-say_circle-end
slice_bounds-say_circle-end c =
    let l = listed-within c.args.file.now _ c.in-Ok.n c.in-Ok.ensures.0 in
    let whole = length-take-le c.in-Ok.n c.circle.new.out (omega (arith, l)) in
    omega (arith, whole)
