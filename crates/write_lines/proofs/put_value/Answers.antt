-- Assumes nothing.
use lib.ListN.{length}
use native.Mathlib.Omega.{arith}
use Rattle.write_lines.proofs.ValueLineLaws.{command-byte, ten_room, four_room, ten_written, four_written}
use Rattle.mine_theory.proofs.Lines.RuleLinesLaws.{attribute-byte}
use Rattle.role_record.specs.Places.{place_side, place_attribute}
use Rattle.write_lines.proofs.put_value.Goals as goal

pub put_ten-requires : goal.put_ten-requires
put_ten-requires c =
    let a = c.args in
    let p = command-byte (place_side a.place) a.set in
    let q = attribute-byte a.place in
    let e = c.command_at-command.ensures in
    let f = c.attribute_at-attribute.ensures in
    (ten_room (place_side a.place) (place_attribute a.place) a.v a.set (length a.out.now) c.if-set.true c.requires, omega arith, omega arith)

pub returns-then-set : goal.returns-then-set
returns-then-set c =
    let a = c.args in
    ten_written (place_side a.place) (place_attribute a.place) a.v c.command_at-command.result c.attribute_at-attribute.result _ a.out.now a.set c.if-set.true c.command_at-command.ensures c.attribute_at-attribute.ensures c.put_ten.ensures

pub put_four-requires : goal.put_four-requires
put_four-requires c =
    let a = c.args in
    let p = command-byte (place_side a.place) a.set in
    let q = attribute-byte a.place in
    let e = c.command_at-command.ensures in
    let f = c.attribute_at-attribute.ensures in
    (four_room (place_side a.place) (place_attribute a.place) a.v a.set (length a.out.now) c.if-set.false c.requires, omega arith, omega arith)

pub returns : goal.returns
returns c =
    let a = c.args in
    four_written (place_side a.place) (place_attribute a.place) a.v c.command_at-command.result c.attribute_at-attribute.result _ a.out.now a.set c.if-set.false c.command_at-command.ensures c.attribute_at-attribute.ensures c.put_four.ensures
