-- Assumes nothing.
use Rattle.mine_join.specs.JoinedLaws.{group-first}
use Rattle.mine_join.proofs.prepare.Goals as goal

pub returns : goal.returns
returns c =
    let a = c.args in
    let m = c.widen.ensures 0 0 c.requires.3 in
    record {
      marks = c.requires.2;
      group = group-first a.matches.now a.scratch.now a.c c.widen.new.met c.users_at-users.ensures c.resources_at-resources.ensures m;
      reach = c.mark_open.ensures;
    }
