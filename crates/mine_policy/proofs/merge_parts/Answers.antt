-- Assumes nothing.
use Rattle.write_answer.proofs.AssemblyLaws.{distinct-so, having-so, tables-so, kept-so}
use Rattle.role_record.specs.Record.{record_of}
use Rattle.mine_policy.proofs.merge_parts.Goals as goal

pub merge-merges-requires : goal.merge-merges-requires
merge-merges-requires c =
    c.requires

pub kept_places-requires : goal.kept_places-requires
kept_places-requires c =
    let p = c.requires in
    (p.0.0, p.0.1, c.merge-merges.ensures.1.room)

pub shape_of-scratch : goal.shape_of-scratch
shape_of-scratch c = c.merge-merges.ensures.0

pub returns : goal.returns
returns c =
    let a = c.args in
    let p = c.requires in (
      c.merge-merges.ensures.0,
      c.merge-merges.ensures.1,
      λ F Z M.
          let d = distinct-so F a.known.now a.kinds.now a.domains.now a.attributes.now a.holders.now a.permissions.now a.distinct.now a.having.now a.sizes.users a.sizes.resources a.sizes.operations a.sizes.roles M in
          let h = having-so F a.known.now a.kinds.now a.domains.now a.attributes.now a.holders.now a.permissions.now a.distinct.now a.having.now a.sizes.users a.sizes.resources a.sizes.operations a.sizes.roles M in
          let of-links = c.links.ensures a.known.now (record_of F).values a.holders.now a.sizes.users a.sizes.roles d h in
          let of-matched = c.matches.ensures a.known.now (record_of F).values a.holders.now a.sizes.users a.sizes.resources a.sizes.roles p.0.0 p.0.1 c.known_places.ensures d h in
          let w = c.merge-merges.ensures.2 F Z (tables-so F a.known.now a.kinds.now a.domains.now a.attributes.now a.holders.now a.permissions.now a.distinct.now a.having.now a.sizes.users a.sizes.resources a.sizes.operations a.sizes.roles M _ _ _ of-links of-matched c.known_places.ensures) in
          (w.0, w.1, kept-so F a.known.now a.kinds.now a.domains.now a.attributes.now a.holders.now a.permissions.now a.distinct.now a.having.now a.sizes.users a.sizes.resources a.sizes.operations a.sizes.roles M _ _ _ of-links of-matched c.known_places.ensures c.kept_places.new.out c.merge-merges.new.starts _ c.kept_places.ensures),
    )
