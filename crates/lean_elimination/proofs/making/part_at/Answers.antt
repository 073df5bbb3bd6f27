use Rattle.std.proofs.Common.{sym, ap, ◌∙◌, arith, ◌^◌}
use Rattle.elimination_laws.specs.Mixing.{part, part_of}
use Rattle.lean_elimination.proofs.Growing.{row-is}
use Rattle.lean_elimination.proofs.Narrowing.{to_z-narrow}
use Rattle.lean_elimination.proofs.making.part_at.Goals as goal

pub returns-clause-value : goal.returns-clause-value
returns-clause-value c =
    to_z-narrow (2 ^ 62) c.part.result (omega arith) c.part.ensures.within ∙ c.part.ensures.value ∙ ap (part c.args.var) c.as_slice.ensures
    ∙ sym (ap (part_of c.args.var) (row-is c.args.arena.now.rows.items c.args.k c.index.result.now c.requires c.index.ensures))
