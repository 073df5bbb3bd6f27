use Rattle.std.proofs.Common.{refl}
use Rattle.spl_parser.specs.ProgramTree.{program_view}
use Rattle.posed_conditions.proofs.Translating.{all_named, few_variables}
use Rattle.posed_conditions.proofs.translated.translate_raw.Goals as goal

pub returns-clause-made : goal.returns-clause-made
returns-clause-made c =
    let tree = program_view c.args.raw.now in
    record {
      made = record {
        tree = tree;
        types = c.in-Ok.ensures;
        system = c.in_ok-system.ensures.exact;
        control = c.in_ok-components.ensures.facts;
        owned = c.in_ok-components.ensures.each;
        owners = c.in_ok-components.ensures.named;
        named = all_named tree _ c.in-Ok.ensures;
        few = few_variables tree _ c.in-Ok.ensures;
      };
      same = refl;
    }
