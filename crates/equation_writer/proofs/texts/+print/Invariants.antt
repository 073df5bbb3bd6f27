use Rattle.std.proofs.Common.{◌≡◌, ◌++◌, drop}
use Rattle.std.specs.Prelude.{◌==◌}
use Rattle.st_form.specs.Plain.{plain_list}
use Rattle.equation_writer.specs.Texts.{joined_text, from_part}
use Rattle.equation_writer.proofs.texts.+print.Given as goal

abbrev pub invariant-push_joined-loop-part : goal.invariant-push_joined-loop-part
invariant-push_joined-loop-part l = record {
  tells : l.first ≡ (l.part-index == 0);
  same : l.out.items ++ from_part l.names l.sign l.empty l.first (plain_list (drop l.part-index l.parts)) ≡ l.fn.out.items ++ joined_text l.names l.sign l.empty (plain_list l.parts);
}
