use Rattle.std.proofs.Common.{◌∙◌, subst, sym}
use Rattle.certificate_unfolding.specs.Texts.{Written}
use Rattle.certificate_unfolding.proofs.Counting.{certificates-in, large-in}
use Rattle.certificate_unfolding.proofs.Spelling.{told-by}
use Rattle.certificate_unfolding.proofs.texts.version_2.Goals as goal

pub returns-in-Some : goal.returns-in-Some
returns-in-Some c =
    sym (large-in c.args.table.now _ _ _ c.as_slice-nodes.ensures.value c.as_slice-roots.ensures.value (c.as_slice.ensures.value ∙ c.in_ok-sizes.ensures)) ∙ sym c.first_large.ensures ∙ c.in-Some.is

pub returns : goal.returns
returns c =
    told-by c.blocks-in-None.result _
    (sym (large-in c.args.table.now _ _ _ c.as_slice-nodes.ensures.value c.as_slice-roots.ensures.value (c.as_slice.ensures.value ∙ c.in_ok-sizes.ensures)) ∙ sym c.first_large.ensures ∙ c.in-None.is)
    (subst (Written c.blocks-in-None.result) (certificates-in c.args.table.now _ _ c.as_slice-nodes.ensures.value c.as_slice-roots.ensures.value) c.blocks-in-None.ensures)
