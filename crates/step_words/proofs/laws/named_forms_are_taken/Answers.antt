use Rattle.step_words.proofs.NamedForms.{named_forms}
use Rattle.step_words.proofs.laws.named_forms_are_taken.Goals as goal

pub returns : goal.returns
returns c = named_forms
