use Rattle.text_layouts.proofs.Layouts.{marks_snoc, tokens_snoc}
use Rattle.text_layouts.proofs.scanning.push.Goals as goal

pub returns-clause-tokens : goal.returns-clause-tokens
returns-clause-tokens c = tokens_snoc _ _ _ c.in_ok-push.ensures.items

pub returns-clause-bytes : goal.returns-clause-bytes
returns-clause-bytes c = marks_snoc _ _ _ c.in_ok-push.ensures.items
