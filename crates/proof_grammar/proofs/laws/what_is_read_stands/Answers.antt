use Rattle.proof_grammar.proofs.Growing.{nothing_stands, lines_stand, comments_add_nothing, standing_is_spelled, scripts_go_on}
use Rattle.proof_grammar.proofs.laws.what_is_read_stands.Goals as goal

pub returns-clause-nothing : goal.returns-clause-nothing
returns-clause-nothing c = nothing_stands

pub returns-clause-lines : goal.returns-clause-lines
returns-clause-lines c = lines_stand

pub returns-clause-comments : goal.returns-clause-comments
returns-clause-comments c = comments_add_nothing

pub returns-clause-spelled : goal.returns-clause-spelled
returns-clause-spelled c = standing_is_spelled

pub returns-clause-longer : goal.returns-clause-longer
returns-clause-longer c = scripts_go_on
