-- What drawings are made of: marks, formulas behind ":", and what may follow a formula.
use Rattle.std.proofs.Common.{◌≡◌, ℕ, ◌+◌, Bool, true, List, [], ◌∷◌, Ok, Err, refl}
use Rattle.std.specs.Prelude.{codes}
use Rattle.st_tokens.specs.Stream.{Lexeme, IsSpelled}
use Rattle.st_reading.specs.declared.mark.Mark.TheVariants as marks
use Rattle.st_reading.specs.declared.sign.Sign.{Sign}
use Rattle.st_reading.specs.declared.sign.Sign.TheVariants as signs
use Rattle.st_reading.specs.Mark.{number}
use Rattle.st_reading.specs.Sign.{is, declaring_word, basic_word, compound_word, step_word, rule_word, drawing_word}
use Rattle.st_reading.specs.Reading.{syntax}
use Rattle.st_reading.specs.Breaches.{Breach}
use Rattle.st_reading.specs.Spelling.{Is}
use Rattle.st_reading.specs.Steady.{Within, moves, wider, anything}
use Rattle.st_reading.proofs.Tokens.{among, but, marks_within}
use Rattle.st_reading.proofs.LawfulPhrases.{LawfulPhrase, mark_lawful}
use Rattle.st_form.specs.Formula.{Formula}
use Rattle.temporal_goals.specs.Texts.{PlainDrawnNode, PlainEdge}
use Rattle.diagram_reader.specs.Drawn.{Drawing, with_edge, with_node, with_terminal}
use Rattle.expression_parser.specs.Calm.{calm}
use Rattle.expression_parser.proofs.FormulaTheorems.{quiet}
use Rattle.script_grammar.specs.RawScripts.{RawItem, raw_terminal, raw_node, raw_edge}
use Rattle.script_grammar.proofs.RawReferences.{no_dot}
use Rattle.script_grammar.proofs.JudgedItems.{keyword}
use Rattle.script_grammar.proofs.JudgedBrackets.{symbol}
use Rattle.script_grammar.proofs.Citations.{step_end, step_end_within}
use Rattle.script_grammar.proofs.NamedSteps.{colon_token, colon_spelled, colon_is}

abbrev pub colon_mark : LawfulPhrase Breach ℕ (among (marks.Colon ∷ [])) anything
colon_mark = mark_lawful marks.Colon colon_token colon_spelled colon_is (rw colon_is refl)

abbrev pub terminal_token : Lexeme
terminal_token = keyword (codes "terminal")

pub terminal_spelled : IsSpelled terminal_token
terminal_spelled = refl

pub terminal_is : Is marks.Terminal terminal_token
unfolding number declaring_word basic_word compound_word step_word rule_word drawing_word
terminal_is = refl

abbrev pub terminal_mark : LawfulPhrase Breach ℕ (among (marks.Terminal ∷ [])) anything
terminal_mark = mark_lawful marks.Terminal terminal_token terminal_spelled terminal_is (rw terminal_is refl)

abbrev pub node_token : Lexeme
node_token = keyword (codes "node")

pub node_spelled : IsSpelled node_token
node_spelled = refl

pub node_is : Is marks.Node node_token
unfolding number declaring_word basic_word compound_word step_word rule_word drawing_word
node_is = refl

abbrev pub node_mark : LawfulPhrase Breach ℕ (among (marks.Node ∷ [])) anything
node_mark = mark_lawful marks.Node node_token node_spelled node_is (rw node_is refl)

abbrev pub edge_token : Lexeme
edge_token = keyword (codes "edge")

pub edge_spelled : IsSpelled edge_token
edge_spelled = refl

pub edge_is : Is marks.Edge edge_token
unfolding number declaring_word basic_word compound_word step_word rule_word drawing_word
edge_is = refl

abbrev pub edge_mark : LawfulPhrase Breach ℕ (among (marks.Edge ∷ [])) anything
edge_mark = mark_lawful marks.Edge edge_token edge_spelled edge_is (rw edge_is refl)

abbrev pub arrow_token : Lexeme
arrow_token = symbol (codes "->")

pub arrow_spelled : IsSpelled arrow_token
arrow_spelled = refl

pub arrow_is : Is marks.Implies arrow_token
unfolding number
arrow_is = refl

abbrev pub arrow_mark : LawfulPhrase Breach ℕ (among (marks.Implies ∷ [])) anything
arrow_mark = mark_lawful marks.Implies arrow_token arrow_spelled arrow_is (rw arrow_is refl)

abbrev pub on_token : Lexeme
on_token = keyword (codes "on")

pub on_spelled : IsSpelled on_token
on_spelled = refl

pub on_is : Is marks.On on_token
unfolding number declaring_word basic_word compound_word step_word rule_word drawing_word
on_is = refl

abbrev pub on_mark : LawfulPhrase Breach ℕ (among (marks.On ∷ [])) anything
on_mark = mark_lawful marks.On on_token on_spelled on_is (rw on_is refl)

abbrev pub opening_token : Lexeme
opening_token = symbol (codes "{")

pub opening_spelled : IsSpelled opening_token
opening_spelled = refl

pub opening_is : Is marks.OpenBrace opening_token
unfolding number
opening_is = refl

abbrev pub opening_mark : LawfulPhrase Breach ℕ (among (marks.OpenBrace ∷ [])) anything
opening_mark = mark_lawful marks.OpenBrace opening_token opening_spelled opening_is (rw opening_is refl)

abbrev pub ending_token : Lexeme
ending_token = symbol (codes "}")

pub ending_spelled : IsSpelled ending_token
ending_spelled = refl

pub ending_is : Is marks.CloseBrace ending_token
unfolding number
ending_is = refl

abbrev pub ending_mark : LawfulPhrase Breach ℕ (among (marks.CloseBrace ∷ [])) anything
ending_mark = mark_lawful marks.CloseBrace ending_token ending_spelled ending_is (rw ending_is refl)

-- what may follow a formula or a transition
pub semicolon_calm : calm (signs.Marked marks.Semicolon) ≡ true
unfolding number calm
semicolon_calm = refl

pub end_calm : Within step_end calm
end_calm = step_end_within calm semicolon_calm quiet

pub end_undotted : Within step_end no_dot
unfolding number
end_undotted = step_end_within no_dot refl refl

pub end_not_helper : Within step_end (but marks.Helper)
unfolding number
end_not_helper = step_end_within (but marks.Helper) refl refl

pub semicolon_only_calm : Within (among (marks.Semicolon ∷ [])) calm
unfolding number calm
semicolon_only_calm = marks_within calm (marks.Semicolon ∷ []) refl

-- what is drawn then
abbrev pub Adds : Drawing → RawItem → Drawing → Type 0
Adds d (raw_terminal place u) y = (f : Formula) × (y ≡ with_terminal f d)
Adds d (raw_node place n) y = (x : PlainDrawnNode) × (y ≡ with_node x d) × (x.number ≡ n.number.number)
Adds d (raw_edge place e) y = (x : PlainEdge) × (y ≡ with_edge x d)
