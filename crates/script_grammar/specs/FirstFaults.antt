-- The first fault of a part of a script that is read as a whole text: a rule that is broken in what begins it, or else where the
-- grammar doesn't go on.
use Rattle.std.specs.Prelude.{◌≡◌, ◌↔◌, ℕ, true, nat_lt, List, Err}
use Rattle.st_tokens.specs.Stream.{Lexeme, Stream, text_stream}
use Rattle.st_reading.specs.Reading.{Stop, syntax, broken, other, whole}
use Rattle.st_reading.specs.declared.mark.Mark.TheVariants as marks
use Rattle.st_reading.specs.Spelling.{OneName}
use Rattle.st_reading.specs.Phrases.{After}
use Rattle.st_reading.specs.Breaches.{Breach, Reader}
use Rattle.st_reading.specs.BrokenRules.{Broken, BreaksAt, StopsAt}
use Rattle.temporal_goals.specs.Texts.{PlainDrawnNode, PlainStep}
use Rattle.temporal_goals.specs.declared.diagrams.DiagramKind.{DiagramKind}
use Rattle.diagram_reader.specs.Drawing.{diagram_of, known_of, new_number_of}
use Rattle.diagram_reader.specs.Drawn as diagrams
use Rattle.proof_script.specs.Faults.{drawn}
use Rattle.proof_script.specs.Listing.{Setting, behind_mark, bracketed, compassionate_of, formula_of, just_of, listed_formula_of, sum_of, transition_of}
use Rattle.proof_script.specs.Rules.{fair_of, helped_of, nested_node_of, node_of, ranked_of, rule_of}
use Rattle.proof_script.specs.Script.{script_spelled}
use Rattle.proof_script.specs.Steps.{cited_of, earlier_of, invariance_of, new_name_of, response_of, step_of}
use Rattle.proof_script.specs.declared.steps.Claim.TheVariants as claims
use Rattle.script_grammar.specs.Drawings.{IsNumeral, IsRawDrawing, IsReference, IsUnit}
use Rattle.script_grammar.specs.Grammar.{InBrackets, IsRawFair, IsRawHelped, IsRawInvariance, IsRawNamed, IsRawNestedNode, IsRawNode, IsRawRanked, IsRawResponse, IsRawRule, IsRawScript, IsRawWaiting}
use Rattle.script_grammar.specs.Sizes.{fair_size, helped_size, nested_node_size, node_size, ranked_size}
use Rattle.script_grammar.specs.Breaking.{listed_rules}
use Rattle.script_grammar.specs.Rules.{broken_rules, cited_rules, claim_rules, drawing_rules, fair_rules, form_rules, group_rules, helped_rules, helper_rules, known_rules, listed_form_rules, name_rules, nested_node_rules, new_number_rules, node_rules, ranked_rules, rule_rules, step_rules, sum_rules, transition_rules}
use Rattle.script_grammar.specs.Theorems.{Forms, Sums}

-- a fault that the grammar alone has
abbrev pub IsSyntactic : Stop Breach → Type 0
IsSyntactic (syntax place) = Unit {0}
IsSyntactic (broken f) = Unit {0}
IsSyntactic (other breach) = ⊥

-- texts of a language, whose trees break these rules
module _ {A : Type 0} (L : List Lexeme → A → Type 0) (judge : A → List (Broken Breach)) where
  pub data IsFirstFault (s : Stream) : Stop Breach → Type 0 where
    breaks_rule : (breach : Breach) → BreaksAt L judge s breach → IsFirstFault s (other breach)
    goes_no_further : (f : Stop Breach) → StopsAt L judge IsSyntactic s f → IsFirstFault s f

  -- a reader stops exactly at the first fault
  abbrev pub StopsAtFirst : {B : Type 0} → Reader B → Type 0
  StopsAtFirst read = (s : Stream) (f : Stop Breach) → (whole read s ≡ Err f) ↔ IsFirstFault s f

-- A transition by its name, a helper, and a group. A label alone is judged where no "." follows.
abbrev pub TransitionsFirstFault : Type 0
TransitionsFirstFault = (g : Setting) → StopsAtFirst IsReference (transition_rules g 0) (transition_of g)

abbrev pub HelpersFirstFault : Type 0
HelpersFirstFault = (g : Setting) → StopsAtFirst IsReference (helper_rules g 0) (just_of g)

abbrev pub GroupsFirstFault : Type 0
GroupsFirstFault = (g : Setting) → StopsAtFirst IsReference (group_rules g 0) (compassionate_of g)

-- a formula, and an integer expression
abbrev pub FormulasFirstFault : Type 0
FormulasFirstFault = (g : Setting) → StopsAtFirst (IsUnit Forms) (form_rules g 0) (formula_of g)

abbrev pub SumsFirstFault : Type 0
SumsFirstFault = (g : Setting) → StopsAtFirst (IsUnit Sums) (sum_rules g 0) (sum_of g)

-- a formula that is listed, behind so many others: it is read behind 64 of them, and is one too many
abbrev pub ListedFormulasFirstFault : Type 0
ListedFormulasFirstFault = (g : Setting) (before : ℕ) → StopsAtFirst (IsUnit Forms) (listed_form_rules g before 0) (listed_formula_of g before)

-- an item with a helper, and one with a rank and a helper, behind fewer than 64 others
abbrev pub HelpedFirstFault : Type 0
HelpedFirstFault = (g : Setting) (before : ℕ) → nat_lt before 64 ≡ true → StopsAtFirst (IsRawHelped Forms Sums) (helped_rules g 0) (helped_of g before)

abbrev pub RankedFirstFault : Type 0
RankedFirstFault = (g : Setting) (before : ℕ) → nat_lt before 64 ≡ true → StopsAtFirst (IsRawRanked Forms Sums) (ranked_rules g 0) (ranked_of g before)

-- and one whose helper may be left out
abbrev pub FairFirstFault : Type 0
FairFirstFault = (g : Setting) (before : ℕ) → nat_lt before 64 ≡ true → StopsAtFirst (IsRawFair Forms Sums) (fair_rules g 0) (fair_of g before)

-- lists of these in brackets, of at most 64 items
abbrev pub ChainsFirstFault : Type 0
ChainsFirstFault = (g : Setting) → StopsAtFirst (InBrackets (IsRawHelped Forms Sums)) (listed_rules (λ x. x.form) helped_size (helped_rules g) 0 0) (bracketed (helped_of g))

abbrev pub RankingsFirstFault : Type 0
RankingsFirstFault = (g : Setting) → StopsAtFirst (InBrackets (IsRawRanked Forms Sums)) (listed_rules (λ x. x.form) ranked_size (ranked_rules g) 0 0) (bracketed (ranked_of g))

abbrev pub FairListsFirstFault : Type 0
FairListsFirstFault = (g : Setting) → StopsAtFirst (InBrackets (IsRawFair Forms Sums)) (listed_rules (λ x. x.form) fair_size (fair_rules g) 0 0) (bracketed (fair_of g))

-- the nodes of a net, and those of a nested one: that a node lacks a helper is found at the token behind it
abbrev pub NetsFirstFault : Type 0
NetsFirstFault = (g : Setting) → StopsAtFirst (InBrackets (IsRawNode Forms Sums)) (listed_rules (λ n. n.form) node_size (node_rules g) 0 0) (bracketed (node_of g))

abbrev pub NestedNetsFirstFault : Type 0
NestedNetsFirstFault = (g : Setting) → StopsAtFirst (InBrackets (IsRawNestedNode Forms Sums)) (listed_rules (λ n. n.form) nested_node_size (nested_node_rules g) 0 0) (bracketed (nested_node_of g))

-- the rule of a response
abbrev pub RulesFirstFault : Type 0
RulesFirstFault = (g : Setting) → StopsAtFirst (IsRawRule Forms Sums) (rule_rules g 0) (rule_of g)

-- the claim of a response, with its rule
abbrev pub ResponsesFirstFault : Type 0
ResponsesFirstFault = (g : Setting) → StopsAtFirst (IsRawResponse Forms Sums) (claim_rules g 0) (response_of g)

-- the claim of an invariance, with the formula by which it is shown
abbrev pub InvariancesFirstFault : Type 0
InvariancesFirstFault = (g : Setting) → StopsAtFirst (IsRawInvariance Forms Sums) (claim_rules g 0) (invariance_of g)

-- the number of a node that is drawn, and that of a new one
abbrev pub KnownNumbersFirstFault : Type 0
KnownNumbersFirstFault = (nodes : List PlainDrawnNode) → StopsAtFirst IsNumeral (known_rules nodes 0) (known_of nodes)

-- what a drawing of this kind is read for, over a program
abbrev pub drawing_over : Setting → DiagramKind → ℕ → diagrams.Setting
drawing_over g kind highest = record { kind = kind; levels = highest; names = g.names; system = g.system }

abbrev pub NewNumbersFirstFault : Type 0
NewNumbersFirstFault = (g : Setting) (kind : DiagramKind) (highest : ℕ) (nodes : List PlainDrawnNode) → StopsAtFirst IsNumeral (new_number_rules kind highest nodes 0) (new_number_of (drawing_over g kind highest) nodes)

-- the name of a step that is cited, behind these steps
abbrev pub CitationsFirstFault : Type 0
CitationsFirstFault = (before : List PlainStep) → StopsAtFirst OneName (cited_rules before 0) (cited_of (earlier_of before))

-- the name of a step, behind these steps
abbrev pub NewNamesFirstFault : Type 0
NewNamesFirstFault = (before : List PlainStep) → StopsAtFirst OneName (name_rules before 0) (new_name_of (earlier_of before))

-- a step that claims an invariance, behind these steps
abbrev pub InvarianceStepsFirstFault : Type 0
InvarianceStepsFirstFault = (g : Setting) (before : List PlainStep)
    → StopsAtFirst (After marks.Invariant (IsRawNamed (IsRawInvariance Forms Sums))) (step_rules g before 0) (behind_mark marks.Invariant (step_of g claims.Invariant (earlier_of before)))

-- a step that claims a waiting-for, whose levels are counted at the token behind them, and one that claims a response
abbrev pub WaitingStepsFirstFault : Type 0
WaitingStepsFirstFault = (g : Setting) (before : List PlainStep)
    → StopsAtFirst (After marks.Waiting (IsRawNamed (IsRawWaiting Forms Sums))) (step_rules g before 0) (behind_mark marks.Waiting (step_of g claims.Waiting (earlier_of before)))

abbrev pub ResponseStepsFirstFault : Type 0
ResponseStepsFirstFault = (g : Setting) (before : List PlainStep)
    → StopsAtFirst (After marks.Response (IsRawNamed (IsRawResponse Forms Sums))) (step_rules g before 0) (behind_mark marks.Response (step_of g claims.Response (earlier_of before)))

-- A text is refused as a script exactly for its first fault.
abbrev pub ScriptsFirstFault : Type 0
ScriptsFirstFault = (g : Setting) (text : List ℕ) (f : Stop Breach) → (script_spelled g.names g.system text ≡ Err f) ↔ IsFirstFault (IsRawScript Forms Sums) (broken_rules g) (text_stream text) f

-- a drawing of this kind, with this highest level, and its faults as a script tells them
abbrev pub DrawingsFirstFault : Type 0
DrawingsFirstFault = (g : Setting) (kind : DiagramKind) (highest : ℕ) → StopsAtFirst (IsRawDrawing Forms Sums kind) (drawing_rules g kind highest 0) (λ s. drawn (diagram_of kind highest g.names g.system s))
