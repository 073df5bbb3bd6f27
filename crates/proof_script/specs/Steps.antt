-- How a step is read: what it claims, its rule, and the earlier steps that it cites.
use Rattle.std.specs.Prelude.{ℕ, Bool, true, false, not, cond, ◌||◌, ◌-◌, nat_eq, if◌then◌else◌, List, [], ◌∷◌, length, map, Option, Some, None, is_some, Ok, Err}
use Rattle.st_tokens.specs.Stream.{behind}
use Rattle.st_reading.specs.declared.mark.Mark.TheVariants as marks
use Rattle.st_reading.specs.declared.sign.Sign.{Sign}
use Rattle.st_reading.specs.Sign.{is}
use Rattle.st_reading.specs.Reading.{ahead, refusal, expected, named, gives, then_reads, further}
use Rattle.st_reading.specs.Rule as rules
use Rattle.st_reading.specs.Breaches.{broke, Reader, unless, present}
use Rattle.st_form.specs.Formula.{Formula}
use Rattle.st_program.specs.Names as tables
use Rattle.expression_typer.specs.Naming.{is_text}
use Rattle.expression_typer.specs.Naming.{variable_named as entry_named}
use Rattle.temporal_goals.specs.Texts.{PlainGoal, invariant, waiting, response, PlainRule, basic, stronger, levels, diagram, PlainStep}
use Rattle.temporal_goals.specs.declared.diagrams.DiagramKind.TheVariants.{Wait}
use Rattle.diagram_reader.specs.Drawing.{diagram_of}
use Rattle.proof_script.specs.declared.steps.Claim.{Claim}
use Rattle.proof_script.specs.declared.steps.Claim.TheVariants as claims
use Rattle.proof_script.specs.Faults.{drawn}
use Rattle.proof_script.specs.Listing.{Setting, optional, behind_mark, listed, further_counted, formula_of, sum_of, listed_formula_of}
use Rattle.proof_script.specs.Rules.{rule_of}

-- the names of the earlier steps in their order, each with whether it is an invariance
abbrev pub Earlier : Type 0
Earlier = List (List ℕ × Bool)

abbrev pub is_invariance : PlainGoal → Bool
is_invariance (invariant p) = true
is_invariance (waiting p qs) = false
is_invariance (response p q e) = false

abbrev pub earlier_of : List PlainStep → Earlier
earlier_of steps = map (λ s. (s.name, is_invariance s.goal)) steps

-- the number of the earlier step with this name, and whether it is an invariance
abbrev pub step_named : Earlier → List ℕ → Option (ℕ × Bool)
step_named earlier name = if is_text name then entry_named earlier name else None

-- what a step claims, by its first token
abbrev pub claim_in : Sign → Option Claim
claim_in g = cond (is g marks.Invariant) (Some claims.Invariant) (cond (is g marks.Waiting) (Some claims.Waiting) (cond (is g marks.Response) (Some claims.Response) None))

-- what stands behind a rule
abbrev pub ends_rule : Sign → Bool
ends_rule g = is g marks.Using || is g marks.Semicolon

-- an invariance by itself, or by a stronger formula
abbrev pub invariance_rule : Option Formula → PlainRule
invariance_rule None = basic
invariance_rule (Some f) = stronger f

-- an earlier step has the name
abbrev pub is_taken : Earlier → List ℕ → Bool
is_taken earlier name = is_some (tables.named name earlier)

-- the name of a step, which no earlier one has
unfoldable pub new_name_of : Earlier → Reader (List ℕ)
new_name_of earlier = then_reads named (λ n. unless (is_taken earlier n.text) (broke rules.Twice n.place) n.text)

-- an earlier invariance, by its name
unfoldable pub cited_of : Earlier → Reader ℕ
cited_of earlier = then_reads named (λ n. then_reads (present (broke rules.UnknownLemma n.place) (step_named earlier n.text)) (λ e. unless (not e.1) (broke rules.NotInvariant n.place) e.0))

-- [ "using" name { "," name } ]
unfoldable pub citations_of : Earlier → Reader (List ℕ)
citations_of earlier s =
    cond (is (ahead s) marks.Using) (then_reads (cited_of earlier) (λ c. further marks.Comma (cited_of earlier) (c ∷ [])) (behind s)) (Ok ([], s))

-- As many levels as the goal has formulas behind "==>". Another number is found at the token behind the levels.
unfoldable pub matched_of : ℕ → ℕ → List Formula → Reader PlainRule
matched_of place count ls s = cond (ends_rule (ahead s)) (unless (not (nat_eq (length ls) count)) (broke rules.WrongCount place) (levels ls) s) (Err (refusal s))

module _ (g : Setting) where
  -- expr [ "by" expr ]
  unfoldable pub invariance_of : Reader (PlainGoal × PlainRule)
  invariance_of = then_reads (formula_of g) (λ p. then_reads (optional marks.By (formula_of g)) (λ f. gives (invariant p, invariance_rule f)))

  -- expr "==>" expr "wait" expr { "wait" expr }
  unfoldable pub waiting_goal_of : Reader (Formula × List Formula)
  waiting_goal_of =
      then_reads (formula_of g) (λ p. then_reads (behind_mark marks.Unless (listed_formula_of g 0)) (λ q. then_reads (behind_mark marks.Wait (listed_formula_of g 1)) (λ r.
      then_reads (further_counted marks.Wait (listed_formula_of g) (q ∷ r ∷ [])) (λ qs. gives (p, qs)))))

  -- expr { "," expr }, behind "by" at the place
  unfoldable pub levels_of : ℕ → ℕ → Reader PlainRule
  levels_of place count = then_reads (listed marks.Comma (listed_formula_of g)) (λ ls. matched_of place count ls)

  -- "wait" drawing
  unfoldable pub wait_diagram_of : ℕ → Reader PlainRule
  wait_diagram_of count = behind_mark marks.Wait (then_reads (λ s. drawn (diagram_of Wait (count - 1) g.names g.system s)) (λ d. gives (diagram d)))

  -- levels or a diagram, behind "by" at the place
  unfoldable pub waiting_by_of : ℕ → ℕ → Reader PlainRule
  waiting_by_of count place s = cond (is (ahead s) marks.Diagram) (wait_diagram_of count (behind s)) (levels_of place count s)

  unfoldable pub waiting_of : Reader (PlainGoal × PlainRule)
  waiting_of = then_reads waiting_goal_of (λ w. then_reads (then_reads (expected marks.By) (waiting_by_of (length w.1))) (λ r. gives (waiting w.0 w.1, r)))

  -- expr "leads" expr "within" sum "by" rule
  unfoldable pub response_of : Reader (PlainGoal × PlainRule)
  response_of =
      then_reads (formula_of g) (λ p. then_reads (behind_mark marks.Leads (formula_of g)) (λ q. then_reads (behind_mark marks.Within (sum_of g)) (λ e.
      then_reads (behind_mark marks.By (rule_of g)) (λ r. gives (response p q e, r)))))

  -- a goal and its rule
  unfoldable pub claimed_of : Claim → Reader (PlainGoal × PlainRule)
  claimed_of claims.Invariant s = invariance_of s
  claimed_of claims.Waiting s = waiting_of s
  claimed_of claims.Response s = response_of s

  -- name ":" claim [ "using" names ] ";", behind the token that says what is claimed
  unfoldable pub step_of : Claim → Earlier → Reader PlainStep
  step_of claim earlier =
      then_reads (new_name_of earlier) (λ name. then_reads (behind_mark marks.Colon (claimed_of claim)) (λ c. then_reads (citations_of earlier) (λ cited.
      then_reads (expected marks.Semicolon) (λ m. gives (record { name = name; goal = c.0; rule = c.1; cited = cited })))))
