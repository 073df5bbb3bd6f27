-- The grammar of scripts: which token lists stand for which trees, one constructor for each production. No rule is asked.
-- `Forms` and `Sums` are the languages of formulas and of integer expressions, with any number of levels.
use Rattle.std.specs.Prelude.{◌≤◌, List, [], ◌∷◌, ◌++◌, length, Option}
use Rattle.st_tokens.specs.Stream.{Lexeme}
use Rattle.st_reading.specs.declared.mark.Mark.TheVariants as marks
use Rattle.st_reading.specs.Reading.{Label}
use Rattle.st_reading.specs.Spelling.{Is, Items, OneName, Row}
use Rattle.st_reading.specs.Phrases.{After, Many, Optional}
use Rattle.temporal_goals.specs.declared.diagrams.DiagramKind.TheVariants.{Wait, Chain, Rank}
use Rattle.expression_parser.specs.ExpressionTree.{Expr}
use Rattle.script_grammar.specs.RawScripts.{RawUnit, RawTransition, RawDrawing, RawHelped, RawRanked, RawFair, RawNode, RawLevel, RawNestedNode, RawRule, raw_just, raw_chain, raw_ranked, raw_fair, raw_net, raw_nested, raw_diagram, RawWaitingRule, raw_levels, raw_wait_diagram, RawClaim, raw_invariance, raw_waiting, raw_response, RawStep}
use Rattle.script_grammar.specs.Drawings.{IsUnit, IsReference, IsRawDrawing}

-- "[" item { ";" item } "]"
pub data InBrackets {A : Type 0} (item : List Lexeme → A → Type 0) : List Lexeme → List A → Type 0 where
  in_brackets : (t u : Lexeme) (ts : List Lexeme) (xs : List A) → Is marks.OpenBlock t → Row marks.Semicolon item ts xs → Is marks.CloseBlock u → InBrackets item (t ∷ ts ++ u ∷ []) xs

module _ (Forms Sums : List Lexeme → Expr → Type 0) where
  abbrev pub IsForm : List Lexeme → RawUnit → Type 0
  IsForm = IsUnit Forms

  abbrev pub IsSum : List Lexeme → RawUnit → Type 0
  IsSum = IsUnit Sums

  -- ITEMS OF RULES
  -- expr "helper" trans
  pub data IsRawHelped : List Lexeme → RawHelped → Type 0 where
    spells_helped : (a b : List Lexeme) (f : RawUnit) (h : RawTransition) → IsForm a f → After marks.Helper IsReference b h → IsRawHelped (a ++ b) (record { form = f; helper = h })

  -- expr "rank" sum "helper" trans
  pub data IsRawRanked : List Lexeme → RawRanked → Type 0 where
    spells_ranked : (a b c : List Lexeme) (f e : RawUnit) (h : RawTransition) → IsForm a f → After marks.Rank IsSum b e → After marks.Helper IsReference c h
        → IsRawRanked (a ++ (b ++ c)) (record { form = f; rank = e; helper = h })

  -- expr [ "helper" trans ]
  pub data IsRawFair : List Lexeme → RawFair → Type 0 where
    spells_fair : (a b : List Lexeme) (f : RawUnit) (h : Option RawTransition) → IsForm a f → Optional marks.Helper IsReference b h → IsRawFair (a ++ b) (record { form = f; helper = h })

  -- expr "base" sum "delay" sum "top" sum [ "group" trans ] [ "helper" trans ]
  pub data IsRawNode : List Lexeme → RawNode → Type 0 where
    spells_node : (a b c d e k : List Lexeme) (f base delay top : RawUnit) (group helper : Option RawTransition)
        → IsForm a f → After marks.Base IsSum b base → After marks.Delay IsSum c delay → After marks.Top IsSum d top → Optional marks.Group IsReference e group → Optional marks.Helper IsReference k helper
        → IsRawNode (a ++ (b ++ (c ++ (d ++ (e ++ k))))) (record { form = f; base = base; delay = delay; top = top; group = group; helper = helper })

  -- "base" sum "top" sum "group" trans
  pub data IsRawLevel : List Lexeme → RawLevel → Type 0 where
    spells_level : (a b c : List Lexeme) (base top : RawUnit) (group : RawTransition) → After marks.Base IsSum a base → After marks.Top IsSum b top → After marks.Group IsReference c group
        → IsRawLevel (a ++ (b ++ c)) (record { base = base; top = top; group = group })

  -- expr { level } "delay" sum [ "helper" trans ], with at most four levels
  pub data IsRawNestedNode : List Lexeme → RawNestedNode → Type 0 where
    spells_nested_node : (a b c d : List Lexeme) (f : RawUnit) (ls : List RawLevel) (delay : RawUnit) (helper : Option RawTransition)
        → IsForm a f → Many IsRawLevel b ls → length ls ≤ 4 → After marks.Delay IsSum c delay → Optional marks.Helper IsReference d helper
        → IsRawNestedNode (a ++ (b ++ (c ++ d))) (record { form = f; levels = ls; delay = delay; helper = helper })

  -- RULES
  -- "just" item | "chain" items | "ranked" items | "fair" trans items | "net" nodes | "net" "group" nodes | "diagram" ( "chain" | "rank" ) drawing
  pub data IsRawRule : List Lexeme → RawRule → Type 0 where
    spells_just : (t : Lexeme) (ts : List Lexeme) (x : RawHelped) → Is marks.Just t → IsRawHelped ts x → IsRawRule (t ∷ ts) (raw_just x)
    spells_chain : (t : Lexeme) (ts : List Lexeme) (xs : List RawHelped) → Is marks.Chain t → InBrackets IsRawHelped ts xs → IsRawRule (t ∷ ts) (raw_chain xs)
    spells_ranks : (t : Lexeme) (ts : List Lexeme) (xs : List RawRanked) → Is marks.Ranked t → InBrackets IsRawRanked ts xs → IsRawRule (t ∷ ts) (raw_ranked xs)
    spells_compassion : (t : Lexeme) (a b : List Lexeme) (c : RawTransition) (xs : List RawFair) → Is marks.Fair t → IsReference a c → InBrackets IsRawFair b xs → IsRawRule (t ∷ a ++ b) (raw_fair c xs)
    spells_net : (t : Lexeme) (ts : List Lexeme) (ns : List RawNode) → Is marks.Net t → InBrackets IsRawNode ts ns → IsRawRule (t ∷ ts) (raw_net ns)
    spells_nested_net : (t u : Lexeme) (ts : List Lexeme) (ns : List RawNestedNode) → Is marks.Net t → Is marks.Group u → InBrackets IsRawNestedNode ts ns → IsRawRule (t ∷ u ∷ ts) (raw_nested ns)
    spells_chain_diagram : (t u : Lexeme) (ts : List Lexeme) (d : RawDrawing) → Is marks.Diagram t → Is marks.Chain u → IsRawDrawing Forms Sums Chain ts d → IsRawRule (t ∷ u ∷ ts) (raw_diagram Chain d)
    spells_rank_diagram : (t u : Lexeme) (ts : List Lexeme) (d : RawDrawing) → Is marks.Diagram t → Is marks.Rank u → IsRawDrawing Forms Sums Rank ts d → IsRawRule (t ∷ u ∷ ts) (raw_diagram Rank d)

  -- expr { "," expr } | "diagram" "wait" drawing
  pub data IsRawWaitingRule : List Lexeme → RawWaitingRule → Type 0 where
    spells_levels : (ts : List Lexeme) (ls : List RawUnit) → Row marks.Comma IsForm ts ls → IsRawWaitingRule ts (raw_levels ls)
    spells_wait_diagram : (t u : Lexeme) (ts : List Lexeme) (d : RawDrawing) → Is marks.Diagram t → Is marks.Wait u → IsRawDrawing Forms Sums Wait ts d → IsRawWaitingRule (t ∷ u ∷ ts) (raw_wait_diagram d)

  -- CLAIMS
  -- expr [ "by" expr ]
  pub data IsRawInvariance : List Lexeme → RawClaim → Type 0 where
    spells_invariance : (a b : List Lexeme) (p : RawUnit) (f : Option RawUnit) → IsForm a p → Optional marks.By IsForm b f → IsRawInvariance (a ++ b) (raw_invariance p f)

  -- expr "==>" expr "wait" expr { "wait" expr } "by" rule
  pub data IsRawWaiting : List Lexeme → RawClaim → Type 0 where
    spells_waiting : (a b c d e : List Lexeme) (t : Lexeme) (p q r : RawUnit) (qs : List RawUnit) (x : RawWaitingRule)
        → IsForm a p → After marks.Unless IsForm b q → After marks.Wait IsForm c r → Items marks.Wait IsForm d qs → Is marks.By t → IsRawWaitingRule e x
        → IsRawWaiting ((a ++ (b ++ (c ++ d))) ++ t ∷ e) (raw_waiting p (q ∷ r ∷ qs) t.start x)

  -- expr "leads" expr "within" sum "by" rule
  pub data IsRawResponse : List Lexeme → RawClaim → Type 0 where
    spells_response : (a b c d : List Lexeme) (p q e : RawUnit) (x : RawRule) → IsForm a p → After marks.Leads IsForm b q → After marks.Within IsSum c e → After marks.By IsRawRule d x
        → IsRawResponse (a ++ (b ++ (c ++ d))) (raw_response p q e x)

-- STEPS
-- [ "using" name { "," name } ]
pub data IsRawUsing : List Lexeme → List Label → Type 0 where
  cites_none : IsRawUsing [] []
  cites : (t : Lexeme) (ts : List Lexeme) (ls : List Label) → Is marks.Using t → Row marks.Comma OneName ts ls → IsRawUsing (t ∷ ts) ls

-- name ":" claim [ using ] ";"
pub data IsRawNamed (claim : List Lexeme → RawClaim → Type 0) : List Lexeme → RawStep → Type 0 where
  spells_named : (a b c : List Lexeme) (u : Lexeme) (l : Label) (x : RawClaim) (ls : List Label) → OneName a l → After marks.Colon claim b x → IsRawUsing c ls → Is marks.Semicolon u
      → IsRawNamed claim (a ++ (b ++ (c ++ u ∷ []))) (record { name = l; claim = x; cited = ls })

module _ (Forms Sums : List Lexeme → Expr → Type 0) where
  -- "invariant" .. | "waiting" .. | "response" ..
  pub data IsRawStep : List Lexeme → RawStep → Type 0 where
    spells_invariance_step : (t : Lexeme) (ts : List Lexeme) (s : RawStep) → Is marks.Invariant t → IsRawNamed (IsRawInvariance Forms Sums) ts s → IsRawStep (t ∷ ts) s
    spells_waiting_step : (t : Lexeme) (ts : List Lexeme) (s : RawStep) → Is marks.Waiting t → IsRawNamed (IsRawWaiting Forms Sums) ts s → IsRawStep (t ∷ ts) s
    spells_response_step : (t : Lexeme) (ts : List Lexeme) (s : RawStep) → Is marks.Response t → IsRawNamed (IsRawResponse Forms Sums) ts s → IsRawStep (t ∷ ts) s

  -- { step }
  abbrev pub IsRawScript : List Lexeme → List RawStep → Type 0
  IsRawScript = Many IsRawStep
