-- The rule of each step fits its goal and the system, and its groups are few.
use Rattle.std.proofs.Common.{◌≡◌, ◌≢◌, ℕ, suc, ◌-◌, ◌<◌, ◌≤◌, Bool, true, false, not, cond, nat_eq, All, List, [], ◌∷◌, length, Option, Some, None, Ok, Err, refl, sym, ap, subst, ◌∙◌, arith}
use Rattle.std.proofs.lemmas.Bool.Decides.{nat_tests}
use Rattle.std.proofs.lemmas.List.{length-map}
use Rattle.std.proofs.lemmas.List.Elements.{All-nil, All-push, All-weaker}
use Rattle.st_tokens.specs.Stream.{Stream, behind}
use Rattle.st_reading.proofs.Judged.{both, given, allowed}
use Rattle.st_reading.specs.declared.mark.Mark.TheVariants as marks
use Rattle.st_reading.specs.Sign.{is}
use Rattle.st_reading.specs.Reading.{Read, ahead, refusal, expected, gives, then_reads}
use Rattle.st_form.specs.Formula.{Formula}
use Rattle.st_program.specs.Names.{Names}
use Rattle.transition_system.specs.Systems.{System}
use Rattle.temporal_goals.specs.Texts.{PlainGoal, invariant, waiting, response, PlainNode, PlainRule, levels, net, diagram, nested, PlainStep}
use Rattle.temporal_goals.specs.declared.diagrams.DiagramKind.{DiagramKind}
use Rattle.temporal_goals.specs.declared.diagrams.DiagramKind.TheVariants.{Wait, Chain, Rank}
use Rattle.rule_fits.specs.Fitting.{NodesFit, LevelsExist}
use Rattle.ranked_net.proofs.Faultless.{nodes-fit}
use Rattle.nested_net.proofs.Faultless.{nodes-fit as nested-fit}
use Rattle.response_rules.specs.Forms.{by_rank, chain_nodes, ranked_nodes, fair_nodes, fair_under}
use Rattle.diagram_reader.specs.Drawing.{diagram_of}
use Rattle.diagram_reader.proofs.Obeying.{diagram_obeys}
use Rattle.diagram_reader.proofs.Speaking.{levels_exist, response_fits}
use Rattle.st_reading.specs.Rule as rules
use Rattle.st_reading.specs.Breaches.{Breach, broke, Reader, unless}
use Rattle.proof_script.specs.declared.steps.Claim.{Claim}
use Rattle.proof_script.specs.declared.steps.Claim.TheVariants as claims
use Rattle.proof_script.specs.declared.rules.Manner.{Manner}
use Rattle.proof_script.specs.declared.rules.Manner.TheVariants as manners
use Rattle.proof_script.specs.Faults.{drawn}
use Rattle.proof_script.specs.Listing.{Setting, optional, behind_mark, listed, bracketed, formula_of, sum_of, listed_formula_of, further_counted, compassionate_of}
use Rattle.proof_script.specs.Rules.{helped_of, ranked_of, fair_of, manner_in, kind_in, just_nodes_of, chain_nodes_of, ranked_nodes_of, fair_nodes_of, nodes_of, nested_nodes_of, net_rule_of, response_diagram_of, as_net, ruled_of, rule_of}
use Rattle.proof_script.specs.Steps.{invariance_rule, ends_rule, earlier_of, new_name_of, citations_of, matched_of, invariance_of, waiting_goal_of, levels_of, wait_diagram_of, waiting_by_of, waiting_of, response_of, claimed_of, step_of}
use Rattle.proof_script.specs.Script.{script_spelled}
use Rattle.rule_fits.specs.Obeying.{FitsInvariance, FitsWaiting, FitsResponse, RuleFits}
use Rattle.proof_script.specs.Obeying.{HasFewGroups}
use Rattle.proof_script.proofs.Inverses.{behind_it, operated, listed_few, listed_fits, further_some}
use Rattle.proof_script.proofs.Unbroken.{helped_sound, chain_sound, ranked_sound, fair_sound, written_sound}
use Rattle.proof_script.proofs.Grouping.{nested_sound, few_groups}
use Rattle.proof_script.proofs.Scripts.{setting_for, script_keeps}

pub drawn_is : {A : Type 0} (r : Read Breach A) (x : A) (rest : Stream) → drawn r ≡ Ok (x, rest) → r ≡ Ok (x, rest)
drawn_is (Ok y) x rest h = cc
drawn_is (Err f) x rest h = absurd cc

-- The rule fits, and its groups are few.
abbrev Waits : ℕ → PlainRule → Type 0
Waits count rule = FitsWaiting count rule × HasFewGroups rule

abbrev Responds : System → PlainRule → Type 0
Responds system rule = FitsResponse system rule × HasFewGroups rule

abbrev Rules : System → PlainGoal → PlainRule → Type 0
Rules system goal rule = RuleFits system goal rule × HasFewGroups rule

by_itself : (o : Option Formula) → FitsInvariance (invariance_rule o) × HasFewGroups (invariance_rule o)
by_itself None = (tt, tt)
by_itself (Some f) = (tt, tt)

equal : (m n : ℕ) → not (nat_eq m n) ≡ false → m ≡ n
equal m n h = grind (arith, nat_tests)

chain_length : (items : List (Formula × ℕ)) → length (chain_nodes items) ≡ length items
chain_length [] = refl
chain_length (x ∷ xs) = ap suc (chain_length xs)

matched_read : (place count : ℕ) (ls : List Formula) (rule : PlainRule) (s rest : Stream) → matched_of place count ls s ≡ Ok (rule, rest) → (length ls ≡ count) × (levels ls ≡ rule)
unfolding matched_of
matched_read place count ls rule s rest h = at_test (ends_rule (ahead s)) h
  where
    at_test : (b : Bool) → cond b (unless (not (nat_eq (length ls) count)) (broke rules.WrongCount place) (levels ls) s) (Err (refusal s)) ≡ Ok (rule, rest) → (length ls ≡ count) × (levels ls ≡ rule)
    at_test true h =
        let a = allowed (not (nat_eq (length ls) count)) (broke rules.WrongCount place) (levels ls) rule s rest h in
        (equal (length ls) count a.0, a.1)
    at_test false h = absurd cc

pub matched_is : (place count : ℕ) (ls : List Formula) (rule : PlainRule) (s rest : Stream) → matched_of place count ls s ≡ Ok (rule, rest) → levels ls ≡ rule
matched_is place count ls rule s rest h = (matched_read place count ls rule s rest h).1

fair_length : (top group : ℕ) (items : List (Formula × Option ℕ)) → length (fair_under top group items) ≡ length items
fair_length top group [] = refl
fair_length top group (x ∷ xs) = ap suc (fair_length top group xs)

-- what a net is read from has at most 64 nodes, and they fit
abbrev Nodes : System → List PlainNode → Type 0
Nodes system ns = (length ns ≤ 64) × NodesFit system ns

module _ (g : Setting) where
  invariance_fits : (c : PlainGoal × PlainRule) (s rest : Stream) → invariance_of g s ≡ Ok (c, rest) → Rules g.system c.0 c.1
  unfolding invariance_of
  invariance_fits c s rest h =
      let a = both (formula_of g s) _ (c, rest) h in
      let b = both (optional marks.By (formula_of g) a.value.1) _ (c, rest) a.second in
      let made : PlainGoal × PlainRule = (invariant a.value.0, invariance_rule b.value.0) in
      subst (λ (x : PlainGoal × PlainRule). Rules g.system x.0 x.1) {x = made} (given made c b.value.1 rest b.second) (by_itself b.value.0)

  wait_diagram_fits : (count : ℕ) → 0 < count → (rule : PlainRule) (s rest : Stream) → wait_diagram_of g count s ≡ Ok (rule, rest) → Waits count rule
  unfolding wait_diagram_of
  wait_diagram_fits count above rule s rest h =
      let a = behind_it marks.Wait (then_reads (λ t. drawn (diagram_of Wait (count - 1) g.names g.system t)) (λ d. gives (diagram d))) rule s rest h in
      let b = both (drawn (diagram_of Wait (count - 1) g.names g.system a.0)) _ (rule, rest) a.1 in
      let o = diagram_obeys (record { kind = Wait; levels = count - 1; names = g.names; system = g.system }) a.0 b.value.0 b.value.1 (drawn_is (diagram_of Wait (count - 1) g.names g.system a.0) b.value.0 b.value.1 b.first) in
      let same : suc (count - 1) ≡ count = omega (arith, above) in
      subst (Waits count) (given (diagram b.value.0) rule b.value.1 rest b.second) ((o.same_kind, subst (λ n. LevelsExist n b.value.0.nodes) same (levels_exist (count - 1) g.system b.value.0.nodes o.nodes)), tt)

  levels_fit : (place count : ℕ) (rule : PlainRule) (s rest : Stream) → levels_of g place count s ≡ Ok (rule, rest) → Waits count rule
  unfolding levels_of
  levels_fit place count rule s rest h =
      let a = both (listed marks.Comma (listed_formula_of g) s) _ (rule, rest) h in
      let m = matched_read place count a.value.0 rule a.value.1 rest a.second in
      let few = (listed_fits marks.Comma (listed_formula_of g) (λ f. Unit {0}) (λ n f m r k. (listed_few g n m f r k, tt)) a.value.0 s a.value.1 a.first).0 in
      subst (Waits count) m.1 ((m.0, few), tt)

  waiting_by_fits : (count place : ℕ) → 0 < count → (rule : PlainRule) (s rest : Stream) → waiting_by_of g count place s ≡ Ok (rule, rest) → Waits count rule
  unfolding waiting_by_of
  waiting_by_fits count place above rule s rest h = at_test (is (ahead s) marks.Diagram) h
    where
      at_test : (b : Bool) → cond b (wait_diagram_of g count (behind s)) (levels_of g place count s) ≡ Ok (rule, rest) → Waits count rule
      at_test true h = wait_diagram_fits count above rule (behind s) rest h
      at_test false h = levels_fit place count rule s rest h

  waiting_some : (w : Formula × List Formula) (s rest : Stream) → waiting_goal_of g s ≡ Ok (w, rest) → 0 < length w.1
  unfolding waiting_goal_of
  waiting_some w s rest h =
      let a = both (formula_of g s) _ (w, rest) h in
      let b = both (behind_mark marks.Unless (listed_formula_of g 0) a.value.1) _ (w, rest) a.second in
      let c = both (behind_mark marks.Wait (listed_formula_of g 1) b.value.1) _ (w, rest) b.second in
      let two : List Formula = b.value.0 ∷ c.value.0 ∷ [] in
      let d = both (further_counted marks.Wait (listed_formula_of g) two c.value.1) _ (w, rest) c.second in
      let made : Formula × List Formula = (a.value.0, d.value.0) in
      let above = further_some marks.Wait (listed_formula_of g) (λ f. Unit {0}) (λ n f m r k. (listed_few g n m f r k, tt)) two d.value.0 c.value.1 d.value.1 (omega arith) d.first in
      subst (λ (v : Formula × List Formula). 0 < length v.1) {x = made} (given made w d.value.1 rest d.second) above

  waiting_fits : (c : PlainGoal × PlainRule) (s rest : Stream) → waiting_of g s ≡ Ok (c, rest) → Rules g.system c.0 c.1
  unfolding waiting_of
  waiting_fits c s rest h =
      let a = both (waiting_goal_of g s) _ (c, rest) h in
      let b = both (then_reads (expected marks.By) (waiting_by_of g (length a.value.0.1)) a.value.1) _ (c, rest) a.second in
      let d = both (expected {X = Breach} marks.By a.value.1) _ b.value b.first in
      let made : PlainGoal × PlainRule = (waiting a.value.0.0 a.value.0.1, b.value.0) in
      subst (λ (x : PlainGoal × PlainRule). Rules g.system x.0 x.1) {x = made} (given made c b.value.1 rest b.second)
      (waiting_by_fits (length a.value.0.1) d.value.0 (waiting_some a.value.0 s a.value.1 a.first) b.value.0 d.value.1 b.value.1 d.second)

  just_nodes_fit : (ns : List PlainNode) (s rest : Stream) → just_nodes_of g s ≡ Ok (ns, rest) → Nodes g.system ns
  unfolding just_nodes_of
  just_nodes_fit ns s rest h =
      let a = both (helped_of g 0 s) _ (ns, rest) h in
      let made : List PlainNode = chain_nodes (a.value.0 ∷ []) in
      subst (Nodes g.system) (given made ns a.value.1 rest a.second) (omega arith, nodes-fit g.system 0 made (helped_sound g 0 a.value.0 s a.value.1 a.first))

  chain_nodes_fit : (ns : List PlainNode) (s rest : Stream) → chain_nodes_of g s ≡ Ok (ns, rest) → Nodes g.system ns
  unfolding chain_nodes_of
  chain_nodes_fit ns s rest h =
      let a = both (bracketed (helped_of g) s) _ (ns, rest) h in
      let f = chain_sound g a.value.0 s a.value.1 a.first in
      subst (Nodes g.system) (given (chain_nodes a.value.0) ns a.value.1 rest a.second) (omega (arith, f.0, chain_length a.value.0), nodes-fit g.system 0 (chain_nodes a.value.0) f.1)

  ranked_nodes_fit : (ns : List PlainNode) (s rest : Stream) → ranked_nodes_of g s ≡ Ok (ns, rest) → Nodes g.system ns
  unfolding ranked_nodes_of
  ranked_nodes_fit ns s rest h =
      let a = both (bracketed (ranked_of g) s) _ (ns, rest) h in
      let f = ranked_sound g a.value.0 s a.value.1 a.first in
      subst (Nodes g.system) (given (ranked_nodes a.value.0) ns a.value.1 rest a.second) (omega (arith, f.0, length-map a.value.0 (λ x. by_rank x.0 x.1 x.2)), nodes-fit g.system 0 (ranked_nodes a.value.0) f.1)

  fair_nodes_fit : (ns : List PlainNode) (s rest : Stream) → fair_nodes_of g s ≡ Ok (ns, rest) → Nodes g.system ns
  unfolding fair_nodes_of
  fair_nodes_fit ns s rest h =
      let t = both (compassionate_of g s) _ (ns, rest) h in
      let a = both (bracketed (fair_of g) t.value.1) _ (ns, rest) t.second in
      let f = fair_sound g t.value.0 a.value.0 s t.value.1 t.value.1 a.value.1 t.first a.first in
      subst (Nodes g.system) (given (fair_nodes t.value.0 a.value.0) ns a.value.1 rest a.second)
      (omega (arith, f.0, fair_length (length a.value.0 - 1) t.value.0 a.value.0), nodes-fit g.system 0 (fair_nodes t.value.0 a.value.0) f.1)

  nodes_fit : (ns : List PlainNode) (s rest : Stream) → nodes_of g s ≡ Ok (ns, rest) → Nodes g.system ns
  unfolding nodes_of
  nodes_fit ns s rest h = let f = written_sound g ns s rest h in (f.0, nodes-fit g.system 0 ns f.1)

  net_fits : (r : Reader (List PlainNode)) → ((ns : List PlainNode) (s rest : Stream) → r s ≡ Ok (ns, rest) → Nodes g.system ns) → (rule : PlainRule) (s rest : Stream) → as_net r s ≡ Ok (rule, rest) → Responds g.system rule
  net_fits r fit rule s rest h =
      let a = both (r s) _ (rule, rest) h in
      subst (Responds g.system) (given (net a.value.0) rule a.value.1 rest a.second) (fit a.value.0 s a.value.1 a.first, tt)

  kind_apart : (s : Stream) (k : DiagramKind) → kind_in (ahead s) ≡ Some k → k ≢ Wait
  kind_apart s k h = at_chain (is (ahead s) marks.Chain) (is (ahead s) marks.Rank) k h
    where
      at_chain : (b c : Bool) (k : DiagramKind) → cond b (Some Chain) (cond c (Some Rank) None) ≡ Some k → k ≢ Wait
      at_chain true c Wait h = absurd cc
      at_chain false true Wait h = absurd cc
      at_chain false false Wait h = absurd cc
      at_chain b c Chain h = λ e. cc
      at_chain b c Rank h = λ e. cc

  response_diagram_fits : (rule : PlainRule) (s rest : Stream) → response_diagram_of g s ≡ Ok (rule, rest) → Responds g.system rule
  unfolding response_diagram_of
  response_diagram_fits rule s rest h =
      let o = operated (kind_in (ahead s)) (refusal s) (λ k. then_reads (λ t. drawn (diagram_of k 0 g.names g.system t)) (λ d. gives (diagram d)) (behind s)) (rule, rest) h in
      let b = both (drawn (diagram_of o.0 0 g.names g.system (behind s))) _ (rule, rest) o.2 in
      let d = diagram_obeys (record { kind = o.0; levels = 0; names = g.names; system = g.system }) (behind s) b.value.0 b.value.1 (drawn_is (diagram_of o.0 0 g.names g.system (behind s)) b.value.0 b.value.1 b.first) in
      let apart = kind_apart s o.0 o.1 in
      subst (Responds g.system) (given (diagram b.value.0) rule b.value.1 rest b.second) (((λ e. apart (sym d.same_kind ∙ e)), response_fits o.0 0 g.system b.value.0.nodes apart d.nodes), tt)

  nested_rule_fits : (rule : PlainRule) (s rest : Stream) → then_reads (nested_nodes_of g) (λ ns. gives (nested ns)) s ≡ Ok (rule, rest) → Responds g.system rule
  unfolding nested_nodes_of
  nested_rule_fits rule s rest h =
      let a = both (nested_nodes_of g s) _ (rule, rest) h in
      let f = nested_sound g a.value.0 s a.value.1 a.first in
      subst (Responds g.system) (given (nested a.value.0) rule a.value.1 rest a.second) ((f.0, nested-fit g.system 0 a.value.0 f.1), few_groups g.system a.value.0 f.2)

  net_rule_fits : (rule : PlainRule) (s rest : Stream) → net_rule_of g s ≡ Ok (rule, rest) → Responds g.system rule
  unfolding net_rule_of
  net_rule_fits rule s rest h = at_test (is (ahead s) marks.Group) h
    where
      at_test : (b : Bool) → cond b (then_reads (nested_nodes_of g) (λ ns. gives (nested ns)) (behind s)) (as_net (nodes_of g) s) ≡ Ok (rule, rest) → Responds g.system rule
      at_test true h = nested_rule_fits rule (behind s) rest h
      at_test false h = net_fits (nodes_of g) nodes_fit rule s rest h

  ruled_fits : (m : Manner) (rule : PlainRule) (s rest : Stream) → ruled_of g m s ≡ Ok (rule, rest) → Responds g.system rule
  unfolding ruled_of
  ruled_fits manners.Just rule s rest h = net_fits (just_nodes_of g) just_nodes_fit rule s rest h
  ruled_fits manners.Chain rule s rest h = net_fits (chain_nodes_of g) chain_nodes_fit rule s rest h
  ruled_fits manners.Ranked rule s rest h = net_fits (ranked_nodes_of g) ranked_nodes_fit rule s rest h
  ruled_fits manners.Fair rule s rest h = net_fits (fair_nodes_of g) fair_nodes_fit rule s rest h
  ruled_fits manners.Net rule s rest h = net_rule_fits rule s rest h
  ruled_fits manners.Diagram rule s rest h = response_diagram_fits rule s rest h

  rule_fits : (rule : PlainRule) (s rest : Stream) → rule_of g s ≡ Ok (rule, rest) → Responds g.system rule
  unfolding rule_of
  rule_fits rule s rest h = let o = operated (manner_in (ahead s)) (refusal s) (λ m. ruled_of g m (behind s)) (rule, rest) h in ruled_fits o.0 rule (behind s) rest o.2

  response_rule_fits : (c : PlainGoal × PlainRule) (s rest : Stream) → response_of g s ≡ Ok (c, rest) → Rules g.system c.0 c.1
  unfolding response_of
  response_rule_fits c s rest h =
      let a = both (formula_of g s) _ (c, rest) h in
      let b = both (behind_mark marks.Leads (formula_of g) a.value.1) _ (c, rest) a.second in
      let d = both (behind_mark marks.Within (sum_of g) b.value.1) _ (c, rest) b.second in
      let e = both (behind_mark marks.By (rule_of g) d.value.1) _ (c, rest) d.second in
      let r = behind_it marks.By (rule_of g) e.value.0 d.value.1 e.value.1 e.first in
      let made : PlainGoal × PlainRule = (response a.value.0 b.value.0 d.value.0, e.value.0) in
      subst (λ (x : PlainGoal × PlainRule). Rules g.system x.0 x.1) {x = made} (given made c e.value.1 rest e.second) (rule_fits e.value.0 r.0 e.value.1 r.1)

  claimed_fits : (claim : Claim) (c : PlainGoal × PlainRule) (s rest : Stream) → claimed_of g claim s ≡ Ok (c, rest) → Rules g.system c.0 c.1
  unfolding claimed_of
  claimed_fits claims.Invariant c s rest h = invariance_fits c s rest h
  claimed_fits claims.Waiting c s rest h = waiting_fits c s rest h
  claimed_fits claims.Response c s rest h = response_rule_fits c s rest h

  step_fits : (claim : Claim) (steps : List PlainStep) (x : PlainStep) (s rest : Stream) → step_of g claim (earlier_of steps) s ≡ Ok (x, rest) → Rules g.system x.goal x.rule
  unfolding step_of
  step_fits claim steps x s rest h =
      let a = both (new_name_of (earlier_of steps) s) _ (x, rest) h in
      let b = both (behind_mark marks.Colon (claimed_of g claim) a.value.1) _ (x, rest) a.second in
      let c = both (citations_of (earlier_of steps) b.value.1) _ (x, rest) b.second in
      let d = both (expected {X = Breach} marks.Semicolon c.value.1) _ (x, rest) c.second in
      let k = behind_it marks.Colon (claimed_of g claim) b.value.0 a.value.1 b.value.1 b.first in
      let made : PlainStep = record { name = a.value.0; goal = b.value.0.0; rule = b.value.0.1; cited = c.value.0 } in
      subst (λ (y : PlainStep). Rules g.system y.goal y.rule) {x = made} (given made x d.value.1 rest d.second) (claimed_fits claim b.value.0 k.0 b.value.1 k.1)

module _ (names : Names) (system : System) (text : List ℕ) (steps : List PlainStep) (read : script_spelled names system text ≡ Ok steps) where
  abbrev StepRules : PlainStep → Type 0
  StepRules s = Rules system s.goal s.rule

  steps_rule : All StepRules steps
  steps_rule =
      script_keeps names system (All StepRules) (λ claim earlier x s rest r p. All-push StepRules earlier x p (step_fits (setting_for names system) claim earlier x s rest r)) (All-nil StepRules) text steps read

  pub script_fits : All (λ s. RuleFits system s.goal s.rule) steps
  script_fits = All-weaker StepRules (λ s. RuleFits system s.goal s.rule) (λ s h. h.0) steps steps_rule

  pub script_grouped : All (λ s. HasFewGroups s.rule) steps
  script_grouped = All-weaker StepRules (λ s. HasFewGroups s.rule) (λ s h. h.1) steps steps_rule
