-- Formulas, integer expressions and transitions: trees that break no rule are what the grammar with rules spells.
use Rattle.std.proofs.Common.{◌≡◌, ℕ, Bool, ◌+◌, false, not, List, [], ◌∷◌, length, Option, Some, None, inl, inr, refl, ap, ◌∙◌, ◌⊎◌, pos, slice_get, unwrap_or}
use Rattle.std.specs.Prelude.{is_none}
use Rattle.st_tokens.specs.Stream.{Lexeme}
use Rattle.st_reading.specs.Rule.{Rule}
use Rattle.st_reading.specs.Rule as rules
use Rattle.st_reading.specs.Breaches.{broke}
use Rattle.st_reading.specs.Reading.{Label, label_of}
use Rattle.st_linear.specs.Linear.{Linear, number as constant}
use Rattle.st_form.specs.Formula.{Formula, truth_value}
use Rattle.observations.specs.declared.Fairness.{Fairness}
use Rattle.observations.specs.declared.Fairness.TheVariants.{Compassionate, Just, Unfair}
use Rattle.expression_typer.specs.Naming.{names_of}
use Rattle.assertions.specs.Reading.{number_of, truth_of}
use Rattle.rule_fits.specs.Fitting.{fairness_of}
use Rattle.ranked_net.specs.Making.{is_uncompassionate, is_unfair, owes_compassion, owes_justice}
use Rattle.diagram_reader.specs.Transitions.{transition_named}
use Rattle.proof_script.specs.Listing.{Setting}
use Rattle.proof_grammar.specs.Units.{IsFormula, IsNumber, IsTransition, IsHelper, IsGroup, a_transition, a_helper, a_group}
use Rattle.proof_grammar.proofs.Meanings.{formula_typed, formula_meant, number_typed, number_meant}
use Rattle.script_grammar.specs.RawScripts.{RawUnit, RawTransition}
use Rattle.script_grammar.specs.Sizes.{transition_size}
use Rattle.script_grammar.specs.Drawings.{IsUnit, IsReference, first_place, spells_unit, spells_reference}
use Rattle.script_grammar.specs.Nesting.{first_passing, form_passes, sum_passes}
use Rattle.script_grammar.specs.Breaking.{nesting_rules, typing_rules}
use Rattle.script_grammar.specs.Meaning.{form_meant, sum_meant, transition_meant}
use Rattle.script_grammar.specs.Rules.{form_rules, sum_rules, transition_rules, helper_rules, group_rules, owed_rules}
use Rattle.script_grammar.specs.Theorems.{Forms, Sums}
use Rattle.script_grammar.proofs.Unbroken.{both_kept, none_broken, not_broken, is_kept, is_typed, no_fault, typed_value, is_there, there_is}
use Rattle.script_grammar.proofs.Trees.{Tree}
use Rattle.script_grammar.proofs.UnitLaws.{forms, sums, none_passing, within_32}

-- FAIRNESS
just_is : (o : Option Fairness) → not (owes_justice o) ≡ false → (o ≡ Some Just) ⊎ (o ≡ Some Compassionate)
just_is None e = absurd cc
just_is (Some Unfair) e = absurd cc
just_is (Some Just) e = inl refl
just_is (Some Compassionate) e = inr refl

is_owed : (o : Option Fairness) → (o ≡ Some Just) ⊎ (o ≡ Some Compassionate) → not (owes_justice o) ≡ false
is_owed o (inl e) = rw e refl
is_owed o (inr e) = rw e refl

compassionate_is : (o : Option Fairness) → not (owes_compassion o) ≡ false → o ≡ Some Compassionate
compassionate_is None e = absurd cc
compassionate_is (Some Unfair) e = absurd cc
compassionate_is (Some Just) e = absurd cc
compassionate_is (Some Compassionate) e = refl

compassion_is_owed : (o : Option Fairness) → o ≡ Some Compassionate → not (owes_compassion o) ≡ false
compassion_is_owed o e = rw e refl

-- a transition that is there, and keeps the rule
owed_kept : (fails : Option ℕ → Bool) (rule : Rule) (n : ℕ) (l : Label) (k : ℕ) (o : Option ℕ) → o ≡ Some k → fails (Some k) ≡ false → owed_rules fails rule n l o ≡ []
owed_kept fails rule n l k o e f = ap (owed_rules fails rule n l) e ∙ not_broken (fails (Some k)) n (broke rule l.place) f

kept_owed : (fails : Option ℕ → Bool) (rule : Rule) (n : ℕ) (l : Label) (o : Option ℕ) → owed_rules fails rule n l o ≡ [] → (o ≡ Some (unwrap_or o 0)) × (fails (Some (unwrap_or o 0)) ≡ false)
kept_owed fails rule n l None h = absurd cc
kept_owed fails rule n l (Some k) h = (refl, is_kept (fails (Some k)) n (broke rule l.place) h)

-- no level is too many
none_nested : (at : ℕ) (o : Option (ℕ × ℕ)) → nesting_rules at o ≡ [] → o ≡ None
none_nested at None h = refl
none_nested at (Some p) h = absurd cc

module _ (g : Setting) where
  -- EXPRESSIONS
  pub form_tree : (ts : List Lexeme) (f : Formula) → IsFormula g ts f → Tree (IsUnit Forms) (form_rules g) (form_meant g) ts f
  form_tree ts f l = record {
    raw = record { tree = l.tree; text = ts; place = first_place ts; size = length ts };
    spells = spells_unit ts l.tree (32, l.spells);
    lawful = λ at. none_broken (ap (nesting_rules at) (none_passing forms ts l.tree l.spells)) (no_fault f (at + length ts) (truth_of (names_of g.names) l.tree) (formula_typed g ts f l));
    means = typed_value (truth_value false) f (truth_of (names_of g.names) l.tree) (formula_typed g ts f l);
  }

  pub form_lawful : (ts : List Lexeme) (u : RawUnit) (at : ℕ) → IsUnit Forms ts u → form_rules g at u ≡ [] → IsFormula g ts (form_meant g u)
  form_lawful ts u at (spells_unit us e l) h =
      let k = both_kept (nesting_rules at (first_passing form_passes us)) (typing_rules (at + length us) (truth_of (names_of g.names) e)) h in
      formula_meant g us _ e (within_32 forms us e l (none_nested at (first_passing form_passes us) k.0)) (is_typed (truth_value false) (at + length us) (truth_of (names_of g.names) e) k.1)

  pub sum_tree : (ts : List Lexeme) (f : Linear) → IsNumber g ts f → Tree (IsUnit Sums) (sum_rules g) (sum_meant g) ts f
  sum_tree ts f l = record {
    raw = record { tree = l.tree; text = ts; place = first_place ts; size = length ts };
    spells = spells_unit ts l.tree (32, l.spells);
    lawful = λ at. none_broken (ap (nesting_rules at) (none_passing sums ts l.tree l.spells)) (no_fault f (at + length ts) (number_of (names_of g.names) l.tree) (number_typed g ts f l));
    means = typed_value (constant (pos 0)) f (number_of (names_of g.names) l.tree) (number_typed g ts f l);
  }

  pub sum_lawful : (ts : List Lexeme) (u : RawUnit) (at : ℕ) → IsUnit Sums ts u → sum_rules g at u ≡ [] → IsNumber g ts (sum_meant g u)
  sum_lawful ts u at (spells_unit us e l) h =
      let k = both_kept (nesting_rules at (first_passing sum_passes us)) (typing_rules (at + length us) (number_of (names_of g.names) e)) h in
      number_meant g us _ e (within_32 sums us e l (none_nested at (first_passing sum_passes us) k.0)) (is_typed (constant (pos 0)) (at + length us) (number_of (names_of g.names) e) k.1)

  -- TRANSITIONS
  pub transition_tree : (ts : List Lexeme) (n : ℕ) → IsTransition g ts n → Tree IsReference (transition_rules g) (transition_meant g) ts n
  transition_tree ts n (a_transition t us part m e p f) = record {
    raw = record { label = label_of t; part = part };
    spells = spells_reference t us part e p;
    lawful = λ at. not_broken (is_none (transition_named g.names g.system t.text part)) (at + transition_size (record { label = label_of t; part = part })) (broke rules.UnknownTransition t.start) (ap is_none f);
    means = there_is 0 m (transition_named g.names g.system t.text part) f;
  }

  pub transition_lawful : (ts : List Lexeme) (r : RawTransition) (at : ℕ) → IsReference ts r → transition_rules g at r ≡ [] → IsTransition g ts (transition_meant g r)
  transition_lawful ts r at (spells_reference t us part e p) h =
      let o = transition_named g.names g.system t.text part in
      a_transition t us part (unwrap_or o 0) e p (is_there 0 o (is_kept (is_none o) (at + transition_size (record { label = label_of t; part = part })) (broke rules.UnknownTransition t.start) h))

  pub helper_tree : (ts : List Lexeme) (n : ℕ) → IsHelper g ts n → Tree IsReference (helper_rules g) (transition_meant g) ts n
  helper_tree ts n (a_helper us m (a_transition t vs part k e p f) j) = record {
    raw = record { label = label_of t; part = part };
    spells = spells_reference t vs part e p;
    lawful = λ at. owed_kept (is_unfair g.system) rules.UnfairHelper (at + transition_size (record { label = label_of t; part = part })) (label_of t) k (transition_named g.names g.system t.text part) f (is_owed (slice_get (fairness_of g.system) k) j);
    means = there_is 0 k (transition_named g.names g.system t.text part) f;
  }

  pub helper_lawful : (ts : List Lexeme) (r : RawTransition) (at : ℕ) → IsReference ts r → helper_rules g at r ≡ [] → IsHelper g ts (transition_meant g r)
  helper_lawful ts r at (spells_reference t us part e p) h =
      let o = transition_named g.names g.system t.text part in
      let k = kept_owed (is_unfair g.system) rules.UnfairHelper (at + transition_size (record { label = label_of t; part = part })) (label_of t) o h in
      a_helper (t ∷ us) (unwrap_or o 0) (a_transition t us part (unwrap_or o 0) e p k.0) (just_is (slice_get (fairness_of g.system) (unwrap_or o 0)) k.1)

  pub group_tree : (ts : List Lexeme) (n : ℕ) → IsGroup g ts n → Tree IsReference (group_rules g) (transition_meant g) ts n
  group_tree ts n (a_group us m (a_transition t vs part k e p f) j) = record {
    raw = record { label = label_of t; part = part };
    spells = spells_reference t vs part e p;
    lawful = λ at. owed_kept (is_uncompassionate g.system) rules.NotCompassionate (at + transition_size (record { label = label_of t; part = part })) (label_of t) k (transition_named g.names g.system t.text part) f (compassion_is_owed (slice_get (fairness_of g.system) k) j);
    means = there_is 0 k (transition_named g.names g.system t.text part) f;
  }

  pub group_lawful : (ts : List Lexeme) (r : RawTransition) (at : ℕ) → IsReference ts r → group_rules g at r ≡ [] → IsGroup g ts (transition_meant g r)
  group_lawful ts r at (spells_reference t us part e p) h =
      let o = transition_named g.names g.system t.text part in
      let k = kept_owed (is_uncompassionate g.system) rules.NotCompassionate (at + transition_size (record { label = label_of t; part = part })) (label_of t) o h in
      a_group (t ∷ us) (unwrap_or o 0) (a_transition t us part (unwrap_or o 0) e p k.0) (compassionate_is (slice_get (fairness_of g.system) (unwrap_or o 0)) k.1)
