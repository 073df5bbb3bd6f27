use Rattle.std.proofs.Common.{List, [], ℕ, length, map, refl, subst, sym, ap, ◌∙◌, arith}
use Rattle.st_form.specs.Condition.{Implication}
use Rattle.st_form.specs.Shared.{plain_condition}
use Rattle.linear_invariants.specs.Plain.{plain_equations}
use Rattle.proof_grammar.proofs.Growing.{nothing_stands, lines_stand, comments_add_nothing}
use Rattle.step_run.specs.Growth.{IsKept}
use Rattle.step_run.specs.Invariants.{entered}
use Rattle.step_run.specs.Views.{source_view}
use Rattle.step_run.proofs.Growing.{nothing-kept}
use Rattle.step_run.proofs.Readied.{all_named, few_variables}
use Rattle.step_run.proofs.invariants.entered.Goals as goal

pub overflow_cast-variables : goal.overflow_cast-variables
overflow_cast-variables c = omega (arith, ap length c.variables_of.ensures, few_variables (source_view c.args.subject.now.source) c.requires.subject.spelled)

pub loop-equation-init : goal.loop-equation-init
loop-equation-init c =
    let p = source_view c.args.subject.now.source in
    record {
      count = refl;
      proper = c.requires.proper;
      knows = c.in_ok-book.ensures;
      accepted = subst (λ (cs : List Implication). IsKept p c.new.result.items 0 cs) (sym (ap (map plain_condition) c.new-2.ensures))
          (subst (λ (t : List ℕ). IsKept p t 0 []) (sym c.new.ensures.items) (nothing-kept nothing_stands lines_stand comments_add_nothing p));
      same = ap (λ (t : List ℕ). entered p 1 (plain_equations c.args.equations.now) t) c.new.ensures.items;
    }

pub sentence-requires-clause-variables : goal.sentence-requires-clause-variables
sentence-requires-clause-variables c = ap length c.variables_of.ensures ∙ all_named (source_view c.args.subject.now.source) c.requires.subject.spelled
