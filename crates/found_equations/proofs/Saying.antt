-- From the end of `invariants` to what it says.
use Rattle.std.proofs.Common.{◌≡◌, ℕ, List, [], refl, sym, ap, subst}
use Rattle.std.specs.Prelude.{Option, Some, None}
use Rattle.spl_typer.specs.Programs.{Typed}
use Rattle.spl_parser.specs.Theorems.{ReadIsSpelled}
use Rattle.program_rules.specs.Theorems.{LawfulIsTyping}
use Rattle.equation_laws.specs.Equations.{PlainEquation, found}
use Rattle.spl_typer.proofs.Tabled.{kinds_stand}
use Rattle.proof_grammar.proofs.Growing.{nothing_stands}
use Rattle.declared_names.proofs.Whole.{names_are_words}
use Rattle.step_report.specs.declared.refusals.FileRole.TheVariants.{Program}
use Rattle.step_plan.specs.Outcome.{Outcome}
use Rattle.step_plan.specs.Plan.{then_plan}
use Rattle.step_run.specs.Conditions.{system_of, words_over}
use Rattle.step_run.specs.Invariants.{entered, looked_for, invariants_of}
use Rattle.step_run.specs.WellFormed.{IsProgram}
use Rattle.step_run.specs.Plans.{source_of_text, find_in}
use Rattle.step_run.proofs.Headline.{IsProved, file_proved}
use Rattle.step_run.proofs.Found.{source_found}
use Rattle.step_run.proofs.Meant.{source_means, program_types, program_well}
use Rattle.found_equations.specs.Lines.{AreLines}
use Rattle.found_equations.specs.Said.{SaysEquations, InvariantsSayWhatWasFound}
use Rattle.found_equations.proofs.Equations.{SpansFound, basis, hold, exact, ready, few}
use Rattle.found_equations.proofs.Entering.{all_lines}

-- equations are found, and the text is that of their lines
record IsLooked (p : Typed) (text : List ℕ) : Type 0 where
  equations : List PlainEquation
  these : found (system_of p) ≡ Some equations
  same : text ≡ entered p 1 equations []

looked : (p : Typed) (o : Outcome) → invariants_of p ≡ o → IsProved o → IsLooked p o.text
unfolding invariants_of
looked p o e proved = by (found (system_of p)) refl e where
  by : (r : Option (List PlainEquation)) → found (system_of p) ≡ r → looked_for p r ≡ o → IsLooked p o.text
  by None are g = absurd (let same : IsProved (looked_for p None) = subst IsProved (sym g) proved in cc)
  by (Some es) are g = record { equations = es; these = are; same = sym (ap (λ (x : Outcome). x.text) g) }

says_of : (program text : List ℕ) (p : Typed) → SpansFound → LawfulIsTyping → IsProgram program p → IsLooked p text → SaysEquations program text
says_of program text p spans meant is_program l =
    let well = program_well meant program p is_program in
    let types = program_types meant program p is_program in
    record {
      typed = p;
      is_program = is_program;
      found = l.equations;
      are_these = l.these;
      basis = basis p well spans l.equations l.these;
      hold = hold p well l.equations l.these;
      exact = exact p well l.equations l.these;
      lines = subst (AreLines p [] [] 1 l.equations) (sym l.same)
          (all_lines p (names_are_words program is_program.tree p is_program.spelled types) (nothing_stands (words_over p)) l.equations (few p well l.equations l.these)
          (ready p well spans (kinds_stand is_program.tree p types) l.equations l.these));
    }

pub says : SpansFound → ReadIsSpelled → LawfulIsTyping → InvariantsSayWhatWasFound
says spans spelled meant told name program o is e proved =
    let first = file_proved told o Program name program (λ text. then_plan (source_of_text text) find_in) is e proved in
    let source = source_found told o program first.1 proved in
    says_of program o.text source.0 spans meant (source_means spelled meant program source.0 source.1) (looked source.0 o source.2 proved)
