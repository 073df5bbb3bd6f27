-- The numbers of open conditions, from their places.
use Rattle.std.proofs.Common.{◌≡◌, ◌∙◌, ℕ, List, [], ◌∷◌, map, length, refl, ap, sym}
use Rattle.std.specs.Prelude.{Result, Ok, Err, IfOk, take}
use Rattle.std.proofs.lemmas.List.{length-map, take-map}
use Rattle.discharge.specs.declared.marks.Undecided.{Undecided}
use Rattle.discharge.specs.Marked.{place_of}
use Rattle.unclosed_conditions.specs.Unclosed.{LeavesOut}
use Rattle.posed_conditions.specs.declared.translated.TranslatedProgram.{TranslatedProgram}
use Rattle.posed_conditions.specs.declared.scripts.PosedScript.{PosedScript}
use Rattle.posed_conditions.specs.Translated.{IsOfText}
use Rattle.posed_conditions.specs.Posed.{IsPosedBy}
use Rattle.proof_reports.specs.declared.proofs.Report.{Report}
use Rattle.explanations.specs.Explained.{IsExplained, name_of, named_in, number, number_in, number_of, open_places, setting_of}

numbers_are : (us : List Undecided) → map number_of us ≡ map number (map place_of us)
numbers_are [] = refl
numbers_are (u ∷ us) = ap (λ (l : List ℕ). number_of u ∷ l) (numbers_are us)

module _ (program proof : List ℕ) (x : TranslatedProgram) (p : PosedScript) (limit : ℕ) (of : IsOfText program x) (by : IsPosedBy proof x p) (us : List Undecided)
    (left : LeavesOut (setting_of x) p.conditions.items (open_places x p) (map place_of us)) where
  -- what is told of those that were found is told of all that are left open
  tells : (r : Report) → map named_in r.steps.items ≡ map name_of p.script.steps.items → r.conditions ≡ length p.conditions.items → r.numbers.items ≡ map number_of us → r.failing ≡ length us
      → map number_in r.failures.items ≡ map number_of (take limit us) → IsExplained program proof limit r
  tells r steps conditions numbers failing first = record {
    source = x;
    posed = p;
    of = of;
    by = by;
    steps = steps;
    conditions = conditions;
    places = map place_of us;
    left = left;
    all = numbers ∙ numbers_are us;
    failing = failing ∙ sym (length-map us number_of) ∙ ap length (sym numbers);
    first = first ∙ sym (take-map number_of limit us) ∙ ap (take limit) (sym numbers);
  }

  pub explained : {E : Type 0} (r : Result Report E) → IfOk r (λ r. map named_in r.steps.items ≡ map name_of p.script.steps.items) → IfOk r (λ r. r.conditions ≡ length p.conditions.items)
      → IfOk r (λ r. r.numbers.items ≡ map number_of us) → IfOk r (λ r. r.failing ≡ length us) → IfOk r (λ r. map number_in r.failures.items ≡ map number_of (take limit us))
      → IfOk r (IsExplained program proof limit)
  explained (Ok report) steps conditions numbers failing first = tells report steps conditions numbers failing first
  explained (Err e) steps conditions numbers failing first = conditions
