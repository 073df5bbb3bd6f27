-- The report of a proof whose conditions are counted.
use Rattle.std.proofs.Common.{arith, ◌≡◌, ◌∙◌, ◌+◌, ◌≤◌, ◌<◌, ℕ, zero, suc, List, [], ◌∷◌, ◌++◌, map, length, refl, ap, sym, subst, inr}
use Rattle.std.specs.Prelude.{Result, Ok, Err, IfOk, IfSome, slice_get, take}
use Rattle.std.proofs.Math.Numerals.{add-one}
use Rattle.std.proofs.lemmas.List.{length-map}
use Rattle.st_form.specs.Shared.{plain_condition}
use Rattle.transition_system.specs.Plain.{plain_system}
use Rattle.temporal_goals.specs.declared.scripts.Script.{Script}
use Rattle.temporal_goals.specs.Plain.{plain_script}
use Rattle.temporal_goals.specs.Texts.{PlainStep}
use Rattle.vc_generator.specs.Building.{Draft}
use Rattle.script_laws.specs.Script.{script_list}
use Rattle.condition_counts.specs.Counts.{counts_of}
use Rattle.proof_script.specs.Script.{script_spelled}
use Rattle.posed_conditions.specs.declared.translated.TranslatedProgram.{TranslatedProgram}
use Rattle.posed_conditions.specs.declared.scripts.PosedScript.{PosedScript}
use Rattle.posed_conditions.specs.Translated.{IsOfText}
use Rattle.posed_conditions.specs.Posed.{IsPosedBy}
use Rattle.proof_reports.specs.declared.proofs.Report.{Report}
use Rattle.proof_reports.specs.declared.proofs.StepReport.{StepReport}
use Rattle.explanations.specs.Explained.{IsOutlined, count_in, name_of, named_in}
use Rattle.explanations.specs.Refused.{AreRefused, IsNoScript}

-- one more of a list
pub take-more : (ns : List ℕ) (i n : ℕ) → i < length ns → IfSome (slice_get ns i) (λ m. n ≡ m) → take (suc i) ns ≡ take i ns ++ n ∷ []
take-more [] i n less at = absurd (omega (arith, less))
take-more (x ∷ xs) zero n less at = ap (λ (k : ℕ). k ∷ []) (sym at)
take-more (x ∷ xs) (suc i) n less at = ap (λ (l : List ℕ). x ∷ l) (take-more xs i n (omega (arith, less)) at)

-- and of the numbers that a report tells of its steps
counted-more : (out : List StepReport) (new : StepReport) → map count_in (out ++ new ∷ []) ≡ map count_in out ++ count_in new ∷ []
counted-more [] new = refl
counted-more (o ∷ out) new = ap (λ (ns : List ℕ). count_in o ∷ ns) (counted-more out new)

pub told-more : (items out : List StepReport) (new : StepReport) (all : List ℕ) (i n : ℕ) → items ≡ out ++ new ∷ [] → map count_in out ≡ take i all
    → count_in new ≡ n → i < length all → IfSome (slice_get all i) (λ m. n ≡ m) → map count_in items ≡ take (i + 1) all
told-more items out new all i n is before says less at =
    ap (map count_in) is
    ∙ counted-more out new
    ∙ ap (λ (ns : List ℕ). ns ++ count_in new ∷ []) before
    ∙ ap (λ (k : ℕ). take i all ++ k ∷ []) says
    ∙ sym (take-more all i n less at)
    ∙ ap (λ (k : ℕ). take k all) (sym (add-one i))

-- as many as there are
pub take-whole : (ns : List ℕ) (k : ℕ) → length ns ≤ k → take k ns ≡ ns
take-whole [] zero few = refl
take-whole [] (suc k) few = refl
take-whole (x ∷ xs) zero few = absurd (omega (arith, few))
take-whole (x ∷ xs) (suc k) few = ap (λ (l : List ℕ). x ∷ l) (take-whole xs k (omega (arith, few)))

-- a text that is no script over the program of another refuses both
pub no-proof : (program proof : List ℕ) (x : TranslatedProgram) → IsOfText program x → IsNoScript x proof → AreRefused program proof
no-proof program proof x of refused = (refused.0, refused.1, inr (x, of, refused.2))

module _ (program proof : List ℕ) (x : TranslatedProgram) (s : Script) (of : IsOfText program x) (by : script_spelled x.names (plain_system x.system) proof ≡ Ok (plain_script s)) where
  pub outlined : {E : Type 0} (r : Result Report E) (told : List StepReport) (all : ℕ) → map named_in told ≡ map name_of s.steps.items
      → map count_in told ≡ counts_of (plain_system x.system) (plain_script s) → all ≡ length (script_list (plain_system x.system) (plain_script s)) → IfOk r (λ r. r.conditions ≡ all)
      → IfOk r (λ r. r.steps.items ≡ told) → IfOk r (λ r. r.numbers.items ≡ []) → IfOk r (λ r. r.failing ≡ 0) → IfOk r (λ r. r.failures.items ≡ []) → IfOk r (IsOutlined program proof)
  outlined (Ok report) told all names counts count conditions steps none failing unexplained = record {
    source = x;
    script = s;
    of = of;
    by = by;
    steps = ap (map named_in) steps ∙ names;
    counts = ap (map count_in) steps ∙ counts;
    conditions = conditions ∙ count;
    none = none;
    failing = failing;
    unexplained = unexplained;
  }
  outlined (Err e) told all names counts count conditions steps none failing unexplained = conditions

same_ok : {A E : Type 0} (r : Result A E) (a b : A) → r ≡ Ok a → r ≡ Ok b → a ≡ b
same_ok r a b e f = cc

-- where the conditions are made, they are as many as were counted
pub posed-counted : (program proof : List ℕ) (r : Report) (o : IsOutlined program proof r) (p : PosedScript) → IsPosedBy proof o.source p → r.conditions ≡ length p.conditions.items
posed-counted program proof r o p by =
    let x = o.source in
    let system = plain_system x.system in
    let spelled = subst (λ (text : List ℕ). script_spelled x.names system text ≡ Ok (plain_script p.script)) by.same by.made.spelled in
    let same = same_ok (script_spelled x.names system proof) (plain_script o.script) (plain_script p.script) o.by spelled in
    let listed : List Draft = script_list system (plain_script p.script) in
    o.conditions
    ∙ ap (λ (steps : List PlainStep). length (script_list system steps)) same
    ∙ sym (length-map listed (λ (d : Draft). d.condition))
    ∙ sym (ap length by.made.made)
    ∙ length-map p.conditions.items plain_condition
