-- What is shown of a proof that was posed is said of its texts.
use Rattle.std.proofs.Common.{◌≡◌, ◌∙◌, ℕ, suc, List, [], ◌∷◌, length, map, ap, sym, subst, arith, All}
use Rattle.std.specs.Prelude.{Ok, None}
use Rattle.std.proofs.lemmas.List.{length-map}
use Rattle.std.proofs.lemmas.List.Elements.{All-map}
use Rattle.st_form.specs.Condition.{Implication}
use Rattle.st_form.specs.Shared.{plain_condition}
use Rattle.farkas_check.specs.Problem.{Setting}
use Rattle.farkas_check.specs.PlainProblem.{setting}
use Rattle.farkas_check.specs.Meaning.{IsValidCondition}
use Rattle.farkas_check.proofs.Law.{certified}
use Rattle.control_facts.specs.Alternatives.{control_of}
use Rattle.transition_system.specs.Plain.{plain_system}
use Rattle.transition_system.specs.Systems.{System}
use Rattle.temporal_goals.specs.Texts.{PlainStep}
use Rattle.temporal_goals.specs.Plain.{plain_script}
use Rattle.script_laws.specs.Script.{script_list}
use Rattle.script_laws.specs.Refused.{refused_at}
use Rattle.script_obligations.specs.Laws.{AreThese}
use Rattle.proof_script.specs.Script.{script_spelled}
use Rattle.spl_typer.specs.Programs.{Typed}
use Rattle.step_report.specs.Goals.{proved_text}
use Rattle.step_plan.specs.declared.status.Status.TheVariants.{Proved}
use Rattle.step_run.specs.Conditions.{system_of, setting_of, drafts, conditions_of, passes_limit, steps_spelled}
use Rattle.step_run.specs.Source.{source_spelled}
use Rattle.step_run.proofs.Typed.{spelled_ok}
use Rattle.step_run.proofs.Headline.{Laws, AllValid, reads, hold}
use Rattle.step_answers.specs.declared.answer.Answer.{Answer}
use Rattle.posed_conditions.specs.declared.translated.TranslatedProgram.{TranslatedProgram}
use Rattle.posed_conditions.specs.declared.scripts.PosedScript.{PosedScript}
use Rattle.posed_conditions.specs.Translated.{IsTranslated, IsOfText, typed_of}
use Rattle.posed_conditions.specs.Posed.{IsPosed, IsPosedBy}
use Rattle.found_trees.specs.Certified.{HasCertificate}
use Rattle.certified_answers.specs.Certified.{IsCertified}
use Rattle.certified_answers.specs.Enough.{CertificatesAreEnough, IsReport}

-- what was posed, in the words of the headline
system-is : (x : TranslatedProgram) → IsTranslated x → plain_system x.system ≡ system_of (typed_of x)
unfolding system_of
system-is x made = made.system

setting-is : (x : TranslatedProgram) → IsTranslated x → setting x.components x.program.variables ≡ setting_of (typed_of x)
unfolding setting_of
setting-is x made = ap (λ k. setting k x.program.variables) made.control

script-is : (qt : List ℕ) (x : TranslatedProgram) (s : PosedScript) → IsTranslated x → IsPosedBy qt x s → steps_spelled (typed_of x) qt ≡ Ok (plain_script s.script)
script-is qt x s made by =
    subst (λ (text : List ℕ). script_spelled x.names (system_of (typed_of x)) text ≡ Ok (plain_script s.script)) by.same
    (subst (λ (system : System). script_spelled x.names system by.made.text ≡ Ok (plain_script s.script)) (system-is x made) by.made.spelled)

few-is : (x : TranslatedProgram) (s : PosedScript) → IsTranslated x → IsPosed x s → passes_limit (typed_of x) (plain_script s.script) ≡ None
unfolding drafts
few-is x s made it = subst (λ (system : System). refused_at [] (script_list system (plain_script s.script)) ≡ None) (system-is x made) it.fits

conditions-are : (x : TranslatedProgram) (s : PosedScript) → IsTranslated x → IsPosed x s → map plain_condition s.conditions.items ≡ conditions_of (typed_of x) (plain_script s.script)
unfolding drafts
conditions-are x s made it = subst (λ (system : System). AreThese s.conditions.items (script_list system (plain_script s.script))) (system-is x made) it.made

-- a condition with a certificate is valid
valid-one : (p : Typed) (c : Implication) → HasCertificate (setting_of p) c → IsValidCondition (control_of p.processes) c.given c.shown
unfolding setting_of
valid-one p c (t, is) = certified (setting_of p) c.given c.shown t is

module _ (law : Laws) where
  valid-all : (p : Typed) (cs : List Implication) → All (HasCertificate (setting_of p)) cs → AllValid law p cs
  valid-all p [] all = tt
  valid-all p (c ∷ cs) all = (valid-one p c (all 0 c (omega arith)), valid-all p cs (λ k d below. all (suc k) d (omega (arith, below))))

  pub certified-of : (pt qt : List ℕ) (x : TranslatedProgram) (s : PosedScript) (a : Answer) → IsOfText pt x → IsPosedBy qt x s
      → All (λ c. HasCertificate (setting x.components x.program.variables) (plain_condition c)) s.conditions.items
      → a.status ≡ Proved → a.text.items ≡ proved_text x.names (plain_script s.script) (length s.conditions.items) → IsCertified pt qt a
  certified-of pt qt x s a of by all proved said =
      let p : Typed = typed_of x in
      let steps : List PlainStep = plain_script s.script in
      let source : source_spelled pt ≡ Ok p = spelled_ok pt of.made.tree p of.spells of.made.types in
      let script : steps_spelled p qt ≡ Ok steps = script-is qt x s of.made by in
      let conditions : map plain_condition s.conditions.items ≡ conditions_of p steps = conditions-are x s of.made by.made in
      let here : All (HasCertificate (setting_of p)) (map plain_condition s.conditions.items) =
      All-map (HasCertificate (setting_of p)) plain_condition s.conditions.items
      (subst (λ (k : Setting). All (λ c. HasCertificate k (plain_condition c)) s.conditions.items) (setting-is x of.made) all) in
      let each : All (HasCertificate (setting_of p)) (conditions_of p steps) = subst (λ (cs : List Implication). All (HasCertificate (setting_of p)) cs) conditions here in
      let count : length s.conditions.items ≡ length (conditions_of p steps) = sym (length-map s.conditions.items plain_condition) ∙ ap length conditions in
      record {
        program = p;
        steps = steps;
        reads = reads law pt qt p steps source script (few-is x s of.made by.made);
        certified = each;
        holds = hold law p steps (pt, source) (qt, script) (valid-all p (conditions_of p steps) each);
        proved = proved;
        said = said ∙ ap (proved_text x.names steps) count;
      }

  pub are-enough : CertificatesAreEnough
  unfolding CertificatesAreEnough
  are-enough pt qt x s a of by all told = certified-of pt qt x s a of by all told.proved told.said

pub enough-here : CertificatesAreEnough → (pt qt : List ℕ) (x : TranslatedProgram) (s : PosedScript) (a : Answer) → IsOfText pt x → IsPosedBy qt x s
    → All (λ c. HasCertificate (setting x.components x.program.variables) (plain_condition c)) s.conditions.items → IsReport x s a → IsCertified pt qt a
unfolding CertificatesAreEnough
enough-here law pt qt x s a of by all told = law pt qt x s a of by all told
