-- Whether a text with a further sentence is accepted: of its conditions only the new ones are open.
use Rattle.std.proofs.Common.{◌≡◌, ℕ, zero, suc, ◌+◌, ◌<◌, ◌≤◌, Bool, true, false, ◌&&◌, List, [], ◌∷◌, ◌++◌, length, map, take, drop, get_or, refl, sym, ap, ◌∙◌, subst, arith, length-append, take-append-drop, take_at}
use Rattle.std.specs.Prelude.{Option, Some, None, is_none, Ok, Err}
use Rattle.std.proofs.lemmas.List.{drop_more, drop_all}
use Rattle.st_form.specs.Condition.{Implication}
use Rattle.st_form.specs.Shared.{given_of, shown_of, plain_condition}
use Rattle.st_form.specs.declared.conditions.Condition.{Condition}
use Rattle.farkas_check.specs.Problem.{Setting}
use Rattle.search_laws.specs.Searchable.{AreSearchable}
use Rattle.search_laws.specs.Moves.{Verdict, valid, open_at, wide_at, decided}
use Rattle.search_verdicts.specs.declared.verdict.Verdict as code
use Rattle.linear_prover.specs.Verdicts.{is_valid, IsUnlessValid}
use Rattle.transition_system.specs.Systems.{System}
use Rattle.transition_system.specs.Bounds.{IsSystem}
use Rattle.temporal_goals.specs.Texts.{PlainStep}
use Rattle.vc_generator.specs.Refusing.{Begins}
use Rattle.vc_generator.specs.declared.faults.VcFault.{VcFault}
use Rattle.script_laws.specs.Script.{script_list}
use Rattle.script_laws.specs.Refused.{refused_at}
use Rattle.obligations.specs.Made.{AreAppended}
use Rattle.spl_translation.proofs.Systemic.{translation_is_system}
use Rattle.spl_typer.specs.Programs.{Typed}
use Rattle.st_reading.specs.Reading.{Stop}
use Rattle.st_reading.specs.Breaches.{Breach}
use Rattle.proof_grammar.proofs.Growing.{lines_stand, scripts_go_on}
use Rattle.step_run.specs.Source.{IsSpelled}
use Rattle.step_run.specs.Conditions.{system_of, setting_of, words_over, steps_spelled, drafts, conditions_of, passes_limit}
use Rattle.step_run.specs.Verified.{verdict_on}
use Rattle.equation_laws.specs.Equations.{PlainEquation, found}
use Rattle.step_plan.specs.declared.status.Status.{Status}
use Rattle.step_plan.specs.declared.status.Status.TheVariants.{Proved, InvariantsWide}
use Rattle.step_plan.specs.Outcome.{Outcome}
use Rattle.step_report.specs.Ends.{wide_invariants_text}
use Rattle.step_run.specs.Invariants.{is_decided, are_decided, accepts_steps, accepts, invariants_text, looked_for, invariants_of}
use Rattle.step_run.specs.Growth.{IsKept, AreAccepted, AreConditions, AreListed, AreTaken, AreTried, Judges}
use Rattle.step_run.proofs.Typed.{well_typed}

-- the system of a program
pub system-whole : (p : Typed) (system : System) → IsSpelled p → system ≡ system_of p → IsSystem system
unfolding system_of
system-whole p system spelled same = subst IsSystem (sym same) (translation_is_system p.variables p.initial p.processes p.locations p.statements (well_typed p spelled))

-- the conditions of a script
module _ (p : Typed) (system : System) (steps : List PlainStep) (same : system ≡ system_of p) where
  drafts-are : script_list system steps ≡ drafts p steps
  unfolding drafts
  drafts-are = ap (λ s. script_list s steps) same

  passes-is : (o : Option (VcFault × ℕ)) → refused_at [] (script_list system steps) ≡ o → passes_limit p steps ≡ o
  passes-is o is = ap (refused_at []) (sym drafts-are) ∙ is

  -- those of the first steps, as it is asked for, and those of all, as it is answered
  pub known-are : (cs : List Implication) → AreAccepted p steps cs → AreAppended system steps cs
  known-are cs a = record {
    none = ap (refused_at []) drafts-are ∙ a.few;
    these = a.these ∙ ap (map (λ d. d.condition)) (sym drafts-are);
  }

  pub conditions-are : (cs : List Condition) → AreAppended system steps (map plain_condition cs) → AreSearchable (length p.variables) cs → AreConditions p steps cs
  conditions-are cs made searchable = record {
    few = passes-is None made.none;
    these = made.these ∙ ap (map (λ d. d.condition)) drafts-are;
    searchable = searchable;
  }

  pub conditions-not : (cs : List Condition) (passed : VcFault × ℕ) → refused_at [] (script_list system steps) ≡ Some passed → AreListed p steps cs false
  conditions-not cs passed is = (passed, passes-is (Some passed) is)

-- verdicts
valid-is : (v : Verdict) → is_valid v ≡ is_decided v
valid-is (valid t) = refl
valid-is (open_at path state) = refl
valid-is (wide_at path stage) = refl

verdict-says : (k : Setting) (c : Condition) (b : Bool) → is_valid (decided k (given_of c) (shown_of c)) ≡ b → is_decided (verdict_on k (plain_condition c)) ≡ b
unfolding verdict_on
verdict-says k c b e = sym (valid-is (decided k (given_of c) (shown_of c))) ∙ e

one-valid : (k : Setting) (c : Condition) (cs : List Condition) → IsUnlessValid k (given_of c) (shown_of c) None → are_decided k (map plain_condition (c ∷ cs)) ≡ are_decided k (map plain_condition cs)
one-valid k c cs e = ap (λ b. b && are_decided k (map plain_condition cs)) (verdict-says k c true e)

one-open : (k : Setting) (c : Condition) (cs : List Condition) (v : code.Verdict) → IsUnlessValid k (given_of c) (shown_of c) (Some v) → are_decided k (map plain_condition (c ∷ cs)) ≡ false
one-open k c cs v h = ap (λ b. b && are_decided k (map plain_condition cs)) (verdict-says k c false h.0)

-- the conditions from a place on, in a loop over all
module _ (k : Setting) (cs : List Condition) (i : ℕ) where
  turned : (c : Condition) → i < length cs → c ≡ get_or cs i c → are_decided k (map plain_condition (c ∷ drop (i + 1) cs)) ≡ are_decided k (map plain_condition (drop i cs))
  turned c within is = ap (λ (xs : List Condition). are_decided k (map plain_condition xs)) (ap (λ (x : Condition). x ∷ drop (i + 1) cs) is ∙ sym (drop_more cs i c within))

  pub on-valid : (c : Condition) → i < length cs → c ≡ get_or cs i c → IsUnlessValid k (given_of c) (shown_of c) None
      → are_decided k (map plain_condition (drop i cs)) ≡ are_decided k (map plain_condition cs) → are_decided k (map plain_condition (drop (i + 1) cs)) ≡ are_decided k (map plain_condition cs)
  on-valid c within is h so = sym (one-valid k c (drop (i + 1) cs) h) ∙ turned c within is ∙ so

  pub on-open : (c : Condition) (v : code.Verdict) → i < length cs → c ≡ get_or cs i c → IsUnlessValid k (given_of c) (shown_of c) (Some v)
      → are_decided k (map plain_condition (drop i cs)) ≡ are_decided k (map plain_condition cs) → false ≡ are_decided k (map plain_condition cs)
  on-open c v within is h so = sym (one-open k c (drop (i + 1) cs) v h) ∙ turned c within is ∙ so

  pub on-end : length cs ≤ i → are_decided k (map plain_condition (drop i cs)) ≡ are_decided k (map plain_condition cs) → true ≡ are_decided k (map plain_condition cs)
  on-end past so = ap (λ (xs : List Condition). are_decided k (map plain_condition xs)) (sym (drop_all i cs past)) ∙ so

-- conditions side by side
decided-append : (k : Setting) (xs ys : List Implication) → are_decided k xs ≡ true → are_decided k (xs ++ ys) ≡ are_decided k ys
decided-append k [] ys h = refl
decided-append k (x ∷ xs) ys h = by (is_decided (verdict_on k x)) (decided-append k xs ys) h where
  by : (b : Bool) → (are_decided k xs ≡ true → are_decided k (xs ++ ys) ≡ are_decided k ys) → (b && are_decided k xs) ≡ true → (b && are_decided k (xs ++ ys)) ≡ are_decided k ys
  by true again e = again e
  by false again e = absurd cc

map-drop : {A B : Type 0} (f : A → B) (n : ℕ) (xs : List A) → map f (drop n xs) ≡ drop n (map f xs)
map-drop f zero xs = refl
map-drop f (suc n) [] = refl
map-drop f (suc n) (x ∷ xs) = map-drop f n xs

-- of conditions that begin with decided ones only the others are open
decided-behind : (k : Setting) (old now : List Implication) → Begins old now → are_decided k old ≡ true → are_decided k now ≡ are_decided k (drop (length old) now)
decided-behind k old now begins h =
    ap (are_decided k) (sym (take-append-drop (length old) now))
    ∙ ap (λ (xs : List Implication). are_decided k (xs ++ drop (length old) now)) begins
    ∙ decided-append k old (drop (length old) now) h

-- a script whose first conditions are decided valid
module _ (p : Typed) (steps : List PlainStep) (old : List Implication) (cs : List Condition) (count : ℕ) (begins : Begins old (map plain_condition cs)) (counted : count ≡ length old) where
  new-ones : are_decided (setting_of p) old ≡ true → are_decided (setting_of p) (map plain_condition cs) ≡ are_decided (setting_of p) (map plain_condition (drop count cs))
  new-ones h =
      decided-behind (setting_of p) old (map plain_condition cs) begins h
      ∙ ap (are_decided (setting_of p)) (ap (λ n. drop n (map plain_condition cs)) (sym counted) ∙ sym (map-drop plain_condition count cs))

  pub tried : (yes : Bool) → are_decided (setting_of p) old ≡ true → AreConditions p steps cs → yes ≡ are_decided (setting_of p) (map plain_condition (drop count cs)) → AreTried p steps (map plain_condition cs) yes
  tried true h these e = record { few = these.few; these = these.these; decided = new-ones h ∙ sym e }
  tried false h these e =
      ap (λ o. is_none o && are_decided (setting_of p) (conditions_of p steps)) these.few
      ∙ ap (are_decided (setting_of p)) (sym these.these)
      ∙ new-ones h
      ∙ sym e

pub not-tried : (p : Typed) (steps : List PlainStep) (cs : List Condition) (now : List Implication) → AreListed p steps cs false → AreTried p steps now false
not-tried p steps cs now h = ap (λ o. is_none o && are_decided (setting_of p) (conditions_of p steps)) h.1

-- a text with a further sentence
module _ (p : Typed) (text s : List ℕ) (count : ℕ) (cs : List Implication) (a : IsKept p text count cs) (longer : List PlainStep) (script : steps_spelled p (text ++ s) ≡ Ok longer) where
  begins : (more : List PlainStep) × (longer ≡ a.accepted.steps ++ more)
  begins = scripts_go_on (words_over p) text s a.accepted.steps longer a.accepted.stands script

  pub known-within : count ≤ length longer
  known-within = omega (arith, a.counted, ap length begins.1, length-append a.accepted.steps begins.0)

  pub known-accepted : AreAccepted p (take count longer) cs
  known-accepted =
      subst (λ (xs : List PlainStep). AreAccepted p xs cs) (sym (ap (take count) begins.1 ∙ take_at a.accepted.steps begins.0 count (sym a.counted)))
      (record { few = a.accepted.few; these = a.these; decided = ap (are_decided (setting_of p)) a.these ∙ a.accepted.decided })

  pub judged : (count' : ℕ) (cs' : List Implication) (yes : Bool) → AreTaken p longer count cs count' cs' yes → Judges p text s count' cs' yes
  unfolding accepts
  judged count' cs' true h = (
    ap (accepts_steps p) script
        ∙ ap (λ o. is_none o && are_decided (setting_of p) (conditions_of p longer)) h.1.few
        ∙ ap (are_decided (setting_of p)) (sym h.1.these)
        ∙ h.1.decided,
    record {
      accepted = record {
        steps = longer;
        stands = lines_stand (words_over p) (text ++ s) longer script;
        few = h.1.few;
        decided = ap (are_decided (setting_of p)) (sym h.1.these) ∙ h.1.decided;
      };
      counted = h.0;
      these = h.1.these;
    },
  )
  judged count' cs' false h = (
    ap (accepts_steps p) script ∙ h.0,
    subst (λ (n : ℕ). IsKept p text n cs') (sym h.1) (subst (IsKept p text count) (sym h.2) a),
  )

-- a text that spells no script
pub no-script : (p : Typed) (text : List ℕ) (fault : Stop Breach) → steps_spelled p text ≡ Err fault → accepts p text ≡ false
unfolding accepts
no-script p text fault is = ap (accepts_steps p) is

-- what is looked for
abbrev pub ended-as : Status → List ℕ → Outcome
ended-as s t = record { status = s; text = t }

pub looked-none : (p : Typed) (system : System) → system ≡ system_of p → found system ≡ None → ended-as InvariantsWide wide_invariants_text ≡ invariants_of p
unfolding invariants_of
looked-none p system same e = ap (looked_for p) (sym (ap found (sym same) ∙ e))

pub looked-some : (p : Typed) (system : System) (es : List PlainEquation) (text : List ℕ) → system ≡ system_of p → found system ≡ Some es → text ≡ invariants_text p es → ended-as Proved text ≡ invariants_of p
unfolding invariants_of
looked-some p system es text same e is = ap (ended-as Proved) is ∙ ap (looked_for p) (sym (ap found (sym same) ∙ e))
