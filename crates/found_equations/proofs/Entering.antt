-- Each line of the text is the formula of an equation, which is read as it, or that it is left out for a cause.
use Rattle.std.proofs.Common.{◌≡◌, ℕ, ◌+◌, ◌<◌, ◌≤◌, ◌^◌, Bool, true, false, ◌&&◌, cond, List, [], ◌∷◌, ◌++◌, drop, length, refl, sym, ap, subst, ◌∙◌, arith, append_assoc}
use Rattle.std.specs.Prelude.{Option, Some, None, is_none, Ok, codes}
use Rattle.std.specs.Option.{option_map}
use Rattle.std.specs.Fmt.{decimal}
use Rattle.std.specs.Str.{bytes_eq}
use Rattle.std.proofs.lemmas.Fmt.{decimal_injective}
use Rattle.std.proofs.lemmas.Slice.Eq.{bytes_eq-Decides}
use Rattle.st_form.specs.Condition.{Implication}
use Rattle.st_certificate.specs.Tree.{Tree}
use Rattle.st_program.specs.Member.{Member, here, there}
use Rattle.st_program.specs.Names.{IsNew}
use Rattle.control_facts.specs.Alternatives.{control_of}
use Rattle.farkas_check.specs.Problem.{Setting}
use Rattle.search_laws.specs.Moves.{Verdict, valid, open_at, wide_at, decided}
use Rattle.temporal_goals.specs.Texts.{PlainStep}
use Rattle.vc_generator.specs.declared.faults.VcFault.{VcFault}
use Rattle.spl_typer.specs.Programs.{Typed}
use Rattle.matrix_rows.specs.Rows.{IsKept}
use Rattle.equation_laws.specs.Equations.{PlainEquation}
use Rattle.equation_forms.specs.Formulas.{formula_of, is_short, short_formula}
use Rattle.equation_writer.specs.Sentences.{invariance_text, are_labelled, sentence, left_out_text}
use Rattle.proof_grammar.specs.Units.{names_of_steps}
use Rattle.proof_grammar.specs.Growing.{Stands}
use Rattle.proof_grammar.proofs.Growing.{lines_stand, comments_add_nothing}
use Rattle.proof_grammar.proofs.Scripts.{spelled_scripts_are_read}
use Rattle.declared_names.specs.Words.{AreNames}
use Rattle.printed_formulas.specs.Theorems.{invariance_name, AreIntegers}
use Rattle.printed_formulas.proofs.Steps.{printed_invariances_are_read}
use Rattle.printed_formulas.proofs.Printing.{short_formulas_are_printable}
use Rattle.step_report.specs.Names.{line}
use Rattle.step_run.specs.Conditions.{setting_of, words_over, steps_spelled, conditions_of, passes_limit}
use Rattle.step_run.specs.Verified.{verdict_on}
use Rattle.step_run.specs.Invariants.{is_decided, are_decided, accepts_steps, accepts, entry, entered}
use Rattle.step_run.proofs.Growing.{accepted, found-all, comment-line}
use Rattle.found_equations.specs.Lines.{printed_text, with_equation, with_step, IsVerified, Cause, is_long, is_unlabelled, is_past, is_undecided, IsLine, is_printed, is_left_out, AreLines}

-- of conditions that aren't all decided valid, one isn't
record IsOpenAmong (k : Setting) (cs : List Implication) : Type 0 where
  condition : Implication
  among : Member condition cs
  undecided : (t : Tree) → decided k condition.given condition.shown ≡ valid t → ⊥

not_valid : (v : Verdict) (t : Tree) → is_decided v ≡ false → v ≡ valid t → ⊥
not_valid (valid u) t h e = cc
not_valid (open_at path state) t h e = cc
not_valid (wide_at path stage) t h e = cc

open_among : (k : Setting) (cs : List Implication) → are_decided k cs ≡ false → IsOpenAmong k cs
unfolding verdict_on
open_among k [] h = absurd cc
open_among k (c ∷ cs) h = by (open_among k cs) (is_decided (decided k c.given c.shown)) refl h where
  by : (are_decided k cs ≡ false → IsOpenAmong k cs) → (b : Bool) → is_decided (decided k c.given c.shown) ≡ b → (b && are_decided k cs) ≡ false → IsOpenAmong k (c ∷ cs)
  by more true e g = let rest = more g in record { condition = rest.condition; among = there rest.among; undecided = rest.undecided }
  by more false e g = record { condition = c; among = here refl; undecided = λ t is. not_valid (decided k c.given c.shown) t e is }

-- the steps so far are called by numbers before this one
abbrev pub AreBefore : ℕ → List PlainStep → Type 0
AreBefore n [] = Unit {0}
AreBefore n (s ∷ steps) = ((k : ℕ) × (k < n) × (s.name ≡ invariance_name k)) × AreBefore n steps

before-next : (n : ℕ) (steps : List PlainStep) → AreBefore n steps → AreBefore (n + 1) steps
before-next n [] h = tt
before-next n (s ∷ steps) h = ((h.0.0, omega (arith, h.0.1), h.0.2), before-next n steps h.1)

before-with : (p : Typed) (n : ℕ) (e : PlainEquation) (steps : List PlainStep) → AreBefore n steps → AreBefore (n + 1) (with_step p steps n e)
before-with p n e [] h = ((n, omega arith, refl), tt)
before-with p n e (s ∷ steps) h = ((h.0.0, omega (arith, h.0.1), h.0.2), before-with p n e steps h.1)

other-name : (k n : ℕ) → k < n → n < 2 ^ 64 → bytes_eq (invariance_name k) (invariance_name n) ≡ false
other-name k n less small = by (bytes_eq (invariance_name k) (invariance_name n)) refl
  where
    by : (b : Bool) → bytes_eq (invariance_name k) (invariance_name n) ≡ b → b ≡ false
    by true e =
        let names : invariance_name k ≡ invariance_name n = (bytes_eq-Decides (invariance_name k) (invariance_name n)).0 e in
        let digits : decimal k ≡ decimal n = ap (λ (x : List ℕ). drop 2 x) names in
        absurd (omega (arith, decimal_injective k n (omega arith) small digits))
    by false e = refl

new-name : (n : ℕ) (steps : List PlainStep) → AreBefore n steps → n < 2 ^ 64 → IsNew (invariance_name n) (names_of_steps steps)
new-name n [] h small = tt
new-name n (s ∷ steps) h small = (
  ap (λ (x : List ℕ). bytes_eq x (invariance_name n)) h.0.2 ∙ other-name h.0.0 n h.0.1 small,
  new-name n steps h.1 small,
)

-- an equation between integer variables, as those that are found are
pub record IsReady (p : Typed) (e : PlainEquation) : Type 0 where
  pub integers : AreIntegers p.names e.numbers
  pub kept : IsKept e.numbers

abbrev pub AreReady : Typed → List PlainEquation → Type 0
AreReady p [] = Unit {0}
AreReady p (e ∷ es) = IsReady p e × AreReady p es

-- a text of steps, each called by a number before this one
record IsText (p : Typed) (n : ℕ) (text : List ℕ) (steps : List PlainStep) : Type 0 where
  stands : Stands (words_over p) text steps
  before : AreBefore n steps

-- a line, and the text with it
record IsNext (p : Typed) (before : List ℕ) (steps : List PlainStep) (n : ℕ) (e : PlainEquation) (l : List ℕ) : Type 0 where
  after : List PlainStep
  is_line : IsLine p before steps n e l after
  text : IsText p (n + 1) (before ++ l) after

module _ (p : Typed) (names : AreNames p.names) (before : List ℕ) (steps : List PlainStep) (n : ℕ) (e : PlainEquation) (small : n < 2 ^ 64) (text : IsText p n before steps) (ready : IsReady p e) where
  abbrev all : List PlainStep
  all = with_step p steps n e

  -- what is printed is read
  read : are_labelled p.names e.places ≡ true → is_short (control_of p.processes) e ≡ true → steps_spelled p (with_equation p before n e) ≡ Ok all
  read labelled short =
      printed_invariances_are_read spelled_scripts_are_read (words_over p) before steps n (formula_of (control_of p.processes) e) text.stands (new-name n steps text.before small) small
      (short_formulas_are_printable p.names (control_of p.processes) e names ready.integers ready.kept labelled short)

  left_out : Cause p before steps n e → IsNext p before steps n e (line (left_out_text n))
  left_out cause = record {
    after = steps;
    is_line = is_left_out cause;
    text = record {
      stands = comments_add_nothing (words_over p) before (codes " left out: eq" ++ decimal n) steps text.stands (comment-line n);
      before = before-next n steps text.before;
    };
  }

  verified : steps_spelled p (with_equation p before n e) ≡ Ok all → accepts p (with_equation p before n e) ≡ true → IsVerified p (with_equation p before n e) all
  verified is h =
      let a = accepted p (with_equation p before n e) h in
      let same : a.steps ≡ all = (let both : Ok a.steps ≡ Ok all = sym a.script ∙ is in cc) in
      let trees = found-all (setting_of p) (conditions_of p all) (subst (λ (s : List PlainStep). are_decided (setting_of p) (conditions_of p s) ≡ true) same a.decided) in
      record { spelled = is; few = subst (λ (s : List PlainStep). passes_limit p s ≡ None) same a.few; trees = trees.0; found = trees.1 }

  printed : are_labelled p.names e.places ≡ true → is_short (control_of p.processes) e ≡ true → accepts p (with_equation p before n e) ≡ true → IsNext p before steps n e (line (printed_text p n e))
  printed labelled short h = record {
    after = all;
    is_line = is_printed labelled short (verified (read labelled short) h);
    text = record {
      stands = subst (λ (t : List ℕ). Stands (words_over p) t all) (append_assoc before (printed_text p n e) (10 ∷ [])) (lines_stand (words_over p) (with_equation p before n e) all (read labelled short));
      before = before-with p n e steps text.before;
    };
  }

  refused : steps_spelled p (with_equation p before n e) ≡ Ok all → accepts p (with_equation p before n e) ≡ false → Cause p before steps n e
  unfolding accepts
  refused is h = by_limit (passes_limit p all) refl (ap (accepts_steps p) (sym is) ∙ h) where
    by_limit : (r : Option (VcFault × ℕ)) → passes_limit p all ≡ r → (is_none r && are_decided (setting_of p) (conditions_of p all)) ≡ false → Cause p before steps n e
    by_limit (Some passed) past g = is_past passed is past
    by_limit None few g = let o = open_among (setting_of p) (conditions_of p all) g in is_undecided o.condition is o.among o.undecided

  by_accepted : are_labelled p.names e.places ≡ true → is_short (control_of p.processes) e ≡ true → (b : Bool) → accepts p (with_equation p before n e) ≡ b
      → IsNext p before steps n e (line (cond b (printed_text p n e) (left_out_text n)))
  by_accepted labelled short true h = printed labelled short h
  by_accepted labelled short false h = left_out (refused (read labelled short) h)

  by_short : are_labelled p.names e.places ≡ true → (b : Bool) → is_short (control_of p.processes) e ≡ b
      → IsNext p before steps n e (line (entry p before n (option_map (invariance_text p.names n) (cond b (Some (formula_of (control_of p.processes) e)) None))))
  by_short labelled true short = by_accepted labelled short (accepts p (with_equation p before n e)) refl
  by_short labelled false long = left_out (is_long long)

  by_label : (b : Bool) → are_labelled p.names e.places ≡ b
      → IsNext p before steps n e (line (entry p before n (cond b (option_map (invariance_text p.names n) (short_formula (control_of p.processes) e)) None)))
  by_label true labelled = by_short labelled (is_short (control_of p.processes) e) refl
  by_label false unlabelled = left_out (is_unlabelled unlabelled)

  one_line : IsNext p before steps n e (line (entry p before n (sentence (control_of p.processes) p.names n e)))
  one_line = by_label (are_labelled p.names e.places) refl

lines_from : (p : Typed) → AreNames p.names → (es : List PlainEquation) (before : List ℕ) (steps : List PlainStep) (n : ℕ) → n + length es ≤ 65 → IsText p n before steps → AreReady p es → AreLines p before steps n es (entered p n es before)
lines_from p names [] before steps n few text ready = refl
lines_from p names (e ∷ es) before steps n few text ready =
    let l = line (entry p before n (sentence (control_of p.processes) p.names n e)) in
    let x = one_line p names before steps n e (omega (arith, few)) text ready.0 in
    (l, x.after, x.is_line, lines_from p names es (before ++ l) x.after (n + 1) (omega (arith, few)) x.text ready.1)

pub all_lines : (p : Typed) → AreNames p.names → Stands (words_over p) [] [] → (es : List PlainEquation) → length es ≤ 64 → AreReady p es → AreLines p [] [] 1 es (entered p 1 es [])
all_lines p names nothing es few ready = lines_from p names es [] [] 1 (omega (arith, few)) (record { stands = nothing; before = tt }) ready
