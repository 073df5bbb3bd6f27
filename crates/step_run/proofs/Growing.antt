-- The text of the invariances that are found is accepted.
use Rattle.std.proofs.Common.{◌≡◌, ℕ, zero, suc, ◌+◌, ◌<◌, ◌%◌, ◌/◌, Bool, true, false, ◌&&◌, cond, ◌==◌, List, [], ◌∷◌, ◌++◌, refl, sym, ap, ◌∙◌, subst, arith, append_assoc}
use Rattle.std.specs.Prelude.{Option, Some, None, is_none, codes, Result, Ok, Err}
use Rattle.std.specs.Fmt.{decimal, digits, digits_onto, digit_glyph}
use Rattle.std.proofs.lemmas.Bool.Decides.{nat_tests}
use Rattle.st_form.specs.Condition.{Implication}
use Rattle.st_certificate.specs.Tree.{Tree}
use Rattle.st_tokens.specs.Text.{is_line_byte}
use Rattle.control_facts.specs.Alternatives.{control_of}
use Rattle.farkas_check.specs.Problem.{Setting}
use Rattle.search_laws.specs.Moves.{Verdict, valid, open_at, wide_at, decided}
use Rattle.temporal_goals.specs.Texts.{PlainStep}
use Rattle.spl_typer.specs.Programs.{Typed}
use Rattle.st_reading.specs.Reading.{Stop}
use Rattle.st_reading.specs.Breaches.{Breach}
use Rattle.equation_laws.specs.Equations.{PlainEquation}
use Rattle.equation_writer.specs.Sentences.{sentence, left_out_text}
use Rattle.proof_grammar.specs.Growing.{Stands, NothingStands, LinesStand, CommentsAddNothing, IsLine}
use Rattle.step_report.specs.Names.{line}
use Rattle.step_run.specs.Conditions.{setting_of, words_over, steps_spelled, drafts, conditions_of, passes_limit}
use Rattle.step_run.specs.Verified.{verdict_on}
use Rattle.step_run.specs.Invariants.{is_decided, are_decided, accepts_steps, accepts, entry, entered}
use Rattle.step_run.specs.WellFormed.{AreFound}
use Rattle.step_run.specs.Growth.{IsAccepted, IsKept}

-- numbers are written without line feeds
glyph-line : (d : ℕ) → d < 10 → is_line_byte (digit_glyph false d) ≡ true
glyph-line d h = grind (arith, nat_tests)

digits-line : (k n : ℕ) (acc : List ℕ) → IsLine acc → IsLine (digits_onto k 10 false n acc)
digits-line zero n acc h = h
digits-line (suc k) n acc h = by (n / 10 == 0) here (digits-line k (n / 10) (digit_glyph false (n % 10) ∷ acc) (here, h)) where
  here : is_line_byte (digit_glyph false (n % 10)) ≡ true
  here = glyph-line (n % 10) (omega arith)

  by : (b : Bool) → is_line_byte (digit_glyph false (n % 10)) ≡ true → IsLine (digits_onto k 10 false (n / 10) (digit_glyph false (n % 10) ∷ acc))
      → IsLine (cond b (digit_glyph false (n % 10) ∷ acc) (digits_onto k 10 false (n / 10) (digit_glyph false (n % 10) ∷ acc)))
  by true e k = (e, h)
  by false e k = k

pub decimal-line : (n : ℕ) → IsLine (decimal n)
unfolding digits
decimal-line n = digits-line 64 n [] tt

-- what stands behind the sign of the comment
pub comment-line : (n : ℕ) → IsLine (codes " left out: eq" ++ decimal n)
comment-line n = (refl, (refl, (refl, (refl, (refl, (refl, (refl, (refl, (refl, (refl, (refl, (refl, (refl, decimal-line n)))))))))))))

-- what is accepted
is-none : {A : Type 0} (o : Option A) → is_none o ≡ true → o ≡ None
is-none None h = refl
is-none (Some x) h = absurd cc

and-parts : (a b : Bool) → (a && b) ≡ true → (a ≡ true) × (b ≡ true)
and-parts true b h = (refl, h)
and-parts false b h = absurd cc

pub record Accepted (p : Typed) (text : List ℕ) : Type 0 where
  pub steps : List PlainStep
  pub script : steps_spelled p text ≡ Ok steps
  pub few : passes_limit p steps ≡ None
  pub decided : are_decided (setting_of p) (conditions_of p steps) ≡ true

pub accepted : (p : Typed) (text : List ℕ) → accepts p text ≡ true → Accepted p text
unfolding accepts
accepted p text h = by (steps_spelled p text) refl h where
  by : (r : Result (List PlainStep) (Stop Breach)) → steps_spelled p text ≡ r → accepts_steps p r ≡ true → Accepted p text
  by (Ok steps) is e =
      let both = and-parts (is_none (passes_limit p steps)) (are_decided (setting_of p) (conditions_of p steps)) e in
      record { steps = steps; script = is; few = is-none (passes_limit p steps) both.0; decided = both.1 }
  by (Err f) is e = absurd cc

-- nothing is accepted
pub no-conditions : (p : Typed) → drafts p [] ≡ []
unfolding drafts
no-conditions p = refl

module _ (nothing : NothingStands) (lines : LinesStand) (comments : CommentsAddNothing) (p : Typed) where
  pub nothing-accepted : IsAccepted p []
  nothing-accepted = record {
    steps = [];
    stands = nothing (words_over p);
    few = rw (no-conditions p) refl;
    decided = rw (no-conditions p) refl;
  }

  pub nothing-kept : IsKept p [] 0 []
  unfolding nothing-accepted
  nothing-kept = record { accepted = nothing-accepted; counted = refl; these = rw (no-conditions p) refl }

  sentence-accepted : (text s : List ℕ) → accepts p (text ++ s) ≡ true → IsAccepted p (text ++ line s)
  sentence-accepted text s h =
      let a = accepted p (text ++ s) h in
      let stands : Stands (words_over p) (text ++ line s) a.steps = subst (λ (t : List ℕ). Stands (words_over p) t a.steps) (append_assoc text s (10 ∷ [])) (lines (words_over p) (text ++ s) a.steps a.script) in
      record { steps = a.steps; stands = stands; few = a.few; decided = a.decided }

  comment-accepted : (text : List ℕ) (n : ℕ) → IsAccepted p text → IsAccepted p (text ++ line (left_out_text n))
  comment-accepted text n a = record {
    steps = a.steps;
    stands = comments (words_over p) text (codes " left out: eq" ++ decimal n) a.steps a.stands (comment-line n);
    few = a.few;
    decided = a.decided;
  }

  pub comment-kept : (text : List ℕ) (n count : ℕ) (cs : List Implication) → IsKept p text count cs → IsKept p (text ++ line (left_out_text n)) count cs
  unfolding comment-accepted
  comment-kept text n count cs a = record { accepted = comment-accepted text n a.accepted; counted = a.counted; these = a.these }

  entry-accepted : (text : List ℕ) (n : ℕ) (o : Option (List ℕ)) → IsAccepted p text → IsAccepted p (text ++ line (entry p text n o))
  entry-accepted text n None a = comment-accepted text n a
  entry-accepted text n (Some s) a = by (accepts p (text ++ s)) refl where
    by : (b : Bool) → accepts p (text ++ s) ≡ b → IsAccepted p (text ++ line (cond b s (left_out_text n)))
    by true e = sentence-accepted text s e
    by false e = comment-accepted text n a

  entered-accepted : (n : ℕ) (es : List PlainEquation) (text : List ℕ) → IsAccepted p text → IsAccepted p (entered p n es text)
  entered-accepted n [] text a = a
  entered-accepted n (e ∷ es) text a =
      let o = sentence (control_of p.processes) p.names n e in
      entered-accepted (n + 1) es (text ++ line (entry p text n o)) (entry-accepted text n o a)

  pub invariants-accepted : (es : List PlainEquation) → IsAccepted p (entered p 1 es [])
  invariants-accepted es = entered-accepted 1 es [] nothing-accepted

-- a text with a further line, which is pushed in two parts
pub line-pushed : (text now longer more out said : List ℕ) → now ≡ text → longer ≡ now ++ more → out ≡ longer ++ codes "\n" → said ≡ more → out ≡ text ++ line said
line-pushed text now longer more out said kept pushed ended is =
    ended
    ∙ ap (λ (t : List ℕ). t ++ codes "\n") (pushed ∙ ap (λ (t : List ℕ). t ++ more) kept)
    ∙ append_assoc text more (codes "\n")
    ∙ ap (λ (t : List ℕ). text ++ line t) (sym is)

pub line-kept : (p : Typed) (text more out : List ℕ) (count : ℕ) (cs : List Implication) → out ≡ text ++ line more → IsKept p ((text ++ more) ++ 10 ∷ []) count cs → IsKept p out count cs
line-kept p text more out count cs is = subst (λ (t : List ℕ). IsKept p t count cs) (append_assoc text more (10 ∷ []) ∙ sym is)

-- conditions that are decided valid have certificates
found-one : (k : Setting) (c : Implication) (cs : List Implication) (v : Verdict) → decided k c.given c.shown ≡ v → is_decided v ≡ true → (ts : List Tree) × AreFound k cs ts → (ts : List Tree) × AreFound k (c ∷ cs) ts
found-one k c cs (valid t) is e r = (t ∷ r.0, (is, r.1))
found-one k c cs (open_at path state) is e r = absurd cc
found-one k c cs (wide_at path stage) is e r = absurd cc

pub found-all : (k : Setting) (cs : List Implication) → are_decided k cs ≡ true → (ts : List Tree) × AreFound k cs ts
unfolding verdict_on
found-all k [] h = ([], refl)
found-all k (c ∷ cs) h =
    let both = and-parts (is_decided (decided k c.given c.shown)) (are_decided k cs) h in
    found-one k c cs (decided k c.given c.shown) refl both.0 (found-all k cs both.1)
