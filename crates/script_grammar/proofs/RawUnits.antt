-- Formulas and integer expressions with any number of levels, read and not judged.
use Rattle.std.proofs.Common.{◌≡◌, ℕ, zero, suc, ◌+◌, ◌≤◌, Bool, true, List, [], ◌∷◌, ◌++◌, length, Ok, Err, inl, inr, refl, sym, ap, subst, ◌∙◌, arith}
use Rattle.std.specs.Prelude.{◌-◌, Result}
use Rattle.st_tokens.specs.Stream.{◌++>◌, Lexeme, Stream, ends, breaks, more}
use Rattle.st_reading.specs.declared.sign.Sign.{Sign}
use Rattle.st_reading.specs.Faults.{Passed}
use Rattle.st_reading.specs.Reading.{Stop, syntax, broken, other, Read, ahead, size, refusal}
use Rattle.st_reading.specs.Breaches.{Breach, Reader}
use Rattle.st_reading.specs.Spelling.{Cut, Sound}
use Rattle.st_reading.specs.Steady.{head, Viable, Cause, refused, over, SteadyAt, both, stops, anything}
use Rattle.st_reading.proofs.Streams.{append_stream}
use Rattle.st_reading.proofs.Soundness.{sound_shrinks}
use Rattle.st_reading.proofs.ListCompleteness.{Complete}
use Rattle.st_reading.proofs.LawfulPhrases.{LawfulPhrase}
use Rattle.st_reading.proofs.Whiles.{stream_size}
use Rattle.expression_parser.specs.ExpressionTree.{Expr}
use Rattle.expression_parser.specs.Calm.{calm}
use Rattle.expression_parser.proofs.FormulaTheorems.{quiet}
use Rattle.expression_parser.proofs.ExpressionLaw.{larger}
use Rattle.assertions.specs.Faults.{of_stop}
use Rattle.script_grammar.specs.RawScripts.{RawUnit}
use Rattle.script_grammar.specs.Drawings.{IsUnit, first_place, spells_unit}
use Rattle.script_grammar.proofs.Unlimited.{unlimited, unlimited_is, unlimited_law, refused_only, read_so, never_other}
use Rattle.script_grammar.proofs.Greedy.{Greedy, Needs}

-- readers of one kind of expression, with so many levels
pub record Expressions : Type 1 where
  pub reader : ℕ → Stream → Read Passed Expr
  pub law : (n : ℕ) (s : Stream) → SteadyAt calm calm (reader n) (λ i. reader (larger n i)) s
  pub within : ℕ → List Lexeme → Expr → Type 0
  pub sound : (n : ℕ) → Sound (reader n) (within n)
  pub complete : (n : ℕ) → Complete calm (reader n) (within n)
  pub needs : (n : ℕ) → Needs (reader n)
  pub greedy : (n k : ℕ) → Greedy k (reader n)

-- so many tokens of a stream
pub front_of : ℕ → Stream → List Lexeme
front_of zero s = []
front_of (suc n) (ends p) = []
front_of (suc n) (breaks f) = []
front_of (suc n) (more t s) = t ∷ front_of n s

front_length : (ts : List Lexeme) (s : Stream) → front_of (length ts) (ts ++> s) ≡ ts
unfolding front_of
front_length [] s = refl
front_length (t ∷ ts) s = ap (λ z. t ∷ z) (front_length ts s)

pub front_is : (ts : List Lexeme) (s : Stream) → front_of (size (ts ++> s) - size s) (ts ++> s) ≡ ts
front_is ts s = ap (λ n. front_of n (ts ++> s)) (omega (arith, stream_size ts s)) ∙ front_length ts s

pub same_refusal : (s : Stream) → of_stop (refusal s) ≡ refusal s
same_refusal (ends p) = refl
same_refusal (breaks f) = refl
same_refusal (more t s) = refl

abbrev pub the_unit : List Lexeme → Expr → RawUnit
the_unit ts e = record { tree = e; text = ts; place = first_place ts; size = length ts }

abbrev pub unit_read : Stream → Read Passed Expr → Read Breach RawUnit
unit_read s (Ok x) = Ok (the_unit (front_of (size s - size x.1) s) x.0, x.1)
unit_read s (Err f) = Err (of_stop f)

module _ (x : Expressions) where
  abbrev pub free : Stream → Read Passed Expr
  free = unlimited calm calm quiet x.reader x.law

  -- with any number of levels
  abbrev pub Any : List Lexeme → Expr → Type 0
  Any ts e = (n : ℕ) × x.within n ts e

  pub free_sound : Sound free Any
  free_sound s e rest h = let c = x.sound (size s) s e rest (sym (unlimited_is calm calm quiet x.reader x.law s) ∙ h) in record { text = c.text; is = c.is; spells = (size s, c.spells) }

  pub free_complete : Complete calm free Any
  free_complete ts e l after h = read_so calm calm quiet x.reader x.law l.0 (ts ++> after) e after (x.complete l.0 ts e l.1 after h)

  abbrev pub raw : Reader RawUnit
  raw s = unit_read s (free s)

  pub raw_ok : (ts : List Lexeme) (e : Expr) (after : Stream) → free (ts ++> after) ≡ Ok (e, after) → raw (ts ++> after) ≡ Ok (the_unit ts e, after)
  raw_ok ts e after h = ap (unit_read (ts ++> after)) h ∙ ap (λ (z : List Lexeme). Ok (the_unit z e, after)) (front_is ts after)

  pub raw_err : (s rest : Stream) → free s ≡ Err (refusal rest) → raw s ≡ Err (refusal rest)
  raw_err s rest h = ap (unit_read s) h ∙ ap Err (same_refusal rest)

  -- what was read, with its tokens
  pub record Back (s : Stream) (u : RawUnit) (rest : Stream) : Type 0 where
    pub text : List Lexeme
    pub tree : Expr
    pub is_cut : s ≡ text ++> rest
    pub read : free s ≡ Ok (tree, rest)
    pub spells : Any text tree
    pub is_unit : u ≡ the_unit text tree

  pub raw_back : (s : Stream) (u : RawUnit) (rest : Stream) → raw s ≡ Ok (u, rest) → Back s u rest
  raw_back s u rest h = at_read (free s) refl h
    where
      at_read : (o : Read Passed Expr) → free s ≡ o → unit_read s o ≡ Ok (u, rest) → Back s u rest
      at_read (Err f) e h = absurd cc
      at_read (Ok (tree, m)) e h =
          let p : (the_unit (front_of (size s - size m) s) tree, m) ≡ (u, rest) = cc in
          let u_is : the_unit (front_of (size s - size m) s) tree ≡ u = ap (λ (z : RawUnit × Stream). z.0) p in
          let m_is : m ≡ rest = ap (λ (z : RawUnit × Stream). z.1) p in
          let c = free_sound s tree m e in
          let text_is : front_of (size s - size m) s ≡ c.text = ap (λ z. front_of (size z - size m) z) c.is ∙ front_is c.text m in
          record { text = c.text; tree = tree; is_cut = c.is ∙ ap (λ z. c.text ++> z) m_is; read = e ∙ ap (λ z. Ok (tree, z)) m_is; spells = c.spells; is_unit = sym u_is ∙ ap (λ (z : List Lexeme). the_unit z tree) text_is }

  pub raw_sound : Sound raw (IsUnit Any)
  raw_sound s u rest h = let b = raw_back s u rest h in record { text = b.text; is = b.is_cut; spells = subst (IsUnit Any b.text) (sym b.is_unit) (spells_unit b.text b.tree b.spells) }

  pub raw_complete : Complete calm raw (IsUnit Any)
  raw_complete ts u (spells_unit us e l) after h = raw_ok us e after (free_complete us e l after h)

  pub raw_viable : (ts : List Lexeme) → Viable calm calm free ts → Viable anything calm raw ts
  raw_viable ts v = record {
    others = v.others;
    spelled = v.spelled;
    value = the_unit (ts ++ v.others) v.value;
    begins = λ n after h. refl;
    reads = λ after h. ap raw (sym (append_stream ts v.others after)) ∙ raw_ok (ts ++ v.others) v.value after (ap free (append_stream ts v.others after) ∙ v.reads after h);
  }

  pub raw_law : (s : Stream) → SteadyAt {I = Unit {0}} anything calm raw (λ i. raw) s
  raw_law s = at_law (unlimited_law calm calm quiet x.reader x.law s)
    where
      at_cause : (ts : List Lexeme) (f : Stop Passed) (rest : Stream) → s ≡ ts ++> rest → ((after : Stream) → head after ≡ head rest → free (ts ++> after) ≡ Err f) → Viable calm calm free ts → Cause {I = Unit {0}} calm calm (λ i. free) ts f rest → SteadyAt {I = Unit {0}} anything calm raw (λ i. raw) s
      at_cause ts f rest is same v (refused e each) =
          let stuck : (after : Stream) → head after ≡ head rest → raw (ts ++> after) ≡ Err (refusal rest) = λ after h. raw_err (ts ++> after) rest (same after h ∙ ap Err e) in
          stops ts (refusal rest) rest is stuck (λ i. raw_viable ts v) (refused refl (λ i after h. stuck after h))
      at_cause ts f rest is same v (over y t after e next v2) =
          let k = refused_only calm calm quiet x.reader x.law s f (ap free is ∙ same rest refl) in
          absurd (never_other k.1 y (sym k.3 ∙ e))

      at_law : SteadyAt {I = Unit {0}} calm calm free (λ i. free) s → SteadyAt {I = Unit {0}} anything calm raw (λ i. raw) s
      at_law (both ts e rest is go go2) = both ts (the_unit ts e) rest is (λ after h. raw_ok ts e after (go after h)) (λ i after h. raw_ok ts e after (go after h))
      at_law (stops ts f rest is same v cause) = at_cause ts f rest is same (v tt) cause

  abbrev pub raw_lawful : LawfulPhrase Breach RawUnit anything calm
  raw_lawful = record {
    phrase = record { reader = raw; language = IsUnit Any; sound = raw_sound; complete = raw_complete; begins = λ ts u l after h. refl };
    lawful = record { law = raw_law; one = sound_shrinks raw (IsUnit Any) raw_sound; each = λ i. sound_shrinks raw (IsUnit Any) raw_sound };
  }
