-- The theorems of formulas, which programs and proofs share.
use Rattle.std.proofs.Common.{◌≡◌, ℕ, zero, suc, ◌+◌, ◌≤◌, Bool, List, [], ◌∷◌, ◌++◌, true, Ok, Err, refl, sym, subst, append_assoc, arith}
use Rattle.st_tokens.specs.Stream.{◌++>◌, Lexeme, Stream, ends, more}
use Rattle.st_reading.specs.declared.sign.Sign.TheVariants as signs
use Rattle.st_reading.specs.Faults.{Passed}
use Rattle.st_reading.specs.Reading.{Stop}
use Rattle.st_reading.specs.Spelling.{Sound}
use Rattle.st_reading.specs.Theorem.{GoesOn, IsFirst}
use Rattle.st_reading.proofs.Streams.{same_text}
use Rattle.st_reading.proofs.Soundness.{values}
use Rattle.st_reading.proofs.Theorems.{first_fault, longest, first_as}
use Rattle.expression_parser.specs.ExpressionTree.{Expr}
use Rattle.expression_parser.specs.Calm.{calm}
use Rattle.expression_parser.specs.Reading.{Reader, below, expression_of}
use Rattle.expression_parser.specs.Grammar.{Inside, SpellsWithin, Formula}
use Rattle.expression_parser.specs.Theorems.{FormulasReadOnce, FormulasAreLongest, FormulasFirstFault}
use Rattle.expression_parser.proofs.ExpressionLaw.{larger, lawful_formula}
use Rattle.expression_parser.proofs.ExpressionSoundness.{expression_sound, below_sound}
use Rattle.expression_parser.proofs.ExpressionCompleteness.{formula_complete}

pub quiet : calm signs.Nothing ≡ true
unfolding calm
quiet = refl

module _ (places : Bool) where
  abbrev reader : ℕ → Reader Expr
  reader room s = expression_of places (below places room) s

  reads : (n room : ℕ) → n ≤ room → (ts : List Lexeme) (x : Expr) (q : ℕ) → SpellsWithin places n ts x → reader room (ts ++> ends q) ≡ Ok (x, ends q)
  reads n room le ts x q l = formula_complete places n room le ts x l (ends q) quiet

  sound : (room : ℕ) → Sound (reader room) (SpellsWithin places room)
  sound room s x rest h = expression_sound places (below places room) (Inside places room) (below_sound places room) s x rest h

  read_once : (ts : List Lexeme) (x y : Expr) → Formula places ts x → Formula places ts y → x ≡ y
  read_once ts x y a b = (values (reader (a.0 + b.0) (ts ++> ends 0)) x y (ends 0) (ends 0) (reads a.0 (a.0 + b.0) (omega arith) ts x 0 a.1) (reads b.0 (a.0 + b.0) (omega arith) ts y 0 b.1)).0

  larger_is : (n i : ℕ) → larger n i ≡ suc (n + i)
  larger_is zero i = omega arith
  larger_is (suc n) i = omega (arith, larger_is n i)

  module _ (room : ℕ) where
    Deeper : ℕ → List Lexeme → Expr → Type 0
    Deeper i ts x = SpellsWithin places (larger room i) ts x

    Some_deeper : List Lexeme → Expr → Type 0
    Some_deeper ts x = (i : ℕ) × Deeper i ts x

    deeper_sound : (i : ℕ) → Sound (reader (larger room i)) (Deeper i)
    unfolding Deeper
    deeper_sound i = sound (larger room i)

    deeper_read : (i : ℕ) (ts : List Lexeme) (x : Expr) (q : ℕ) → Deeper i ts x → reader (larger room i) (ts ++> ends q) ≡ Ok (x, ends q)
    unfolding Deeper
    deeper_read i ts x q l = reads (larger room i) (larger room i) (omega arith) ts x q l

    to : (ts : List Lexeme) (x : Expr) → Some_deeper ts x → Formula places ts x
    unfolding Some_deeper Deeper
    to ts x l = (larger room l.0, l.1)

    from : (ts : List Lexeme) (x : Expr) → Formula places ts x → Some_deeper ts x
    unfolding Some_deeper Deeper
    from ts x l =
        let c = sound (larger room l.0) (ts ++> ends 0) x (ends 0) (reads l.0 (larger room l.0) (omega (arith, larger_is room l.0)) ts x 0 l.1) in
        (l.0, subst (λ (z : List Lexeme). SpellsWithin places (larger room l.0) z x) (sym (same_text ts c.text 0 c.is)) c.spells)

    first : (s : Stream) (f : Stop Passed) → reader room s ≡ Err f → IsFirst (Formula places) s f
    unfolding Some_deeper
    first s f h =
        first_as Some_deeper (Formula places) to from s f
        (first_fault calm calm quiet (reader room) (λ i. reader (larger room i)) 0 Deeper deeper_sound deeper_read s f ((lawful_formula places room).law s) h)

    none_longer : (s : Stream) (x : Expr) (rest : Stream) → reader room s ≡ Ok (x, rest) → (ts : List Lexeme) → s ≡ ts ++> rest → (t : Lexeme) (after : Stream) → rest ≡ more t after → GoesOn (Formula places) (ts ++ t ∷ []) → ⊥
    unfolding Some_deeper
    none_longer s x rest h ts is t after next b =
        longest calm calm quiet (reader room) (λ i. reader (larger room i)) 0 Deeper deeper_sound deeper_read s x rest ((lawful_formula places room).law s) h ts is t after b.0 b.1 next
        (from (ts ++ t ∷ b.0) b.1 (subst (λ (z : List Lexeme). Formula places z b.1) (append_assoc ts (t ∷ []) b.0) b.2))

pub formulas_read_once : FormulasReadOnce
formulas_read_once places ts x y a b = read_once places ts x y a b

pub formulas_are_longest : FormulasAreLongest
formulas_are_longest places room s x rest h =
    let c = sound places room s x rest h in
    record { text = c.text; is = c.is; spells = (room, c.spells); longest = λ t after next. none_longer places room s x rest h c.text c.is t after next }

pub formulas_first_fault : FormulasFirstFault
formulas_first_fault places room s f h = first places room s f h
