-- The part of a statement that is meant: read exactly where it is spelled.
use Rattle.std.proofs.Common.{Bool, Err, None, Ok, Option, Some, [], cond, false, refl, sym, true, ◌∷◌, ◌≡◌}
use Rattle.st_reading.specs.Breaches.{Breach}
use Rattle.st_tokens.specs.Stream.{Lexeme, Stream, behind, breaks, ends, more}
use Rattle.st_reading.proofs.ListCompleteness.{Complete}
use Rattle.st_reading.proofs.Soundness.{taken}
use Rattle.st_reading.specs.Reading.{Read, ahead, gives, is_name, on_operator, refusal}
use Rattle.st_reading.specs.Sign.{is, sign_of}
use Rattle.st_reading.specs.Spelling.{Cut, Is, Sound}
use Rattle.st_reading.specs.declared.mark.Mark.TheVariants as marks
use Rattle.st_reading.specs.declared.sign.Sign.{Sign}
use Rattle.st_form.specs.declared.conditions.Part.{Part}
use Rattle.st_form.specs.declared.conditions.Part.TheVariants.{Whole}
use Rattle.diagram_reader.specs.Transitions.{part_of, suffix_of}
use Rattle.assertions.specs.Labels.{part_named}
use Rattle.proof_grammar.specs.Units.{IsPart, a_part, the_whole}
use Rattle.st_reading.proofs.Tokens.{but, not_that}

abbrev pub no_dot : Sign → Bool
no_dot = but marks.Dot

abbrev pub stuck : Lexeme → Stream → Read Breach Part
stuck v s = Err (refusal (more v s))

suffix_sound : (t : Lexeme) → Is marks.Dot t → (s : Stream) (part : Part) (rest : Stream) → suffix_of s ≡ Ok (part, rest) → Cut IsPart (more t s) part rest
unfolding suffix_of
suffix_sound t d (ends place) part rest h = absurd cc
suffix_sound t d (breaks f) part rest h = absurd cc
suffix_sound t d (more v s) part rest h = at_name (is_name (sign_of v)) refl (part_named v.text) refl h
  where
    at_name : (b : Bool) → b ≡ is_name (sign_of v) → (o : Option Part) → o ≡ part_named v.text → on_operator (cond b o None) (stuck v s) (λ p. gives {X = Breach} p s) ≡ Ok (part, rest) → Cut IsPart (more t (more v s)) part rest
    at_name false e o f h = absurd cc
    at_name true e None f h = absurd cc
    at_name true e (Some p) f h = taken {X = Breach} IsPart (t ∷ v ∷ []) (gives p s) p part s rest refl h (a_part t v p d (sym e) (sym f))

pub part_sound : Sound part_of IsPart
unfolding part_of
part_sound s part rest h = at_dot s (is (ahead s) marks.Dot) refl h
  where
    at_dot : (s : Stream) (b : Bool) → b ≡ is (ahead s) marks.Dot → cond b (suffix_of (behind s)) (Ok (Whole, s)) ≡ Ok (part, rest) → Cut IsPart s part rest
    at_dot s false e h = taken {X = Breach} IsPart [] (gives Whole s) Whole part s rest refl h the_whole
    at_dot (ends place) true e h = absurd cc
    at_dot (breaks f) true e h = absurd cc
    at_dot (more t s) true e h = suffix_sound t (sym e) s part rest h

pub part_complete : Complete no_dot part_of IsPart
unfolding part_of suffix_of
part_complete ts part the_whole after h = let e = not_that marks.Dot (ahead after) h in rw e refl
part_complete ts part (a_part u v p d e f) after h = rw (d, e, f) refl
