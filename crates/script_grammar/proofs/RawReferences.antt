-- A transition that is read and not judged: its name and its part. The reader has its law, and reads exactly what is spelled.
use Rattle.std.proofs.Common.{◌≡◌, Bool, true, false, cond, List, [], ◌∷◌, Option, Some, None, Ok, Err, refl, sym, ap, ◌∙◌, unwrap_or}
use Rattle.std.specs.Prelude.{codes}
use Rattle.st_tokens.specs.declared.kind.TokenKind.TheVariants as kinds
use Rattle.st_tokens.specs.Stream.{◌++>◌, Lexeme, Stream, ends, breaks, more, IsSpelled}
use Rattle.st_reading.specs.declared.mark.Mark.TheVariants as marks
use Rattle.st_reading.specs.declared.sign.Sign.{Sign}
use Rattle.st_reading.specs.Sign.{sign_of}
use Rattle.st_reading.specs.Reading.{syntax, Label, ahead, is_name, label_of, refusal, gives, on_operator}
use Rattle.st_reading.specs.Breaches.{Breach, Reader}
use Rattle.st_reading.specs.Spelling.{Cut, IsName, Sound, behind_it, one_name}
use Rattle.st_reading.specs.Phrases.{left_out, put_in}
use Rattle.st_reading.specs.Steady.{head, Viable, SteadyAt, both, stops, refused, calmer, moves, wider, anything}
use Rattle.st_reading.proofs.Streams.{refusal_same}
use Rattle.st_reading.proofs.Spelled.{one_spelled}
use Rattle.st_reading.proofs.Soundness.{sound_shrinks, taken}
use Rattle.st_reading.proofs.ListCompleteness.{Complete}
use Rattle.st_reading.proofs.Tokens.{but}
use Rattle.st_reading.proofs.Phrases.{made}
use Rattle.st_reading.proofs.LawfulPhrases.{LawfulPhrase, name_lawful, map_lawful, optional_lawful, then_lawful, as_lawful, within_lawful}
use Rattle.st_form.specs.declared.conditions.Part.{Part}
use Rattle.st_form.specs.declared.conditions.Part.TheVariants.{Whole, Entry}
use Rattle.assertions.specs.Labels.{part_named}
use Rattle.diagram_reader.specs.Transitions.{part_at, suffix_of}
use Rattle.proof_grammar.specs.Units.{a_part, the_whole}
use Rattle.script_grammar.specs.RawScripts.{RawTransition}
use Rattle.script_grammar.specs.Drawings.{IsReference, spells_reference}

-- TOKENS THAT COMPLETE
abbrev pub name_token : Lexeme
name_token = record { kind = kinds.Name; text = 97 ∷ []; start = 0 }

abbrev pub entry_token : Lexeme
entry_token = record { kind = kinds.Name; text = codes "entry"; start = 0 }

pub name_spelled : IsSpelled name_token
name_spelled = refl

pub entry_spelled : IsSpelled entry_token
entry_spelled = refl

pub entry_names : part_named (codes "entry") ≡ Some Entry
unfolding part_named
entry_names = refl

-- "entry" | "exit"
pub data IsSuffix : List Lexeme → Part → Type 0 where
  a_suffix : (v : Lexeme) (part : Part) → IsName v → part_named v.text ≡ Some part → IsSuffix (v ∷ []) part

pub suffix_sound : Sound suffix_of IsSuffix
unfolding suffix_of
suffix_sound (ends q) part rest h = absurd cc
suffix_sound (breaks f) part rest h = absurd cc
suffix_sound (more v s) part rest h = at_name (is_name (sign_of v)) refl (part_named v.text) refl h
  where
    at_name : (b : Bool) → b ≡ is_name (sign_of v) → (o : Option Part) → o ≡ part_named v.text → on_operator (cond b o None) (Err (refusal (more v s))) (λ p. gives {X = Breach} p s) ≡ Ok (part, rest) → Cut IsSuffix (more v s) part rest
    at_name false e o f h = absurd cc
    at_name true e None f h = absurd cc
    at_name true e (Some p) f h = taken {X = Breach} IsSuffix (v ∷ []) (gives p s) p part s rest refl h (a_suffix v p (sym e) (sym f))

pub suffix_complete : Complete anything suffix_of IsSuffix
unfolding suffix_of
suffix_complete ts part (a_suffix v p e f) after h = rw (e, f) refl

pub suffix_begins : (ts : List Lexeme) (part : Part) → IsSuffix ts part → (after : Stream) → anything (ahead after) ≡ true → is_name (ahead (ts ++> after)) ≡ true
suffix_begins ts part (a_suffix v p e f) after h = e

pub suffix_completed : Viable is_name anything suffix_of []
unfolding suffix_of
suffix_completed = record { others = entry_token ∷ []; spelled = one_spelled entry_token entry_spelled; value = Entry; begins = λ n after h. refl; reads = λ after h. rw entry_names refl }

same_part : (s after : Stream) → head after ≡ head s → part_at after ≡ part_at s
same_part (ends p) (ends q) h = refl
same_part (ends p) (breaks f) h = refl
same_part (ends p) (more t s) h = cc
same_part (breaks f) (ends q) h = refl
same_part (breaks f) (breaks g) h = refl
same_part (breaks f) (more t s) h = cc
same_part (more t s) (ends q) h = cc
same_part (more t s) (breaks f) h = cc
same_part (more t s) (more u r) h = let e : u ≡ t = cc in ap (λ (v : Lexeme). cond (is_name (sign_of v)) (part_named v.text) None) e

pub suffix_refused : (s : Stream) → part_at s ≡ None → (after : Stream) → head after ≡ head s → suffix_of after ≡ Err (refusal s)
unfolding suffix_of
suffix_refused s e after h = let k = same_part s after h ∙ e in rw k (ap Err (refusal_same s after h))

pub suffix_stuck : (s : Stream) → part_at s ≡ None → SteadyAt {I = Unit {0}} is_name anything suffix_of (λ i. suffix_of) s
suffix_stuck s e = stops [] (refusal s) s refl (λ after h. suffix_refused s e after h) (λ i. suffix_completed) (refused refl (λ i after h. suffix_refused s e after h))

pub suffix_law : (s : Stream) → SteadyAt {I = Unit {0}} is_name anything suffix_of (λ i. suffix_of) s
unfolding suffix_of
suffix_law (ends q) = suffix_stuck (ends q) refl
suffix_law (breaks f) = suffix_stuck (breaks f) refl
suffix_law (more v s) = at_part (part_at (more v s)) refl
  where
    at_part : (o : Option Part) → part_at (more v s) ≡ o → SteadyAt {I = Unit {0}} is_name anything suffix_of (λ i. suffix_of) (more v s)
    at_part None e = suffix_stuck (more v s) e
    at_part (Some p) e = both (v ∷ []) p s refl (λ after h. rw e refl) (λ i after h. rw e refl)

abbrev pub suffix_lawful : LawfulPhrase Breach Part is_name anything
suffix_lawful = record {
  phrase = record { reader = suffix_of; language = IsSuffix; sound = suffix_sound; complete = suffix_complete; begins = suffix_begins };
  lawful = record { law = suffix_law; one = sound_shrinks suffix_of IsSuffix suffix_sound; each = λ i. sound_shrinks suffix_of IsSuffix suffix_sound };
}

-- [ "." ( "entry" | "exit" ) ]
abbrev pub no_dot : Sign → Bool
no_dot = but marks.Dot

abbrev pub suffixed : LawfulPhrase Breach (Option Part) anything no_dot
suffixed = within_lawful _ no_dot anything no_dot (λ g h. refl) (λ g h. h) (optional_lawful marks.Dot is_name anything no_dot (λ g h. h) (λ g h. refl) suffix_lawful refl)

abbrev pub the_reference : Label → Option Part → RawTransition
the_reference l q = record { label = l; part = unwrap_or q Whole }

-- what stands behind the name
abbrev pub behind_name : Label → LawfulPhrase Breach RawTransition anything no_dot
behind_name l = map_lawful anything no_dot (λ g h. refl) (the_reference l) suffixed

abbrev pub reference_parts : LawfulPhrase Breach RawTransition is_name no_dot
reference_parts = then_lawful is_name anything anything no_dot (λ g h. refl) (name_lawful name_token name_spelled refl) behind_name (λ l. wider (λ g h. refl)) (moves refl (syntax 0) refl) (calmer (λ g h. refl))

pub to_reference : (ts : List Lexeme) (r : RawTransition) → reference_parts.phrase.language ts r → IsReference ts r
to_reference ts r (behind_it a b l r2 (one_name t e) (made us q left_out)) = spells_reference t [] Whole e the_whole
to_reference ts r (behind_it a b l r2 (one_name t e) (made us q (put_in u vs p d (a_suffix v p2 f k)))) = spells_reference t (u ∷ v ∷ []) p e (a_part u v p d f k)

pub from_reference : (ts : List Lexeme) (r : RawTransition) → IsReference ts r → reference_parts.phrase.language ts r
from_reference ts r (spells_reference t us part e the_whole) = behind_it (t ∷ []) [] (label_of t) (the_reference (label_of t) None) (one_name t e) (made [] None left_out)
from_reference ts r (spells_reference t us part e (a_part u v p d f k)) =
    behind_it (t ∷ []) (u ∷ v ∷ []) (label_of t) (the_reference (label_of t) (Some p)) (one_name t e) (made (u ∷ v ∷ []) (Some p) (put_in u (v ∷ []) p d (a_suffix v p f k)))

abbrev pub reference_lawful : LawfulPhrase Breach RawTransition is_name no_dot
reference_lawful = as_lawful is_name no_dot reference_parts IsReference to_reference from_reference

abbrev pub raw_reference : Reader RawTransition
raw_reference = reference_lawful.phrase.reader
