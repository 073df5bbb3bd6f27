-- The earlier steps that a step cites.
use Rattle.std.proofs.Common.{◌≡◌, ℕ, ◌+◌, Bool, true, false, cond, List, [], ◌∷◌, ◌++◌, length, Option, Some, None, Ok, Err, refl, sym, ap, ◌∙◌, arith}
use Rattle.std.specs.Prelude.{◌||◌, not}
use Rattle.st_tokens.specs.Stream.{Lexeme, Stream, behind}
use Rattle.st_reading.specs.declared.mark.Mark.{Mark}
use Rattle.st_reading.specs.declared.mark.Mark.TheVariants as marks
use Rattle.st_reading.specs.declared.sign.Sign.{Sign}
use Rattle.st_reading.specs.declared.sign.Sign.TheVariants as signs
use Rattle.st_reading.specs.Mark.{number}
use Rattle.st_reading.specs.Sign.{is}
use Rattle.st_reading.specs.Reading.{Read, ◌>>=◌, Label, syntax, ahead, is_name, named, gives, then_reads, further}
use Rattle.st_reading.specs.Breaches.{Breach, Reader}
use Rattle.st_reading.specs.BrokenRules.{Broken}
use Rattle.st_reading.specs.Phrases.{left_out, put_in}
use Rattle.st_reading.specs.Spelling.{OneName, behind_it, one_name, row}
use Rattle.st_reading.specs.Steady.{Within, Wide, moves, wider, calmer, anything}
use Rattle.st_reading.proofs.Tokens.{but, at_mark}
use Rattle.st_reading.proofs.Phrases.{made}
use Rattle.st_reading.proofs.LawfulPhrases.{LawfulPhrase, name_lawful, as_lawful, then_lawful, map_lawful, optional_front, optional_lawful, or_next}
use Rattle.st_reading.proofs.JudgedParts.{Turns}
use Rattle.temporal_goals.specs.Texts.{PlainStep}
use Rattle.proof_script.specs.Listing.{optional}
use Rattle.proof_script.specs.Steps.{Earlier, cited_of, citations_of, earlier_of}
use Rattle.script_grammar.specs.Sizes.{label_size, marked_size, optional_size}
use Rattle.script_grammar.specs.Grammar.{IsRawUsing, cites_none, cites}
use Rattle.script_grammar.specs.Breaking.{marked_rules, optional_rules}
use Rattle.script_grammar.specs.Rules.{cited_rules}
use Rattle.script_grammar.proofs.RawReferences.{name_token, name_spelled}
use Rattle.script_grammar.proofs.TokenLaws.{citing, judged_cited}
use Rattle.script_grammar.proofs.JudgedPairs.{both_of, made_lawful, pairs}
use Rattle.script_grammar.proofs.Judges.{Judges, Whatever, pair_so, made_so, seen_so, as_so, optional_so, weaker_so}
use Rattle.script_grammar.proofs.MarkedItems.{items_lawful, items_front, items_or_next}
use Rattle.script_grammar.proofs.JudgedLists.{alike_so, Grows}

-- one text and another behind it, which may have no tokens
module _ {A B : Type 0} (front mid front2 next : Sign → Bool) (meets : Within front2 mid) (p : LawfulPhrase Breach A front mid) (wide : Wide front front2 mid p.phrase.reader) (q : LawfulPhrase Breach B front2 next) (fits : Within next front2) (closes : Within next mid) where
  abbrev pub loose_lawful : LawfulPhrase Breach (A × B) front next
  loose_lawful = then_lawful front mid front2 next meets p (λ x. made_lawful front2 next (both_of x) q (wider fits)) (λ x. wider fits) wide (calmer closes)

-- a step's end, or that of the text
abbrev pub is_nothing : Sign → Bool
is_nothing signs.Nothing = true
is_nothing _ = false

abbrev pub step_end : Sign → Bool
step_end g = is g marks.Semicolon || is_nothing g

pub step_end_within : (set : Sign → Bool) → set (signs.Marked marks.Semicolon) ≡ true → set signs.Nothing ≡ true → Within step_end set
step_end_within set semicolon nothing g h = at_test (is g marks.Semicolon) refl h
  where
    at_nothing : (u : Sign) → is_nothing u ≡ true → set u ≡ true
    at_nothing signs.Nothing e = nothing
    at_nothing signs.Name e = absurd cc
    at_nothing signs.Other e = absurd cc
    at_nothing (signs.Numeral n) e = absurd cc
    at_nothing (signs.Marked m) e = absurd cc

    at_test : (b : Bool) → is g marks.Semicolon ≡ b → (b || is_nothing g) ≡ true → set g ≡ true
    at_test true e k = at_mark set true marks.Semicolon semicolon g e
    at_test false e k = at_nothing g k

pub end_not_comma : Within step_end (but marks.Comma)
unfolding number
end_not_comma = step_end_within (but marks.Comma) refl refl

pub end_not_using : Within step_end (but marks.Using)
unfolding number
end_not_using = step_end_within (but marks.Using) refl refl

pub end_quiet : step_end signs.Nothing ≡ true
end_quiet = refl

-- name { "," name }
abbrev pub a_name : LawfulPhrase Breach Label is_name anything
a_name = name_lawful name_token name_spelled refl

abbrev pub names_front : Sign → Bool
names_front = items_front marks.Comma is_name anything step_end refl end_not_comma (λ g h. refl) a_name

abbrev pub more_names : LawfulPhrase Breach (List Label) names_front step_end
more_names = items_lawful marks.Comma is_name anything step_end refl end_not_comma (λ g h. refl) a_name

abbrev pub names_lawful : LawfulPhrase Breach (Label × List Label) is_name step_end
names_lawful = loose_lawful is_name anything names_front step_end (λ g h. refl) a_name (moves refl (syntax 0) refl) more_names (items_or_next marks.Comma is_name anything step_end refl end_not_comma (λ g h. refl) a_name) (λ g h. refl)

-- [ "using" names ]
abbrev pub using_front : Sign → Bool
using_front = optional_front marks.Using is_name step_end step_end end_not_using (λ g h. h) names_lawful end_quiet

abbrev pub using_option : LawfulPhrase Breach (Option (Label × List Label)) using_front step_end
using_option = optional_lawful marks.Using is_name step_end step_end end_not_using (λ g h. h) names_lawful end_quiet

abbrev pub the_names : Option (Label × List Label) → List Label
the_names None = []
the_names (Some p) = p.0 ∷ p.1

abbrev pub using_parts : LawfulPhrase Breach (List Label) using_front step_end
using_parts = map_lawful using_front step_end (or_next marks.Using is_name step_end step_end end_not_using (λ g h. h) names_lawful end_quiet) the_names using_option

pub to_using : (ts : List Lexeme) (ls : List Label) → using_parts.phrase.language ts ls → IsRawUsing ts ls
to_using ts ls (made us o left_out) = cites_none
to_using ts ls (made us o (put_in t vs p e (behind_it a b x q l (made c xs items)))) = cites t (a ++ c) (x ∷ xs) e (row a c x xs l items)

pub from_using : (ts : List Lexeme) (ls : List Label) → IsRawUsing ts ls → using_parts.phrase.language ts ls
from_using ts ls cites_none = made [] None left_out
from_using ts ls (cites t us zs e (row a b x xs l items)) = made (t ∷ (a ++ b)) (Some (both_of x xs)) (put_in t (a ++ b) (both_of x xs) e (behind_it a b x (both_of x xs) l (made b xs items)))

abbrev pub using_lawful : LawfulPhrase Breach (List Label) using_front step_end
using_lawful = as_lawful using_front step_end using_parts IsRawUsing to_using from_using

-- JUDGED
module _ (before : List PlainStep) where
  abbrev earlier : Earlier
  earlier = earlier_of before

  cited_so : Judges anything (cited_of earlier) a_name.phrase.reader label_size (cited_rules before) (λ l n. citing before l ≡ Ok n)
  cited_so = record { judged = λ at s. judged_cited before at s }

  abbrev more_cited : ℕ → Reader (List ℕ)
  more_cited c = further marks.Comma (cited_of earlier) (c ∷ [])

  abbrev listed : Reader (List ℕ)
  listed = then_reads (cited_of earlier) more_cited

  listed_so : Judges step_end listed names_lawful.phrase.reader (λ p. label_size p.0 + marked_size label_size p.1) (λ at p. cited_rules before at p.0 ++ marked_rules label_size (cited_rules before) (at + label_size p.0) p.1) Whatever
  listed_so =
      pair_so {makes = Whatever} (λ g h. refl) more_names (wider (items_or_next marks.Comma is_name anything step_end refl end_not_comma (λ g h. refl) a_name)) cited_so
      (λ l n m. made_weak (alike_so marks.Comma is_name anything step_end refl end_not_comma (λ g h. refl) a_name (moves refl (syntax 0) refl) label_size (cited_rules before) (cited_of earlier) (λ l n. citing before l ≡ Ok n) cited_so (n ∷ [])))
    where
      made_weak : {xs : List ℕ} → Judges step_end (further marks.Comma (cited_of earlier) xs) more_names.phrase.reader (marked_size label_size) (marked_rules label_size (cited_rules before)) (Turns Grows xs) → Judges step_end (further marks.Comma (cited_of earlier) xs) more_names.phrase.reader (marked_size label_size) (marked_rules label_size (cited_rules before)) Whatever
      made_weak j = weaker_so Whatever (λ b a m. tt) j

  abbrev unwrapped : Option (List ℕ) → List ℕ
  unwrapped None = []
  unwrapped (Some cs) = cs

  citations_are : (s : Stream) → citations_of earlier s ≡ then_reads (optional marks.Using listed) (λ o. gives (unwrapped o)) s
  unfolding citations_of
  citations_are s = at_test (is (ahead s) marks.Using)
    where
      at_read : (o : Read Breach (List ℕ)) → o ≡ ((o >>= λ x. gives {X = Breach} (Some x.0) x.1) >>= λ y. gives {X = Breach} (unwrapped y.0) y.1)
      at_read (Ok x) = refl
      at_read (Err f) = refl

      at_test : (b : Bool) → cond b (listed (behind s)) (Ok ([], s)) ≡ (cond b (then_reads listed (λ x. gives (Some x)) (behind s)) (Ok (None, s)) >>= λ y. gives {X = Breach} (unwrapped y.0) y.1)
      at_test true = at_read (listed (behind s))
      at_test false = refl

  cited_size : (o : Option (Label × List Label)) → marked_size label_size (the_names o) ≡ optional_size (λ p. label_size p.0 + marked_size label_size p.1) o
  cited_size None = refl
  cited_size (Some p) = omega arith

  cited_ruled : (at : ℕ) (o : Option (Label × List Label)) → marked_rules label_size (cited_rules before) at (the_names o) ≡ optional_rules (λ at p. cited_rules before at p.0 ++ marked_rules label_size (cited_rules before) (at + label_size p.0) p.1) at o
  cited_ruled at None = refl
  cited_ruled at (Some p) = let e : at + (1 + label_size p.0) ≡ (at + 1) + label_size p.0 = omega arith in ap (λ n. cited_rules before (at + 1) p.0 ++ marked_rules label_size (cited_rules before) n p.1) e

  pub citations_so : Judges step_end (citations_of earlier) using_lawful.phrase.reader (marked_size label_size) (marked_rules label_size (cited_rules before)) Whatever
  citations_so =
      as_so (citations_of earlier) using_lawful.phrase.reader citations_are (λ s. refl)
      (seen_so the_names (marked_size label_size) (marked_rules label_size (cited_rules before)) Whatever cited_size cited_ruled (λ o x m. tt)
      (made_so unwrapped Whatever (λ o x m. tt) (optional_so marks.Using step_end (λ g h. h) names_lawful (moves refl (syntax 0) refl) listed_so)))
