-- Steps, read and not judged: name ":" claim [ "using" names ] ";".
use Rattle.std.proofs.Common.{◌≡◌, ℕ, Bool, true, false, List, [], ◌∷◌, ◌++◌, Err, refl}
use Rattle.std.specs.Prelude.{codes, ◌||◌}
use Rattle.st_tokens.specs.Stream.{Lexeme, ends, IsSpelled}
use Rattle.st_reading.specs.declared.mark.Mark.TheVariants as marks
use Rattle.st_reading.specs.declared.sign.Sign.{Sign}
use Rattle.st_reading.specs.declared.sign.Sign.TheVariants as signs
use Rattle.st_reading.specs.Mark.{number}
use Rattle.st_reading.specs.Sign.{is}
use Rattle.st_reading.specs.Reading.{Label, syntax, is_name}
use Rattle.st_reading.specs.Breaches.{Breach}
use Rattle.st_reading.specs.Spelling.{Is, behind_it}
use Rattle.st_reading.specs.Steady.{Within, moves, wider, anything}
use Rattle.st_reading.proofs.Tokens.{among, alone, at_mark}
use Rattle.st_reading.proofs.Phrases.{made}
use Rattle.st_reading.proofs.ListSoundness.{one_mark}
use Rattle.st_reading.proofs.LawfulPhrases.{LawfulPhrase, mark_lawful, as_lawful, or_next}
use Rattle.script_grammar.specs.RawScripts.{RawClaim, RawStep}
use Rattle.script_grammar.specs.Grammar.{IsRawNamed, spells_named}
use Rattle.script_grammar.proofs.JudgedPairs.{both_of, made_lawful, pair_lawful, after_lawful}
use Rattle.script_grammar.proofs.JudgedBrackets.{symbol}
use Rattle.script_grammar.proofs.Citations.{a_name, step_end, end_not_using, end_quiet, names_lawful, using_front, using_lawful}

-- MARKS
abbrev pub colon_token : Lexeme
colon_token = symbol (codes ":")

abbrev pub semicolon_token : Lexeme
semicolon_token = symbol (codes ";")

pub colon_spelled : IsSpelled colon_token
colon_spelled = refl

pub semicolon_spelled : IsSpelled semicolon_token
semicolon_spelled = refl

pub colon_is : Is marks.Colon colon_token
unfolding number
colon_is = refl

pub semicolon_is : Is marks.Semicolon semicolon_token
unfolding number
semicolon_is = refl

abbrev pub semicolon : Sign → Bool
semicolon = among (marks.Semicolon ∷ [])

pub semicolon_ends : Within semicolon step_end
semicolon_ends g h = let e = alone marks.Semicolon g h in rw e refl

pub semicolon_or_using : Within semicolon using_front
semicolon_or_using g h = or_next marks.Using is_name step_end step_end end_not_using (λ g h. h) names_lawful end_quiet g (semicolon_ends g h)

abbrev pub semicolon_lawful : LawfulPhrase Breach ℕ semicolon anything
semicolon_lawful = mark_lawful marks.Semicolon semicolon_token semicolon_spelled semicolon_is (rw semicolon_is refl)

-- [ "using" names ] ";"
abbrev pub cited_lawful : LawfulPhrase Breach (List Label × ℕ) using_front anything
cited_lawful = pair_lawful using_front step_end semicolon anything semicolon_ends refl using_lawful (wider semicolon_or_using) semicolon_lawful refl

pub cited_needs : cited_lawful.phrase.reader (ends 0) ≡ Err (syntax 0)
cited_needs = refl

-- what may follow a claim
pub using_within : (set : Sign → Bool) → set (signs.Marked marks.Using) ≡ true → Within step_end set → Within using_front set
using_within set using closes g h = at_test (is g marks.Using) refl h
  where
    at_test : (b : Bool) → is g marks.Using ≡ b → (b || step_end g) ≡ true → set g ≡ true
    at_test true e k = at_mark set true marks.Using using g e
    at_test false e k = closes g k

-- name ":" claim [ "using" names ] ";"
module _ (inner : Sign → Bool) (quiet : inner signs.Nothing ≡ true) (follows : Within using_front inner) (c : LawfulPhrase Breach RawClaim anything inner) where
  abbrev pub claim_lawful : LawfulPhrase Breach RawClaim (among (marks.Colon ∷ [])) inner
  claim_lawful = after_lawful marks.Colon colon_token colon_spelled colon_is anything inner c (wider (λ g h. refl))

  abbrev pub claimed_lawful : LawfulPhrase Breach (RawClaim × (List Label × ℕ)) (among (marks.Colon ∷ [])) anything
  claimed_lawful = pair_lawful (among (marks.Colon ∷ [])) inner using_front anything follows refl claim_lawful (moves quiet (syntax 0) refl) cited_lawful cited_needs

  abbrev pub named_parts : LawfulPhrase Breach (Label × (RawClaim × (List Label × ℕ))) is_name anything
  named_parts = pair_lawful is_name anything (among (marks.Colon ∷ [])) anything (λ g h. refl) refl a_name (moves refl (syntax 0) refl) claimed_lawful refl

  abbrev pub the_step : Label × (RawClaim × (List Label × ℕ)) → RawStep
  the_step q = record { name = q.0; claim = q.1.0; cited = q.1.1.0 }

  abbrev pub step_parts : LawfulPhrase Breach RawStep is_name anything
  step_parts = made_lawful is_name anything the_step named_parts (moves refl (syntax 0) refl)

  pub to_step : (ts : List Lexeme) (s : RawStep) → step_parts.phrase.language ts s → IsRawNamed c.phrase.language ts s
  to_step ts s (made us q (behind_it a d l z ln (made k1 k2 (behind_it b f x z2 lc (made k3 k4 (behind_it h i ls z3 lu (made k5 n (one_mark u eu)))))))) = spells_named a b h u l x ls ln lc lu eu

  pub from_step : (ts : List Lexeme) (s : RawStep) → IsRawNamed c.phrase.language ts s → step_parts.phrase.language ts s
  from_step ts s (spells_named a b h u l x ls ln lc lu eu) =
      made (a ++ (b ++ (h ++ u ∷ []))) (both_of l (both_of x (both_of ls u.start)))
      (behind_it a (b ++ (h ++ u ∷ [])) l (both_of l (both_of x (both_of ls u.start))) ln
      (made (b ++ (h ++ u ∷ [])) (both_of x (both_of ls u.start)) (behind_it b (h ++ u ∷ []) x (both_of x (both_of ls u.start)) lc
      (made (h ++ u ∷ []) (both_of ls u.start) (behind_it h (u ∷ []) ls (both_of ls u.start) lu (made (u ∷ []) u.start (one_mark u eu)))))))

  abbrev pub step_lawful : LawfulPhrase Breach RawStep is_name anything
  step_lawful = as_lawful is_name anything step_parts (IsRawNamed c.phrase.language) to_step from_step
