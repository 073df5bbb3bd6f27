-- An invariance as it is printed, behind a text that stands for steps.
use Rattle.std.proofs.Common.{◌≡◌, ℕ, zero, suc, ◌+◌, ◌-◌, ◌<◌, ◌≤◌, ◌^◌, pred, true, List, [], ◌∷◌, ◌++◌, take, length, refl, sym, ap, subst, ◌∙◌, arith, codes, append-nil, append_assoc}
use Rattle.std.specs.Fmt.{decimal}
use Rattle.std.specs.Str.Parse.{AllDigits}
use Rattle.std.proofs.lemmas.Fmt.{decimal_is_IsNumeral}
use Rattle.st_tokens.specs.declared.kind.TokenKind.TheVariants.{Name, Keyword, Symbol}
use Rattle.st_tokens.specs.declared.kind.TokenFault.TheVariants.{BadByte, LongNumber}
use Rattle.st_tokens.specs.declared.kind.Front.{Front}
use Rattle.st_tokens.specs.declared.kind.Front.TheVariants.{Blank, Whole, Bad, Long}
use Rattle.st_tokens.specs.Text.{front_at}
use Rattle.st_tokens.specs.Stream.{◌++>◌, Lexeme, Stream, ends, breaks, more, lex, begin, text_stream, shifted}
use Rattle.st_tokens.proofs.Cutting.{lexeme_at}
use Rattle.st_reading.specs.declared.mark.Mark.TheVariants as marks
use Rattle.st_reading.specs.Mark.{number}
use Rattle.st_reading.specs.Sign.{declaring_word, basic_word, compound_word, step_word}
use Rattle.st_reading.specs.Spelling.{Is}
use Rattle.st_reading.specs.Phrases.{after_mark}
use Rattle.st_reading.proofs.Streams.{append_stream}
use Rattle.expression_parser.specs.Grammar.{SpellsWithin}
use Rattle.st_form.specs.Formula.{Formula}
use Rattle.st_program.specs.Names.{IsNew}
use Rattle.st_program.specs.Tree as terms
use Rattle.expression_typer.specs.Naming.{names_of}
use Rattle.expression_typer.specs.Typing.{as_truth}
use Rattle.expression_typer.specs.Answers.{◌>>=◌}
use Rattle.expression_parser.specs.ExpressionTree.{start_of}
use Rattle.temporal_goals.specs.Texts.{PlainStep, invariant, basic}
use Rattle.equation_writer.specs.Texts.{formula_text}
use Rattle.equation_writer.specs.Sentences.{invariance_text}
use Rattle.proof_script.specs.Listing.{Setting}
use Rattle.proof_grammar.specs.Units.{IsFormula, new_name, names_of_steps}
use Rattle.proof_grammar.specs.Grammar.{by_itself, no_using, named_step, IsStep, invariance_step, IsScript, no_further_step, a_further_step}
use Rattle.proof_grammar.specs.Theorems.{SpelledScriptsAreRead}
use Rattle.proof_grammar.proofs.Meanings.{formula_meant}
use Rattle.declared_names.specs.Words.{AreWordBytes, IsWord}
use Rattle.printed_formulas.specs.Loose.{IsLoose}
use Rattle.printed_formulas.specs.Printable.{IsPrintable}
use Rattle.printed_formulas.specs.Theorems.{PrintedFormulasAreSpelled, invariance_name, invariance, PrintedInvariancesAreRead}
use Rattle.printed_formulas.proofs.Pieces.{Anything, Piece, NoToken, OneToken, one_token, beside, seen_as, rewritten, blank, token}
use Rattle.printed_formulas.proofs.Words.{word_front, name_piece}
use Rattle.printed_formulas.proofs.Numerals.{digit_word}
use Rattle.printed_formulas.proofs.Symbols.{colon_piece, end_piece}
use Rattle.printed_formulas.proofs.Atoms.{Spells}
use Rattle.printed_formulas.proofs.Formulas.{formula_piece}

-- a spelled formula
module _ (g : Setting) (f : Formula) where
  as_formula : (ts : List Lexeme) → Spells (names_of g.names) (SpellsWithin true 32) (terms.truth f) ts → IsFormula g ts f
  as_formula ts l = formula_meant g ts f l.0 l.1 (ap (λ r. r >>= λ x. as_truth (start_of l.0) x) l.2)

  is_formula : IsPrintable g.names 32 f → Piece IsLoose (formula_text g.names f) (λ ts. IsFormula g ts f)
  is_formula h = seen_as IsLoose (Spells (names_of g.names) (SpellsWithin true 32) (terms.truth f)) (λ ts. IsFormula g ts f) (formula_text g.names f) as_formula (formula_piece g.names 32 f h)

pub printed_formulas_are_spelled : PrintedFormulasAreSpelled
printed_formulas_are_spelled g f h end after l = is_formula g f h end after l

-- the name of the step
digits_words : (ds : List ℕ) → AllDigits 10 ds → AreWordBytes ds
digits_words [] h = tt
digits_words (d ∷ ds) h = (digit_word d h.0, digits_words ds h.1)

name_word : (n : ℕ) → n < 2 ^ 64 → IsWord (invariance_name n)
name_word n h = (refl, (refl, digits_words (decimal n) (decimal_is_IsNumeral n h).0.1), refl)

-- "invariant"
one_alone : (a b : List Lexeme) → OneToken Keyword (codes "invariant") a → NoToken b → OneToken Keyword (codes "invariant") (a ++ b)
one_alone _ [] (one_token start) n = one_token start
one_alone a (u ∷ b) o n = elim n [ ]

head_piece : Piece Anything (codes "invariant ") (OneToken Keyword (codes "invariant"))
head_piece =
    beside IsLoose Anything (OneToken Keyword (codes "invariant")) NoToken (OneToken Keyword (codes "invariant")) (codes "invariant") (codes " ")
    (token IsLoose Keyword (codes "invariant") (omega arith) (λ after l. word_front 105 (codes "nvariant") after refl (refl, (refl, (refl, (refl, (refl, (refl, (refl, (refl, tt)))))))) l)) blank (λ after p. refl) one_alone

abbrev keyword_at : ℕ → Lexeme
keyword_at start = record { kind = Keyword; text = codes "invariant"; start = start }

abbrev colon_at : ℕ → Lexeme
colon_at start = record { kind = Symbol; text = codes ":"; start = start }

abbrev end_at : ℕ → Lexeme
end_at start = record { kind = Symbol; text = codes ";"; start = start }

keyword_is : (start : ℕ) → Is marks.Invariant (keyword_at start)
unfolding declaring_word basic_word compound_word step_word number
keyword_is start = refl

colon_is : (start : ℕ) → Is marks.Colon (colon_at start)
unfolding number
colon_is start = refl

end_is : (start : ℕ) → Is marks.Semicolon (end_at start)
unfolding number
end_is start = refl

module _ (g : Setting) (earlier : List PlainStep) (n : ℕ) (f : Formula) (new : IsNew (invariance_name n) (names_of_steps earlier)) where
  -- a formula and ";", a colon before them, and the name before that
  abbrev Ended : List Lexeme → Type 0
  Ended ts = (a : List Lexeme) × (end : ℕ) × (ts ≡ a ++ end_at end ∷ []) × IsFormula g a f

  abbrev Claimed : List Lexeme → Type 0
  Claimed ts = (a : List Lexeme) × (end : ℕ) × (colon : ℕ) × (ts ≡ colon_at colon ∷ (a ++ end_at end ∷ [])) × IsFormula g a f

  ended : (a b : List Lexeme) → IsFormula g a f → OneToken Symbol (codes ";") b → Ended (a ++ b)
  ended a _ l (one_token end) = (a, end, refl, l)

  claimed : (a d : List Lexeme) → OneToken Symbol (codes ":") a → Ended d → Claimed (a ++ d)
  claimed _ d (one_token colon) r = (r.0, r.1, colon, ap (λ (us : List Lexeme). colon_at colon ∷ us) r.2, r.3)

  abbrev name_at : ℕ → Lexeme
  name_at start = record { kind = Name; text = invariance_name n; start = start }

  step_is : (start name colon end : ℕ) (a : List Lexeme) → IsFormula g a f → IsStep g earlier (keyword_at start ∷ name_at name ∷ colon_at colon ∷ (a ++ end_at end ∷ [])) (invariance n f)
  step_is start name colon end a l =
      invariance_step (keyword_at start) (name_at name ∷ colon_at colon ∷ (a ++ end_at end ∷ [])) (invariance n f) (keyword_is start)
      (named_step (name_at name ∷ []) (colon_at colon ∷ a) [] (end_at end) (invariance_name n) (invariant f, basic) [] (new_name (name_at name) refl new)
      (after_mark (colon_at colon) a (invariant f, basic) (colon_is colon) (by_itself a f l)) no_using (end_is end))

  abbrev Called : List Lexeme → Type 0
  Called ts = (a : List Lexeme) × (end : ℕ) × (colon : ℕ) × (name : ℕ) × (ts ≡ name_at name ∷ colon_at colon ∷ (a ++ end_at end ∷ [])) × IsFormula g a f

  called : (a d : List Lexeme) → OneToken Name (invariance_name n) a → Claimed d → Called (a ++ d)
  called _ d (one_token name) r = (r.0, r.1, r.2, name, ap (λ (us : List Lexeme). name_at name ∷ us) r.3, r.4)

  whole : (a d : List Lexeme) → OneToken Keyword (codes "invariant") a → Called d → IsStep g earlier (a ++ d) (invariance n f)
  whole _ d (one_token start) r = subst (λ (us : List Lexeme). IsStep g earlier (keyword_at start ∷ us) (invariance n f)) (sym r.4) (step_is start r.3 r.2 r.1 r.0 r.5)

  abbrev step_text : List ℕ
  step_text = codes "invariant " ++ (invariance_name n ++ (codes ": " ++ (formula_text g.names f ++ codes ";")))

  step_text_is : step_text ≡ invariance_text g.names n f
  step_text_is =
      ap (λ (u : List ℕ). codes "invariant eq" ++ u) (sym (append_assoc (decimal n ++ codes ": ") (formula_text g.names f) (codes ";") ∙ append_assoc (decimal n) (codes ": ") (formula_text g.names f ++ codes ";")))

  step_piece : n < 2 ^ 64 → IsPrintable g.names 32 f → Piece Anything (invariance_text g.names n f) (λ ts. IsStep g earlier ts (invariance n f))
  step_piece small h =
      rewritten Anything (λ ts. IsStep g earlier ts (invariance n f)) step_text (invariance_text g.names n f) step_text_is
      (beside Anything Anything (OneToken Keyword (codes "invariant")) Called (λ ts. IsStep g earlier ts (invariance n f)) (codes "invariant ") (invariance_name n ++ (codes ": " ++ (formula_text g.names f ++ codes ";"))) head_piece
      (beside IsLoose Anything (OneToken Name (invariance_name n)) Claimed Called (invariance_name n) (codes ": " ++ (formula_text g.names f ++ codes ";")) (name_piece (invariance_name n) (name_word n small))
      (beside Anything Anything (OneToken Symbol (codes ":")) Ended Claimed (codes ": ") (formula_text g.names f ++ codes ";") colon_piece
      (beside IsLoose Anything (λ ts. IsFormula g ts f) (OneToken Symbol (codes ";")) Ended (formula_text g.names f) (codes ";") (is_formula g f h) end_piece (λ after p. refl) ended)
      (λ after p. tt) claimed) (λ after p. refl) called) (λ after p. tt) whole)

-- one step more
longer : (g : Setting) (before : List PlainStep) (a b : List Lexeme) (steps : List PlainStep) (s : PlainStep) → IsScript g before a steps → IsStep g steps b s → IsScript g before (a ++ b) (steps ++ s ∷ [])
longer g _ _ b _ s (no_further_step x) i =
    subst (λ (us : List Lexeme). IsScript g x us (x ++ s ∷ [])) (append-nil b) (a_further_step x b [] s (x ++ s ∷ []) i (no_further_step (x ++ s ∷ [])))
longer g _ _ b _ s (a_further_step x c d y steps j rest) i =
    subst (λ (us : List Lexeme). IsScript g x us (steps ++ s ∷ [])) (sym (append_assoc c d b)) (a_further_step x c (d ++ b) y (steps ++ s ∷ []) j (longer g (x ++ y ∷ []) d b steps s rest i))

-- the tokens of a text further on
moved_front : (d end place place2 : ℕ) (bs : List ℕ) (go go2 : ℕ → Stream) → place2 ≡ d + place → ((k : ℕ) → go2 k ≡ shifted d (go k)) → (x : Front) → begin x place2 bs go2 ≡ shifted d (begin x place bs go)
moved_front d end place place2 bs go go2 is same (Blank n) = same (pred n)
moved_front d end place place2 bs go go2 is same (Whole kind n) = ap (λ p. more (lexeme_at kind (take n bs) p) (go2 (pred n))) is ∙ ap (more (lexeme_at kind (take n bs) (d + place))) (same (pred n))
moved_front d end place place2 bs go go2 is same Bad = ap (λ p. breaks (BadByte p)) is
moved_front d end place place2 bs go go2 is same Long = ap (λ p. breaks (LongNumber p)) is

moved : (d end skip : ℕ) (bs : List ℕ) → length bs ≤ end → lex (d + end) skip bs ≡ shifted d (lex end skip bs)
unfolding lex
moved d end skip [] h = refl
moved d end (suc skip) (b ∷ bs) h = moved d end skip bs (omega arith)
moved d end zero (b ∷ bs) h = moved_front d end (end - length (b ∷ bs)) (d + end - length (b ∷ bs)) (b ∷ bs) (λ k. lex end k bs) (λ k. lex (d + end) k bs) (omega arith) (λ k. moved d end k bs (omega arith)) (front_at b bs)

at_end : (end : ℕ) → lex end 0 [] ≡ ends end
unfolding lex
at_end end = refl

pub printed_invariances_are_read : SpelledScriptsAreRead → PrintedInvariancesAreRead
printed_invariances_are_read read g before steps n f s new small h =
    let text : List ℕ = invariance_text g.names n f in
    let end : ℕ = length before + length text in
    let piece = step_piece g steps n f new small h end [] tt in
    let ts : List Lexeme = piece.0 in
    let there : lex end 0 text ≡ ts ++> ends end = ap (lex end 0) (sym (append-nil text)) ∙ piece.1 ∙ ap (λ z. ts ++> z) (at_end end) in
    let all : text_stream (before ++ text) ≡ (s.tokens ++ ts) ++> ends end =
    s.first text ∙ ap (λ z. s.tokens ++> z) (sym (moved (length before) (length text) 0 text (omega arith)) ∙ there) ∙ sym (append_stream s.tokens ts (ends end)) in
    read g (before ++ text) (steps ++ invariance n f ∷ []) (s.tokens ++ ts, end, all, longer g [] s.tokens ts steps (invariance n f) s.script piece.2)
