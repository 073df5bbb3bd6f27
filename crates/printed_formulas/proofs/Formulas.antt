-- Formulas as they are printed, with parentheses round a conjunction or a disjunction inside another formula.
use Rattle.std.proofs.Common.{◌≡◌, ℕ, zero, suc, true, false, List, [], ◌∷◌, ◌++◌, refl, sym, ap, subst, ◌∙◌, codes, Ok, append-nil, append_assoc}
use Rattle.st_tokens.specs.declared.kind.TokenKind.TheVariants.{Symbol}
use Rattle.st_tokens.specs.Stream.{Lexeme}
use Rattle.st_reading.specs.declared.mark.Mark.{Mark}
use Rattle.st_reading.specs.declared.mark.Mark.TheVariants as marks
use Rattle.st_reading.specs.Mark.{number}
use Rattle.st_reading.specs.Sign.{symbol_sign, is}
use Rattle.st_reading.specs.Spelling.{Items, no_items, item_more, row2}
use Rattle.expression_parser.specs.ExpressionTree.{Expr, node, start_of, exprs}
use Rattle.expression_parser.specs.ExpressionTree as raw
use Rattle.expression_parser.specs.Grammar.{Inside, SpellsWithin, IsAtom, a_group, IsNegation, tilde, straight, IsConjunction, alone, chained, disjunction}
use Rattle.st_form.specs.Formula.{Formula, Formulas, truth_value, row, equal, bool_var, at, negation, every, some, none, more}
use Rattle.st_program.specs.Names as tables
use Rattle.st_program.specs.Tree as terms
use Rattle.expression_typer.specs.Naming.{names_of}
use Rattle.expression_typer.specs.Scope.{Names}
use Rattle.expression_typer.specs.Typing.{typed_by, all_typed_by}
use Rattle.step_report.specs.Names.{variable_text, location_text}
use Rattle.step_report.specs.Sums.{sum_text}
use Rattle.equation_writer.specs.Texts.{opening, closing, formula_text, joined_text, further_text}
use Rattle.printed_formulas.specs.Loose.{IsLoose}
use Rattle.printed_formulas.specs.Printable.{AreSeveral, IsPrintable, ArePrintable}
use Rattle.printed_formulas.proofs.Pieces.{Anything, Piece, NoToken, OneToken, one_token, beside, seen_as, rewritten, narrowed, nothing}
use Rattle.printed_formulas.proofs.Symbols.{open_piece, close_piece, not_piece, and_piece, or_piece}
use Rattle.printed_formulas.proofs.Atoms.{Spells, true_atom, false_atom, variable_atom, place_atom}
use Rattle.printed_formulas.proofs.Comparisons.{Comparison, row_piece, equal_piece_of, atom_comparison}

-- what stands between the parts of a conjunction, or of a disjunction
record Junction : Type 0 where
  mark : Mark
  symbol : List ℕ
  rest : List ℕ
  is_mark : is (symbol_sign symbol) mark ≡ true
  piece : Piece Anything (32 ∷ rest) (OneToken Symbol symbol)

and_mark : is (symbol_sign (codes "/\\")) marks.And ≡ true
unfolding number
and_mark = refl

or_mark : is (symbol_sign (codes "\\/")) marks.Or ≡ true
unfolding number
or_mark = refl

abbrev conjunction : Junction
conjunction = record { mark = marks.And; symbol = codes "/\\"; rest = codes "/\\ "; is_mark = and_mark; piece = and_piece }

abbrev either : Junction
either = record { mark = marks.Or; symbol = codes "\\/"; rest = codes "\\/ "; is_mark = or_mark; piece = or_piece }

-- more levels are no harm
mutual
  pub weaker : (t : tables.Names) (n : ℕ) (f : Formula) → IsPrintable t n f → IsPrintable t (suc n) f
  weaker t zero f h = absurd h
  weaker t (suc n) (truth_value b) h = h
  weaker t (suc n) (row f) h = h
  weaker t (suc n) (equal f) h = h
  weaker t (suc n) (bool_var v) h = h
  weaker t (suc n) (at l) h = h
  weaker t (suc n) (negation f) h = weaker t n f h
  weaker t (suc n) (every fs) h = (h.0, all_weaker t n fs h.1)
  weaker t (suc n) (some fs) h = (h.0, all_weaker t n fs h.1)

  all_weaker : (t : tables.Names) (n : ℕ) (fs : Formulas) → ArePrintable t n fs → ArePrintable t (suc n) fs
  all_weaker t n none h = h
  all_weaker t n (more f fs) h = (weaker t n f h.0, all_weaker t n fs h.1)

module _ (t : tables.Names) where
  abbrev names : Names
  names = names_of t

  abbrev Part : ℕ → Formula → List Lexeme → Type 0
  Part n f = Spells names (IsNegation true (Inside true n)) (terms.truth f)

  abbrev Whole : ℕ → Formula → List Lexeme → Type 0
  Whole n f = Spells names (SpellsWithin true n) (terms.truth f)

  abbrev part_text : Formula → List ℕ
  part_text f = (opening f ++ formula_text t f) ++ closing f

  -- further parts
  abbrev Further : ℕ → Mark → Formulas → List Lexeme → Type 0
  Further n mark fs ts = (es : List Expr) × Items mark (IsNegation true (Inside true n)) ts es × (all_typed_by names (exprs es) ≡ Ok fs)

  straight_piece : (m : ℕ) (f : Formula) (text : List ℕ) → Piece IsLoose text (Spells names (Comparison t m) (terms.truth f)) → Piece IsLoose text (Part (suc m) f)
  straight_piece m f text piece = seen_as IsLoose (Spells names (Comparison t m) (terms.truth f)) (Part (suc m) f) text (λ ts l. (l.0, straight ts l.0 l.1, l.2)) piece

  ended : (n : ℕ) (f : Formula) (text : List ℕ) → Piece IsLoose text (Part n f) → Piece IsLoose (text ++ []) (Part n f)
  ended n f text piece = rewritten IsLoose (Part n f) text (text ++ []) (sym (append-nil text)) piece

  -- "~" and a part
  negated : (n : ℕ) (f : Formula) (a b : List Lexeme) → OneToken Symbol (codes "~") a → Part n f b → Part (suc n) (negation f) (a ++ b)
  unfolding number
  negated n f _ b (one_token start) l = (node start (raw.negation l.0), tilde (record { kind = Symbol; text = codes "~"; start = start }) b l.0 refl l.1, rw l.2 refl)

  negation_piece : (n : ℕ) (f : Formula) → Piece IsLoose (part_text f) (Part n f) → Piece IsLoose (((codes "~" ++ opening f) ++ formula_text t f) ++ closing f) (Part (suc n) (negation f))
  negation_piece n f piece =
      rewritten IsLoose (Part (suc n) (negation f)) (codes "~" ++ part_text f) (((codes "~" ++ opening f) ++ formula_text t f) ++ closing f)
      (sym (append_assoc (codes "~" ++ opening f) (formula_text t f) (closing f) ∙ append_assoc (codes "~") (opening f) (formula_text t f ++ closing f) ∙ ap (λ (u : List ℕ). codes "~" ++ u) (sym (append_assoc (opening f) (formula_text t f) (closing f)))))
      (beside Anything IsLoose (OneToken Symbol (codes "~")) (Part n f) (Part (suc n) (negation f)) (codes "~") (part_text f) not_piece piece (λ after l. tt) (negated n f))

  -- a formula in parentheses
  grouped : (n : ℕ) (f : Formula) (start end : ℕ) (b : List Lexeme) (e : Expr) → SpellsWithin true n b e → typed_by names e ≡ Ok (terms.truth f) → Spells names (IsAtom true (Inside true (suc n))) (terms.truth f) (record { kind = Symbol; text = codes "("; start = start } ∷ b ++ record { kind = Symbol; text = codes ")"; start = end } ∷ [])
  unfolding number
  grouped n f start end b (node p k) l e = (node start k, a_group (record { kind = Symbol; text = codes "("; start = start }) (record { kind = Symbol; text = codes ")"; start = end }) b (node p k) refl l refl, e)

  abbrev Closed : ℕ → Formula → List Lexeme → Type 0
  Closed n f ts = (b : List Lexeme) × (end : ℕ) × (ts ≡ b ++ record { kind = Symbol; text = codes ")"; start = end } ∷ []) × Whole n f b

  close_it : (n : ℕ) (f : Formula) (a b : List Lexeme) → Whole n f a → OneToken Symbol (codes ")") b → Closed n f (a ++ b)
  close_it n f a _ l (one_token end) = (a, end, refl, l)

  open_it : (n : ℕ) (f : Formula) (a d : List Lexeme) → OneToken Symbol (codes "(") a → Closed n f d → Spells names (IsAtom true (Inside true (suc n))) (terms.truth f) (a ++ d)
  open_it n f _ d (one_token start) r =
      let l : Whole n f r.0 = r.3 in
      subst (λ (us : List Lexeme). Spells names (IsAtom true (Inside true (suc n))) (terms.truth f) (record { kind = Symbol; text = codes "("; start = start } ∷ us)) (sym r.2) (grouped n f start r.1 r.0 l.0 l.1 l.2)

  group_piece : (n : ℕ) (f : Formula) (text : List ℕ) → Piece IsLoose text (Whole n f) → Piece IsLoose ((codes "(" ++ text) ++ codes ")") (Part (suc n) f)
  group_piece n f text piece =
      rewritten IsLoose (Part (suc n) f) (codes "(" ++ (text ++ codes ")")) ((codes "(" ++ text) ++ codes ")") (sym (append_assoc (codes "(") text (codes ")")))
      (straight_piece n f (codes "(" ++ (text ++ codes ")")) (atom_comparison t n (terms.truth f) (codes "(" ++ (text ++ codes ")"))
      (beside Anything IsLoose (OneToken Symbol (codes "(")) (Closed n f) (Spells names (IsAtom true (Inside true (suc n))) (terms.truth f)) (codes "(") (text ++ codes ")") open_piece
      (narrowed Anything (Closed n f) IsLoose (text ++ codes ")") (λ after l. tt)
      (beside IsLoose Anything (Whole n f) (OneToken Symbol (codes ")")) (Closed n f) text (codes ")") piece close_piece (λ after p. refl) (close_it n f)))
      (λ after l. tt) (open_it n f))))

  -- one part more
  module _ (j : Junction) (n : ℕ) where
    no_more : (ts : List Lexeme) → NoToken ts → Further n j.mark none ts
    no_more [] e = ([], no_items, refl)
    no_more (u ∷ ts) e = elim e [ ]

    abbrev Both : Formula → Formulas → List Lexeme → Type 0
    Both f fs ts = (a : List Lexeme) × (b : List Lexeme) × (ts ≡ a ++ b) × Part n f a × Further n j.mark fs b

    one_more : (f : Formula) (fs : Formulas) (a d : List Lexeme) → OneToken Symbol j.symbol a → Both f fs d → Further n j.mark (more f fs) (a ++ d)
    one_more f fs _ d (one_token start) r =
        let l : Part n f r.0 = r.3 in
        let m : Further n j.mark fs r.1 = r.4 in
        subst (λ (us : List Lexeme). Further n j.mark (more f fs) (record { kind = Symbol; text = j.symbol; start = start } ∷ us)) (sym r.2)
        (l.0 ∷ m.0, item_more (record { kind = Symbol; text = j.symbol; start = start }) r.0 r.1 l.0 m.0 j.is_mark l.1 m.1, rw (l.2, m.2) refl)

    further_loose : (fs : Formulas) (after : List ℕ) → IsLoose after → IsLoose (further_text t (32 ∷ j.rest) fs ++ after)
    further_loose none after l = l
    further_loose (more f fs) after l = refl

    more_piece : (f : Formula) (fs : Formulas) → Piece IsLoose (part_text f) (Part n f) → Piece IsLoose (further_text t (32 ∷ j.rest) fs) (Further n j.mark fs) → Piece IsLoose (further_text t (32 ∷ j.rest) (more f fs)) (Further n j.mark (more f fs))
    more_piece f fs first second =
        let sign : List ℕ = 32 ∷ j.rest in
        let tail : List ℕ = further_text t sign fs in
        rewritten IsLoose (Further n j.mark (more f fs)) (sign ++ (part_text f ++ tail)) ((((sign ++ opening f) ++ formula_text t f) ++ closing f) ++ tail)
        (sym (append_assoc ((sign ++ opening f) ++ formula_text t f) (closing f) tail ∙ append_assoc (sign ++ opening f) (formula_text t f) (closing f ++ tail) ∙ append_assoc sign (opening f) (formula_text t f ++ (closing f ++ tail))
        ∙ ap (λ (u : List ℕ). sign ++ u) (sym (append_assoc (opening f ++ formula_text t f) (closing f) tail ∙ append_assoc (opening f) (formula_text t f) (closing f ++ tail)))))
        (beside Anything IsLoose (OneToken Symbol j.symbol) (Both f fs) (Further n j.mark (more f fs)) sign (part_text f ++ tail) j.piece
        (beside IsLoose IsLoose (Part n f) (Further n j.mark fs) (Both f fs) (part_text f) tail first second (further_loose fs) (λ a b l m. (a, b, refl, l, m)))
        (λ after l. tt) (one_more f fs))

  -- a conjunction, and a disjunction
  conjoined : (n : ℕ) (f g : Formula) (fs : Formulas) (a b : List Lexeme) → Part n f a → Further n marks.And (more g fs) b → Whole n (every (more f (more g fs))) (a ++ b)
  conjoined n f g fs a b l ([], items, e) = absurd (cc)
  conjoined n f g fs a b l (y ∷ ys, items, e) =
      (node (start_of l.0) (raw.all (exprs (l.0 ∷ y ∷ ys))), disjunction (a ++ b) _ (alone (a ++ b) _ (chained (a ++ b) l.0 y ys (row2 a b l.0 y ys l.1 items))), rw (l.2, e) refl)

  items_alone : (n : ℕ) (ts : List Lexeme) (es : List Expr) → Items marks.Or (IsNegation true (Inside true n)) ts es → Items marks.Or (IsConjunction true (Inside true n)) ts es
  items_alone n _ _ no_items = no_items
  items_alone n _ _ (item_more u a b y ys m i rest) = item_more u a b y ys m (alone a y i) (items_alone n b ys rest)

  disjoined : (n : ℕ) (f g : Formula) (fs : Formulas) (a b : List Lexeme) → Part n f a → Further n marks.Or (more g fs) b → Whole n (some (more f (more g fs))) (a ++ b)
  disjoined n f g fs a b l ([], items, e) = absurd (cc)
  disjoined n f g fs a b l (y ∷ ys, items, e) =
      (node (start_of l.0) (raw.any (exprs (l.0 ∷ y ∷ ys))), disjunction (a ++ b) _ (chained (a ++ b) l.0 y ys (row2 a b l.0 y ys (alone a l.0 l.1) (items_alone n b (y ∷ ys) items))), rw (l.2, e) refl)

  mutual
    part : (n : ℕ) (f : Formula) → IsPrintable t n f → Piece IsLoose (part_text f) (Part n f)
    part zero f h = absurd h
    part (suc n) (truth_value true) h = straight_piece n (truth_value true) (codes "true") (atom_comparison t n (terms.truth (truth_value true)) (codes "true") (true_atom names (Inside true (suc n))))
    part (suc n) (truth_value false) h = straight_piece n (truth_value false) (codes "false") (atom_comparison t n (terms.truth (truth_value false)) (codes "false") (false_atom names (Inside true (suc n))))
    part (suc n) (row f) h = ended (suc n) (row f) (sum_text t f ++ codes " >= 0") (straight_piece n (row f) (sum_text t f ++ codes " >= 0") (row_piece t n f h))
    part (suc n) (equal f) h = ended (suc n) (equal f) (sum_text t f ++ codes " = 0") (straight_piece n (equal f) (sum_text t f ++ codes " = 0") (equal_piece_of t n f h))
    part (suc n) (bool_var v) h =
        ended (suc n) (bool_var v) (variable_text t v) (straight_piece n (bool_var v) (variable_text t v) (atom_comparison t n (terms.truth (bool_var v)) (variable_text t v) (variable_atom t (Inside true (suc n)) v true h)))
    part (suc n) (at l) h =
        ended (suc n) (at l) (codes "at " ++ location_text t l) (straight_piece n (at l) (codes "at " ++ location_text t l) (atom_comparison t n (terms.truth (at l)) (codes "at " ++ location_text t l) (place_atom t (Inside true (suc n)) l h)))
    part (suc n) (negation f) h = ended (suc n) (negation f) (((codes "~" ++ opening f) ++ formula_text t f) ++ closing f) (negation_piece n f (part n f h))
    part (suc n) (every fs) h = group_piece n (every fs) (joined_text t (codes " /\\ ") (codes "true") fs) (conjunction_piece n fs h.0 h.1)
    part (suc n) (some fs) h = group_piece n (some fs) (joined_text t (codes " \\/ ") (codes "false") fs) (disjunction_piece n fs h.0 h.1)

    conjunction_piece : (n : ℕ) (fs : Formulas) → AreSeveral fs → ArePrintable t n fs → Piece IsLoose (joined_text t (codes " /\\ ") (codes "true") fs) (Whole n (every fs))
    conjunction_piece n none several h = absurd several
    conjunction_piece n (more f none) several h = absurd several
    conjunction_piece n (more f (more g fs)) several h =
        beside IsLoose IsLoose (Part n f) (Further n marks.And (more g fs)) (Whole n (every (more f (more g fs)))) (part_text f) (further_text t (codes " /\\ ") (more g fs)) (part n f h.0)
        (further_parts conjunction n (more g fs) h.1) (further_loose conjunction n (more g fs)) (conjoined n f g fs)

    disjunction_piece : (n : ℕ) (fs : Formulas) → AreSeveral fs → ArePrintable t n fs → Piece IsLoose (joined_text t (codes " \\/ ") (codes "false") fs) (Whole n (some fs))
    disjunction_piece n none several h = absurd several
    disjunction_piece n (more f none) several h = absurd several
    disjunction_piece n (more f (more g fs)) several h =
        beside IsLoose IsLoose (Part n f) (Further n marks.Or (more g fs)) (Whole n (some (more f (more g fs)))) (part_text f) (further_text t (codes " \\/ ") (more g fs)) (part n f h.0)
        (further_parts either n (more g fs) h.1) (further_loose either n (more g fs)) (disjoined n f g fs)

    further_parts : (j : Junction) (n : ℕ) (fs : Formulas) → ArePrintable t n fs → Piece IsLoose (further_text t (32 ∷ j.rest) fs) (Further n j.mark fs)
    further_parts j n none h = seen_as IsLoose NoToken (Further n j.mark none) [] (no_more j n) (nothing IsLoose)
    further_parts j n (more f fs) h = more_piece j n f fs (part n f h.0) (further_parts j n fs h.1)

  -- a part that isn't in parentheses
  bare : (n : ℕ) (f : Formula) → opening f ≡ [] → closing f ≡ [] → Piece IsLoose (part_text f) (Part n f) → Piece IsLoose (formula_text t f) (Whole n f)
  bare n f o c piece =
      seen_as IsLoose (Part n f) (Whole n f) (formula_text t f) (λ ts l. (l.0, disjunction ts l.0 (alone ts l.0 (alone ts l.0 l.1)), l.2))
      (rewritten IsLoose (Part n f) (part_text f) (formula_text t f) (ap (λ (u : List ℕ). (u ++ formula_text t f) ++ closing f) o ∙ ap (λ (u : List ℕ). formula_text t f ++ u) c ∙ append-nil (formula_text t f)) piece)

  pub formula_piece : (n : ℕ) (f : Formula) → IsPrintable t n f → Piece IsLoose (formula_text t f) (Spells names (SpellsWithin true n) (terms.truth f))
  formula_piece zero f h = absurd h
  formula_piece (suc n) (every fs) h = conjunction_piece (suc n) fs h.0 (all_weaker t n fs h.1)
  formula_piece (suc n) (some fs) h = disjunction_piece (suc n) fs h.0 (all_weaker t n fs h.1)
  formula_piece (suc n) (truth_value b) h = bare (suc n) (truth_value b) refl refl (part (suc n) (truth_value b) h)
  formula_piece (suc n) (row f) h = bare (suc n) (row f) refl refl (part (suc n) (row f) h)
  formula_piece (suc n) (equal f) h = bare (suc n) (equal f) refl refl (part (suc n) (equal f) h)
  formula_piece (suc n) (bool_var v) h = bare (suc n) (bool_var v) refl refl (part (suc n) (bool_var v) h)
  formula_piece (suc n) (at l) h = bare (suc n) (at l) refl refl (part (suc n) (at l) h)
  formula_piece (suc n) (negation f) h = bare (suc n) (negation f) refl refl (part (suc n) (negation f) h)
