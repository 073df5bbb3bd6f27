-- The modes of a group are within the bounds of a system.
use Rattle.std.proofs.Common.{◌≡◌, ℕ, suc, ◌+◌, ◌^◌, ◌<◌, ◌≤◌, Bool, true, false, length, List, [], ◌∷◌, ◌++◌, map, ℤ, ◌*ℤ◌, Option, Some, None, refl, ap, ◌∙◌, subst, arith}
use Rattle.std.specs.Prelude.{slice_get, unsigned_abs, flat_map, option_and_then, ◌&&◌, ◌==◌, if◌then◌else◌}
use Rattle.std.specs.Option.{option_map}
use Rattle.std.proofs.lemmas.Bool.Decides.{nat_tests}
use Rattle.std.proofs.lemmas.Int.{unsigned_abs-mul}
use Rattle.std.proofs.lemmas.Nat.{mul-le}
use Rattle.st_linear.specs.Linear.{Linear, replaced}
use Rattle.st_linear.proofs.Replacing.{bind-some}
use Rattle.st_form.specs.Formula.{Formula, Formulas, truth_value, row, equal, bool_var, at, negation, every, some, none, more, formulas}
use Rattle.st_form.specs.Exchange.{truth_for, exchanged, all_exchanged}
use Rattle.st_form.specs.declared.variables.Variable.{Variable}
use Rattle.transition_system.specs.Bounds.{EntriesWithin, LinearWithin, FormulaWithin, FormulasWithin, ModeWithin}
use Rattle.st_program.specs.Tree.{Term, number, truth, Piece, Pieces, piece_skip, piece_assign, piece_await, piece_if, no_piece, piece}
use Rattle.st_program.specs.Types.{LinearFits, FormulaFits, FormulasFit, TestFits, TermFits, TargetsFit, PieceFits, PiecesFit, is_truth}
use Rattle.st_program.specs.Groups.{GroupFits, Link, tested, given, paths, paths_along, Composed, nothing_composed, exchange_of, is_written_number, are_written, is_written, if_written, composed_term, put, put_all, signed, met, composed_link, composed}
use Rattle.spl_translation.specs.Translation.{path_mode, path_modes}
use Rattle.spl_translation.proofs.Fitted.{types, type_there, changed_type, linear_within, listed_within}
use Rattle.spl_translation.proofs.Rises.{inserted_all, inserted_rises, NumberWithin, TruthWithin, ValuesWithin, none_within, moving_within}
use Rattle.list_laws.specs.Each.{Each}
use Rattle.list_laws.proofs.Eachs.{each_weaker, each_append}
use Rattle.transition_system.proofs.ReplacedSizes.{UpTo, behind, behind_more, replaced_up, up_of, of_up}
use Rattle.spl_translation.proofs.FewEntries.{entries_few}
use Rattle.basic_laws.proofs.Integers.{product}
use Rattle.basic_laws.proofs.Truths.{both_true}

some_is : {X : Type 0} (x y : X) → Some x ≡ Some y → x ≡ y
some_is x y e = cc

mapped : {X Y : Type 0} (P : Y → Type 0) (k : X → Y) (o : Option X) (g : Y) → option_map k o ≡ Some g → ((y : X) → o ≡ Some y → P (k y)) → P g
mapped P k None g e f = cc
mapped P k (Some y) g e f = subst P (some_is (k y) g e) (f y refl)

each_map : {X Y : Type 0} (P : Y → Type 0) (f : X → Y) (xs : List X) → Each (λ x. P (f x)) xs → Each P (map f xs)
each_map P f [] h = tt
each_map P f (x ∷ xs) h = (h.0, each_map P f xs h.1)

each_flat : {X Y : Type 0} (P : X → Type 0) (Q : Y → Type 0) (f : X → List Y) → ((x : X) → P x → Each Q (f x)) → (xs : List X) → Each P xs → Each Q (flat_map f xs)
each_flat P Q f g [] h = tt
each_flat P Q f g (x ∷ xs) h = each_append Q (f x) (flat_map f xs) (g x h.0) (each_flat P Q f g xs h.1)

number_le : (z : ℤ) → is_written_number z ≡ true → unsigned_abs z ≤ 2 ^ 30
unfolding is_written_number
number_le z e = grind (arith, nat_tests)

module _ (vs : List Variable) (few : length vs ≤ 64) (locations : ℕ) where
  fits_up : (bound : ℕ) → bound ≤ suc (2 ^ 32) → (f : Linear) → LinearFits vs bound f → UpTo (types vs) (2 ^ 32) f
  fits_up bound le f h = up_of (types vs) (2 ^ 32) f (linear_within vs bound (suc (2 ^ 32)) le f h)

  number_up : (p : ℕ × Linear) → NumberWithin vs locations p → UpTo (types vs) (2 ^ 30) p.1
  number_up p h = up_of (types vs) (2 ^ 30) p.1 h.1

  top : behind (types vs) (2 ^ 62) 64 (2 ^ 32) ≡ 2 ^ 32 + 2 ^ 68
  top = refl

  replaced_within : (ns : List (ℕ × Linear)) → Each (NumberWithin vs locations) ns → (bound : ℕ) → bound ≤ suc (2 ^ 32) → (f : Linear) → LinearFits vs bound f → (r : Linear) → replaced ns f ≡ Some r → LinearWithin (types vs) (2 ^ 69) r
  replaced_within ns k bound le f h r e =
      let n = entries_few vs bound f h in
      let m = behind_more (types vs) (2 ^ 62) (length f.entries) 64 (2 ^ 32) (2 ^ 32) (omega arith) (omega arith) in
      let t = top in
      of_up (types vs) (behind (types vs) (2 ^ 62) (length f.entries) (2 ^ 32)) (2 ^ 69) r (omega arith)
      (replaced_up (types vs) (2 ^ 30) (2 ^ 32) (2 ^ 62) product ns (each_weaker (NumberWithin vs locations) (λ p. UpTo (types vs) (2 ^ 30) p.1) number_up ns k) f (fits_up bound le f h) r e)

  truth_within : (v : ℕ) (ts : List (ℕ × Formula)) → Each (TruthWithin vs locations) ts → slice_get (types vs) v ≡ Some true → FormulaWithin (types vs) locations (2 ^ 69) (truth_for v ts)
  truth_within v [] k h = h
  truth_within v (p ∷ ps) k h = by_test (p.0 == v) (truth_within v ps k.1 h)
    where
      by_test : (b : Bool) → FormulaWithin (types vs) locations (2 ^ 69) (truth_for v ps) → FormulaWithin (types vs) locations (2 ^ 69) (if b then p.1 else truth_for v ps)
      by_test true r = k.0.1
      by_test false r = r

  pub record ComposedWithin (c : Composed) : Type 0 where
    pub tests : Each (FormulaWithin (types vs) locations (2 ^ 69)) c.tests
    pub values : ValuesWithin vs locations c.numbers c.truths

  module _ (c : Composed) (w : ComposedWithin c) where
    mutual
      exchanged_within : (f : Formula) → FormulaFits vs (2 ^ 32) f → (g : Formula) → exchanged (exchange_of c) f ≡ Some g → FormulaWithin (types vs) locations (2 ^ 69) g
      exchanged_within (truth_value b) h g e = subst (FormulaWithin (types vs) locations (2 ^ 69)) (some_is (truth_value b) g e) tt
      exchanged_within (row f) h g e = mapped (FormulaWithin (types vs) locations (2 ^ 69)) row (replaced c.numbers f) g e (λ r q. replaced_within c.numbers w.values.numbers (2 ^ 32) (omega arith) f h r q)
      exchanged_within (equal f) h g e = mapped (FormulaWithin (types vs) locations (2 ^ 69)) equal (replaced c.numbers f) g e (λ r q. replaced_within c.numbers w.values.numbers (2 ^ 32) (omega arith) f h r q)
      exchanged_within (bool_var v) h g e = subst (FormulaWithin (types vs) locations (2 ^ 69)) (some_is (truth_for v c.truths) g e) (truth_within v c.truths w.values.truth_values (type_there vs v ∙ h))
      exchanged_within (at l) h g e = absurd h
      exchanged_within (negation f) h g e = mapped (FormulaWithin (types vs) locations (2 ^ 69)) negation (exchanged (exchange_of c) f) g e (λ r q. exchanged_within f h r q)
      exchanged_within (every fs) h g e = mapped (FormulaWithin (types vs) locations (2 ^ 69)) every (all_exchanged (exchange_of c) fs) g e (λ rs q. all_within fs h rs q)
      exchanged_within (some fs) h g e = mapped (FormulaWithin (types vs) locations (2 ^ 69)) some (all_exchanged (exchange_of c) fs) g e (λ rs q. all_within fs h rs q)

      all_within : (fs : Formulas) → FormulasFit vs (2 ^ 32) fs → (gs : Formulas) → all_exchanged (exchange_of c) fs ≡ Some gs → FormulasWithin (types vs) locations (2 ^ 69) gs
      all_within none h gs e = subst (FormulasWithin (types vs) locations (2 ^ 69)) (some_is none gs e) tt
      all_within (more f fs) h gs e =
          let first = bind-some (λ g. option_map (more g) (all_exchanged (exchange_of c) fs)) (exchanged (exchange_of c) f) gs e in
          mapped (FormulasWithin (types vs) locations (2 ^ 69)) (more first.0) (all_exchanged (exchange_of c) fs) gs first.2 (λ rs q. (exchanged_within f h.0 first.0 first.1, all_within fs h.1 rs q))

  -- a right side
  abbrev TermWithin : Bool → Term → Type 0
  TermWithin b (number f) = (b ≡ false) × LinearWithin (types vs) (2 ^ 30 + 1) f
  TermWithin b (truth f) = (b ≡ true) × FormulaWithin (types vs) locations (2 ^ 69) f

  written_entries : (bound : ℕ) (es : List (ℕ × ℤ)) → EntriesWithin (types vs) bound es → are_written es ≡ true → EntriesWithin (types vs) (2 ^ 30 + 1) es
  written_entries bound [] h e = tt
  written_entries bound (x ∷ es) h e =
      let both = both_true (is_written_number x.1) (are_written es) e in
      let q = number_le x.1 both.0 in
      (h.0, omega arith, written_entries bound es h.2 both.1)

  written_within : (bound : ℕ) (f : Linear) → LinearWithin (types vs) bound f → is_written f ≡ true → LinearWithin (types vs) (2 ^ 30 + 1) f
  written_within bound f h e =
      let both = both_true (is_written_number f.constant) (are_written f.entries) e in
      let q = number_le f.constant both.0 in
      record { rising = h.rising; constant = omega arith; entries = written_entries bound f.entries h.entries both.1 }

  if_written_is : (f g : Linear) → if_written f ≡ Some g → (f ≡ g) × (is_written f ≡ true)
  if_written_is f g e = by_test (is_written f) refl e
    where
      by_test : (b : Bool) → is_written f ≡ b → (if b then Some f else None) ≡ Some g → (f ≡ g) × (is_written f ≡ true)
      by_test true q e = (some_is f g e, q)
      by_test false q e = cc

  term_within : (c : Composed) → ComposedWithin c → (x : Term) → TermFits vs x → (y : Term) → composed_term c x ≡ Some y → TermWithin (is_truth x) y
  term_within c w (number f) h y e =
      mapped (TermWithin false) number (option_and_then if_written (replaced c.numbers f)) y e
      (λ g q. (let made = bind-some if_written (replaced c.numbers f) g q in
      let is = if_written_is made.0 g made.2 in
      (refl, subst (LinearWithin (types vs) (2 ^ 30 + 1)) is.0 (written_within (2 ^ 69) made.0 (replaced_within c.numbers w.values.numbers (suc (2 ^ 30)) (omega arith) f h made.0 made.1) is.1))))
  term_within c w (truth f) h y e =
      mapped (TermWithin true) truth (exchanged (exchange_of c) f) y e (λ g q. (refl, exchanged_within c w f h g q))

  put_within : (v : ℕ) (b : Bool) (y : Term) (c : Composed) → slice_get (types vs) v ≡ Some b → TermWithin b y → ComposedWithin c → ComposedWithin (put v y c)
  put_within v b (number f) c t h w = record {
    tests = w.tests;
    values = record {
      numbers_rise = inserted_rises 0 v f c.numbers (omega arith) w.values.numbers_rise;
      truths_rise = w.values.truths_rise;
      numbers = inserted_all (NumberWithin vs locations) v f c.numbers (t ∙ ap Some h.0, h.1) w.values.numbers;
      truth_values = w.values.truth_values;
    };
  }
  put_within v b (truth f) c t h w = record {
    tests = w.tests;
    values = record {
      numbers_rise = w.values.numbers_rise;
      truths_rise = inserted_rises 0 v f c.truths (omega arith) w.values.truths_rise;
      numbers = w.values.numbers;
      truth_values = inserted_all (TruthWithin vs locations) v f c.truths (t ∙ ap Some h.0, h.1) w.values.truth_values;
    };
  }

  put_all_within : (b : Composed) → ComposedWithin b → (xs : List (ℕ × Term)) → TargetsFit vs xs → (c d : Composed) → ComposedWithin c → put_all b xs c ≡ Some d → ComposedWithin d
  put_all_within b w [] h c d k e = subst ComposedWithin (some_is c d e) k
  put_all_within b w (x ∷ xs) h c d k e =
      let first = bind-some (λ term. put_all b xs (put x.0 term c)) (composed_term b x.1) d e in
      put_all_within b w xs h.3 (put x.0 first.0 c) d
      (put_within x.0 (is_truth x.1) first.0 c (changed_type vs x.0 (is_truth x.1) h.0) (term_within b w x.1 h.1 first.0 first.1) k)
      first.2

  abbrev LinkFits : Link → Type 0
  LinkFits (tested f b) = TestFits vs f
  LinkFits (given xs) = TargetsFit vs xs

  signed_within : (b : Bool) (f : Formula) → FormulaWithin (types vs) locations (2 ^ 69) f → FormulaWithin (types vs) locations (2 ^ 69) (signed b f)
  signed_within true f h = h
  signed_within false f h = h

  link_within : (link : Link) → LinkFits link → (c d : Composed) → ComposedWithin c → composed_link link c ≡ Some d → ComposedWithin d
  link_within (tested f b) h c d w e =
      mapped ComposedWithin (λ g. met (signed b g) c) (exchanged (exchange_of c) f) d e
      (λ g q. record {
        tests = each_append (FormulaWithin (types vs) locations (2 ^ 69)) c.tests (signed b g ∷ []) w.tests (signed_within b g (exchanged_within c w f h g q), tt);
        values = w.values;
      })
  link_within (given xs) h c d w e = put_all_within c w xs h c d w e

  path_within : (path : List Link) → Each LinkFits path → (c d : Composed) → ComposedWithin c → composed path c ≡ Some d → ComposedWithin d
  path_within [] h c d w e = subst ComposedWithin (some_is c d e) w
  path_within (link ∷ path) h c d w e =
      let first = bind-some (composed path) (composed_link link c) d e in
      path_within path h.1 first.0 d (link_within link h.0 c first.0 w first.1) first.2

  -- each path has fitting links
  mutual
    paths_fit : (x : Piece) → PieceFits vs x → Each (Each LinkFits) (paths x)
    paths_fit piece_skip h = (tt, tt)
    paths_fit (piece_assign xs) h = ((h, tt), tt)
    paths_fit (piece_await t) h = ((h, tt), tt)
    paths_fit (piece_if t y n) h =
        each_append (Each LinkFits) (map (λ path. tested t true ∷ path) (paths_along y)) (map (λ path. tested t false ∷ path) (paths_along n))
        (each_map (Each LinkFits) (λ path. tested t true ∷ path) (paths_along y) (each_weaker (Each LinkFits) _ (λ path k. (h.0, k)) (paths_along y) (along_fit y h.1)))
        (each_map (Each LinkFits) (λ path. tested t false ∷ path) (paths_along n) (each_weaker (Each LinkFits) _ (λ path k. (h.0, k)) (paths_along n) (along_fit n h.2)))

    along_fit : (xs : Pieces) → PiecesFit vs xs → Each (Each LinkFits) (paths_along xs)
    along_fit no_piece h = (tt, tt)
    along_fit (piece x xs) h =
        each_flat (Each LinkFits) (Each LinkFits) (λ path. map (λ further. path ++ further) (paths_along xs))
        (λ path k. each_map (Each LinkFits) (λ further. path ++ further) (paths_along xs) (each_weaker (Each LinkFits) _ (λ further q. each_append LinkFits path further k q) (paths_along xs) (along_fit xs h.1)))
        (paths x) (paths_fit x h.0)

  nothing_within : ComposedWithin nothing_composed
  nothing_within = record { tests = tt; values = none_within vs locations }

  mode_within : (l next : ℕ) → l < locations → next < locations → (o : Option Composed) → ((d : Composed) → o ≡ Some d → ComposedWithin d) → Each (ModeWithin (types vs) locations) (path_mode l o next)
  mode_within l next a b None h = tt
  mode_within l next a b (Some d) h =
      let w = h d refl in
      (moving_within vs locations (l ∷ []) (next ∷ []) (every (formulas d.tests)) d.numbers d.truths (a, tt) (b, tt) (listed_within (types vs) locations (2 ^ 69) d.tests w.tests) w.values, tt)

  pub group_within : (xs : Pieces) → PiecesFit vs xs × GroupFits xs → (l next : ℕ) → l < locations → next < locations → Each (ModeWithin (types vs) locations) (path_modes l (paths_along xs) next)
  group_within xs h l next a b =
      each_flat (Each LinkFits) (ModeWithin (types vs) locations) (λ path. path_mode l (composed path nothing_composed) next)
      (λ path k. mode_within l next a b (composed path nothing_composed) (λ d q. path_within path k nothing_composed d nothing_within q))
      (paths_along xs) (along_fit xs h.0)
