-- What is told of a transition's modes, one after the other.
use Rattle.std.proofs.Common.{◌≡◌, ℕ, zero, suc, ◌+◌, ◌<◌, ◌≤◌, Bool, true, false, List, [], ◌∷◌, length, map, take, get_or, refl, sym, ap, ◌∙◌, subst, arith}
use Rattle.std.specs.Prelude.{◌&&◌, ◌||◌, not}
use Rattle.std.specs.List.{list_any}
use Rattle.basic_laws.proofs.Truths.{or_false}
use Rattle.transition_system.specs.Systems.{PlainMode}
use Rattle.transition_system.specs.Meaning.{can_go}
use Rattle.transition_system.specs.Plain.{plain_mode}
use Rattle.transition_system.specs.declared.transitions.Mode.{Mode}
use Rattle.shown_states.specs.declared.pictures.Picture.{Picture}
use Rattle.shown_states.specs.Pictures.{seen}
use Rattle.shown_states.specs.Enabling.{wide_mode, surely_goes}

abbrev pub some_mode : (PlainMode → Bool) → List Mode → Bool
some_mode f ms = list_any f (map plain_mode ms)

-- some mode does so where one does
some_there : (f : PlainMode → Bool) (ms : List Mode) (i : ℕ) (m : Mode) → i < length ms → m ≡ get_or ms i m → f (plain_mode m) ≡ true → some_mode f ms ≡ true
some_there f [] i m lt is h = absurd (omega arith)
some_there f (n ∷ ms) zero m lt is h = ap (λ b. b || some_mode f ms) (ap (λ z. f (plain_mode z)) (sym is) ∙ h)
some_there f (n ∷ ms) (suc i) m lt is h = later (f (plain_mode n)) (some_mode f ms) (some_there f ms i m (omega arith) is h)
  where
    later : (a b : Bool) → b ≡ true → (a || b) ≡ true
    later true b q = refl
    later false b q = q

-- with one mode more
some_more : (f : PlainMode → Bool) (ms : List Mode) (i : ℕ) (m : Mode) → i < length ms → m ≡ get_or ms i m → some_mode f (take (suc i) ms) ≡ (some_mode f (take i ms) || f (plain_mode m))
some_more f [] i m lt is = absurd (omega arith)
some_more f (n ∷ ms) zero m lt is = or_false (f (plain_mode n)) ∙ ap (λ z. f (plain_mode z)) (sym is)
some_more f (n ∷ ms) (suc i) m lt is = ap (λ b. f (plain_mode n) || b) (some_more f ms i m (omega arith) is) ∙ grouped (f (plain_mode n)) (some_mode f (take i ms)) (f (plain_mode m))
  where
    grouped : (a b c : Bool) → (a || (b || c)) ≡ ((a || b) || c)
    grouped true b c = refl
    grouped false b c = refl

some_all : (f : PlainMode → Bool) (ms : List Mode) (i : ℕ) → length ms ≤ i → some_mode f (take i ms) ≡ some_mode f ms
some_all f [] zero h = refl
some_all f [] (suc i) h = refl
some_all f (n ∷ ms) zero h = absurd (omega arith)
some_all f (n ∷ ms) (suc i) h = ap (λ b. f (plain_mode n) || b) (some_all f ms i (omega arith))

pub goes_told : (p : Picture) (ms : List Mode) (i : ℕ) (m : Mode) → i < length ms → m ≡ get_or ms i m → wide_mode (plain_mode m) p ≡ false → can_go (plain_mode m) (seen p) ≡ true
    → ((not (some_mode (λ m. surely_goes m p) ms) && some_mode (λ m. wide_mode m p) ms) ≡ false) × (true ≡ some_mode (λ m. can_go m (seen p)) ms)
goes_told p ms i m lt is narrow goes = (
  ap (λ b. not b && some_mode (λ m. wide_mode m p) ms) (some_there (λ m. surely_goes m p) ms i m lt is (ap (λ b. not b && can_go (plain_mode m) (seen p)) narrow ∙ goes)),
  sym (some_there (λ m. can_go m (seen p)) ms i m lt is goes),
)

pub record SoFar (p : Picture) (ms : List Mode) (i : ℕ) (wide : Bool) : Type 0 where
  pub untold : some_mode (λ m. surely_goes m p) (take i ms) ≡ false
  pub some_wide : wide ≡ some_mode (λ m. wide_mode m p) (take i ms)
  pub calm : wide ≡ false → some_mode (λ m. can_go m (seen p)) (take i ms) ≡ false

pub starts : (p : Picture) (ms : List Mode) → SoFar p ms 0 false
starts p ms = record { untold = refl; some_wide = refl; calm = λ _. refl }

module _ (p : Picture) (ms : List Mode) (i : ℕ) (m : Mode) (lt : i < length ms) (is : m ≡ get_or ms i m) where
  more : (f : PlainMode → Bool) → some_mode f (take (i + 1) ms) ≡ (some_mode f (take i ms) || f (plain_mode m))
  more f = ap (λ n. some_mode f (take n ms)) (let e : i + 1 ≡ suc i = omega arith in e) ∙ some_more f ms i m lt is

  with_false : (f : PlainMode → Bool) (b : Bool) → some_mode f (take i ms) ≡ b → f (plain_mode m) ≡ false → some_mode f (take (i + 1) ms) ≡ b
  with_false f b h q = more f ∙ ap (λ x. some_mode f (take i ms) || x) q ∙ or_false (some_mode f (take i ms)) ∙ h

  pub passes_by : (wide after : Bool) → wide_mode (plain_mode m) p ≡ false → can_go (plain_mode m) (seen p) ≡ false → after ≡ wide → SoFar p ms i wide → SoFar p ms (i + 1) after
  passes_by wide after narrow stays same s = subst (SoFar p ms (i + 1)) (sym same) record {
    untold = with_false (λ m. surely_goes m p) false s.untold (ap (λ b. not b && can_go (plain_mode m) (seen p)) narrow ∙ stays);
    some_wide = sym (with_false (λ m. wide_mode m p) wide (sym s.some_wide) narrow);
    calm = λ q. with_false (λ m. can_go m (seen p)) false (s.calm q) stays;
  }

  pub grows_wide : (wide after : Bool) → wide_mode (plain_mode m) p ≡ true → after ≡ true → SoFar p ms i wide → SoFar p ms (i + 1) after
  grows_wide wide after large same s = subst (SoFar p ms (i + 1)) (sym same) record {
    untold = with_false (λ m. surely_goes m p) false s.untold (ap (λ b. not b && can_go (plain_mode m) (seen p)) large);
    some_wide = sym (more (λ m. wide_mode m p) ∙ ap (λ x. some_mode (λ m. wide_mode m p) (take i ms) || x) large ∙ or_true (some_mode (λ m. wide_mode m p) (take i ms)));
    calm = λ q. absurd (cc);
  }
    where
      or_true : (a : Bool) → (a || true) ≡ true
      or_true true = refl
      or_true false = refl

pub wide_told : (p : Picture) (ms : List Mode) (i : ℕ) (wide : Bool) → length ms ≤ i → wide ≡ true → SoFar p ms i wide
    → (not (some_mode (λ m. surely_goes m p) ms) && some_mode (λ m. wide_mode m p) ms) ≡ true
wide_told p ms i wide le h s =
    ap (λ b. not b && some_mode (λ m. wide_mode m p) ms) (sym (some_all (λ m. surely_goes m p) ms i le) ∙ s.untold)
    ∙ sym (some_all (λ m. wide_mode m p) ms i le) ∙ sym s.some_wide ∙ h

pub none_told : (p : Picture) (ms : List Mode) (i : ℕ) (wide : Bool) → length ms ≤ i → wide ≡ false → SoFar p ms i wide
    → ((not (some_mode (λ m. surely_goes m p) ms) && some_mode (λ m. wide_mode m p) ms) ≡ false) × (false ≡ some_mode (λ m. can_go m (seen p)) ms)
none_told p ms i wide le h s = (
  ap (λ b. not b && some_mode (λ m. wide_mode m p) ms) (sym (some_all (λ m. surely_goes m p) ms i le) ∙ s.untold) ∙ sym (some_all (λ m. wide_mode m p) ms i le) ∙ sym s.some_wide ∙ h,
  sym (sym (some_all (λ m. can_go m (seen p)) ms i le) ∙ s.calm h),
)
