-- Sets of tokens, as tests of what stands ahead.
use Rattle.std.proofs.Common.{Bool, List, [], ap, false, not, refl, sym, true, ◌&&◌, ◌||◌, ◌∙◌, ◌∷◌, ◌≡◌}
use Rattle.st_reading.proofs.Numbers.{is_marked}
use Rattle.st_reading.specs.Sign.{is}
use Rattle.st_reading.specs.Steady.{Within}
use Rattle.st_reading.specs.declared.mark.Mark.{Mark}
use Rattle.st_reading.specs.declared.sign.Sign.{Sign}
use Rattle.st_reading.specs.declared.sign.Sign.TheVariants as signs

-- one of these marks
abbrev pub among : List Mark → Sign → Bool
among [] g = false
among (m ∷ ms) g = is g m || among ms g

abbrev pub all_in : (Sign → Bool) → List Mark → Bool
all_in set [] = true
all_in set (m ∷ ms) = set (signs.Marked m) && all_in set ms

-- what is known of each mark is known of each token that is one of them
pub marks_within : (set : Sign → Bool) (ms : List Mark) → all_in set ms ≡ true → Within (among ms) set
marks_within set [] all g h = absurd cc
marks_within set (m ∷ ms) all g h = at_first (λ a b. marks_within set ms a g b) (is g m) refl (set (signs.Marked m)) refl h all
  where
    at_first : (all_in set ms ≡ true → among ms g ≡ true → set g ≡ true) → (b : Bool) → b ≡ is g m → (c : Bool) → c ≡ set (signs.Marked m) → (b || among ms g) ≡ true → (c && all_in set ms) ≡ true → set g ≡ true
    at_first again b e false f h all = absurd cc
    at_first again true e true f h all = ap set (is_marked g m (sym e)) ∙ sym f
    at_first again false e true f h all = again all h

abbrev pub but : Mark → Sign → Bool
but m g = not (is g m)

pub not_that : (m : Mark) (g : Sign) → but m g ≡ true → is g m ≡ false
not_that m g h = at_bool (is g m) h
  where
    at_bool : (b : Bool) → not b ≡ true → b ≡ false
    at_bool false h = refl
    at_bool true h = absurd cc

-- the one mark of a set
pub alone : (m : Mark) (g : Sign) → among (m ∷ []) g ≡ true → is g m ≡ true
alone m g h = at_bool (is g m) h
  where
    at_bool : (b : Bool) → (b || false) ≡ true → b ≡ true
    at_bool true h = refl
    at_bool false h = absurd cc

-- what is so of a mark is so of the token
pub at_mark : {A : Type 0} (op : Sign → A) (x : A) (m : Mark) → op (signs.Marked m) ≡ x → (g : Sign) → is g m ≡ true → op g ≡ x
at_mark op x m e g h = ap op (is_marked g m h) ∙ e
