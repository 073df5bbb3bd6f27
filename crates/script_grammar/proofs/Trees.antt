-- A tree without broken rules for what the grammar with rules spells, and lists of such trees.
use Rattle.std.proofs.Common.{◌≡◌, ℕ, ◌+◌, List, [], ◌∷◌, length, map, Option, Some, None, refl, sym, ap, ◌∙◌, arith}
use Rattle.std.specs.Option.{option_map}
use Rattle.std.proofs.lemmas.List.{length-map}
use Rattle.st_tokens.specs.Stream.{Lexeme}
use Rattle.st_reading.specs.declared.mark.Mark.{Mark}
use Rattle.st_reading.specs.declared.mark.Mark.TheVariants as marks
use Rattle.st_reading.specs.Spelling.{Items, Row, no_items, item_more, row}
use Rattle.st_reading.specs.Phrases.{After, Bracketed, Many, Optional, after_mark, bracketed, left_out, put_in, none_more, one_more}
use Rattle.st_reading.specs.Breaches.{Breach}
use Rattle.st_reading.specs.BrokenRules.{Broken}
use Rattle.script_grammar.specs.RawScripts.{RawUnit}
use Rattle.script_grammar.specs.Breaking.{optional_rules, marked_rules, many_rules, listed_rules}
use Rattle.script_grammar.specs.Grammar.{InBrackets, in_brackets}
use Rattle.script_grammar.proofs.Unbroken.{none_broken, both_kept, same2, listed_kept, kept_listed, few_at_first}

abbrev pub Judge : Type 0 → Type 0
Judge R = ℕ → R → List (Broken Breach)

-- a tree of these tokens that breaks no rule, wherever it stands, and means x
pub record Tree {R A : Type 0} (Raw : List Lexeme → R → Type 0) (judge : Judge R) (meant : R → A) (ts : List Lexeme) (x : A) : Type 0 where
  pub raw : R
  pub spells : Raw ts raw
  pub lawful : (at : ℕ) → judge at raw ≡ []
  pub means : meant raw ≡ x

-- FROM WHAT IS SPELLED TO A TREE
module _ {R A : Type 0} (L : List Lexeme → A → Type 0) (Raw : List Lexeme → R → Type 0) (judge : Judge R) (meant : R → A) (tree : (ts : List Lexeme) (x : A) → L ts x → Tree Raw judge meant ts x) where
  pub after_tree : (mark : Mark) (ts : List Lexeme) (x : A) → After mark L ts x → Tree (After mark Raw) judge meant ts x
  after_tree mark ts x (after_mark t us y e l) = let p = tree us y l in record { raw = p.raw; spells = after_mark t us p.raw e p.spells; lawful = p.lawful; means = p.means }

  pub optional_tree : (mark : Mark) (ts : List Lexeme) (x : Option A) → Optional mark L ts x → Tree (Optional mark Raw) (optional_rules judge) (option_map meant) ts x
  optional_tree mark ts x left_out = record { raw = None; spells = left_out; lawful = λ at. refl; means = refl }
  optional_tree mark ts x (put_in t us y e l) = let p = tree us y l in record { raw = Some p.raw; spells = put_in t us p.raw e p.spells; lawful = λ at. p.lawful (at + 1); means = ap Some p.means }

  module _ (size : R → ℕ) where
    pub items_tree : (mark : Mark) (ts : List Lexeme) (xs : List A) → Items mark L ts xs → Tree (Items mark Raw) (marked_rules size judge) (map meant) ts xs
    items_tree mark ts xs no_items = record { raw = []; spells = no_items; lawful = λ at. refl; means = refl }
    items_tree mark ts xs (item_more t a b y ys e l m) =
        let p = tree a y l in
        let q = items_tree mark b ys m in
        record { raw = p.raw ∷ q.raw; spells = item_more t a b p.raw q.raw e p.spells q.spells; lawful = λ at. none_broken (p.lawful (at + 1)) (q.lawful (at + (1 + size p.raw))); means = same2 (λ z zs. z ∷ zs) p.means q.means }

    -- behind a mark
    pub row_tree : (mark : Mark) (ts : List Lexeme) (xs : List A) → Row mark L ts xs → Tree (Row mark Raw) (marked_rules size judge) (map meant) ts xs
    row_tree mark ts xs (row a b y ys l m) =
        let p = tree a y l in
        let q = items_tree mark b ys m in
        record { raw = p.raw ∷ q.raw; spells = row a b p.raw q.raw p.spells q.spells; lawful = λ at. none_broken (p.lawful (at + 1)) (q.lawful (at + (1 + size p.raw))); means = same2 (λ z zs. z ∷ zs) p.means q.means }

    pub many_tree : (ts : List Lexeme) (xs : List A) → Many L ts xs → Tree (Many Raw) (many_rules size judge) (map meant) ts xs
    many_tree ts xs none_more = record { raw = []; spells = none_more; lawful = λ at. refl; means = refl }
    many_tree ts xs (one_more a b y ys l m) =
        let p = tree a y l in
        let q = many_tree b ys m in
        record { raw = p.raw ∷ q.raw; spells = one_more a b p.raw q.raw p.spells q.spells; lawful = λ at. none_broken (p.lawful at) (q.lawful (at + size p.raw)); means = same2 (λ z zs. z ∷ zs) p.means q.means }

    -- as many trees as values
    pub as_many : (rs : List R) (xs : List A) → map meant rs ≡ xs → length rs ≡ length xs
    as_many rs xs e = sym (length-map rs meant) ∙ ap length e

    pub brackets_tree : (form : R → RawUnit) (ts : List Lexeme) (xs : List A) → Bracketed L ts xs → Tree (InBrackets Raw) (listed_rules form size judge 0) (map meant) ts xs
    brackets_tree form ts xs (bracketed t u us ys e m few f) =
        let p = row_tree marks.Semicolon us ys m in
        let n = as_many p.raw ys p.means in
        record { raw = p.raw; spells = in_brackets t u us p.raw e p.spells f; lawful = λ at. listed_kept form size judge 0 at p.raw (omega (arith, n, few)) (p.lawful at); means = p.means }

-- AND BACK
module _ {R A : Type 0} (L : List Lexeme → A → Type 0) (Raw : List Lexeme → R → Type 0) (judge : Judge R) (meant : R → A) (lawful : (ts : List Lexeme) (r : R) (at : ℕ) → Raw ts r → judge at r ≡ [] → L ts (meant r)) where
  pub after_lawful : (mark : Mark) (ts : List Lexeme) (r : R) (at : ℕ) → After mark Raw ts r → judge at r ≡ [] → After mark L ts (meant r)
  after_lawful mark ts r at (after_mark t us y e l) h = after_mark t us (meant y) e (lawful us y at l h)

  pub optional_lawful : (mark : Mark) (ts : List Lexeme) (r : Option R) (at : ℕ) → Optional mark Raw ts r → optional_rules judge at r ≡ [] → Optional mark L ts (option_map meant r)
  optional_lawful mark ts r at left_out h = left_out
  optional_lawful mark ts r at (put_in t us y e l) h = put_in t us (meant y) e (lawful us y (at + 1) l h)

  module _ (size : R → ℕ) where
    pub items_lawful : (mark : Mark) (ts : List Lexeme) (rs : List R) (at : ℕ) → Items mark Raw ts rs → marked_rules size judge at rs ≡ [] → Items mark L ts (map meant rs)
    items_lawful mark ts rs at no_items h = no_items
    items_lawful mark ts rs at (item_more t a b y ys e l m) h =
        let k = both_kept (judge (at + 1) y) (marked_rules size judge (at + (1 + size y)) ys) h in
        item_more t a b (meant y) (map meant ys) e (lawful a y (at + 1) l k.0) (items_lawful mark b ys (at + (1 + size y)) m k.1)

    pub row_lawful : (mark : Mark) (ts : List Lexeme) (rs : List R) (at : ℕ) → Row mark Raw ts rs → marked_rules size judge at rs ≡ [] → Row mark L ts (map meant rs)
    row_lawful mark ts rs at (row a b y ys l m) h =
        let k = both_kept (judge (at + 1) y) (marked_rules size judge (at + (1 + size y)) ys) h in
        row a b (meant y) (map meant ys) (lawful a y (at + 1) l k.0) (items_lawful mark b ys (at + (1 + size y)) m k.1)

    pub many_lawful : (ts : List Lexeme) (rs : List R) (at : ℕ) → Many Raw ts rs → many_rules size judge at rs ≡ [] → Many L ts (map meant rs)
    many_lawful ts rs at none_more h = none_more
    many_lawful ts rs at (one_more a b y ys l m) h =
        let k = both_kept (judge at y) (many_rules size judge (at + size y) ys) h in
        one_more a b (meant y) (map meant ys) (lawful a y at l k.0) (many_lawful b ys (at + size y) m k.1)

    pub brackets_lawful : (form : R → RawUnit) (ts : List Lexeme) (rs : List R) (at : ℕ) → InBrackets Raw ts rs → listed_rules form size judge 0 at rs ≡ [] → Bracketed L ts (map meant rs)
    brackets_lawful form ts rs at (in_brackets t u us ys e m f) h =
        let k = kept_listed form size judge 0 at ys few_at_first h in
        let few = k.0 in
        let n = length-map ys meant in
        bracketed t u us (map meant ys) e (row_lawful marks.Semicolon us ys at m k.1) (omega (arith, few, n)) f
