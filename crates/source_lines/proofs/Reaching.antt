-- The place that a line and a column stand for.
use Rattle.std.proofs.Common.{◌≡◌, ℕ, zero, suc, ◌+◌, ◌-◌, ◌<◌, ◌≤◌, Bool, true, false, not, nat_lt, nat_le, List, [], ◌∷◌, ◌++◌, take, drop, length, refl, sym, ap, subst, ◌∙◌, arith, inl, inr}
use Rattle.std.proofs.lemmas.Bool.{cases_Bool, lt-ltb, le-ltb}
use Rattle.std.proofs.lemmas.List.{take-append-drop, length-drop, length-append, take_at}
use Rattle.std.proofs.Math.Seq.{take-append-add}
use Rattle.std.specs.List.{prefix_len, take_while}
use Rattle.source_lines.specs.declared.units.Units.{Units}
use Rattle.source_lines.specs.declared.units.Units.TheVariants.{Characters, CodeUnits}
use Rattle.source_lines.specs.declared.lines.Position.{Position}
use Rattle.source_lines.specs.Lines.{is_feed, goes_on, width, total, reach, feeds, behind_feeds, last_line, first_line, line_in, position_in, BeginsCharacter}
use Rattle.source_lines.specs.Places.{IsBehind}
use Rattle.source_lines.proofs.Feeds.{behind_append, feeds_behind}

pub reach_le : (units : Units) (n : ℕ) (bs : List ℕ) → reach units n bs ≤ length bs
reach_le units n [] = omega arith
reach_le units n (b ∷ bs) = elim (cases_Bool (nat_lt n (width units b))) [
  | inl e ↦ rw e (omega arith)
  | inr e ↦ rw e (omega (arith, reach_le units (n - width units b) bs))
]

-- a line, a column, and the column for editors
abbrev pub position_of : ℕ → ℕ → ℕ → Position
position_of line column utf16 = record { line = line; column = column; utf16 = utf16 }

wide : (units : Units) (b : ℕ) → goes_on b ≡ false → 0 < width units b
wide Characters b e = rw e (omega arith)
wide CodeUnits b e = rw e (elim (cases_Bool (nat_le 240 b)) [
  | inl f ↦ rw f (omega arith)
  | inr f ↦ rw f (omega arith)
])

-- behind as many units as bytes have, those bytes have been passed
pub reach_total : (units : Units) (xs ys : List ℕ) → BeginsCharacter ys → reach units (total units xs) (xs ++ ys) ≡ length xs
reach_total units [] [] h = refl
reach_total units [] (y ∷ ys) h = rw (lt-ltb 0 (width units y) (wide units y h)) refl
reach_total units (x ∷ xs) ys h =
    let same : width units x + total units xs - width units x ≡ total units xs = omega arith in
    rw (le-ltb (width units x + total units xs) (width units x) (omega arith), same) (omega (arith, reach_total units xs ys h))

prefix_append : (xs ys : List ℕ) → feeds xs ≡ 0 → prefix_len (λ b. not (is_feed b)) (xs ++ ys) ≡ length xs + prefix_len (λ b. not (is_feed b)) ys
prefix_append [] ys = λ h. omega arith
prefix_append (x ∷ xs) ys = elim (cases_Bool (is_feed x)) [
  | inl e ↦ rw e (λ h. absurd (omega arith))
  | inr e ↦ rw e (λ h. omega (arith, prefix_append xs ys h))
]

-- bytes without a line feed stand in the first line
pub first_line_append : (xs ys : List ℕ) → feeds xs ≡ 0 → first_line (xs ++ ys) ≡ xs ++ first_line ys
first_line_append xs ys h = rw (prefix_append xs ys h) (take-append-add xs ys (prefix_len (λ b. not (is_feed b)) ys))

begins_still : (n y : ℕ) (ys : List ℕ) → goes_on y ≡ false → BeginsCharacter (take n (y ∷ ys))
begins_still zero y ys h = tt
begins_still (suc n) y ys h = h

-- a line begins with a character where its text does
pub first_line_begins : (ys : List ℕ) → BeginsCharacter ys → BeginsCharacter (first_line ys)
first_line_begins [] h = tt
first_line_begins (y ∷ ys) h = begins_still (prefix_len (λ b. not (is_feed b)) (y ∷ ys)) y ys h

-- what is reached in a line, behind its begin, is the place
pub reached : (text : List ℕ) (units : Units) (line count p begin : ℕ) → IsBehind text units line count p → drop begin text ≡ behind_feeds (line - 1) text → begin ≤ length text → begin + reach units count (line_in text line) ≡ p
reached text units line count p begin is at_begin le =
    let xs = take p text in
    let ys = drop p text in
    let whole : xs ++ ys ≡ text = take-append-drop p text in
    let few : line - 1 ≡ feeds xs = omega (arith, is.line_is) in
    let rest : behind_feeds (line - 1) text ≡ last_line xs ++ ys =
    ap (λ n. behind_feeds n text) few ∙ ap (λ t. behind_feeds (feeds xs) t) (sym whole) ∙ behind_append (feeds xs) xs ys (omega arith) in
    let none : feeds (last_line xs) ≡ 0 = omega (arith, feeds_behind (feeds xs) xs (omega arith)) in
    let line_is : line_in text line ≡ last_line xs ++ first_line ys = ap first_line rest ∙ first_line_append (last_line xs) ys none in
    let there : reach units count (line_in text line) ≡ length (last_line xs) =
    rw (line_is, is.count_is) (reach_total units (last_line xs) (first_line ys) (first_line_begins ys is.begins)) in
    let lengths : length (drop begin text) ≡ length (last_line xs) + length ys = ap length (at_begin ∙ rest) ∙ length-append (last_line xs) ys in
    omega (arith, there, lengths, length-drop begin text, length-drop p text, is.within, le)

-- the text from the begin of a line on, as far as what stands before the place and behind it
line_and_rest : (text : List ℕ) (p : ℕ) → behind_feeds (feeds (take p text)) text ≡ last_line (take p text) ++ drop p text
line_and_rest text p =
    let xs = take p text in
    ap (λ t. behind_feeds (feeds xs) t) (sym (take-append-drop p text)) ∙ behind_append (feeds xs) xs (drop p text) (omega arith)

-- what stands in its line before a place
pub before_place : (text : List ℕ) (p begin : ℕ) → drop begin text ≡ behind_feeds (feeds (take p text)) text → begin ≤ length text → p ≤ length text → (begin ≤ p) × (take (p - begin) (drop begin text) ≡ last_line (take p text))
before_place text p begin at_begin le within =
    let rest : drop begin text ≡ last_line (take p text) ++ drop p text = at_begin ∙ line_and_rest text p in
    let lengths : length (drop begin text) ≡ length (last_line (take p text)) + length (drop p text) = ap length rest ∙ length-append (last_line (take p text)) (drop p text) in
    let facts : (begin ≤ p) × (length (last_line (take p text)) ≡ p - begin) =
    (omega (arith, lengths, length-drop begin text, length-drop p text), omega (arith, lengths, length-drop begin text, length-drop p text)) in
    (facts.0, ap (take (p - begin)) rest ∙ take_at (last_line (take p text)) (drop p text) (p - begin) facts.1)

pub feeds_le : (bs : List ℕ) → feeds bs ≤ length bs
feeds_le [] = omega arith
feeds_le (b ∷ bs) = elim (cases_Bool (is_feed b)) [
  | inl e ↦ rw e (omega (arith, feeds_le bs))
  | inr e ↦ rw e (omega (arith, feeds_le bs))
]

pub position_is : (text : List ℕ) (place p line column utf16 : ℕ) (before : List ℕ) → take p text ≡ take place text → before ≡ last_line (take p text) → line ≡ feeds (take p text) → column ≡ total Characters before → utf16 ≡ total CodeUnits before → position_of (line + 1) (column + 1) utf16 ≡ position_in text place
position_is text place p line column utf16 before same is l c u =
    let lines : line + 1 ≡ 1 + feeds (take place text) = omega (arith, l, ap feeds same) in
    let columns : column + 1 ≡ 1 + total Characters (last_line (take place text)) = omega (arith, c, ap (total Characters) (is ∙ ap last_line same)) in
    let units : utf16 ≡ total CodeUnits (last_line (take place text)) = u ∙ ap (total CodeUnits) (is ∙ ap last_line same) in
    rw (lines, columns, units) refl
