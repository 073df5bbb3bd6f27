-- Lists whose items know how many stand before them, of which there are at most 64.
use Rattle.std.proofs.Common.{Bool, List, None, Some, [], ap, append-nil, append_assoc, arith, length, length-append, refl, subst, sym, true, ℕ, ◌++◌, ◌<◌, ◌∙◌, ◌∷◌, ◌≡◌, ◌≤◌}
use Rattle.st_tokens.specs.Stream.{Lexeme}
use Rattle.st_reading.proofs.ListSoundness.{given, one_mark, only_is}
use Rattle.st_reading.proofs.Loops.{only_some}
use Rattle.st_reading.proofs.Numbers.{is_marked}
use Rattle.st_reading.specs.Mark.{number}
use Rattle.st_reading.specs.Reading.{Turn, goes, only}
use Rattle.st_reading.specs.Sign.{sign_of}
use Rattle.st_reading.specs.Spelling.{Items, Row, behind_it, ended, item_more, left, linked, no_items, row}
use Rattle.st_reading.specs.Steady.{Within, anything}
use Rattle.st_reading.specs.declared.mark.Mark.{Mark}
use Rattle.st_reading.specs.declared.mark.Mark.TheVariants as marks
use Rattle.st_reading.specs.declared.sign.Sign.{Sign}
use Rattle.st_reading.specs.declared.sign.Sign.TheVariants as signs
use Rattle.st_reading.specs.Phrases.{Bracketed, after_mark, bracketed}
use Rattle.st_reading.proofs.Phrases.{Phrase, after_phrase, as_phrase, made, map_phrase, the_mark, the_value, then_phrase}
use Rattle.st_reading.proofs.Rows.{chain_phrase}
use Rattle.st_reading.proofs.Tokens.{among, but, marks_within, not_that}

-- behind fewer than 64 others
abbrev pub Few : {A : Type 0} → ℕ → (List Lexeme → A → Type 0) → List Lexeme → A → Type 0
Few before item ts x = (before < 64) × item ts x

-- what was read before, and items behind it; with them there are at most 64
pub record Further {A : Type 0} (mark : Mark) (item : List Lexeme → A → Type 0) (xs : List A) (ts : List Lexeme) (zs : List A) : Type 0 where
  pub others : List A
  pub joined : zs ≡ xs ++ others
  pub spells : Items mark item ts others
  pub limited : length zs ≤ 64

-- items with marks between them, at most 64
abbrev pub FewRow : {A : Type 0} → Mark → (List Lexeme → A → Type 0) → List Lexeme → List A → Type 0
FewRow mark item ts xs = Row mark item ts xs × (length xs ≤ 64)

one_longer : {A : Type 0} (xs : List A) (x : A) → length xs < 64 → length (xs ++ x ∷ []) ≤ 64
one_longer xs x h = omega (arith, h, length-append xs (x ∷ []))

shorter : {A : Type 0} (xs : List A) (x : A) (zs : List A) → length (xs ++ x ∷ zs) ≤ 64 → length xs < 64
shorter xs x zs h = omega (arith, h, length-append xs (x ∷ zs))

module _ {X A : Type 0} (mark : Mark) (L : List Lexeme → A → Type 0) (front inner next : Sign → Bool) (marked : inner (signs.Marked mark) ≡ true) (clear : Within next (but mark)) (fewer : Within next inner) (items : (before : ℕ) → Phrase X A front inner)
    (to_few : (before : ℕ) (ts : List Lexeme) (x : A) → (items before).language ts x → Few before L ts x) (from_few : (before : ℕ) (ts : List Lexeme) (x : A) → Few before L ts x → (items before).language ts x) where
  pub stops : (g : Sign) → next g ≡ true → only mark g ≡ None
  stops g h = let e = not_that mark g (clear g h) in rw e refl

  pub inner_mark : (g : Sign) (o : Unit {0}) → only mark g ≡ Some o → inner g ≡ true
  inner_mark g o e = ap inner (is_marked g mark (only_is mark g o e)) ∙ marked

  abbrev pub turning : Unit {0} → ℕ → List A → Phrase X (Turn (List A) (List A)) front inner
  turning o place xs = map_phrase front inner (λ x. goes (xs ++ x ∷ [])) (items (length xs))

  abbrev pub links : List A → Phrase X (List A) inner next
  links = chain_phrase front next inner next (only mark) refl stops fewer inner_mark fewer turning (λ xs. the_value next xs)

  to_items : (xs : List A) (ts : List Lexeme) (zs : List A) → (links xs).language ts zs → length xs ≤ 64 → Further mark L xs ts zs
  to_items xs ts zs (ended ys us ws given) le = record { others = []; joined = sym (append-nil ys); spells = no_items; limited = le }
  to_items xs ts zs (left ys t o us ws e l) le = elim l [ ]
  to_items xs ts zs (linked ys ws t o a b vs e (made us x l) rest) le =
      let f = to_few (length ys) us x l in
      let again = to_items (ys ++ x ∷ []) b vs rest (one_longer ys x f.0) in
      record { others = x ∷ again.others; joined = again.joined ∙ append_assoc ys (x ∷ []) again.others; spells = item_more t us b x again.others (only_is mark (sign_of t) o e) f.1 again.spells; limited = again.limited }

  from_items : (xs : List A) (ts : List Lexeme) (ys : List A) → Items mark L ts ys → length (xs ++ ys) ≤ 64 → (links xs).language ts (xs ++ ys)
  from_items xs ts ys no_items le = subst (λ (zs : List A). (links xs).language [] zs) (sym (append-nil xs)) (ended xs [] xs given)
  from_items xs ts ys (item_more t a b y zs e l rest) le =
      let longer : length ((xs ++ y ∷ []) ++ zs) ≤ 64 = subst (λ (vs : List A). length vs ≤ 64) (sym (append_assoc xs (y ∷ []) zs)) le in
      subst (λ (vs : List A). (links xs).language (t ∷ a ++ b) vs) (append_assoc xs (y ∷ []) zs)
      (linked xs (xs ++ y ∷ []) t tt a b ((xs ++ y ∷ []) ++ zs) (sym (only_some (sign_of t) mark (sym e))) (made a y (from_few (length xs) a y (shorter xs y zs le, l))) (from_items (xs ++ y ∷ []) b zs rest longer))

  module _ (xs : List A) (le : length xs ≤ 64) where
    pub to_further : (ts : List Lexeme) (zs : List A) → (links xs).language ts zs → Further mark L xs ts zs
    to_further ts zs l = to_items xs ts zs l le

    pub from_further : (ts : List Lexeme) (zs : List A) → Further mark L xs ts zs → (links xs).language ts zs
    from_further ts zs l = subst (λ (vs : List A). (links xs).language ts vs) (sym l.joined) (from_items xs ts l.others l.spells (subst (λ (vs : List A). length vs ≤ 64) l.joined l.limited))

    abbrev pub further_phrase : Phrase X (List A) inner next
    further_phrase = as_phrase inner next (links xs) (Further mark L xs) to_further from_further

  pub one_few : (x : A) → length (x ∷ []) ≤ 64
  one_few x = omega arith

  abbrev pub first_and_others : Phrase X (List A) front next
  first_and_others = then_phrase front inner inner next (λ g h. h) (items 0) (λ x. further_phrase (x ∷ []) (one_few x))

  pub to_rows : (ts : List Lexeme) (zs : List A) → first_and_others.language ts zs → FewRow mark L ts zs
  to_rows ts zs (behind_it a b x vs l k) = (subst (Row mark L (a ++ b)) (sym k.joined) (row a b x k.others (to_few 0 a x l).1 k.spells), k.limited)

  from_row : (ts : List Lexeme) (zs : List A) → Row mark L ts zs → length zs ≤ 64 → first_and_others.language ts zs
  from_row ts zs (row a b x xs l items_are) le = behind_it a b x (x ∷ xs) (from_few 0 a x (omega arith, l)) (record { others = xs; joined = refl; spells = items_are; limited = le })

  pub from_rows : (ts : List Lexeme) (zs : List A) → FewRow mark L ts zs → first_and_others.language ts zs
  from_rows ts zs l = from_row ts zs l.0 l.1

  abbrev pub listed_phrase : Phrase X (List A) front next
  listed_phrase = as_phrase front next first_and_others (FewRow mark L) to_rows from_rows

-- "[" item { ";" item } "]"
abbrev pub item_end : Sign → Bool
item_end = among (marks.Semicolon ∷ marks.CloseBlock ∷ [])

abbrev pub block_end : Sign → Bool
block_end = among (marks.CloseBlock ∷ [])

pub semicolon_ends : item_end (signs.Marked marks.Semicolon) ≡ true
unfolding number
semicolon_ends = refl

pub no_semicolon : Within block_end (but marks.Semicolon)
unfolding number
no_semicolon = marks_within (but marks.Semicolon) (marks.CloseBlock ∷ []) refl

pub block_ends : Within block_end item_end
unfolding number
block_ends = marks_within item_end (marks.CloseBlock ∷ []) refl

module _ {X A : Type 0} (L : List Lexeme → A → Type 0) (front : Sign → Bool) (items : (before : ℕ) → Phrase X A front item_end) (to_few : (before : ℕ) (ts : List Lexeme) (x : A) → (items before).language ts x → Few before L ts x)
    (from_few : (before : ℕ) (ts : List Lexeme) (x : A) → Few before L ts x → (items before).language ts x) where
  abbrev pub in_block : Phrase X (List A) (among (marks.OpenBlock ∷ [])) anything
  in_block =
      after_phrase marks.OpenBlock front anything
      (then_phrase front block_end block_end anything (λ g h. h) (listed_phrase marks.Semicolon L front item_end block_end semicolon_ends no_semicolon block_ends items to_few from_few)
      (λ xs. map_phrase block_end anything (λ m. xs) (the_mark marks.CloseBlock)))

  pub to_bracketed : (ts : List Lexeme) (xs : List A) → in_block.language ts xs → Bracketed L ts xs
  to_bracketed ts xs (after_mark t us y e (behind_it a b ys z l (made c m (one_mark u f)))) = bracketed t u a ys e l.0 l.1 f

  pub from_bracketed : (ts : List Lexeme) (xs : List A) → Bracketed L ts xs → in_block.language ts xs
  from_bracketed ts xs (bracketed t u a ys e l le f) = after_mark t (a ++ u ∷ []) ys e (behind_it a (u ∷ []) ys ys (l, le) (made (u ∷ []) u.start (one_mark u f)))

  abbrev pub bracketed_phrase : Phrase X (List A) (among (marks.OpenBlock ∷ [])) anything
  bracketed_phrase = as_phrase (among (marks.OpenBlock ∷ [])) anything in_block (Bracketed L) to_bracketed from_bracketed
