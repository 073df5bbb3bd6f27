-- Lists that are spelled are read, item by item.
use Rattle.std.proofs.Common.{◌≡◌, ℕ, Bool, true, List, [], ◌∷◌, ◌++◌, Option, Some, None, Ok, refl, sym, ap, ◌∙◌, append-nil, append_assoc}
use Rattle.st_tokens.specs.Stream.{◌++>◌, Lexeme, Stream, more}
use Rattle.st_reading.specs.declared.mark.Mark.{Mark}
use Rattle.st_reading.specs.declared.sign.Sign.{Sign}
use Rattle.st_reading.specs.declared.sign.Sign.TheVariants as signs
use Rattle.st_reading.specs.Sign.{sign_of, is}
use Rattle.st_reading.specs.Reading.{Read, ahead, size, then_reads, expected, gives, Turn, turned, chain, only, listing, further, Carried, counting, linked}
use Rattle.st_reading.specs.Spelling.{Is, Items, no_items, item_more, Row, row, Row2, row2}
use Rattle.st_reading.specs.Steady.{Within}
use Rattle.st_reading.proofs.Streams.{append_stream}
use Rattle.st_reading.proofs.Steadiness.{bind_ok}
use Rattle.st_reading.proofs.Soundness.{Shrinks}
use Rattle.st_reading.proofs.Shrinking.{shrinks_map}
use Rattle.st_reading.proofs.Chains.{chain_none, chain_of, chain_step}
use Rattle.st_reading.proofs.Loops.{only_some}
use Rattle.st_reading.proofs.ListSoundness.{Steps, no_steps, a_step, only_is, counted_on, listed_on}

-- what is spelled is read, before a token of the set
abbrev pub Complete : {X A : Type 0} → (Sign → Bool) → (Stream → Read X A) → (List Lexeme → A → Type 0) → Type 0
Complete set r L = (ts : List Lexeme) (x : _) → L ts x → (after : Stream) → set (ahead after) ≡ true → r (ts ++> after) ≡ Ok (x, after)

-- What is carried on behind items, where `go` says what one carries on; and that each of them fits where it stands.
abbrev pub all_after : {N A : Type 0} → (A → N → N) → List A → N → N
all_after go [] n = n
all_after go (x ∷ xs) n = all_after go xs (go x n)

abbrev pub AllFit : {N A : Type 0} → (A → N → N) → (A → N → Type 0) → List A → N → Type 0
AllFit go Fits [] n = Unit {0}
AllFit go Fits (x ∷ xs) n = Fits x n × AllFit go Fits xs (go x n)

-- what is spelled and fits is read, with what it carries on
abbrev pub Counts : {X N A : Type 0} → (Sign → Bool) → (N → Stream → Read X (Carried N A)) → (List Lexeme → A → Type 0) → (A → N → N) → (A → N → Type 0) → Type 0
Counts {X} {N} set r L go Fits = (n : N) (ts : List Lexeme) (x : _) → L ts x → Fits x n → (after : Stream) → set (ahead after) ≡ true → r n (ts ++> after) ≡ Ok ((x, go x n), after)

-- the token that is wanted
pub expected_is : {X : Type 0} (m : Mark) (t : Lexeme) (s : Stream) → Is m t → expected {X = X} m (more t s) ≡ Ok (t.start, s)
expected_is m t s h = rw h refl

module _ {X A : Type 0} (mark : Mark) (r : Stream → Read X A) (shrinks : Shrinks r) (L : List Lexeme → A → Type 0) (inner outer : Sign → Bool)
    (marked : (g : Sign) → is g mark ≡ true → inner g ≡ true) (within : Within outer inner) (stops : (g : Sign) → outer g ≡ true → only mark g ≡ None) (complete : Complete inner r L) where
  pub list_between : (b : List Lexeme) (ys : List A) → Items mark L b ys → (after : Stream) → outer (ahead after) ≡ true → inner (ahead (b ++> after)) ≡ true
  list_between b ys no_items after h = within (ahead after) h
  list_between b ys (item_more t a c y zs e l rest) after h = marked (sign_of t) e

  grows : (o : Unit {0}) (place : ℕ) (xs : List A) → Shrinks {A = Turn (List A) (List A)} (listing r o place xs)
  grows o place xs = shrinks_map (listed_on xs) r shrinks

  pub items_complete : (b : List Lexeme) (ys : List A) → Items mark L b ys → (xs : List A) (after : Stream) → outer (ahead after) ≡ true → further mark r xs (b ++> after) ≡ Ok (xs ++ ys, after)
  items_complete b ys no_items xs after h = chain_none (only mark) (listing r) gives (size after) xs after (sym (stops (ahead after) h)) ∙ ap (λ zs. Ok (zs, after)) (sym (append-nil xs))
  items_complete b ys (item_more t a c y zs e l rest) xs after h =
      let item : r (a ++> (c ++> after)) ≡ Ok (y, c ++> after) = complete a y l (c ++> after) (list_between c zs rest after h) in
      let turn : listing r tt t.start xs (a ++> (c ++> after)) ≡ Ok (listed_on xs y, c ++> after) = rw item refl in
      chain_step (only mark) refl (listing r) gives grows t tt xs ((a ++ c) ++> after) (sym (only_some (sign_of t) mark (sym e)))
      ∙ ap (then_reads (listing r tt t.start xs) (turned (chain_of (only mark) refl (listing r) gives grows))) (append_stream a c after)
      ∙ bind_ok (listing r tt t.start xs) (turned (chain_of (only mark) refl (listing r) gives grows)) (a ++> (c ++> after)) (listed_on xs y) (c ++> after) turn
      ∙ items_complete c zs rest (xs ++ y ∷ []) after h
      ∙ ap (λ z. Ok (z, after)) (append_assoc xs (y ∷ []) zs)

  -- the first item, and those behind it
  pub row_complete : (ts : List Lexeme) (xs : List A) → Row mark L ts xs → (after : Stream) → outer (ahead after) ≡ true → then_reads r (λ x. further mark r (x ∷ [])) (ts ++> after) ≡ Ok (xs, after)
  row_complete ts zs (row a b x xs l items) after h =
      ap (then_reads r (λ x. further mark r (x ∷ []))) (append_stream a b after)
      ∙ bind_ok r (λ x. further mark r (x ∷ [])) (a ++> (b ++> after)) x (b ++> after) (complete a x l (b ++> after) (list_between b xs items after h))
      ∙ items_complete b xs items (x ∷ []) after h

  -- at least two items, and what is read behind them
  module _ {B : Type 0} (k : List A → Stream → Read X B) where
    abbrev second_then : A → Stream → Read X B
    second_then x = then_reads (expected mark) (λ m. then_reads r (λ y. then_reads (further mark r (x ∷ y ∷ [])) k))

    two_then : (x : A) (b : List Lexeme) (zs : List A) → Items mark L b zs → (y : A) (ys : List A) → zs ≡ y ∷ ys → (after : Stream) → outer (ahead after) ≡ true → second_then x (b ++> after) ≡ k (x ∷ y ∷ ys) after
    two_then x b zs no_items y ys is after h = cc
    two_then x b zs (item_more t a c u us e l rest) y ys is after h =
        let item : r (a ++> (c ++> after)) ≡ Ok (u, c ++> after) = complete a u l (c ++> after) (list_between c us rest after h) in
        let same : u ∷ us ≡ y ∷ ys = is in
        bind_ok (expected mark) (λ m. then_reads r (λ y. then_reads (further mark r (x ∷ y ∷ [])) k)) (more t ((a ++ c) ++> after)) t.start ((a ++ c) ++> after) (expected_is mark t ((a ++ c) ++> after) e)
        ∙ ap (then_reads r (λ y. then_reads (further mark r (x ∷ y ∷ [])) k)) (append_stream a c after)
        ∙ bind_ok r (λ y. then_reads (further mark r (x ∷ y ∷ [])) k) (a ++> (c ++> after)) u (c ++> after) item
        ∙ bind_ok (further mark r (x ∷ u ∷ [])) k (c ++> after) (x ∷ u ∷ us) after (items_complete c us rest (x ∷ u ∷ []) after h)
        ∙ ap (λ z. k (x ∷ z) after) same

    pub row2_then_complete : (ts : List Lexeme) (xs : List A) → Row2 mark L ts xs → (after : Stream) → outer (ahead after) ≡ true → then_reads r second_then (ts ++> after) ≡ k xs after
    row2_then_complete ts zs (row2 a b x y xs l items) after h =
        ap (then_reads r second_then) (append_stream a b after)
        ∙ bind_ok r second_then (a ++> (b ++> after)) x (b ++> after) (complete a x l (b ++> after) (list_between b (y ∷ xs) items after h))
        ∙ two_then x b (y ∷ xs) items y xs refl after h

-- COUNTED LISTS
module _ {X O N A : Type 0} (op : Sign → Option O) (nothing : None ≡ op signs.Nothing) (r : O → N → Stream → Read X (Carried N A)) (shrinks : (o : O) (n : N) → Shrinks (r o n)) (L : O → Lexeme → List Lexeme → A → Type 0) (go : A → N → N) (Fits : A → N → Type 0) (inner outer : Sign → Bool)
    (marked : (g : Sign) (o : O) → op g ≡ Some o → inner g ≡ true) (within : Within outer inner) (stops : (g : Sign) → outer g ≡ true → op g ≡ None) (complete : (o : O) (t : Lexeme) → Counts inner (r o) (L o t) go Fits) where
  pub steps_between : (b : List Lexeme) (ys : List A) → Steps op L b ys → (after : Stream) → outer (ahead after) ≡ true → inner (ahead (b ++> after)) ≡ true
  steps_between b ys no_steps after h = within (ahead after) h
  steps_between b ys (a_step t o a c y zs e l rest) after h = marked (sign_of t) o e

  counts : (o : O) (place : ℕ) (xs : Carried N (List A)) → Shrinks {A = Turn (Carried N (List A)) (Carried N (List A))} (counting r o place xs)
  counts o place xs = shrinks_map (counted_on xs) (r o xs.1) (shrinks o xs.1)

  pub steps_complete : (b : List Lexeme) (ys : List A) → Steps op L b ys → (xs : List A) (n : N) → AllFit go Fits ys n → (after : Stream) → outer (ahead after) ≡ true
      → chain op (counting r) gives (size (b ++> after)) (xs, n) (b ++> after) ≡ Ok ((xs ++ ys, all_after go ys n), after)
  steps_complete b ys no_steps xs n f after h = chain_none op (counting r) gives (size after) (xs, n) after (sym (stops (ahead after) h)) ∙ ap (λ zs. Ok ((zs, n), after)) (sym (append-nil xs))
  steps_complete b ys (a_step t o a c y zs e l rest) xs n f after h =
      let item = complete o t n a y l f.0 (c ++> after) (steps_between c zs rest after h) in
      let turn : counting r o t.start (xs, n) (a ++> (c ++> after)) ≡ Ok (counted_on (xs, n) (y, go y n), c ++> after) = rw item refl in
      chain_step op nothing (counting r) gives counts t o (xs, n) ((a ++ c) ++> after) e
      ∙ ap (then_reads (counting r o t.start (xs, n)) (turned (chain_of op nothing (counting r) gives counts))) (append_stream a c after)
      ∙ bind_ok (counting r o t.start (xs, n)) (turned (chain_of op nothing (counting r) gives counts)) (a ++> (c ++> after)) (counted_on (xs, n) (y, go y n)) (c ++> after) turn
      ∙ steps_complete c zs rest (xs ++ y ∷ []) (go y n) f.1 after h
      ∙ ap (λ z. Ok ((z, all_after go zs (go y n)), after)) (append_assoc xs (y ∷ []) zs)

pub items_steps : {A : Type 0} (m : Mark) (L : List Lexeme → A → Type 0) (ts : List Lexeme) (ys : List A) → Items m L ts ys → Steps (only m) (λ o t. L) ts ys
items_steps m L ts ys no_items = no_steps
items_steps m L ts ys (item_more t a b y zs e l rest) = a_step t tt a b y zs (sym (only_some (sign_of t) m (sym e))) l (items_steps m L b zs rest)

-- COUNTED ROWS
module _ {X N A : Type 0} (mark : Mark) (r : N → Stream → Read X (Carried N A)) (shrinks : (n : N) → Shrinks (r n)) (L : List Lexeme → A → Type 0) (go : A → N → N) (Fits : A → N → Type 0) (inner outer : Sign → Bool)
    (marked : (g : Sign) → is g mark ≡ true → inner g ≡ true) (within : Within outer inner) (stops : (g : Sign) → outer g ≡ true → only mark g ≡ None) (complete : Counts inner r L go Fits) where
  known : (g : Sign) (o : Unit {0}) → only mark g ≡ Some o → inner g ≡ true
  known g o e = marked g (only_is mark g o e)

  pub row_between : (b : List Lexeme) (ys : List A) → Items mark L b ys → (after : Stream) → outer (ahead after) ≡ true → inner (ahead (b ++> after)) ≡ true
  row_between b ys items after h = steps_between (only mark) refl (λ o. r) (λ o. shrinks) (λ o t. L) go Fits inner outer known within stops (λ o t. complete) b ys (items_steps mark L b ys items) after h

  -- further items, behind those that were read before
  pub further_counts : (b : List Lexeme) (ys : List A) → Items mark L b ys → (xs : List A) (n : N) → AllFit go Fits ys n → (after : Stream) → outer (ahead after) ≡ true → linked mark r (xs, n) (b ++> after) ≡ Ok ((xs ++ ys, all_after go ys n), after)
  further_counts b ys items xs n f after h = steps_complete (only mark) refl (λ o. r) (λ o. shrinks) (λ o t. L) go Fits inner outer known within stops (λ o t. complete) b ys (items_steps mark L b ys items) xs n f after h

  pub row_counts : (n : N) (ts : List Lexeme) (xs : List A) → Row mark L ts xs → AllFit go Fits xs n → (after : Stream) → outer (ahead after) ≡ true → then_reads (r n) (λ x. linked mark r (x.0 ∷ [], x.1)) (ts ++> after) ≡ Ok ((xs, all_after go xs n), after)
  row_counts n ts zs (row a b x xs l items) f after h =
      ap (then_reads (r n) (λ y. linked mark r (y.0 ∷ [], y.1))) (append_stream a b after)
      ∙ bind_ok (r n) (λ y. linked mark r (y.0 ∷ [], y.1)) (a ++> (b ++> after)) (x, go x n) (b ++> after) (complete n a x l f.0 (b ++> after) (row_between b xs items after h))
      ∙ further_counts b xs items (x ∷ []) (go x n) f.1 after h

  abbrev second : Carried N A → Stream → Read X (Carried N (List A))
  second x = then_reads (expected mark) (λ m. then_reads (r x.1) (λ y. linked mark r (x.0 ∷ y.0 ∷ [], y.1)))

  two_counts : (x : A) (n : N) (b : List Lexeme) (zs : List A) → Items mark L b zs → (y : A) (ys : List A) → zs ≡ y ∷ ys → AllFit go Fits zs n → (after : Stream) → outer (ahead after) ≡ true → second (x, n) (b ++> after) ≡ Ok ((x ∷ zs, all_after go zs n), after)
  two_counts x n b zs no_items y ys is f after h = cc
  two_counts x n b zs (item_more t a c u us e l rest) y ys is f after h =
      bind_ok (expected mark) (λ m. then_reads (r n) (λ y. linked mark r (x ∷ y.0 ∷ [], y.1))) (more t ((a ++ c) ++> after)) t.start ((a ++ c) ++> after) (expected_is mark t ((a ++ c) ++> after) e)
      ∙ ap (then_reads (r n) (λ y. linked mark r (x ∷ y.0 ∷ [], y.1))) (append_stream a c after)
      ∙ bind_ok (r n) (λ y. linked mark r (x ∷ y.0 ∷ [], y.1)) (a ++> (c ++> after)) (u, go u n) (c ++> after) (complete n a u l f.0 (c ++> after) (row_between c us rest after h))
      ∙ further_counts c us rest (x ∷ u ∷ []) (go u n) f.1 after h

  pub row2_counts : (n : N) (ts : List Lexeme) (xs : List A) → Row2 mark L ts xs → AllFit go Fits xs n → (after : Stream) → outer (ahead after) ≡ true → then_reads (r n) second (ts ++> after) ≡ Ok ((xs, all_after go xs n), after)
  row2_counts n ts zs (row2 a b x y xs l items) f after h =
      ap (then_reads (r n) second) (append_stream a b after)
      ∙ bind_ok (r n) second (a ++> (b ++> after)) (x, go x n) (b ++> after) (complete n a x l f.0 (b ++> after) (row_between b (y ∷ xs) items after h))
      ∙ two_counts x (go x n) b (y ∷ xs) items y xs refl f.1 after h
