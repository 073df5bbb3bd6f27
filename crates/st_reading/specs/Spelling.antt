-- Which tokens stand for which values: what a reader is compared with.
use Rattle.std.specs.Prelude.{◌≡◌, ℕ, true, List, [], ◌∷◌, ◌++◌, Option, Some, Ok}
use Rattle.st_tokens.specs.Stream.{◌++>◌, Lexeme, Stream}
use Rattle.st_reading.specs.declared.sign.Sign.{Sign}
use Rattle.st_reading.specs.declared.mark.Mark.{Mark}
use Rattle.st_reading.specs.Sign.{sign_of, is}
use Rattle.st_reading.specs.Reading.{Read, Turn, leaves, goes, Label, label_of, is_name}

-- x was read from s, and rest is left
pub record Cut {A : Type 0} (L : List Lexeme → A → Type 0) (s : Stream) (x : A) (rest : Stream) : Type 0 where
  pub text : List Lexeme
  pub is : s ≡ text ++> rest
  pub spells : L text x

-- what is read is spelled
abbrev pub Sound : {X A : Type 0} → (Stream → Read X A) → (List Lexeme → A → Type 0) → Type 0
Sound {X} {A} r L = (s : Stream) (x : A) (rest : Stream) → r s ≡ Ok (x, rest) → Cut L s x rest

-- Links behind one another: each begins with an operator and changes what was read, or is the last.
pub data Links {O B S : Type 0} (op : Sign → Option O) (link : O → ℕ → S → List Lexeme → Turn B S → Type 0) (last : S → List Lexeme → B → Type 0) : S → List Lexeme → B → Type 0 where
  ended : (x : S) (ts : List Lexeme) (z : B) → last x ts z → Links op link last x ts z
  left : (x : S) (t : Lexeme) (o : O) (ts : List Lexeme) (z : B) → op (sign_of t) ≡ Some o → link o t.start x ts (leaves z) → Links op link last x (t ∷ ts) z
  linked : (x y : S) (t : Lexeme) (o : O) (a b : List Lexeme) (z : B) → op (sign_of t) ≡ Some o → link o t.start x a (goes y) → Links op link last y b z → Links op link last x (t ∷ a ++ b) z

-- one text behind another
pub data Both {A B : Type 0} (L : List Lexeme → A → Type 0) (M : A → List Lexeme → B → Type 0) : List Lexeme → B → Type 0 where
  behind_it : (a b : List Lexeme) (x : A) (y : B) → L a x → M x b y → Both L M (a ++ b) y

-- the token is that mark; it is a name
abbrev pub Is : Mark → Lexeme → Type 0
Is mark t = is (sign_of t) mark ≡ true

abbrev pub IsName : Lexeme → Type 0
IsName t = is_name (sign_of t) ≡ true

-- name
pub data OneName : List Lexeme → Label → Type 0 where
  one_name : (t : Lexeme) → IsName t → OneName (t ∷ []) (label_of t)

-- { mark item }
pub data Items {A : Type 0} (mark : Mark) (item : List Lexeme → A → Type 0) : List Lexeme → List A → Type 0 where
  no_items : Items mark item [] []
  item_more : (t : Lexeme) (a b : List Lexeme) (y : A) (ys : List A) → Is mark t → item a y → Items mark item b ys → Items mark item (t ∷ a ++ b) (y ∷ ys)

-- item { mark item }
pub data Row {A : Type 0} (mark : Mark) (item : List Lexeme → A → Type 0) : List Lexeme → List A → Type 0 where
  row : (a b : List Lexeme) (x : A) (xs : List A) → item a x → Items mark item b xs → Row mark item (a ++ b) (x ∷ xs)

-- item mark item { mark item }
pub data Row2 {A : Type 0} (mark : Mark) (item : List Lexeme → A → Type 0) : List Lexeme → List A → Type 0 where
  row2 : (a b : List Lexeme) (x y : A) (xs : List A) → item a x → Items mark item b (y ∷ xs) → Row2 mark item (a ++ b) (x ∷ y ∷ xs)
