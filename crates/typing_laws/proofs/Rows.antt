-- What stands in a row lies one part behind the other.
use Rattle.std.proofs.Common.{ℕ, suc, ◌≤◌, List, [], ◌∷◌, arith}
use Rattle.st_tokens.specs.Stream.{Lexeme}
use Rattle.st_reading.specs.declared.mark.Mark.{Mark}
use Rattle.st_reading.specs.Spelling.{OneName, one_name, Items, no_items, item_more, Row, row, Row2, row2}
use Rattle.typing_laws.proofs.Standing.{Stand, meet}
use Rattle.typing_laws.proofs.Laying.{LabelLaid, InRow}

-- what tokens spell lies where these stand
abbrev pub Lays : {A : Type 0} → (List Lexeme → A → Type 0) → (A → ℕ → ℕ → Type 0) → Type 0
Lays {A} L P = (ts : List Lexeme) (x : A) (from to : ℕ) → Stand from to ts → L ts x → P x from to

-- it may as well begin earlier
abbrev pub Earlier : {A : Type 0} → (A → ℕ → ℕ → Type 0) → Type 0
Earlier {A} P = (x : A) (a b to : ℕ) → a ≤ b → P x b to → P x a to

module _ {A : Type 0} (mark : Mark) (L : List Lexeme → A → Type 0) (P : A → ℕ → ℕ → Type 0) (lays : Lays L P) (earlier : Earlier P) where
  items_lay : Lays (Items mark L) (InRow P)
  items_lay ts xs from to h no_items = h
  items_lay ts xs from to h (item_more t a b y ys e i k) =
      let m = meet (suc t.start) to a b h.2 in
      (m.mid, earlier y from (suc t.start) m.mid (omega (arith, h.0)) (lays a y (suc t.start) m.mid m.first i), items_lay b ys m.mid to m.second k)

  pub row_lays : Lays (Row mark L) (InRow P)
  row_lays ts xs from to h (row a b x ys i k) =
      let m = meet from to a b h in
      (m.mid, lays a x from m.mid m.first i, items_lay b ys m.mid to m.second k)

  pub row2_lays : Lays (Row2 mark L) (InRow P)
  row2_lays ts xs from to h (row2 a b x y ys i k) =
      let m = meet from to a b h in
      (m.mid, lays a x from m.mid m.first i, items_lay b (y ∷ ys) m.mid to m.second k)

pub name_lays : Lays OneName LabelLaid
name_lays ts n from to h (one_name t e) = record { behind = h.0; ahead = h.2; plain = h.1 e }

pub label_earlier : Earlier LabelLaid
label_earlier n a b to h l = record { behind = omega (arith, h, l.behind); ahead = l.ahead; plain = l.plain }

pub in_row_earlier : {A : Type 0} (P : A → ℕ → ℕ → Type 0) → Earlier P → (xs : List A) (a b to : ℕ) → a ≤ b → InRow P xs b to → InRow P xs a to
in_row_earlier P earlier [] a b to h i = omega (arith, h, i)
in_row_earlier P earlier (x ∷ xs) a b to h i = (i.0, earlier x a b i.0 h i.1, i.2)
