-- Items that are dealt out in turn.
use Rattle.std.specs.Prelude.{ℕ, zero, suc, ◌+◌, ◌-◌, ◌/◌, nat_le, if◌then◌else◌, List, [], ◌∷◌, drop, Option, Some, None}
use Rattle.discharge.specs.declared.shares.Share.{Share}

-- the first item and then each that stands a stride behind, so many of them if there are as many
abbrev pub every : {A : Type 0} → ℕ → ℕ → List A → List A
every stride zero xs = []
every stride (suc n) [] = []
every stride (suc n) (x ∷ xs) = x ∷ every stride n (drop stride (x ∷ xs))

abbrev pub dealt : {A : Type 0} → Share → List A → List A
dealt share xs = every share.stride share.count xs

-- Each half of a share gets every second item: the left half from the second on, the right half from the first on. So each
-- half's items stand twice as far apart. Each has half of the workers; the right half's pieces are numbered behind the left's.
abbrev pub left_half : Share → Share
left_half share = record { first = share.first; workers = share.workers / 2; stride = share.stride + share.stride; count = share.count / 2 }

abbrev pub right_half : Share → Share
right_half share = record {
  first = share.first + share.workers / 2;
  workers = share.workers - share.workers / 2;
  stride = share.stride + share.stride;
  count = share.count - share.count / 2;
}

-- the items of two lists in turn, the first list's first
abbrev pub woven : {A : Type 0} → List A → List A → List A
woven [] ys = ys
woven (x ∷ xs) [] = x ∷ xs
woven (x ∷ xs) (y ∷ ys) = x ∷ y ∷ woven xs ys

-- of a place in the first list and one in the second, the lesser place among the woven items
abbrev pub lesser_place : Option ℕ → Option ℕ → Option ℕ
lesser_place None None = None
lesser_place (Some i) None = Some (i + i)
lesser_place None (Some j) = Some (j + j + 1)
lesser_place (Some i) (Some j) = if nat_le i j then Some (i + i) else Some (j + j + 1)
