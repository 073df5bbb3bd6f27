-- A text of version 3, read: line by line, each line word by word, up to the first refusal.
use Rattle.std.specs.Prelude.{ℕ, ℤ, pos, neg_ℤ, ◌+◌, ◌-◌, ◌*◌, ◌<◌, Bool, true, false, not, ◌&&◌, ◌||◌, ◌==◌, nat_lt, nat_le, max, if◌then◌else◌, List, [], ◌∷◌, ◌++◌, codes, length, take, drop, slice_index_or, Option, Some, None, Result, Ok, Err}
use Rattle.std.specs.List.{prefix_len}
use Rattle.std.specs.Str.{bytes_eq}
use Rattle.st_linear.specs.Linear.{Linear, of_entries}
use Rattle.st_certificate.specs.Tree.{Step, by_case, by_truth, by_split, by_cut}
use Rattle.shared_certificates.specs.declared.refusals.Refusal.{Refusal}
use Rattle.shared_certificates.specs.declared.refusals.Refusal.TheVariants.{Malformed, Limit}
use Rattle.shared_certificates.specs.Nodes.{Node, contradiction, farkas_sum, linear_sum, division, Shared, nothing_shared}
use Rattle.shared_certificates.specs.Lines.{lines, words, halves}

abbrev pub Read : Type 0 → Type 0
Read A = Result A Refusal

infixl 10 ◌>>=◌
abbrev pub ◌>>=◌ : {A B : Type 0} → Read A → (A → Read B) → Read B
(Ok x) >>= f = f x
(Err e) >>= f = Err e

abbrev pub is_digit : ℕ → Bool
is_digit b = nat_le 48 b && nat_le b 57

abbrev pub are_digits : List ℕ → Bool
are_digits [] = true
are_digits (b ∷ bs) = is_digit b && are_digits bs

-- digits, without a needless zero in front
abbrev pub is_numeral : List ℕ → Bool
is_numeral [] = false
is_numeral (d ∷ []) = is_digit d
is_numeral (d ∷ e ∷ ds) = not (d == 48) && are_digits (d ∷ e ∷ ds)

-- the number whose digits are those of n and then these
abbrev pub value_behind : ℕ → List ℕ → ℕ
value_behind n [] = n
value_behind n (d ∷ ds) = value_behind (n * 10 + (d - 48)) ds

-- a number of at most so much
unfoldable pub number : ℕ → List ℕ → Read ℕ
number most w = if is_numeral w then (if nat_lt most (value_behind 0 w) then Err Limit else Ok (value_behind 0 w)) else Err Malformed

-- a number that counts from 1 in the text, and from 0 otherwise
unfoldable pub index : List ℕ → Read ℕ
index w = number 4294967295 w >>= λ n. if n == 0 then Err Malformed else Ok (n - 1)

abbrev pub negative : ℕ → Read ℤ
negative n = if n == 0 then Err Malformed else Ok (neg_ℤ (pos n))

abbrev pub positive : ℕ → Read ℤ
positive n = Ok (pos n)

-- a number with its sign, of at most that size
unfoldable pub signed : ℕ → List ℕ → Read ℤ
signed most [] = Err Malformed
signed most (b ∷ bs) = if b == 45 then number most bs >>= negative else number most (b ∷ bs) >>= positive

abbrev pub on_halves : {A B C : Type 0} → (List ℕ → Read A) → (List ℕ → Read B) → (A → B → C) → Option (List ℕ × List ℕ) → Read C
on_halves f g made None = Err Malformed
on_halves f g made (Some p) = f p.0 >>= λ x. g p.1 >>= λ y. Ok (made x y)

-- both sides of a sign
abbrev pub both : {A B C : Type 0} → ℕ → (List ℕ → Read A) → (List ℕ → Read B) → (A → B → C) → List ℕ → Read C
both sign f g made w = on_halves f g made (halves sign w)

abbrev pub pair : {A B : Type 0} → A → B → A × B
pair x y = (x, y)

abbrev pub turned : {A B : Type 0} → A → B → B × A
turned x y = (y, x)

unfoldable pub pick : List ℕ → Read (ℕ × ℕ)
pick = both 42 index (number 1099511627775) pair

unfoldable pub line : List ℕ → Read (ℕ × ℤ)
line = both 42 index (signed 1099511627775) pair

unfoldable pub term : List ℕ → Read (ℕ × ℤ)
term = both 58 (signed 1152921504606846976) index turned

-- one of so many trees
unfoldable pub reference : ℕ → List ℕ → Read ℕ
reference count w = index w >>= λ n. if nat_lt n count then Ok n else Err Malformed

-- each word read
abbrev pub all_of : {A : Type 0} → (List ℕ → Read A) → List (List ℕ) → Read (List A)
all_of f [] = Ok []
all_of f (w ∷ ws) = f w >>= λ x. all_of f ws >>= λ xs. Ok (x ∷ xs)

-- at most 4,096 words
abbrev pub few_of : {A : Type 0} → (List ℕ → Read A) → List (List ℕ) → Read (List A)
few_of f ws = if nat_lt 4096 (length ws) then Err Limit else all_of f ws

abbrev pub is : List ℕ → List ℕ → Bool
is w name = bytes_eq w name

-- the parts of a node, behind a colon
abbrev pub parts : ℕ → List (List ℕ) → Read (List ℕ)
parts count [] = Err Malformed
parts count (c ∷ ws) = if is c (codes ":") then all_of (reference count) ws else Err Malformed

-- a number, and the parts behind it
abbrev pub numbered_parts : ℕ → List (List ℕ) → Read (ℕ × List ℕ)
numbered_parts count [] = Err Malformed
numbered_parts count (w ∷ ws) = index w >>= λ n. parts count ws >>= λ ns. Ok (pair n ns)

abbrev pub numbered : ℕ → (ℕ → Step) → List (List ℕ) → Read Node
numbered count step ws = numbered_parts count ws >>= λ p. Ok (division (step p.0) p.1)

abbrev pub cut_by : Option Linear → List ℕ → Read Node
cut_by None ns = Err Malformed
cut_by (Some f) ns = Ok (division (by_cut f) ns)

-- how many words stand before the colon
abbrev pub terms_len : List (List ℕ) → ℕ
terms_len ws = prefix_len (λ w. not (is w (codes ":"))) ws

abbrev pub cut : ℕ → List (List ℕ) → Read Node
cut count [] = Err Malformed
cut count (w ∷ ws) =
    signed 1152921504606846976 w >>= λ c. all_of term (take (terms_len ws) ws) >>= λ es.
    parts count (drop (terms_len ws) ws) >>= λ ns. cut_by (of_entries c es) ns

abbrev pub alone : List (List ℕ) → Read Node
alone [] = Ok contradiction
alone (w ∷ ws) = Err Malformed

abbrev pub farkas_node : List (List ℕ) → Read Node
farkas_node ws = few_of pick ws >>= λ ps. Ok (farkas_sum ps)

abbrev pub linear_node : List (List ℕ) → Read Node
linear_node ws = few_of line ws >>= λ ps. Ok (linear_sum ps)

-- a node over so many trees
unfoldable pub node : ℕ → List (List ℕ) → Read Node
node count [] = Err Malformed
node count (w ∷ ws) =
    if is w (codes "absurd") then alone ws
    else (if is w (codes "farkas") then farkas_node ws
    else (if is w (codes "linear") then linear_node ws
    else (if is w (codes "case") then numbered count by_case ws
    else (if is w (codes "bool") then numbered count by_truth ws
    else (if is w (codes "split") then numbered count by_split ws
    else (if is w (codes "cut") then cut count ws
    else Err Malformed))))))

-- how many levels a tree has, by those of the trees before it
abbrev pub greatest : List ℕ → List ℕ → ℕ
greatest levels [] = 0
greatest levels (n ∷ ns) = max (slice_index_or levels n 0) (greatest levels ns)

abbrev pub level : List ℕ → Node → ℕ
level levels contradiction = 1
level levels (farkas_sum ps) = 1
level levels (linear_sum ps) = 1
level levels (division s ns) = 1 + greatest levels ns

abbrev pub added : Shared → Node → Shared
added t n = record { nodes = t.nodes ++ n ∷ []; levels = t.levels ++ level t.levels n ∷ []; roots = t.roots }

abbrev pub rooted : Shared → ℕ → Shared
rooted t root = record { nodes = t.nodes; levels = t.levels; roots = t.roots ++ root ∷ [] }

-- the next number
abbrev pub next : ℕ → List ℕ → Read (Unit {0})
next count w = index w >>= λ n. if n == count then Ok tt else Err Malformed

-- a tree more, unless it has too many levels
abbrev pub judged : Shared → Node → Read Shared
judged t n = if nat_lt 400 (level t.levels n) then Err Limit else Ok (added t n)

abbrev pub tree_line : Shared → List (List ℕ) → Read Shared
tree_line t [] = Err Malformed
tree_line t (w ∷ ws) = next (length t.nodes) w >>= λ u. node (length t.nodes) ws >>= λ n. judged t n

abbrev pub cert_line : Shared → List (List ℕ) → Read Shared
cert_line t [] = Err Malformed
cert_line t (w ∷ []) = Err Malformed
cert_line t (w ∷ v ∷ []) = next (length t.roots) w >>= λ u. reference (length t.nodes) v >>= λ root. Ok (rooted t root)
cert_line t (w ∷ v ∷ x ∷ ws) = Err Malformed

-- a line more
unfoldable pub line_read : Shared → List (List ℕ) → Read Shared
line_read t [] = Ok t
line_read t (w ∷ ws) = if is w (codes "tree") then tree_line t ws else (if is w (codes "cert") then cert_line t ws else Err Malformed)

-- a refusal, and the place of the line in the text
abbrev pub Refused : Type 0
Refused = Refusal × ℕ

abbrev pub placed : ℕ → Read Shared → (Shared → Result Shared Refused) → Result Shared Refused
placed place (Ok t) go = go t
placed place (Err e) go = Err (e, place)

-- the lines from a place on
abbrev pub lines_read : ℕ → Shared → List (List ℕ) → Result Shared Refused
lines_read place t [] = Ok t
lines_read place t (l ∷ ls) = placed place (line_read t (words l)) (λ u. lines_read (place + length l + 1) u ls)

abbrev pub header_read : List (List ℕ) → Read (Unit {0})
header_read [] = Err Malformed
header_read (v ∷ []) = Err Malformed
header_read (v ∷ n ∷ []) = if is v (codes "version") && is n (codes "3") then Ok tt else Err Malformed
header_read (v ∷ n ∷ x ∷ ws) = Err Malformed

abbrev pub opened : Read (Unit {0}) → Result Shared Refused → Result Shared Refused
opened (Ok u) r = r
opened (Err e) r = Err (e, 0)

-- a whole text, whose first line is the header
abbrev pub text_read : List (List ℕ) → Result Shared Refused
text_read [] = Err (Malformed, 0)
text_read (l ∷ ls) = opened (header_read (words l)) (lines_read (length l + 1) nothing_shared ls)
