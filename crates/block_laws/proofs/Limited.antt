-- What is read of a certificate text is within the limits: each cut entry is at most 2^60 in size, each multiplier below
-- 2^40, and no leaf has more than 4,096 picks.
use Rattle.std.proofs.Common.{◌≡◌, ℕ, ◌+◌, ◌-◌, ◌^◌, ◌<◌, ◌≤◌, Bool, true, false, cond, ◌==◌, ◌&&◌, ◌||◌, nat_le, nat_lt, List, [], ◌∷◌, ◌++◌, length, Option, Some, None, refl, subst, arith, ℤ, unsigned_abs, length-append}
use Rattle.std.specs.List.{AllByRecursion}
use Rattle.std.proofs.lemmas.Bool.Decides.{nat_tests}
use Rattle.std.proofs.lemmas.Int.{ints}
use Rattle.std.proofs.lemmas.List.Elements.{All-from_recursion}
use Rattle.st_linear.specs.Linear.{Linear, is_small, rise_from, of_entries}
use Rattle.st_certificate.specs.Tree.{Tree, impossible, farkas, linear, trees as trees_of}
use Rattle.farkas_check.specs.Limits.{IsSlight, IsLimited, AreLimited}
use Rattle.cert_text.specs.declared.scan.Word.{Word}
use Rattle.cert_text.specs.declared.scan.Word.TheVariants as words
use Rattle.cert_text.specs.declared.scan.Branching.{Branching}
use Rattle.cert_text.specs.declared.scan.Branching.TheVariants as nodes
use Rattle.cert_text.specs.declared.scan.Token.{Token}
use Rattle.cert_text.specs.declared.scan.Token.TheVariants as tokens
use Rattle.cert_text.specs.declared.scan.Want.{Want}
use Rattle.cert_text.specs.declared.scan.Want.TheVariants as wants
use Rattle.cert_text.specs.declared.scan.Scan.{Scan}
use Rattle.cert_text.specs.declared.scan.Action.{Action}
use Rattle.cert_text.specs.declared.scan.Action.TheVariants as actions
use Rattle.cert_text.specs.declared.scan.Given.{Given}
use Rattle.cert_text.specs.declared.scan.Given.TheVariants as givens
use Rattle.cert_text.specs.declared.progress.Stage.TheVariants as stages
use Rattle.cert_text.specs.Heads.{Head}
use Rattle.cert_text.specs.Heads as heads
use Rattle.cert_text.specs.Control.{only_sign, behind, tree_begun, entered, give, give_at, at_block, at_header_number, at_block_number, at_tree, at_subject, at_row, at_negative, at_multiplier, at_more_picks, at_coefficient, at_variable, at_more_terms, at_constant, is_full, one_tree, picks_closed, fits_word, fits_number, word_of}
use Rattle.cert_text.specs.Letters.{is_blank, is_letter, is_digit, grown}
use Rattle.cert_text.specs.Tree.{signed_of, Open, Built, closed, left_to, cut_entered, applied, last_or, last_tree}
use Rattle.cert_text.specs.Reading.{State, Pending, idle, letters, digits, going, malformed, over, whole, is_whole, staged, token_taken, word_ended, word_grown, number_grown, begun, and_begun, stepped, step, after, start}

-- all trees of a list
abbrev AllLimited : List Tree → Type 0
AllLimited [] = Unit {0}
AllLimited (t ∷ ts) = IsLimited t × AllLimited ts

abbrev HeadLimited : Head → Type 0
HeadLimited (heads.Node branching n) = Unit {0}
HeadLimited (heads.Cut f) = IsSlight f

abbrev AllOpen : List Open → Type 0
AllOpen [] = Unit {0}
AllOpen (o ∷ os) = HeadLimited o.head × AllLimited o.before × AllOpen os

-- what is built so far
record Sized (b : Built) : Type 0 where
  trees : AllLimited b.trees
  outer : AllOpen b.outer
  picks : AllByRecursion (λ p. p.1 < 2 ^ 40) b.picks
  lines : AllByRecursion (λ p. unsigned_abs p.1 < 2 ^ 40) b.lines
  terms : AllByRecursion (λ e. unsigned_abs e.1 < 2 ^ 69) b.terms

-- how many picks or lines of the leaf were read
record Fills (signed : Bool) (count : ℕ) (b : Built) : Type 0 where
  picks : length b.picks ≤ cond signed 0 count
  lines : length b.lines ≤ cond signed count 0

abbrev Empty : Built → Type 0
Empty b = Fills false 0 b

abbrev Counts : Want → Built → Type 0
Counts (wants.Row signed count) b = Fills signed count b × (count ≤ 4096)
Counts (wants.Times signed count row) b = Fills signed (count - 1) b × (1 ≤ count) × (count ≤ 4096)
Counts (wants.Multiplier signed count row) b = Fills signed (count - 1) b × (1 ≤ count) × (count ≤ 4096)
Counts (wants.Negative count row) b = Fills true (count - 1) b × (1 ≤ count) × (count ≤ 4096)
Counts (wants.MorePicks signed count) b = Fills signed count b × (count ≤ 4096)
Counts (wants.Colon negative size last) b = Empty b × (size ≤ 2 ^ 60)
Counts (wants.Variable negative size last) b = Empty b × (size ≤ 2 ^ 60)
Counts (wants.ConstantEnd negative size) b = Empty b × (size ≤ 2 ^ 60)
Counts (wants.CutBranches negative size) b = Empty b × (size ≤ 2 ^ 60)
Counts (wants.Block header) b = Empty b
Counts wants.HeaderNumber b = Empty b
Counts wants.HeaderEnd b = Empty b
Counts wants.BlockNumber b = Empty b
Counts (wants.Tree end) b = Empty b
Counts (wants.Subject branching) b = Empty b
Counts (wants.Branches branching n) b = Empty b
Counts (wants.Picks signed) b = Empty b
Counts wants.Terms b = Empty b
Counts (wants.Coefficient first negative last) b = Empty b
Counts (wants.MoreTerms last) b = Empty b
Counts (wants.Constant negative) b = Empty b
Counts wants.End b = Empty b
Counts wants.Whole b = Empty b

abbrev Kept : Want → Built → Type 0
Kept want b = Sized b × Counts want b

-- what a token leaves
abbrev Keeps : Built → Given → Type 0
Keeps b (givens.On scan action) = Kept scan.want (applied action b)
Keeps b givens.Wrong = Unit {0}
Keeps b givens.Over = Unit {0}

keeps_if : (b : Built) (t : Bool) (x y : Given) → (t ≡ true → Keeps b x) → (t ≡ false → Keeps b y) → Keeps b (cond t x y)
keeps_if b true x y p q = p refl
keeps_if b false x y p q = q refl

all_snoc : {A : Type 0} (P : A → Type 0) (xs : List A) (x : A) → AllByRecursion P xs → P x → AllByRecursion P (xs ++ x ∷ [])
all_snoc P [] x h p = (p, tt)
all_snoc P (y ∷ xs) x h p = (h.0, all_snoc P xs x h.1 p)

trees_snoc : (ts : List Tree) (t : Tree) → AllLimited ts → IsLimited t → AllLimited (ts ++ t ∷ [])
trees_snoc [] t h p = (p, tt)
trees_snoc (u ∷ ts) t h p = (h.0, trees_snoc ts t h.1 p)

are_limited : (ts : List Tree) → AllLimited ts → AreLimited (trees_of ts)
are_limited [] h = tt
are_limited (t ∷ ts) h = (h.0, are_limited ts h.1)

signed_size : (negative : Bool) (n k : ℕ) → n < k → unsigned_abs (signed_of negative n) < k
signed_size true n k h = grind (arith, ints)
signed_size false n k h = h

closed_limited : (head : Head) (ts : List Tree) → HeadLimited head → AllLimited ts → IsLimited (closed head (trees_of ts))
closed_limited (heads.Node nodes.Case n) ts h k = (tt, are_limited ts k)
closed_limited (heads.Node nodes.Truth n) ts h k = (tt, are_limited ts k)
closed_limited (heads.Node nodes.Split n) ts h k = (tt, are_limited ts k)
closed_limited (heads.Cut f) ts h k = (h, are_limited ts k)

slight : (negative : Bool) (size : ℕ) (es : List (ℕ × ℤ)) (f : Linear) → size ≤ 2 ^ 60 → AllByRecursion (λ e. unsigned_abs e.1 < 2 ^ 69) es → of_entries (signed_of negative size) es ≡ Some f → IsSlight f
slight negative size es f le all h = by_test (is_small (signed_of negative size) && rise_from 0 es) h
  where
    by_test : (b : Bool) → cond b (Some (record { constant = signed_of negative size; entries = es })) None ≡ Some f → IsSlight f
    by_test false e = absurd cc
    by_test true e =
        let is : record { constant = signed_of negative size; entries = es } ≡ f = cc in
        subst IsSlight is (record { constant = signed_size negative size (2 ^ 69) (omega arith); entries = All-from_recursion (λ e. unsigned_abs e.1 < 2 ^ 69) es all })

-- Whole trees are added where no leaf is open.
absurd_sized : (b : Built) → Sized b → Sized (applied actions.Absurd b)
absurd_sized b s = record { trees = trees_snoc b.trees impossible s.trees tt; outer = s.outer; picks = s.picks; lines = s.lines; terms = s.terms }

enter_sized : (b : Built) (branching : Branching) (n : ℕ) → Sized b → Sized (applied (actions.Enter branching n) b)
enter_sized b branching n s = record { trees = tt; outer = (tt, s.trees, s.outer); picks = s.picks; lines = s.lines; terms = s.terms }

left_sized : (os : List Open) (b : Built) → AllOpen os → Sized b → Sized (left_to os b)
left_sized [] b h s = s
left_sized (o ∷ os) b h s = record {
  trees = trees_snoc o.before (closed o.head (trees_of b.trees)) h.1 (closed_limited o.head b.trees h.0 s.trees);
  outer = h.2;
  picks = s.picks;
  lines = s.lines;
  terms = s.terms;
}

left_empty : (os : List Open) (b : Built) → Empty b → Empty (left_to os b)
left_empty [] b h = h
left_empty (o ∷ os) b h = record { picks = h.picks; lines = h.lines }

pick_kept : (signed negative : Bool) (row n count : ℕ) (b : Built) → Sized b → n < 2 ^ 40 → Fills signed (count - 1) b → 1 ≤ count → count ≤ 4096 → Kept (wants.MorePicks signed count) (applied (actions.Pick signed row negative n) b)
pick_kept true negative row n count b s small f one most = (
  record { trees = s.trees; outer = s.outer; picks = s.picks; lines = all_snoc (λ p. unsigned_abs p.1 < 2 ^ 40) b.lines (row - 1, signed_of negative n) s.lines (signed_size negative n (2 ^ 40) small); terms = s.terms },
  (record { picks = f.picks; lines = (let g : length b.lines ≤ count - 1 = f.lines in omega (arith, length-append b.lines ((row - 1, signed_of negative n) ∷ []))) }, most),
)
pick_kept false negative row n count b s small f one most = (
  record { trees = s.trees; outer = s.outer; picks = all_snoc (λ p. p.1 < 2 ^ 40) b.picks (row - 1, n) s.picks small; lines = s.lines; terms = s.terms },
  (record { picks = (let g : length b.picks ≤ count - 1 = f.picks in omega (arith, length-append b.picks ((row - 1, n) ∷ []))); lines = f.lines }, most),
)

closed_kept : (signed : Bool) (count : ℕ) (b : Built) → Sized b → Fills signed count b → count ≤ 4096 → Sized (applied (picks_closed signed) b) × Empty (applied (picks_closed signed) b)
closed_kept true count b s f most = (
  record {
    trees = trees_snoc b.trees (linear b.lines) s.trees (All-from_recursion (λ p. unsigned_abs p.1 < 2 ^ 40) b.lines s.lines, (let g : length b.lines ≤ count = f.lines in omega arith));
    outer = s.outer;
    picks = s.picks;
    lines = tt;
    terms = s.terms;
  },
  record { picks = f.picks; lines = omega arith },
)
closed_kept false count b s f most = (
  record {
    trees = trees_snoc b.trees (farkas b.picks) s.trees (All-from_recursion (λ p. p.1 < 2 ^ 40) b.picks s.picks, (let g : length b.picks ≤ count = f.picks in omega arith));
    outer = s.outer;
    picks = tt;
    lines = s.lines;
    terms = s.terms;
  },
  record { picks = omega arith; lines = f.lines },
)

term_kept : (v : ℕ) (negative : Bool) (size last : ℕ) (b : Built) → Sized b → Empty b → size ≤ 2 ^ 60 → Kept (wants.MoreTerms last) (applied (actions.Term v negative size) b)
term_kept v negative size last b s f le = (
  record {
    trees = s.trees;
    outer = s.outer;
    picks = s.picks;
    lines = s.lines;
    terms = all_snoc (λ e. unsigned_abs e.1 < 2 ^ 69) b.terms (v - 1, signed_of negative size) s.terms (signed_size negative size (2 ^ 69) (omega arith));
  },
  record { picks = f.picks; lines = f.lines },
)

cut_kept : (o : Option Linear) (b : Built) → ((f : Linear) → o ≡ Some f → IsSlight f) → Sized b → Empty b → Kept (wants.Tree false) (cut_entered o b)
cut_kept None b h s f = (record { trees = s.trees; outer = s.outer; picks = s.picks; lines = s.lines; terms = tt }, record { picks = f.picks; lines = f.lines })
cut_kept (Some g) b h s f = (record { trees = tt; outer = (h g refl, s.trees, s.outer); picks = s.picks; lines = s.lines; terms = tt }, record { picks = f.picks; lines = f.lines })

-- the tokens, by what may stand next
sign_kept : (b : Built) (token : Token) (sign : ℕ) (g : Given) → Keeps b g → Keeps b (only_sign token sign g)
sign_kept b (tokens.Word w) sign g h = tt
sign_kept b (tokens.Number n) sign g h = tt
sign_kept b (tokens.Sign c) sign g h = keeps_if b (c == sign) g givens.Wrong (λ e. h) (λ e. tt)

behind_kept : (b : Built) (scan : Scan) (depth : ℕ) (action : Action) → Sized (applied action b) → Empty (applied action b) → Keeps b (behind scan depth action)
behind_kept b scan depth action s f = keeps_if b (depth == 0) _ _ (λ e. (s, f)) (λ e. (s, f))

entered_kept : (b : Built) (scan : Scan) (action : Action) → Kept (wants.Tree false) (applied action b) → Keeps b (entered scan action)
entered_kept b scan action h = keeps_if b (nat_le 400 scan.depth) _ _ (λ e. tt) (λ e. h)

begun_kept : (b : Built) (scan : Scan) (want : Want) → Kept want b → Keeps b (tree_begun scan want)
begun_kept b scan want h = keeps_if b (is_full scan) _ _ (λ e. tt) (λ e. h)

block_kept : (b : Built) (scan : Scan) (header : Bool) (token : Token) → Sized b → Empty b → Keeps b (at_block scan header token)
block_kept b scan header (tokens.Word words.Cert) s f = (s, f)
block_kept b scan header (tokens.Word words.Version) s f = keeps_if b header _ _ (λ e. (s, f)) (λ e. tt)
block_kept b scan header (tokens.Word words.Absurd) s f = tt
block_kept b scan header (tokens.Word words.Farkas) s f = tt
block_kept b scan header (tokens.Word words.Linear) s f = tt
block_kept b scan header (tokens.Word words.Case) s f = tt
block_kept b scan header (tokens.Word words.Truth) s f = tt
block_kept b scan header (tokens.Word words.Split) s f = tt
block_kept b scan header (tokens.Word words.Cut) s f = tt
block_kept b scan header (tokens.Number n) s f = tt
block_kept b scan header (tokens.Sign c) s f = tt

header_number_kept : (b : Built) (scan : Scan) (token : Token) → Sized b → Empty b → Keeps b (at_header_number scan token)
header_number_kept b scan (tokens.Number n) s f = keeps_if b (n == 2) _ _ (λ e. (s, f)) (λ e. tt)
header_number_kept b scan (tokens.Word w) s f = tt
header_number_kept b scan (tokens.Sign c) s f = tt

block_number_kept : (b : Built) (scan : Scan) (token : Token) → Sized b → Empty b → Keeps b (at_block_number scan token)
block_number_kept b scan (tokens.Number n) s f = keeps_if b (n == scan.number) _ _ (λ e. (s, f)) (λ e. tt)
block_number_kept b scan (tokens.Word w) s f = tt
block_number_kept b scan (tokens.Sign c) s f = tt

tree_kept : (b : Built) (scan : Scan) (end : Bool) (token : Token) → Sized b → Empty b → Keeps b (at_tree scan end token)
tree_kept b scan end (tokens.Word words.Absurd) s f =
    keeps_if b (is_full scan) _ _ (λ e. tt) (λ e. behind_kept b (one_tree scan) scan.depth actions.Absurd (absurd_sized b s) (record { picks = f.picks; lines = f.lines }))
tree_kept b scan end (tokens.Word words.Farkas) s f = begun_kept b scan _ (s, f)
tree_kept b scan end (tokens.Word words.Linear) s f = keeps_if b scan.second _ _ (λ e. begun_kept b scan _ (s, f)) (λ e. tt)
tree_kept b scan end (tokens.Word words.Case) s f = begun_kept b scan _ (s, f)
tree_kept b scan end (tokens.Word words.Truth) s f = begun_kept b scan _ (s, f)
tree_kept b scan end (tokens.Word words.Split) s f = begun_kept b scan _ (s, f)
tree_kept b scan end (tokens.Word words.Cut) s f = begun_kept b scan _ (s, f)
tree_kept b scan end (tokens.Word words.Cert) s f = tt
tree_kept b scan end (tokens.Word words.Version) s f = tt
tree_kept b scan end (tokens.Number n) s f = tt
tree_kept b scan end (tokens.Sign c) s f =
    keeps_if b (c == 125) _ _
    (λ e. keeps_if b (end && nat_lt 0 scan.depth) _ _ (λ e. behind_kept b scan (scan.depth - 1) actions.Leave (left_sized b.outer b s.outer s) (left_empty b.outer b f)) (λ e. tt))
    (λ e. tt)

subject_kept : (b : Built) (scan : Scan) (branching : Branching) (token : Token) → Sized b → Empty b → Keeps b (at_subject scan branching token)
subject_kept b scan branching (tokens.Number n) s f = keeps_if b (n == 0) _ _ (λ e. tt) (λ e. keeps_if b (nat_lt 4294967295 n) _ _ (λ e. tt) (λ e. (s, f)))
subject_kept b scan branching (tokens.Word w) s f = tt
subject_kept b scan branching (tokens.Sign c) s f = tt

below_most : (a : Bool) (count : ℕ) → (a || nat_le 4096 count) ≡ false → count + 1 ≤ 4096
below_most true count e = absurd cc
below_most false count e = grind (arith, nat_tests)

row_kept : (b : Built) (scan : Scan) (signed : Bool) (count : ℕ) (token : Token) → Sized b → Fills signed count b → Keeps b (at_row scan signed count token)
row_kept b scan signed count (tokens.Number n) s f =
    keeps_if b (n == 0) _ _ (λ e. tt)
    (λ e. keeps_if b (nat_lt 4294967295 n || nat_le 4096 count) _ _ (λ e. tt)
    (λ e. (let same : count ≡ count + 1 - 1 = omega arith in (s, (subst (λ k. Fills signed k b) same f, omega arith, below_most (nat_lt 4294967295 n) count e)))))
row_kept b scan signed count (tokens.Word w) s f = tt
row_kept b scan signed count (tokens.Sign c) s f = tt

small_multiplier : (n : ℕ) → nat_le 1099511627776 n ≡ false → n < 2 ^ 40
small_multiplier n e = grind (arith, nat_tests)

negative_kept : (b : Built) (scan : Scan) (signed negative : Bool) (count row : ℕ) (token : Token) → Sized b → Fills signed (count - 1) b → 1 ≤ count → count ≤ 4096 → Keeps b (at_negative scan signed negative count row token)
negative_kept b scan signed negative count row (tokens.Number n) s f one most =
    keeps_if b (nat_le 1099511627776 n) _ _ (λ e. tt) (λ e. pick_kept signed negative row n count b s (small_multiplier n e) f one most)
negative_kept b scan signed negative count row (tokens.Word w) s f one most = tt
negative_kept b scan signed negative count row (tokens.Sign c) s f one most = tt

multiplier_kept : (b : Built) (scan : Scan) (signed : Bool) (count row : ℕ) (token : Token) → Sized b → Fills signed (count - 1) b → 1 ≤ count → count ≤ 4096 → Keeps b (at_multiplier scan signed count row token)
multiplier_kept b scan signed count row (tokens.Number n) s f one most = negative_kept b scan signed false count row (tokens.Number n) s f one most
multiplier_kept b scan signed count row (tokens.Word w) s f one most = tt
multiplier_kept b scan signed count row (tokens.Sign c) s f one most =
    keeps_if b (c == 45) _ _ (λ e. keeps_if b signed _ _ (λ t. (s, (subst (λ x. Fills x (count - 1) b) t f, one, most))) (λ t. tt)) (λ e. tt)

more_picks_kept : (b : Built) (scan : Scan) (signed : Bool) (count : ℕ) (token : Token) → Sized b → Fills signed count b → count ≤ 4096 → Keeps b (at_more_picks scan signed count token)
more_picks_kept b scan signed count (tokens.Number n) s f most = tt
more_picks_kept b scan signed count (tokens.Word w) s f most = tt
more_picks_kept b scan signed count (tokens.Sign c) s f most =
    keeps_if b (c == 44) _ _ (λ e. (s, (f, most)))
    (λ e. keeps_if b (c == 93) _ _ (λ e. (let k = closed_kept signed count b s f most in behind_kept b scan scan.depth (picks_closed signed) k.0 k.1)) (λ e. tt))

small_entry : (n : ℕ) → nat_lt 1152921504606846976 n ≡ false → n ≤ 2 ^ 60
small_entry n e = grind (arith, nat_tests)

coefficient_kept : (b : Built) (scan : Scan) (first negative : Bool) (last : ℕ) (token : Token) → Sized b → Empty b → Keeps b (at_coefficient scan first negative last token)
coefficient_kept b scan first negative last (tokens.Number n) s f =
    keeps_if b (n == 0) _ _ (λ e. tt) (λ e. keeps_if b (nat_lt 1152921504606846976 n) _ _ (λ e. tt) (λ e. (s, (f, small_entry n e))))
coefficient_kept b scan first negative last (tokens.Word w) s f = tt
coefficient_kept b scan first negative last (tokens.Sign c) s f =
    keeps_if b (c == 45) _ _ (λ e. keeps_if b negative _ _ (λ e. tt) (λ e. (s, f))) (λ e. keeps_if b (c == 59) _ _ (λ e. keeps_if b first _ _ (λ e. (s, f)) (λ e. tt)) (λ e. tt))

variable_kept : (b : Built) (scan : Scan) (negative : Bool) (size last : ℕ) (token : Token) → Sized b → Empty b → size ≤ 2 ^ 60 → Keeps b (at_variable scan negative size last token)
variable_kept b scan negative size last (tokens.Number n) s f le =
    keeps_if b (nat_le n last) _ _ (λ e. tt) (λ e. keeps_if b (nat_lt 4294967295 n) _ _ (λ e. tt) (λ e. term_kept n negative size n b s f le))
variable_kept b scan negative size last (tokens.Word w) s f le = tt
variable_kept b scan negative size last (tokens.Sign c) s f le = tt

more_terms_kept : (b : Built) (scan : Scan) (last : ℕ) (token : Token) → Sized b → Empty b → Keeps b (at_more_terms scan last token)
more_terms_kept b scan last (tokens.Number n) s f = tt
more_terms_kept b scan last (tokens.Word w) s f = tt
more_terms_kept b scan last (tokens.Sign c) s f = keeps_if b (c == 44) _ _ (λ e. (s, f)) (λ e. keeps_if b (c == 59) _ _ (λ e. (s, f)) (λ e. tt))

constant_kept : (b : Built) (scan : Scan) (negative : Bool) (token : Token) → Sized b → Empty b → Keeps b (at_constant scan negative token)
constant_kept b scan negative (tokens.Number n) s f = keeps_if b (nat_lt 1152921504606846976 n) _ _ (λ e. tt) (λ e. (s, (f, small_entry n e)))
constant_kept b scan negative (tokens.Word w) s f = tt
constant_kept b scan negative (tokens.Sign c) s f = keeps_if b (c == 45) _ _ (λ e. keeps_if b negative _ _ (λ e. tt) (λ e. (s, f))) (λ e. tt)

given_kept : (want : Want) (scan : Scan) (token : Token) (b : Built) → Kept want b → Keeps b (give_at want scan token)
given_kept (wants.Block header) scan token b h = block_kept b scan header token h.0 h.1
given_kept wants.HeaderNumber scan token b h = header_number_kept b scan token h.0 h.1
given_kept wants.HeaderEnd scan token b h = sign_kept b token 59 _ h
given_kept wants.BlockNumber scan token b h = block_number_kept b scan token h.0 h.1
given_kept (wants.Tree end) scan token b h = tree_kept b scan end token h.0 h.1
given_kept (wants.Subject branching) scan token b h = subject_kept b scan branching token h.0 h.1
given_kept (wants.Branches branching n) scan token b h = sign_kept b token 123 _ (entered_kept b scan (actions.Enter branching n) (enter_sized b branching n h.0, record { picks = h.1.picks; lines = h.1.lines }))
given_kept (wants.Picks signed) scan token b h = sign_kept b token 91 _ (h.0, (no_picks signed b h.1, omega arith))
  where
    no_picks : (signed : Bool) (b : Built) → Empty b → Fills signed 0 b
    no_picks true b f = record { picks = f.picks; lines = f.lines }
    no_picks false b f = f
given_kept (wants.Row signed count) scan token b h = row_kept b scan signed count token h.0 h.1.0
given_kept (wants.Times signed count row) scan token b h = sign_kept b token 42 _ h
given_kept (wants.Multiplier signed count row) scan token b h = multiplier_kept b scan signed count row token h.0 h.1.0 h.1.1 h.1.2
given_kept (wants.Negative count row) scan token b h = negative_kept b scan true true count row token h.0 h.1.0 h.1.1 h.1.2
given_kept (wants.MorePicks signed count) scan token b h = more_picks_kept b scan signed count token h.0 h.1.0 h.1.1
given_kept wants.Terms scan token b h = sign_kept b token 91 _ h
given_kept (wants.Coefficient first negative last) scan token b h = coefficient_kept b scan first negative last token h.0 h.1
given_kept (wants.Colon negative size last) scan token b h = sign_kept b token 58 _ h
given_kept (wants.Variable negative size last) scan token b h = variable_kept b scan negative size last token h.0 h.1.0 h.1.1
given_kept (wants.MoreTerms last) scan token b h = more_terms_kept b scan last token h.0 h.1
given_kept (wants.Constant negative) scan token b h = constant_kept b scan negative token h.0 h.1
given_kept (wants.ConstantEnd negative size) scan token b h = sign_kept b token 93 _ h
given_kept (wants.CutBranches negative size) scan token b h =
    sign_kept b token 123 _
    (entered_kept b scan (actions.Cut negative size) (cut_kept (of_entries (signed_of negative size) b.terms) b (λ f e. slight negative size b.terms f h.1.1 h.0.terms e) h.0 h.1.0))
given_kept wants.End scan token b h = sign_kept b token 59 _ h
given_kept wants.Whole scan token b h = tt

-- the states of the machine
abbrev Good : State → Type 0
Good (going scan built pending) = Kept scan.want built
Good (malformed place) = Unit {0}
Good (over place) = Unit {0}
Good (whole end scan built) = Sized built

good_if : (t : Bool) (x y : State) → Good x → Good y → Good (cond t x y)
good_if true x y p q = p
good_if false x y p q = q

staged_good : (end : ℕ) (t : Bool) (scan : Scan) (built : Built) (p : Pending) → Kept scan.want built → Good (staged (cond t (stages.Whole end) stages.Going) scan built p)
staged_good end true scan built p h = h.0
staged_good end false scan built p h = h

taken_good : (begins end : ℕ) (g : Given) (built : Built) → Keeps built g → Good (token_taken begins end g built)
taken_good begins end (givens.On scan action) built h = staged_good end (is_whole scan.want) scan (applied action built) idle h
taken_good begins end givens.Wrong built h = tt
taken_good begins end givens.Over built h = tt

token_good : (begins end : ℕ) (scan : Scan) (token : Token) (built : Built) → Kept scan.want built → Good (token_taken begins end (give scan token) built)
token_good begins end scan token built h = taken_good begins end (give scan token) built (given_kept scan.want scan token built h)

word_good : (begins end : ℕ) (scan : Scan) (built : Built) (w : Option Word) → Kept scan.want built → Good (word_ended begins end scan built w)
word_good begins end scan built (Some w) h = token_good begins end scan (tokens.Word w) built h
word_good begins end scan built None h = tt

grown_good : (begins : ℕ) (scan : Scan) (built : Built) (ls : List ℕ) (c : ℕ) → Kept scan.want built → Good (word_grown begins scan built ls c)
grown_good begins scan built ls c h = good_if (nat_lt (length ls) 8 && fits_word scan (ls ++ c ∷ [])) _ _ h tt

number_good : (begins : ℕ) (scan : Scan) (built : Built) (n c : ℕ) → Kept scan.want built → Good (number_grown begins scan built n c)
number_good begins scan built n c h = good_if (fits_number scan (grown n c)) _ _ h tt

begun_good : (place c : ℕ) (scan : Scan) (built : Built) → Kept scan.want built → Good (begun place c scan built)
begun_good place c scan built h =
    good_if (is_blank c) _ _ h
    (good_if (is_letter c) _ _ (grown_good place scan built [] c h)
    (good_if (is_digit c) _ _ (number_good place scan built 0 c h)
    (token_good place (place + 1) scan (tokens.Sign c) built h)))

and_good : (place c : ℕ) (s : State) → Good s → Good (and_begun place c s)
and_good place c (going scan built pending) h = begun_good place c scan built h
and_good place c (malformed p) h = tt
and_good place c (over p) h = tt
and_good place c (whole end scan built) h = h

stepped_good : (place c : ℕ) (scan : Scan) (built : Built) (p : Pending) → Kept scan.want built → Good (stepped place c scan built p)
stepped_good place c scan built idle h = begun_good place c scan built h
stepped_good place c scan built (letters begins ls) h =
    good_if (is_letter c) _ _ (grown_good begins scan built ls c h) (and_good place c (word_ended begins place scan built (word_of ls)) (word_good begins place scan built (word_of ls) h))
stepped_good place c scan built (digits begins n) h =
    good_if (is_digit c) _ _ (number_good begins scan built n c h) (and_good place c (token_taken begins place (give scan (tokens.Number n)) built) (token_good begins place scan (tokens.Number n) built h))

step_good : (place c : ℕ) (s : State) → Good s → Good (step place s c)
unfolding step
step_good place c (going scan built pending) h = stepped_good place c scan built pending h
step_good place c (malformed p) h = tt
step_good place c (over p) h = tt
step_good place c (whole end scan built) h = h

after_good : (place : ℕ) (s : State) (bs : List ℕ) → Good s → Good (after place s bs)
after_good place s [] h = h
after_good place s (c ∷ bs) h = after_good (place + 1) (step place s c) bs (step_good place c s h)

start_good : (number : ℕ) (second : Bool) → Good (start number second)
start_good number second = (record { trees = tt; outer = tt; picks = tt; lines = tt; terms = tt }, record { picks = omega arith; lines = omega arith })

last_limited : (t : Tree) (ts : List Tree) → IsLimited t → AllLimited ts → IsLimited (last_or t ts)
last_limited t [] h k = h
last_limited t (u ∷ us) h k = last_limited u us k.0 k.1

-- a whole block is within the limits
pub block_limited : (place number end : ℕ) (second : Bool) (bs : List ℕ) (scan : Scan) (built : Built) → after place (start number second) bs ≡ whole end scan built → IsLimited (last_tree built.trees)
unfolding last_tree
block_limited place number end second bs scan built e =
    let s : Sized built = subst Good e (after_good place (start number second) bs (start_good number second)) in
    last_limited impossible built.trees tt s.trees
