-- What a token that is taken tells: of the place where it stands, and of the one behind it.
use Rattle.std.proofs.Common.{◌≡◌, ℕ, ◌-◌, ◌<◌, ◌^◌, Bool, true, false, cond, ◌&&◌, ◌||◌, refl, arith, nat_lt, nat_le, ◌==◌}
use Rattle.std.proofs.lemmas.Bool.Decides.{nat_tests}
use Rattle.cert_text.specs.declared.scan.Word.{Word}
use Rattle.cert_text.specs.declared.scan.Word.TheVariants as words
use Rattle.cert_text.specs.declared.scan.Token.TheVariants as tokens
use Rattle.cert_text.specs.declared.scan.Want.{Want}
use Rattle.cert_text.specs.declared.scan.Want.TheVariants as wants
use Rattle.cert_text.specs.declared.scan.Scan.{Scan}
use Rattle.cert_text.specs.declared.scan.Action.{Action}
use Rattle.cert_text.specs.declared.scan.Action.TheVariants as actions
use Rattle.cert_text.specs.declared.scan.Given.{Given}
use Rattle.cert_text.specs.declared.scan.Given.TheVariants as givens
use Rattle.cert_text.specs.Control.{give_at, behind, picks_closed, entered, is_full, fits_number_at, begins}
use Rattle.cert_text.specs.Reading.{is_whole, going, idle, letters, step, after}
use Rattle.cert_text.specs.Tree.{Built}
use Rattle.cert_text.specs.Run.{scan_at}
use Rattle.cert_laws.specs.Spelled.{letters_of}
use Rattle.cert_laws.proofs.Prefixes.{begins_itself}

-- behind `cert`
abbrev pub is_inside : Want → Bool
is_inside (wants.Block header) = false
is_inside wants.HeaderNumber = false
is_inside wants.HeaderEnd = false
is_inside _ = true

-- a fact of the scan behind a token, if the token is taken
abbrev pub OnlyOn : (Scan → Type 0) → Given → Type 0
OnlyOn p (givens.On scan action) = p scan
OnlyOn p givens.Wrong = Unit {0}
OnlyOn p givens.Over = Unit {0}

pub on_if : (p : Scan → Type 0) (c : Bool) (x y : Given) → (c ≡ true → OnlyOn p x) → (c ≡ false → OnlyOn p y) → OnlyOn p (cond c x y)
on_if p true x y h k = h refl
on_if p false x y h k = k refl

-- a number stands where it may, and a sign is to follow it
pub record NumberTaken (want : Want) (number n : ℕ) (s : Scan) : Type 0 where
  pub fits : fits_number_at want number n ≡ true
  pub small : n < 2 ^ 64
  pub goes : is_whole s.want ≡ false
  pub inside : is_inside s.want ≡ true
  pub same : s.number ≡ number

no_truth : false ≡ true → ⊥
no_truth h = cc

as_small : (number n : ℕ) → number < 2 ^ 32 → (n == number) ≡ true → n < 2 ^ 64
as_small number n h e = grind (arith, nat_tests)

number_small : (n : ℕ) → nat_lt 4294967295 n ≡ false → n < 2 ^ 64
number_small n e = grind (arith, nat_tests)

row_small : (n : ℕ) (b : Bool) → (nat_lt 4294967295 n || b) ≡ false → n < 2 ^ 64
row_small n b e = number_small n (left (nat_lt 4294967295 n) b e) where
  left : (a c : Bool) → (a || c) ≡ false → a ≡ false
  left true c h = h
  left false c h = refl

multiplier_small : (n : ℕ) → nat_le 1099511627776 n ≡ false → n < 2 ^ 64
multiplier_small n e = grind (arith, nat_tests)

entry_small : (n : ℕ) → nat_lt 1152921504606846976 n ≡ false → n < 2 ^ 64
entry_small n e = grind (arith, nat_tests)

pub number_taken : (want : Want) (scan : Scan) (n : ℕ) → is_inside want ≡ true → scan.number < 2 ^ 32 → OnlyOn (NumberTaken want scan.number n) (give_at want scan (tokens.Number n))
number_taken (wants.Block header) scan n i h = tt
number_taken wants.HeaderNumber scan n i h = absurd (no_truth i)
number_taken wants.HeaderEnd scan n i h = tt
number_taken wants.BlockNumber scan n i h = on_if (NumberTaken wants.BlockNumber scan.number n) (n == scan.number) _ _ (λ e. record { fits = begins_itself scan.number n e; small = as_small scan.number n h e; goes = refl; inside = refl; same = refl }) (λ e. tt)
number_taken (wants.Tree end) scan n i h = tt
number_taken (wants.Subject branching) scan n i h = on_if (NumberTaken (wants.Subject branching) scan.number n) (n == 0) _ _ (λ e. tt) (λ e. on_if (NumberTaken (wants.Subject branching) scan.number n) (nat_lt 4294967295 n) _ _ (λ o. tt) (λ o. record { fits = refl; small = number_small n o; goes = refl; inside = refl; same = refl }))
number_taken (wants.Branches branching m) scan n i h = tt
number_taken (wants.Picks signed) scan n i h = tt
number_taken (wants.Row signed count) scan n i h = on_if (NumberTaken (wants.Row signed count) scan.number n) (n == 0) _ _ (λ e. tt) (λ e. on_if (NumberTaken (wants.Row signed count) scan.number n) (nat_lt 4294967295 n || nat_le 4096 count) _ _ (λ o. tt) (λ o. record { fits = refl; small = row_small n (nat_le 4096 count) o; goes = refl; inside = refl; same = refl }))
number_taken (wants.Times signed count row) scan n i h = tt
number_taken (wants.Multiplier signed count row) scan n i h = on_if (NumberTaken (wants.Multiplier signed count row) scan.number n) (nat_le 1099511627776 n) _ _ (λ o. tt) (λ o. record { fits = refl; small = multiplier_small n o; goes = refl; inside = refl; same = refl })
number_taken (wants.Negative count row) scan n i h = on_if (NumberTaken (wants.Negative count row) scan.number n) (nat_le 1099511627776 n) _ _ (λ o. tt) (λ o. record { fits = refl; small = multiplier_small n o; goes = refl; inside = refl; same = refl })
number_taken (wants.MorePicks signed count) scan n i h = tt
number_taken wants.Terms scan n i h = tt
number_taken (wants.Coefficient first negative last) scan n i h = on_if (NumberTaken (wants.Coefficient first negative last) scan.number n) (n == 0) _ _ (λ e. tt) (λ e. on_if (NumberTaken (wants.Coefficient first negative last) scan.number n) (nat_lt 1152921504606846976 n) _ _ (λ o. tt) (λ o. record { fits = refl; small = entry_small n o; goes = refl; inside = refl; same = refl }))
number_taken (wants.Colon negative size last) scan n i h = tt
number_taken (wants.Variable negative size last) scan n i h = on_if (NumberTaken (wants.Variable negative size last) scan.number n) (nat_le n last) _ _ (λ e. tt) (λ e. on_if (NumberTaken (wants.Variable negative size last) scan.number n) (nat_lt 4294967295 n) _ _ (λ o. tt) (λ o. record { fits = refl; small = number_small n o; goes = refl; inside = refl; same = refl }))
number_taken (wants.MoreTerms last) scan n i h = tt
number_taken (wants.Constant negative) scan n i h = on_if (NumberTaken (wants.Constant negative) scan.number n) (nat_lt 1152921504606846976 n) _ _ (λ o. tt) (λ o. record { fits = refl; small = entry_small n o; goes = refl; inside = refl; same = refl })
number_taken (wants.ConstantEnd negative size) scan n i h = tt
number_taken (wants.CutBranches negative size) scan n i h = tt
number_taken wants.End scan n i h = tt
number_taken wants.Whole scan n i h = tt

-- a sign leads on inside the block
abbrev pub SignTaken : ℕ → Scan → Type 0
SignTaken number s = (is_inside s.want ≡ true) × (s.number ≡ number)

behind_taken : (scan : Scan) (depth : ℕ) (action : Action) → OnlyOn (SignTaken scan.number) (behind scan depth action)
behind_taken scan depth action = on_if (SignTaken scan.number) (depth == 0) _ _ (λ e. (refl, refl)) (λ e. (refl, refl))

entered_taken : (scan : Scan) (action : Action) → OnlyOn (SignTaken scan.number) (entered scan action)
entered_taken scan action = on_if (SignTaken scan.number) (nat_le 400 scan.depth) _ _ (λ e. tt) (λ e. (refl, refl))

pub sign_taken : (want : Want) (scan : Scan) (c : ℕ) → is_inside want ≡ true → OnlyOn (SignTaken scan.number) (give_at want scan (tokens.Sign c))
sign_taken (wants.Block header) scan c i = tt
sign_taken wants.HeaderNumber scan c i = tt
sign_taken wants.HeaderEnd scan c i = absurd (no_truth i)
sign_taken wants.BlockNumber scan c i = tt
sign_taken (wants.Tree end) scan c i = on_if (SignTaken scan.number) (c == 125) _ _ (λ e. on_if (SignTaken scan.number) (end && nat_lt 0 scan.depth) _ _ (λ e. behind_taken scan (scan.depth - 1) actions.Leave) (λ e. tt)) (λ e. tt)
sign_taken (wants.Subject branching) scan c i = tt
sign_taken (wants.Branches branching m) scan c i = on_if (SignTaken scan.number) (c == 123) _ _ (λ e. entered_taken scan (actions.Enter branching m)) (λ e. tt)
sign_taken (wants.Picks signed) scan c i = on_if (SignTaken scan.number) (c == 91) _ _ (λ e. (refl, refl)) (λ e. tt)
sign_taken (wants.Row signed count) scan c i = tt
sign_taken (wants.Times signed count row) scan c i = on_if (SignTaken scan.number) (c == 42) _ _ (λ e. (refl, refl)) (λ e. tt)
sign_taken (wants.Multiplier signed count row) scan c i = on_if (SignTaken scan.number) (c == 45) _ _ (λ e. on_if (SignTaken scan.number) (signed) _ _ (λ e. (refl, refl)) (λ e. tt)) (λ e. tt)
sign_taken (wants.Negative count row) scan c i = tt
sign_taken (wants.MorePicks signed count) scan c i = on_if (SignTaken scan.number) (c == 44) _ _ (λ e. (refl, refl)) (λ e. on_if (SignTaken scan.number) (c == 93) _ _ (λ e. behind_taken scan scan.depth (picks_closed signed)) (λ e. tt))
sign_taken wants.Terms scan c i = on_if (SignTaken scan.number) (c == 91) _ _ (λ e. (refl, refl)) (λ e. tt)
sign_taken (wants.Coefficient first negative last) scan c i = on_if (SignTaken scan.number) (c == 45) _ _ (λ e. on_if (SignTaken scan.number) (negative) _ _ (λ e. tt) (λ e. (refl, refl))) (λ e. on_if (SignTaken scan.number) (c == 59) _ _ (λ e. on_if (SignTaken scan.number) (first) _ _ (λ e. (refl, refl)) (λ e. tt)) (λ e. tt))
sign_taken (wants.Colon negative size last) scan c i = on_if (SignTaken scan.number) (c == 58) _ _ (λ e. (refl, refl)) (λ e. tt)
sign_taken (wants.Variable negative size last) scan c i = tt
sign_taken (wants.MoreTerms last) scan c i = on_if (SignTaken scan.number) (c == 44) _ _ (λ e. (refl, refl)) (λ e. on_if (SignTaken scan.number) (c == 59) _ _ (λ e. (refl, refl)) (λ e. tt))
sign_taken (wants.Constant negative) scan c i = on_if (SignTaken scan.number) (c == 45) _ _ (λ e. on_if (SignTaken scan.number) (negative) _ _ (λ e. tt) (λ e. (refl, refl))) (λ e. tt)
sign_taken (wants.ConstantEnd negative size) scan c i = on_if (SignTaken scan.number) (c == 93) _ _ (λ e. (refl, refl)) (λ e. tt)
sign_taken (wants.CutBranches negative size) scan c i = on_if (SignTaken scan.number) (c == 123) _ _ (λ e. entered_taken scan (actions.Cut negative size)) (λ e. tt)
sign_taken wants.End scan c i = on_if (SignTaken scan.number) (c == 59) _ _ (λ e. (refl, refl)) (λ e. tt)
sign_taken wants.Whole scan c i = tt

-- a word may stand where it is read, letter by letter
abbrev pub Reads : Scan → Word → Type 0
Reads scan w = (at : ℕ) (built : Built) → after at (going scan built idle) (letters_of w) ≡ going scan built (letters at (letters_of w))

pub record WordTaken (scan : Scan) (w : Word) (s : Scan) : Type 0 where
  pub reads : (at : ℕ) (built : Built) → after at (going scan built idle) (letters_of w) ≡ going scan built (letters at (letters_of w))
  pub goes : is_whole s.want ≡ false
  pub inside : is_inside s.want ≡ true
  pub same : s.number ≡ scan.number

pub absurd_reads : (number : ℕ) (second end : Bool) (depth trees : ℕ) → Reads (scan_at number second (wants.Tree end) depth trees) words.Absurd
unfolding step begins
absurd_reads number second end depth trees at built = refl

pub farkas_reads : (number : ℕ) (second end : Bool) (depth trees : ℕ) → Reads (scan_at number second (wants.Tree end) depth trees) words.Farkas
unfolding step begins
farkas_reads number second end depth trees at built = refl

pub case_reads : (number : ℕ) (second end : Bool) (depth trees : ℕ) → Reads (scan_at number second (wants.Tree end) depth trees) words.Case
unfolding step begins
case_reads number second end depth trees at built = refl

pub bool_reads : (number : ℕ) (second end : Bool) (depth trees : ℕ) → Reads (scan_at number second (wants.Tree end) depth trees) words.Truth
unfolding step begins
bool_reads number second end depth trees at built = refl

pub split_reads : (number : ℕ) (second end : Bool) (depth trees : ℕ) → Reads (scan_at number second (wants.Tree end) depth trees) words.Split
unfolding step begins
split_reads number second end depth trees at built = refl

pub cut_reads : (number : ℕ) (second end : Bool) (depth trees : ℕ) → Reads (scan_at number second (wants.Tree end) depth trees) words.Cut
unfolding step begins
cut_reads number second end depth trees at built = refl

pub linear_reads : (number : ℕ) (end : Bool) (depth trees : ℕ) → Reads (scan_at number true (wants.Tree end) depth trees) words.Linear
unfolding step begins
linear_reads number end depth trees at built = refl

pub cert_reads : (number : ℕ) (second header : Bool) (depth trees : ℕ) → Reads (scan_at number second (wants.Block header) depth trees) words.Cert
unfolding step begins
cert_reads number second header depth trees at built = refl

pub cert_taken : (number : ℕ) (second header : Bool) (depth trees : ℕ) → WordTaken (scan_at number second (wants.Block header) depth trees) words.Cert (scan_at number second wants.BlockNumber depth trees)
cert_taken number second header depth trees = record { reads = cert_reads number second header depth trees; goes = refl; inside = refl; same = refl }

-- a word that begins a tree, unless that passes a limit
tree_word : (number : ℕ) (second end : Bool) (depth trees : ℕ) (w : Word) → OnlyOn (WordTaken (scan_at number second (wants.Tree end) depth trees) w) (give_at (wants.Tree end) (scan_at number second (wants.Tree end) depth trees) (tokens.Word w))
tree_word number second end depth trees words.Version = tt
tree_word number second end depth trees words.Cert = tt
tree_word number second end depth trees words.Absurd = on_if (WordTaken (scan_at number second (wants.Tree end) depth trees) words.Absurd) (is_full (scan_at number second (wants.Tree end) depth trees)) _ _ (λ e. tt) (λ e. on_if (WordTaken (scan_at number second (wants.Tree end) depth trees) words.Absurd) (depth == 0) _ _ (λ z. record { reads = absurd_reads number second end depth trees; goes = refl; inside = refl; same = refl }) (λ z. record { reads = absurd_reads number second end depth trees; goes = refl; inside = refl; same = refl }))
tree_word number second end depth trees words.Farkas = on_if (WordTaken (scan_at number second (wants.Tree end) depth trees) words.Farkas) (is_full (scan_at number second (wants.Tree end) depth trees)) _ _ (λ e. tt) (λ e. record { reads = farkas_reads number second end depth trees; goes = refl; inside = refl; same = refl })
tree_word number second end depth trees words.Case = on_if (WordTaken (scan_at number second (wants.Tree end) depth trees) words.Case) (is_full (scan_at number second (wants.Tree end) depth trees)) _ _ (λ e. tt) (λ e. record { reads = case_reads number second end depth trees; goes = refl; inside = refl; same = refl })
tree_word number second end depth trees words.Truth = on_if (WordTaken (scan_at number second (wants.Tree end) depth trees) words.Truth) (is_full (scan_at number second (wants.Tree end) depth trees)) _ _ (λ e. tt) (λ e. record { reads = bool_reads number second end depth trees; goes = refl; inside = refl; same = refl })
tree_word number second end depth trees words.Split = on_if (WordTaken (scan_at number second (wants.Tree end) depth trees) words.Split) (is_full (scan_at number second (wants.Tree end) depth trees)) _ _ (λ e. tt) (λ e. record { reads = split_reads number second end depth trees; goes = refl; inside = refl; same = refl })
tree_word number second end depth trees words.Cut = on_if (WordTaken (scan_at number second (wants.Tree end) depth trees) words.Cut) (is_full (scan_at number second (wants.Tree end) depth trees)) _ _ (λ e. tt) (λ e. record { reads = cut_reads number second end depth trees; goes = refl; inside = refl; same = refl })
tree_word number true end depth trees words.Linear = on_if (WordTaken (scan_at number true (wants.Tree end) depth trees) words.Linear) (is_full (scan_at number true (wants.Tree end) depth trees)) _ _ (λ e. tt) (λ e. record { reads = linear_reads number end depth trees; goes = refl; inside = refl; same = refl })
tree_word number false end depth trees words.Linear = tt

pub word_taken : (number : ℕ) (second : Bool) (want : Want) (depth trees : ℕ) (w : Word) → is_inside want ≡ true → OnlyOn (WordTaken (scan_at number second want depth trees) w) (give_at want (scan_at number second want depth trees) (tokens.Word w))
word_taken number second (wants.Block header) depth trees w i = absurd (no_truth i)
word_taken number second wants.HeaderNumber depth trees w i = tt
word_taken number second wants.HeaderEnd depth trees w i = tt
word_taken number second wants.BlockNumber depth trees w i = tt
word_taken number second (wants.Tree end) depth trees w i = tree_word number second end depth trees w
word_taken number second (wants.Subject branching) depth trees w i = tt
word_taken number second (wants.Branches branching m) depth trees w i = tt
word_taken number second (wants.Picks signed) depth trees w i = tt
word_taken number second (wants.Row signed count) depth trees w i = tt
word_taken number second (wants.Times signed count row) depth trees w i = tt
word_taken number second (wants.Multiplier signed count row) depth trees w i = tt
word_taken number second (wants.Negative count row) depth trees w i = tt
word_taken number second (wants.MorePicks signed count) depth trees w i = tt
word_taken number second wants.Terms depth trees w i = tt
word_taken number second (wants.Coefficient first negative last) depth trees w i = tt
word_taken number second (wants.Colon negative size last) depth trees w i = tt
word_taken number second (wants.Variable negative size last) depth trees w i = tt
word_taken number second (wants.MoreTerms last) depth trees w i = tt
word_taken number second (wants.Constant negative) depth trees w i = tt
word_taken number second (wants.ConstantEnd negative size) depth trees w i = tt
word_taken number second (wants.CutBranches negative size) depth trees w i = tt
word_taken number second wants.End depth trees w i = tt
word_taken number second wants.Whole depth trees w i = tt
