-- What may stand next in a block, and where a token leads: one function for each thing that is wanted.
use Rattle.std.specs.Prelude.{ℕ, ◌+◌, ◌-◌, Bool, true, false, ◌&&◌, ◌||◌, ◌==◌, nat_lt, nat_le, if◌then◌else◌, List, Option, Some, None, codes, nat_eq, ◌/◌}
use Rattle.std.specs.List.{starts_with}
use Rattle.std.specs.Str.{bytes_eq}
use Rattle.cert_text.specs.declared.scan.Word.{Word}
use Rattle.cert_text.specs.declared.scan.Word.TheVariants as words
use Rattle.cert_text.specs.declared.scan.Branching.{Branching}
use Rattle.cert_text.specs.declared.scan.Branching.TheVariants as nodes
use Rattle.cert_text.specs.declared.scan.Token.{Token}
use Rattle.cert_text.specs.declared.scan.Token.TheVariants as tokens
use Rattle.cert_text.specs.declared.scan.Want.{Want}
use Rattle.cert_text.specs.declared.scan.Want.TheVariants as wants
use Rattle.cert_text.specs.declared.scan.Scan.{Scan}
use Rattle.cert_text.specs.declared.scan.Action.{Action}
use Rattle.cert_text.specs.declared.scan.Action.TheVariants as actions
use Rattle.cert_text.specs.declared.scan.Given.{Given}
use Rattle.cert_text.specs.declared.scan.Given.TheVariants as givens

-- the token is this sign, and then there is this
abbrev pub only_sign : Token → ℕ → Given → Given
only_sign (tokens.Word w) sign given = givens.Wrong
only_sign (tokens.Number n) sign given = givens.Wrong
only_sign (tokens.Sign c) sign given = if c == sign then given else givens.Wrong

abbrev pub next_want : Scan → Want → Given
next_want scan want = givens.On (record scan { want = want }) actions.Nothing

-- what stands behind a whole tree at this depth
abbrev pub behind : Scan → ℕ → Action → Given
behind scan depth action =
    if depth == 0 then givens.On (record scan { want = wants.End; depth = depth }) action
    else givens.On (record scan { want = wants.Tree true; depth = depth }) action

abbrev pub at_block : Scan → Bool → Token → Given
at_block scan header (tokens.Word words.Cert) = next_want scan wants.BlockNumber
at_block scan header (tokens.Word words.Version) = if header then next_want scan wants.HeaderNumber else givens.Wrong
at_block scan header _ = givens.Wrong

abbrev pub at_header_number : Scan → Token → Given
at_header_number scan (tokens.Number n) = if n == 2 then next_want scan wants.HeaderEnd else givens.Wrong
at_header_number scan _ = givens.Wrong

abbrev pub at_block_number : Scan → Token → Given
at_block_number scan (tokens.Number n) = if n == scan.number then next_want scan (wants.Tree false) else givens.Wrong
at_block_number scan _ = givens.Wrong

-- no further tree may begin here
abbrev pub is_full : Scan → Bool
is_full scan = nat_le 100000 scan.trees || nat_le 400 scan.depth

abbrev pub one_tree : Scan → Scan
one_tree scan = record scan { trees = scan.trees + 1 }

-- a tree has begun with a word, if the limits allow one
abbrev pub tree_begun : Scan → Want → Given
tree_begun scan want = if is_full scan then givens.Over else givens.On (record scan { want = want; trees = scan.trees + 1 }) actions.Nothing

abbrev pub at_tree : Scan → Bool → Token → Given
at_tree scan end (tokens.Word words.Absurd) = if is_full scan then givens.Over else behind (record scan { trees = scan.trees + 1 }) scan.depth actions.Absurd
at_tree scan end (tokens.Word words.Farkas) = tree_begun scan (wants.Picks false)
at_tree scan end (tokens.Word words.Linear) = if scan.second then tree_begun scan (wants.Picks true) else givens.Wrong
at_tree scan end (tokens.Word words.Case) = tree_begun scan (wants.Subject nodes.Case)
at_tree scan end (tokens.Word words.Truth) = tree_begun scan (wants.Subject nodes.Truth)
at_tree scan end (tokens.Word words.Split) = tree_begun scan (wants.Subject nodes.Split)
at_tree scan end (tokens.Word words.Cut) = tree_begun scan wants.Terms
at_tree scan end (tokens.Word words.Cert) = givens.Wrong
at_tree scan end (tokens.Word words.Version) = givens.Wrong
at_tree scan end (tokens.Number n) = givens.Wrong
at_tree scan end (tokens.Sign c) = if c == 125 then (if end && nat_lt 0 scan.depth then behind scan (scan.depth - 1) actions.Leave else givens.Wrong) else givens.Wrong

abbrev pub at_subject : Scan → Branching → Token → Given
at_subject scan branching (tokens.Number n) =
    if n == 0 then givens.Wrong
    else (if nat_lt 4294967295 n then givens.Over
    else next_want scan (wants.Branches branching n))
at_subject scan branching _ = givens.Wrong

-- inside the braces of a node
abbrev pub entered : Scan → Action → Given
entered scan action = if nat_le 400 scan.depth then givens.Over else givens.On (record scan { want = wants.Tree false; depth = scan.depth + 1 }) action

abbrev pub at_row : Scan → Bool → ℕ → Token → Given
at_row scan signed count (tokens.Number n) =
    if n == 0 then givens.Wrong
    else (if nat_lt 4294967295 n || nat_le 4096 count then givens.Over
    else next_want scan (wants.Times signed (count + 1) n))
at_row scan signed count _ = givens.Wrong

abbrev pub at_negative : Scan → Bool → Bool → ℕ → ℕ → Token → Given
at_negative scan signed negative count row (tokens.Number n) =
    if nat_le 1099511627776 n then givens.Over
    else givens.On (record scan { want = wants.MorePicks signed count }) (actions.Pick signed row negative n)
at_negative scan signed negative count row _ = givens.Wrong

abbrev pub at_multiplier : Scan → Bool → ℕ → ℕ → Token → Given
at_multiplier scan signed count row (tokens.Sign c) = if c == 45 then (if signed then next_want scan (wants.Negative count row) else givens.Wrong) else givens.Wrong
at_multiplier scan signed count row (tokens.Word w) = givens.Wrong
at_multiplier scan signed count row (tokens.Number n) = at_negative scan signed false count row (tokens.Number n)

abbrev pub picks_closed : Bool → Action
picks_closed signed = if signed then actions.Linear else actions.Farkas

abbrev pub at_more_picks : Scan → Bool → ℕ → Token → Given
at_more_picks scan signed count (tokens.Sign c) =
    if c == 44 then next_want scan (wants.Row signed count)
    else (if c == 93 then behind scan scan.depth (picks_closed signed) else givens.Wrong)
at_more_picks scan signed count _ = givens.Wrong

abbrev pub at_coefficient : Scan → Bool → Bool → ℕ → Token → Given
at_coefficient scan first negative last (tokens.Number n) =
    if n == 0 then givens.Wrong
    else (if nat_lt 1152921504606846976 n then givens.Over
    else next_want scan (wants.Colon negative n last))
at_coefficient scan first negative last (tokens.Sign c) =
    if c == 45 then (if negative then givens.Wrong else next_want scan (wants.Coefficient false true last))
    else (if c == 59 then (if first then next_want scan (wants.Constant false) else givens.Wrong) else givens.Wrong)
at_coefficient scan first negative last (tokens.Word w) = givens.Wrong

abbrev pub at_variable : Scan → Bool → ℕ → ℕ → Token → Given
at_variable scan negative size last (tokens.Number n) =
    if nat_le n last then givens.Wrong
    else (if nat_lt 4294967295 n then givens.Over
    else givens.On (record scan { want = wants.MoreTerms n }) (actions.Term n negative size))
at_variable scan negative size last _ = givens.Wrong

abbrev pub at_more_terms : Scan → ℕ → Token → Given
at_more_terms scan last (tokens.Sign c) =
    if c == 44 then next_want scan (wants.Coefficient false false last)
    else (if c == 59 then next_want scan (wants.Constant false) else givens.Wrong)
at_more_terms scan last _ = givens.Wrong

abbrev pub at_constant : Scan → Bool → Token → Given
at_constant scan negative (tokens.Number n) =
    if nat_lt 1152921504606846976 n then givens.Over
    else next_want scan (wants.ConstantEnd negative n)
at_constant scan negative (tokens.Sign c) =
    if c == 45 then (if negative then givens.Wrong else next_want scan (wants.Constant true)) else givens.Wrong
at_constant scan negative (tokens.Word w) = givens.Wrong

abbrev pub give_at : Want → Scan → Token → Given
give_at (wants.Block header) scan token = at_block scan header token
give_at wants.HeaderNumber scan token = at_header_number scan token
give_at wants.HeaderEnd scan token = only_sign token 59 (givens.On (record scan { want = wants.Block false; second = true }) actions.Nothing)
give_at wants.BlockNumber scan token = at_block_number scan token
give_at (wants.Tree end) scan token = at_tree scan end token
give_at (wants.Subject branching) scan token = at_subject scan branching token
give_at (wants.Branches branching n) scan token = only_sign token 123 (entered scan (actions.Enter branching n))
give_at (wants.Picks signed) scan token = only_sign token 91 (next_want scan (wants.Row signed 0))
give_at (wants.Row signed count) scan token = at_row scan signed count token
give_at (wants.Times signed count row) scan token = only_sign token 42 (next_want scan (wants.Multiplier signed count row))
give_at (wants.Multiplier signed count row) scan token = at_multiplier scan signed count row token
give_at (wants.Negative count row) scan token = at_negative scan true true count row token
give_at (wants.MorePicks signed count) scan token = at_more_picks scan signed count token
give_at wants.Terms scan token = only_sign token 91 (next_want scan (wants.Coefficient true false 0))
give_at (wants.Coefficient first negative last) scan token = at_coefficient scan first negative last token
give_at (wants.Colon negative size last) scan token = only_sign token 58 (next_want scan (wants.Variable negative size last))
give_at (wants.Variable negative size last) scan token = at_variable scan negative size last token
give_at (wants.MoreTerms last) scan token = at_more_terms scan last token
give_at (wants.Constant negative) scan token = at_constant scan negative token
give_at (wants.ConstantEnd negative size) scan token = only_sign token 93 (next_want scan (wants.CutBranches negative size))
give_at (wants.CutBranches negative size) scan token = only_sign token 123 (entered scan (actions.Cut negative size))
give_at wants.End scan token = only_sign token 59 (next_want scan wants.Whole)
give_at wants.Whole scan token = givens.Wrong

-- the scan behind a token, and what the token adds
abbrev pub give : Scan → Token → Given
give scan token = give_at scan.want scan token

-- the word that these letters are
unfoldable pub word_of : List ℕ → Option Word
word_of ls =
    if bytes_eq ls (codes "version") then Some words.Version
    else (if bytes_eq ls (codes "cert") then Some words.Cert
    else (if bytes_eq ls (codes "absurd") then Some words.Absurd
    else (if bytes_eq ls (codes "farkas") then Some words.Farkas
    else (if bytes_eq ls (codes "linear") then Some words.Linear
    else (if bytes_eq ls (codes "case") then Some words.Case
    else (if bytes_eq ls (codes "bool") then Some words.Truth
    else (if bytes_eq ls (codes "split") then Some words.Split
    else (if bytes_eq ls (codes "cut") then Some words.Cut
    else None))))))))

-- the word goes on from these letters, or is them
unfoldable pub begins : List ℕ → List ℕ → Bool
begins ls word = starts_with nat_eq word ls

abbrev pub begins_tree : Bool → List ℕ → Bool
begins_tree second ls =
    begins ls (codes "absurd") || begins ls (codes "farkas") || begins ls (codes "case") || begins ls (codes "bool")
    || begins ls (codes "split") || begins ls (codes "cut") || (second && begins ls (codes "linear"))

abbrev pub fits_word_at : Want → Bool → List ℕ → Bool
fits_word_at (wants.Block header) second ls = begins ls (codes "cert") || (header && begins ls (codes "version"))
fits_word_at (wants.Tree end) second ls = begins_tree second ls
fits_word_at _ second ls = false

-- a word that may stand next goes on from these letters, or is them
abbrev pub fits_word : Scan → List ℕ → Bool
fits_word scan ls = fits_word_at scan.want scan.second ls

-- digits may follow that make the number of n, or none are needed
unfoldable pub begins_number : ℕ → ℕ → Bool
begins_number number n =
    n == 0 || n == number || n == number / 10 || n == number / 100 || n == number / 1000 || n == number / 10000
    || n == number / 100000 || n == number / 1000000 || n == number / 10000000 || n == number / 100000000
    || n == number / 1000000000

abbrev pub fits_number_at : Want → ℕ → ℕ → Bool
fits_number_at wants.HeaderNumber number n = n == 2
fits_number_at wants.BlockNumber number n = begins_number number n
fits_number_at (wants.Subject branching) number n = true
fits_number_at (wants.Row signed count) number n = true
fits_number_at (wants.Multiplier signed count row) number n = true
fits_number_at (wants.Negative count row) number n = true
fits_number_at (wants.Coefficient first negative last) number n = true
fits_number_at (wants.Variable negative size last) number n = true
fits_number_at (wants.Constant negative) number n = true
fits_number_at _ number n = false

-- a number that may stand next goes on from the digits of n, or is n
abbrev pub fits_number : Scan → ℕ → Bool
fits_number scan n = fits_number_at scan.want scan.number n
