-- A token inside a block leads on inside of it, and changes neither its number nor the version.
use Rattle.std.proofs.Common.{◌≡◌, ℕ, ◌-◌, Bool, true, false, ◌&&◌, ◌||◌, refl, nat_lt, nat_le, ◌==◌}
use Rattle.cert_text.specs.declared.scan.Word.{Word}
use Rattle.cert_text.specs.declared.scan.Word.TheVariants as words
use Rattle.cert_text.specs.declared.scan.Branching.TheVariants as nodes
use Rattle.cert_text.specs.declared.scan.Token.{Token}
use Rattle.cert_text.specs.declared.scan.Token.TheVariants as tokens
use Rattle.cert_text.specs.declared.scan.Want.{Want}
use Rattle.cert_text.specs.declared.scan.Want.TheVariants as wants
use Rattle.cert_text.specs.declared.scan.Scan.{Scan}
use Rattle.cert_text.specs.declared.scan.Given.{Given}
use Rattle.cert_text.specs.declared.scan.Given.TheVariants as givens
use Rattle.cert_text.specs.declared.scan.Action.{Action}
use Rattle.cert_text.specs.declared.scan.Action.TheVariants as actions
use Rattle.cert_text.specs.Control.{give_at, behind, entered, tree_begun, is_full, one_tree, picks_closed, at_tree, at_block}
use Rattle.cert_laws.proofs.Givens.{is_inside, OnlyOn, on_if}

no_truth : false ≡ true → ⊥
no_truth h = cc

abbrev pub Stays : Scan → Scan → Type 0
Stays scan s = (s.number ≡ scan.number) × (s.second ≡ scan.second) × (is_inside s.want ≡ true)

behind_stays : (scan : Scan) (depth : ℕ) (action : Action) → OnlyOn (Stays scan) (behind scan depth action)
behind_stays scan depth action = on_if (Stays scan) (depth == 0) _ _ (λ e. (refl, refl, refl)) (λ e. (refl, refl, refl))

entered_stays : (scan : Scan) (action : Action) → OnlyOn (Stays scan) (entered scan action)
entered_stays scan action = on_if (Stays scan) (nat_le 400 scan.depth) _ _ (λ e. tt) (λ e. (refl, refl, refl))

begun_stays : (scan : Scan) (want : Want) → is_inside want ≡ true → OnlyOn (Stays scan) (tree_begun scan want)
begun_stays scan want i = on_if (Stays scan) (is_full scan) _ _ (λ e. tt) (λ e. (refl, refl, i))

tree_stays : (scan : Scan) (end : Bool) (t : Token) → OnlyOn (Stays scan) (at_tree scan end t)
tree_stays scan end (tokens.Word words.Absurd) = on_if (Stays scan) (is_full scan) _ _ (λ e. tt) (λ e. behind_stays (one_tree scan) scan.depth actions.Absurd)
tree_stays scan end (tokens.Word words.Farkas) = begun_stays scan (wants.Picks false) refl
tree_stays scan end (tokens.Word words.Linear) = on_if (Stays scan) scan.second _ _ (λ e. begun_stays scan (wants.Picks true) refl) (λ e. tt)
tree_stays scan end (tokens.Word words.Case) = begun_stays scan (wants.Subject nodes.Case) refl
tree_stays scan end (tokens.Word words.Truth) = begun_stays scan (wants.Subject nodes.Truth) refl
tree_stays scan end (tokens.Word words.Split) = begun_stays scan (wants.Subject nodes.Split) refl
tree_stays scan end (tokens.Word words.Cut) = begun_stays scan wants.Terms refl
tree_stays scan end (tokens.Word words.Cert) = tt
tree_stays scan end (tokens.Word words.Version) = tt
tree_stays scan end (tokens.Number n) = tt
tree_stays scan end (tokens.Sign c) = on_if (Stays scan) (c == 125) _ _ (λ e. on_if (Stays scan) (end && nat_lt 0 scan.depth) _ _ (λ f. behind_stays scan (scan.depth - 1) actions.Leave) (λ f. tt)) (λ e. tt)

pub stays : (want : Want) (scan : Scan) (t : Token) → is_inside want ≡ true → OnlyOn (Stays scan) (give_at want scan t)
stays (wants.Block header) scan t i = absurd (no_truth i)
stays wants.HeaderNumber scan t i = absurd (no_truth i)
stays wants.HeaderEnd scan t i = absurd (no_truth i)
stays wants.BlockNumber scan (tokens.Word w) i = tt
stays wants.BlockNumber scan (tokens.Number n) i = on_if (Stays scan) (n == scan.number) _ _ (λ e. (refl, refl, refl)) (λ e. tt)
stays wants.BlockNumber scan (tokens.Sign c) i = tt
stays (wants.Tree end) scan t i = tree_stays scan end t
stays (wants.Subject branching) scan (tokens.Word w) i = tt
stays (wants.Subject branching) scan (tokens.Number n) i = on_if (Stays scan) (n == 0) _ _ (λ e. tt) (λ e. on_if (Stays scan) (nat_lt 4294967295 n) _ _ (λ e. tt) (λ e. (refl, refl, refl)))
stays (wants.Subject branching) scan (tokens.Sign c) i = tt
stays (wants.Branches branching m) scan (tokens.Word w) i = tt
stays (wants.Branches branching m) scan (tokens.Number n) i = tt
stays (wants.Branches branching m) scan (tokens.Sign c) i = on_if (Stays scan) (c == 123) _ _ (λ e. entered_stays scan (actions.Enter branching m)) (λ e. tt)
stays (wants.Picks signed) scan (tokens.Word w) i = tt
stays (wants.Picks signed) scan (tokens.Number n) i = tt
stays (wants.Picks signed) scan (tokens.Sign c) i = on_if (Stays scan) (c == 91) _ _ (λ e. (refl, refl, refl)) (λ e. tt)
stays (wants.Row signed count) scan (tokens.Word w) i = tt
stays (wants.Row signed count) scan (tokens.Number n) i = on_if (Stays scan) (n == 0) _ _ (λ e. tt) (λ e. on_if (Stays scan) (nat_lt 4294967295 n || nat_le 4096 count) _ _ (λ e. tt) (λ e. (refl, refl, refl)))
stays (wants.Row signed count) scan (tokens.Sign c) i = tt
stays (wants.Times signed count row) scan (tokens.Word w) i = tt
stays (wants.Times signed count row) scan (tokens.Number n) i = tt
stays (wants.Times signed count row) scan (tokens.Sign c) i = on_if (Stays scan) (c == 42) _ _ (λ e. (refl, refl, refl)) (λ e. tt)
stays (wants.Multiplier signed count row) scan (tokens.Word w) i = tt
stays (wants.Multiplier signed count row) scan (tokens.Number n) i = on_if (Stays scan) (nat_le 1099511627776 n) _ _ (λ e. tt) (λ e. (refl, refl, refl))
stays (wants.Multiplier signed count row) scan (tokens.Sign c) i = on_if (Stays scan) (c == 45) _ _ (λ e. on_if (Stays scan) (signed) _ _ (λ e. (refl, refl, refl)) (λ e. tt)) (λ e. tt)
stays (wants.Negative count row) scan (tokens.Word w) i = tt
stays (wants.Negative count row) scan (tokens.Number n) i = on_if (Stays scan) (nat_le 1099511627776 n) _ _ (λ e. tt) (λ e. (refl, refl, refl))
stays (wants.Negative count row) scan (tokens.Sign c) i = tt
stays (wants.MorePicks signed count) scan (tokens.Word w) i = tt
stays (wants.MorePicks signed count) scan (tokens.Number n) i = tt
stays (wants.MorePicks signed count) scan (tokens.Sign c) i = on_if (Stays scan) (c == 44) _ _ (λ e. (refl, refl, refl)) (λ e. on_if (Stays scan) (c == 93) _ _ (λ e. behind_stays scan scan.depth (picks_closed signed)) (λ e. tt))
stays wants.Terms scan (tokens.Word w) i = tt
stays wants.Terms scan (tokens.Number n) i = tt
stays wants.Terms scan (tokens.Sign c) i = on_if (Stays scan) (c == 91) _ _ (λ e. (refl, refl, refl)) (λ e. tt)
stays (wants.Coefficient first negative last) scan (tokens.Word w) i = tt
stays (wants.Coefficient first negative last) scan (tokens.Number n) i = on_if (Stays scan) (n == 0) _ _ (λ e. tt) (λ e. on_if (Stays scan) (nat_lt 1152921504606846976 n) _ _ (λ e. tt) (λ e. (refl, refl, refl)))
stays (wants.Coefficient first negative last) scan (tokens.Sign c) i = on_if (Stays scan) (c == 45) _ _ (λ e. on_if (Stays scan) (negative) _ _ (λ e. tt) (λ e. (refl, refl, refl))) (λ e. on_if (Stays scan) (c == 59) _ _ (λ e. on_if (Stays scan) (first) _ _ (λ e. (refl, refl, refl)) (λ e. tt)) (λ e. tt))
stays (wants.Colon negative size last) scan (tokens.Word w) i = tt
stays (wants.Colon negative size last) scan (tokens.Number n) i = tt
stays (wants.Colon negative size last) scan (tokens.Sign c) i = on_if (Stays scan) (c == 58) _ _ (λ e. (refl, refl, refl)) (λ e. tt)
stays (wants.Variable negative size last) scan (tokens.Word w) i = tt
stays (wants.Variable negative size last) scan (tokens.Number n) i = on_if (Stays scan) (nat_le n last) _ _ (λ e. tt) (λ e. on_if (Stays scan) (nat_lt 4294967295 n) _ _ (λ e. tt) (λ e. (refl, refl, refl)))
stays (wants.Variable negative size last) scan (tokens.Sign c) i = tt
stays (wants.MoreTerms last) scan (tokens.Word w) i = tt
stays (wants.MoreTerms last) scan (tokens.Number n) i = tt
stays (wants.MoreTerms last) scan (tokens.Sign c) i = on_if (Stays scan) (c == 44) _ _ (λ e. (refl, refl, refl)) (λ e. on_if (Stays scan) (c == 59) _ _ (λ e. (refl, refl, refl)) (λ e. tt))
stays (wants.Constant negative) scan (tokens.Word w) i = tt
stays (wants.Constant negative) scan (tokens.Number n) i = on_if (Stays scan) (nat_lt 1152921504606846976 n) _ _ (λ e. tt) (λ e. (refl, refl, refl))
stays (wants.Constant negative) scan (tokens.Sign c) i = on_if (Stays scan) (c == 45) _ _ (λ e. on_if (Stays scan) (negative) _ _ (λ e. tt) (λ e. (refl, refl, refl))) (λ e. tt)
stays (wants.ConstantEnd negative size) scan (tokens.Word w) i = tt
stays (wants.ConstantEnd negative size) scan (tokens.Number n) i = tt
stays (wants.ConstantEnd negative size) scan (tokens.Sign c) i = on_if (Stays scan) (c == 93) _ _ (λ e. (refl, refl, refl)) (λ e. tt)
stays (wants.CutBranches negative size) scan (tokens.Word w) i = tt
stays (wants.CutBranches negative size) scan (tokens.Number n) i = tt
stays (wants.CutBranches negative size) scan (tokens.Sign c) i = on_if (Stays scan) (c == 123) _ _ (λ e. entered_stays scan (actions.Cut negative size)) (λ e. tt)
stays wants.End scan (tokens.Word w) i = tt
stays wants.End scan (tokens.Number n) i = tt
stays wants.End scan (tokens.Sign c) i = on_if (Stays scan) (c == 59) _ _ (λ e. (refl, refl, refl)) (λ e. tt)
stays wants.Whole scan (tokens.Word w) i = tt
stays wants.Whole scan (tokens.Number n) i = tt
stays wants.Whole scan (tokens.Sign c) i = tt

-- no token changes a block's number

abbrev pub Keeps : ℕ → Scan → Type 0
Keeps number s = s.number ≡ number

pub on_then : (p q : Scan → Type 0) (g : Given) → ((s : Scan) → p s → q s) → OnlyOn p g → OnlyOn q g
on_then p q (givens.On s a) f h = f s h
on_then p q givens.Wrong f h = tt
on_then p q givens.Over f h = tt

block_keeps : (scan : Scan) (header : Bool) (w : Word) → OnlyOn (Keeps scan.number) (at_block scan header (tokens.Word w))
block_keeps scan header words.Cert = refl
block_keeps scan header words.Version = on_if (Keeps scan.number) header _ _ (λ e. refl) (λ e. tt)
block_keeps scan header words.Absurd = tt
block_keeps scan header words.Farkas = tt
block_keeps scan header words.Linear = tt
block_keeps scan header words.Case = tt
block_keeps scan header words.Truth = tt
block_keeps scan header words.Split = tt
block_keeps scan header words.Cut = tt

inside_keeps : (want : Want) (scan : Scan) (t : Token) → is_inside want ≡ true → OnlyOn (Keeps scan.number) (give_at want scan t)
inside_keeps want scan t i = on_then (Stays scan) (Keeps scan.number) (give_at want scan t) (λ s h. h.0) (stays want scan t i)

pub number_keeps : (want : Want) (scan : Scan) (t : Token) → OnlyOn (Keeps scan.number) (give_at want scan t)
number_keeps (wants.Block header) scan (tokens.Word w) = block_keeps scan header w
number_keeps (wants.Block header) scan (tokens.Number n) = tt
number_keeps (wants.Block header) scan (tokens.Sign c) = tt
number_keeps wants.HeaderNumber scan (tokens.Word w) = tt
number_keeps wants.HeaderNumber scan (tokens.Number n) = on_if (Keeps scan.number) (n == 2) _ _ (λ e. refl) (λ e. tt)
number_keeps wants.HeaderNumber scan (tokens.Sign c) = tt
number_keeps wants.HeaderEnd scan (tokens.Word w) = tt
number_keeps wants.HeaderEnd scan (tokens.Number n) = tt
number_keeps wants.HeaderEnd scan (tokens.Sign c) = on_if (Keeps scan.number) (c == 59) _ _ (λ e. refl) (λ e. tt)
number_keeps want scan t = inside_keeps want scan t refl
