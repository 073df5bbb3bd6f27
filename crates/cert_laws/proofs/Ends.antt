-- What may follow: from what may stand next, the tokens that complete a block, limits aside. There are always some.
use Rattle.std.proofs.Common.{◌≡◌, ℕ, zero, suc, ◌+◌, ◌<◌, ◌≤◌, Bool, true, false, ◌⊎◌, inl, List, [], ◌∷◌, refl, sym, ap, ◌∙◌, subst, arith}
use Rattle.cert_text.specs.declared.scan.Word.TheVariants as words
use Rattle.cert_text.specs.declared.scan.Token.{Token}
use Rattle.cert_text.specs.declared.scan.Token.TheVariants as tokens
use Rattle.cert_text.specs.declared.scan.Want.{Want}
use Rattle.cert_text.specs.declared.scan.Want.TheVariants as wants
use Rattle.cert_text.specs.Grammar.{Int, int_tokens, lines_tokens, more_terms, AreTerms, Written, Rows, w_absurd, w_last, w_and, tree_tokens, rows_tokens, IsProper, AreProper}
use Rattle.cert_text.specs.Reading.{is_whole}
use Rattle.cert_laws.specs.Spelled.{IsSign}
use Rattle.cert_laws.proofs.Givens.{is_inside}

-- behind a whole tree: the end of the block where nothing is open, or else a brace or a further tree
pub data Goes (second : Bool) : ℕ → List Token → Type 0 where
  g_end : (d : ℕ) (ks : List Token) → d ≡ 0 → ks ≡ tokens.Sign 59 ∷ [] → Goes second d ks
  g_leave : (d : ℕ) (ks : List Token) (e : ℕ) (k : List Token) → d ≡ e + 1 → ks ≡ tokens.Sign 125 ∷ k → Goes second e k → Goes second d ks
  g_tree : (d : ℕ) (ks : List Token) (w : Written) (k : List Token) → 0 < d → ks ≡ tree_tokens w k → IsProper second w → Goes second d k → Goes second d ks

-- each sign is a sign by its byte
abbrev pub AreSpellable : List Token → Type 0
AreSpellable [] = Unit {0}
AreSpellable (tokens.Word w ∷ ks) = AreSpellable ks
AreSpellable (tokens.Number n ∷ ks) = AreSpellable ks
AreSpellable (tokens.Sign c ∷ ks) = IsSign c × AreSpellable ks

pub goes : (second : Bool) (d : ℕ) → (k : List Token) × Goes second d k × AreSpellable k
goes second zero = (tokens.Sign 59 ∷ [], g_end zero (tokens.Sign 59 ∷ []) refl refl, ((refl, refl, refl), tt))
goes second (suc d) = let g = goes second d in (tokens.Sign 125 ∷ g.0, g_leave (suc d) (tokens.Sign 125 ∷ g.0) d g.0 (omega arith) refl g.1, ((refl, refl, refl), g.2))

-- a row's trees, its brace and what follows
abbrev pub ARow : Bool → ℕ → List Token → Type 0
ARow second d ks = (ws : Rows) × (k : List Token) × (ks ≡ rows_tokens ws (tokens.Sign 125 ∷ k)) × AreProper second ws × Goes second d k

-- where nothing is open, only the end is left
pub none_open : (second : Bool) (d : ℕ) (k : List Token) → Goes second d k → d ≡ 0 → k ≡ tokens.Sign 59 ∷ []
none_open second d k (g_end d1 k1 z r) e = r
none_open second d k (g_leave d1 k1 f j z r g) e = absurd (omega (arith, z, e))
none_open second d k (g_tree d1 k1 v j z r pv g) e = absurd (omega (arith, z, e))

pub row_from : (second : Bool) (d : ℕ) (k : List Token) (e : ℕ) (w : Written) → Goes second d k → d ≡ e + 1 → IsProper second w → ARow second e (tree_tokens w k)
row_from second d k e w (g_end d1 k1 z r) q p = absurd (omega (arith, z, q))
row_from second d k e w (g_leave d1 k1 f j z r g) q p = (w_last w, j, ap (tree_tokens w) r, p, subst (λ n. Goes second n j) (let s : f ≡ e = omega (arith, z, q) in s) g)
row_from second d k e w (g_tree d1 k1 v j z r pv g) q p =
    let more = row_from second d j e v g q pv in
    (w_and w more.0, more.1, ap (tree_tokens w) (r ∙ more.2), (p, more.3), more.4)

abbrev pub ATree : Bool → ℕ → List Token → Type 0
ATree second d ks = (w : Written) × (k : List Token) × (ks ≡ tree_tokens w k) × IsProper second w × Goes second d k

-- a brace that closes a row
abbrev pub ABrace : Bool → Bool → ℕ → List Token → Type 0
ABrace second end d ks = (end ≡ true) × (e : ℕ) × (k : List Token) × (d ≡ e + 1) × (ks ≡ tokens.Sign 125 ∷ k) × Goes second e k

-- a multiplier has a sign only in `linear`
abbrev pub IsAllowed : Bool → Int → Type 0
IsAllowed true i = Unit {0}
IsAllowed false i = i.0 ≡ false

abbrev pub AreAllowed : Bool → List (ℕ × Int) → Type 0
AreAllowed signed [] = Unit {0}
AreAllowed signed (p ∷ ps) = IsAllowed signed p.1 × AreAllowed signed ps

abbrev pub AMore : Bool → Bool → ℕ → List Token → Type 0
AMore second signed d ks = (ps : List (ℕ × Int)) × (k : List Token) × (ks ≡ lines_tokens ps (tokens.Sign 93 ∷ k)) × AreAllowed signed ps × Goes second d k

abbrev pub AnInt : Bool → Bool → ℕ → List Token → Type 0
AnInt second signed d ks = (i : Int) × (k : List Token) × (ks ≡ int_tokens i k) × IsAllowed signed i × AMore second signed d k

abbrev pub APick : Bool → Bool → ℕ → List Token → Type 0
APick second signed d ks = (m : ℕ) × (k : List Token) × (ks ≡ tokens.Number (m + 1) ∷ tokens.Sign 42 ∷ k) × AnInt second signed d k

-- a cut, from its constant on and from a term on
abbrev pub AConstant : Bool → ℕ → List Token → Type 0
AConstant second d ks = (c : Int) × (k : List Token) × (ks ≡ int_tokens c (tokens.Sign 93 ∷ tokens.Sign 123 ∷ k)) × ARow second d k

abbrev pub SomeTerms : Bool → ℕ → ℕ → List Token → Type 0
SomeTerms second last d ks = (us : List (ℕ × Int)) × (k : List Token) × (ks ≡ more_terms us (tokens.Sign 59 ∷ k)) × AreTerms last us × AConstant second d k

abbrev pub AVariable : Bool → ℕ → ℕ → List Token → Type 0
AVariable second last d ks = (v : ℕ) × (k : List Token) × (ks ≡ tokens.Number (v + 1) ∷ k) × (last ≤ v) × SomeTerms second (v + 1) d k

abbrev pub AColon : Bool → ℕ → ℕ → List Token → Type 0
AColon second last d ks = (k : List Token) × (ks ≡ tokens.Sign 58 ∷ k) × AVariable second last d k

abbrev pub ACoefficient : Bool → Bool → ℕ → ℕ → List Token → Type 0
ACoefficient second true last d ks = (n : ℕ) × (k : List Token) × (ks ≡ tokens.Number n ∷ k) × (0 < n) × AColon second last d k
ACoefficient second false last d ks = (i : Int) × (k : List Token) × (ks ≡ int_tokens i k) × (0 < i.1) × AColon second last d k

abbrev pub AnEnd : Bool → Bool → ℕ → List Token → Type 0
AnEnd second first d ks = (first ≡ true) × (k : List Token) × (ks ≡ tokens.Sign 59 ∷ k) × AConstant second d k

abbrev pub Brackets : Bool → ℕ → List Token → Type 0
Brackets second d ks = (k : List Token) × (ks ≡ tokens.Sign 93 ∷ tokens.Sign 123 ∷ k) × ARow second d k

-- tokens that complete the block from inside of it
abbrev pub Completes : ℕ → Bool → Want → ℕ → List Token → Type 0
Completes number second (wants.Block header) d ks = Unit {0}
Completes number second wants.HeaderNumber d ks = Unit {0}
Completes number second wants.HeaderEnd d ks = Unit {0}
Completes number second wants.BlockNumber d ks = (k : List Token) × (ks ≡ tokens.Number number ∷ k) × ATree second d k
Completes number second (wants.Tree end) d ks = ATree second d ks ⊎ ABrace second end d ks
Completes number second (wants.Subject branching) d ks = (n : ℕ) × (k : List Token) × (ks ≡ tokens.Number (n + 1) ∷ tokens.Sign 123 ∷ k) × ARow second d k
Completes number second (wants.Branches branching n) d ks = (k : List Token) × (ks ≡ tokens.Sign 123 ∷ k) × ARow second d k
Completes number second (wants.Picks signed) d ks = (k : List Token) × (ks ≡ tokens.Sign 91 ∷ k) × APick second signed d k
Completes number second (wants.Row signed count) d ks = APick second signed d ks
Completes number second (wants.Times signed count row) d ks = (k : List Token) × (ks ≡ tokens.Sign 42 ∷ k) × AnInt second signed d k
Completes number second (wants.Multiplier signed count row) d ks = AnInt second signed d ks
Completes number second (wants.Negative count row) d ks = (n : ℕ) × (k : List Token) × (ks ≡ tokens.Number n ∷ k) × AMore second true d k
Completes number second (wants.MorePicks signed count) d ks = AMore second signed d ks
Completes number second wants.Terms d ks = (k : List Token) × (ks ≡ tokens.Sign 91 ∷ k) × (ACoefficient second false 0 d k ⊎ AnEnd second true d k)
Completes number second (wants.Coefficient first negative last) d ks = ACoefficient second negative last d ks ⊎ AnEnd second first d ks
Completes number second (wants.Colon negative size last) d ks = AColon second last d ks
Completes number second (wants.Variable negative size last) d ks = AVariable second last d ks
Completes number second (wants.MoreTerms last) d ks = SomeTerms second last d ks
Completes number second (wants.Constant true) d ks = (n : ℕ) × (k : List Token) × (ks ≡ tokens.Number n ∷ k) × Brackets second d k
Completes number second (wants.Constant false) d ks = AConstant second d ks
Completes number second (wants.ConstantEnd negative size) d ks = Brackets second d ks
Completes number second (wants.CutBranches negative size) d ks = (k : List Token) × (ks ≡ tokens.Sign 123 ∷ k) × ARow second d k
Completes number second wants.End d ks = ks ≡ tokens.Sign 59 ∷ []
Completes number second wants.Whole d ks = ks ≡ []

-- the shortest of each kind

a_row : (second : Bool) (d : ℕ) → (ks : List Token) × ARow second d ks × AreSpellable ks
a_row second d = let g = goes second d in (tokens.Word words.Absurd ∷ tokens.Sign 125 ∷ g.0, (w_last w_absurd, g.0, refl, tt, g.1), ((refl, refl, refl), g.2))

some_more : (second signed : Bool) (d : ℕ) → (ks : List Token) × AMore second signed d ks × AreSpellable ks
some_more second signed d = let g = goes second d in (tokens.Sign 93 ∷ g.0, ([], g.0, refl, tt, g.1), ((refl, refl, refl), g.2))

allowed : (signed : Bool) → IsAllowed signed (false, 0)
allowed true = tt
allowed false = refl

an_int : (second signed : Bool) (d : ℕ) → (ks : List Token) × AnInt second signed d ks × AreSpellable ks
an_int second signed d = let g = some_more second signed d in (tokens.Number 0 ∷ g.0, ((false, 0), g.0, refl, allowed signed, g.1), g.2)

a_pick : (second signed : Bool) (d : ℕ) → (ks : List Token) × APick second signed d ks × AreSpellable ks
a_pick second signed d = let g = an_int second signed d in (tokens.Number (0 + 1) ∷ tokens.Sign 42 ∷ g.0, (0, g.0, refl, g.1), ((refl, refl, refl), g.2))

brackets : (second : Bool) (d : ℕ) → (ks : List Token) × Brackets second d ks × AreSpellable ks
brackets second d = let g = a_row second d in (tokens.Sign 93 ∷ tokens.Sign 123 ∷ g.0, (g.0, refl, g.1), ((refl, refl, refl), ((refl, refl, refl), g.2)))

a_constant : (second : Bool) (d : ℕ) → (ks : List Token) × AConstant second d ks × AreSpellable ks
a_constant second d = let g = a_row second d in (tokens.Number 0 ∷ tokens.Sign 93 ∷ tokens.Sign 123 ∷ g.0, ((false, 0), g.0, refl, g.1), ((refl, refl, refl), ((refl, refl, refl), g.2)))

some_terms : (second : Bool) (last d : ℕ) → (ks : List Token) × SomeTerms second last d ks × AreSpellable ks
some_terms second last d = let g = a_constant second d in (tokens.Sign 59 ∷ g.0, ([], g.0, refl, tt, g.1), ((refl, refl, refl), g.2))

a_variable : (second : Bool) (last d : ℕ) → (ks : List Token) × AVariable second last d ks × AreSpellable ks
a_variable second last d = let g = some_terms second (last + 1) d in (tokens.Number (last + 1) ∷ g.0, (last, g.0, refl, omega arith, g.1), g.2)

a_colon : (second : Bool) (last d : ℕ) → (ks : List Token) × AColon second last d ks × AreSpellable ks
a_colon second last d = let g = a_variable second last d in (tokens.Sign 58 ∷ g.0, (g.0, refl, g.1), ((refl, refl, refl), g.2))

a_coefficient : (second negative : Bool) (last d : ℕ) → (ks : List Token) × ACoefficient second negative last d ks × AreSpellable ks
a_coefficient second true last d = let g = a_colon second last d in (tokens.Number 1 ∷ g.0, (1, g.0, refl, omega arith, g.1), g.2)
a_coefficient second false last d = let g = a_colon second last d in (tokens.Number 1 ∷ g.0, ((false, 1), g.0, refl, omega arith, g.1), g.2)

pub ending : (number : ℕ) (second : Bool) (want : Want) (d : ℕ) → (ks : List Token) × Completes number second want d ks × AreSpellable ks
ending number second (wants.Block header) d = ([], tt, tt)
ending number second wants.HeaderNumber d = ([], tt, tt)
ending number second wants.HeaderEnd d = ([], tt, tt)
ending number second wants.BlockNumber d = let g = goes second d in (tokens.Number number ∷ tokens.Word words.Absurd ∷ g.0, (tokens.Word words.Absurd ∷ g.0, refl, (w_absurd, g.0, refl, tt, g.1)), g.2)
ending number second (wants.Tree end) d = let g = goes second d in (tokens.Word words.Absurd ∷ g.0, inl (w_absurd, g.0, refl, tt, g.1), g.2)
ending number second (wants.Subject branching) d = let g = a_row second d in (tokens.Number (0 + 1) ∷ tokens.Sign 123 ∷ g.0, (0, g.0, refl, g.1), ((refl, refl, refl), g.2))
ending number second (wants.Branches branching n) d = let g = a_row second d in (tokens.Sign 123 ∷ g.0, (g.0, refl, g.1), ((refl, refl, refl), g.2))
ending number second (wants.Picks signed) d = let g = a_pick second signed d in (tokens.Sign 91 ∷ g.0, (g.0, refl, g.1), ((refl, refl, refl), g.2))
ending number second (wants.Row signed count) d = a_pick second signed d
ending number second (wants.Times signed count row) d = let g = an_int second signed d in (tokens.Sign 42 ∷ g.0, (g.0, refl, g.1), ((refl, refl, refl), g.2))
ending number second (wants.Multiplier signed count row) d = an_int second signed d
ending number second (wants.Negative count row) d = let g = some_more second true d in (tokens.Number 0 ∷ g.0, (0, g.0, refl, g.1), g.2)
ending number second (wants.MorePicks signed count) d = some_more second signed d
ending number second wants.Terms d = let g = a_coefficient second false 0 d in (tokens.Sign 91 ∷ g.0, (g.0, refl, inl g.1), ((refl, refl, refl), g.2))
ending number second (wants.Coefficient first negative last) d = let g = a_coefficient second negative last d in (g.0, inl g.1, g.2)
ending number second (wants.Colon negative size last) d = a_colon second last d
ending number second (wants.Variable negative size last) d = a_variable second last d
ending number second (wants.MoreTerms last) d = some_terms second last d
ending number second (wants.Constant true) d = let g = brackets second d in (tokens.Number 0 ∷ g.0, (0, g.0, refl, g.1), g.2)
ending number second (wants.Constant false) d = a_constant second d
ending number second (wants.ConstantEnd negative size) d = brackets second d
ending number second (wants.CutBranches negative size) d = let g = a_row second d in (tokens.Sign 123 ∷ g.0, (g.0, refl, g.1), ((refl, refl, refl), g.2))
ending number second wants.End d = (tokens.Sign 59 ∷ [], refl, ((refl, refl, refl), tt))
ending number second wants.Whole d = ([], refl, tt)

-- unless the block is whole there is a token in it
abbrev pub IsStarted : List Token → Type 0
IsStarted ks = (t : Token) × (more : List Token) × (ks ≡ t ∷ more)

no_truth : false ≡ true → ⊥
no_truth h = cc

a_start : (second negative : Bool) (last d : ℕ) → IsStarted (a_coefficient second negative last d).0
unfolding a_coefficient
a_start second true last d = (_, _, refl)
a_start second false last d = (_, _, refl)

pub ending_starts : (number : ℕ) (second : Bool) (want : Want) (d : ℕ) → is_inside want ≡ true → is_whole want ≡ false → IsStarted (ending number second want d).0
unfolding ending a_pick an_int some_more a_colon a_variable some_terms a_constant brackets
ending_starts number second (wants.Block header) d i w = absurd (no_truth i)
ending_starts number second wants.HeaderNumber d i w = absurd (no_truth i)
ending_starts number second wants.HeaderEnd d i w = absurd (no_truth i)
ending_starts number second (wants.Coefficient first negative last) d i w = a_start second negative last d
ending_starts number second (wants.Constant true) d i w = (_, _, refl)
ending_starts number second (wants.Constant false) d i w = (_, _, refl)
ending_starts number second wants.Whole d i w = absurd (no_truth (sym w))
ending_starts number second _ d i w = (_, _, refl)
