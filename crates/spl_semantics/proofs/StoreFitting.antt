-- Whether a store fits, datum by datum.
use Rattle.std.proofs.Common.{◌≡◌, ◌∙◌, ap, sym, refl, arith, ℕ, Bool, true, false, not, ◌+◌, ◌<◌, ◌≤◌, List, ◌∷◌, length, map, drop, get_or}
use Rattle.std.proofs.lemmas.List.{drop_more, length-map, drop_all}
use mathlib.Core.Bool.{beq}
use Rattle.st_form.specs.declared.variables.Variable.{Variable}
use Rattle.st_program.specs.declared.residuals.Datum.{Datum}
use Rattle.spl_semantics.specs.Data.{StoreFits, is_boolean, types}

abbrev truths : List Variable → List Bool
truths vs = map (λ v. v.truth) vs

next-types : (ds : List Datum) (i : ℕ) (d : Datum) → i < length ds → types (drop i ds) ≡ is_boolean (get_or ds i d) ∷ types (drop (i + 1) ds)
next-types ds i d below = ap types (drop_more ds i d below)

next-truths : (vs : List Variable) (i : ℕ) (v : Variable) → i < length vs → truths (drop i vs) ≡ (get_or vs i v).truth ∷ truths (drop (i + 1) vs)
next-truths vs i v below = ap truths (drop_more vs i v below)

by-beq : (a b : Bool) → not (beq a b) ≡ false → a ≡ b
by-beq true true h = refl
by-beq false false h = refl
by-beq true false h = cc
by-beq false true h = cc

by-not-beq : (a b : Bool) → not (beq a b) ≡ true → a ≡ b → ⊥
by-not-beq true true h same = cc
by-not-beq false false h same = cc
by-not-beq true false h same = cc
by-not-beq false true h same = cc

heads : (a b : Bool) (xs ys : List Bool) → a ∷ xs ≡ b ∷ ys → (b ≡ a) × (xs ≡ ys)
heads a b xs ys same = ((let head : b ≡ a = cc in head), (let tail : xs ≡ ys = cc in tail))

-- as far as the rest fits and the first datum has its type, all fits
pub grown-fits : (vs : List Variable) (ds : List Datum) (i : ℕ) (v : Variable) (d : Datum) (b : Bool) → length vs ≡ length ds → i < length ds → b ≡ is_boolean (get_or ds i d) → not (beq (get_or vs i v).truth b) ≡ false
    → StoreFits (drop (i + 1) vs) (drop (i + 1) ds) → StoreFits (drop i vs) (drop i ds)
grown-fits vs ds i v d b same below is typed rest =
    next-types ds i d below ∙ ap (λ x. x ∷ types (drop (i + 1) ds)) (sym is ∙ sym (by-beq _ _ typed)) ∙ ap (λ bs. (get_or vs i v).truth ∷ bs) rest ∙ sym (next-truths vs i v (omega (arith, same, below)))

parts : (vs : List Variable) (ds : List Datum) (i : ℕ) (v : Variable) (d : Datum) → length vs ≡ length ds → i < length ds
    → StoreFits (drop i vs) (drop i ds) → ((get_or vs i v).truth ≡ is_boolean (get_or ds i d)) × StoreFits (drop (i + 1) vs) (drop (i + 1) ds)
parts vs ds i v d same below fits =
    heads (is_boolean (get_or ds i d)) (get_or vs i v).truth (types (drop (i + 1) ds)) (truths (drop (i + 1) vs)) (sym (next-types ds i d below) ∙ fits ∙ next-truths vs i v (omega (arith, same, below)))

-- where all fits, the rest fits
pub rest-fits : (vs : List Variable) (ds : List Datum) (i : ℕ) (v : Variable) (d : Datum) → length vs ≡ length ds → i < length ds → StoreFits (drop i vs) (drop i ds) → StoreFits (drop (i + 1) vs) (drop (i + 1) ds)
rest-fits vs ds i v d same below fits = (parts vs ds i v d same below fits).1

-- where the first datum has another type, not all fits
pub other-type : (vs : List Variable) (ds : List Datum) (i : ℕ) (v : Variable) (d : Datum) (b : Bool) → length vs ≡ length ds → i < length ds → b ≡ is_boolean (get_or ds i d) → not (beq (get_or vs i v).truth b) ≡ true → StoreFits (drop i vs) (drop i ds) → ⊥
other-type vs ds i v d b same below is other fits = by-not-beq _ _ other ((parts vs ds i v d same below fits).0 ∙ sym is)

pub none-fit : (vs : List Variable) (ds : List Datum) (i : ℕ) → length vs ≡ length ds → length ds ≤ i → StoreFits (drop i vs) (drop i ds)
none-fit vs ds i same past = ap types (drop_all i ds past) ∙ sym (ap truths (drop_all i vs (omega (arith, same, past))))

pub same-length : (vs : List Variable) (ds : List Datum) → StoreFits vs ds → length vs ≡ length ds
same-length vs ds fits = sym (length-map vs (λ v. v.truth)) ∙ ap length (sym fits) ∙ length-map ds is_boolean
