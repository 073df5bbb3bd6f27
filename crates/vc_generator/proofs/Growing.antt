-- Appending one condition after another.
use Rattle.std.proofs.Common.{◌≡◌, ◌∙◌, ap, sym, subst, refl, ℕ, ◌+◌, List, [], ◌∷◌, ◌++◌, append_assoc, append-nil, ◌<◌, length, map, take, drop, get_or, Option, Some, None, Result, Ok, Err}
use Rattle.std.specs.Result.{IsErr, IsOk}
use Rattle.std.proofs.lemmas.Option.{none-some}
use Rattle.std.proofs.lemmas.List.{drop_more}
use Rattle.st_form.specs.Condition.{Implication}
use Rattle.vc_generator.specs.Building.{Draft}
use Rattle.vc_generator.specs.declared.faults.VcFault.{VcFault}
use Rattle.vc_generator.specs.declared.faults.VcFault.TheVariants as faults
use Rattle.vc_generator.specs.Walks.{numbered_from}
use Rattle.vc_generator.specs.Refusing.{refusal, refusals, else_refusal, Refuses, Appends, AppendsAll, Begins, Grows}

abbrev pub conditions : List Draft → List Implication
conditions ds = map (λ d. d.condition) ds

pub conditions-append : (ds es : List Draft) → conditions (ds ++ es) ≡ conditions ds ++ conditions es
conditions-append [] es = refl
conditions-append (d ∷ ds) es = ap (λ cs. d.condition ∷ cs) (conditions-append ds es)

-- nothing is refused of the first ones: the others are asked behind them
none-by : (o : Option VcFault) (rest whole : Option VcFault) → else_refusal o rest ≡ None → (rest ≡ None → whole ≡ rest) → o ≡ None
none-by None rest whole e f = refl
none-by (Some fault) rest whole e f = absurd (none-some fault (sym e))

first-none : (o rest : Option VcFault) → else_refusal o rest ≡ None → (o ≡ None) × (rest ≡ None)
first-none None rest e = (refl, e)
first-none (Some fault) rest e = absurd (none-some fault (sym e))

pub refusals-then : (old : List Implication) (ds es : List Draft) → refusals old ds ≡ None → refusals old (ds ++ es) ≡ refusals (old ++ conditions ds) es
refusals-then old [] es none = ap (λ cs. refusals cs es) (sym (append-nil old))
refusals-then old (d ∷ ds) es none =
    let both = first-none (refusal old d) (refusals (old ++ d.condition ∷ []) ds) none in
    ap (λ o. else_refusal o (refusals (old ++ d.condition ∷ []) (ds ++ es))) both.0
    ∙ refusals-then (old ++ d.condition ∷ []) ds es both.1
    ∙ ap (λ cs. refusals cs es) (append_assoc old (d.condition ∷ []) (conditions ds))

else-some : (o rest more : Option VcFault) (fault : VcFault) → else_refusal o rest ≡ Some fault → (rest ≡ Some fault → more ≡ Some fault) → else_refusal o more ≡ Some fault
else-some None rest more fault e f = f e
else-some (Some g) rest more fault e f = e

pub refusals-first : (old : List Implication) (ds es : List Draft) (fault : VcFault) → refusals old ds ≡ Some fault → refusals old (ds ++ es) ≡ Some fault
refusals-first old [] es fault e = absurd (none-some fault e)
refusals-first old (d ∷ ds) es fault e =
    else-some (refusal old d) (refusals (old ++ d.condition ∷ []) ds) (refusals (old ++ d.condition ∷ []) (ds ++ es)) fault e (refusals-first (old ++ d.condition ∷ []) ds es fault)

refuses-first : (old : List Implication) (ds es : List Draft) (fault : VcFault) → Refuses fault (refusals old ds) → Refuses fault (refusals old (ds ++ es))
refuses-first old ds es faults.Memory r = tt
refuses-first old ds es faults.TooMany r = refusals-first old ds es faults.TooMany r
refuses-first old ds es faults.TooWide r = refusals-first old ds es faults.TooWide r
refuses-first old ds es faults.TooHeavy r = refusals-first old ds es faults.TooHeavy r

-- what is left to append: the whole is asked and appended exactly as what is left is, from here
pub record Left (old now : List Implication) (all left : List Draft) : Type 0 where
  pub asks : refusals now left ≡ refusals old all
  pub gives : now ++ conditions left ≡ old ++ conditions all
  pub begins : Begins old now

take-whole : {A : Type 0} (xs : List A) → take (length xs) xs ≡ xs
take-whole [] = refl
take-whole (x ∷ xs) = ap (λ ys. x ∷ ys) (take-whole xs)

take-more : {A : Type 0} (xs ys : List A) → take (length xs) (xs ++ ys) ≡ xs
take-more [] ys = refl
take-more (x ∷ xs) ys = ap (λ zs. x ∷ zs) (take-more xs ys)

begins-longer : (old now new : List Implication) → Begins old now → Begins now new → Begins old new
begins-longer [] now new a b = refl
begins-longer (o ∷ os) [] new a b = cc
begins-longer (o ∷ os) (n ∷ ns) [] a b = cc
begins-longer (o ∷ os) (n ∷ ns) (x ∷ xs) a b =
    let head : n ≡ o = cc in
    let head' : x ≡ n = cc in
    let tail : take (length os) ns ≡ os = cc in
    let tail' : take (length ns) xs ≡ ns = cc in
    ap (λ y. y ∷ take (length os) xs) (head' ∙ head) ∙ ap (λ ys. o ∷ ys) (begins-longer os ns xs tail tail')

pub left-all : (old : List Implication) (all : List Draft) → Left old old all all
left-all old all = record { asks = refl; gives = refl; begins = take-whole old }

-- the next ones were appended
pub left-on : (old now new : List Implication) (all ds es : List Draft) → Left old now all (ds ++ es) → refusals now ds ≡ None → new ≡ now ++ conditions ds → Left old new all es
left-on old now new all ds es left none is =
    let grown = ap (λ cs. refusals cs es) is ∙ sym (refusals-then now ds es none) in
    let same = ap (λ cs. cs ++ conditions es) is ∙ append_assoc now (conditions ds) (conditions es) ∙ ap (λ cs. now ++ cs) (sym (conditions-append ds es)) in
    record {
      asks = grown ∙ left.asks;
      gives = same ∙ left.gives;
      begins = begins-longer old now new left.begins (subst (Begins now) (sym is) (take-more now (conditions ds)));
    }

-- one of the next ones was refused
pub left-refused : (old now new : List Implication) (all ds es : List Draft) (fault : VcFault) → Left old now all (ds ++ es) → Refuses fault (refusals now ds) → Begins now new → Grows (Err fault) old new all
left-refused old now new all ds es fault left refused begins =
    (subst (Refuses fault) left.asks (refuses-first now ds es fault refused), begins-longer old now new left.begins begins)

-- all were appended
pub left-none : (old now : List Implication) (all : List Draft) (x : Unit {0}) → Left old now all [] → Grows (Ok x) old now all
left-none old now all x left = (sym left.asks, sym (append-nil now) ∙ left.gives)

-- one condition
pub appends_one : (r : Result (Unit {0}) VcFault) (old new : List Implication) (d : Draft) → Appends r old new d → Grows r old new (d ∷ [])
appends_one (Ok x) old new d a = (ap (λ o. else_refusal o None) a.0, a.1)
appends_one (Err fault) old new d a = (subst (Refuses fault) (sym (else-nothing (refusal old d))) a.0, subst (Begins old) (sym a.1) (take-whole old))
  where
    else-nothing : (o : Option VcFault) → else_refusal o None ≡ o
    else-nothing None = refl
    else-nothing (Some f) = refl

-- the next item of a walk
pub left-next : {A B : Type 0} (view : A → B) (f : ℕ → B → List Draft) (n i : ℕ) (xs : List A) (x : A) (old now : List Implication) (all : List Draft) → i < length xs → x ≡ get_or xs i x
    → Left old now all (numbered_from f n (map view (drop i xs))) → Left old now all (f n (view x) ++ numbered_from f (n + 1) (map view (drop (i + 1) xs)))
left-next view f n i xs x old now all below is left =
    let next = drop_more xs i x below in
    subst (Left old now all) (ap (λ ys. numbered_from f n (map view ys)) next ∙ ap (λ y. f n (view y) ++ numbered_from f (n + 1) (map view (drop (i + 1) xs))) (sym is)) left

-- one condition, and then others
pub one_then : (r : Result (Unit {0}) VcFault) (old mid new : List Implication) (d : Draft) (ds : List Draft) → refusal old d ≡ None → mid ≡ old ++ d.condition ∷ [] → Grows r mid new ds → Grows r old new (d ∷ ds)
one_then (Ok x) old mid new d ds none is grows = (
  ap (λ o. else_refusal o (refusals (old ++ d.condition ∷ []) ds)) none ∙ ap (λ cs. refusals cs ds) (sym is) ∙ grows.0,
  grows.1 ∙ ap (λ cs. cs ++ conditions ds) is ∙ append_assoc old (d.condition ∷ []) (conditions ds),
)
one_then (Err fault) old mid new d ds none is grows = (
  subst (Refuses fault) (sym (ap (λ o. else_refusal o (refusals (old ++ d.condition ∷ []) ds)) none ∙ ap (λ cs. refusals cs ds) (sym is))) grows.0,
  begins-longer old mid new (subst (Begins old) (sym is) (take-more old (d.condition ∷ []))) grows.1,
)

-- the list is taken back after a refusal
pub taken_back : (r : Result (Unit {0}) VcFault) (old mid new : List Implication) (ds : List Draft) → Grows r old mid ds → (IsErr r → new ≡ take (length old) mid) → (IsOk r → new ≡ mid) → AppendsAll r old new ds
taken_back (Ok x) old mid new ds grows back kept = (grows.0, kept refl ∙ grows.1)
taken_back (Err fault) old mid new ds grows back kept = (grows.0, back refl ∙ grows.1)

-- some conditions, and then others
pub grow-both : (r : Result (Unit {0}) VcFault) (old mid new : List Implication) (ds es : List Draft) → refusals old ds ≡ None → mid ≡ old ++ conditions ds → Grows r mid new es → Grows r old new (ds ++ es)
grow-both (Ok x) old mid new ds es none is grows = (
  refusals-then old ds es none ∙ ap (λ cs. refusals cs es) (sym is) ∙ grows.0,
  grows.1 ∙ ap (λ cs. cs ++ conditions es) is ∙ append_assoc old (conditions ds) (conditions es) ∙ ap (λ cs. old ++ cs) (sym (conditions-append ds es)),
)
grow-both (Err fault) old mid new ds es none is grows = left-refused old mid new (ds ++ es) es [] fault (left-es old mid ds es none is) (grows.0) grows.1
  where
    left-es : (old mid : List Implication) (ds es : List Draft) → refusals old ds ≡ None → mid ≡ old ++ conditions ds → Left old mid (ds ++ es) (es ++ [])
    left-es old mid ds es none is = left-on old old mid (ds ++ es) ds (es ++ []) (subst (Left old old (ds ++ es)) (ap (λ zs. ds ++ zs) (sym (append-nil es))) (left-all old (ds ++ es))) none is

-- a refusal among the first conditions refuses all
pub refused-among-the-first : (fault : VcFault) (old new : List Implication) (ds es : List Draft) → Grows (Err fault) old new ds → Grows (Err fault) old new (ds ++ es)
refused-among-the-first fault old new ds es grows = left-refused old old new (ds ++ es) ds es fault (left-all old (ds ++ es)) grows.0 grows.1
