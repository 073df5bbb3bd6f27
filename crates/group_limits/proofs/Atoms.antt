-- Where a group is refused for its atoms, some path has too many, and the other way round.
use Rattle.std.proofs.Common.{◌≡◌, ℕ, ◌≤◌, ◌<◌, nat_le, Bool, true, false, cond, List, [], ◌∷◌, ◌++◌, length, Option, Some, None, Result, Ok, Err, refl, sym, ap, subst, ◌∙◌, arith}
use Rattle.std.proofs.lemmas.Bool.Decides.{nat_tests}
use Rattle.st_linear.specs.Linear.{Linear, replaced}
use Rattle.st_form.specs.Formula.{Formula, formulas, atoms, atoms_of}
use Rattle.st_form.specs.Exchange.{Exchange, exchanged}
use Rattle.st_program.specs.Tree.{Term, number, truth, Pieces}
use Rattle.st_program.specs.Groups.{Link, tested, given, paths_along, signed}
use Rattle.st_tokens.specs.declared.limit.LimitKind.{LimitKind}
use Rattle.st_tokens.specs.declared.limit.LimitKind.TheVariants as limits
use Rattle.expression_typer.specs.declared.fault.TypeFault.{TypeFault}
use Rattle.expression_typer.specs.declared.fault.TypeFault.TheVariants as faults
use Rattle.expression_typer.specs.Answers.{◌>>=◌}
use Rattle.expression_typer.specs.Written.{is_writable, limited}
use Rattle.spl_typer.specs.Groups.{Composition, Numbers, nothing, large_unless, limit_unless, composed_number, composed_formula, few, term_on, terms_on, put_all, met, guarded, link_on, path_on, all_small, with_path, with_paths, grouped}
use Rattle.group_limits.specs.Weights.{AreComposed}
use Rattle.group_limits.specs.Atoms.{IsHeavySide, IsHeavyGuard, IsHeavyLink, IsHeavyPath, HasHeavyPath, AtomsRefuse}
use Rattle.group_limits.proofs.Paths.{ways_along_count}

abbrev atoms_fault : ℕ → TypeFault
atoms_fault place = faults.Limit limits.Atoms place

abbrev is_of_atoms : LimitKind → Bool
is_of_atoms limits.Atoms = true
is_of_atoms _ = false

abbrev tells_atoms : TypeFault → Bool
tells_atoms (faults.Limit kind place) = is_of_atoms kind
tells_atoms _ = false

-- a fault for atoms shows this
abbrev Shows : {A : Type 0} → Type 0 → Result A TypeFault → Type 0
Shows P (Ok x) = Unit {0}
Shows P (Err f) = tells_atoms f ≡ true → P

shows_bind : {A B : Type 0} (P : Type 0) (r : Result A TypeFault) (k : A → Result B TypeFault) → Shows P r → ((x : A) → r ≡ Ok x → Shows P (k x)) → Shows P (r >>= k)
shows_bind P (Ok x) k h go = go x refl
shows_bind P (Err f) k h go = h

weaken : {A : Type 0} (P Q : Type 0) (r : Result A TypeFault) → (P → Q) → Shows P r → Shows Q r
weaken P Q (Ok x) go h = tt
weaken P Q (Err f) go h = λ e. go (h e)

other : true ≡ false → ⊥
other e = cc

large_shows : {A : Type 0} (P : Type 0) (at : ℕ) (o : Option A) → Shows P (large_unless at o)
large_shows P at None = λ e. absurd (other (sym e))
large_shows P at (Some x) = tt

limited_shows : (P : Type 0) (at : ℕ) (f : Linear) → Shows P (limited at f)
limited_shows P at f = go (is_writable f)
  where
    go : (b : Bool) → Shows P (cond b (Ok f) (Err (faults.TooLarge at)))
    go true = tt
    go false = λ e. absurd (other (sym e))

number_shows : (P : Type 0) (at : ℕ) (ns : Numbers) (f : Linear) → Shows P (composed_number at ns f)
number_shows P at ns f = shows_bind P (large_unless at (replaced ns f)) (λ g. limited at g) (large_shows P at (replaced ns f)) (λ g e. limited_shows P at g)

past : (n m : ℕ) → nat_le n m ≡ false → m < n
past n m e = grind (arith, nat_tests)

is_there : {A : Type 0} (at : ℕ) (o : Option A) (x : A) → large_unless at o ≡ Ok x → o ≡ Some x
is_there at None x e = absurd cc
is_there at (Some y) x e = cc

-- RIGHT SIDES
record IsHeavyTerm (change : Exchange) (t : Term) : Type 0 where
  value : Formula
  is_truth : t ≡ truth value
  composed : Formula
  is : exchanged change value ≡ Some composed
  many : 2048 < atoms composed

few_shows : (at : ℕ) (g : Formula) → Shows (2048 < atoms g) (few at g)
few_shows at g = go (nat_le (atoms g) 2048) refl
  where
    go : (b : Bool) → nat_le (atoms g) 2048 ≡ b → Shows (2048 < atoms g) (cond b (Ok g) (Err (faults.Limit limits.Atoms at)))
    go true e = tt
    go false e = λ i. past (atoms g) 2048 e

term_shows : (at : ℕ) (change : Exchange) (t : Term) → Shows (IsHeavyTerm change t) (term_on at change t)
term_shows at change (number f) =
    shows_bind (IsHeavyTerm change (number f)) (composed_number at change.numbers f) (λ g. Ok (number g)) (number_shows (IsHeavyTerm change (number f)) at change.numbers f) (λ g e. tt)
term_shows at change (truth f) =
    shows_bind (IsHeavyTerm change (truth f)) (composed_formula at change f) (λ g. few at g >>= λ h. Ok (truth h)) (large_shows (IsHeavyTerm change (truth f)) at (exchanged change f))
    (λ g e. shows_bind (IsHeavyTerm change (truth f)) (few at g) (λ h. Ok (truth h))
    (weaken (2048 < atoms g) (IsHeavyTerm change (truth f)) (few at g) (λ m. record { value = f; is_truth = refl; composed = g; is = is_there at (exchanged change f) g e; many = m }) (few_shows at g)) (λ h i. tt))

-- the same behind right sides that are done
record HeavyFrom (at : ℕ) (change : Exchange) (done xs : List (ℕ × Term)) : Type 0 where
  front : List (ℕ × Term)
  variable : ℕ
  value : Formula
  rest : List (ℕ × Term)
  cut : xs ≡ front ++ (variable, truth value) ∷ rest
  before : List (ℕ × Term)
  fine : terms_on at change done front ≡ Ok before
  composed : Formula
  is : exchanged change value ≡ Some composed
  many : 2048 < atoms composed

heavy_first : (at : ℕ) (change : Exchange) (done : List (ℕ × Term)) (x : ℕ × Term) (xs : List (ℕ × Term)) → IsHeavyTerm change x.1 → HeavyFrom at change done (x ∷ xs)
heavy_first at change done x xs h =
    record { front = []; variable = x.0; value = h.value; rest = xs; cut = ap (λ (t : Term). (x.0, t) ∷ xs) h.is_truth; before = done; fine = refl; composed = h.composed; is = h.is; many = h.many }

heavy_later : (at : ℕ) (change : Exchange) (done : List (ℕ × Term)) (x : ℕ × Term) (t : Term) (xs : List (ℕ × Term)) → term_on at change x.1 ≡ Ok t → HeavyFrom at change (done ++ (x.0, t) ∷ []) xs → HeavyFrom at change done (x ∷ xs)
heavy_later at change done x t xs e h = record {
  front = x ∷ h.front;
  variable = h.variable;
  value = h.value;
  rest = h.rest;
  cut = ap (λ l. x ∷ l) h.cut;
  before = h.before;
  fine = ap (λ (r : Result Term TypeFault). r >>= λ u. terms_on at change (done ++ (x.0, u) ∷ []) h.front) e ∙ h.fine;
  composed = h.composed;
  is = h.is;
  many = h.many;
}

terms_show : (at : ℕ) (change : Exchange) (done xs : List (ℕ × Term)) → Shows (HeavyFrom at change done xs) (terms_on at change done xs)
terms_show at change done [] = tt
terms_show at change done (x ∷ xs) =
    shows_bind (HeavyFrom at change done (x ∷ xs)) (term_on at change x.1) (λ t. terms_on at change (done ++ (x.0, t) ∷ []) xs)
    (weaken (IsHeavyTerm change x.1) (HeavyFrom at change done (x ∷ xs)) (term_on at change x.1) (heavy_first at change done x xs) (term_shows at change x.1))
    (λ t e. weaken (HeavyFrom at change (done ++ (x.0, t) ∷ []) xs) (HeavyFrom at change done (x ∷ xs)) (terms_on at change (done ++ (x.0, t) ∷ []) xs) (heavy_later at change done x t xs e) (terms_show at change (done ++ (x.0, t) ∷ []) xs))

side_of : (at : ℕ) (change : Exchange) (xs : List (ℕ × Term)) → HeavyFrom at change [] xs → IsHeavySide at change xs
side_of at change xs h = record { front = h.front; variable = h.variable; value = h.value; rest = h.rest; cut = h.cut; before = h.before; fine = h.fine; composed = h.composed; is = h.is; many = h.many }

-- PATHS
guarded_shows : (at : ℕ) (c : Composition) → Shows (2048 < atoms_of (formulas c.tests)) (guarded at c)
guarded_shows at c = go (nat_le (atoms_of (formulas c.tests)) 2048) refl
  where
    go : (b : Bool) → nat_le (atoms_of (formulas c.tests)) 2048 ≡ b → Shows (2048 < atoms_of (formulas c.tests)) (cond b (Ok c) (Err (faults.Limit limits.Atoms at)))
    go true e = tt
    go false e = λ i. past (atoms_of (formulas c.tests)) 2048 e

link_shows : (at : ℕ) (link : Link) (c : Composition) → Shows (IsHeavyLink at c link) (link_on at link c)
link_shows at (tested f b) c =
    shows_bind (IsHeavyGuard c f b) (composed_formula at c.change f) (λ g. guarded at (met (signed b g) c)) (large_shows (IsHeavyGuard c f b) at (exchanged c.change f))
    (λ g e. weaken (2048 < atoms_of (formulas (c.tests ++ signed b g ∷ []))) (IsHeavyGuard c f b) (guarded at (met (signed b g) c))
    (λ m. record { composed = g; is = is_there at (exchanged c.change f) g e; many = m }) (guarded_shows at (met (signed b g) c)))
link_shows at (given xs) c =
    shows_bind (IsHeavySide at c.change xs) (terms_on at c.change [] xs) (λ new. Ok (put_all new c))
    (weaken (HeavyFrom at c.change [] xs) (IsHeavySide at c.change xs) (terms_on at c.change [] xs) (side_of at c.change xs) (terms_show at c.change [] xs)) (λ new e. tt)

record HeavyOn (at : ℕ) (c : Composition) (path : List Link) : Type 0 where
  front : List Link
  link : Link
  rest : List Link
  cut : path ≡ front ++ link ∷ rest
  before : Composition
  fine : path_on at front c ≡ Ok before
  heavy : IsHeavyLink at before link

later_on : (at : ℕ) (c d : Composition) (link : Link) (path : List Link) → link_on at link c ≡ Ok d → HeavyOn at d path → HeavyOn at c (link ∷ path)
later_on at c d link path e h = record {
  front = link ∷ h.front;
  link = h.link;
  rest = h.rest;
  cut = ap (λ l. link ∷ l) h.cut;
  before = h.before;
  fine = ap (λ (r : Result Composition TypeFault). r >>= λ u. path_on at h.front u) e ∙ h.fine;
  heavy = h.heavy;
}

path_shows : (at : ℕ) (path : List Link) (c : Composition) → Shows (HeavyOn at c path) (path_on at path c)
path_shows at [] c = tt
path_shows at (link ∷ path) c =
    shows_bind (HeavyOn at c (link ∷ path)) (link_on at link c) (λ d. path_on at path d)
    (weaken (IsHeavyLink at c link) (HeavyOn at c (link ∷ path)) (link_on at link c) (λ h. record { front = []; link = link; rest = path; cut = refl; before = c; fine = refl; heavy = h }) (link_shows at link c))
    (λ d e. weaken (HeavyOn at d path) (HeavyOn at c (link ∷ path)) (path_on at path d) (later_on at c d link path e) (path_shows at path d))

path_of : (at : ℕ) (path : List Link) → HeavyOn at nothing path → IsHeavyPath at path
path_of at path h = record { front = h.front; link = h.link; rest = h.rest; cut = h.cut; before = h.before; fine = h.fine; heavy = h.heavy }

later_among : (at : ℕ) (path : List Link) (c : Composition) (paths : List (List Link)) → path_on at path nothing ≡ Ok c → HasHeavyPath at paths → HasHeavyPath at (path ∷ paths)
later_among at path c paths e h = record { front = path ∷ h.front; path = h.path; rest = h.rest; cut = ap (λ l. path ∷ l) h.cut; before = c ∷ h.before; fine = (e, h.fine); heavy = h.heavy }

paths_show : (at : ℕ) (paths : List (List Link)) (w : ℕ) → Shows (HasHeavyPath at paths) (with_paths at paths w)
paths_show at [] w = tt
paths_show at (path ∷ paths) w =
    shows_bind (HasHeavyPath at (path ∷ paths)) (path_on at path nothing) (λ c. with_paths at paths (with_path w c))
    (weaken (HeavyOn at nothing path) (HasHeavyPath at (path ∷ paths)) (path_on at path nothing)
    (λ h. record { front = []; path = path; rest = paths; cut = refl; before = []; fine = refl; heavy = path_of at path h }) (path_shows at path nothing))
    (λ c e. weaken (HasHeavyPath at paths) (HasHeavyPath at (path ∷ paths)) (with_paths at paths (with_path w c)) (later_among at path c paths e) (paths_show at paths (with_path w c)))

-- THE OTHER WAY ROUND
bind_assoc : {A B C : Type 0} (r : Result A TypeFault) (f : A → Result B TypeFault) (g : B → Result C TypeFault) → ((r >>= f) >>= g) ≡ (r >>= λ x. f x >>= g)
bind_assoc (Ok x) f g = refl
bind_assoc (Err e) f g = refl

bind_same : {A B : Type 0} (r : Result A TypeFault) (f g : A → Result B TypeFault) → ((x : A) → f x ≡ g x) → (r >>= f) ≡ (r >>= g)
bind_same (Ok x) f g h = h x
bind_same (Err e) f g h = refl

terms_append : (at : ℕ) (change : Exchange) (done xs ys : List (ℕ × Term)) → terms_on at change done (xs ++ ys) ≡ (terms_on at change done xs >>= λ new. terms_on at change new ys)
terms_append at change done [] ys = refl
terms_append at change done (x ∷ xs) ys =
    bind_same (term_on at change x.1) (λ t. terms_on at change (done ++ (x.0, t) ∷ []) (xs ++ ys)) (λ t. terms_on at change (done ++ (x.0, t) ∷ []) xs >>= λ new. terms_on at change new ys)
    (λ t. terms_append at change (done ++ (x.0, t) ∷ []) xs ys)
    ∙ sym (bind_assoc (term_on at change x.1) (λ t. terms_on at change (done ++ (x.0, t) ∷ []) xs) (λ new. terms_on at change new ys))

path_append : (at : ℕ) (xs ys : List Link) (c : Composition) → path_on at (xs ++ ys) c ≡ (path_on at xs c >>= λ d. path_on at ys d)
path_append at [] ys c = refl
path_append at (x ∷ xs) ys c =
    bind_same (link_on at x c) (λ d. path_on at (xs ++ ys) d) (λ d. path_on at xs d >>= λ e. path_on at ys e) (λ d. path_append at xs ys d)
    ∙ sym (bind_assoc (link_on at x c) (λ d. path_on at xs d) (λ e. path_on at ys e))

not_few : (n m : ℕ) → m < n → nat_le n m ≡ false
not_few n m h = grind (arith, nat_tests)

heavy_formula : (at : ℕ) (change : Exchange) (f g : Formula) → exchanged change f ≡ Some g → composed_formula at change f ≡ Ok g
heavy_formula at change f g e = ap (large_unless at) e

heavy_term : (at : ℕ) (change : Exchange) (f g : Formula) → exchanged change f ≡ Some g → 2048 < atoms g → term_on at change (truth f) ≡ Err (atoms_fault at)
heavy_term at change f g e m =
    ap (λ (r : Result Formula TypeFault). r >>= λ h. few at h >>= λ k. Ok (truth k)) (heavy_formula at change f g e)
    ∙ ap (λ b. cond b (Ok g) (Err (atoms_fault at)) >>= λ k. Ok (truth k)) (not_few (atoms g) 2048 m)

heavy_terms : (at : ℕ) (change : Exchange) (xs : List (ℕ × Term)) → IsHeavySide at change xs → terms_on at change [] xs ≡ Err (atoms_fault at)
heavy_terms at change xs h =
    ap (terms_on at change []) h.cut ∙ terms_append at change [] h.front ((h.variable, truth h.value) ∷ h.rest)
    ∙ ap (λ (r : Result (List (ℕ × Term)) TypeFault). r >>= λ new. terms_on at change new ((h.variable, truth h.value) ∷ h.rest)) h.fine
    ∙ ap (λ (r : Result Term TypeFault). r >>= λ t. terms_on at change (h.before ++ (h.variable, t) ∷ []) h.rest) (heavy_term at change h.value h.composed h.is h.many)

heavy_link : (at : ℕ) (c : Composition) (link : Link) → IsHeavyLink at c link → link_on at link c ≡ Err (atoms_fault at)
heavy_link at c (tested f b) h =
    ap (λ (r : Result Formula TypeFault). r >>= λ g. guarded at (met (signed b g) c)) (heavy_formula at c.change f h.composed h.is)
    ∙ ap (λ d. cond d (Ok (met (signed b h.composed) c)) (Err (atoms_fault at))) (not_few (atoms_of (formulas (c.tests ++ signed b h.composed ∷ []))) 2048 h.many)
heavy_link at c (given xs) h = ap (λ (r : Result (List (ℕ × Term)) TypeFault). r >>= λ new. Ok (put_all new c)) (heavy_terms at c.change xs h)

heavy_path : (at : ℕ) (path : List Link) → IsHeavyPath at path → path_on at path nothing ≡ Err (atoms_fault at)
heavy_path at path h =
    ap (λ p. path_on at p nothing) h.cut ∙ path_append at h.front (h.link ∷ h.rest) nothing
    ∙ ap (λ (r : Result Composition TypeFault). r >>= λ d. path_on at (h.link ∷ h.rest) d) h.fine
    ∙ ap (λ (r : Result Composition TypeFault). r >>= λ d. path_on at h.rest d) (heavy_link at h.before h.link h.heavy)

behind_front : (at : ℕ) (front : List (List Link)) (path : List Link) (rest : List (List Link)) (cs : List Composition) (w : ℕ) → AreComposed at front cs → path_on at path nothing ≡ Err (atoms_fault at) → with_paths at (front ++ path ∷ rest) w ≡ Err (atoms_fault at)
behind_front at [] path rest cs w a e = ap (λ (r : Result Composition TypeFault). r >>= λ c. with_paths at rest (with_path w c)) e
behind_front at (p ∷ front) path rest [] w a e = absurd a
behind_front at (p ∷ front) path rest (c ∷ cs) w a e =
    ap (λ (r : Result Composition TypeFault). r >>= λ d. with_paths at (front ++ path ∷ rest) (with_path w d)) a.0 ∙ behind_front at front path rest cs (with_path w c) a.1 e

heavy_paths : (at : ℕ) (paths : List (List Link)) (w : ℕ) → HasHeavyPath at paths → with_paths at paths w ≡ Err (atoms_fault at)
heavy_paths at paths w h = ap (λ ps. with_paths at ps w) h.cut ∙ behind_front at h.front h.path h.rest h.before w h.fine (heavy_path at h.path h.heavy)

-- BEHIND THE OTHER LIMITS
abbrev last : ℕ → ℕ → Result ℕ TypeFault
last at v = limit_unless (nat_le v 16777216) (faults.Limit limits.Weight at) >>= λ _. Ok v

few_ways : (n m : ℕ) → n ≤ m → nat_le n m ≡ true
few_ways n m h = grind (arith, nat_tests)

pub behind_limits : (at : ℕ) (xs : Pieces) (w : ℕ) → length (paths_along xs) ≤ 64 → all_small at (paths_along xs) ≡ Ok tt → grouped at xs w ≡ (with_paths at (paths_along xs) w >>= λ v. last at v)
behind_limits at xs w l small =
    ap (λ b. limit_unless b (faults.Limit limits.Paths at) >>= λ _. all_small at (paths_along xs) >>= λ _. with_paths at (paths_along xs) w >>= λ v. last at v) (few_ways (length (paths_along xs)) 64 l)
    ∙ ap (λ (r : Result (Unit {0}) TypeFault). r >>= λ _. with_paths at (paths_along xs) w >>= λ v. last at v) small

last_shows : (P : Type 0) (at v : ℕ) → Shows P (last at v)
last_shows P at v = go (nat_le v 16777216)
  where
    go : (b : Bool) → Shows P (limit_unless b (faults.Limit limits.Weight at) >>= λ _. Ok v)
    go true = tt
    go false = λ e. absurd (other (sym e))

abbrev tells_of : Result ℕ TypeFault → Bool
tells_of (Ok v) = false
tells_of (Err f) = tells_atoms f

shown : (P : Type 0) (r : Result ℕ TypeFault) (at : ℕ) → Shows P r → r ≡ Err (atoms_fault at) → P
shown P (Ok v) at h e = absurd (other (sym (ap tells_of e)))
shown P (Err f) at h e = h (ap tells_of e)

pub atoms_refuse : AtomsRefuse
atoms_refuse at xs w ways small =
    let e = behind_limits at xs w (subst (λ n. n ≤ 64) (sym (ways_along_count xs)) ways) small in
    let s = shows_bind (HasHeavyPath at (paths_along xs)) (with_paths at (paths_along xs) w) (λ v. last at v) (paths_show at (paths_along xs) w) (λ v i. last_shows (HasHeavyPath at (paths_along xs)) at v) in (
      λ k. shown (HasHeavyPath at (paths_along xs)) (with_paths at (paths_along xs) w >>= λ v. last at v) at s (sym e ∙ k),
      λ h. e ∙ ap (λ (r : Result ℕ TypeFault). r >>= λ v. last at v) (heavy_paths at (paths_along xs) w h),
    )
