-- A group is answered with a weight exactly where what is composed along its paths is small, and then with that of its paths.
use Rattle.std.proofs.Common.{◌≡◌, ℕ, ◌+◌, ◌≤◌, nat_le, Bool, true, false, cond, List, [], ◌∷◌, ◌++◌, length, append-nil, append_assoc, refl, sym, ap, subst, ◌∙◌, arith, Option, Some, None, Result, Ok, Err}
use Rattle.std.specs.Prelude.{sum_by, IfSome, IsSome, option_and_then}
use Rattle.std.specs.Option.{option_map}
use Rattle.std.proofs.lemmas.Bool.Decides.{nat_tests}
use Rattle.std.proofs.lemmas.List.Sums.{sum_by-cons}
use Rattle.list_laws.specs.Each.{Each}
use Rattle.st_linear.specs.Linear.{Linear, replaced}
use Rattle.st_form.specs.Formula.{Formula, formulas, atoms, atoms_of}
use Rattle.st_form.specs.Exchange.{exchanged}
use Rattle.st_tokens.specs.declared.limit.LimitKind.TheVariants as limits
use Rattle.st_program.specs.Tree.{Term, number, truth, Pieces}
use Rattle.st_program.specs.Member.{Member, here, there}
use Rattle.st_program.specs.Groups.{Link, tested, given, paths_along, is_written, if_written, Composed, nothing_composed, exchange_of, composed_term, put_all, signed, met, composed_link, composed, GroupFits}
use Rattle.st_program.specs.Groups as plain
use Rattle.expression_typer.specs.declared.fault.TypeFault.{TypeFault}
use Rattle.expression_typer.specs.declared.fault.TypeFault.TheVariants as faults
use Rattle.expression_typer.specs.Answers.{◌>>=◌}
use Rattle.expression_typer.specs.Written.{is_writable, limited}
use Rattle.spl_typer.specs.Groups.{Composition, Numbers, nothing, large_unless, limit_unless, composed_number, with_number, numbers_of, numbers_put, numbers_behind, numbers_on, all_small, few, composed_formula, term_on, terms_on, guarded, link_on, path_on, with_path, with_paths, grouped}
use Rattle.spl_typer.specs.Groups as rules
use Rattle.group_limits.specs.Weights as weighing
use Rattle.group_limits.specs.Weights.{AreComposed}
use Rattle.group_limits.proofs.Paths.{ways_along_count}
use Rattle.group_limits.proofs.Weights.{weights_are_added}
use Rattle.program_rules.specs.Groups.{SideIsSmall, LinkIsSmall, PathIsSmall, weight_of, path_weight}

-- what is composed, as the rules have it
abbrev view : Composed → Composition
view c = record { tests = c.tests; change = exchange_of c }

-- what a chain of answers went through
got : {A B : Type 0} (r : Result A TypeFault) (k : A → Result B TypeFault) (y : B) → (r >>= k) ≡ Ok y → (x : A) × (r ≡ Ok x) × (k x ≡ Ok y)
got (Ok x) k y e = (x, refl, e)
got (Err f) k y e = absurd cc

is_ok : {A : Type 0} (x y : A) → ◌≡◌ {A = Result A TypeFault} (Ok x) (Ok y) → x ≡ y
is_ok x y e = cc

is_some : {A : Type 0} (x y : A) → Some x ≡ Some y → x ≡ y
is_some x y e = cc

if_true : {A : Type 0} (b : Bool) (x y : A) (f : TypeFault) → ◌≡◌ {A = Result A TypeFault} (cond b (Ok x) (Err f)) (Ok y) → (b ≡ true) × (x ≡ y)
if_true true x y f e = (refl, is_ok x y e)
if_true false x y f e = absurd cc

at_most : (n m : ℕ) → nat_le n m ≡ true → n ≤ m
at_most n m e = grind (arith, nat_tests)

is_at_most : (n m : ℕ) → n ≤ m → nat_le n m ≡ true
is_at_most n m h = grind (arith, nat_tests)

-- OPTIONS
there_is : {X : Type 0} (at : ℕ) (o : Option X) (x : X) → o ≡ Some x → large_unless at o ≡ Ok x
there_is at o x e = ap (large_unless at) e

was_there : {X : Type 0} (at : ℕ) (o : Option X) (x : X) → large_unless at o ≡ Ok x → o ≡ Some x
was_there at None x e = absurd cc
was_there at (Some y) x e = ap Some (is_ok y x e)

mapped : {A B : Type 0} (f : A → B) (o : Option A) (y : B) → option_map f o ≡ Some y → (x : A) × (o ≡ Some x) × (f x ≡ y)
mapped f None y e = absurd cc
mapped f (Some x) y e = (x, refl, is_some (f x) y e)

chained : {A B : Type 0} (o : Option A) (k : A → Option B) (y : B) → option_and_then k o ≡ Some y → (x : A) × (o ≡ Some x) × (k x ≡ Some y)
chained None k y e = absurd cc
chained (Some x) k y e = (x, refl, e)

-- NUMBERS
writable_is : (f : Linear) → is_writable f ≡ is_written f
unfolding is_writable
writable_is f = refl

written_one : (f g : Linear) (b : Bool) → cond b (Some f) None ≡ Some g → (b ≡ true) × (f ≡ g)
written_one f g true e = (refl, is_some f g e)
written_one f g false e = absurd cc

number_on : (at : ℕ) (ns : Numbers) (f g : Linear) → option_and_then if_written (replaced ns f) ≡ Some g → composed_number at ns f ≡ Ok g
number_on at ns f g e =
    let c = chained (replaced ns f) if_written g e in
    let w = written_one c.0 g (is_written c.0) c.2 in
    ap (λ (r : Result Linear TypeFault). r >>= λ h. limited at h) (there_is at (replaced ns f) c.0 c.1)
    ∙ ap (λ b. cond b (Ok c.0) (Err (faults.TooLarge at))) (writable_is c.0 ∙ w.0) ∙ ap Ok w.1

-- RIGHT SIDES
side_on : (at : ℕ) (c : Composed) (x t : Term) → composed_term c x ≡ Some t → SideIsSmall c x → term_on at (exchange_of c) x ≡ Ok t
side_on at c (number f) t e small =
    let m = mapped number (option_and_then if_written (replaced c.numbers f)) t e in
    ap (λ (r : Result Linear TypeFault). r >>= λ g. Ok (number g)) (number_on at c.numbers f m.0 m.1) ∙ ap Ok m.2
side_on at c (truth f) t e small =
    let m = mapped truth (exchanged (exchange_of c) f) t e in
    let le : atoms m.0 ≤ 2048 = subst (λ o. IfSome o (λ g. atoms g ≤ 2048)) m.1 small in
    ap (λ (r : Result Formula TypeFault). r >>= λ g. few at g >>= λ h. Ok (truth h)) (there_is at (exchanged (exchange_of c) f) m.0 m.1)
    ∙ ap (λ b. (cond b (Ok m.0) (Err (faults.Limit limits.Atoms at))) >>= λ h. Ok (truth h)) (is_at_most (atoms m.0) 2048 le) ∙ ap Ok m.2

-- right sides, behind those that are done, and what stands when they are put
record Sides (at : ℕ) (before acc : Composed) (done xs : List (ℕ × Term)) (d : Composed) : Type 0 where
  new : List (ℕ × Term)
  is : terms_on at (exchange_of before) done xs ≡ Ok (done ++ new)
  put : rules.put_all new (view acc) ≡ view d

put_view : (v : ℕ) (t : Term) (c : Composed) → rules.put v t (view c) ≡ view (plain.put v t c)
put_view v (number f) c = refl
put_view v (truth f) c = refl

sides_on : (at : ℕ) (before acc : Composed) (done xs : List (ℕ × Term)) (d : Composed) → put_all before xs acc ≡ Some d → Each (λ x. SideIsSmall before x.1) xs → Sides at before acc done xs d
sides_on at before acc done [] d e small = record { new = []; is = ap Ok (sym (append-nil done)); put = ap view (is_some acc d e) }
sides_on at before acc done (x ∷ xs) d e small =
    let c = chained (composed_term before x.1) (λ term. put_all before xs (plain.put x.0 term acc)) d e in
    let more = sides_on at before (plain.put x.0 c.0 acc) (done ++ (x.0, c.0) ∷ []) xs d c.2 small.1 in
    record {
      new = (x.0, c.0) ∷ more.new;
      is = ap (λ (r : Result Term TypeFault). r >>= λ t. terms_on at (exchange_of before) (done ++ (x.0, t) ∷ []) xs) (side_on at before x.1 c.0 c.1 small.0) ∙ more.is ∙ ap Ok (append_assoc done ((x.0, c.0) ∷ []) more.new);
      put = ap (rules.put_all more.new) (put_view x.0 c.0 acc) ∙ more.put;
    }

-- LINKS AND PATHS
link_is : (at : ℕ) (link : Link) (c d : Composed) → composed_link link c ≡ Some d → LinkIsSmall c link → link_on at link (view c) ≡ Ok (view d)
link_is at (tested f b) c d e small =
    let m = mapped (λ g. met (signed b g) c) (exchanged (exchange_of c) f) d e in
    let le : atoms_of (formulas (c.tests ++ signed b m.0 ∷ [])) ≤ 2048 = subst (λ o. IfSome o (λ g. atoms_of (formulas (c.tests ++ signed b g ∷ [])) ≤ 2048)) m.1 small in
    ap (λ (r : Result Formula TypeFault). r >>= λ g. guarded at (rules.met (signed b g) (view c))) (there_is at (exchanged (exchange_of c) f) m.0 m.1)
    ∙ ap (λ z. cond z (Ok (view (met (signed b m.0) c))) (Err (faults.Limit limits.Atoms at))) (is_at_most (atoms_of (formulas (c.tests ++ signed b m.0 ∷ []))) 2048 le) ∙ ap (λ z. Ok (view z)) m.2
link_is at (given xs) c d e small =
    let s = sides_on at c c [] xs d e small in
    ap (λ (r : Result (List (ℕ × Term)) TypeFault). r >>= λ new. Ok (rules.put_all new (view c))) s.is ∙ ap Ok s.put

path_is : (at : ℕ) (path : List Link) (c d : Composed) → composed path c ≡ Some d → PathIsSmall c path → path_on at path (view c) ≡ Ok (view d)
path_is at [] c d e small = ap (λ z. Ok (view z)) (is_some c d e)
path_is at (link ∷ path) c d e small =
    let m = chained (composed_link link c) (composed path) d e in
    ap (λ (r : Result Composition TypeFault). r >>= λ w. path_on at path w) (link_is at link c m.0 m.1 small.0)
    ∙ path_is at path m.0 d m.2 (subst (λ o. IfSome o (λ x. PathIsSmall x path)) m.1 small.1)

-- NUMBERS ALONE
abbrev News : Term → ℕ → Numbers
News (number f) v = (v, f) ∷ []
News (truth f) v = []

one_with : (at : ℕ) (c : Composed) (v : ℕ) (x t : Term) (done : Numbers) → composed_term c x ≡ Some t → with_number at c.numbers v x done ≡ Ok (done ++ News t v)
one_with at c v (number f) t done e =
    let m = mapped number (option_and_then if_written (replaced c.numbers f)) t e in
    ap (λ (r : Result Linear TypeFault). r >>= λ g. Ok (done ++ (v, g) ∷ [])) (number_on at c.numbers f m.0 m.1) ∙ ap (λ z. Ok (done ++ News z v)) m.2
one_with at c v (truth f) t done e =
    let m = mapped truth (exchanged (exchange_of c) f) t e in
    ap Ok (sym (append-nil done)) ∙ ap (λ z. Ok (done ++ News z v)) m.2

put_news : (v : ℕ) (t : Term) (acc : Composed) (new : Numbers) → numbers_put (News t v ++ new) acc.numbers ≡ numbers_put new (plain.put v t acc).numbers
put_news v (number f) acc new = refl
put_news v (truth f) acc new = refl

record Counts (at : ℕ) (before acc : Composed) (done : Numbers) (xs : List (ℕ × Term)) (d : Composed) : Type 0 where
  new : Numbers
  is : numbers_of at before.numbers done xs ≡ Ok (done ++ new)
  put : numbers_put new acc.numbers ≡ d.numbers

counts_of : (at : ℕ) (before acc : Composed) (done : Numbers) (xs : List (ℕ × Term)) (d : Composed) → put_all before xs acc ≡ Some d → Counts at before acc done xs d
counts_of at before acc done [] d e = record { new = []; is = ap Ok (sym (append-nil done)); put = ap (λ (z : Composed). z.numbers) (is_some acc d e) }
counts_of at before acc done (x ∷ xs) d e =
    let c = chained (composed_term before x.1) (λ term. put_all before xs (plain.put x.0 term acc)) d e in
    let more = counts_of at before (plain.put x.0 c.0 acc) (done ++ News c.0 x.0) xs d c.2 in
    record {
      new = News c.0 x.0 ++ more.new;
      is = ap (λ (r : Result Numbers TypeFault). r >>= λ z. numbers_of at before.numbers z xs) (one_with at before x.0 x.1 c.0 done c.1) ∙ more.is ∙ ap Ok (append_assoc done (News c.0 x.0) more.new);
      put = put_news x.0 c.0 acc more.new ∙ more.put;
    }

numbers_link : (at : ℕ) (link : Link) (c d : Composed) → composed_link link c ≡ Some d → numbers_behind at link c.numbers ≡ Ok d.numbers
numbers_link at (tested f b) c d e =
    let m = mapped (λ g. met (signed b g) c) (exchanged (exchange_of c) f) d e in
    ap (λ (z : Composed). Ok z.numbers) m.2
numbers_link at (given xs) c d e =
    let n = counts_of at c c [] xs d e in
    ap (λ (r : Result Numbers TypeFault). r >>= λ new. Ok (numbers_put new c.numbers)) n.is ∙ ap Ok n.put

numbers_path : (at : ℕ) (path : List Link) (c d : Composed) → composed path c ≡ Some d → numbers_on at path c.numbers ≡ Ok d.numbers
numbers_path at [] c d e = ap (λ (z : Composed). Ok z.numbers) (is_some c d e)
numbers_path at (link ∷ path) c d e =
    let m = chained (composed_link link c) (composed path) d e in
    ap (λ (r : Result Numbers TypeFault). r >>= λ ms. numbers_on at path ms) (numbers_link at link c m.0 m.1) ∙ numbers_path at path m.0 d m.2

some_is : {X : Type 0} (o : Option X) → IsSome o → (x : X) × (o ≡ Some x)
some_is None h = absurd cc
some_is (Some x) h = (x, refl)

abbrev AllSome : List (List Link) → Type 0
AllSome paths = Each (λ path. IsSome (composed path nothing_composed)) paths

small_numbers : (at : ℕ) (paths : List (List Link)) → AllSome paths → all_small at paths ≡ Ok tt
small_numbers at [] h = refl
small_numbers at (path ∷ paths) h =
    let d = some_is (composed path nothing_composed) h.0 in
    ap (λ (r : Result Numbers TypeFault). r >>= λ ns. all_small at paths) (numbers_path at path nothing_composed d.0 d.1) ∙ small_numbers at paths h.1

-- GROUPS
record Paths (at : ℕ) (paths : List (List Link)) : Type 0 where
  all : List Composition
  are : AreComposed at paths all
  weight : sum_by weighing.weight_of all ≡ sum_by path_weight paths

paths_are : (at : ℕ) (paths : List (List Link)) → AllSome paths → Each (PathIsSmall nothing_composed) paths → Paths at paths
paths_are at [] some small = record { all = []; are = refl; weight = refl }
paths_are at (path ∷ paths) some small =
    let d = some_is (composed path nothing_composed) some.0 in
    let more = paths_are at paths some.1 small.1 in
    record {
      all = view d.0 ∷ more.all;
      are = (path_is at path nothing_composed d.0 d.1 small.0, more.are);
      weight = sum_by-cons weighing.weight_of (view d.0) more.all ∙ ap (λ z. weighing.weight_of (view d.0) + z) more.weight
          ∙ ap (λ z. weight_of z + sum_by path_weight paths) (sym d.1) ∙ sym (sum_by-cons path_weight path paths);
    }

each_some : (paths : List (List Link)) → ((path : List Link) → Member path paths → IsSome (composed path nothing_composed)) → AllSome paths
each_some [] h = tt
each_some (path ∷ paths) h = (h path (here refl), each_some paths (λ p m. h p (there m)))

pub group_is : (at : ℕ) (xs : Pieces) (w : ℕ) → GroupFits xs → Each (PathIsSmall nothing_composed) (paths_along xs) → w + sum_by path_weight (paths_along xs) ≤ 16777216
    → grouped at xs w ≡ Ok (w + sum_by path_weight (paths_along xs))
group_is at xs w fits small light =
    let some = each_some (paths_along xs) fits.small in
    let p = paths_are at (paths_along xs) some small in
    weights_are_added at xs w p.all (subst (λ n. n ≤ 64) (ways_along_count xs) fits.few) (small_numbers at (paths_along xs) some) p.are (below w (sum_by path_weight (paths_along xs)) light)
    ∙ ap (λ n. cond (nat_le (w + n) 16777216) (Ok (w + n)) (Err (faults.Limit limits.Weight at))) p.weight
    ∙ ap (λ b. cond b (Ok (w + sum_by path_weight (paths_along xs))) (Err (faults.Limit limits.Weight at))) (is_at_most (w + sum_by path_weight (paths_along xs)) 16777216 light)
  where
    below : (i j : ℕ) → i + j ≤ 16777216 → i ≤ 16777216
    below i j h = omega (arith, h)

-- THE OTHER WAY ROUND
number_was : (at : ℕ) (ns : Numbers) (f g : Linear) → composed_number at ns f ≡ Ok g → option_and_then if_written (replaced ns f) ≡ Some g
number_was at ns f g e =
    let c = got (large_unless at (replaced ns f)) (λ h. limited at h) g e in
    let w = if_true (is_writable c.0) c.0 g (faults.TooLarge at) c.2 in
    ap (option_and_then if_written) (was_there at (replaced ns f) c.0 c.1) ∙ ap (λ b. cond b (Some c.0) None) (sym (writable_is c.0) ∙ w.0) ∙ ap Some w.1

side_was : (at : ℕ) (c : Composed) (x t : Term) → term_on at (exchange_of c) x ≡ Ok t → SideIsSmall c x × (composed_term c x ≡ Some t)
side_was at c (number f) t e =
    let g = got (composed_number at c.numbers f) (λ h. Ok (number h)) t e in
    (tt, ap (option_map number) (number_was at c.numbers f g.0 g.1) ∙ ap Some (is_ok (number g.0) t g.2))
side_was at c (truth f) t e =
    let g = got (composed_formula at (exchange_of c) f) (λ h. few at h >>= λ k. Ok (truth k)) t e in
    let k = got (few at g.0) (λ h. Ok (truth h)) t g.2 in
    let w = if_true (nat_le (atoms g.0) 2048) g.0 k.0 (faults.Limit limits.Atoms at) k.1 in
    let there = was_there at (exchanged (exchange_of c) f) g.0 g.1 in
    (subst (λ o. IfSome o (λ h. atoms h ≤ 2048)) (sym there) (at_most (atoms g.0) 2048 w.0), ap (option_map truth) there ∙ ap (λ z. Some (truth z)) w.1 ∙ ap Some (is_ok (truth k.0) t k.2))

record SidesWere (before acc : Composed) (done xs new : List (ℕ × Term)) : Type 0 where
  small : Each (λ x. SideIsSmall before x.1) xs
  rest : List (ℕ × Term)
  behind : new ≡ done ++ rest
  after : Composed
  is : put_all before xs acc ≡ Some after
  put : rules.put_all rest (view acc) ≡ view after

sides_were : (at : ℕ) (before acc : Composed) (done xs new : List (ℕ × Term)) → terms_on at (exchange_of before) done xs ≡ Ok new → SidesWere before acc done xs new
sides_were at before acc done [] new e = record { small = tt; rest = []; behind = sym (is_ok done new e) ∙ sym (append-nil done); after = acc; is = refl; put = refl }
sides_were at before acc done (x ∷ xs) new e =
    let t = got (term_on at (exchange_of before) x.1) (λ z. terms_on at (exchange_of before) (done ++ (x.0, z) ∷ []) xs) new e in
    let s = side_was at before x.1 t.0 t.1 in
    let more = sides_were at before (plain.put x.0 t.0 acc) (done ++ (x.0, t.0) ∷ []) xs new t.2 in
    record {
      small = (s.0, more.small);
      rest = (x.0, t.0) ∷ more.rest;
      behind = more.behind ∙ append_assoc done ((x.0, t.0) ∷ []) more.rest;
      after = more.after;
      is = ap (option_and_then (λ term. put_all before xs (plain.put x.0 term acc))) s.1 ∙ more.is;
      put = ap (rules.put_all more.rest) (put_view x.0 t.0 acc) ∙ more.put;
    }

record LinkWas (link : Link) (c : Composed) (w : Composition) : Type 0 where
  small : LinkIsSmall c link
  after : Composed
  is : composed_link link c ≡ Some after
  same : w ≡ view after

link_was : (at : ℕ) (link : Link) (c : Composed) (w : Composition) → link_on at link (view c) ≡ Ok w → LinkWas link c w
link_was at (tested f b) c w e =
    let g = got (composed_formula at (exchange_of c) f) (λ h. guarded at (rules.met (signed b h) (view c))) w e in
    let k = if_true (nat_le (atoms_of (formulas (c.tests ++ signed b g.0 ∷ []))) 2048) (rules.met (signed b g.0) (view c)) w (faults.Limit limits.Atoms at) g.2 in
    let there = was_there at (exchanged (exchange_of c) f) g.0 g.1 in
    record {
      small = subst (λ o. IfSome o (λ h. atoms_of (formulas (c.tests ++ signed b h ∷ [])) ≤ 2048)) (sym there) (at_most (atoms_of (formulas (c.tests ++ signed b g.0 ∷ []))) 2048 k.0);
      after = met (signed b g.0) c;
      is = ap (option_map (λ h. met (signed b h) c)) there;
      same = sym k.1;
    }
link_was at (given xs) c w e =
    let g = got (terms_on at (exchange_of c) [] xs) (λ new. Ok (rules.put_all new (view c))) w e in
    let s = sides_were at c c [] xs g.0 g.1 in
    record { small = s.small; after = s.after; is = s.is; same = sym (is_ok (rules.put_all g.0 (view c)) w g.2) ∙ ap (λ z. rules.put_all z (view c)) s.behind ∙ s.put }

record PathWas (path : List Link) (c : Composed) (w : Composition) : Type 0 where
  small : PathIsSmall c path
  after : Composed
  is : composed path c ≡ Some after
  same : w ≡ view after

path_was : (at : ℕ) (path : List Link) (c : Composed) (w : Composition) → path_on at path (view c) ≡ Ok w → PathWas path c w
path_was at [] c w e = record { small = tt; after = c; is = refl; same = sym (is_ok (view c) w e) }
path_was at (link ∷ path) c w e =
    let g = got (link_on at link (view c)) (λ d. path_on at path d) w e in
    let l = link_was at link c g.0 g.1 in
    let p = path_was at path l.after w (ap (path_on at path) (sym l.same) ∙ g.2) in
    record {
      small = (l.small, subst (λ o. IfSome o (λ d. PathIsSmall d path)) (sym l.is) p.small);
      after = p.after;
      is = ap (option_and_then (composed path)) l.is ∙ p.is;
      same = p.same;
    }

record PathsWere (at : ℕ) (paths : List (List Link)) : Type 0 where
  small : Each (PathIsSmall nothing_composed) paths
  composes : AllSome paths
  all : List Composition
  are : AreComposed at paths all
  weight : sum_by weighing.weight_of all ≡ sum_by path_weight paths

paths_were : (at : ℕ) (paths : List (List Link)) (w v : ℕ) → with_paths at paths w ≡ Ok v → PathsWere at paths
paths_were at [] w v e = record { small = tt; composes = tt; all = []; are = refl; weight = refl }
paths_were at (path ∷ paths) w v e =
    let g = got (path_on at path nothing) (λ c. with_paths at paths (with_path w c)) v e in
    let p = path_was at path nothing_composed g.0 g.1 in
    let more = paths_were at paths (with_path w g.0) v g.2 in
    record {
      small = (p.small, more.small);
      composes = (subst (λ (o : Option Composed). IsSome o) (sym p.is) refl, more.composes);
      all = g.0 ∷ more.all;
      are = (g.1, more.are);
      weight = sum_by-cons weighing.weight_of g.0 more.all ∙ ap (λ z. weighing.weight_of g.0 + z) more.weight ∙ ap (λ z. weighing.weight_of z + sum_by path_weight paths) p.same
          ∙ ap (λ z. weight_of z + sum_by path_weight paths) (sym p.is) ∙ sym (sum_by-cons path_weight path paths);
    }

some_each : (paths : List (List Link)) → AllSome paths → (path : List Link) → Member path paths → IsSome (composed path nothing_composed)
some_each [] h path m = elim m [ ]
some_each (q ∷ paths) h path (here e) = rw e h.0
some_each (q ∷ paths) h path (there m) = some_each paths h.1 path m

pub record GroupWas (xs : Pieces) (w v : ℕ) : Type 0 where
  pub fits : GroupFits xs
  pub small : Each (PathIsSmall nothing_composed) (paths_along xs)
  pub weight : v ≡ w + sum_by path_weight (paths_along xs)
  pub light : v ≤ 16777216

limited_by : (b : Bool) (f : TypeFault) (u : Unit {0}) → limit_unless b f ≡ Ok u → b ≡ true
limited_by true f u e = refl
limited_by false f u e = absurd cc

pub group_was : (at : ℕ) (xs : Pieces) (w v : ℕ) → w ≤ 16777216 → grouped at xs w ≡ Ok v → GroupWas xs w v
group_was at xs w v le e =
    let a = got (limit_unless (nat_le (length (paths_along xs)) 64) (faults.Limit limits.Paths at)) _ v e in
    let b = got (all_small at (paths_along xs)) _ v a.2 in
    let c = got (with_paths at (paths_along xs) w) _ v b.2 in
    let p = paths_were at (paths_along xs) w c.0 c.1 in
    let few = at_most (length (paths_along xs)) 64 (limited_by (nat_le (length (paths_along xs)) 64) (faults.Limit limits.Paths at) a.0 a.1) in
    let few_paths = subst (λ n. n ≤ 64) (ways_along_count xs) few in
    let k = if_true (nat_le (w + sum_by weighing.weight_of p.all) 16777216) (w + sum_by weighing.weight_of p.all) v (faults.Limit limits.Weight at) (sym (weights_are_added at xs w p.all few_paths b.1 p.are le) ∙ e) in
    record {
      fits = record { few = few; small = some_each (paths_along xs) p.composes };
      small = p.small;
      weight = sym k.1 ∙ ap (λ n. w + n) p.weight;
      light = subst (λ n. n ≤ 16777216) k.1 (at_most (w + sum_by weighing.weight_of p.all) 16777216 k.0);
    }
