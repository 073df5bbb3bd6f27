-- Going along a group's statements gives the composition of each of its paths, in order.
use Rattle.std.proofs.Common.{◌≡◌, ℕ, true, false, List, [], ◌∷◌, ◌++◌, map, Vec, Global, suc, ◌+◌, ◌<◌, ◌≤◌, drop, get_or, length, Option, Some, None, Result, Ok, Err, OnOk, refl, sym, ap, ◌∙◌, append_assoc, add-one}
use Rattle.std.specs.Prelude.{flat_map, option_and_then}
use Rattle.std.specs.Option.{option_map}
use Rattle.std.proofs.lemmas.List.{append-nil, drop_all}
use Rattle.st_form.specs.declared.formulas.Form.{Form}
use Rattle.st_form.specs.Plain.{plain}
use Rattle.std.proofs.Math.Seq.{drop-cons}
use Rattle.st_program.specs.declared.trees.Inner as GInner
use Rattle.st_program.specs.Plain.{plain_inner, plain_pieces}
use Rattle.st_program.specs.Tree.{Term, number, truth, Piece, Pieces, piece_skip, piece_assign, piece_await, piece_if, no_piece, piece}
use Rattle.st_program.specs.Groups.{Link, tested, given, paths, paths_along, Composed, nothing_composed, exchange_of, composed_term, composed_link, composed, put, put_all}
use Rattle.control_facts.proofs.Onces.{flat_append}
use Rattle.spl_translation.proofs.Pieced.{inner-If}
use Rattle.spl_translation.specs.Translation.{path_mode, path_modes}
use Rattle.spl_translation.specs.Composing.{listed, onward, onward_along, term_before, terms_before, put_in, composed_mode}

pub flat_flat : {A B C : Type 0} (f : A → List B) (g : B → List C) (xs : List A) → flat_map g (flat_map f xs) ≡ flat_map (λ x. flat_map g (f x)) xs
flat_flat f g [] = refl
flat_flat f g (x ∷ xs) = flat_append g (f x) (flat_map f xs) ∙ ap (λ z. flat_map g (f x) ++ z) (flat_flat f g xs)

pub flat_map_map : {A B C : Type 0} (f : A → B) (g : B → List C) (xs : List A) → flat_map g (map f xs) ≡ flat_map (λ x. g (f x)) xs
flat_map_map f g [] = refl
flat_map_map f g (x ∷ xs) = ap (λ z. g (f x) ++ z) (flat_map_map f g xs)

pub flat_each : {A B : Type 0} (f g : A → List B) (xs : List A) → ((x : A) → f x ≡ g x) → flat_map f xs ≡ flat_map g xs
flat_each f g [] h = refl
flat_each f g (x ∷ xs) h = ap (λ z. z ++ flat_map f xs) (h x) ∙ ap (λ z. g x ++ z) (flat_each f g xs h)

pub flat_single : {A : Type 0} (xs : List A) → flat_map (λ x. x ∷ []) xs ≡ xs
flat_single [] = refl
flat_single (x ∷ xs) = ap (λ z. x ∷ z) (flat_single xs)

-- a path in two parts
composed_more : (p q : List Link) (c : Composed) → composed (p ++ q) c ≡ option_and_then (composed q) (composed p c)
composed_more [] q c = refl
composed_more (link ∷ p) q c = by_link (composed_link link c) (λ d. composed_more p q d)
  where
    by_link : (o : Option Composed) → ((d : Composed) → composed (p ++ q) d ≡ option_and_then (composed q) (composed p d)) → option_and_then (composed (p ++ q)) o ≡ option_and_then (composed q) (option_and_then (composed p) o)
    by_link None down = refl
    by_link (Some d) down = down d

-- what the paths of a list give
abbrev ended : List (List Link) → Composed → List Composed
ended ps c = flat_map (λ path. listed (composed path c)) ps

then_listed : {A B : Type 0} (f : A → Option B) (o : Option A) → listed (option_and_then f o) ≡ flat_map (λ x. listed (f x)) (listed o)
then_listed f None = refl
then_listed f (Some x) = sym (append-nil (listed (f x)))

-- a link before each path
linked : (link : Link) (ps : List (List Link)) (c : Composed) → ended (map (λ path. link ∷ path) ps) c ≡ flat_map (ended ps) (listed (composed_link link c))
linked link ps c = flat_map_map (λ path. link ∷ path) (λ path. listed (composed path c)) ps ∙ by_link (composed_link link c)
  where
    by_link : (o : Option Composed) → flat_map (λ path. listed (option_and_then (composed path) o)) ps ≡ flat_map (ended ps) (listed o)
    by_link None = none_of ps
      where
        none_of : (ps : List (List Link)) → flat_map (λ path. listed (option_and_then (composed path) None)) ps ≡ []
        none_of [] = refl
        none_of (p ∷ ps) = none_of ps
    by_link (Some d) = sym (append-nil (ended ps d))

-- each path of the first before each path of the others
joint : (ps qs : List (List Link)) (c : Composed) → ended (flat_map (λ path. map (λ further. path ++ further) qs) ps) c ≡ flat_map (ended qs) (ended ps c)
joint ps qs c =
    flat_flat (λ path. map (λ further. path ++ further) qs) (λ path. listed (composed path c)) ps
    ∙ flat_each _ (λ path. flat_map (ended qs) (listed (composed path c))) ps (λ path. flat_map_map (λ further. path ++ further) (λ p. listed (composed p c)) qs ∙ after path)
    ∙ sym (flat_flat (λ path. listed (composed path c)) (ended qs) ps)
  where
    by_path : (o : Option Composed) → flat_map (λ further. listed (option_and_then (composed further) o)) qs ≡ flat_map (ended qs) (listed o)
    by_path None = none_of qs
      where
        none_of : (qs : List (List Link)) → flat_map (λ further. listed (option_and_then (composed further) None)) qs ≡ []
        none_of [] = refl
        none_of (q ∷ qs) = none_of qs
    by_path (Some d) = sym (append-nil (ended qs d))

    after : (path : List Link) → flat_map (λ further. listed (composed (path ++ further) c)) qs ≡ flat_map (ended qs) (listed (composed path c))
    after path = flat_each _ (λ further. listed (option_and_then (composed further) (composed path c))) qs (λ further. ap listed (composed_more path further c)) ∙ by_path (composed path c)

one_link : (link : Link) (c : Composed) → listed (composed_link link c) ≡ listed (composed (link ∷ []) c) ++ []
one_link link c = by_link (composed_link link c)
  where
    by_link : (o : Option Composed) → listed o ≡ listed (option_and_then (composed []) o) ++ []
    by_link None = refl
    by_link (Some d) = refl

-- an assignment: all right sides are read, then they are put
pub term_is : (c : Composed) (x : Term) → composed_term c x ≡ term_before (exchange_of c) x
term_is c (number f) = refl
term_is c (truth f) = refl

put_is : (v : ℕ) (x : Term) (ts : List (ℕ × Term)) (c : Composed) → put_in ts (put v x c) ≡ put_in ((v, x) ∷ ts) c
put_is v (number f) ts c = refl
put_is v (truth f) ts c = refl

pub put_all_is : (b : Composed) (xs : List (ℕ × Term)) (c : Composed) → put_all b xs c ≡ option_map (λ ts. put_in ts c) (terms_before (exchange_of b) xs)
put_all_is b [] c = refl
put_all_is b ((v, x) ∷ xs) c = ap (option_and_then (λ term. put_all b xs (put v term c))) (term_is b x) ∙ by_term (term_before (exchange_of b) x) (λ d. put_all_is b xs d)
  where
    by_rest : (t : Term) (o : Option (List (ℕ × Term))) → option_map (λ ts. put_in ts (put v t c)) o ≡ option_map (λ ts. put_in ts c) (option_map (λ rest. (v, t) ∷ rest) o)
    by_rest t None = refl
    by_rest t (Some ts) = ap Some (put_is v t ts c)

    by_term : (o : Option Term) → ((d : Composed) → put_all b xs d ≡ option_map (λ ts. put_in ts d) (terms_before (exchange_of b) xs))
        → option_and_then (λ term. put_all b xs (put v term c)) o ≡ option_map (λ ts. put_in ts c) (option_and_then (λ term. option_map (λ rest. (v, term) ∷ rest) (terms_before (exchange_of b) xs)) o)
    by_term None down = refl
    by_term (Some t) down = down (put v t c) ∙ by_rest t (terms_before (exchange_of b) xs)

mutual
  onward_is : (x : Piece) (c : Composed) → onward x c ≡ ended (paths x) c
  onward_is piece_skip c = refl
  onward_is (piece_assign xs) c = ap listed (sym (put_all_is c xs c)) ∙ one_link (given xs) c
  onward_is (piece_await t) c = one_link (tested t true) c
  onward_is (piece_if t y n) c =
      ap (λ z. z ++ flat_map (onward_along n) (listed (composed_link (tested t false) c))) (flat_each (onward_along y) (ended (paths_along y)) (listed (composed_link (tested t true) c)) (λ d. along_is y d) ∙ sym (linked (tested t true) (paths_along y) c))
      ∙ ap (λ z. ended (map (λ path. tested t true ∷ path) (paths_along y)) c ++ z) (flat_each (onward_along n) (ended (paths_along n)) (listed (composed_link (tested t false) c)) (λ d. along_is n d) ∙ sym (linked (tested t false) (paths_along n) c))
      ∙ sym (flat_append (λ path. listed (composed path c)) (map (λ path. tested t true ∷ path) (paths_along y)) (map (λ path. tested t false ∷ path) (paths_along n)))

  pub along_is : (xs : Pieces) (c : Composed) → onward_along xs c ≡ ended (paths_along xs) c
  along_is no_piece c = refl
  along_is (piece x xs) c =
      ap (flat_map (onward_along xs)) (onward_is x c)
      ∙ flat_each (onward_along xs) (ended (paths_along xs)) (ended (paths x) c) (λ d. along_is xs d)
      ∙ sym (joint (paths x) (paths_along xs) c)

-- the modes of the paths
pub modes_are : (l : ℕ) (xs : Pieces) (next : ℕ) → map (composed_mode l next) (onward_along xs nothing_composed) ≡ path_modes l (paths_along xs) next
modes_are l xs next = ap (map (composed_mode l next)) (along_is xs nothing_composed) ∙ each (paths_along xs)
  where
    one : (o : Option Composed) → map (composed_mode l next) (listed o) ≡ path_mode l o next
    one None = refl
    one (Some c) = refl

    map_both : (us vs : List Composed) → map (composed_mode l next) (us ++ vs) ≡ map (composed_mode l next) us ++ map (composed_mode l next) vs
    map_both [] vs = refl
    map_both (u ∷ us) vs = ap (λ z. composed_mode l next u ∷ z) (map_both us vs)

    each : (ps : List (List Link)) → map (composed_mode l next) (ended ps nothing_composed) ≡ path_modes l ps next
    each [] = refl
    each (p ∷ ps) =
        map_both (listed (composed p nothing_composed)) (ended ps nothing_composed)
        ∙ ap (λ z. z ++ map (composed_mode l next) (ended ps nothing_composed)) (one (composed p nothing_composed))
        ∙ ap (λ z. path_mode l (composed p nothing_composed) next ++ z) (each ps)

-- one more statement
pub piece_more : (xs : List GInner.Inner) (i : ℕ) (x : GInner.Inner) (before behind total : List Composed) → i < length xs → x ≡ get_or xs i x → behind ≡ flat_map (onward (plain_inner x)) before
    → flat_map (onward_along (plain_pieces (drop i xs))) before ≡ total → flat_map (onward_along (plain_pieces (drop (i + 1) xs))) behind ≡ total
piece_more xs i x before behind total le e q h =
    let rest = plain_pieces (drop (i + 1) xs) in
    let dropped : drop i xs ≡ x ∷ drop (i + 1) xs = drop-cons xs i x le ∙ ap (λ z. z ∷ drop (suc i) xs) (sym e) ∙ ap (λ j. x ∷ drop j xs) (sym (add-one i)) in
    ap (flat_map (onward_along rest)) q
    ∙ flat_flat (onward (plain_inner x)) (onward_along rest) before
    ∙ ap (λ z. flat_map (onward_along (plain_pieces z)) before) (sym dropped)
    ∙ h

-- no more statements
pub pieces_done : (xs : List GInner.Inner) (i : ℕ) (paths total : List Composed) → length xs ≤ i → flat_map (onward_along (plain_pieces (drop i xs))) paths ≡ total → paths ≡ total
pieces_done xs i paths total le h = sym (flat_single paths) ∙ sym (ap (λ z. flat_map (onward_along (plain_pieces z)) paths) (drop_all i xs le)) ∙ h

-- both branches
pub branches : {T E : Type 0} (r : Result T E) (out0 out1 out2 us vs all : List Composed) → out1 ≡ out0 ++ us → all ≡ us ++ vs → OnOk r (out2 ≡ out1 ++ vs) → OnOk r (out2 ≡ out0 ++ all)
branches (Ok x) out0 out1 out2 us vs all e f h = h ∙ ap (λ z. z ++ vs) e ∙ append_assoc out0 us vs ∙ ap (λ z. out0 ++ z) (sym f)
branches (Err x) out0 out1 out2 us vs all e f h = h

-- a conditional
pub if_onward : (x : GInner.Inner) (f : Form) (v w : Vec GInner.Inner Global) (ys ns : List GInner.Inner) (start other : Composed) → x ≡ GInner.If f v w → ys ≡ v.items → ns ≡ w.items → other ≡ start
    → onward (plain_inner x) start ≡ flat_map (onward_along (plain_pieces ys)) (listed (composed_link (tested (plain f) true) start)) ++ flat_map (onward_along (plain_pieces ns)) (listed (composed_link (tested (plain f) false) other))
if_onward x f v w ys ns start other e y n o =
    let first = listed (composed_link (tested (plain f) true) start) in
    ap (λ z. onward (plain_inner z) start) e
    ∙ ap (λ z. onward z start) (inner-If f v w)
    ∙ ap (λ z. flat_map (onward_along (plain_pieces z)) first ++ flat_map (onward_along (plain_pieces w.items)) (listed (composed_link (tested (plain f) false) start))) (sym y)
    ∙ ap (λ z. flat_map (onward_along (plain_pieces ys)) first ++ flat_map (onward_along (plain_pieces z)) (listed (composed_link (tested (plain f) false) start))) (sym n)
    ∙ ap (λ z. flat_map (onward_along (plain_pieces ys)) first ++ flat_map (onward_along (plain_pieces ns)) (listed (composed_link (tested (plain f) false) z))) (sym o)
