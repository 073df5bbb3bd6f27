-- Paths behind one another.
use Rattle.std.proofs.Common.{◌≡◌, ℕ, suc, arith, ◌<◌, drop, get_or, ◌+◌, ◌*◌, List, [], ◌∷◌, ◌++◌, length, map, refl, ap, sym, ◌∙◌, append-nil, append_assoc, true, false}
use Rattle.std.specs.Prelude.{flat_map}
use Rattle.std.proofs.Math.Nat.{zero-mul, suc-mul}
use Rattle.std.proofs.lemmas.Grind.{flat_map-append}
use Rattle.std.proofs.lemmas.List.{map-append, length-map, length-append}
use Rattle.std.proofs.lemmas.List.{drop_more}
use Rattle.std.proofs.Math.ListN.{drop_of_length-le}
use Rattle.std.proofs.Common.{◌≤◌, Vec, Global}
use Rattle.st_form.specs.Formula.{Formula}
use Rattle.st_program.specs.declared.trees.Inner.{Inner}
use Rattle.st_program.specs.Tree.{Piece, piece, piece_if}
use Rattle.st_program.specs.Plain.{plain_inner, plain_pieces}
use Rattle.spl_typer.specs.declared.paths.Link as code
use Rattle.spl_typer.specs.GroupViews.{link_view, path_view, path_views}
use Rattle.st_program.specs.Groups.{Link, tested, paths, paths_along}

-- each path with each of others behind it
abbrev pub times : List (List Link) → List (List Link) → List (List Link)
times ps qs = flat_map (λ path. map (λ further. path ++ further) qs) ps

longer : (p q : List Link) (rs : List (List Link)) → map (λ more. (p ++ q) ++ more) rs ≡ map (λ more. p ++ more) (map (λ more. q ++ more) rs)
longer p q [] = refl
longer p q (r ∷ rs) = ap (λ x. x ∷ map (λ more. (p ++ q) ++ more) rs) (append_assoc p q r) ∙ ap (λ l. (p ++ (q ++ r)) ∷ l) (longer p q rs)

times-begun : (p : List Link) (qs rs : List (List Link)) → times (map (λ more. p ++ more) qs) rs ≡ map (λ more. p ++ more) (times qs rs)
times-begun p [] rs = refl
times-begun p (q ∷ qs) rs =
    ap (λ l. l ++ times (map (λ more. p ++ more) qs) rs) (longer p q rs)
    ∙ ap (λ l. map (λ more. p ++ more) (map (λ more. q ++ more) rs) ++ l) (times-begun p qs rs)
    ∙ sym (map-append (λ more. p ++ more) (map (λ more. q ++ more) rs) (times qs rs))

pub times-assoc : (ps qs rs : List (List Link)) → times (times ps qs) rs ≡ times ps (times qs rs)
times-assoc [] qs rs = refl
times-assoc (p ∷ ps) qs rs =
    flat_map-append (λ path. map (λ further. path ++ further) rs) (map (λ more. p ++ more) qs) (times ps qs)
    ∙ ap (λ l. l ++ times (times ps qs) rs) (times-begun p qs rs)
    ∙ ap (λ l. map (λ more. p ++ more) (times qs rs) ++ l) (times-assoc ps qs rs)

same : (qs : List (List Link)) → map (λ more. [] ++ more) qs ≡ qs
same [] = refl
same (q ∷ qs) = ap (λ l. q ∷ l) (same qs)

pub times-one : (qs : List (List Link)) → times ([] ∷ []) qs ≡ qs
times-one qs = append-nil (map (λ more. [] ++ more) qs) ∙ same qs

pub times-end : (ps : List (List Link)) → times ps ([] ∷ []) ≡ ps
times-end [] = refl
times-end (p ∷ ps) = ap (λ x. x ∷ times ps ([] ∷ [])) (append-nil p) ∙ ap (λ l. p ∷ l) (times-end ps)

-- how many they are
pub length-begun : (p : List Link) (qs : List (List Link)) → length (map (λ more. p ++ more) qs) ≡ length qs
length-begun p qs = length-map qs (λ more. p ++ more)

sum_is : (a b : ℕ) → a + b * a ≡ suc b * a
sum_is a b = rw (suc-mul b a) (omega arith)

pub length-times : (ps qs : List (List Link)) → length (times ps qs) ≡ length ps * length qs
length-times [] qs = sym (zero-mul (length qs))
length-times (p ∷ ps) qs =
    length-append (map (λ more. p ++ more) qs) (times ps qs)
    ∙ ap (λ n. n + length (times ps qs)) (length-begun p qs)
    ∙ ap (λ n. length qs + n) (length-times ps qs)
    ∙ sum_is (length qs) (length ps)

abbrev Code : Type 0
Code = List (Vec code.Link Global)

views-append : (out more : Code) → path_views (out ++ more) ≡ path_views out ++ path_views more
views-append out more = map-append path_view out more

pub product-step : (ps further out more after : Code) (i : ℕ) (p : Vec code.Link Global) (q : List code.Link) (whole : List (List Link))
    → i < length ps → p ≡ get_or ps i p → q ≡ p.items → path_views more ≡ map (λ m. map link_view q ++ m) (path_views further) → after ≡ out ++ more
    → path_views out ++ times (path_views (drop i ps)) (path_views further) ≡ whole
    → path_views after ++ times (path_views (drop (i + 1) ps)) (path_views further) ≡ whole
product-step ps further out more after i p q whole h k e m a g =
    ap (λ l. path_views l ++ times (path_views (drop (i + 1) ps)) (path_views further)) a
    ∙ ap (λ l. l ++ times (path_views (drop (i + 1) ps)) (path_views further)) (views-append out more)
    ∙ append_assoc (path_views out) (path_views more) (times (path_views (drop (i + 1) ps)) (path_views further))
    ∙ ap (λ l. path_views out ++ (l ++ times (path_views (drop (i + 1) ps)) (path_views further))) (m ∙ ap (λ x. map (λ m1. map link_view x ++ m1) (path_views further)) e)
    ∙ ap (λ x. path_views out ++ times (path_view x ∷ path_views (drop (i + 1) ps)) (path_views further)) k
    ∙ ap (λ l. path_views out ++ times (path_views l) (path_views further)) (sym (drop_more ps i p h))
    ∙ g

pub along-init : (all : Code) (v : Vec code.Link Global) (qs : List (List Link)) → all ≡ v ∷ [] → v.items ≡ [] → times (path_views all) qs ≡ qs
along-init all v qs e f = ap (λ l. times (path_views l) qs) e ∙ ap (λ l. times (map link_view l ∷ []) qs) f ∙ times-one qs

pub along-step : (pieces : List Inner) (i : ℕ) (x : Inner) (all further after all1 further1 : Code) (whole : List (List Link)) → i < length pieces → x ≡ get_or pieces i x
    → path_views further ≡ paths (plain_inner x) → all1 ≡ all → further1 ≡ further → path_views after ≡ times (path_views all1) (path_views further1)
    → times (path_views all) (paths_along (plain_pieces (drop i pieces))) ≡ whole
    → times (path_views after) (paths_along (plain_pieces (drop (i + 1) pieces))) ≡ whole
along-step pieces i x all further after all1 further1 whole h k f ea ef a g =
    ap (λ l. times l (paths_along (plain_pieces (drop (i + 1) pieces)))) (a ∙ ap (λ l. times (path_views l) (path_views further1)) ea ∙ ap (λ l. times (path_views all) (path_views l)) ef ∙ ap (times (path_views all)) f)
    ∙ times-assoc (path_views all) (paths (plain_inner x)) (paths_along (plain_pieces (drop (i + 1) pieces)))
    ∙ ap (λ y. times (path_views all) (paths_along (piece (plain_inner y) (plain_pieces (drop (i + 1) pieces))))) k
    ∙ ap (λ l. times (path_views all) (paths_along (plain_pieces l))) (sym (drop_more pieces i x h))
    ∙ g

pub along-end : (pieces : List Inner) (i : ℕ) (all : Code) (whole : List (List Link)) → length pieces ≤ i
    → times (path_views all) (paths_along (plain_pieces (drop i pieces))) ≡ whole → path_views all ≡ whole
along-end pieces i all whole h g = sym (times-end (path_views all)) ∙ (rw (drop_of_length-le pieces h) at g)

pub branches : (x : Piece) (t : Formula) (ys ns ys1 ns1 : List Inner) (out more after yes_paths no_paths yes1 no1 : Code) → x ≡ piece_if t (plain_pieces ys) (plain_pieces ns) → ys1 ≡ ys → ns1 ≡ ns
    → path_views yes_paths ≡ paths_along (plain_pieces ys1) → path_views no_paths ≡ paths_along (plain_pieces ns1) → yes1 ≡ yes_paths → no1 ≡ no_paths
    → path_views out ≡ map (λ path. tested t true ∷ path) (path_views yes1) → path_views more ≡ map (λ path. tested t false ∷ path) (path_views no1)
    → after ≡ out ++ more → path_views after ≡ paths x
branches x t ys ns ys1 ns1 out more after yes_paths no_paths yes1 no1 e ey en y n y1 n1 o m a =
    ap path_views a ∙ views-append out more
    ∙ ap (λ l. l ++ path_views more) (o ∙ ap (map (λ path. tested t true ∷ path)) (ap path_views y1 ∙ y ∙ ap (λ l. paths_along (plain_pieces l)) ey))
    ∙ ap (λ l. map (λ path. tested t true ∷ path) (paths_along (plain_pieces ys)) ++ l) (m ∙ ap (map (λ path. tested t false ∷ path)) (ap path_views n1 ∙ n ∙ ap (λ l. paths_along (plain_pieces l)) en))
    ∙ ap paths (sym e)
