-- A tree stands for one program: parts without numbers by what they mean, and numbered ones by the order of the text.
use Rattle.std.proofs.Common.{◌≡◌, ℕ, suc, ◌+◌, List, [], ◌∷◌, ◌++◌, length, refl, sym, ap, subst, ◌∙◌, Option, Some, None}
use Rattle.st_form.specs.Formula.{Formula, truth_value}
use Rattle.st_reading.specs.Reading.{Label}
use Rattle.st_program.specs.Tree.{Term, truth, Pieces, piece_assign, piece_await, piece_if, no_piece, piece, Statement, stated, Action, assign, await, request, release, if_then, if_else, while_do, block, select, cooperate, group, Statements, statement, Processes, process, beside}
use Rattle.st_program.specs.Locations.{location_end, along_end, IsPlaced, WithinPlaced, InsidePlaced}
use Rattle.expression_parser.specs.ExpressionTree.{Expr}
use Rattle.spl_parser.specs.ProgramTree as raw
use Rattle.expression_typer.specs.Scope.{Known}
use Rattle.expression_typer.specs.Rules.{meaning}
use Rattle.spl_typer.specs.Statements.{pieces_behind}
use Rattle.spl_typer.specs.Programs.{Labels}
use Rattle.spl_typer.proofs.Holding.{own_or, begun}
use Rattle.program_meaning.specs.Meaning.{IsChange, AreChanges, no_change, change, act_of, IsInner, inner_skip, inner_assign, inner_assign_all, inner_await, inner_if, inner_if_else, inner_block, AreInner, no_inner, one_inner, label_at, IsStatement, is_stated, IsAction, is_skip, is_critical, is_noncritical, is_assign, is_assign_all, is_await, is_request, is_release, is_if, is_if_else, is_while, is_loop, is_block, is_select, is_cooperate, is_group, AreStatements, no_more, one_more, is_body, AreBodies, no_body, one_body}
use Rattle.program_meaning.proofs.Numbering.{occs, occs_in, occs_all, occs_of, Rises, rises_split, InRow, along_row, among_row, head_row}

-- PARTS WITHOUT NUMBERS
variable_once : (o : Option ℕ) (v w : ℕ) → o ≡ Some v → o ≡ Some w → v ≡ w
variable_once o v w e f = cc

term_once : (o : Option Term) (x y : Term) → o ≡ Some x → o ≡ Some y → x ≡ y
term_once o x y e f = cc

pub test_once : (o : Option Term) (f g : Formula) → o ≡ Some (truth f) → o ≡ Some (truth g) → f ≡ g
test_once o f g h k = cc

pair_once : (x y : ℕ × Term) → x.0 ≡ y.0 → x.1 ≡ y.1 → x ≡ y
pair_once x y e f = λ i. (e i, f i)

change_once : (s : List Known) (n : Label) (e : Expr) (x y : ℕ × Term) → IsChange s n e x → IsChange s n e y → x ≡ y
change_once s n e x y h k = pair_once x y (variable_once _ x.0 y.0 h.0 k.0) (term_once (meaning s e) x.1 y.1 h.1 k.1)

changes_once : (s : List Known) (ns : List Label) (es : List Expr) (xs ys : List (ℕ × Term)) → AreChanges s ns es xs → AreChanges s ns es ys → xs ≡ ys
changes_once s ns es xs ys no_change no_change = refl
changes_once s ns es xs ys (change {n = n} {ns = ms} {e = e} {es = ds} {x = x} {xs = us} h hs) (change {x = y} {xs = vs} k ks) =
    ap (λ z. z ∷ us) (change_once s n e x y h k) ∙ ap (λ z. y ∷ z) (changes_once s ms ds us vs hs ks)

branched : (f g : Formula) (ys zs ns ms : Pieces) → f ≡ g → ys ≡ zs → ns ≡ ms → piece (piece_if f ys ns) no_piece ≡ piece (piece_if g zs ms) no_piece
branched f g ys zs ns ms e d c = ap (λ z. piece (piece_if z ys ns) no_piece) e ∙ ap (λ z. piece (piece_if g z ns) no_piece) d ∙ ap (λ z. piece (piece_if g zs z) no_piece) c

mutual
  inner_once : (s : List Known) (x : raw.Action) (xs ys : Pieces) → IsInner s x xs → IsInner s x ys → xs ≡ ys
  inner_once s x xs ys inner_skip inner_skip = refl
  inner_once s x xs ys (inner_assign {n = n} {e = e} {x = a} h) (inner_assign {x = b} k) = ap (λ z. piece (piece_assign (z ∷ [])) no_piece) (change_once s n e a b h k)
  inner_once s x xs ys (inner_assign_all {ns = ns} {es = es} {xs = us} h) (inner_assign_all {xs = bs} k) = ap (λ z. piece (piece_assign z) no_piece) (changes_once s ns es us bs h k)
  inner_once s x xs ys (inner_await {e = e} {f = f} h) (inner_await {f = g} k) = ap (λ z. piece (piece_await z) no_piece) (test_once (meaning s e) f g h k)
  inner_once s x xs ys (inner_if {e = e} {f = f} {y = y} {ys = us} t h) (inner_if {f = g} {ys = bs} u k) =
      branched f g us bs no_piece no_piece (test_once (meaning s e) f g t u) (inner_once s (act_of y) us bs h k) refl
  inner_once s x xs ys (inner_if_else {e = e} {f = f} {y = y} {n = n} {ys = us} {ns = cs} t h i) (inner_if_else {f = g} {ys = bs} {ns = ds} u k j) =
      branched f g us bs cs ds (test_once (meaning s e) f g t u) (inner_once s (act_of y) us bs h k) (inner_once s (act_of n) cs ds i j)
  inner_once s x xs ys (inner_block {ss = ss} h) (inner_block k) = row_inner_once s ss xs ys h k

  row_inner_once : (s : List Known) (ss : raw.Statements) (xs ys : Pieces) → AreInner s ss xs → AreInner s ss ys → xs ≡ ys
  row_inner_once s ss xs ys no_inner no_inner = refl
  row_inner_once s ss xs ys (one_inner {x = x} {ss = rest} {ys = us} {zs = cs} h hs) (one_inner {ys = bs} {zs = ds} k ks) =
      ap (λ z. pieces_behind z cs) (inner_once s (act_of x) us bs h k) ∙ ap (λ z. pieces_behind bs z) (row_inner_once s rest cs ds hs ks)

-- NUMBERED PARTS
abbrev Numbers : ℕ → ℕ → ℕ → Statement → Type 0
Numbers n own next a = Rises n (occs a) × IsPlaced a own next

abbrev Inside : ℕ → ℕ → ℕ → Action → Type 0
Inside n own next a = Rises n (occs_in a) × WithinPlaced a own next

abbrev Along : ℕ → Option ℕ → Option ℕ → ℕ → Statements → Type 0
Along n own others next xs = Rises n (occs_all xs) × InRow own others xs next

abbrev pub Beside : ℕ → ℕ → Processes → Type 0
Beside n next ps = Rises n (occs_of ps) × InsidePlaced ps next

-- one tree, with one list of labels
abbrev Same : {A : Type 0} → A → A → Labels → Labels → Type 0
Same a b ls ms = (a ≡ b) × (ls ≡ ms)

stated_same : (label : Option Label) (o p l m : ℕ) (a b : Action) (ls ms : Labels) → o ≡ p → l ≡ m → Same a b ls ms
    → Same (stated o l a) (stated p m b) (label_at label l (Some o) ++ ls) (label_at label m (Some p) ++ ms)
stated_same label o p l m a b ls ms e f h = (
  ap (λ z. stated z l a) e ∙ ap (λ z. stated p z a) f ∙ ap (λ z. stated p m z) h.0,
  ap (λ z. label_at label l (Some z) ++ ls) e ∙ ap (λ z. label_at label z (Some p) ++ ls) f ∙ ap (λ z. label_at label m (Some p) ++ z) h.1,
)

both_same : {A B C : Type 0} (f : A → B → C) (a b : A) (c d : B) (ls ms js ks : Labels) → Same a b ls ms → Same c d js ks → Same (f a c) (f b d) (ls ++ js) (ms ++ ks)
both_same f a b c d ls ms js ks h k = (ap (λ z. f z c) h.0 ∙ ap (λ z. f b z) k.0, ap (λ z. z ++ js) h.1 ∙ ap (λ z. ms ++ z) k.1)

tested_same : {A B : Type 0} (c : Formula → A → B) (f g : Formula) (a b : A) (ls ms : Labels) → f ≡ g → Same a b ls ms → Same (c f a) (c g b) ls ms
tested_same c f g a b ls ms e h = (ap (λ z. c z a) e ∙ ap (λ z. c g z) h.0, h.1)

pub body_same : (xs ys : Statements) (l m next : ℕ) (end : Option Label) (ls ms : Labels) → l ≡ along_end xs next → m ≡ along_end ys next → Same xs ys ls ms
    → Same (process xs l) (process ys m) (ls ++ label_at end l None) (ms ++ label_at end m None)
body_same xs ys l m next end ls ms e f h =
    let g : l ≡ m = e ∙ ap (λ z. along_end z next) h.0 ∙ sym f in
    (ap (λ z. process z l) h.0 ∙ ap (λ z. process ys z) g, ap (λ z. z ++ label_at end l None) h.1 ∙ ap (λ z. ms ++ label_at end z None) g)

-- what stands behind one body is numbered from one place on
pub next_same : (xs ys : Statements) (l m n next : ℕ) (ps : Processes) → l ≡ along_end xs next → m ≡ along_end ys next → xs ≡ ys → Beside (n + length (occs_all ys)) (suc m) ps → Beside (n + length (occs_all xs)) (suc l) ps
next_same xs ys l m n next ps e f g h =
    let k : m ≡ l = f ∙ ap (λ z. along_end z next) (sym g) ∙ sym e in
    subst (λ z. Beside (n + length (occs_all z)) (suc l) ps) (sym g) (subst (λ z. Beside (n + length (occs_all ys)) (suc z) ps) k h)

mutual
  statement_once : (s : List Known) (x : raw.Statement) (a b : Statement) (ls ms : Labels) (n own next : ℕ) → IsStatement s x a ls → IsStatement s x b ms → Numbers n own next a → Numbers n own next b → Same a b ls ms
  statement_once s x a b ls ms n own next (is_stated {label = label} {act = act} {o = o} {l = l} {a = c} {ls = js} h) (is_stated {o = p} {l = m} {a = d} {ls = ks} k) u v =
      stated_same label o p l m c d js ks (u.0.0 ∙ sym v.0.0) (u.1.0 ∙ sym v.1.0) (action_once s act c d js ks (suc n) own next h k (u.0.1, u.1.1) (v.0.1, v.1.1))

  action_once : (s : List Known) (x : raw.Action) (a b : Action) (ls ms : Labels) (n own next : ℕ) → IsAction s x a ls → IsAction s x b ms → Inside n own next a → Inside n own next b → Same a b ls ms
  action_once s x a b ls ms n own next is_skip is_skip u v = (refl, refl)
  action_once s x a b ls ms n own next is_critical is_critical u v = (refl, refl)
  action_once s x a b ls ms n own next is_noncritical is_noncritical u v = (refl, refl)
  action_once s x a b ls ms n own next (is_assign {n = name} {e = e} {x = c} h) (is_assign {x = d} k) u v = (ap (λ z. assign (z ∷ [])) (change_once s name e c d h k), refl)
  action_once s x a b ls ms n own next (is_assign_all {ns = ns} {es = es} {xs = c} h) (is_assign_all {xs = d} k) u v = (ap assign (changes_once s ns es c d h k), refl)
  action_once s x a b ls ms n own next (is_await {e = e} {f = f} h) (is_await {f = g} k) u v = (ap await (test_once (meaning s e) f g h k), refl)
  action_once s x a b ls ms n own next (is_request {n = name} {v = i} h) (is_request {v = j} k) u v = (ap request (variable_once _ i j h k), refl)
  action_once s x a b ls ms n own next (is_release {n = name} {v = i} h) (is_release {v = j} k) u v = (ap release (variable_once _ i j h k), refl)
  action_once s x a b ls ms n own next (is_if {e = e} {f = f} {y = y} {a = c} t h) (is_if {f = g} {a = d} w k) u v =
      tested_same if_then f g c d ls ms (test_once (meaning s e) f g t w) (statement_once s y c d ls ms n next (suc next) h k u v)
  action_once s x a b ls ms n own next (is_if_else {e = e} {f = f} {y = y} {n = z} {a = c} {b = c1} {ls = js} {ms = js1} t h i) (is_if_else {f = g} {a = d} {b = d1} {ls = ks} {ms = ks1} w k j) u v =
      let p = rises_split n (occs c) (occs c1) u.0 in
      let q = rises_split n (occs d) (occs d1) v.0 in
      let r = statement_once s y c d js ks n next (suc next) h k (p.0, u.1.0) (q.0, v.1.0) in
      let m : Numbers (n + length (occs c)) (location_end c (suc next)) (suc (location_end c (suc next))) d1 =
      subst (λ y. Numbers (n + length (occs y)) (location_end y (suc next)) (suc (location_end y (suc next))) d1) (sym r.0) (q.1, v.1.1) in
      let r1 = statement_once s z c1 d1 js1 ks1 (n + length (occs c)) (location_end c (suc next)) (suc (location_end c (suc next))) i j (p.1, u.1.1) m in
      let h1 = both_same (if_else f) c d c1 d1 js ks js1 ks1 r r1 in
      (h1.0 ∙ ap (λ y. if_else y d d1) (test_once (meaning s e) f g t w), h1.1)
  action_once s x a b ls ms n own next (is_while {e = e} {f = f} {y = y} {a = c} t h) (is_while {f = g} {a = d} w k) u v =
      tested_same while_do f g c d ls ms (test_once (meaning s e) f g t w) (statement_once s y c d ls ms n next (suc next) h k u v)
  action_once s x a b ls ms n own next (is_loop {y = y} {a = c} h) (is_loop {a = d} k) u v =
      tested_same while_do (truth_value _) (truth_value _) c d ls ms refl (statement_once s y c d ls ms n next (suc next) h k u v)
  action_once s x a b ls ms n own next (is_block {ss = ss} {xs = c} h) (is_block {xs = d} k) u v =
      let r = row_once s ss c d ls ms n (Some own) None next h k (u.0, head_row own c next u.1) (v.0, head_row own d next v.1) in (ap block r.0, r.1)
  action_once s x a b ls ms n own next (is_select {ss = ss} {xs = c} h) (is_select {xs = d} k) u v =
      let r = row_once s ss c d ls ms n (Some own) (Some own) next h k (u.0, among_row own c next u.1) (v.0, among_row own d next v.1) in (ap select r.0, r.1)
  action_once s x a b ls ms n own next (is_cooperate {bs = bs} {ps = c} h) (is_cooperate {ps = d} k) u v =
      let r = bodies_once s bs c d ls ms n next h k (u.0, u.1.1) (v.0, v.1.1) in (ap cooperate r.0, r.1)
  action_once s x a b ls ms n own next (is_group {ss = ss} {xs = c} h) (is_group {xs = d} k) u v = (ap group (row_inner_once s ss c d h k), refl)

  pub row_once : (s : List Known) (ss : raw.Statements) (xs ys : Statements) (ls ms : Labels) (n : ℕ) (own others : Option ℕ) (next : ℕ) → AreStatements s ss xs ls → AreStatements s ss ys ms → Along n own others next xs → Along n own others next ys → Same xs ys ls ms
  row_once s ss xs ys ls ms n own others next no_more no_more u v = (refl, refl)
  row_once s ss xs ys ls ms n own others next (one_more {x = x} {ss = rest} {a = a} {xs = us} {ls = js} {ms = js1} h hs) (one_more {a = b} {xs = bs} {ls = ks} {ms = ks1} k ks0) u v =
      let p = rises_split n (occs a) (occs_all us) u.0 in
      let q = rises_split n (occs b) (occs_all bs) v.0 in
      let r = statement_once s x a b js ks n (own_or own next) (begun own next) h k (p.0, u.1.0) (q.0, v.1.0) in
      let m : Along (n + length (occs a)) others others (location_end a (begun own next)) bs =
      subst (λ y. Along (n + length (occs y)) others others (location_end y (begun own next)) bs) (sym r.0) (q.1, v.1.1) in
      both_same statement a b us bs js ks js1 ks1 r (row_once s rest us bs js1 ks1 (n + length (occs a)) others others (location_end a (begun own next)) hs ks0 (p.1, u.1.1) m)

  bodies_once : (s : List Known) (bs : raw.Bodies) (ps qs : Processes) (ls ms : Labels) (n next : ℕ) → AreBodies s bs ps ls → AreBodies s bs qs ms → Beside n next ps → Beside n next qs → Same ps qs ls ms
  bodies_once s bs ps qs ls ms n next no_body no_body u v = (refl, refl)
  bodies_once s bs ps qs ls ms n next (one_body {bs = rest} {ps = us} {ms = js1} (is_body {ss = ss} {xs = xs} {end = end} {l = l} {ls = js} h) hs) (one_body {ps = cs} {ms = ks1} (is_body {xs = ys} {l = m} {ls = ks} k) ks0) u v =
      let p = rises_split n (occs_all xs) (occs_of us) u.0 in
      let q = rises_split n (occs_all ys) (occs_of cs) v.0 in
      let r = row_once s ss xs ys js ks n None None next h k (p.0, along_row xs next u.1.0) (q.0, along_row ys next v.1.0) in
      let t = body_same xs ys l m next end js ks u.1.1 v.1.1 r in
      let w : Beside (n + length (occs_all xs)) (suc l) cs = next_same xs ys l m n next cs u.1.1 v.1.1 r.0 (q.1, v.1.2) in
      both_same beside (process xs l) (process ys m) us cs (js ++ label_at end l None) (ks ++ label_at end m None) js1 ks1 t (bodies_once s rest us cs js1 ks1 (n + length (occs_all xs)) (suc l) hs ks0 (p.1, u.1.2) w)
