-- Parts by number, taken in one after the other.
use Rattle.std.proofs.Common.{◌≡◌, ℕ, ◌+◌, ◌<◌, ◌≤◌, Bool, true, false, not, List, [], ◌∷◌, ◌++◌, length, drop, get_or, refl, ap, subst, ◌∙◌, sym, Option, Some, arith}
use Rattle.std.specs.Option.{option_map}
use Rattle.std.proofs.lemmas.List.{drop_all, drop_more}
use Rattle.std.proofs.lemmas.List.Elements.{All-append, All-push}
use Rattle.st_form.specs.Formula.{Formula, Formulas, truth_value, row, equal, bool_var, at, negation, every, some, none, more}
use Rattle.st_form.specs.Plain.{plain, plain_list}
use Rattle.st_form.specs.Simple.{append, parts, gathered, closed, joined_parts, simple, simples, signed, TakesPart, Decided}
use Rattle.st_form.specs.declared.formulas.Form.{Form}
use Rattle.st_form.proofs.Simples.{gathered-goes, gathered-stops, simples-more, takes-true, takes-false, append-none}
use Rattle.form_table.specs.Table.{formula, listed, joined, Is, Extends, AreThere}
use Rattle.form_table.specs.Nodes.{IsNode, Kept, formulas_in, parts_at, line}
use Rattle.form_table.specs.declared.nodes.Node.TheVariants.{Truth, Row, Equal, BoolVar, At, And, Or}
use Rattle.form_table.proofs.Making.{listed-later, below-there}

pub listed-append : (ts : List Formula) (ns ms : List ℕ) → listed ts (ns ++ ms) ≡ append (listed ts ns) (listed ts ms)
listed-append ts [] ms = refl
listed-append ts (n ∷ ns) ms = ap (more (formula ts n)) (listed-append ts ns ms)

-- a part as it is, and the parts of a part
abbrev IsPart : Bool → Formula → Type 0
IsPart all f = parts all f ≡ Some (more f none)

part-signed : (all plus : Bool) (f : Formula) → IsPart all f → IsPart all (negation f) → IsPart all (signed plus f)
part-signed all true f h k = h
part-signed all false f h k = k

of-node : (all : Bool) (t : Kept) (n : ℕ) (f : Formula) → formula (formulas_in t) n ≡ f → IsPart all f → IsPart all (formula (formulas_in t) n)
of-node all t n f h k = let P : Formula → Type 0 = λ g. IsPart all g in subst P (sym h) k

pub part-row : (all : Bool) (t : Kept) (n l : ℕ) → IsNode t n (Row l) → parts all (formula (formulas_in t) n) ≡ Some (more (formula (formulas_in t) n) none)
part-row all t n l h = of-node all t n (row (line t.lines l)) h.same refl

pub part-equal : (all : Bool) (t : Kept) (n l : ℕ) → IsNode t n (Equal l) → parts all (formula (formulas_in t) n) ≡ Some (more (formula (formulas_in t) n) none)
part-equal all t n l h = of-node all t n (equal (line t.lines l)) h.same refl

pub part-bool : (all : Bool) (t : Kept) (n v : ℕ) (plus : Bool) → IsNode t n (BoolVar v plus) → parts all (formula (formulas_in t) n) ≡ Some (more (formula (formulas_in t) n) none)
part-bool all t n v plus h = of-node all t n (signed plus (bool_var v)) h.same (part-signed all plus (bool_var v) refl refl)

pub part-at : (all : Bool) (t : Kept) (n v : ℕ) (plus : Bool) → IsNode t n (At v plus) → parts all (formula (formulas_in t) n) ≡ Some (more (formula (formulas_in t) n) none)
part-at all t n v plus h = of-node all t n (signed plus (at v)) h.same (part-signed all plus (at v) refl refl)

pub part-and : (all : Bool) (t : Kept) (n a b : ℕ) → IsNode t n (And a b) → all ≡ false → parts all (formula (formulas_in t) n) ≡ Some (more (formula (formulas_in t) n) none)
part-and false t n a b h k = of-node false t n (every (listed (formulas_in t) (parts_at t.parts a b))) h.same refl
part-and true t n a b h k = absurd (cc)

pub part-or : (all : Bool) (t : Kept) (n a b : ℕ) → IsNode t n (Or a b) → all ≡ true → parts all (formula (formulas_in t) n) ≡ Some (more (formula (formulas_in t) n) none)
part-or true t n a b h k = of-node true t n (some (listed (formulas_in t) (parts_at t.parts a b))) h.same refl
part-or false t n a b h k = absurd (cc)

pub parts-and : (all : Bool) (t : Kept) (n a b : ℕ) → IsNode t n (And a b) → all ≡ true → parts all (formula (formulas_in t) n) ≡ Some (listed (formulas_in t) (parts_at t.parts a b))
parts-and true t n a b h k = ap (parts true) h.same
parts-and false t n a b h k = absurd (cc)

pub parts-or : (all : Bool) (t : Kept) (n a b : ℕ) → IsNode t n (Or a b) → all ≡ false → parts all (formula (formulas_in t) n) ≡ Some (listed (formulas_in t) (parts_at t.parts a b))
parts-or false t n a b h k = ap (parts false) h.same
parts-or true t n a b h k = absurd (cc)

pub within-and : (t : Kept) (n a b : ℕ) → IsNode t n (And a b) → a + b ≤ length t.parts
within-and t n a b h = h.formed.within

pub within-or : (t : Kept) (n a b : ℕ) → IsNode t n (Or a b) → a + b ≤ length t.parts
within-or t n a b h = h.formed.within

pub there-and : (t : Kept) (n a b : ℕ) → IsNode t n (And a b) → n < length (formulas_in t) → AreThere (formulas_in t) (parts_at t.parts a b)
there-and t n a b h l = below-there n (formulas_in t) (parts_at t.parts a b) (omega (arith, l)) h.formed.below

pub there-or : (t : Kept) (n a b : ℕ) → IsNode t n (Or a b) → n < length (formulas_in t) → AreThere (formulas_in t) (parts_at t.parts a b)
there-or t n a b h l = below-there n (formulas_in t) (parts_at t.parts a b) (omega (arith, l)) h.formed.below

-- ---- what taking a part in does
pub takes-put : (all : Bool) (ts : List Formula) (old new : List ℕ) (n : ℕ) → new ≡ old ++ n ∷ [] → parts all (formula ts n) ≡ Some (more (formula ts n) none)
    → TakesPart true (listed ts old) (listed ts new) (parts all (formula ts n))
takes-put all ts old new n e h = rw h (refl, ap (listed ts) e ∙ listed-append ts old (n ∷ []))

pub takes-parts : (all : Bool) (ts : List Formula) (old new ks : List ℕ) (n : ℕ) → new ≡ old ++ ks → parts all (formula ts n) ≡ Some (listed ts ks)
    → TakesPart true (listed ts old) (listed ts new) (parts all (formula ts n))
takes-parts all ts old new ks n e h = rw h (refl, ap (listed ts) e ∙ listed-append ts old ks)

pub takes-constant-true : (all : Bool) (t : Kept) (n : ℕ) (b : Bool) (old : Formulas) → IsNode t n (Truth b) → b ≡ true → TakesPart all old old (parts all (formula (formulas_in t) n))
takes-constant-true all t n b old h e = let P : Formula → Type 0 = λ f. TakesPart all old old (parts all f) in subst P (sym (h.same ∙ ap truth_value e)) (takes-true all old)

pub takes-constant-false : (all : Bool) (t : Kept) (n : ℕ) (b : Bool) (old : Formulas) → IsNode t n (Truth b) → b ≡ false → TakesPart (not all) old old (parts all (formula (formulas_in t) n))
takes-constant-false all t n b old h e = let P : Formula → Type 0 = λ f. TakesPart (not all) old old (parts all f) in subst P (sym (h.same ∙ ap truth_value e)) (takes-false all old)

pub there-put : (ts : List Formula) (old new : List ℕ) (n : ℕ) → new ≡ old ++ n ∷ [] → AreThere ts old → n < length ts → AreThere ts new
there-put ts old new n e h l = let P : List ℕ → Type 0 = λ x. AreThere ts x in subst P (sym e) (All-push (λ i. i < length ts) old n h l)

pub there-parts : (ts : List Formula) (old new ks : List ℕ) → new ≡ old ++ ks → AreThere ts old → AreThere ts ks → AreThere ts new
there-parts ts old new ks e h k = let P : List ℕ → Type 0 = λ x. AreThere ts x in subst P (sym e) (All-append (λ i. i < length ts) old ks h k)

pub there-later : (ts us : List Formula) (ns : List ℕ) → Extends ts us → AreThere ts ns → AreThere us ns
there-later ts us ns e h = below-there (length ts) us ns e.longer h

-- ---- a step of a loop over parts: the table has grown from ts to us, and the part's number is n
pub now : (all : Bool) (ts us : List Formula) (out : List ℕ) (n : ℕ) (left rest : Formulas) (whole : Option Formulas)
    → Extends ts us → AreThere ts out → left ≡ more (formula us n) rest → option_map (append (listed ts out)) (gathered all left) ≡ whole
    → option_map (append (listed us out)) (gathered all (more (formula us n) rest)) ≡ whole
now all ts us out n left rest whole x h m k =
    ap (λ o. option_map (append o) (gathered all (more (formula us n) rest))) (listed-later ts us out x h)
    ∙ ap (λ g. option_map (append (listed ts out)) (gathered all g)) (sym m) ∙ k

pub goes-on : (all goes : Bool) (ts us : List Formula) (out new : List ℕ) (n : ℕ) (left rest : Formulas) (whole : Option Formulas)
    → Extends ts us → AreThere ts out → left ≡ more (formula us n) rest → option_map (append (listed ts out)) (gathered all left) ≡ whole
    → TakesPart goes (listed us out) (listed us new) (parts all (formula us n)) → goes ≡ true → option_map (append (listed us new)) (gathered all rest) ≡ whole
goes-on all goes ts us out new n left rest whole x h m k takes g =
    gathered-goes all goes (listed us out) (listed us new) (formula us n) rest whole takes g (now all ts us out n left rest whole x h m k)

pub stops : (all goes : Bool) (ts us : List Formula) (out new : List ℕ) (n : ℕ) (left rest : Formulas) (whole : Option Formulas)
    → Extends ts us → AreThere ts out → left ≡ more (formula us n) rest → option_map (append (listed ts out)) (gathered all left) ≡ whole
    → TakesPart goes (listed us out) (listed us new) (parts all (formula us n)) → goes ≡ false → truth_value (not all) ≡ joined_parts all whole
stops all goes ts us out new n left rest whole x h m k takes g =
    sym (ap (joined_parts all) (gathered-stops all goes (listed us out) (listed us new) (formula us n) rest whole takes g (now all ts us out n left rest whole x h m k)))

pub ends : (all : Bool) (old left : Formulas) (whole : Option Formulas) → left ≡ none → option_map (append old) (gathered all left) ≡ whole → closed all old ≡ joined_parts all whole
ends all old left whole e h = ap (closed all) (sym (append-none old)) ∙ ap (λ g. joined_parts all (option_map (append old) (gathered all g))) (sym e) ∙ ap (joined_parts all) h

-- what is left of a list of formulas of the program
pub next-form : (d : Decided) (plus : Bool) (fs : List Form) (i : ℕ) (f : Form) (g : Formula) → i < length fs → f ≡ get_or fs i f → g ≡ simple d (plain f) plus
    → simples d (plain_list (drop i fs)) plus ≡ more g (simples d (plain_list (drop (i + 1) fs)) plus)
next-form d plus fs i f g l e m = simples-more d plus fs i f l e ∙ ap (λ x. more x (simples d (plain_list (drop (i + 1) fs)) plus)) (sym m)

pub no-form : (d : Decided) (plus : Bool) (fs : List Form) (i : ℕ) → length fs ≤ i → simples d (plain_list (drop i fs)) plus ≡ none
no-form d plus fs i l = ap (λ x. simples d (plain_list x) plus) (drop_all i fs l)

-- what is left of a list of numbers
pub next-part : (d : Decided) (ts : List Formula) (ns : List ℕ) (i : ℕ) (g : Formula) → i < length ns → g ≡ simple d (formula ts (get_or ns i 0)) true
    → simples d (listed ts (drop i ns)) true ≡ more g (simples d (listed ts (drop (i + 1) ns)) true)
next-part d ts ns i g l m =
    ap (λ x. simples d (listed ts x) true) (drop_more ns i 0 l) ∙ ap (λ x. more x (simples d (listed ts (drop (i + 1) ns)) true)) (sym m)

pub no-part : (d : Decided) (ts : List Formula) (ns : List ℕ) (i : ℕ) → length ns ≤ i → simples d (listed ts (drop i ns)) true ≡ none
no-part d ts ns i l = ap (λ x. simples d (listed ts x) true) (drop_all i ns l)

-- ---- closing
pub closed-two : (all : Bool) (ts : List Formula) (ns : List ℕ) → 2 ≤ length ns → joined all (listed ts ns) ≡ closed all (listed ts ns)
closed-two all ts [] h = absurd (omega (arith, h))
closed-two all ts (n ∷ []) h = absurd (omega (arith, h))
closed-two true ts (n ∷ m ∷ ns) h = refl
closed-two false ts (n ∷ m ∷ ns) h = refl

pub is-same : (ts : List Formula) (n : ℕ) (f g : Formula) → f ≡ g → Is ts n f → Is ts n g
is-same ts n f g e h = (h.0, h.1 ∙ e)

pub ruleset taking = (part-row, part-equal, part-bool, part-at, part-and, part-or, parts-and, parts-or, within-and, within-or, there-and, there-or, takes-constant-true, takes-constant-false)
