-- Disjunctions among conjuncts, and the parts of a disjunct.
use Rattle.std.proofs.Common.{◌≡◌, ℕ, ◌+◌, ◌<◌, ◌≤◌, Bool, true, false, List, [], ◌∷◌, length, take, drop, get_or, refl, ap, ◌∙◌, sym, Option, Some, None, arith}
use Rattle.std.specs.Prelude.{◌-◌, ◌==◌}
use Rattle.std.proofs.lemmas.List.{drop_more, drop_all, take_more}
use Rattle.st_form.specs.Formula.{Formula, Formulas, truth_value, row, equal, bool_var, at, some, none, more}
use Rattle.st_form.specs.Simple.{append, opened, signed}
use Rattle.farkas_check.specs.Problem.{disjuncts_of, in_place, split_by, split_from}
use Rattle.form_table.specs.Table.{formula, listed, AreThere}
use Rattle.form_table.specs.Nodes.{IsNode, Kept, formulas_in, parts_at, line}
use Rattle.form_table.specs.declared.nodes.Node.TheVariants.{Truth, Row, Equal, BoolVar, At, And, Or}
use Rattle.form_table.proofs.Making.{below-there}
use Rattle.form_table.proofs.Taking.{listed-append}

divide-signed-bool : (plus : Bool) (v : ℕ) → disjuncts_of (signed plus (bool_var v)) ≡ None
divide-signed-bool true v = refl
divide-signed-bool false v = refl

divide-signed-at : (plus : Bool) (l : ℕ) → disjuncts_of (signed plus (at l)) ≡ None
divide-signed-at true l = refl
divide-signed-at false l = refl

pub divide-truth : (t : Kept) (n : ℕ) (b : Bool) → IsNode t n (Truth b) → None ≡ disjuncts_of (formula (formulas_in t) n)
divide-truth t n b h = sym (ap disjuncts_of h.same)

pub divide-row : (t : Kept) (n l : ℕ) → IsNode t n (Row l) → None ≡ disjuncts_of (formula (formulas_in t) n)
divide-row t n l h = sym (ap disjuncts_of h.same)

pub divide-equal : (t : Kept) (n l : ℕ) → IsNode t n (Equal l) → None ≡ disjuncts_of (formula (formulas_in t) n)
divide-equal t n l h = sym (ap disjuncts_of h.same)

pub divide-bool : (t : Kept) (n v : ℕ) (plus : Bool) → IsNode t n (BoolVar v plus) → None ≡ disjuncts_of (formula (formulas_in t) n)
divide-bool t n v plus h = sym (ap disjuncts_of h.same ∙ divide-signed-bool plus v)

pub divide-at : (t : Kept) (n l : ℕ) (plus : Bool) → IsNode t n (At l plus) → None ≡ disjuncts_of (formula (formulas_in t) n)
divide-at t n l plus h = sym (ap disjuncts_of h.same ∙ divide-signed-at plus l)

pub divide-and : (t : Kept) (n a b : ℕ) → IsNode t n (And a b) → None ≡ disjuncts_of (formula (formulas_in t) n)
divide-and t n a b h = sym (ap disjuncts_of h.same)

pub divide-or : (t : Kept) (n a b : ℕ) → IsNode t n (Or a b) → Some (listed (formulas_in t) (parts_at t.parts a b)) ≡ disjuncts_of (formula (formulas_in t) n)
divide-or t n a b h = sym (ap disjuncts_of h.same)

pub divide-within : (t : Kept) (n a b : ℕ) → IsNode t n (Or a b) → a + b ≤ length t.parts
divide-within t n a b h = h.formed.within

pub divide-there : (t : Kept) (n a b : ℕ) → IsNode t n (Or a b) → n < length (formulas_in t) → AreThere (formulas_in t) (parts_at t.parts a b)
divide-there t n a b h l = below-there n (formulas_in t) (parts_at t.parts a b) (omega (arith, l)) h.formed.below

pub ruleset dividing = (divide-truth, divide-row, divide-equal, divide-bool, divide-at, divide-and, divide-or, divide-within, divide-there)

-- ---- a formula that is no conjunction is its own part
open-signed-bool : (plus : Bool) (v : ℕ) → opened (signed plus (bool_var v)) ≡ more (signed plus (bool_var v)) none
open-signed-bool true v = refl
open-signed-bool false v = refl

open-signed-at : (plus : Bool) (l : ℕ) → opened (signed plus (at l)) ≡ more (signed plus (at l)) none
open-signed-at true l = refl
open-signed-at false l = refl

alone : (f g : Formula) (gs : Formulas) → f ≡ g → opened g ≡ more g none → gs ≡ more f none → gs ≡ opened f
alone f g gs e h k = k ∙ ap (λ x. more x none) e ∙ sym h ∙ ap opened (sym e)

pub open-truth : (t : Kept) (n : ℕ) (b : Bool) (gs : Formulas) → IsNode t n (Truth b) → gs ≡ more (formula (formulas_in t) n) none → gs ≡ opened (formula (formulas_in t) n)
open-truth t n b gs h k = alone _ (truth_value b) gs h.same refl k

pub open-row : (t : Kept) (n l : ℕ) (gs : Formulas) → IsNode t n (Row l) → gs ≡ more (formula (formulas_in t) n) none → gs ≡ opened (formula (formulas_in t) n)
open-row t n l gs h k = alone _ (row (line t.lines l)) gs h.same refl k

pub open-equal : (t : Kept) (n l : ℕ) (gs : Formulas) → IsNode t n (Equal l) → gs ≡ more (formula (formulas_in t) n) none → gs ≡ opened (formula (formulas_in t) n)
open-equal t n l gs h k = alone _ (equal (line t.lines l)) gs h.same refl k

pub open-bool : (t : Kept) (n v : ℕ) (plus : Bool) (gs : Formulas) → IsNode t n (BoolVar v plus) → gs ≡ more (formula (formulas_in t) n) none → gs ≡ opened (formula (formulas_in t) n)
open-bool t n v plus gs h k = alone _ (signed plus (bool_var v)) gs h.same (open-signed-bool plus v) k

pub open-at : (t : Kept) (n l : ℕ) (plus : Bool) (gs : Formulas) → IsNode t n (At l plus) → gs ≡ more (formula (formulas_in t) n) none → gs ≡ opened (formula (formulas_in t) n)
open-at t n l plus gs h k = alone _ (signed plus (at l)) gs h.same (open-signed-at plus l) k

pub open-or : (t : Kept) (n a b : ℕ) (gs : Formulas) → IsNode t n (Or a b) → gs ≡ more (formula (formulas_in t) n) none → gs ≡ opened (formula (formulas_in t) n)
open-or t n a b gs h k = alone _ (some (listed (formulas_in t) (parts_at t.parts a b))) gs h.same refl k

pub open-and : (t : Kept) (n a b : ℕ) → IsNode t n (And a b) → listed (formulas_in t) (parts_at t.parts a b) ≡ opened (formula (formulas_in t) n)
open-and t n a b h = sym (ap opened h.same)

pub open-within : (t : Kept) (n a b : ℕ) → IsNode t n (And a b) → a + b ≤ length t.parts
open-within t n a b h = h.formed.within

pub open-there : (t : Kept) (n a b : ℕ) → IsNode t n (And a b) → n < length (formulas_in t) → AreThere (formulas_in t) (parts_at t.parts a b)
open-there t n a b h l = below-there n (formulas_in t) (parts_at t.parts a b) (omega (arith, l)) h.formed.below

pub ruleset opening = (open-truth, open-row, open-equal, open-bool, open-at, open-or, open-and, open-within, open-there)

-- ---- the loop that looks for a disjunction
next : (ts : List Formula) (ns : List ℕ) (i : ℕ) → i < length ns → listed ts (drop i ns) ≡ more (formula ts (get_or ns i 0)) (listed ts (drop (i + 1) ns))
next ts ns i l = ap (listed ts) (drop_more ns i 0 l)

front : (ts : List Formula) (ns : List ℕ) (i : ℕ) → i < length ns → append (listed ts (take i ns)) (more (formula ts (get_or ns i 0)) none) ≡ listed ts (take (i + 1) ns)
front ts ns i l = sym (ap (listed ts) (take_more ns i 0 l) ∙ listed-append ts (take i ns) (get_or ns i 0 ∷ []))

at-part : (ts : List Formula) (ns : List ℕ) (i k : ℕ) → i < length ns
    → split_from (listed ts (take i ns)) k (listed ts (drop i ns)) ≡ split_by (listed ts (take i ns)) k (listed ts (drop (i + 1) ns)) (λ j. split_from (listed ts (take (i + 1) ns)) j (listed ts (drop (i + 1) ns))) (disjuncts_of (formula ts (get_or ns i 0)))
at-part ts ns i k l =
    ap (split_from (listed ts (take i ns)) k) (next ts ns i l)
    ∙ ap (λ b. split_by (listed ts (take i ns)) k (listed ts (drop (i + 1) ns)) (λ j. split_from b j (listed ts (drop (i + 1) ns))) (disjuncts_of (formula ts (get_or ns i 0)))) (front ts ns i l)

-- no disjunction: on to the next
pub past : (ts : List Formula) (ns : List ℕ) (i k : ℕ) (whole : Option (List Formulas)) → i < length ns → None ≡ disjuncts_of (formula ts (get_or ns i 0))
    → split_from (listed ts (take i ns)) k (listed ts (drop i ns)) ≡ whole → split_from (listed ts (take (i + 1) ns)) k (listed ts (drop (i + 1) ns)) ≡ whole
past ts ns i k whole l e h = let s = rw (← e) at (at-part ts ns i k l) in sym s ∙ h

-- an earlier disjunction: on to the next
pub beyond : (ts : List Formula) (ns : List ℕ) (i k : ℕ) (gs : Formulas) (whole : Option (List Formulas)) → i < length ns → Some gs ≡ disjuncts_of (formula ts (get_or ns i 0)) → (k == 0) ≡ false
    → split_from (listed ts (take i ns)) k (listed ts (drop i ns)) ≡ whole → split_from (listed ts (take (i + 1) ns)) (k - 1) (listed ts (drop (i + 1) ns)) ≡ whole
beyond ts ns i k gs whole l e z h = let s = rw (← e, z) at (at-part ts ns i k l) in sym s ∙ h

-- the disjunction
pub here : (ts : List Formula) (ns : List ℕ) (i k : ℕ) (gs : Formulas) (whole : Option (List Formulas)) → i < length ns → Some gs ≡ disjuncts_of (formula ts (get_or ns i 0)) → (k == 0) ≡ true
    → split_from (listed ts (take i ns)) k (listed ts (drop i ns)) ≡ whole → Some (in_place (listed ts (take i ns)) gs (listed ts (drop (i + 1) ns))) ≡ whole
here ts ns i k gs whole l e z h = let s = rw (← e, z) at (at-part ts ns i k l) in sym s ∙ h

pub finished : (ts : List Formula) (ns : List ℕ) (i k : ℕ) (before : Formulas) (whole : Option (List Formulas)) → length ns ≤ i
    → split_from before k (listed ts (drop i ns)) ≡ whole → None ≡ whole
finished ts ns i k before whole l h = sym (ap (λ x. split_from before k (listed ts x)) (drop_all i ns l)) ∙ h
