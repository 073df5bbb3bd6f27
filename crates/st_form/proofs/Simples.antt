-- The parts that are taken in, one after the other.
use Rattle.std.proofs.Common.{map, take, length-drop, ◌-◌, ◌≡◌, ℕ, ◌+◌, ◌<◌, ◌≤◌, Bool, true, false, List, [], ◌∷◌, ◌++◌, length, drop, get_or, refl, ap, ◌∙◌, sym, Option, Some, None, arith}
use Rattle.std.specs.Prelude.{not, option_and_then}
use Rattle.std.specs.Option.{option_map}
use Rattle.std.proofs.lemmas.List.{drop_more, take_all}
use Rattle.std.proofs.Math.ListN.{drop_of_length-le}
use Rattle.st_form.specs.Formula.{Formula, Formulas, truth_value, every, some, none, more, formulas}
use Rattle.st_form.specs.Plain.{plain, plain_list}
use Rattle.st_form.specs.Simple.{append, parts, gathered, closed, simple, simples, TakesPart, IsModest, AreModest, Decided}
use Rattle.st_form.proofs.Nodes.{plain-True, plain-False, plain-And, plain-Or, plain-Not}
use Rattle.st_form.specs.declared.formulas.Form.{Form}

pub append-none : (fs : Formulas) → append fs none ≡ fs
append-none none = refl
append-none (more f fs) = ap (more f) (append-none fs)

pub append-assoc : (fs gs hs : Formulas) → append (append fs gs) hs ≡ append fs (append gs hs)
append-assoc none gs hs = refl
append-assoc (more f fs) gs hs = ap (more f) (append-assoc fs gs hs)

pub plain_list-append : (fs gs : List Form) → plain_list (fs ++ gs) ≡ append (plain_list fs) (plain_list gs)
plain_list-append [] gs = refl
plain_list-append (f ∷ fs) gs = ap (more (plain f)) (plain_list-append fs gs)

pub takes-true : (all : Bool) (old : Formulas) → TakesPart all old old (parts all (truth_value true))
takes-true true old = (refl, sym (append-none old))
takes-true false old = refl

pub takes-false : (all : Bool) (old : Formulas) → TakesPart (not all) old old (parts all (truth_value false))
takes-false true old = refl
takes-false false old = (refl, sym (append-none old))

pub takes-push : (all : Bool) (fs : List Form) (f : Form) (p : Formula) → plain f ≡ p → parts all p ≡ Some (more p none) → TakesPart true (plain_list fs) (plain_list (fs ++ f ∷ [])) (parts all (plain f))
takes-push all fs f p h k = rw (h, k) (refl, plain_list-append fs (f ∷ []) ∙ ap (λ g. append (plain_list fs) (more g none)) h)

pub takes-append : (all : Bool) (fs gs : List Form) (f : Form) (p : Formula) → plain f ≡ p → parts all p ≡ Some (plain_list gs) → TakesPart true (plain_list fs) (plain_list (fs ++ gs)) (parts all (plain f))
takes-append all fs gs f p h k = rw (h, k) (refl, plain_list-append fs gs)

pub every-kept : (all : Bool) (gs : Formulas) → all ≡ true → parts all (every gs) ≡ Some gs
every-kept true gs h = refl
every-kept false gs h = absurd (cc)

pub some-kept : (all : Bool) (gs : Formulas) → all ≡ false → parts all (some gs) ≡ Some gs
some-kept false gs h = refl
some-kept true gs h = absurd (cc)

pub every-whole : (all : Bool) (gs : Formulas) → all ≡ false → parts all (every gs) ≡ Some (more (every gs) none)
every-whole false gs h = refl
every-whole true gs h = absurd (cc)

pub some-whole : (all : Bool) (gs : Formulas) → all ≡ true → parts all (some gs) ≡ Some (more (some gs) none)
some-whole true gs h = refl
some-whole false gs h = absurd (cc)

append_all : (m : Formulas) (gs : Formulas) (o : Option Formulas) → option_map (append (append m gs)) o ≡ option_map (append m) (option_map (append gs) o)
append_all m gs None = refl
append_all m gs (Some hs) = ap Some (append-assoc m gs hs)

pub append_nothing : (o : Option Formulas) → option_map (append none) o ≡ o
append_nothing None = refl
append_nothing (Some gs) = refl

-- a part is taken in, and the whole stays open
pub gathered-goes : (all goes : Bool) (old new : Formulas) (f : Formula) (fs : Formulas) (whole : Option Formulas) → TakesPart goes old new (parts all f) → goes ≡ true
    → option_map (append old) (gathered all (more f fs)) ≡ whole → option_map (append new) (gathered all fs) ≡ whole
gathered-goes all goes old new f fs whole h g k = by_part (parts all f) h k
  where
    by_part : (o : Option Formulas) → TakesPart goes old new o → option_map (append old) (option_and_then (λ gs. option_map (append gs) (gathered all fs)) o) ≡ whole → option_map (append new) (gathered all fs) ≡ whole
    by_part None h k = absurd (cc)
    by_part (Some gs) h k = ap (λ n. option_map (append n) (gathered all fs)) h.1 ∙ append_all old gs (gathered all fs) ∙ k

-- a part decides
pub gathered-stops : (all goes : Bool) (old new : Formulas) (f : Formula) (fs : Formulas) (whole : Option Formulas) → TakesPart goes old new (parts all f) → goes ≡ false
    → option_map (append old) (gathered all (more f fs)) ≡ whole → whole ≡ None
gathered-stops all goes old new f fs whole h g k = by_part (parts all f) h k
  where
    by_part : (o : Option Formulas) → TakesPart goes old new o → option_map (append old) (option_and_then (λ gs. option_map (append gs) (gathered all fs)) o) ≡ whole → whole ≡ None
    by_part None h k = sym k
    by_part (Some gs) h k = absurd (cc)

pub simples-more : (d : Decided) (plus : Bool) (fs : List Form) (i : ℕ) (f : Form) → i < length fs → f ≡ get_or fs i f → simples d (plain_list (drop i fs)) plus ≡ more (simple d (plain f) plus) (simples d (plain_list (drop (i + 1) fs)) plus)
simples-more d plus fs i f h k = ap (λ l. simples d (plain_list l) plus) (drop_more fs i f h) ∙ ap (λ e. more (simple d (plain e) plus) (simples d (plain_list (drop (i + 1) fs)) plus)) (sym k)

pub modest-more : (fs : List Form) (i : ℕ) (f : Form) → i < length fs → f ≡ get_or fs i f → AreModest (plain_list (drop i fs)) → IsModest (plain f) × AreModest (plain_list (drop (i + 1) fs))
modest-more fs i f h k m = let p = rw (drop_more fs i f h) at m in (rw k p.0, p.1)

pub closed-every : (all : Bool) (fs : List Form) → 2 ≤ length fs → all ≡ true → closed all (plain_list fs) ≡ every (plain_list fs)
closed-every all [] h k = absurd (omega arith)
closed-every all (f ∷ []) h k = absurd (omega arith)
closed-every true (f ∷ g ∷ fs) h k = refl
closed-every false (f ∷ g ∷ fs) h k = absurd (cc)

pub closed-some : (all : Bool) (fs : List Form) → 2 ≤ length fs → all ≡ false → closed all (plain_list fs) ≡ some (plain_list fs)
closed-some all [] h k = absurd (omega arith)
closed-some all (f ∷ []) h k = absurd (omega arith)
closed-some false (f ∷ g ∷ fs) h k = refl
closed-some true (f ∷ g ∷ fs) h k = absurd (cc)

pub gathered-end : (d : Decided) (all plus : Bool) (fs : List Form) (old : Formulas) (i : ℕ) (whole : Option Formulas) → length fs ≤ i → option_map (append old) (gathered all (simples d (plain_list (drop i fs)) plus)) ≡ whole → whole ≡ Some old
gathered-end d all plus fs old i whole h k = sym (rw (drop_of_length-le fs h) at k) ∙ ap Some (append-none old)

pub ruleset taking = (takes-true, takes-false, every-kept, some-kept, every-whole, some-whole, plain-True, plain-False, plain-And, plain-Or, plain-Not)

-- three lists of formulas, one behind the other
pub in_place-is : (xs ys zs fs : List Form) (f : Formulas) (place m n : ℕ) → m ≡ place → n ≡ length fs - (place + 1) → map plain xs ≡ map plain (take m fs) → plain_list ys ≡ f → map plain zs ≡ map plain (take n (drop (place + 1) fs))
    → plain_list ((xs ++ ys) ++ zs) ≡ append (plain_list (take place fs)) (append f (plain_list (drop (place + 1) fs)))
in_place-is xs ys zs fs f place m n e d h k l =
    let before : plain_list xs ≡ plain_list (take place fs) = ap formulas h ∙ ap (λ i. plain_list (take i fs)) e in
    let whole : take n (drop (place + 1) fs) ≡ drop (place + 1) fs = take_all n (drop (place + 1) fs) (omega (arith, d, length-drop (place + 1) fs)) in
    let behind : plain_list zs ≡ plain_list (drop (place + 1) fs) = ap formulas l ∙ ap plain_list whole in
    plain_list-append (xs ++ ys) zs ∙ ap (λ g. append g (plain_list zs)) (plain_list-append xs ys) ∙ append-assoc (plain_list xs) (plain_list ys) (plain_list zs)
    ∙ ap (λ g. append g (append (plain_list ys) (plain_list zs))) before ∙ ap (λ g. append (plain_list (take place fs)) (append g (plain_list zs))) k ∙ ap (λ g. append (plain_list (take place fs)) (append f g)) behind
