-- The names of statements, one after the other.
use Rattle.std.proofs.Common.{◌≡◌, ℕ, zero, suc, ◌+◌, List, [], ◌∷◌, ◌++◌, append_assoc, drop, Option, Some, None, refl, ap, ◌∙◌, sym}
use Rattle.std.specs.Prelude.{flat_map, slice_get}
use Rattle.std.specs.Option.{option_map}
use Rattle.std.specs.Borrow.{Bor}
use Rattle.std.proofs.Math.Numerals.{add-one}
use Rattle.std.proofs.lemmas.List.{drop_more}
use Rattle.std.proofs.lemmas.Option.{slice_get_within, get_or_from_slice_get}
use Rattle.observations.specs.declared.Fairness.{Fairness}
use Rattle.st_form.specs.declared.conditions.TransName.{TransName}
use Rattle.st_program.specs.declared.trees.Stmt as GStmt
use Rattle.st_program.specs.Plain.{plain_stmt}
use Rattle.st_program.specs.Spots.{Spot, all_spots, statement_at}
use Rattle.st_program.specs.Tree.{Statement, Processes, occurrence, action}
use Rattle.spl_semantics.specs.Names.{own_names, all_names}

abbrev own : Spot → List (TransName × Fairness)
own x = own_names (action x.stmt) (occurrence x.stmt)

-- these names, and then those of the statements from a place on
abbrev pub Names_on : Processes → ℕ → List (TransName × Fairness) → Type 0
Names_on p i names = names ++ flat_map own (drop i (all_spots p)) ≡ all_names p

next_spot : (xs : List Spot) (i : ℕ) (x : Spot) → slice_get xs i ≡ Some x → drop i xs ≡ x ∷ drop (i + 1) xs
next_spot xs i x h = drop_more xs i x (slice_get_within xs i x h) ∙ ap (λ y. y ∷ drop (i + 1) xs) (get_or_from_slice_get xs i x x h)

past : {A : Type 0} (xs : List A) (i : ℕ) → slice_get xs i ≡ None → drop i xs ≡ drop (suc i) xs
past [] zero h = refl
past [] (suc i) h = refl
past (x ∷ xs) zero h = cc
past (x ∷ xs) (suc i) h = past xs i h

pub names_next : (p : Processes) (i : ℕ) (s : Statement) (names names' : List (TransName × Fairness)) → Some s ≡ statement_at p i → names' ≡ names ++ own_names (action s) (occurrence s) → Names_on p i names → Names_on p (i + 1) names'
names_next p i s names names' found made h = at_spot (slice_get (all_spots p) i) refl found
  where
    at_spot : (o : Option Spot) → slice_get (all_spots p) i ≡ o → Some s ≡ option_map (λ x. x.stmt) o → Names_on p (i + 1) names'
    at_spot None q e = cc
    at_spot (Some x) q e =
        let same : s ≡ x.stmt = cc in
        let rest = flat_map own (drop (i + 1) (all_spots p)) in
        ap (λ l. l ++ rest) (made ∙ ap (λ t. names ++ own_names (action t) (occurrence t)) same)
        ∙ append_assoc names (own x) rest
        ∙ ap (λ l. names ++ flat_map own l) (sym (next_spot (all_spots p) i x q))
        ∙ h

pub names_past : (p : Processes) (i : ℕ) (names : List (TransName × Fairness)) → None ≡ statement_at p i → Names_on p i names → Names_on p (i + 1) names
names_past p i names none h = at_spot (slice_get (all_spots p) i) refl none
  where
    at_spot : (o : Option Spot) → slice_get (all_spots p) i ≡ o → None ≡ option_map {T = Spot} (λ x. x.stmt) o → Names_on p (i + 1) names
    at_spot (Some x) q e = cc
    at_spot None q e = ap (λ l. names ++ flat_map own l) (ap (λ k. drop k (all_spots p)) (add-one i) ∙ sym (past (all_spots p) i q)) ∙ h

-- the statement that the code found, or that there is none
pub given : (s : Option Statement) (o : Option (Bor GStmt.Stmt)) (x : Bor GStmt.Stmt) → o ≡ Some x → option_map (λ y. plain_stmt y.now) o ≡ s → Some (plain_stmt x.now) ≡ s
given s o x is h = sym (ap (option_map (λ y. plain_stmt y.now)) is) ∙ h

pub absent : (s : Option Statement) (o : Option (Bor GStmt.Stmt)) → ((x : Bor GStmt.Stmt) → o ≡ Some x → ⊥) → option_map (λ y. plain_stmt y.now) o ≡ s → None ≡ s
absent s None away h = h
absent s (Some x) away h = absurd (away x refl)
