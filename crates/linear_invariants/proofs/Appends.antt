-- Lists of rows, one behind the other.
use Rattle.std.proofs.Common.{◌≡◌, ℕ, zero, suc, ◌+◌, ◌-◌, ◌<◌, ◌≤◌, List, [], ◌∷◌, ◌++◌, refl, ap, ◌∙◌, sym, arith, append_assoc, append-nil}
use Rattle.null_laws.specs.Reduction.{Entries}
use Rattle.transition_system.specs.Systems.{PlainMode}
use Rattle.equation_laws.specs.Rows.{with_row, variable_rows, mode_rows, variable_row, constant_row}

pub row-append : (r : Entries) (xs ys : List Entries) → with_row r xs ++ ys ≡ with_row r (xs ++ ys)
row-append [] xs ys = refl
row-append (e ∷ es) xs ys = refl

pub variables-append : (make : ℕ → Entries) (m u : ℕ) (xs ys : List Entries) → variable_rows make m u xs ++ ys ≡ variable_rows make m u (xs ++ ys)
variables-append make zero u xs ys = refl
variables-append make (suc m) u xs ys = row-append (make u) (variable_rows make m (u + 1) xs) ys ∙ ap (with_row (make u)) (variables-append make m (u + 1) xs ys)

pub modes-append : (n locations : ℕ) (ms : List PlainMode) (xs ys : List Entries) → mode_rows n locations ms xs ++ ys ≡ mode_rows n locations ms (xs ++ ys)
modes-append n locations [] xs ys = refl
modes-append n locations (m ∷ ms) xs ys =
    variables-append (variable_row m.change) n 0 (with_row (constant_row n locations m.change) (mode_rows n locations ms xs)) ys
    ∙ ap (variable_rows (variable_row m.change) n 0) (row-append (constant_row n locations m.change) (mode_rows n locations ms xs) ys ∙ ap (with_row (constant_row n locations m.change)) (modes-append n locations ms xs ys))

pub modes-split : (n locations : ℕ) (ms ns : List PlainMode) → mode_rows n locations (ms ++ ns) [] ≡ mode_rows n locations ms [] ++ mode_rows n locations ns []
modes-split n locations ms ns = split ms ∙ sym (modes-append n locations ms [] (mode_rows n locations ns []))
  where
    split : (ms : List PlainMode) → mode_rows n locations (ms ++ ns) [] ≡ mode_rows n locations ms (mode_rows n locations ns [])
    split [] = refl
    split (m ∷ ms) = ap (λ rows. variable_rows (variable_row m.change) n 0 (with_row (constant_row n locations m.change) rows)) (split ms)

-- one more row behind the others
pub row-next : (out whole : List Entries) (r : Entries) (rest : List Entries) → out ++ with_row r rest ≡ whole → (out ++ with_row r []) ++ rest ≡ whole
row-next out whole r rest h =
    let e : (out ++ with_row r []) ++ rest ≡ out ++ (with_row r [] ++ rest) = rw append_assoc refl in
    e ∙ ap (λ rows. out ++ rows) (row-append r [] rest) ∙ h

pub variables-next : (make : ℕ → Entries) (n u : ℕ) (out whole : List Entries) → u < n → out ++ variable_rows make (n - u) u [] ≡ whole → (out ++ with_row (make u) []) ++ variable_rows make (n - (u + 1)) (u + 1) [] ≡ whole
variables-next make n u out whole l h =
    let e : n - u ≡ suc (n - (u + 1)) = omega arith in
    row-next out whole (make u) (variable_rows make (n - (u + 1)) (u + 1) []) (ap (λ k. out ++ variable_rows make k u []) (sym e) ∙ h)

pub variables-end : (make : ℕ → Entries) (n u : ℕ) (out whole : List Entries) → n ≤ u → out ++ variable_rows make (n - u) u [] ≡ whole → out ≡ whole
variables-end make n u out whole l h =
    let e : n - u ≡ 0 = omega arith in
    sym (append-nil out) ∙ ap (λ k. out ++ variable_rows make k u []) (sym e) ∙ h

-- the rows of variables and the one of the constant
pub both-whole : (make : ℕ → Entries) (n : ℕ) (r : Entries) (old : List Entries) → (old ++ variable_rows make n 0 []) ++ with_row r [] ≡ old ++ variable_rows make n 0 (with_row r [])
both-whole make n r old =
    let e : (old ++ variable_rows make n 0 []) ++ with_row r [] ≡ old ++ (variable_rows make n 0 [] ++ with_row r []) = rw append_assoc refl in
    e ∙ ap (λ rows. old ++ rows) (variables-append make n 0 [] (with_row r []))

-- the rows of more modes behind others
pub modes-more : (n locations : ℕ) (ms ns : List PlainMode) (out whole : List Entries) → out ++ mode_rows n locations (ms ++ ns) [] ≡ whole → (out ++ mode_rows n locations ms []) ++ mode_rows n locations ns [] ≡ whole
modes-more n locations ms ns out whole h =
    let e : (out ++ mode_rows n locations ms []) ++ mode_rows n locations ns [] ≡ out ++ (mode_rows n locations ms [] ++ mode_rows n locations ns []) = rw append_assoc refl in
    e ∙ ap (λ rows. out ++ rows) (sym (modes-split n locations ms ns)) ∙ h
