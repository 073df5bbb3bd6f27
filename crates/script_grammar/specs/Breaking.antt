-- Where a rule is found broken, and the rules of what stands behind marks. `at` counts the tokens before: a rule is found at the
-- last of so many tokens, behind which nothing can mend it, and the breach names a place.
use Rattle.std.specs.Prelude.{ℕ, suc, ◌+◌, Bool, true, false, cond, nat_lt, List, [], ◌∷◌, ◌++◌, Option, Some, None, Result, Ok, Err}
use Rattle.st_tokens.specs.declared.limit.LimitKind.TheVariants as limits
use Rattle.st_reading.specs.Breaches.{Breach, limited}
use Rattle.st_reading.specs.BrokenRules.{Broken}
use Rattle.expression_typer.specs.declared.fault.TypeFault.{TypeFault}
use Rattle.assertions.specs.Faults.{of_rule}
use Rattle.script_grammar.specs.RawScripts.{RawUnit}
use Rattle.script_grammar.specs.Nesting.{first_passing, form_passes}

-- what is broken is found at the last of so many tokens
abbrev pub found_at : ℕ → Breach → Broken Breach
found_at n breach = record { found = n; fault = breach }

-- what is broken where the test holds
abbrev pub broken_where : Bool → ℕ → Breach → List (Broken Breach)
broken_where true n breach = found_at n breach ∷ []
broken_where false n breach = []

-- at most 32 levels; a further one is found at the token that passes them
abbrev pub nesting_rules : ℕ → Option (ℕ × ℕ) → List (Broken Breach)
nesting_rules at None = []
nesting_rules at (Some p) = found_at (at + p.0) (limited limits.Nesting p.1) ∷ []

-- an expression that ends so many tokens is typed
abbrev pub typing_rules : {A : Type 0} → ℕ → Result A TypeFault → List (Broken Breach)
typing_rules n (Ok x) = []
typing_rules n (Err f) = found_at n (of_rule f) ∷ []

-- [ mark item ]
abbrev pub optional_rules : {A : Type 0} → (ℕ → A → List (Broken Breach)) → ℕ → Option A → List (Broken Breach)
optional_rules judge at None = []
optional_rules judge at (Some x) = judge (at + 1) x

-- { mark item }
abbrev pub marked_rules : {A : Type 0} → (A → ℕ) → (ℕ → A → List (Broken Breach)) → ℕ → List A → List (Broken Breach)
marked_rules size judge at [] = []
marked_rules size judge at (x ∷ xs) = judge (at + 1) x ++ marked_rules size judge (at + (1 + size x)) xs

-- { item }
abbrev pub many_rules : {A : Type 0} → (A → ℕ) → (ℕ → A → List (Broken Breach)) → ℕ → List A → List (Broken Breach)
many_rules size judge at [] = []
many_rules size judge at (x ∷ xs) = judge at x ++ many_rules size judge (at + size x) xs

-- a formula that is one too many: so it is found once it is read, if it doesn't pass its levels
abbrev pub one_too_many_rules : ℕ → RawUnit → List (Broken Breach)
one_too_many_rules at u = nesting_rules at (first_passing form_passes u.text) ++ found_at (at + u.size) (limited limits.Nodes u.place) ∷ []

-- { mark item }, at most 64 of them, behind some; each begins with a formula
abbrev pub listed_rules : {A : Type 0} → (A → RawUnit) → (A → ℕ) → (ℕ → A → List (Broken Breach)) → ℕ → ℕ → List A → List (Broken Breach)
listed_rules form size judge before at [] = []
listed_rules form size judge before at (x ∷ xs) =
    cond (nat_lt before 64) (judge (at + 1) x) (one_too_many_rules (at + 1) (form x)) ++ listed_rules form size judge (suc before) (at + (1 + size x)) xs
