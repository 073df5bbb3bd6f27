-- The map of the names of the earlier steps, as contracts see it.
use Rattle.std.proofs.Common.{◌≡◌, ℕ, Bool, true, false, List, [], ◌∷◌, ◌++◌, position, slice_get, Option, Some, None, Ok, Err, refl, sym, ap, ◌∙◌}
use Rattle.std.specs.Prelude.{is_some, if◌then◌else◌}
use Rattle.std.specs.Option.{option_map}
use Rattle.std.specs.Map.{keys_of, lookup}
use Rattle.std.specs.Str.{bytes_eq}
use Rattle.std.specs.String.{string_bytes}
use Rattle.std.specs.declared.string.String.{String}
use Rattle.std.proofs.lemmas.List.{map-append}
use Rattle.std.proofs.lemmas.Option.{slice_get-map}
use Rattle.st_tokens.specs.Stream.{Stream}
use Rattle.st_reading.specs.Reading.{other, Read, ◌>>=◌, named as named_ahead, Label}
use Rattle.indexmap.specs.IndexMap.{insert_entry}
use Rattle.st_program.specs.Names.{as_bytes, named}
use Rattle.st_program.proofs.Lookups.{position-is, lookup-named}
use Rattle.expression_typer.specs.Naming.{is_text}
use Rattle.expression_typer.specs.Naming.{text_of, variable_at, variable_named}
use Rattle.st_reading.specs.Rule as rules
use Rattle.st_reading.specs.Breaches.{Breach, broke, unless}
use Rattle.proof_script.specs.Steps.{step_named, is_taken, new_name_of}

module _ {Z : Type 0} (es : List (String Z × Bool)) (name : List ℕ) where
  module _ (text : List ℕ) (told : Some text ≡ text_of name) where
    as_text : (text ≡ name) × (is_text name ≡ true)
    as_text = at_test (is_text name) refl told
      where
        at_test : (b : Bool) → is_text name ≡ b → Some text ≡ (if b then Some name else None) → (text ≡ name) × (is_text name ≡ true)
        at_test true is h = (cc, is)
        at_test false is h = absurd cc

    number_at : (o : Option ℕ) → o ≡ position (λ k. bytes_eq text (string_bytes k)) (keys_of es) → step_named (as_bytes es) name ≡ variable_at (as_bytes es) o
    number_at o is =
        ap (λ b. if b then variable_named (as_bytes es) name else None) as_text.1
        ∙ ap (variable_at (as_bytes es)) (sym (is ∙ ap (λ n. position (λ k. bytes_eq n (string_bytes k)) (keys_of es)) as_text.0 ∙ position-is name es))

    -- a name that the map doesn't have
    pub absent : None ≡ position (λ k. bytes_eq text (string_bytes k)) (keys_of es) → None ≡ step_named (as_bytes es) name
    absent is = sym (number_at None is)

    -- a name that it has, by its place
    module _ (n : ℕ) (is : Some n ≡ position (λ k. bytes_eq text (string_bytes k)) (keys_of es)) where
      as_entry : (o : Option (String Z × Bool)) → option_map {U = ℕ × Bool} (λ e. (n, e.1)) o ≡ option_map {U = ℕ × Bool} (λ v. (n, v.1)) (option_map {U = List ℕ × Bool} (λ x. (string_bytes x.0, x.1)) o)
      as_entry None = refl
      as_entry (Some e) = refl

      pub found : (o : Option (String Z × Bool)) → o ≡ slice_get es n → option_map {U = ℕ × Bool} (λ e. (n, e.1)) o ≡ step_named (as_bytes es) name
      found o here =
          ap (option_map {U = ℕ × Bool} (λ e. (n, e.1))) here
          ∙ as_entry (slice_get es n)
          ∙ ap (option_map {U = ℕ × Bool} (λ v. (n, v.1))) (sym (slice_get-map (λ x. (string_bytes x.0, x.1)) es n))
          ∙ sym (number_at (Some n) is)

-- a new step's name, and one that an earlier step has
module _ {Z : Type 0} (es : List (String Z × Bool)) (l : Label) (s rest : Stream) (read : named_ahead {X = Breach} s ≡ Ok (l, rest)) (text : List ℕ) (told : Some text ≡ text_of l.text) where
  judged : (b : Bool) → b ≡ is_some (lookup (λ k. bytes_eq text (string_bytes k)) es) → new_name_of (as_bytes es) s ≡ unless b (broke rules.Twice l.place) l.text rest
  unfolding new_name_of
  judged b is =
      let t = as_text es l.text text told in
      let taken : is_taken (as_bytes es) l.text ≡ b = ap is_some (sym (lookup-named l.text es)) ∙ ap (λ n. is_some (lookup (λ k. bytes_eq n (string_bytes k)) es)) (sym t.0) ∙ sym is in
      ap (λ (r : Read Breach Label). r >>= λ n. unless (is_taken (as_bytes es) n.0.text) (broke rules.Twice n.0.place) n.0.text n.1) read ∙ ap (λ b. unless b (broke rules.Twice l.place) l.text rest) taken

  pub name_taken : true ≡ is_some (lookup (λ k. bytes_eq text (string_bytes k)) es) → new_name_of (as_bytes es) s ≡ Err (other (broke rules.Twice l.place))
  name_taken is = judged true is

  pub name_free : (name : List ℕ) → false ≡ is_some (lookup (λ k. bytes_eq text (string_bytes k)) es) → name ≡ text → new_name_of (as_bytes es) s ≡ Ok (name, rest)
  name_free name is same = judged false is ∙ ap (λ n. Ok (n, rest)) (sym (same ∙ (as_text es l.text text told).0))

module _ {Z : Type 0} where
  goes_last : (es : List (String Z × Bool)) (k : String Z) (v : Bool) → is_taken (as_bytes es) (string_bytes k) ≡ false
      → insert_entry (λ x y. bytes_eq (string_bytes x) (string_bytes y)) es k v ≡ es ++ (k, v) ∷ []
  goes_last [] k v h = refl
  goes_last (e ∷ es) k v h = at_test (λ none. goes_last es k v none) (bytes_eq (string_bytes k) (string_bytes e.0)) h
    where
      at_test : (is_taken (as_bytes es) (string_bytes k) ≡ false → insert_entry (λ x y. bytes_eq (string_bytes x) (string_bytes y)) es k v ≡ es ++ (k, v) ∷ []) → (b : Bool) → is_some (if b then Some e.1 else named (string_bytes k) (as_bytes es)) ≡ false
          → (if b then (e.0, v) ∷ es else e ∷ insert_entry (λ x y. bytes_eq (string_bytes x) (string_bytes y)) es k v) ≡ e ∷ (es ++ (k, v) ∷ [])
      at_test among true h = absurd cc
      at_test among false h = ap (λ l. e ∷ l) (among h)

  -- a new name goes last
  pub noted : (es new : List (String Z × Bool)) (k : String Z) (v : Bool) (name : List ℕ) → new ≡ insert_entry (λ x y. bytes_eq (string_bytes x) (string_bytes y)) es k v → string_bytes k ≡ name → is_taken (as_bytes es) name ≡ false
      → as_bytes new ≡ as_bytes es ++ (name, v) ∷ []
  noted es new k v name is same h =
      ap as_bytes (is ∙ goes_last es k v (ap (is_taken (as_bytes es)) same ∙ h))
      ∙ map-append (λ x. (string_bytes x.0, x.1)) es ((k, v) ∷ [])
      ∙ ap (λ n. as_bytes es ++ (n, v) ∷ []) same
