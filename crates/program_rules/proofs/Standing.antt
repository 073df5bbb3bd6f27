-- How far the walk has come: which names are declared and what the groups so far weigh, with room for what is behind.
use Rattle.std.proofs.Common.{◌≡◌, ℕ, ◌+◌, ◌-◌, ◌^◌, ◌≤◌, nat_lt, true, false, cond, List, [], ◌∷◌, ◌++◌, append-nil, append_assoc, refl, sym, ap, subst, ◌∙◌, arith, Option, Some, None, Ok, Err}
use Rattle.std.proofs.lemmas.List.{map-append}
use Rattle.st_reading.specs.Reading.{Label}
use Rattle.st_program.specs.Tree.{Action}
use Rattle.st_program.specs.Names.{AreApart, names_in}
use Rattle.expression_typer.specs.declared.fault.TypeFault.TheVariants as faults
use Rattle.spl_typer.specs.declared.walk.Mark.{Mark}
use Rattle.spl_typer.specs.declared.walk.Mark.TheVariants as marks
use Rattle.spl_typer.specs.Walk.{Entry, State, Made, is_declared, declared_as, with_name, new_location, new_occurrence, next_location, next_occurrence}
use Rattle.spl_typer.specs.Walking.{location, labelled}
use Rattle.spl_typer.specs.Programs.{entry_names, Labels}
use Rattle.program_meaning.specs.Meaning.{label_at}
use Rattle.program_rules.specs.Groups.{group_weight}
use Rattle.program_rules.proofs.Passing.{Passes, if_passes}
use Rattle.program_rules.proofs.Names.{Texts, turned, new_at, apart_front}
use Rattle.program_rules.proofs.Acts.{load, load_both}

pub record Stands (declared : Texts) (w : ℕ) (st : State) : Type 0 where
  pub names : entry_names st.names ≡ declared
  pub weight : st.weight ≡ w

-- these labels can be declared behind, and groups of these actions weigh no more than is allowed
pub record Room (names : Texts) (w : ℕ) (ls : Labels) (ks : List Action) : Type 0 where
  pub apart : AreApart (names ++ names_in ls)
  pub light : w + load ks ≤ 16777216

abbrev pub Done : Texts → ℕ → Labels → List Action → State → Type 0
Done names w ls ks st = Stands (names ++ names_in ls) (w + load ks) st

abbrev pub Ends : {X : Type 0} → Texts → ℕ → Labels → List Action → Made X → Type 0
Ends names w ls ks m = Done names w ls ks m.after

-- DECLARED NAMES
new_name : (es : List Entry) (n : List ℕ) (rest : Texts) → AreApart (entry_names es ++ n ∷ rest) → is_declared n es ≡ false
new_name [] n rest h = refl
new_name (e ∷ es) n rest h = ap (λ b. cond b true (is_declared n es)) (turned n e.name (new_at e.name n (entry_names es) rest h.0)) ∙ new_name es n rest h.1

pub declares_passes : (names : Texts) (w : ℕ) (n : Label) (m : Mark) (st : State) (rest : Texts) → AreApart (names ++ n.text ∷ rest) → Stands names w st → Passes (Stands (names ++ n.text ∷ []) w) (declared_as n m st)
declares_passes names w n m st rest apart h =
    subst (λ b. Passes (Stands (names ++ n.text ∷ []) w) (cond b (Err (faults.Twice n.place)) (Ok (with_name n m st))))
    (sym (new_name st.names n.text rest (subst (λ z. AreApart (z ++ n.text ∷ rest)) (sym h.names) apart)))
    (record { names = map-append (λ (e : Entry). e.name) st.names (record { name = n.text; mark = m } ∷ []) ∙ ap (λ z. z ++ n.text ∷ []) h.names; weight = h.weight })

pub label_passes : (names : Texts) (w : ℕ) (label : Option Label) (l k : ℕ) (o p : Option ℕ) (st : State) → AreApart (names ++ names_in (label_at label k p)) → Stands names w st
    → Passes (Stands (names ++ names_in (label_at label k p)) w) (labelled label l o st)
label_passes names w None l k o p st apart h = record { names = h.names ∙ sym (append-nil names); weight = h.weight }
label_passes names w (Some n) l k o p st apart h = declares_passes names w n (marks.Label l o) st [] apart h

-- NUMBERS
pub located_passes : (names : Texts) (w : ℕ) (place : ℕ) (st : State) → Stands names w st → Passes (λ (m : Made ℕ). Stands names w m.after) (new_location place st)
located_passes names w place st h = if_passes (λ (m : Made ℕ). Stands names w m.after) (nat_lt st.loc (2 ^ 32 - 1)) (record { made = st.loc; after = next_location st }) _ (λ r. r) (record { names = h.names; weight = h.weight })

pub location_passes : (names : Texts) (w : ℕ) (own : Option ℕ) (place : ℕ) (st : State) → Stands names w st → Passes (λ (m : Made ℕ). Stands names w m.after) (location own place st)
location_passes names w None place st h = located_passes names w place st h
location_passes names w (Some l) place st h = h

pub occurrence_passes : (names : Texts) (w : ℕ) (place : ℕ) (st : State) → Stands names w st → Passes (λ (m : Made ℕ). Stands names w m.after) (new_occurrence place st)
occurrence_passes names w place st h = if_passes (λ (m : Made ℕ). Stands names w m.after) (nat_lt st.occ 400) (record { made = st.occ; after = next_occurrence st }) _ (λ r. r) (record { names = h.names; weight = h.weight })

-- ONE BEHIND THE OTHER
pub next_both : (names : Texts) (ls ms : Labels) → names ++ names_in (ls ++ ms) ≡ (names ++ names_in ls) ++ names_in ms
next_both names ls ms = ap (λ z. names ++ z) (map-append (λ (x : List ℕ × (ℕ × Option ℕ)). x.0) ls ms) ∙ sym (append_assoc names (names_in ls) (names_in ms))

module _ (names : Texts) (w : ℕ) (ls ms : Labels) (ks bs : List Action) where
  pub first : Room names w (ls ++ ms) (ks ++ bs) → Room names w ls ks
  first r = record {
    apart = apart_front (names ++ names_in ls) (names_in ms) (subst AreApart (next_both names ls ms) r.apart);
    light = fewer w (load ks) (load bs) (load (ks ++ bs)) (load_both ks bs) r.light;
  }
    where
      fewer : (i j k n : ℕ) → n ≡ j + k → i + n ≤ 16777216 → i + j ≤ 16777216
      fewer i j k n e h = omega (arith, e, h)

  pub second : Room names w (ls ++ ms) (ks ++ bs) → Room (names ++ names_in ls) (w + load ks) ms bs
  second r = record {
    apart = subst AreApart (next_both names ls ms) r.apart;
    light = further w (load ks) (load bs) (load (ks ++ bs)) (load_both ks bs) r.light;
  }
    where
      further : (i j k n : ℕ) → n ≡ j + k → i + n ≤ 16777216 → i + j + k ≤ 16777216
      further i j k n e h = omega (arith, e, h)

  pub joined : (st : State) → Done (names ++ names_in ls) (w + load ks) ms bs st → Done names w (ls ++ ms) (ks ++ bs) st
  joined st h = record { names = h.names ∙ sym (next_both names ls ms); weight = h.weight ∙ sums w (load ks) (load bs) (load (ks ++ bs)) (load_both ks bs) }
    where
      sums : (i j k n : ℕ) → n ≡ j + k → i + j + k ≡ i + n
      sums i j k n e = omega (arith, e)

-- names behind which the same weighs
pub named_first : (names : Texts) (w : ℕ) (ls ms : Labels) (ks : List Action) → Room names w (ls ++ ms) ks → Room (names ++ names_in ls) w ms ks
named_first names w ls ms ks r = record { apart = subst AreApart (next_both names ls ms) r.apart; light = r.light }

pub named_before : (names : Texts) (w : ℕ) (ls ms : Labels) (ks : List Action) (st : State) → Done (names ++ names_in ls) w ms ks st → Done names w (ls ++ ms) ks st
named_before names w ls ms ks st h = record { names = h.names ∙ sym (next_both names ls ms); weight = h.weight }

-- what is no group weighs nothing
pub stays : (names : Texts) (w : ℕ) (a : Action) (st : State) → group_weight a ≡ 0 → Stands names w st → Done names w [] (a ∷ []) st
stays names w a st e h = record { names = h.names ∙ sym (append-nil names); weight = h.weight ∙ nothing w (group_weight a) e }
  where
    nothing : (i j : ℕ) → j ≡ 0 → i ≡ i + (j + 0)
    nothing i j g = omega (arith, g)

pub none_done : (names : Texts) (w : ℕ) (st : State) → Stands names w st → Done names w [] [] st
none_done names w st h = record { names = h.names ∙ sym (append-nil names); weight = h.weight ∙ nothing w }
  where
    nothing : (i : ℕ) → i ≡ i + 0
    nothing i = omega arith

pub lighter : (names : Texts) (w : ℕ) (ls : Labels) (a : Action) (ks : List Action) → group_weight a ≡ 0 → Room names w ls (a ∷ ks) → Room names w ls ks
lighter names w ls a ks e r = record { apart = r.apart; light = less w (group_weight a) (load ks) e r.light }
  where
    less : (i j k : ℕ) → j ≡ 0 → i + (j + k) ≤ 16777216 → i + k ≤ 16777216
    less i j k g h = omega (arith, g, h)

pub heavier : (names : Texts) (w : ℕ) (ls : Labels) (a : Action) (ks : List Action) (st : State) → group_weight a ≡ 0 → Done names w ls ks st → Done names w ls (a ∷ ks) st
heavier names w ls a ks st e h = record { names = h.names; weight = h.weight ∙ same w (group_weight a) (load ks) e }
  where
    same : (i j k : ℕ) → j ≡ 0 → i + k ≡ i + (j + k)
    same i j k g = omega (arith, g)

-- a body, whose end may have a label
pub ended_room : (names : Texts) (w : ℕ) (ls ms : Labels) (ks : List Action) → Room names w (ls ++ ms) ks → Room names w ls ks
ended_room names w ls ms ks r = record { apart = apart_front (names ++ names_in ls) (names_in ms) (subst AreApart (next_both names ls ms) r.apart); light = r.light }

pub ended_done : (names : Texts) (w : ℕ) (ls ms : Labels) (ks : List Action) (st : State) → Stands ((names ++ names_in ls) ++ names_in ms) (w + load ks) st → Done names w (ls ++ ms) ks st
ended_done names w ls ms ks st h = record { names = h.names ∙ sym (next_both names ls ms); weight = h.weight }
