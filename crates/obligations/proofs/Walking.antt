-- The loop over the steps of a script: what is left behind so many steps is asked and appended as it is in the whole.
use Rattle.std.proofs.Common.{arith, ◌≡◌, ◌∙◌, ap, sym, subst, refl, ℕ, zero, suc, ◌+◌, ◌<◌, ◌≤◌, Bool, true, false, nat_le, nat_lt, List, [], ◌∷◌, ◌++◌, length, map, take, drop, get_or, Option, Some, None, append_assoc, append-nil, length-append, length-take, take-append-drop, take_all}
use Rattle.std.specs.Prelude.{if◌then◌else◌, ◌^◌}
use Rattle.std.proofs.lemmas.Bool.Decides.{nat_tests}
use Rattle.std.proofs.lemmas.List.{length-map, drop_more, drop_all, map_more}
use Rattle.st_form.specs.Condition.{Implication}
use Rattle.transition_system.specs.Systems.{System}
use Rattle.temporal_goals.specs.Texts.{PlainStep}
use Rattle.temporal_goals.specs.Plain.{plain_step}
use Rattle.temporal_goals.specs.declared.scripts.Step.{Step}
use Rattle.vc_generator.specs.Building.{Draft}
use Rattle.vc_generator.specs.Refusing.{Begins, Refuses, weight_in, weights, refusals, else_refusal}
use Rattle.vc_generator.specs.declared.faults.VcFault.{VcFault}
use Rattle.vc_generator.specs.declared.faults.VcFault.TheVariants as limits
use Rattle.vc_generator.proofs.Growing.{conditions, conditions-append}
use Rattle.list_laws.specs.Each.{Each}
use Rattle.script_laws.specs.Script.{cited_of, step_list, steps_list, script_list}
use Rattle.script_laws.specs.Refused.{refused_at}
use Rattle.script_laws.proofs.Named.{steps-named, steps-some, scripts-some}
use Rattle.script_laws.proofs.Refused.{appended-go-on}
use Rattle.obligations.specs.Faults.{fault_at}
use Rattle.obligations.specs.Made.{AreAppended, IsRefusal}
use Rattle.obligations.proofs.Refusals.{refused-here, refused_none}

-- what holds of each step holds of the one with this number
pub each-at : (P : PlainStep → Type 0) (steps : List Step) (i : ℕ) (s : Step) → i < length steps → s ≡ get_or steps i s → Each P (map plain_step steps) → P (plain_step s)
each-at P [] i s below is h = absurd (omega arith)
each-at P (x ∷ steps) zero s below is h = subst (λ y. P (plain_step y)) (sym is) h.0
each-at P (x ∷ steps) (suc i) s below is h = each-at P steps i s (omega arith) is h.1

-- at most 20,000 conditions are appended
one-more : (b wide heavy : Bool) (more : Option VcFault) → else_refusal (if b then Some limits.TooMany else (if wide then Some limits.TooWide else (if heavy then Some limits.TooHeavy else None))) more ≡ None → (b ≡ false) × (more ≡ None)
one-more true wide heavy more e = absurd cc
one-more false true heavy more e = absurd cc
one-more false false true more e = absurd cc
one-more false false false more e = (refl, e)

not-full : (n : ℕ) → nat_le 20000 n ≡ false → n < 20000
not-full n e = grind (arith, nat_tests)

few-appended : (old : List Implication) (ds : List Draft) → length old ≤ 20000 → refusals old ds ≡ None → length old + length ds ≤ 20000
few-appended old [] le e = omega arith
few-appended old (d ∷ ds) le e =
    let one = one-more (nat_le 20000 (length old)) (nat_lt 2048 d.wide) (nat_lt (2 ^ 24) (weights old + weight_in d.condition)) (refusals (old ++ d.condition ∷ []) ds) e in
    let room = not-full (length old) one.0 in
    let size = length-append old (d.condition ∷ []) in
    omega (arith, few-appended (old ++ d.condition ∷ []) ds (omega arith) one.1)

-- a list begins with another, also with more behind it
pub begins-alone : (old : List Implication) → Begins old old
begins-alone old = take_all (length old) old (omega arith)

pub begins-more : (old now more : List Implication) → Begins old now → Begins old (now ++ more)
begins-more [] now more b = refl
begins-more (o ∷ os) [] more b = cc
begins-more (o ∷ os) (n ∷ ns) more b =
    let head : n ≡ o = cc in
    let tail : take (length os) ns ≡ os = cc in
    ap (λ y. y ∷ take (length os) (ns ++ more)) head ∙ ap (λ ys. o ∷ ys) (begins-more os ns more tail)

map-take : {A B : Type 0} (f : A → B) (n : ℕ) (xs : List A) → map f (take n xs) ≡ take n (map f xs)
map-take f zero xs = refl
map-take f (suc n) [] = refl
map-take f (suc n) (x ∷ xs) = ap (λ ys. f x ∷ ys) (map-take f n xs)

map-drop : {A B : Type 0} (f : A → B) (n : ℕ) (xs : List A) → map f (drop n xs) ≡ drop n (map f xs)
map-drop f zero xs = refl
map-drop f (suc n) [] = refl
map-drop f (suc n) (x ∷ xs) = map-drop f n xs

-- the conditions of the first steps come first
split-list : (system : System) (earlier : List PlainStep) (n : ℕ) (xs ys : List PlainStep) → steps_list system earlier n (xs ++ ys) ≡ steps_list system earlier n xs ++ steps_list system (earlier ++ xs) (n + length xs) ys
split-list system earlier n [] ys =
    ap (λ e. steps_list system e n ys) (sym (append-nil earlier)) ∙ ap (λ m. steps_list system (earlier ++ []) m ys) (let e : n ≡ n + 0 = omega arith in e)
split-list system earlier n (x ∷ xs) ys =
    let own = step_list n system (cited_of earlier x.cited) x.goal x.rule in
    let more = steps_list system (earlier ++ x ∷ []) (n + 1) xs in
    ap (λ (ds : List Draft). own ++ ds)
    (split-list system (earlier ++ x ∷ []) (n + 1) xs ys
    ∙ ap (λ e. more ++ steps_list system e (n + 1 + length xs) ys) (append_assoc earlier (x ∷ []) xs)
    ∙ ap (λ m. more ++ steps_list system (earlier ++ x ∷ xs) m ys) (let e : n + 1 + length xs ≡ n + suc (length xs) = omega arith in e))
    ∙ sym (append_assoc own more (steps_list system (earlier ++ x ∷ xs) (n + suc (length xs)) ys))

module _ (system : System) (steps : List Step) where
  -- the conditions of the steps from a number on
  abbrev pub left : ℕ → List Draft
  left i = steps_list system (map plain_step (take i steps)) i (map plain_step (drop i steps))

  -- those of the step with this number
  abbrev pub own : ℕ → Step → List Draft
  own i s = step_list i system (cited_of (map plain_step (take i steps)) (plain_step s).cited) (plain_step s).goal (plain_step s).rule

  -- behind so many steps the list holds their conditions, at least one of each
  pub record Behind (i : ℕ) (now : List Implication) : Type 0 where
    pub asks : refused_at now (left i) ≡ refused_at [] (script_list system (map plain_step steps))
    pub gives : now ++ conditions (left i) ≡ conditions (script_list system (map plain_step steps))
    pub each : i ≤ length now
    pub few : length now ≤ 20000

  -- the conditions of the first steps are there
  pub begin : (first : ℕ) (now : List Implication) → first ≤ length steps → AreAppended system (take first (map plain_step steps)) now → Behind first now
  begin first now within before =
      let all = map plain_step steps in
      let xs = take first all in
      let ds = script_list system xs in
      let size : length xs ≡ first = omega (arith, within, length-take first all, length-map steps plain_step) in
      let tail : left first ≡ steps_list system xs (0 + length xs) (drop first all) =
      ap (λ e. steps_list system e first (map plain_step (drop first steps))) (map-take plain_step first steps)
      ∙ ap (steps_list system xs first) (map-drop plain_step first steps)
      ∙ ap (λ m. steps_list system xs m (drop first all)) (let e : first ≡ 0 + length xs = omega (arith, size) in e)
      in
      let whole : script_list system all ≡ ds ++ left first =
      ap (script_list system) (sym (take-append-drop first all)) ∙ split-list system [] 0 xs (drop first all) ∙ ap (λ (es : List Draft). ds ++ es) (sym tail)
      in
      let none = refused_none [] ds before.none in
      let some = scripts-some system xs in
      let many = length-map ds (λ d. d.condition) in
      let counted = ap length before.these in
      let most = few-appended [] ds (omega arith) none in
      record {
        asks = ap (λ cs. refused_at cs (left first)) before.these ∙ sym (appended-go-on [] ds (left first) none) ∙ ap (refused_at []) (sym whole);
        gives = ap (λ cs. cs ++ conditions (left first)) before.these ∙ sym (conditions-append ds (left first)) ∙ ap conditions (sym whole);
        each = omega (arith, some, size, many, counted);
        few = omega (arith, most, many, counted);
      }

  left-next : (i : ℕ) (s : Step) → i < length steps → s ≡ get_or steps i s → left i ≡ own i s ++ left (i + 1)
  left-next i s below is =
      let rest : drop i steps ≡ s ∷ drop (i + 1) steps = drop_more steps i s below ∙ ap (λ x. x ∷ drop (i + 1) steps) (sym is) in
      let front : map plain_step (take (i + 1) steps) ≡ map plain_step (take i steps) ++ plain_step s ∷ [] = map_more plain_step steps i s below ∙ ap (λ x. map plain_step (take i steps) ++ plain_step x ∷ []) (sym is) in
      ap (λ xs. steps_list system (map plain_step (take i steps)) i (map plain_step xs)) rest
      ∙ ap (λ ys. own i s ++ steps_list system ys (i + 1) (map plain_step (drop (i + 1) steps))) (sym front)

  -- the next step's conditions were appended
  pub onward : (i : ℕ) (s : Step) (now new : List Implication) → i < length steps → s ≡ get_or steps i s → refusals now (own i s) ≡ None → new ≡ now ++ conditions (own i s) → Behind i now → Behind (i + 1) new
  onward i s now new below is none grown before =
      let next = left-next i s below is in
      let some = steps-some i system (cited_of (map plain_step (take i steps)) (plain_step s).cited) (plain_step s).goal (plain_step s).rule in
      let size = length-append now (conditions (own i s)) in
      let many = length-map (own i s) (λ d. d.condition) in
      let most = few-appended now (own i s) before.few none in
      let grew = ap length grown in
      let each = before.each in
      record {
        asks =
            ap (λ cs. refused_at cs (left (i + 1))) grown
            ∙ sym (appended-go-on now (own i s) (left (i + 1)) none)
            ∙ ap (refused_at now) (sym next)
            ∙ before.asks;
        gives =
            ap (λ cs. cs ++ conditions (left (i + 1))) grown
            ∙ append_assoc now (conditions (own i s)) (conditions (left (i + 1)))
            ∙ ap (λ cs. now ++ cs) (sym (conditions-append (own i s) (left (i + 1))) ∙ ap conditions (sym next))
            ∙ before.gives;
        each = omega arith;
        few = omega arith;
      }

  -- one of them was refused
  pub refused : (i : ℕ) (s : Step) (now : List Implication) (fault : VcFault) → i < length steps → s ≡ get_or steps i s → Refuses fault (refusals now (own i s)) → Behind i now
      → IsRefusal (fault_at i fault) (refused_at [] (script_list system (map plain_step steps)))
  refused i s now fault below is is-refused before =
      let named = steps-named i system (cited_of (map plain_step (take i steps)) (plain_step s).cited) (plain_step s).goal (plain_step s).rule in
      subst (IsRefusal (fault_at i fault)) (ap (refused_at now) (sym (left-next i s below is)) ∙ before.asks)
      (refused-here i now (own i s) (left (i + 1)) fault named is-refused)

  -- no step is left
  left-none : (i : ℕ) → length steps ≤ i → left i ≡ []
  left-none i past = ap (λ xs. steps_list system (map plain_step (take i steps)) i (map plain_step xs)) (drop_all i steps past)

  pub whole : (i : ℕ) (now : List Implication) → length steps ≤ i → Behind i now → AreAppended system (map plain_step steps) now
  whole i now past before =
      let gone = left-none i past in
      record {
        none = sym before.asks ∙ ap (refused_at now) gone;
        these = sym (append-nil now) ∙ ap (λ ds. now ++ conditions ds) (sym gone) ∙ before.gives;
      }
