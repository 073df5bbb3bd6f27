-- One of several residuals steps, and the steps of what is in front of a block.
use Rattle.std.proofs.Common.{◌≡◌, ℕ, zero, suc, ◌+◌, ◌<◌, Bool, true, false, List, [], ◌∷◌, ◌++◌, append_assoc, length, map, take, drop, get_or, Option, Some, None, refl, ap, ◌∙◌, sym, arith}
use Rattle.std.specs.Prelude.{◌||◌, if◌then◌else◌}
use Rattle.std.proofs.Common.{subst}
use Rattle.std.specs.Option.{option_map}
use Rattle.std.proofs.Math.Numerals.{add-one}
use Rattle.std.proofs.lemmas.List.{drop_more, map-append, append-nil}
use Rattle.st_program.specs.declared.residuals.Residual as GResidual
use Rattle.st_program.specs.Tree.{Statements, Processes}
use Rattle.st_form.specs.declared.conditions.Part.TheVariants.{Exit}
use Rattle.st_form.specs.declared.conditions.TransName.TheVariants as names
use Rattle.st_program.specs.declared.residuals.Datum.{Datum}
use Rattle.spl_semantics.specs.declared.acts.Act as GAct
use Rattle.spl_semantics.specs.declared.acts.Move.{Move}
use Rattle.st_program.specs.Residuals.{Rest, Done, Inside, Rests, rests, plain_residual, plain_residuals}
use Rattle.st_program.specs.Spots.{Body}
use Rattle.spl_semantics.specs.Stores.{Store}
use Rattle.spl_semantics.specs.Limits.{wide_rest, wide_rests}
use Rattle.spl_semantics.specs.Steps.{joined_acts, steps, steps_of}
use Rattle.spl_semantics.specs.Going.{Act, act, around, all_done, join}
use Rattle.spl_semantics.specs.Plain.{plain_act, plain_acts, act_stores, move_stores, AllOfTypes, in_front}

twice-around : {X Y Z : Type 0} (f : Y → Z) (g : X → Y) (h : X → Z) → ((x : X) → f (g x) ≡ h x) → (acts : List (Act X)) → map (around f) (map (around g) acts) ≡ map (around h) acts
twice-around f g h same [] = refl
twice-around f g h same (a ∷ acts) =
    ap (λ x. record { name = a.name; mode = a.mode; left = x; store = a.store } ∷ map (around f) (map (around g) acts)) (same a.left)
    ∙ ap (λ l. around h a ∷ l) (twice-around f g h same acts)

front-suc : (rs : List GResidual.Residual) (i : ℕ) (r : GResidual.Residual) → i < length rs → r ≡ get_or rs i r → (xs : Rests) → in_front (take i rs) (rests (plain_residual r) xs) ≡ in_front (take (suc i) rs) xs
front-suc [] i r le e xs = absurd (omega arith)
front-suc (x ∷ rs) zero r le e xs = ap (λ z. rests (plain_residual z) xs) e
front-suc (x ∷ rs) (suc i) r le e xs = ap (rests (plain_residual x)) (front-suc rs i r (omega arith) e xs)

module _ (p : Processes) (s : Store) (rs : List GResidual.Residual) (i : ℕ) (r : GResidual.Residual) (le : i < length rs) (e : r ≡ get_or rs i r) where
  abbrev rest : Rests
  rest = plain_residuals (drop (i + 1) rs)

  front-next : (xs : Rests) → in_front (take i rs) (rests (plain_residual r) xs) ≡ in_front (take (i + 1) rs) xs
  front-next xs = front-suc rs i r le e xs ∙ ap (λ k. in_front (take k rs) xs) (sym (add-one i))

  next : plain_residuals (drop i rs) ≡ rests (plain_residual r) rest
  next = ap plain_residuals (drop_more rs i r le) ∙ ap (λ z. rests (plain_residual z) rest) (sym e)

  pub wide-next : wide_rests (plain_residuals (drop i rs)) p s ≡ (wide_rest (plain_residual r) p s || wide_rests rest p s)
  wide-next = ap (λ z. wide_rests z p s) next

  steps-split : map (around (in_front (take i rs))) (steps_of (plain_residuals (drop i rs)) p s)
      ≡ map (around (λ x. in_front (take i rs) (rests x rest))) (steps (plain_residual r) p s) ++ map (around (in_front (take (i + 1) rs))) (steps_of rest p s)
  steps-split =
      ap (λ z. map (around (in_front (take i rs))) (steps_of z p s)) next
      ∙ map-append (around (in_front (take i rs))) (map (around (λ x. rests x rest)) (steps (plain_residual r) p s)) (map (around (λ xs. rests (plain_residual r) xs)) (steps_of rest p s))
      ∙ ap (λ l. l ++ map (around (in_front (take i rs))) (map (around (λ xs. rests (plain_residual r) xs)) (steps_of rest p s)))
      (twice-around (in_front (take i rs)) (λ x. rests x rest) (λ x. in_front (take i rs) (rests x rest)) (λ x. refl) (steps (plain_residual r) p s))
      ∙ ap (λ l. map (around (λ x. in_front (take i rs) (rests x rest))) (steps (plain_residual r) p s) ++ l)
      (twice-around (in_front (take i rs)) (λ xs. rests (plain_residual r) xs) (in_front (take (i + 1) rs)) front-next (steps_of rest p s))

  pub steps-next : (before after whole : List (Act Rests)) (acts : List (Act Rest)) → acts ≡ steps (plain_residual r) p s
      → after ≡ before ++ map (around (λ x. in_front (take i rs) (rests x rest))) acts
      → before ++ map (around (in_front (take i rs))) (steps_of (plain_residuals (drop i rs)) p s) ≡ whole
      → after ++ map (around (in_front (take (i + 1) rs))) (steps_of rest p s) ≡ whole
  steps-next before after whole acts is made h =
      ap (λ l. l ++ map (around (in_front (take (i + 1) rs))) (steps_of rest p s)) (made ∙ ap (λ l. before ++ map (around (λ x. in_front (take i rs) (rests x rest))) l) is)
      ∙ append_assoc before (map (around (λ x. in_front (take i rs) (rests x rest))) (steps (plain_residual r) p s)) (map (around (in_front (take (i + 1) rs))) (steps_of rest p s))
      ∙ ap (λ l. before ++ l) (sym steps-split)
      ∙ h

around-same : {X : Type 0} (acts : List (Act X)) → map (around (λ x. x)) acts ≡ acts
around-same [] = refl
around-same (a ∷ acts) = ap (λ l. a ∷ l) (around-same acts)

-- nothing is in front at first
pub steps-first : (p : Processes) (s : Store) (rs : List GResidual.Residual) → [] ++ map (around (in_front (take 0 rs))) (steps_of (plain_residuals (drop 0 rs)) p s) ≡ steps_of (plain_residuals rs) p s
steps-first p s rs = around-same (steps_of (plain_residuals rs) p s)

-- nothing is behind at last
pub steps-last : (p : Processes) (s : Store) (rs : List GResidual.Residual) (out whole : List (Act Rests)) (i : ℕ) → drop i rs ≡ []
    → out ++ map (around (in_front (take i rs))) (steps_of (plain_residuals (drop i rs)) p s) ≡ whole → out ≡ whole
steps-last p s rs out whole i e h = sym (nothing out) ∙ sym (ap (λ l. out ++ map (around (in_front (take i rs))) (steps_of (plain_residuals l) p s)) e) ∙ h
  where
    nothing : {X : Type 0} (xs : List X) → xs ++ [] ≡ xs
    nothing [] = refl
    nothing (x ∷ xs) = ap (λ l. x ∷ l) (nothing xs)

-- a block that is there, and one that isn't
pub joined-some : (o : Option Body) (ss : Statements) (b k : ℕ) (acts : List (Act Rest)) → Some ss ≡ option_map (λ x. x.0) o → joined_acts o b k acts ≡ map (around (λ r. join ss r b k)) acts
joined-some None ss b k acts e = cc
joined-some (Some x) ss b k acts e = let h : ss ≡ x.0 = cc in ap (λ z. map (around (λ r. join z r b k)) acts) (sym h)

pub joined-none : (o : Option Body) (b k : ℕ) (acts : List (Act Rest)) → None ≡ option_map {T = Body} (λ x. x.0) o → joined_acts o b k acts ≡ []
joined-none None b k acts e = refl
joined-none (Some x) b k acts e = cc

-- a cooperation's steps, with its exit or without
module _ (p : Processes) (s : Store) (c : ℕ) (rs : Rests) (ms : List (Act Rests)) (is : ms ≡ steps_of rs p s) where
  pub with-exit : (acts inner : List GAct.Act) (a : GAct.Act) → acts ≡ inner ++ a ∷ [] → plain_acts inner ≡ map (around (Inside c)) ms → plain_act a ≡ act (names.Step c Exit) 1 Done s → all_done rs ≡ true
      → plain_acts acts ≡ steps (Inside c rs) p s
  with-exit acts inner a e h k d =
      ap plain_acts e
      ∙ map-append plain_act inner (a ∷ [])
      ∙ ap (λ l. l ++ plain_act a ∷ []) (h ∙ ap (map (around (Inside c))) is)
      ∙ ap (λ z. map (around (Inside c)) (steps_of rs p s) ++ z ∷ []) k
      ∙ sym (ap (λ b. map (around (Inside c)) (steps_of rs p s) ++ (if b then act (names.Step c Exit) 1 Done s ∷ [] else [])) d)

  pub without-exit : (acts : List GAct.Act) → plain_acts acts ≡ map (around (Inside c)) ms → all_done rs ≡ false → plain_acts acts ≡ steps (Inside c rs) p s
  without-exit acts h d =
      h ∙ ap (map (around (Inside c))) is
      ∙ sym (append-nil (map (around (Inside c)) (steps_of rs p s)))
      ∙ sym (ap (λ b. map (around (Inside c)) (steps_of rs p s) ++ (if b then act (names.Step c Exit) 1 Done s ∷ [] else [])) d)

-- further stores of the types
pub more-stores : (ts : List Bool) (xs : List Move) (acts : List GAct.Act) (zs : List Move) → move_stores zs ≡ move_stores xs ++ act_stores acts → AllOfTypes ts (move_stores xs) → AllOfTypes ts (act_stores acts) → AllOfTypes ts (move_stores zs)
more-stores ts xs acts zs e h k = subst (AllOfTypes ts) (sym e) (both (move_stores xs) h)
  where
    both : (ds : List (List Datum)) → AllOfTypes ts ds → AllOfTypes ts (ds ++ act_stores acts)
    both [] h = k
    both (d ∷ ds) h = (h.0, both ds h.1)
