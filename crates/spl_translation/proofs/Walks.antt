-- The walk gives the transitions of all statements, in text order.
use Rattle.std.proofs.Common.{◌≡◌, ℕ, suc, ◌+◌, ◌<◌, List, [], ◌∷◌, ◌++◌, length, drop, get_or, refl, sym, ap, ◌∙◌, append_assoc}
use Rattle.std.specs.Prelude.{flat_map}
use Rattle.std.proofs.Math.Seq.{drop-cons}
use Rattle.std.proofs.Math.Numerals.{add-one}
use Rattle.transition_system.specs.Systems.{PlainTransition}
use Rattle.st_program.specs.declared.trees.Child as GChild
use Rattle.st_program.specs.Tree.{Statement, stated, Action, skip, if_then, if_else, while_do, block, select, cooperate, Statements, no_statement, statement, process, Processes, no_process, beside}
use Rattle.st_program.specs.Plain.{plain_stmts, plain_children}
use Rattle.st_program.specs.Spots.{entry, bodies, bodies_in, Spot, spots, spots_within, spots_along, spots_among, spots_inside}
use Rattle.st_program.proofs.Rows.{child_is}
use Rattle.control_facts.proofs.Onces.{flat_append}
use Rattle.spl_semantics.specs.Control.{starts, ends}
use Rattle.spl_translation.specs.Translation.{own_transitions, spot_transitions}
use Rattle.spl_translation.specs.Walk.{walk, walk_within, walk_along, walk_among, walk_inside}

both : (xs ys : List Spot) (a b : List PlainTransition) → flat_map spot_transitions xs ≡ a → flat_map spot_transitions ys ≡ b → flat_map spot_transitions (xs ++ ys) ≡ a ++ b
both xs ys a b e f = flat_append spot_transitions xs ys ∙ ap (λ z. z ++ flat_map spot_transitions ys) e ∙ ap (λ z. a ++ z) f

mutual
  walk_is : (s : Statement) (next c : ℕ) → flat_map spot_transitions (spots s next c) ≡ walk s next
  walk_is (stated o l a) next c = ap (λ z. own_transitions a o l next ++ z) (within_is a l next c)

  within_is : (a : Action) (l next c : ℕ) → flat_map spot_transitions (spots_within a l next c) ≡ walk_within a l next
  within_is (if_then t y) l next c = walk_is y next c
  within_is (if_else t y n) l next c = both (spots y next c) (spots n next (c + length (bodies y))) _ _ (walk_is y next c) (walk_is n next (c + length (bodies y)))
  within_is (while_do t b) l next c = walk_is b l c
  within_is (block ss) l next c = along_is ss next c
  within_is (select ss) l next c = among_is ss next c
  within_is (cooperate ps) l next c = inside_is ps c
  within_is skip l next c = refl
  within_is _ l next c = refl

  along_is : (ss : Statements) (next c : ℕ) → flat_map spot_transitions (spots_along ss next c) ≡ walk_along ss next
  along_is no_statement next c = refl
  along_is (statement s ss) next c = both (spots s (entry ss next) c) (spots_along ss next (c + length (bodies s))) _ _ (walk_is s (entry ss next) c) (along_is ss next (c + length (bodies s)))

  among_is : (ss : Statements) (next c : ℕ) → flat_map spot_transitions (spots_among ss next c) ≡ walk_among ss next
  among_is no_statement next c = refl
  among_is (statement s ss) next c = both (spots s next c) (spots_among ss next (c + length (bodies s))) _ _ (walk_is s next c) (among_is ss next (c + length (bodies s)))

  pub inside_is : (ps : Processes) (c : ℕ) → flat_map spot_transitions (spots_inside ps c) ≡ walk_inside ps
  inside_is no_process c = refl
  inside_is (beside (process ss end) ps) c = both (spots_along ss end (suc c)) (spots_inside ps (suc c + length (bodies_in ss))) _ _ (along_is ss end (suc c)) (inside_is ps (suc c + length (bodies_in ss)))

-- one more piece of a list
pub piece_more : {A : Type 0} (out out' a b all : List A) → out' ≡ out ++ a → out ++ (a ++ b) ≡ all → out' ++ b ≡ all
piece_more out out' a b all e h = ap (λ z. z ++ b) e ∙ append_assoc out a b ∙ h

child_at : (xs : List GChild.Child) (i : ℕ) (x : GChild.Child) → i < length xs → x ≡ get_or xs i x
    → plain_children (drop i xs) ≡ beside (process (plain_stmts (GChild.out-Child x).body.items) (GChild.out-Child x).end) (plain_children (drop (i + 1) xs))
child_at xs i x le e =
    ap plain_children (drop-cons xs i x le ∙ ap (λ z. z ∷ drop (suc i) xs) (sym e))
    ∙ ap (λ z. beside z (plain_children (drop (suc i) xs))) (child_is x)
    ∙ ap (λ j. beside (process (plain_stmts (GChild.out-Child x).body.items) (GChild.out-Child x).end) (plain_children (drop j xs))) (sym (add-one i))

pub start_more : (out all : List ℕ) (xs : List GChild.Child) (i : ℕ) (x : GChild.Child) (first : ℕ) → first ≡ entry (plain_stmts (GChild.out-Child x).body.items) (GChild.out-Child x).end → i < length xs → x ≡ get_or xs i x
    → out ++ starts (plain_children (drop i xs)) ≡ all → (out ++ first ∷ []) ++ starts (plain_children (drop (i + 1) xs)) ≡ all
start_more out all xs i x first q le e h =
    piece_more out _ (first ∷ []) _ all refl (ap (λ z. out ++ (z ∷ starts (plain_children (drop (i + 1) xs)))) q ∙ ap (λ z. out ++ starts z) (sym (child_at xs i x le e)) ∙ h)

pub end_more : (out all : List ℕ) (xs : List GChild.Child) (i : ℕ) (x : GChild.Child) → i < length xs → x ≡ get_or xs i x
    → out ++ ends (plain_children (drop i xs)) ≡ all → (out ++ (GChild.out-Child x).end ∷ []) ++ ends (plain_children (drop (i + 1) xs)) ≡ all
end_more out all xs i x le e h =
    piece_more out _ ((GChild.out-Child x).end ∷ []) _ all refl (ap (λ z. out ++ ends z) (sym (child_at xs i x le e)) ∙ h)

pub inside_more : (out out' all : List PlainTransition) (xs : List GChild.Child) (i : ℕ) (x : GChild.Child) → i < length xs → x ≡ get_or xs i x → out' ≡ out ++ walk_along (plain_stmts (GChild.out-Child x).body.items) (GChild.out-Child x).end
    → out ++ walk_inside (plain_children (drop i xs)) ≡ all → out' ++ walk_inside (plain_children (drop (i + 1) xs)) ≡ all
inside_more out out' all xs i x le e o h =
    piece_more out out' _ _ all o (ap (λ z. out ++ walk_inside z) (sym (child_at xs i x le e)) ∙ h)
