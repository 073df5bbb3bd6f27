-- What the walk over a component has made.
use Rattle.std.proofs.Common.{◌≡◌, ℕ, true, List, [], ◌∷◌, ◌++◌, length, Option, sym, ap, ◌∙◌}
use Rattle.st_program.specs.declared.trees.Child as GChild
use Rattle.st_program.specs.declared.trees.Stmt as GStmt
use Rattle.st_program.specs.Plain.{plain_stmts, plain_child}
use Rattle.st_program.proofs.Rows.{child_is}
use Rattle.control_states.specs.declared.alternative.Alternative.{Alternative}
use Rattle.control_states.specs.Control.{ComponentFacts}
use Rattle.control_facts.specs.Walk.{choices_of, with_part, with_owner, walk_along, walk_component, facts_of}

pub component_walked : (x : GChild.Child) (around : Option (ℕ × ℕ)) (parts parts1 parts2 : List ComponentFacts) (owners owners1 owners2 : List ℕ) (n : ℕ) (alts : List Alternative) (body1 body2 : List GStmt.Stmt)
    → n ≡ length parts → body1 ≡ (GChild.out-Child x).body.items → body2 ≡ (GChild.out-Child x).body.items
    → alts ≡ choices_of (plain_stmts body1) (GChild.out-Child x).end
    → parts1 ≡ parts ++ record { alternatives = alts; around = around } ∷ []
    → facts_of parts2 owners1 ≡ walk_along true (plain_stmts body2) n (facts_of parts1 owners)
    → owners2 ≡ owners1 ++ n ∷ []
    → facts_of parts2 owners2 ≡ walk_component (plain_child x) around (facts_of parts owners)
component_walked x around parts parts1 parts2 owners owners1 owners2 n alts body1 body2 e b1 b2 a p w o =
    let body = (GChild.out-Child x).body.items in
    let end = (GChild.out-Child x).end in
    let part : ComponentFacts = record { alternatives = choices_of (plain_stmts body) end; around = around } in
    let same_part : parts1 ≡ parts ++ part ∷ [] =
    p ∙ ap (λ z. parts ++ record { alternatives = z; around = around } ∷ []) (a ∙ ap (λ z. choices_of (plain_stmts z) end) b1) in
    ap (facts_of parts2) o
    ∙ ap (with_owner n) (w ∙ ap (λ z. walk_along true (plain_stmts z) n (facts_of parts1 owners)) b2 ∙ ap (λ z. walk_along true (plain_stmts body) n (facts_of z owners)) same_part)
    ∙ ap (λ z. with_owner z (walk_along true (plain_stmts body) z (with_part part (facts_of parts owners)))) e
    ∙ ap (λ z. walk_component z around (facts_of parts owners)) (sym (child_is x))
