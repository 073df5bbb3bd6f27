use Rattle.std.proofs.Common.{◌≡◌, ℕ, ◌<◌, ◌≤◌, List, [], All, length, None, ap, sym, ◌∙◌, subst, arith}
use Rattle.st_program.specs.Tree.{Processes}
use Rattle.st_program.specs.Plain.{plain_children}
use Rattle.st_program.specs.declared.trees.Child.{Child}
use Rattle.st_program.specs.Spots.{bodies_of}
use Rattle.st_program.specs.Locations.{InsidePlaced, inside_end}
use Rattle.control_states.specs.Control.{ComponentFacts, ControlFacts}
use Rattle.control_facts.specs.Alternatives.{control_of}
use Rattle.control_facts.specs.Walk.{walk_inside, facts_of}
use Rattle.control_facts.proofs.Strands.{walked_all, how_many_inside, fewer_inside}
use Rattle.control_facts.proofs.Owners.{owners_count, owners_named}
use Rattle.control_facts.proofs.walking.components.Goals as goal

found : (parts none_parts : List ComponentFacts) (owners none_owners : List ℕ) (xs ys : List Child)
    → facts_of parts owners ≡ walk_inside (plain_children xs) None (facts_of none_parts none_owners) → none_parts ≡ [] → none_owners ≡ [] → xs ≡ ys
    → InsidePlaced (plain_children ys) 0 → facts_of parts owners ≡ control_of (plain_children ys)
found parts none_parts owners none_owners xs ys h p o e placed =
    h
    ∙ ap (λ z. walk_inside (plain_children z) None (facts_of none_parts none_owners)) e
    ∙ ap (λ z. walk_inside (plain_children ys) None (facts_of z none_owners)) p
    ∙ ap (λ z. walk_inside (plain_children ys) None (facts_of [] z)) o
    ∙ walked_all (plain_children ys) placed

few : (k : ControlFacts) (ps : Processes) → k ≡ control_of ps → length k.components ≤ inside_end ps 0
few k ps e =
    let same : length k.components ≡ length (bodies_of ps) = ap (λ z. length z.components) e ∙ how_many_inside ps None 0 in
    let h = fewer_inside ps 0 in
    omega arith

pub new-requires : goal.new-requires
new-requires c =
    let v = c.program.inside in
    let e = found c.walk_children.new.parts.items c.new-parts.result.items c.walk_children.new.owners.items c.in_ok-owners.owners.items c.deref.result.now v.processes.items c.in_ok-walk_children.ensures c.new-parts.ensures.items c.in_ok-owners.ensures.items c.deref.ensures.value c.program.invariant.well.placed in
    let h = few (facts_of c.walk_children.new.parts.items c.walk_children.new.owners.items) (plain_children v.processes.items) e in
    let q = c.program.invariant.location_count in
    omega arith

abbrev Owners : ControlFacts → ℕ → Type 0
Owners k n = (length k.owners ≡ n) × All (λ c. c < length k.components) k.owners

owned : (k : ControlFacts) (ps : Processes) → k ≡ control_of ps → Owners k (inside_end ps 0)
owned k ps e = subst (λ z. Owners z (inside_end ps 0)) (sym e) (owners_count ps, owners_named ps)

pub returns-clause-facts : goal.returns-clause-facts
returns-clause-facts c =
    let v = c.program.inside in
    c.new.ensures
    ∙ found c.walk_children.new.parts.items c.new-parts.result.items c.walk_children.new.owners.items c.in_ok-owners.owners.items c.deref.result.now v.processes.items c.in_ok-walk_children.ensures c.new-parts.ensures.items c.in_ok-owners.ensures.items c.deref.ensures.value c.program.invariant.well.placed
    ∙ ap (λ z. control_of (plain_children z.processes)) c.program.view_is

pub returns-clause-each : goal.returns-clause-each
returns-clause-each c =
    let v = c.program.inside in
    let e = c.new.ensures ∙ found c.walk_children.new.parts.items c.new-parts.result.items c.walk_children.new.owners.items c.in_ok-owners.owners.items c.deref.result.now v.processes.items c.in_ok-walk_children.ensures c.new-parts.ensures.items c.in_ok-owners.ensures.items c.deref.ensures.value c.program.invariant.well.placed in
    (owned c.new.result (plain_children v.processes.items) e).0 ∙ sym c.program.invariant.location_count ∙ ap (λ z. z.locations) c.program.view_is

pub returns-clause-named : goal.returns-clause-named
returns-clause-named c =
    let v = c.program.inside in
    let e = c.new.ensures ∙ found c.walk_children.new.parts.items c.new-parts.result.items c.walk_children.new.owners.items c.in_ok-owners.owners.items c.deref.result.now v.processes.items c.in_ok-walk_children.ensures c.new-parts.ensures.items c.in_ok-owners.ensures.items c.deref.ensures.value c.program.invariant.well.placed in
    (owned c.new.result (plain_children v.processes.items) e).1
