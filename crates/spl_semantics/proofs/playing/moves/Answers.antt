use Rattle.std.proofs.Common.{◌≡◌, ap, sym, ◌∙◌, subst, rules}
use Rattle.std.proofs.lemmas.List.Sorted.{IsNonDecreasingBy-from_sort_by_key, answers_always}
use Rattle.st_program.specs.Plain.{plain_children}
use Rattle.st_program.specs.Residuals.{plain_residuals}
use Rattle.spl_semantics.specs.Data.{store_of, types, StoreFits}
use Rattle.spl_semantics.specs.InOrder.{name_place}
use Rattle.spl_semantics.specs.Limits.{wide_rests}
use Rattle.spl_semantics.specs.Steps.{steps_of}
use Rattle.spl_semantics.proofs.ByName.{sorted-moves, sorted-fit}
use Rattle.spl_semantics.proofs.playing.moves.Goals as goal

pub returns-clause-moves : goal.returns-clause-moves
returns-clause-moves c =
    let p = plain_children c.args.program.now.processes in
    let rs : c.deref.result.now ≡ c.args.state.now.residuals.items = c.deref.ensures.value in
    let ds : c.deref-2.result.now ≡ c.args.state.now.store.items = c.deref-2.ensures.value in
    let fits = subst (StoreFits c.args.program.now.variables) (sym ds) c.requires.store in
    let r = c.in_ok-moves.ensures.steps fits in
    let same = ap (λ l. steps_of (plain_residuals l) p (store_of c.deref-2.result.now)) rs ∙ ap (λ d. steps_of (plain_residuals c.args.state.now.residuals.items) p (store_of d)) ds in (
      sym (ap (λ l. wide_rests (plain_residuals l) p (store_of c.deref-2.result.now)) rs ∙ ap (λ d. wide_rests (plain_residuals c.args.state.now.residuals.items) p (store_of d)) ds) ∙ r.0,
      sorted-moves _ c.in_ok-moves.moves.items c.sort_by_key.new.self.items (r.1 ∙ same) c.sort_by_key.ensures.permutation
          (IsNonDecreasingBy-from_sort_by_key (λ m. name_place m.name) _ c.in_ok-sort_by_key.ensures.sorted (λ a r q k. search rules))
          (c.sort_by_key.ensures.stable (λ m. name_place m.name) (answers_always _ _ _ (λ f a r g h. search rules))),
    )

pub returns-clause-fits : goal.returns-clause-fits
returns-clause-fits c =
    let ds : c.deref-2.result.now ≡ c.args.state.now.store.items = c.deref-2.ensures.value in
    let fits = subst (StoreFits c.args.program.now.variables) (sym ds) c.requires.store in
    sorted-fit c.args.program.now.variables (types c.deref-2.result.now) c.in_ok-moves.moves.items c.sort_by_key.new.self.items fits c.sort_by_key.ensures.permutation (c.in_ok-moves.ensures.stores fits)
