-- A net has as many nodes as there are items.
use Rattle.std.proofs.Common.{◌≡◌, ◌∙◌, ap, sym, subst, refl, ℕ, suc, ◌<◌, List, [], ◌∷◌, length, map, Option}
use Rattle.std.proofs.lemmas.List.{length-map}
use Rattle.st_form.specs.Formula.{Formula}
use Rattle.st_form.specs.Plain.{plain}
use Rattle.st_form.specs.declared.formulas.Form.{Form}
use Rattle.temporal_goals.specs.Plain.{plain_node}
use Rattle.temporal_goals.specs.declared.nets.Node.{Node}
use Rattle.response_rules.specs.Forms.{plain_chain, plain_fair, chain_nodes, fair_under, fair_nodes}

length-chain : (xs : List (Formula × ℕ)) → length (chain_nodes xs) ≡ length xs
length-chain [] = refl
length-chain (x ∷ xs) = ap suc (length-chain xs)

length-fair : (top group : ℕ) (xs : List (Formula × Option ℕ)) → length (fair_under top group xs) ≡ length xs
length-fair top group [] = refl
length-fair top group (x ∷ xs) = ap suc (length-fair top group xs)

pub few-chain : (nodes : List Node) (items : List (Form × ℕ)) (n : ℕ) → map plain_node nodes ≡ chain_nodes (plain_chain items) → length items < n → length nodes < n
few-chain nodes items n is few =
    let same : length nodes ≡ length items = sym (length-map nodes plain_node) ∙ ap length is ∙ length-chain (plain_chain items) ∙ length-map items (λ x. (plain x.0, x.1)) in
    subst (λ k. k < n) (sym same) few

pub few-fair : (group : ℕ) (nodes : List Node) (items : List (Form × Option ℕ)) (n : ℕ) → map plain_node nodes ≡ fair_nodes group (plain_fair items) → length items < n → length nodes < n
few-fair group nodes items n is few =
    let same : length nodes ≡ length items = sym (length-map nodes plain_node) ∙ ap length is ∙ length-fair _ group (plain_fair items) ∙ length-map items (λ x. (plain x.0, x.1)) in
    subst (λ k. k < n) (sym same) few
