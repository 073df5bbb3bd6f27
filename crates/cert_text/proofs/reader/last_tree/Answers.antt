use Rattle.std.proofs.Common.{rules, ◌≡◌, map, [], sym, ap, ◌∙◌, refl}
use Rattle.std.proofs.lemmas.List.{map_push}
use Rattle.st_certificate.specs.Plain.{plain}
use Rattle.cert_text.specs.Tree.{last_tree}
use Rattle.st_certificate.proofs.Nodes.{plain-Absurd}
use Rattle.cert_text.proofs.Lasts.{last_tree-push}
use Rattle.cert_text.proofs.reader.last_tree.Goals as goal

pub returns-in-Some : goal.returns-in-Some
returns-in-Some c = sym (ap (λ xs. last_tree (map plain xs)) c.in-Some.ensures.items ∙ ap last_tree (map_push plain c.pop.new.self.items c.in-Some.tree) ∙ last_tree-push (map plain c.pop.new.self.items) (plain c.in-Some.tree))

pub returns-in-None : goal.returns-in-None
unfolding last_tree
returns-in-None c =
    let e : c.args.trees.now.items ≡ [] = search rules in
    rw (e, plain-Absurd) refl
