use Rattle.std.proofs.Common.{◌≡◌, ◌++◌, [], sym, ap, ◌∙◌}
use Rattle.std.proofs.lemmas.List.{append-nil}
use Rattle.std.specs.Option.{option_copied}
use Rattle.st_program.specs.Tree.{stated}
use Rattle.st_program.specs.Plain.{plain_stmt, plain_stmts, plain_kind}
use Rattle.st_program.proofs.Rows.{kind-Block}
use Rattle.control_facts.specs.Walk.{heads, heads_first}
use Rattle.control_facts.proofs.Heads.{first_heads, no_heads, on_same}
use Rattle.control_facts.proofs.choices.+heads.Goals as goal

pub push_heads-returns-in-Some : goal.push_heads-returns-in-Some
push_heads-returns-in-Some t c =
    let s = c.args.stmt.now in
    let found : heads (stated s.occ s.loc (plain_kind s.kind)) ≡ heads (plain_stmt c.in-Some.first.now) =
    ap (λ k. heads (stated s.occ s.loc (plain_kind k))) c.in-Block.is
    ∙ ap (λ a. heads (stated s.occ s.loc a)) (kind-Block c.in-Block.items)
    ∙ ap (λ xs. heads_first (plain_stmts xs)) (sym c.deref.ensures.value)
    ∙ first_heads c.deref.result.now c.in-Some.first.now (sym c.first.ensures.value ∙ ap option_copied c.in-Some.is) in
    on_same c.push_heads.result c.push_heads.new.out.items c.args.out.now.items _ _ found c.push_heads.ensures

pub push_heads-returns-in-None : goal.push_heads-returns-in-None
push_heads-returns-in-None t c =
    let s = c.args.stmt.now in
    let found : heads (stated s.occ s.loc (plain_kind s.kind)) ≡ [] =
    ap (λ k. heads (stated s.occ s.loc (plain_kind k))) c.in-Block.is
    ∙ ap (λ a. heads (stated s.occ s.loc a)) (kind-Block c.in-Block.items)
    ∙ ap (λ xs. heads_first (plain_stmts xs)) (sym c.deref.ensures.value)
    ∙ no_heads c.deref.result.now (sym c.first.ensures.value ∙ ap option_copied c.in-None.is) in
    sym (ap (λ z. c.args.out.now.items ++ z) found ∙ append-nil c.args.out.now.items)
