use Rattle.std.proofs.Common.{◌++◌, List, ℕ, slice_range, length-append, ap, ◌∙◌, arith}
use Rattle.std.proofs.lemmas.List.Edits.{length-between}
use Rattle.tree_writing.proofs.blocks.push_copy.Goals as goal

pub returns : goal.returns
returns c =
    let text = c.args.text.now.items in
    let p = c.args.place in
    let part = slice_range text p.from p.to in
    let whole = c.saturating_add.ensures in
    let copied = c.deref-2.ensures.value ∙ c.in_ok-part.ensures.items ∙ ap (λ (l : List ℕ). slice_range l p.from p.to) c.deref.ensures.value in (
      c.in_ok-push_text.ensures ∙ ap (λ (l : List ℕ). text ++ l) copied,
      omega (arith, c.requires.0, c.requires.1, c.if-saturating_add-gt-MOST.false, whole, c.len.ensures, length-append text part, length-between text p.from p.to c.requires.1),
    )
