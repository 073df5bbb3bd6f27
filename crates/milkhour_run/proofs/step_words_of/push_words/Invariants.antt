use Rattle.std.proofs.Common.{◌≡◌, ◌++◌, map, drop}
use Rattle.step_words.specs.Definition.{words_of}
use Rattle.milkhour_run.proofs.step_words_of.push_words.Given as goal

abbrev pub invariant-loop-word : goal.invariant-loop-word
invariant-loop-word l = (words_of l.words.items ++ map (λ word. word.now) (drop l.word-index l.fn.more) ≡ words_of l.fn.words.items ++ map (λ word. word.now) l.fn.more)
