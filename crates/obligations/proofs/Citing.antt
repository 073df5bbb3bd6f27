-- The formulas that a step cites, one cited number after another.
use Rattle.std.proofs.Common.{◌≡◌, ◌∙◌, ap, sym, ℕ, List, ◌++◌, map, Option, Some, None, slice_get, append-nil}
use Rattle.std.specs.Option.{option_map}
use Rattle.std.proofs.lemmas.Option.{slice_get-map}
use Rattle.st_form.specs.Formula.{Formula}
use Rattle.temporal_goals.specs.Plain.{plain_goal, plain_step}
use Rattle.temporal_goals.specs.declared.scripts.Step.{Step}
use Rattle.script_laws.specs.Script.{lemma_in, lemma_of}

-- what may be cited of a step by its number
lemma-found : (earlier : List Step) (n : ℕ) (found : Option Step) → slice_get earlier n ≡ found → lemma_of (slice_get (map plain_step earlier) n) ≡ lemma_of (option_map plain_step found)
lemma-found earlier n found is = ap lemma_of (slice_get-map plain_step earlier n ∙ ap (option_map plain_step) is)

pub no_lemma : (earlier : List Step) (n : ℕ) (fs : List Formula) → slice_get earlier n ≡ None → fs ≡ fs ++ lemma_of (slice_get (map plain_step earlier) n)
no_lemma earlier n fs none = sym (append-nil fs) ∙ ap (λ gs. fs ++ gs) (sym (lemma-found earlier n None none))

pub own_lemma : (earlier : List Step) (n : ℕ) (s : Step) (old new : List Formula) → slice_get earlier n ≡ Some s → new ≡ old ++ lemma_in (plain_goal s.goal) → new ≡ old ++ lemma_of (slice_get (map plain_step earlier) n)
own_lemma earlier n s old new found grown = grown ∙ ap (λ gs. old ++ gs) (sym (lemma-found earlier n (Some s) found))
