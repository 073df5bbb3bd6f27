-- The request that a question makes of `step`, over the names of the texts.
use Rattle.std.specs.Prelude.{List, [], ◌∷◌, ◌≡◌, Some, None, codes}
use Rattle.clap.specs.Words.{Text}
use Rattle.step_words.specs.Request.{PlainRequest, checks, verifies, proves, traces, finds}
use Rattle.step_report.specs.declared.refusals.FileRole.{FileRole}
use Rattle.step_run.specs.Request.{named_file}
use Rattle.milkhour_run.specs.Held.{told_in}
use Rattle.milkhour_run.specs.declared.held_texts.Texts.{Texts}
use Rattle.milkhour_run.specs.declared.question.Question.{Question}
use Rattle.milkhour_run.specs.declared.question.Question.TheVariants.{Check, Verify, Prove, Trace, Invariants}

-- it isn't unfolded where a question is named, since the plan of a command is a large term
unfoldable pub asked : Question → PlainRequest
asked Check = checks (codes "program") (codes "proof") (codes "third")
asked Verify = verifies (codes "program") (codes "proof")
asked Prove = proves (codes "program") (codes "proof")
asked Trace = traces (codes "program") (codes "proof") (codes "third")
asked Invariants = finds (codes "program")

-- the words that ask for it
abbrev pub command_words : Question → List Text
command_words Check = codes "check" ∷ codes "program" ∷ codes "proof" ∷ codes "third" ∷ []
command_words Verify = codes "verify" ∷ codes "program" ∷ codes "proof" ∷ []
command_words Prove = codes "prove" ∷ codes "program" ∷ codes "proof" ∷ []
command_words Trace = codes "trace" ∷ codes "program" ∷ codes "proof" ∷ codes "third" ∷ []
command_words Invariants = codes "invariants" ∷ codes "program" ∷ []

-- a text that the question asks for isn't there
abbrev pub LacksText : Texts → Question → Type 0
LacksText t q = (role : FileRole) × (name : Text) × (named_file (asked q) role ≡ Some name) × (told_in t name ≡ None)
