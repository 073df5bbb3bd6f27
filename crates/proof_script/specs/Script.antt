-- The script that a text spells: steps up to the text's end, or the first fault.
use Rattle.std.specs.Prelude.{ℕ, List, [], ◌∷◌, ◌++◌, Result}
use Rattle.st_tokens.specs.Stream.{text_stream}
use Rattle.st_reading.specs.Reading.{Stop, gives, then_reads, at_end, goes, chain, size, Turn}
use Rattle.st_reading.specs.Breaches.{Breach, Reader, alone}
use Rattle.st_program.specs.Names.{Names}
use Rattle.transition_system.specs.Systems.{System}
use Rattle.temporal_goals.specs.Texts.{PlainStep}
use Rattle.proof_script.specs.declared.steps.Claim.{Claim}
use Rattle.proof_script.specs.Listing.{Setting}
use Rattle.proof_script.specs.Steps.{claim_in, earlier_of, step_of}

abbrev pub ended : List PlainStep → Reader (List PlainStep)
ended steps = then_reads at_end (λ e. gives steps)

module _ (g : Setting) where
  -- a further step; only the steps before it are known
  abbrev pub step_turn : Claim → ℕ → List PlainStep → Reader (Turn (List PlainStep) (List PlainStep))
  step_turn claim place steps = then_reads (step_of g claim (earlier_of steps)) (λ x. gives (goes (steps ++ x ∷ [])))

  -- { step }, and the text's end
  unfoldable pub steps_of : List PlainStep → Reader (List PlainStep)
  steps_of steps s = chain claim_in step_turn ended (size s) steps s

-- the script that a text spells, over the names and the transitions of a program, or the first fault
unfoldable pub script_spelled : Names → System → List ℕ → Result (List PlainStep) (Stop Breach)
script_spelled names system text = alone (steps_of (record { names = names; system = system }) [] (text_stream text))
