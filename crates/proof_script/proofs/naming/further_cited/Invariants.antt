use Rattle.st_tokens.specs.Stream.{stream}
use Rattle.st_reading.specs.declared.mark.Mark.TheVariants as marks
use Rattle.st_reading.specs.Reading.{size, gives, only, listing, further}
use Rattle.st_reading.proofs.Chains.{Running}
use Rattle.st_program.specs.Names.{as_bytes}
use Rattle.proof_script.specs.Steps.{cited_of}
use Rattle.proof_script.proofs.naming.further_cited.Given as goal

abbrev pub invariant-chain : goal.invariant-chain
invariant-chain l =
    Running (only marks.Comma) (listing (cited_of (as_bytes l.earlier.entries))) gives l.numbers.items (stream l.tokens) (stream l.fn.tokens) (further marks.Comma (cited_of (as_bytes l.earlier.entries)) l.fn.numbers.items (stream l.fn.tokens))

abbrev pub decreases-chain : goal.decreases-chain
decreases-chain l = size (stream l.tokens)
