-- The law of texts of certificates.
use Rattle.std.specs.Prelude.{◌↔◌, ℕ, List}
use Rattle.st_form.specs.Condition.{Implication}
use Rattle.farkas_check.specs.Problem.{Setting}
use Rattle.block_laws.specs.Blocks.{HasBlocks}
use Rattle.block_laws.specs.Checked.{whole_text}
use Rattle.certificate_grammar.specs.Grammar.{AreCertificates}

-- a text is one of certificates for these conditions exactly where it holds a valid block for each of them
abbrev pub CertificatesAreBlocks : Type 0
CertificatesAreBlocks = (k : Setting) (cs : List Implication) (text : List ℕ) → AreCertificates k cs text ↔ HasBlocks k cs (whole_text text)
