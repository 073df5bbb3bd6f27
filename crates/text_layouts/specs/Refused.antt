-- Why a text isn't laid out.
use Rattle.std.specs.Prelude.{◌≡◌, ℕ, List, Option, Some, None}
use Rattle.st_tokens.specs.declared.kind.TokenFault.{TokenFault}
use Rattle.st_tokens.specs.Stream.{Stream, ends, breaks, more, text_stream}
use Rattle.text_layouts.specs.declared.fault.LayoutFault.{LayoutFault}
use Rattle.text_layouts.specs.declared.fault.LayoutFault.TheVariants as faults

-- the fault that breaks a token list off, if one does
abbrev pub first_fault : Stream → Option TokenFault
first_fault (ends place) = None
first_fault (breaks f) = Some f
first_fault (more t s) = first_fault s

-- the tokens of the text break off with this fault
abbrev pub IsRefused : List ℕ → LayoutFault → Type 0
IsRefused text (faults.Token f) = first_fault (text_stream text) ≡ Some f
IsRefused text faults.Memory = Unit {0}
