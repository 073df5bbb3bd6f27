-- The files that a request names. A workload names none: its texts are made.
use Rattle.std.specs.Prelude.{ℕ, List, ◌≡◌, Option, Some, None}
use Rattle.step_report.specs.declared.refusals.FileRole.{FileRole}
use Rattle.step_report.specs.declared.refusals.FileRole.TheVariants.{Program, Proof, Certificates, Schedule}
use Rattle.step_words.specs.Request.{PlainRequest, checks, verifies, proves, makes, traces, finds}

-- the file that a request names for a part in the run
abbrev pub named_file : PlainRequest → FileRole → Option (List ℕ)
named_file (checks p q c) Program = Some p
named_file (checks p q c) Proof = Some q
named_file (checks p q c) Certificates = Some c
named_file (checks p q c) Schedule = None
named_file (verifies p q) Program = Some p
named_file (verifies p q) Proof = Some q
named_file (verifies p q) Certificates = None
named_file (verifies p q) Schedule = None
named_file (proves p q) Program = Some p
named_file (proves p q) Proof = Some q
named_file (proves p q) Certificates = None
named_file (proves p q) Schedule = None
named_file (makes n) role = None
named_file (traces p q s) Program = Some p
named_file (traces p q s) Proof = Some q
named_file (traces p q s) Certificates = None
named_file (traces p q s) Schedule = Some s
named_file (finds p) Program = Some p
named_file (finds p) Proof = None
named_file (finds p) Certificates = None
named_file (finds p) Schedule = None

-- what the words ask for names this file
abbrev pub NamesFile : Option PlainRequest → FileRole → List ℕ → Type 0
NamesFile None role name = ⊥
NamesFile (Some request) role name = named_file request role ≡ Some name
