-- What the texts of a run are that ends with status 0: each says more than the one before it.
use Rattle.std.specs.Prelude.{◌≡◌, ℕ, ◌^◌, ◌≤◌, List, [], ◌∷◌, length, map}
use Rattle.list_laws.specs.Each.{Each}
use Rattle.st_form.specs.Condition.{Implication}
use Rattle.st_form.specs.declared.conditions.TransName.{TransName}
use Rattle.st_certificate.specs.Tree.{Tree}
use Rattle.farkas_check.specs.Problem.{Setting}
use Rattle.search_laws.specs.Moves.{valid, decided}
use Rattle.temporal_goals.specs.Texts.{PlainStep}
use Rattle.vc_generator.specs.Building.{Draft}
use Rattle.vc_generator.specs.Refusing.{weights}
use Rattle.spl_semantics.specs.Runs.{State}
use Rattle.spl_parser.specs.ProgramTree as raw
use Rattle.spl_parser.specs.Theorems.{Spells}
use Rattle.spl_typer.specs.Programs.{Typed}
use Rattle.program_meaning.specs.Meaning.{Means}
use Rattle.program_rules.specs.Lawful.{IsLawful}
use Rattle.proof_grammar.specs.Grammar.{SpellsScript}
use Rattle.schedule_reader.specs.Schedules.{PlainSchedule}
use Rattle.schedule_grammar.specs.Theorems.{SpellsSchedule}
use Rattle.block_laws.specs.Checked.{whole_text}
use Rattle.block_laws.specs.Blocks.{HasBlocks}
use Rattle.step_run.specs.Conditions.{setting_of, words_over, drafts, conditions_of}
use Rattle.step_run.specs.Scheduled.{IsRunOfSchedule}

-- The text of a program is well formed: it spells a tree, within the limits of programs; this is what the tree stands
-- for; and it breaks no rule. So it is a program, of which the laws of meaning speak.
pub record IsProgram (pt : List ℕ) (p : Typed) : Type 0 where
  pub tree : raw.Program
  pub spelled : Spells pt tree
  pub means : Means tree p
  pub lawful : IsLawful tree p

-- and the text of a proof spells a script over the program
pub record IsScripted (pt qt : List ℕ) (p : Typed) (steps : List PlainStep) : Type 0 where
  pub program : IsProgram pt p
  pub script : SpellsScript (words_over p) qt steps

-- Conditions are within their limits: there are at most 20,000, each is made of parts with at most 2,048 atoms, and all
-- together weigh at most 2^24.
pub record AreWithin (ds : List Draft) : Type 0 where
  pub few : length ds ≤ 20000
  pub narrow : Each (λ d. d.wide ≤ 2048) ds
  pub light : weights (map (λ d. d.condition) ds) ≤ 2 ^ 24

-- and so are those of the script
pub record Reads (pt qt : List ℕ) (p : Typed) (steps : List PlainStep) : Type 0 where
  pub scripted : IsScripted pt qt p steps
  pub within : AreWithin (drafts p steps)

-- and the text of certificates holds a valid block for each condition, in order, with only blanks behind
pub record Checks (pt qt ct : List ℕ) (p : Typed) (steps : List PlainStep) : Type 0 where
  pub reads : Reads pt qt p steps
  pub blocks : HasBlocks (setting_of p) (conditions_of p steps) (whole_text ct)

-- the search finds these certificates
abbrev pub AreFound : Setting → List Implication → List Tree → Type 0
AreFound k [] ts = ts ≡ []
AreFound k (c ∷ cs) [] = ⊥
AreFound k (c ∷ cs) (t ∷ ts) = (decided k c.given c.shown ≡ valid t) × AreFound k cs ts

-- or, where there are no certificates, each condition is decided valid
pub record Decides (pt qt : List ℕ) (p : Typed) (steps : List PlainStep) (ts : List Tree) : Type 0 where
  pub reads : Reads pt qt p steps
  pub found : AreFound (setting_of p) (conditions_of p steps) ts

-- or the text of a schedule spells one, and this is the run of the program that it gives
pub record Traces (pt qt st : List ℕ) (p : Typed) (steps : List PlainStep) (s : PlainSchedule)
    (later : List (TransName × State)) : Type 0 where
  pub scripted : IsScripted pt qt p steps
  pub schedule : SpellsSchedule p.names p.processes st s
  pub run : IsRunOfSchedule p s later

-- texts of a program and of a proof are at most 2^22 bytes long, and those of certificates at most 2^28
abbrev pub AreShort : List ℕ → List ℕ → Type 0
AreShort pt qt = (length pt ≤ 4194304) × (length qt ≤ 4194304)

abbrev pub IsShort : List ℕ → Type 0
IsShort ct = length ct ≤ 268435456
